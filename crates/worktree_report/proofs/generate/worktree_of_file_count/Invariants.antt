use Rattle.std.proofs.Common.{◌≡◌, false}
use Rattle.worktree_report.specs.Generate.{tree_of_file_count}
use Rattle.worktree_report.proofs.generate.worktree_of_file_count.Given as goal

abbrev pub invariant-loop-number : goal.invariant-loop-number
invariant-loop-number l = record { tree : l.tree.tree ≡ tree_of_file_count l.number; composes : l.tree.composes ≡ false; faults : l.tree.faults ≡ 0 }
