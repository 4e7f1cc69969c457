use Rattle.std.proofs.Common.{◌≡◌}
use Rattle.worktree_report.specs.Generate.{tracked_paths_of_file_count}
use Rattle.worktree_report.proofs.generate.tracked_paths_of_file_count.Given as goal

abbrev pub invariant-loop-number : goal.invariant-loop-number
invariant-loop-number l = l.paths.keys ≡ tracked_paths_of_file_count l.number
