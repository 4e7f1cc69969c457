use Rattle.std.proofs.Common.{◌≡◌, [], Some, drop}
use Rattle.worktree_fs.specs.Kept.{KeepsTreeAndListCounts}
use Rattle.worktree_fs.specs.Tree.{Names}
use Rattle.tizhagor.specs.ExcludeFiles.{rules_of_files_after_text}
use Rattle.tizhagor.proofs.exclude_files.read_rules_of_named_files.Given as goal

abbrev pub invariant-loop-name : goal.invariant-loop-name
invariant-loop-name g l =
    record {
      same : (t : Names) → g.W.Worktree.told l.fn.worktree ≡ Some t
          → rules_of_files_after_text t l.root l.text (drop l.name-index l.names) ≡ rules_of_files_after_text t l.root [] l.names;
      unfaulted : g.W.Worktree.faults l.worktree ≡ g.W.Worktree.faults l.fn.worktree;
      keeps : KeepsTreeAndListCounts g.W.Worktree l.fn.worktree l.worktree;
    }
