use Rattle.std.proofs.Common.{length, ◌≡◌, Some}
use Rattle.gitbase_core.specs.Path.{components}
use Rattle.worktree_fs.specs.Kept.{KeepsTreeAndListCounts}
use Rattle.worktree_fs.specs.Tree.{Names}
use Rattle.git_setup.specs.Conversions.{has_gitattributes_along_path}
use Rattle.git_setup.proofs.conversions.has_gitattributes_along_path.Given as goal

abbrev pub invariant-loop-name : goal.invariant-loop-name
invariant-loop-name g l =
    record {
      same : (t : Names) → g.W.Worktree.told l.fn.worktree ≡ Some t → has_gitattributes_along_path t l.full (components l.left) ≡ has_gitattributes_along_path t l.root (components l.directory);
      unfaulted : g.W.Worktree.faults l.worktree ≡ g.W.Worktree.faults l.fn.worktree;
      keeps : KeepsTreeAndListCounts g.W.Worktree l.fn.worktree l.worktree;
    }

abbrev pub decreases-loop-name : goal.decreases-loop-name
decreases-loop-name g l = length (components l.left)
