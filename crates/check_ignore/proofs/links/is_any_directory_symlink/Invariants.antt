use Rattle.std.proofs.Common.{◌≡◌, Some, drop}
use Rattle.worktree_fs.specs.Kept.{KeepsTreeAndListCounts}
use Rattle.worktree_fs.specs.Tree.{Names}
use Rattle.check_ignore.specs.Links.{is_any_directory_symlink}
use Rattle.check_ignore.proofs.links.is_any_directory_symlink.Given as goal

abbrev pub invariant-loop-directory : goal.invariant-loop-directory
invariant-loop-directory g l =
    record {
      same : (t : Names) → g.W.Worktree.told l.fn.worktree ≡ Some t
          → is_any_directory_symlink t l.root (drop l.directory-index l.directories) ≡ is_any_directory_symlink t l.root l.directories;
      unfaulted : g.W.Worktree.faults l.worktree ≡ g.W.Worktree.faults l.fn.worktree;
      keeps : KeepsTreeAndListCounts g.W.Worktree l.fn.worktree l.worktree;
    }
