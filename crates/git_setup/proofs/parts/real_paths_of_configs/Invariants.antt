use Rattle.std.proofs.Common.{◌≡◌, ◌++◌, Some, drop, map}
use Rattle.worktree_fs.specs.Kept.{KeepsTreeAndListCounts}
use Rattle.worktree_fs.specs.Tree.{Names}
use Rattle.git_setup.specs.Found.{config_by_real_path}
use Rattle.git_setup.proofs.parts.real_paths_of_configs.Given as goal

abbrev pub invariant-loop-file : goal.invariant-loop-file
invariant-loop-file g l =
    record {
      same : (t : Names) → g.W.Worktree.told l.fn.worktree ≡ Some t → l.configs.items ++ map (config_by_real_path t) (drop l.file-index l.files) ≡ map (config_by_real_path t) l.files;
      unfaulted : g.W.Worktree.faults l.worktree ≡ g.W.Worktree.faults l.fn.worktree;
      keeps : KeepsTreeAndListCounts g.W.Worktree l.fn.worktree l.worktree;
    }
