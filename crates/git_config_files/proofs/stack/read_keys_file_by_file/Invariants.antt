use Rattle.std.proofs.Common.{◌≡◌, [], Some, drop}
use Rattle.worktree_fs.specs.Kept.{KeepsTreeAndListCounts}
use Rattle.worktree_fs.specs.Tree.{Names}
use Rattle.git_config_files.specs.Files.{keys_of_files_behind_done}
use Rattle.git_config_files.proofs.stack.read_keys_file_by_file.Given as goal

abbrev pub invariant-loop-file : goal.invariant-loop-file
invariant-loop-file g l =
    record {
      same : (t : Names) → g.W.Worktree.told l.fn.worktree ≡ Some t → keys_of_files_behind_done t l.known l.done (drop l.file-index l.files) ≡ keys_of_files_behind_done t l.known [] l.files;
      unfaulted : g.W.Worktree.faults l.worktree ≡ g.W.Worktree.faults l.fn.worktree;
      keeps : KeepsTreeAndListCounts g.W.Worktree l.fn.worktree l.worktree;
    }
