use Rattle.std.proofs.Common.{◌≡◌, drop}
use Rattle.std.specs.FinMap.{empty}
use Rattle.worktree_report.specs.SetupFiles.{objects_with_blobs_added}
use Rattle.worktree_report.proofs.setup.files.store_from_blobs.Given as goal

abbrev pub invariant-loop-blob : goal.invariant-loop-blob
invariant-loop-blob l = objects_with_blobs_added l.store (drop l.blob-index l.blobs) ≡ objects_with_blobs_added empty l.blobs
