-- What holds of whatever a walk gives.
use Rattle.std.specs.Prelude.{◌≡◌, true, false, List, is_none}
use Rattle.dir_classify.specs.Chosen.{WalkOptions}
use Rattle.dir_classify.specs.Evidence.{PathEvidence}
use Rattle.dir_walk.specs.Collapsed.{all_have_fold_of_their_status}
use Rattle.dir_walk.specs.Deleted.{any_fold_loses_protected_directory, any_entry_mixes_precious}
use Rattle.dir_walk.specs.Distinct.{HasDistinctPaths}
use Rattle.dir_walk.specs.Emissions.{Emission}
use Rattle.dir_walk.specs.Guarded.{any_entry_hides_tracked_or_repository}
use Rattle.dir_walk.specs.Walked.{WalkResult}

-- of what a whole walk gives, and of its entries that are shown, in whatever order
pub record IsSafeToReport (o : WalkOptions) (ev : PathEvidence) (w : WalkResult) (entries : List Emission) : Type 0 where
  -- No path stands twice.
  pub once : HasDistinctPaths entries
  -- Beneath no entry lies a leaf that was met and is tracked or a repository of its own, unless it is pruned.
  pub guarded : any_entry_hides_tracked_or_repository entries w.met ≡ false
  -- What is emitted besides a folded directory lies beneath one that was folded with the same status.
  pub accounted : all_have_fold_of_their_status w.folds entries ≡ true
  -- In deletion no leaf beneath an entry is precious unless all of them are, the pruned ones aside.
  pub precious : is_none o.for_deletion ≡ false → any_entry_mixes_precious entries w.met ≡ false
  -- No folded directory is the one that must not go, or lies above it, where that is entered.
  pub blocked : any_fold_loses_protected_directory ev w.folds w.entered ≡ false
