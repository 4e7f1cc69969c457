-- What is read from one place, and what is counted of it.
use Rattle.std.specs.Prelude.{◌≡◌, ◌⊎◌, ◌≤◌, ℕ, ◌+◌, ◌++◌, ◌∷◌, Bool, true, false, List, Option, Some, Result, Err, IfErr, OnOk}
use Rattle.gitbase_core.specs.declared.find.Find.{Ghosts as FindOf}
use Rattle.worktree_fs.specs.declared.worktree.Worktree.{Ghosts as WorktreeOf}
use Rattle.worktree_fs.specs.Causes.{CountIncreasedOrSaturated}
use Rattle.worktree_fs.specs.Kept.{KeepsTreeAndListCounts, KeepsStoredObjects}
use Rattle.worktree_stack.specs.declared.error.AtPathError.{AtPathError}
use Rattle.worktree_stack.specs.declared.statistics.Statistics.{Statistics}
use Rattle.worktree_stack.specs.Refused.{HoldsByRulesError, IsPlaceAmong, IsReadingRefused}
use Rattle.gitbase_core.specs.Objects.{ObjectsById, object_by_id}
use Rattle.worktree_fs.specs.Tree.{Names, look}
use Rattle.worktree_stack.specs.declared.error.RulesWhy.{RulesWhy}
use Rattle.worktree_stack.specs.declared.error.RulesWhy.TheVariants as whys
use Rattle.worktree_stack.specs.declared.error.BlobWhy.{BlobWhy}
use Rattle.worktree_stack.specs.declared.error.BlobWhy.TheVariants as blob_whys
use Rattle.worktree_stack.specs.declared.statistics.RulesStatistics.{RulesStatistics}
use Rattle.worktree_stack.specs.Reading.{TreeAndObjects, Tells, RulesPlace, in_tree, in_store, list_bytes_of_file_lookup, list_bytes_of_blob, of_file, of_blob, RulesKind, RulesReading, places_of_readings, rules_texts_of_readings, is_read_without_refusal}
use Rattle.gitbase_core.specs.Causes.{saturating_increment as one_more}
use Rattle.worktree_stack.specs.Counted.{rules_counts_after_file, rules_counts_after_blob, rules_counts_after_places, tried_files_after_places, with_tried_files_counted, number_of_worktree_places, number_of_store_places, rules_counts_of_kind, places_of_reading_if_of_kind, rules_counts_after_readings, tried_files_after_readings, number_of_files_in_readings, number_of_blobs_in_readings}

-- a file that was looked for and is refused
abbrev pub IsRefusalOfFile : Option Names → Type 0 → List ℕ → Bool → RulesWhy → Type 0
IsRefusalOfFile told Failed path follow whys.Link = (follow ≡ false) × ((t : Names) → told ≡ Some t → list_bytes_of_file_lookup path (look t path follow) ≡ Err (of_file path whys.Link))
IsRefusalOfFile told Failed path follow whys.LinkLimit = (t : Names) → told ≡ Some t → list_bytes_of_file_lookup path (look t path follow) ≡ Err (of_file path whys.LinkLimit)
IsRefusalOfFile told Failed path follow whys.Special = (t : Names) → told ≡ Some t → list_bytes_of_file_lookup path (look t path follow) ≡ Err (of_file path whys.Special)
IsRefusalOfFile told Failed path follow whys.Fault = Failed

-- a blob that was asked for and is refused
abbrev pub IsRefusalOfBlob : Option ObjectsById → Type 0 → List ℕ → BlobWhy → Type 0
IsRefusalOfBlob holds Failed id blob_whys.Missing = (o : ObjectsById) → holds ≡ Some o → list_bytes_of_blob id (object_by_id o id) ≡ Err (of_blob id blob_whys.Missing)
IsRefusalOfBlob holds Failed id blob_whys.NotABlob = (o : ObjectsById) → holds ≡ Some o → list_bytes_of_blob id (object_by_id o id) ≡ Err (of_blob id blob_whys.NotABlob)
IsRefusalOfBlob holds Failed id blob_whys.Fault = Failed

-- What was counted of a file that was looked for and not refused.
pub record CountsTriedRulesFile (told : Option Names) (path : List ℕ) (follow : Bool) (old new : RulesStatistics) : Type 0 where
  pub tried : new.tried_pattern_files ≡ one_more old.tried_pattern_files
  pub buffers : new.patterns_buffers ≡ old.patterns_buffers
  pub files : old.pattern_files ≤ new.pattern_files
  pub most : new.pattern_files ≤ old.pattern_files + 1
  pub exact : (t : Names) → told ≡ Some t → new ≡ rules_counts_after_file old (look t path follow)

-- What was counted of a blob that was found.
pub record CountsFoundBlob (holds : Option ObjectsById) (id : List ℕ) (old new : RulesStatistics) : Type 0 where
  pub tried : new.tried_pattern_files ≡ old.tried_pattern_files
  pub files : new.pattern_files ≡ old.pattern_files
  pub buffers : old.patterns_buffers ≤ new.patterns_buffers
  pub most : new.patterns_buffers ≤ old.patterns_buffers + 1
  pub exact : (o : ObjectsById) → holds ≡ Some o → new ≡ rules_counts_after_blob old (object_by_id o id)

-- What was counted of places that were asked one after the other.
pub record CountsTriedPlaces (told : Option Names) (holds : Option ObjectsById) (places : List RulesPlace) (old new : RulesStatistics) : Type 0 where
  pub tried : new.tried_pattern_files ≡ tried_files_after_places old.tried_pattern_files places
  pub buffers : old.patterns_buffers ≤ new.patterns_buffers
  pub most_buffers : new.patterns_buffers ≤ old.patterns_buffers + number_of_store_places places
  pub files : old.pattern_files ≤ new.pattern_files
  pub most_files : new.pattern_files ≤ old.pattern_files + number_of_worktree_places places
  pub exact : (s : TreeAndObjects) → Tells told holds s → new ≡ rules_counts_after_places s old places

-- what was counted of places that were asked in vain, by a refusal: nothing for a file, for a blob the file before it; and all of this,
-- or the whole reading, for want of memory
abbrev pub CountsRefusedPlaces : Option Names → Option ObjectsById → List RulesPlace → RulesStatistics → RulesStatistics → AtPathError → Type 0
CountsRefusedPlaces told holds places old new =
    HoldsByRulesError (λ path why. new ≡ old) (λ id why. new ≡ with_tried_files_counted places old)
    ((new ≡ old) ⊎ ((new ≡ with_tried_files_counted places old) ⊎ CountsTriedPlaces told holds places old new))

-- ---- readings

-- What was counted of readings of one kind among some.
pub record CountsReadingsOfKind (told : Option Names) (holds : Option ObjectsById) (kind : RulesKind) (readings : List RulesReading) (old new : RulesStatistics) : Type 0 where
  pub tried : new.tried_pattern_files ≡ tried_files_after_readings kind old.tried_pattern_files readings
  pub buffers : old.patterns_buffers ≤ new.patterns_buffers
  pub most_buffers : new.patterns_buffers ≤ old.patterns_buffers + number_of_blobs_in_readings kind readings
  pub files : old.pattern_files ≤ new.pattern_files
  pub most_files : new.pattern_files ≤ old.pattern_files + number_of_files_in_readings kind readings
  pub exact : (s : TreeAndObjects) → Tells told holds s → new ≡ rules_counts_after_readings kind s old readings

-- what was counted of readings that were done one after the other
abbrev pub CountsAllReadings : Option Names → Option ObjectsById → List RulesReading → Statistics → Statistics → Type 0
CountsAllReadings told holds readings old new = (kind : RulesKind) → CountsReadingsOfKind told holds kind readings (rules_counts_of_kind kind old) (rules_counts_of_kind kind new)

-- Of some readings the first ones were done, the next one was refused, which asks places of which this holds, and so much was counted
-- of it; those behind it were not done.
pub record StopsAtRefusedReading (told : Option Names) (holds : Option ObjectsById) (readings : List RulesReading) (old new : Statistics)
    (Asks : List RulesPlace → Type 0) (Tried : List RulesPlace → RulesStatistics → RulesStatistics → Type 0) : Type 0 where
  pub done : List RulesReading
  pub refused : RulesReading
  pub left : List RulesReading
  pub before : Statistics
  pub split : readings ≡ done ++ refused ∷ left
  pub read : CountsAllReadings told holds done old before
  pub asks : Asks refused.places
  pub tried : (kind : RulesKind) → Tried (places_of_reading_if_of_kind kind refused) (rules_counts_of_kind kind before) (rules_counts_of_kind kind new)

-- a file is looked for in some place
pub record IsFileAmongPlaces (path : List ℕ) (places : List RulesPlace) : Type 0 where
  pub follow : Bool
  pub place : IsPlaceAmong places (in_tree path follow)

-- a blob is looked for in some place
pub record IsBlobAmongPlaces (id : List ℕ) (places : List RulesPlace) : Type 0 where
  pub path : List ℕ
  pub place : IsPlaceAmong places (in_store path id)

-- readings were refused at that of a file, of which nothing is counted
abbrev pub StopsReadingAtFile : Option Names → Option ObjectsById → List ℕ → List RulesReading → Statistics → Statistics → Type 0
StopsReadingAtFile told holds path readings old new = StopsAtRefusedReading told holds readings old new (IsFileAmongPlaces path) (λ places before after. after ≡ before)

-- at that of a blob, of which the file before it is counted
abbrev pub StopsReadingAtBlob : Option Names → Option ObjectsById → List ℕ → List RulesReading → Statistics → Statistics → Type 0
StopsReadingAtBlob told holds id readings old new = StopsAtRefusedReading told holds readings old new (IsBlobAmongPlaces id) (λ places before after. after ≡ with_tried_files_counted places before)

-- for want of memory: nothing of the reading is counted, its file, or all of it
abbrev pub StopsReadingForMemory : Option Names → Option ObjectsById → List RulesReading → Statistics → Statistics → Type 0
StopsReadingForMemory told holds readings old new =
    StopsAtRefusedReading told holds readings old new (λ places. Unit {0})
    (λ places before after. (after ≡ before) ⊎ ((after ≡ with_tried_files_counted places before) ⊎ CountsTriedPlaces told holds places before after))

-- what was counted of readings that were refused, by the refusal
abbrev pub StopsReadingByError : Option Names → Option ObjectsById → List RulesReading → Statistics → Statistics → AtPathError → Type 0
StopsReadingByError told holds readings old new =
    HoldsByRulesError (λ path why. StopsReadingAtFile told holds path readings old new) (λ id why. StopsReadingAtBlob told holds id readings old new) (StopsReadingForMemory told holds readings old new)

-- ---- what readings answer

-- What readings that are done one after the other, where a worktree was `w0` and is `w1`, and a store `o0` and is `o1`, answer and leave.
pub record AnswersReadings {W F T : Type 0} (w : WorktreeOf W) (f : FindOf F) (w0 w1 : W) (o0 o1 : F)
    (readings : List RulesReading) (old new : Statistics) (result : Result T AtPathError) : Type 0 where
  pub read : (s : TreeAndObjects) → Tells (w.told w0) (f.holds o0) s → OnOk result (is_read_without_refusal (rules_texts_of_readings s readings) ≡ true)
  pub refused : IfErr result (IsReadingRefused (w.told w0) (f.holds o0) (CountIncreasedOrSaturated (w.faults w0) (w.faults w1)) (CountIncreasedOrSaturated (f.faults o0) (f.faults o1)) (places_of_readings readings) (λ s. rules_texts_of_readings s readings))
  pub counted : OnOk result (CountsAllReadings (w.told w0) (f.holds o0) readings old new)
  pub tried : IfErr result (StopsReadingByError (w.told w0) (f.holds o0) readings old new)
  -- The worktree is asked where a file is looked for, and the store where a blob is.
  pub untouched : number_of_worktree_places (places_of_readings readings) ≡ 0 → w1 ≡ w0
  pub store_untouched : number_of_store_places (places_of_readings readings) ≡ 0 → o1 ≡ o0
  pub leaves : KeepsTreeAndListCounts w w0 w1
  pub leaves_store : KeepsStoredObjects f o0 o1
  pub reads : w.reads w1 ≤ w.reads w0 + number_of_worktree_places (places_of_readings readings)
