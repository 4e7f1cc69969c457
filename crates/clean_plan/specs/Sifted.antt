-- What is known of the entries of a report once each was looked at.
use Rattle.std.specs.Prelude.{◌≡◌, ◌<◌, ◌≤◌, ℕ, List, [], ◌∷◌, ◌++◌, Bool, true, false, length, if◌then◌else◌}
use Rattle.std.specs.List.{list_any}
use Rattle.gitbase_core.specs.Path.{is_beneath_directory}
use Rattle.dir_classify.specs.declared.entry.Entry.{Entry}
use Rattle.clean_plan.specs.declared.sift.Sifted.{Sifted}
use Rattle.clean_plan.specs.Asked.{CleanPlanInputs}
use Rattle.clean_plan.specs.Paths.{is_text_in_list, borrowed_byte_strings}
use Rattle.clean_plan.specs.Plans.{paths_of_removable_entries}
use Rattle.clean_plan.specs.Removable.{is_entry_removable_by_itself}
use Rattle.clean_plan.specs.Whole.{blocks_whole_removal}

-- these are the directories that have an entry in their way
abbrev pub AreBlockedDirectories : CleanPlanInputs → List Entry → List (List ℕ) → Type 0
AreBlockedDirectories asked entries spoiled = (d : List ℕ) → is_text_in_list d spoiled ≡ list_any (blocks_whole_removal asked d) entries

-- the paths of the entries that may go, and the directories that have an entry in their way
pub record AreRemovableAndBlockedPaths (asked : CleanPlanInputs) (entries : List Entry) (paths spoiled : List (List ℕ)) : Type 0 where
  pub paths_are : paths ≡ paths_of_removable_entries asked entries
  pub spoiled_are : AreBlockedDirectories asked entries spoiled

-- the paths that may go, and whether any is spoiled, are those of the entries
abbrev pub HoldsRemovableAndBlockedPaths : CleanPlanInputs → List Entry → Sifted → Type 0
HoldsRemovableAndBlockedPaths asked entries sifted = AreRemovableAndBlockedPaths asked entries (borrowed_byte_strings sifted.removable.items) sifted.spoiled

-- with the path of an entry, if it may go
abbrev pub paths_with_entry_if_removable : CleanPlanInputs → Entry → List (List ℕ) → List (List ℕ)
paths_with_entry_if_removable asked e paths = if is_entry_removable_by_itself asked e then paths ++ e.rela_path ∷ [] else paths

-- What is known of the directories above a path that was looked at: those with fewer bytes than so many have an entry in their way,
-- and the path specs take out none of the others.
pub record KnowsBlockedAncestorsOfPath (out : List ℕ → Bool) (spoiled : List (List ℕ)) (path : List ℕ) (added : ℕ) : Type 0 where
  pub within : added ≤ length path
  pub spoiled_below : (d : List ℕ) → is_beneath_directory d path ≡ true → length d < added → is_text_in_list d spoiled ≡ true
  pub none_out : (d : List ℕ) → is_beneath_directory d path ≡ true → added ≤ length d → out d ≡ false
