-- What stands of what was said so far, with a table of its states by their names.
use Rattle.std.specs.Prelude.{◌≡◌, ℕ, Bool, List, [], ◌∷◌, ◌++◌, map, reverse, Option, option_map, if◌then◌else◌}
use Rattle.std.specs.Borrow.{Bor}
use Rattle.std.specs.Cmp.Lexicographic.{slice_cmp}
use Rattle.std.specs.List.{flat_map}
use Rattle.std.specs.Map.{lookup}
use Rattle.std.specs.Ordering.{nat_cmp, is_eq}
use Rattle.glob_rules.specs.declared.Case.{Case}
use Rattle.glob_rules.specs.declared.attributes.Assignment.{Assignment}
use Rattle.glob_rules.specs.declared.attributes.word.Assigned.{Assigned}
use Rattle.glob_rules.specs.Attributes.{AttributeList}
use Rattle.glob_rules.specs.AttributeValues.{state_of_name, has_assigned_name, apply_assignments_to_depth, count_of_macros}

-- what references refer to
abbrev pub dereferenced_assignments : List (Bor Assigned) → List Assigned
dereferenced_assignments said = map (λ (one : Bor Assigned). one.now) said

-- the state under a name in a table of references
abbrev pub state_in_reference_table : List (Bor (List ℕ) × Bor Assignment) → List ℕ → Option Assignment
state_in_reference_table states name = option_map (λ (state : Bor Assignment). state.now) (lookup (λ (key : Bor (List ℕ)). is_eq (slice_cmp nat_cmp name key.now)) states)

-- the table has the state of each name
abbrev pub TableHasAllStates : List (Bor (List ℕ) × Bor Assignment) → List Assigned → Type 0
TableHasAllStates states standing = (name : List ℕ) → state_in_reference_table states name ≡ state_of_name name standing

-- what stands once this is said
abbrev pub standing_with_assignment_if_first : List Assigned → Assigned → List Assigned
standing_with_assignment_if_first standing a = if has_assigned_name a.name standing then standing else standing ++ a ∷ []

-- what stands once this is said, by lists of which the lowest is the first
abbrev pub standing_after_assignments : List AttributeList → List Assigned → List Assigned → List Assigned
standing_after_assignments lists standing said = let highest_first = reverse lists in apply_assignments_to_depth (count_of_macros highest_first) highest_first standing said

-- the words of slices, the last of the last at first
abbrev pub reversed_words_of_slices : List (Bor (List Assigned)) → List Assigned
reversed_words_of_slices slices = reverse (flat_map (λ (slice : Bor (List Assigned)). slice.now) slices)

-- What is asked of lists: a path, what is known of its kind, and how letters compare.
pub record AttributeQuestion : Type 0 where
  pub path : List ℕ
  pub is_dir : Option Bool
  pub case : Case
