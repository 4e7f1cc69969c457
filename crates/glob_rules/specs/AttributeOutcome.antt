-- Which attributes are asked for, and what was found of each.
--
-- All names of a collection are asked for, or a selection of names, which may have a name more than once. Nothing is kept of other names.
use Rattle.std.specs.Prelude.{ℕ, Bool, true, false, List, [], ◌∷◌, map, Option, None, is_some, option_copied, bytes_eq, if◌then◌else◌}
use Rattle.std.specs.Borrow.{Bor}
use Rattle.std.specs.List.{list_any}
use Rattle.glob_rules.specs.declared.Case.{Case}
use Rattle.glob_rules.specs.declared.attributes.Assignment.{Assignment}
use Rattle.glob_rules.specs.declared.attributes.outcome.Row.{Row}
use Rattle.glob_rules.specs.declared.attributes.word.Assigned.{Assigned}
use Rattle.glob_rules.specs.Attributes.{AttributeList}
use Rattle.glob_rules.specs.AttributeValues.{standing_assignments_of_path, state_of_name}

-- What is asked for, in its order, with what was found; and whether it is a selection.
pub record OutcomeRows : Type 0 where
  pub rows : List Row
  pub is_selection : Bool

-- nothing is asked for
abbrev pub empty_outcome : OutcomeRows
empty_outcome = record { rows = []; is_selection = false }

-- a name of which nothing was found
abbrev pub row_without_state : List ℕ → Row
row_without_state name = record { name = name; state = None }

-- the names that are asked for
abbrev pub names_of_rows : List Row → List (List ℕ)
names_of_rows rows = map (λ (row : Row). row.name) rows

-- these are asked for, and nothing was found
abbrev pub outcome_without_states : Bool → List (List ℕ) → OutcomeRows
outcome_without_states is_selection names = record { rows = map row_without_state names; is_selection = is_selection }

-- the selection is asked for anew, or the names of a collection
abbrev pub outcome_reset_to_selection_or_names : OutcomeRows → List (List ℕ) → OutcomeRows
outcome_reset_to_selection_or_names answers names = if answers.is_selection then outcome_without_states true (names_of_rows answers.rows) else outcome_without_states false names

-- what was found of a name that is asked for
abbrev pub found_state_of_name : List ℕ → List Row → Option Assignment
found_state_of_name name [] = None
found_state_of_name name (row ∷ rows) = if bytes_eq name row.name then row.state else found_state_of_name name rows

-- what stands of a name that is asked for
abbrev pub row_with_standing_state : List Assigned → Row → Row
row_with_standing_state standing row = record { name = row.name; state = state_of_name row.name standing }

-- the attributes of a path that are asked for, by lists of which the lowest is the first
abbrev pub outcome_filled_for_path : List AttributeList → List ℕ → Option Bool → Case → OutcomeRows → OutcomeRows
outcome_filled_for_path lists path is_dir case answers =
    record { rows = map (row_with_standing_state (standing_assignments_of_path lists path is_dir case)) answers.rows; is_selection = answers.is_selection }

-- something was found of a name that is asked for
abbrev pub is_any_state_found : List Row → Bool
is_any_state_found rows = list_any (λ (row : Row). is_some row.state) rows

-- a pair of references to a name and to what was found of it, as a row
abbrev pub row_from_references : Bor (List ℕ) × Option (Bor Assignment) → Row
row_from_references pair = record { name = pair.0.now; state = option_copied pair.1 }
