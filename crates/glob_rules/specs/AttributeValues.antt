-- Which attributes a path has.
--
-- Lists speak from the highest down, a list from its last line up, and a line from its last word back. The first that is said of an
-- attribute stands, `!a` too, and what is said of it later is not heard. Where an attribute comes to be set and is
-- a macro, what the macro stands for is said at once, from its last word back, before anything else. What a macro stands for
-- is what the highest list says that defines it, wherever the macro is set.
--
-- A macro may set macros, also itself. That ends: the name of a macro that was set stands, so it is set only once, and macros
-- stand in one another no deeper than there are macros.
use Rattle.std.specs.Prelude.{ℕ, zero, suc, ◌+◌, Bool, true, false, List, [], ◌∷◌, ◌++◌, length, reverse, Option, Some, None, unwrap_or, bytes_eq, if◌then◌else◌}
use Rattle.std.specs.List.{list_any, flat_map}
use Rattle.std.specs.BTreeMap.{is_at}
use Rattle.std.specs.Cmp.Lexicographic.{slice_cmp}
use Rattle.std.specs.Map.{lookup}
use Rattle.std.specs.Ordering.{nat_cmp}
use Rattle.glob_rules.specs.declared.Case.{Case}
use Rattle.glob_rules.specs.declared.attributes.Assignment.{Assignment}
use Rattle.glob_rules.specs.declared.attributes.Assignment.TheVariants.{Set, Unset, Unspecified, Value}
use Rattle.glob_rules.specs.declared.attributes.list.PathLine.{PathLine}
use Rattle.glob_rules.specs.declared.attributes.word.Assigned.{Assigned}
use Rattle.glob_rules.specs.Rule.{last_component, strip_directory_prefix, rule_matches_name_or_relative_path}
use Rattle.glob_rules.specs.Attributes.{AttributeList, MacroDefinition}

-- what a line says of a path with this last component, which reads `relative` from the directory of the line's list
abbrev pub line_assignments_for_path : List ℕ → Option (List ℕ) → Option Bool → Case → PathLine → List Assigned
line_assignments_for_path name relative is_dir case line = if rule_matches_name_or_relative_path line.pattern name relative is_dir case then line.assignments else []

-- what lines of a list say of a path
abbrev pub lines_assignments_for_path : List ℕ → Option (List ℕ) → Option Bool → Case → List PathLine → List Assigned
lines_assignments_for_path name relative is_dir case lines = flat_map (line_assignments_for_path name relative is_dir case) lines

-- what a list says of a path
abbrev pub list_assignments_for_path : List ℕ → Option Bool → Case → AttributeList → List Assigned
list_assignments_for_path path is_dir case list = lines_assignments_for_path (last_component path) (strip_directory_prefix list.base path) is_dir case list.lines

-- what lists, the lowest first, say of a path, in the order in which it is heard
abbrev pub path_assignments_reversed : List AttributeList → List ℕ → Option Bool → Case → List Assigned
path_assignments_reversed lists path is_dir case = reverse (flat_map (list_assignments_for_path path is_dir case) lists)

-- the first if there is one, else the other
abbrev pub first_body_or_other : Option (List Assigned) → Option (List Assigned) → Option (List Assigned)
first_body_or_other None other = other
first_body_or_other (Some body) other = Some body

-- what the macro of a name stands for by a list
abbrev pub macro_body_in_list : List ℕ → List MacroDefinition → Option (List Assigned)
macro_body_in_list name macros = lookup (is_at (slice_cmp nat_cmp name)) macros

-- what the macro of a name stands for, by the first of lists that defines it
abbrev pub macro_body_in_first_list : List ℕ → List AttributeList → Option (List Assigned)
macro_body_in_first_list name [] = None
macro_body_in_first_list name (list ∷ lists) = first_body_or_other (macro_body_in_list name list.macros) (macro_body_in_first_list name lists)

-- it is set
abbrev pub is_set_state : Assignment → Bool
is_set_state Set = true
is_set_state Unset = false
is_set_state Unspecified = false
is_set_state (Value text) = false

-- what is said where an attribute comes to have this state, by lists of which the first is the highest
abbrev pub macro_assignments_if_set : List AttributeList → Assigned → List Assigned
macro_assignments_if_set lists a = if is_set_state a.state then reverse (unwrap_or (macro_body_in_first_list a.name lists) []) else []

-- the state of a name among those that stand
abbrev pub state_of_name : List ℕ → List Assigned → Option Assignment
state_of_name name [] = None
state_of_name name (a ∷ standing) = if bytes_eq name a.name then Some a.state else state_of_name name standing

-- something stands of the name
abbrev pub has_assigned_name : List ℕ → List Assigned → Bool
has_assigned_name name standing = list_any (λ (a : Assigned). bytes_eq name a.name) standing

-- What stands once `said` is said after what stands, where `into` says the same of what follows.
abbrev pub apply_assignments_with_expansion : (List Assigned → List Assigned → List Assigned) → List AttributeList → List Assigned → List Assigned → List Assigned
apply_assignments_with_expansion into lists standing [] = standing
apply_assignments_with_expansion into lists standing (a ∷ said) =
    apply_assignments_with_expansion into lists (if has_assigned_name a.name standing then standing else into (standing ++ a ∷ []) (macro_assignments_if_set lists a)) said

-- the same, where macros stand in one another no deeper than `depth`
unfoldable pub apply_assignments_to_depth : ℕ → List AttributeList → List Assigned → List Assigned → List Assigned
apply_assignments_to_depth zero lists standing said = apply_assignments_with_expansion (λ standing body. standing) lists standing said
apply_assignments_to_depth (suc depth) lists standing said = apply_assignments_with_expansion (apply_assignments_to_depth depth lists) lists standing said

-- how many macros lists define
abbrev pub count_of_macros : List AttributeList → ℕ
count_of_macros [] = 0
count_of_macros (list ∷ lists) = length list.macros + count_of_macros lists

-- what stands of a path, by lists of which the lowest is the first
abbrev pub standing_assignments_of_path : List AttributeList → List ℕ → Option Bool → Case → List Assigned
standing_assignments_of_path lists path is_dir case =
    let highest_first = reverse lists in
    apply_assignments_to_depth (count_of_macros highest_first) highest_first [] (path_assignments_reversed lists path is_dir case)

-- The state of an attribute of a path, by lists of which the lowest is the first; none where nothing is said of it.
abbrev pub attribute_state_at_path : List AttributeList → List ℕ → Option Bool → Case → List ℕ → Option Assignment
attribute_state_at_path lists path is_dir case name = state_of_name name (standing_assignments_of_path lists path is_dir case)
