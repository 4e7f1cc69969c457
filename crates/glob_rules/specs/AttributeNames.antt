-- The names of attributes, each once, in the order in which they are first seen: line by line, and in a line the name of a macro
-- before those of the words.
use Rattle.std.specs.Prelude.{◌≡◌, ◌⊎◌, ℕ, List, [], ◌∷◌, ◌++◌, map, Result, OnOk, OnErr, if◌then◌else◌}
use Rattle.std.specs.List.{flat_map}
use Rattle.gitbase_core.specs.declared.out_of_memory.OutOfMemory.{OutOfMemory}
pub use Rattle.gitbase_core.specs.Among.{is_text_in_list, HaveSameTexts}
use Rattle.glob_rules.specs.declared.attributes.line.Head.{Head}
use Rattle.glob_rules.specs.declared.attributes.line.Head.TheVariants.{Paths, Macro}
use Rattle.glob_rules.specs.declared.attributes.line.Line.{Line}
use Rattle.glob_rules.specs.declared.attributes.word.Assigned.{Assigned}

-- the names with one more, unless it is among them
abbrev pub names_with_name_added_once : List (List ℕ) → List ℕ → List (List ℕ)
names_with_name_added_once names name = if is_text_in_list name names then names else names ++ name ∷ []

-- the names with these, in this order
abbrev pub names_with_names_added_once : List (List ℕ) → List (List ℕ) → List (List ℕ)
names_with_names_added_once names [] = names
names_with_names_added_once names (name ∷ more) = names_with_names_added_once (names_with_name_added_once names name) more

-- the names of which words speak
abbrev pub names_of_assignments : List Assigned → List (List ℕ)
names_of_assignments assignments = map (λ (a : Assigned). a.name) assignments

-- the name of a macro
abbrev pub macro_names_of_head : Head → List (List ℕ)
macro_names_of_head (Paths rule) = []
macro_names_of_head (Macro name) = name ∷ []

-- the names of which a line speaks
abbrev pub attribute_names_of_line : Line → List (List ℕ)
attribute_names_of_line line = macro_names_of_head line.head ++ names_of_assignments line.assignments

-- the names of which lines speak
abbrev pub attribute_names_of_lines : List Line → List (List ℕ)
attribute_names_of_lines lines = flat_map attribute_names_of_line lines

-- of these names the first ones were seen, and no others
abbrev pub AddsSomeFirstNames : List (List ℕ) → List (List ℕ) → List (List ℕ) → Type 0
AddsSomeFirstNames names [] seen = seen ≡ names
AddsSomeFirstNames names (name ∷ more) seen = (seen ≡ names) ⊎ AddsSomeFirstNames (names_with_name_added_once names name) more seen

-- What a call that sees these names does to those that were seen before: it sees all of them, and where it is refused some.
pub record AddsNamesOrPartOnError {T : Type 0} (result : Result T OutOfMemory) (before given after : List (List ℕ)) : Type 0 where
  pub all : OnOk result (after ≡ names_with_names_added_once before given)
  pub some : OnErr result (AddsSomeFirstNames before given after)
