-- Lists of what files say of attributes.
--
-- A file says two things: what holds of paths, in the order of its lines, and what the macros stand for that it defines, of which the
-- last line of a name counts. Git knows one macro without any file, `binary`.
use Rattle.std.specs.Prelude.{ℕ, true, List, [], ◌∷◌, Option, Some, None, codes}
use Rattle.std.specs.List.{filter_map}
use Rattle.std.specs.BTreeMap.{insert_entry}
use Rattle.std.specs.Cmp.Lexicographic.{slice_cmp}
use Rattle.std.specs.Ordering.{nat_cmp}
use Rattle.glob_rules.specs.declared.attributes.line.Head.{Head}
use Rattle.glob_rules.specs.declared.attributes.line.Head.TheVariants.{Paths, Macro}
use Rattle.glob_rules.specs.declared.attributes.line.Line.{Line}
use Rattle.glob_rules.specs.declared.attributes.list.PathLine.{PathLine}
use Rattle.glob_rules.specs.declared.attributes.word.Assigned.{Assigned}
use Rattle.glob_rules.specs.AttributeLines.{lines}

-- A macro: its name, and what it stands for.
abbrev pub MacroDefinition : Type 0
MacroDefinition = List ℕ × List Assigned

-- A list: its lines that speak of paths, its macros in the order of their names, where it was read, and the directory that it is for.
pub record AttributeList : Type 0 where
  pub lines : List PathLine
  pub macros : List MacroDefinition
  pub source : List ℕ
  pub base : List ℕ

-- a line as one that speaks of paths
abbrev pub path_line_unless_macro : ℕ → List Assigned → Head → Option PathLine
path_line_unless_macro number said (Paths rule) = Some (record { number = number; pattern = rule; assignments = said })
path_line_unless_macro number said (Macro name) = None

-- the lines that speak of paths
abbrev pub lines_about_paths : List Line → List PathLine
lines_about_paths lines = filter_map (λ (line : Line). path_line_unless_macro line.number line.assignments line.head) lines

-- the macros with that of a line, which takes the place of one of its name
abbrev pub macros_with_definition_of_head : List MacroDefinition → List Assigned → Head → List MacroDefinition
macros_with_definition_of_head macros said (Paths rule) = macros
macros_with_definition_of_head macros said (Macro name) = insert_entry (slice_cmp nat_cmp) macros name said

-- the macros with those of lines, in their order
abbrev pub macros_with_definitions_of_lines : List MacroDefinition → List Line → List MacroDefinition
macros_with_definitions_of_lines macros [] = macros
macros_with_definitions_of_lines macros (line ∷ lines) = macros_with_definitions_of_lines (macros_with_definition_of_head macros line.assignments line.head) lines

-- the list of lines that were read there, for a directory
abbrev pub attribute_list_from_lines : List Line → List ℕ → List ℕ → AttributeList
attribute_list_from_lines lines source base = record { lines = lines_about_paths lines; macros = macros_with_definitions_of_lines [] lines; source = source; base = base }

-- what git knows without any file
abbrev pub builtin_attributes_text : List ℕ
builtin_attributes_text = codes "[attr]binary -diff -merge -text"

-- the list of that
abbrev pub builtin_attribute_list : AttributeList
builtin_attribute_list = attribute_list_from_lines (lines true builtin_attributes_text) (codes "[builtin]") []
