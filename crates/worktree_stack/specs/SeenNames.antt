-- The names of attributes that a lookup sees: those of the files that it reads, each once, in the order in which they are first seen.
use Rattle.std.specs.Prelude.{◌≡◌, ℕ, Bool, true, List, [], ◌∷◌, ◌++◌, Option, Some, None, Result, OnOk, OnErr}
use Rattle.std.specs.List.{list_all, flat_map}
use Rattle.gitbase_core.specs.Objects.{ObjectsById}
use Rattle.gitbase_core.specs.Path.{is_empty}
use Rattle.glob_rules.specs.AttributeLines.{lines}
use Rattle.glob_rules.specs.AttributeNames.{AddsSomeFirstNames, is_text_in_list, attribute_names_of_lines, names_of_assignments, names_with_names_added_once}
use Rattle.glob_rules.specs.Attributes.{AttributeList, MacroDefinition}
use Rattle.glob_rules.specs.declared.attributes.list.PathLine.{PathLine}
use Rattle.worktree_fs.specs.Paths.{slash_joined_components}
use Rattle.worktree_fs.specs.PathStack.{DelegateCall, push_directory, push, pop_directory}
use Rattle.worktree_fs.specs.Tree.{Names}
use Rattle.worktree_stack.specs.declared.error.AtPathError.{AtPathError}
use Rattle.worktree_stack.specs.Checkout.{DirectoryOutcome}
use Rattle.worktree_stack.specs.Making.{CheckoutLookupOptions, outcome_of_pushed_component}
use Rattle.worktree_stack.specs.Reading.{TreeAndObjects, Tells, RulesText, attribute_places_of_directory, bytes_of_rules_text, first_rules_text_of_places, places_of_info_file, rules_text_or_none}
use Rattle.worktree_stack.specs.Setup.{AttributesSetup, HeldAttributeLists, StackSetup, held_attribute_lists, seen_attribute_names}

-- ---- the names of what is read

-- the names of which a text speaks, line by line; none where there is no text
abbrev pub attribute_names_of_text : Bool → Option RulesText → List (List ℕ)
attribute_names_of_text macros text = attribute_names_of_lines (lines macros (bytes_of_rules_text text))

-- the names of a directory's own `.gitattributes`
abbrev pub gitattributes_names_of_directory : StackSetup → AttributesSetup → TreeAndObjects → List ℕ → List (List ℕ)
gitattributes_names_of_directory made setup s d = attribute_names_of_text (is_empty d) (rules_text_or_none (first_rules_text_of_places s (attribute_places_of_directory made setup d)))

-- the names of the info file, which is read with the root
abbrev pub info_file_names_at_root : Option (List ℕ) → TreeAndObjects → List ℕ → List (List ℕ)
info_file_names_at_root None s d = []
info_file_names_at_root (Some path) s [] = attribute_names_of_text true (rules_text_or_none (first_rules_text_of_places s (places_of_info_file path)))
info_file_names_at_root (Some path) s (b ∷ bs) = []

-- both by an attribute state, if there is one
abbrev pub gitattributes_names_of_setup : StackSetup → Option AttributesSetup → TreeAndObjects → List ℕ → List (List ℕ)
gitattributes_names_of_setup made None s d = []
gitattributes_names_of_setup made (Some setup) s d = gitattributes_names_of_directory made setup s d

abbrev pub info_file_names_of_setup : Option AttributesSetup → TreeAndObjects → List ℕ → List (List ℕ)
info_file_names_of_setup None s d = []
info_file_names_of_setup (Some setup) s d = info_file_names_at_root setup.info s d

-- the names of a directory: those of its own file, and behind the root's those of the info file
abbrev pub attribute_names_of_setup : StackSetup → Option AttributesSetup → TreeAndObjects → List ℕ → List (List ℕ)
attribute_names_of_setup made setup s d = gitattributes_names_of_setup made setup s d ++ info_file_names_of_setup setup s d

-- the names of a directory
abbrev pub attribute_names_of_directory : StackSetup → TreeAndObjects → List (List ℕ) → List (List ℕ)
attribute_names_of_directory made s names = attribute_names_of_setup made made.attributes s (slash_joined_components names)

-- the names of the directories that some calls push
abbrev pub attribute_names_read_by_calls : StackSetup → TreeAndObjects → List DelegateCall → List (List ℕ)
attribute_names_read_by_calls made s [] = []
attribute_names_read_by_calls made s (push_directory path ∷ calls) = attribute_names_of_setup made made.attributes s path ++ attribute_names_read_by_calls made s calls
attribute_names_read_by_calls made s (push path is_last ∷ calls) = attribute_names_read_by_calls made s calls
attribute_names_read_by_calls made s (pop_directory ∷ calls) = attribute_names_read_by_calls made s calls

-- the same where each directory is read in the tree that it was made in
abbrev pub attribute_names_read_in_checkout : StackSetup → CheckoutLookupOptions → ObjectsById → DirectoryOutcome → List DelegateCall → List (List ℕ)
attribute_names_read_in_checkout made way objects p [] = []
attribute_names_read_in_checkout made way objects p (push path is_last ∷ calls) = attribute_names_read_in_checkout made way objects (outcome_of_pushed_component way p path is_last) calls
attribute_names_read_in_checkout made way objects p (push_directory path ∷ calls) = attribute_names_of_setup made made.attributes (record { tree = p.tree; objects = objects }) path ++ attribute_names_read_in_checkout made way objects p calls
attribute_names_read_in_checkout made way objects p (pop_directory ∷ calls) = attribute_names_read_in_checkout made way objects p calls

-- ---- the names of what is held

-- the names of which a list speaks: those of its lines, and each macro with the names that it stands for
abbrev pub attribute_names_of_list : AttributeList → List (List ℕ)
attribute_names_of_list list = flat_map (λ (line : PathLine). names_of_assignments line.assignments) list.lines ++ flat_map (λ (macro : MacroDefinition). macro.0 ∷ names_of_assignments macro.1) list.macros

-- every name of some lists is among the names that were seen
unfoldable pub are_all_list_names_seen : List (List ℕ) → List AttributeList → Bool
are_all_list_names_seen names lists = list_all (λ (list : AttributeList). list_all (λ name. is_text_in_list name names) (attribute_names_of_list list)) lists

-- an attribute state, if there is one, has seen every name of the lists that it holds
abbrev pub HasSeenAllListNames : Option HeldAttributeLists → Type 0
HasSeenAllListNames held = are_all_list_names_seen (seen_attribute_names held) (held_attribute_lists held) ≡ true

-- ---- what a lookup sees

-- Some names were seen, and others came behind them, each of them once.
pub record AppendsNamesOnce (before after : List (List ℕ)) : Type 0 where
  pub more : List (List ℕ)
  pub behind : after ≡ before ++ more
  pub once : after ≡ names_with_names_added_once before more

-- What a call does to the names that were seen. Whatever is told they stay seen, and every name of a list that is held is among them.
-- Over what is told those come that are read: all of them where the call is answered, the first ones where it is refused.
pub record AppendsReadNamesAsSeen {T : Type 0} (told : Option Names) (holds : Option ObjectsById) (read : TreeAndObjects → List (List ℕ)) (old new : Option HeldAttributeLists) (result : Result T AtPathError) : Type 0 where
  pub added : AppendsNamesOnce (seen_attribute_names old) (seen_attribute_names new)
  pub known : HasSeenAllListNames old → HasSeenAllListNames new
  pub all : (s : TreeAndObjects) → Tells told holds s → OnOk result (seen_attribute_names new ≡ names_with_names_added_once (seen_attribute_names old) (read s))
  pub some : (s : TreeAndObjects) → Tells told holds s → OnErr result (AddsSomeFirstNames (seen_attribute_names old) (read s) (seen_attribute_names new))
