-- What is read for a directory, as a tree and a store of objects give it.
--
-- A directory is read once for each kind of rules that a stack tells, attributes before ignore rules, and at the root the info file
-- is read once more behind the root's own attributes. Each of these readings asks one place after the other: a file of the
-- worktree, a blob. The first that has a list gives it. A file and a blob have one; nothing and a directory have none, and the next
-- place is asked. A link that is not to be followed, one that leads along more links than are followed, and a node of another
-- kind are refused, and so is an id under which there is nothing, or no blob. The first reading that is refused refuses the directory.
use Rattle.std.specs.Prelude.{◌≡◌, ◌++◌, ℕ, Bool, true, false, List, [], ◌∷◌, Option, Some, None, Result, Ok, Err}
use Rattle.std.specs.List.{flat_map}
use Rattle.gitbase_core.specs.Objects.{Object, ObjectsById, object_by_id, blob, other as other_object}
use Rattle.gitbase_core.specs.Path.{is_empty, path_joined_with_slash}
use Rattle.worktree_fs.specs.Tree.{Names, LookupResult, look, found, absent, too_many_links, file, link, directory, other}
use Rattle.worktree_fs.specs.Paths.{slash_joined_components, root_joined_with_relative, all_prefixes_shortest_first, all_but_last}
use Rattle.glob_rules.specs.AttributeLines.{lines}
use Rattle.glob_rules.specs.Attributes.{AttributeList, attribute_list_from_lines}
use Rattle.glob_rules.specs.Ignore.{RulesList, entries, empty_rules_list}
use Rattle.worktree_stack.specs.declared.error.RulesWhy.{RulesWhy}
use Rattle.worktree_stack.specs.declared.error.RulesWhy.TheVariants as whys
use Rattle.worktree_stack.specs.declared.error.BlobWhy.{BlobWhy}
use Rattle.worktree_stack.specs.declared.error.BlobWhy.TheVariants as blob_whys
use Rattle.worktree_stack.specs.declared.attributes_source.Source.{Source as AttributesSource}
use Rattle.worktree_stack.specs.declared.attributes_source.Source.TheVariants as attributes_sources
use Rattle.worktree_stack.specs.declared.ignore_source.Source.{Source}
use Rattle.worktree_stack.specs.declared.ignore_source.Source.TheVariants.{IdMapping, WorktreeThenIdMappingIfNotSkipped}
use Rattle.worktree_stack.specs.declared.order.Order.{Order}
use Rattle.worktree_stack.specs.declared.order.Order.TheVariants.{Nowhere, Worktree, Store, WorktreeThenStore}
use Rattle.worktree_stack.specs.Setup.{AttributesSetup, Setup, StackSetup, gitattributes_file_name, global_attribute_lists, blob_id_mapped_to_path}
use Rattle.worktree_stack.specs.Excludes.{ExcludeRulebook}

-- ---- the places

-- Where rules are looked for: in the worktree at a path, a last link followed or not; in the blob under an id, which a path is
-- mapped to.
pub data RulesPlace : Type 0 where
  in_tree : List ℕ → Bool → RulesPlace
  in_store : List ℕ → List ℕ → RulesPlace

-- the path that the rules of a place are said to come from
abbrev pub path_of_rules_place : RulesPlace → List ℕ
path_of_rules_place (in_tree path follow) = path
path_of_rules_place (in_store path id) = path

-- where ignore rules are looked for, by their source, the whole path of the rules file, its path, and the blob it is mapped to
abbrev pub ignore_places_by_source : Source → List ℕ → List ℕ → Option (List ℕ) → List RulesPlace
ignore_places_by_source IdMapping whole path None = []
ignore_places_by_source IdMapping whole path (Some id) = in_store path id ∷ []
ignore_places_by_source WorktreeThenIdMappingIfNotSkipped whole path None = in_tree whole true ∷ []
ignore_places_by_source WorktreeThenIdMappingIfNotSkipped whole path (Some id) = in_tree whole false ∷ in_store path id ∷ []

-- where the attributes of a directory are looked for; a file of the worktree is never followed
abbrev pub attribute_places_by_source : AttributesSource → List ℕ → List ℕ → Option (List ℕ) → List RulesPlace
attribute_places_by_source attributes_sources.IdMapping whole path None = []
attribute_places_by_source attributes_sources.IdMapping whole path (Some id) = in_store path id ∷ []
attribute_places_by_source attributes_sources.IdMappingThenWorktree whole path None = in_tree whole false ∷ []
attribute_places_by_source attributes_sources.IdMappingThenWorktree whole path (Some id) = in_store path id ∷ []
attribute_places_by_source attributes_sources.WorktreeThenIdMapping whole path None = in_tree whole false ∷ []
attribute_places_by_source attributes_sources.WorktreeThenIdMapping whole path (Some id) = in_tree whole false ∷ in_store path id ∷ []

-- the places that are asked in an order
abbrev pub places_by_read_order : Order → List ℕ → List ℕ → List RulesPlace
places_by_read_order Nowhere whole path = []
places_by_read_order (Worktree follow) whole path = in_tree whole follow ∷ []
places_by_read_order (Store id) whole path = in_store path id ∷ []
places_by_read_order (WorktreeThenStore id) whole path = in_tree whole false ∷ in_store path id ∷ []

-- ---- the readings

-- What is read: what is said of attributes, or rules that exclude paths.
pub data RulesKind : Type 0 where
  of_attributes : RulesKind
  of_ignore : RulesKind

-- One reading: of what kind, and where that is looked for, one place after the other.
pub record RulesReading : Type 0 where
  pub kind : RulesKind
  pub places : List RulesPlace

-- where the ignore rules of a directory are looked for, by what an exclude state was made with
abbrev pub ignore_places_of_directory : StackSetup → Setup → List ℕ → List RulesPlace
ignore_places_of_directory made setup d =
    let path : List ℕ = path_joined_with_slash d setup.file_name in
    ignore_places_by_source setup.source (root_joined_with_relative made.root path) path (blob_id_mapped_to_path made.mappings path)

-- where the `.gitattributes` of a directory is looked for, by what an attribute state was made with
abbrev pub attribute_places_of_directory : StackSetup → AttributesSetup → List ℕ → List RulesPlace
attribute_places_of_directory made setup d =
    let path : List ℕ = path_joined_with_slash d gitattributes_file_name in
    attribute_places_by_source setup.source (root_joined_with_relative made.root path) path (blob_id_mapped_to_path made.mappings path)

-- where the info file is looked for, if there is one: at its path, which is followed
abbrev pub places_of_info_file : List ℕ → List RulesPlace
places_of_info_file path = in_tree path true ∷ []

-- the readings of the info file, which is read where the root is
abbrev pub info_file_readings_at_root : Option (List ℕ) → List ℕ → List RulesReading
info_file_readings_at_root None d = []
info_file_readings_at_root (Some path) [] = record { kind = of_attributes; places = places_of_info_file path } ∷ []
info_file_readings_at_root (Some path) (b ∷ bs) = []

-- the reading of a directory's own attributes, by an attribute state, if there is one
abbrev pub gitattributes_readings_of_directory : StackSetup → Option AttributesSetup → List ℕ → List RulesReading
gitattributes_readings_of_directory made None d = []
gitattributes_readings_of_directory made (Some setup) d = record { kind = of_attributes; places = attribute_places_of_directory made setup d } ∷ []

-- that of the info file
abbrev pub info_file_readings_of_setup : Option AttributesSetup → List ℕ → List RulesReading
info_file_readings_of_setup None d = []
info_file_readings_of_setup (Some setup) d = info_file_readings_at_root setup.info d

-- the readings of attributes
abbrev pub attribute_readings_of_directory : StackSetup → Option AttributesSetup → List ℕ → List RulesReading
attribute_readings_of_directory made setup d = gitattributes_readings_of_directory made setup d ++ info_file_readings_of_setup setup d

-- the readings of ignore rules, by an exclude state, if there is one
abbrev pub ignore_readings_of_directory : StackSetup → Option Setup → List ℕ → List RulesReading
ignore_readings_of_directory made None d = []
ignore_readings_of_directory made (Some setup) d = record { kind = of_ignore; places = ignore_places_of_directory made setup d } ∷ []

-- the readings of a directory, one after the other, by a stack that was made so
abbrev pub readings_of_directory : StackSetup → List ℕ → List RulesReading
readings_of_directory made d = attribute_readings_of_directory made made.attributes d ++ ignore_readings_of_directory made made.ignore d

-- the places that readings ask
abbrev pub places_of_readings : List RulesReading → List RulesPlace
places_of_readings [] = []
places_of_readings (r ∷ readings) = r.places ++ places_of_readings readings

-- the places that the readings of a directory ask
abbrev pub places_of_directory : StackSetup → List ℕ → List RulesPlace
places_of_directory made d = places_of_readings (readings_of_directory made d)

-- ---- what they give

-- What rules are read from: a tree, and a store of objects.
pub record TreeAndObjects : Type 0 where
  pub tree : Names
  pub objects : ObjectsById

-- a worktree and a store tell these
pub record Tells (told : Option Names) (holds : Option ObjectsById) (s : TreeAndObjects) : Type 0 where
  pub tree_is : told ≡ Some s.tree
  pub objects_are : holds ≡ Some s.objects

-- Why rules are refused: a file of the worktree, or a blob.
pub data RulesRefusal : Type 0 where
  of_file : List ℕ → RulesWhy → RulesRefusal
  of_blob : List ℕ → BlobWhy → RulesRefusal

-- the bytes of a list, none where there is no list, or why it is refused
abbrev pub list_bytes_of_file_lookup : List ℕ → LookupResult → Result (Option (List ℕ)) RulesRefusal
list_bytes_of_file_lookup path (found (file bytes)) = Ok (Some bytes)
list_bytes_of_file_lookup path (found (directory names)) = Ok None
list_bytes_of_file_lookup path (found (link target)) = Err (of_file path whys.Link)
list_bytes_of_file_lookup path (found other) = Err (of_file path whys.Special)
list_bytes_of_file_lookup path absent = Ok None
list_bytes_of_file_lookup path too_many_links = Err (of_file path whys.LinkLimit)

-- and of a blob, by what is under its id
abbrev pub list_bytes_of_blob : List ℕ → Option Object → Result (Option (List ℕ)) RulesRefusal
list_bytes_of_blob id (Some (blob bytes)) = Ok (Some bytes)
list_bytes_of_blob id (Some other_object) = Err (of_blob id blob_whys.NotABlob)
list_bytes_of_blob id None = Err (of_blob id blob_whys.Missing)

-- and of a place
abbrev pub list_bytes_at_place : TreeAndObjects → RulesPlace → Result (Option (List ℕ)) RulesRefusal
list_bytes_at_place s (in_tree path follow) = list_bytes_of_file_lookup path (look s.tree path follow)
list_bytes_at_place s (in_store path id) = list_bytes_of_blob id (object_by_id s.objects id)

-- What was read: the bytes of a list, and the path that it is said to come from.
pub record RulesText : Type 0 where
  pub source : List ℕ
  pub bytes : List ℕ

-- the text of these bytes, where a list was found that is said to come from a path
abbrev pub rules_text_if_found : Option (List ℕ) → List ℕ → Option RulesText
rules_text_if_found None bytes = None
rules_text_if_found (Some source) bytes = Some (record { source = source; bytes = bytes })

-- the bytes of a text, none where there is none
abbrev pub bytes_of_rules_text : Option RulesText → List ℕ
bytes_of_rules_text None = []
bytes_of_rules_text (Some text) = text.bytes

-- the text of a list that was read there, none where there is no list
abbrev pub rules_text_of_list_bytes : List ℕ → Result (Option (List ℕ)) RulesRefusal → Result (Option RulesText) RulesRefusal
rules_text_of_list_bytes path (Ok None) = Ok None
rules_text_of_list_bytes path (Ok (Some bytes)) = Ok (Some (record { source = path; bytes = bytes }))
rules_text_of_list_bytes path (Err refusal) = Err refusal

-- where there is no list, the next places are asked
abbrev pub text_or_next_place : Result (Option RulesText) RulesRefusal → Result (Option RulesText) RulesRefusal → Result (Option RulesText) RulesRefusal
text_or_next_place (Ok None) next = next
text_or_next_place (Ok (Some text)) next = Ok (Some text)
text_or_next_place (Err refusal) next = Err refusal

-- the text of the first place that has a list, none where none has one
abbrev pub first_rules_text_of_places : TreeAndObjects → List RulesPlace → Result (Option RulesText) RulesRefusal
first_rules_text_of_places s [] = Ok None
first_rules_text_of_places s (place ∷ places) = text_or_next_place (rules_text_of_list_bytes (path_of_rules_place place) (list_bytes_at_place s place)) (first_rules_text_of_places s places)

-- one reading, and what those behind it give
abbrev pub prepend_text_unless_refused : Result (Option RulesText) RulesRefusal → Result (List (Option RulesText)) RulesRefusal → Result (List (Option RulesText)) RulesRefusal
prepend_text_unless_refused (Ok text) (Ok texts) = Ok (text ∷ texts)
prepend_text_unless_refused (Ok text) (Err refusal) = Err refusal
prepend_text_unless_refused (Err refusal) texts = Err refusal

-- what readings give, one text each, or why the first is refused that is
abbrev pub rules_texts_of_readings : TreeAndObjects → List RulesReading → Result (List (Option RulesText)) RulesRefusal
rules_texts_of_readings s [] = Ok []
rules_texts_of_readings s (r ∷ readings) = prepend_text_unless_refused (first_rules_text_of_places s r.places) (rules_texts_of_readings s readings)

-- What readings give.
abbrev pub RulesTextsOrRefusal : Type 0
RulesTextsOrRefusal = Result (List (Option RulesText)) RulesRefusal

-- what the readings of a directory give in a tree and a store, for a stack that was made so, or why they are refused
unfoldable pub rules_texts_of_directory : StackSetup → TreeAndObjects → List ℕ → RulesTextsOrRefusal
rules_texts_of_directory made s d = rules_texts_of_readings s (readings_of_directory made d)

-- the readings are there, and none is refused
abbrev pub is_read_without_refusal : RulesTextsOrRefusal → Bool
is_read_without_refusal (Ok texts) = true
is_read_without_refusal (Err refusal) = false

-- the text of one reading, none where it is refused
abbrev pub rules_text_or_none : Result (Option RulesText) RulesRefusal → Option RulesText
rules_text_or_none (Ok text) = text
rules_text_or_none (Err refusal) = None

-- ---- ignore rules

-- the ignore rules of a text, for the paths beneath a directory; none where there is no text
abbrev pub ignore_rules_of_text : Bool → List ℕ → Option RulesText → RulesList
ignore_rules_of_text precious d None = empty_rules_list
ignore_rules_of_text precious d (Some text) = record { entries = entries precious text.bytes; source = Some text.source; base = d }

-- the ignore rules of a directory, by what an exclude state was made with
abbrev pub ignore_rules_of_directory : StackSetup → Setup → TreeAndObjects → List ℕ → RulesList
ignore_rules_of_directory made setup s d = ignore_rules_of_text setup.precious d (rules_text_or_none (first_rules_text_of_places s (ignore_places_of_directory made setup d)))

-- where rules come from, by an exclude state, if there is one
abbrev pub rulebook_of_setup : StackSetup → Option Setup → TreeAndObjects → ExcludeRulebook
rulebook_of_setup made None s = record { overrides = []; of_directory = λ names. empty_rules_list; globals = []; case = made.case; strict = false }
rulebook_of_setup made (Some setup) s =
    record {
      overrides = setup.overrides;
      of_directory = λ names. ignore_rules_of_directory made setup s (slash_joined_components names);
      globals = setup.globals;
      case = made.case;
      strict = setup.strict;
    }

-- where the rules come from of a stack that was made so, over a tree and a store
abbrev pub rulebook_of_stack_setup : StackSetup → TreeAndObjects → ExcludeRulebook
rulebook_of_stack_setup made s = rulebook_of_setup made made.ignore s

-- ---- attributes

-- the list of a text of attributes, for the paths beneath a directory; an empty one where there is no text
abbrev pub attribute_list_of_text : Bool → List ℕ → Option RulesText → AttributeList
attribute_list_of_text macros d None = attribute_list_from_lines (lines macros []) [] d
attribute_list_of_text macros d (Some text) = attribute_list_from_lines (lines macros text.bytes) text.source d

-- the list of a directory's own `.gitattributes`, which may define macros at the root alone
abbrev pub gitattributes_list_of_directory : StackSetup → AttributesSetup → TreeAndObjects → List ℕ → AttributeList
gitattributes_list_of_directory made setup s d = attribute_list_of_text (is_empty d) d (rules_text_or_none (first_rules_text_of_places s (attribute_places_of_directory made setup d)))

-- the list of the info file, which stands with the root
abbrev pub info_file_lists_at_root : Option (List ℕ) → TreeAndObjects → List ℕ → List AttributeList
info_file_lists_at_root None s d = []
info_file_lists_at_root (Some path) s [] = attribute_list_of_text true [] (rules_text_or_none (first_rules_text_of_places s (places_of_info_file path))) ∷ []
info_file_lists_at_root (Some path) s (b ∷ bs) = []

-- both by an attribute state, if there is one
abbrev pub gitattributes_lists_of_setup : StackSetup → Option AttributesSetup → TreeAndObjects → List ℕ → List AttributeList
gitattributes_lists_of_setup made None s d = []
gitattributes_lists_of_setup made (Some setup) s d = gitattributes_list_of_directory made setup s d ∷ []

abbrev pub info_file_lists_of_setup : Option AttributesSetup → TreeAndObjects → List ℕ → List AttributeList
info_file_lists_of_setup None s d = []
info_file_lists_of_setup (Some setup) s d = info_file_lists_at_root setup.info s d

-- the lists of a directory, the lowest first: its own, and above the root's own that of the info file
abbrev pub attribute_lists_of_setup : StackSetup → Option AttributesSetup → TreeAndObjects → List ℕ → List AttributeList
attribute_lists_of_setup made setup s d = gitattributes_lists_of_setup made setup s d ++ info_file_lists_of_setup setup s d

-- the lists of a directory
abbrev pub attribute_lists_of_directory : StackSetup → TreeAndObjects → List (List ℕ) → List AttributeList
attribute_lists_of_directory made s names = attribute_lists_of_setup made made.attributes s (slash_joined_components names)

-- the lists that speak of a path, the lowest first: the globals, those of the root, and those of the directories above the path down
-- to it. The root itself is spoken of by its own lists.
abbrev pub attribute_lists_for_path : StackSetup → TreeAndObjects → List (List ℕ) → List AttributeList
attribute_lists_for_path made s names = global_attribute_lists made.attributes ++ flat_map (attribute_lists_of_directory made s) (all_prefixes_shortest_first (all_but_last names))
