-- The blobs that rules files are mapped to, and which of them an index has.
use Rattle.std.specs.Prelude.{ℕ, ◌==◌, ◌&&◌, ◌||◌, Bool, true, false, List, [], ◌∷◌, map, filter, Option, Some, None, if◌then◌else◌}
use Rattle.std.specs.List.{list_all}
use Rattle.std.specs.Ordering.{is_lt}
use Rattle.std.specs.Str.{bytes_eq}
use Rattle.gitbase_core.specs.declared.entry.IndexEntry.{IndexEntry}
use Rattle.gitbase_core.specs.Entry.{mode_bits, regular_file_mode, skip_worktree_flag}
use Rattle.gitbase_core.specs.Index.{compare_path_bytes}
use Rattle.gitbase_core.specs.Kinds.{entry_has_flag}
use Rattle.gitbase_core.specs.Path.{basename}
use Rattle.gitbase_core.specs.Text.{eq_ignore_case}
use Rattle.glob_rules.specs.declared.Case.{Case}
use Rattle.glob_rules.specs.declared.Case.TheVariants.{Sensitive, Fold}
use Rattle.worktree_stack.specs.declared.ignore_source.Source.{Source}
use Rattle.worktree_stack.specs.declared.ignore_source.Source.TheVariants.{IdMapping, WorktreeThenIdMappingIfNotSkipped}
use Rattle.worktree_stack.specs.Setup.{AttributesSetup, Setup, RulesFileMapping, gitattributes_file_name}

-- ---- in order

-- the path of one stands before that of another, by its bytes
abbrev pub is_mapping_path_less : RulesFileMapping → RulesFileMapping → Bool
is_mapping_path_less a b = is_lt (compare_path_bytes a.0 b.0)

-- the path of each stands before those behind it, by its bytes, so that none is mapped twice
abbrev pub are_mapping_paths_ascending : List RulesFileMapping → Bool
are_mapping_paths_ascending [] = true
are_mapping_paths_ascending (mapping ∷ more) = list_all (is_mapping_path_less mapping) more && are_mapping_paths_ascending more

-- ---- from an index

-- the last component of a path is the name of rules files, as letters compare
abbrev pub has_basename : Case → List ℕ → List ℕ → Bool
has_basename Sensitive name path = bytes_eq (basename path) name
has_basename Fold name path = eq_ignore_case (basename path) name

-- where the worktree is asked first, a blob counts only where the file is left out of the worktree
abbrev pub reads_rules_from_blob : Source → IndexEntry → Bool
reads_rules_from_blob IdMapping e = true
reads_rules_from_blob WorktreeThenIdMappingIfNotSkipped e = entry_has_flag skip_worktree_flag e

-- an entry may be that of a rules file: of a plain file, merged or ours
abbrev pub is_merged_or_ours_file : IndexEntry → Bool
is_merged_or_ours_file e = mode_bits e.mode == regular_file_mode && (e.stage == 0 || e.stage == 2)

-- the blob of an entry gives ignore rules, by an exclude state, if there is one
abbrev pub is_blob_read_for_ignore_rules : Case → Option Setup → IndexEntry → Bool
is_blob_read_for_ignore_rules case None e = false
is_blob_read_for_ignore_rules case (Some setup) e = has_basename case setup.file_name e.path && reads_rules_from_blob setup.source e

-- the file of an entry is one of ignore rules, by its name
abbrev pub is_named_like_ignore_file : Case → Option Setup → IndexEntry → Bool
is_named_like_ignore_file case None e = false
is_named_like_ignore_file case (Some setup) e = has_basename case setup.file_name e.path

-- the file of an entry is one of attributes, by its name, where there is an attribute state
abbrev pub is_named_gitattributes : Case → Option AttributesSetup → IndexEntry → Bool
is_named_gitattributes case None e = false
is_named_gitattributes case (Some setup) e = has_basename case gitattributes_file_name e.path

-- an entry is that of a rules file; one that has the name of ignore rules is asked for these, whatever else it is named
abbrev pub is_rules_file_read_from_index : Case → Option AttributesSetup → Option Setup → IndexEntry → Bool
is_rules_file_read_from_index case attributes ignore e =
    is_merged_or_ours_file e && (if is_named_like_ignore_file case ignore e then is_blob_read_for_ignore_rules case ignore e else is_named_gitattributes case attributes e)

-- an entry's path, and the blob that it has
abbrev pub path_and_blob_id_of_entry : IndexEntry → RulesFileMapping
path_and_blob_id_of_entry e = (e.path, e.id)

-- the blobs that an index has for the rules files of a state, in the order of the index
abbrev pub rules_file_mappings_of_index : Case → Option AttributesSetup → Option Setup → List IndexEntry → List RulesFileMapping
rules_file_mappings_of_index case attributes ignore entries = map path_and_blob_id_of_entry (filter (is_rules_file_read_from_index case attributes ignore) entries)

-- how letters compare
abbrev pub case_by_ignore_case : Bool → Case
case_by_ignore_case ignore_case = if ignore_case then Fold else Sensitive
