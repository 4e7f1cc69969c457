-- A configuration with what it includes in place: git-config(1), "Includes".
use Rattle.std.specs.Prelude.{ℕ, zero, suc, Bool, true, false, codes, bytes_eq, if◌then◌else◌, List, [], ◌∷◌, ◌++◌, map, Option, Some, None, Result, Ok, Err}
use Rattle.git_config_lite.specs.declared.entry.Entry.{Entry}
use Rattle.git_config_lite.specs.declared.metadata.Metadata.{Metadata}
use Rattle.git_config_lite.specs.declared.metadata.Source.{Source}
use Rattle.git_config_lite.specs.Grammar.{parse_text_sections}
use Rattle.git_config_lite.specs.Sections.{Section}
use Rattle.worktree_fs.specs.Changes.{real_path}
use Rattle.worktree_fs.specs.Tree.{Names, LookupResult, found, absent, too_many_links, file, link, directory, other, look}
use Rattle.git_config_files.specs.Conditions.{IncludeContext}
use Rattle.gitbase_core.specs.Steps.{and_then}
use Rattle.git_config_files.specs.Targets.{target}
use Rattle.git_config_files.specs.declared.error.FilesError.{FilesError}
use Rattle.git_config_files.specs.declared.error.FilesError.TheVariants as errors

-- a key by itself: a section with this key alone
abbrev pub single_key_section : Section → Entry → Section
single_key_section section e = record { name = section.name; subsection = section.subsection; meta = section.meta; entries = e ∷ [] }

-- the keys of sections, in their order, each by itself
abbrev pub single_key_sections : List Section → List Section
single_key_sections [] = []
single_key_sections (section ∷ sections) = map (single_key_section section) section.entries ++ single_key_sections sections

-- where a file is read: what it belongs to, and its path
abbrev pub metadata_of_file : Source → List ℕ → Metadata
metadata_of_file source path = record { source = source; path = Some path }

-- the keys one by one, or the path of the file with its first line outside the grammar
abbrev pub keys_or_config_error : List ℕ → Result (List Section) ℕ → Result (List Section) FilesError
keys_or_config_error path (Ok sections) = Ok (single_key_sections sections)
keys_or_config_error path (Err line) = Err (errors.Config path line)

-- the keys of a file by its bytes, or its first line outside the grammar
abbrev pub parse_keys_of_file : Source → List ℕ → List ℕ → Result (List Section) FilesError
parse_keys_of_file source path bytes = keys_or_config_error path (parse_text_sections (metadata_of_file source path) bytes)

-- what is said by the file at a path, with what that includes
abbrev pub ReadKeysAtPath : Type 0
ReadKeysAtPath = List ℕ → Result (List Section) FilesError

-- a key that includes no file adds nothing
abbrev pub keys_of_optional_path : ReadKeysAtPath → Option (List ℕ) → Result (List Section) FilesError
keys_of_optional_path follow None = Ok []
keys_of_optional_path follow (Some path) = follow path

-- what stands behind the one key of a section of the file `from`: what the file says that it includes
abbrev pub keys_included_by_entries : Names → IncludeContext → ReadKeysAtPath → List ℕ → Section → List Entry → Result (List Section) FilesError
keys_included_by_entries t known follow from key [] = Ok []
keys_included_by_entries t known follow from key (e ∷ es) = and_then (keys_of_optional_path follow) (target t known from key e)

-- what the one entry of such a section includes: nothing, unless it is the `path` of an include whose condition holds
abbrev pub keys_included_by_key : Names → IncludeContext → ReadKeysAtPath → List ℕ → Section → Result (List Section) FilesError
keys_included_by_key t known follow from key = keys_included_by_entries t known follow from key key.entries

-- keys of the file `from`: each of them, and right behind it what the file says that it includes
unfoldable pub expand_includes_of_keys : Names → IncludeContext → ReadKeysAtPath → List ℕ → List Section → Result (List Section) FilesError
expand_includes_of_keys t known follow from [] = Ok []
expand_includes_of_keys t known follow from (key ∷ keys) =
    and_then (λ more. and_then (λ rest. Ok ((key ∷ more) ++ rest)) (expand_includes_of_keys t known follow from keys)) (keys_included_by_key t known follow from key)

-- the node at a path without links is the null device, by its place
abbrev pub is_null_device : Option (List ℕ) → Bool
is_null_device None = false
is_null_device (Some real) = bytes_eq real (codes "/dev/null")

-- the text of a device, a pipe or a socket: the null device has an empty one, and what else it is, is refused
abbrev pub text_of_special_file : List ℕ → Option (List ℕ) → Result (Option (List ℕ)) FilesError
text_of_special_file path real = if is_null_device real then Ok (Some []) else Err (errors.NoFile path)

-- the text by what a path leads to, and by the path of that without links
abbrev pub text_by_look_answer : List ℕ → Option (List ℕ) → LookupResult → Result (Option (List ℕ)) FilesError
text_by_look_answer path real (found (file bytes)) = Ok (Some bytes)
text_by_look_answer path real (found (directory names)) = Err (errors.NoFile path)
text_by_look_answer path real (found (link target)) = Err (errors.NoFile path)
text_by_look_answer path real (found other) = text_of_special_file path real
text_by_look_answer path real absent = Ok None
text_by_look_answer path real too_many_links = Err (errors.NoFile path)

-- the text of the file that a path leads to; none where nothing is there. What is there and is no file is refused, and an endless link
abbrev pub read_optional_file_text : Names → List ℕ → Result (Option (List ℕ)) FilesError
read_optional_file_text t path = text_by_look_answer path (real_path t path (47 ∷ [])) (look t path true)

-- a file that is not there says nothing; another is read whole, with what it includes right behind each key
abbrev pub keys_with_includes_of_text : Names → IncludeContext → ReadKeysAtPath → Source → List ℕ → Option (List ℕ) → Result (List Section) FilesError
keys_with_includes_of_text t known follow source path None = Ok []
keys_with_includes_of_text t known follow source path (Some bytes) = and_then (expand_includes_of_keys t known follow path) (parse_keys_of_file source path bytes)

-- an included file that is there is too deep behind ten others
abbrev pub depth_error_if_file_exists : List ℕ → Option (List ℕ) → Result (List Section) FilesError
depth_error_if_file_exists path None = Ok []
depth_error_if_file_exists path (Some bytes) = Err (errors.Depth path)

-- what the file at a path says, with what it includes in place, where so many files may lie in one another
unfoldable pub read_keys_expanding_includes_to_depth : Names → IncludeContext → Source → ℕ → List ℕ → Result (List Section) FilesError
read_keys_expanding_includes_to_depth t known source zero path = and_then (depth_error_if_file_exists path) (read_optional_file_text t path)
read_keys_expanding_includes_to_depth t known source (suc levels) path =
    and_then (keys_with_includes_of_text t known (read_keys_expanding_includes_to_depth t known source levels) source path) (read_optional_file_text t path)

-- ---- the same key by key

-- behind what is done, some keys of the file `from`, each with what stands behind it
unfoldable pub expand_includes_behind_done_keys : Names → IncludeContext → ReadKeysAtPath → List ℕ → List Section → List Section → Result (List Section) FilesError
expand_includes_behind_done_keys t known follow from done [] = Ok done
expand_includes_behind_done_keys t known follow from done (key ∷ keys) =
    and_then (λ more. expand_includes_behind_done_keys t known follow from (done ++ key ∷ more) keys) (keys_included_by_key t known follow from key)
