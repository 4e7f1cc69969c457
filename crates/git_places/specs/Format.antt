-- What the configuration of a repository says of its format.
use Rattle.std.specs.Prelude.{ℕ, Bool, true, false, not, drop, length, nat_lt, slice_get, take, ◌++◌, ◌||◌, ◌&&◌, codes, bytes_eq, find, is_none, is_some, List, [], ◌∷◌, Option, Some, None, option_map, Result, Ok, Err, if◌then◌else◌}
use Rattle.git_config_lite.specs.declared.entry.Entry.{Entry}
use Rattle.gitbase_core.specs.Text.{eq_ignore_case}
use Rattle.git_config_lite.specs.Lookups.{last_boolean_value, last_value_in_section, last_string_value, value_or_empty_text}
use Rattle.git_config_lite.specs.Sections.{Section}
use Rattle.git_places.specs.declared.error.PlacesError.{PlacesError}
use Rattle.git_places.specs.declared.error.PlacesError.TheVariants as errors
use Rattle.git_places.specs.declared.format.Version.{Version}
use Rattle.git_places.specs.declared.format.Version.TheVariants as versions

-- ---- in which file it says so

-- whether a section without a subsection, of this name, has a key
abbrev pub is_plain_section_with_key : List ℕ → List ℕ → Section → Bool
is_plain_section_with_key name key section = eq_ignore_case section.name name && (is_none section.subsection && is_some (last_value_in_section key section))

-- the file in which the last value of a key stands; where none does, and where it stands in no file, there is none
abbrev pub file_of_last_key_value_or : Option (List ℕ) → List ℕ → List ℕ → List Section → Option (List ℕ)
file_of_last_key_value_or found name key [] = found
file_of_last_key_value_or found name key (section ∷ sections) = file_of_last_key_value_or (if is_plain_section_with_key name key section then section.meta.path else found) name key sections

-- the file of the last section of this name, without a subsection, that has the key;
-- none where no section has it, or that one stands in no file
abbrev pub file_of_last_section_with_key : List ℕ → List ℕ → List Section → Option (List ℕ)
file_of_last_section_with_key name key sections = file_of_last_key_value_or None name key sections

-- ---- the version

-- the version of the format by `core.repositoryFormatVersion`, which stands in a file: 0 or 1; none where nothing says so
abbrev pub parse_format_version : Option (List ℕ) → Option (List ℕ) → Result (Option Version) PlacesError
parse_format_version path None = Ok None
parse_format_version path (Some text) =
    if bytes_eq text (codes "0") then Ok (Some versions.Zero)
    else if bytes_eq text (codes "1") then Ok (Some versions.One)
    else Err (errors.Version path text)

-- the version that the last `core.repositoryFormatVersion` says: none where there is none, refused unless 0 or 1
abbrev pub parse_format_version_if_configured : List Section → Result (Option Version) PlacesError
parse_format_version_if_configured sections =
    parse_format_version (file_of_last_section_with_key (codes "core") (codes "repositoryformatversion") sections) (last_string_value (codes "core") None (codes "repositoryformatversion") sections)

-- ---- extensions

-- a key of `[extensions]` by which nothing is read otherwise here: `worktreeConfig` is asked for by itself
abbrev pub is_extension_key_of_any_version : List ℕ → Bool
is_extension_key_of_any_version key =
    eq_ignore_case key (codes "noop") || (eq_ignore_case key (codes "preciousobjects") || (eq_ignore_case key (codes "partialclone") || eq_ignore_case key (codes "worktreeconfig")))

-- one that only version 1 may have, and that has no say here either
abbrev pub is_ignorable_version_one_extension : List ℕ → Bool
is_ignorable_version_one_extension key = eq_ignore_case key (codes "noop-v1") || eq_ignore_case key (codes "relativeworktrees")

-- `extensions.objectFormat`, capital letters or not, by which a repository says what hash its ids are of
abbrev pub is_object_format_key : List ℕ → Bool
is_object_format_key key = eq_ignore_case key (codes "objectformat")

-- a key that may not stand in version 0; any other may, whatever it is
abbrev pub is_version_one_only_extension : List ℕ → Bool
is_version_one_only_extension key = eq_ignore_case key (codes "noop-v1") || is_object_format_key key

-- the value is `sha1` to the letter; a key without a value has the empty one
abbrev pub is_sha1_value : Entry → Bool
is_sha1_value e = bytes_eq (value_or_empty_text e.value) (codes "sha1")

-- the key says that the ids are of SHA-1, the one hash that is read here
abbrev pub is_sha1_object_format : Entry → Bool
is_sha1_object_format e = is_object_format_key e.key && is_sha1_value e

-- whether a key says that each ref is a file, as `HEAD` is read here
abbrev pub is_files_ref_storage : Entry → Bool
is_files_ref_storage e = eq_ignore_case e.key (codes "refstorage") && bytes_eq (value_or_empty_text e.value) (codes "files")

-- whether a key is known to version 1, with the value that it has
abbrev pub is_known_version_one_extension : Entry → Bool
is_known_version_one_extension e = is_extension_key_of_any_version e.key || (is_ignorable_version_one_extension e.key || (is_sha1_object_format e || is_files_ref_storage e))

-- whether a key of a section `extensions`, with a subsection or without one, leaves the repository readable
abbrev pub is_allowed_extension : Version → Option (List ℕ) → Entry → Bool
is_allowed_extension versions.Zero (Some subsection) e = true
is_allowed_extension versions.Zero None e = not (is_version_one_only_extension e.key)
is_allowed_extension versions.One (Some subsection) e = false
is_allowed_extension versions.One None e = is_known_version_one_extension e

-- a key as it stands behind `extensions.`, with its subsection
abbrev pub key_with_subsection : Option (List ℕ) → List ℕ → List ℕ
key_with_subsection None key = key
key_with_subsection (Some subsection) key = subsection ++ codes "." ++ key

-- whether a key says that the ids of the repository are of SHA-256
abbrev pub is_sha256_object_format : Version → Option (List ℕ) → Entry → Bool
is_sha256_object_format versions.Zero subsection e = false
is_sha256_object_format versions.One (Some subsection) e = false
is_sha256_object_format versions.One None e = is_object_format_key e.key && bytes_eq (value_or_empty_text e.value) (codes "sha256")

-- the refusal of a key of a file: that the ids of the repository are of SHA-256 has a word of its own
abbrev pub disallowed_extension_error : Option (List ℕ) → Version → Option (List ℕ) → Entry → PlacesError
disallowed_extension_error path version subsection e =
    if is_sha256_object_format version subsection e then errors.Sha256 path else errors.Extension path (key_with_subsection subsection e.key)

-- the refusal of a section `extensions`: that of its first key that does not leave the repository readable
abbrev pub error_of_extensions_section : Version → Section → Option PlacesError
error_of_extensions_section version section =
    option_map (disallowed_extension_error section.meta.path version section.subsection) (find (λ e. not (is_allowed_extension version section.subsection e)) section.entries)

-- what stands behind `extensions.` in the name of a section
abbrev pub section_name_after_extensions_dot : List ℕ → Option (List ℕ)
section_name_after_extensions_dot name =
    if nat_lt (length name) 11 then None
    else if eq_ignore_case (take 11 name) (codes "extensions.") then Some (drop 11 name) else None

-- a key of a section whose name has a dot, as it stands behind `extensions.`
abbrev pub key_with_name_rest_and_subsection : List ℕ → Option (List ℕ) → List ℕ → List ℕ
key_with_name_rest_and_subsection name subsection key = key_with_subsection (Some name) (key_with_subsection subsection key)

-- the refusal of a section whose name begins with `extensions.`: version 1 knows no key in it, and version 0 passes over each
abbrev pub error_of_dotted_extensions_section : Version → Section → Option (List ℕ) → Option PlacesError
error_of_dotted_extensions_section version section None = None
error_of_dotted_extensions_section versions.Zero section (Some name) = None
error_of_dotted_extensions_section versions.One section (Some name) =
    option_map (λ e. errors.Extension section.meta.path (key_with_name_rest_and_subsection name section.subsection e.key)) (slice_get section.entries 0)

-- the refusal of a section, if it has one
abbrev pub extension_error_of_section : Version → Section → Option PlacesError
extension_error_of_section version section =
    if eq_ignore_case section.name (codes "extensions") then error_of_extensions_section version section
    else error_of_dotted_extensions_section version section (section_name_after_extensions_dot section.name)

-- the refusal of the first section, and where it has none what the sections behind it say
abbrev pub error_or_rest : Option PlacesError → Result Bool PlacesError → Result Bool PlacesError
error_or_rest None rest = rest
error_or_rest (Some e) rest = Err e

-- whether the sections of extensions leave the repository readable: the first refusal counts
abbrev pub require_allowed_extensions : Version → List Section → Result Bool PlacesError
require_allowed_extensions version [] = Ok true
require_allowed_extensions version (section ∷ sections) = error_or_rest (extension_error_of_section version section) (require_allowed_extensions version sections)

-- ---- truths

-- a key as a person names it, with its section
abbrev pub section_dot_key : List ℕ → List ℕ → List ℕ
section_dot_key section key = section ++ codes "." ++ key

-- the truth of a key, no where nothing is said; a value that is none is refused
abbrev pub boolean_result_or_false : Option (List ℕ) → List ℕ → Result (Option Bool) (List ℕ) → Result Bool PlacesError
boolean_result_or_false path key (Ok None) = Ok false
boolean_result_or_false path key (Ok (Some b)) = Ok b
boolean_result_or_false path key (Err text) = Err (errors.Value path key)

-- the last value of a key as a boolean: no where there is none, refused with its file where it is no boolean
abbrev pub config_boolean_or_false : List ℕ → List ℕ → List Section → Result Bool PlacesError
config_boolean_or_false section key sections = boolean_result_or_false (file_of_last_section_with_key section key sections) (section_dot_key section key) (last_boolean_value section None key sections)
