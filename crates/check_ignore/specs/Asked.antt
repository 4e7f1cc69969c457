-- The paths that are asked about, as they are from the top of the work tree: git-check-ignore(1), gitglossary(7), "pathspec".
use Rattle.std.specs.Prelude.{ℕ, List, [], ◌∷◌, ◌++◌, Bool, false, ◌&&◌, ◌||◌, ◌==◌, bytes_eq, codes, ok_or, Option, Some, None, Result, Ok, Err, if◌then◌else◌}
use Rattle.std.specs.List.{list_any}
use Rattle.gitbase_core.specs.Path.{basename, path_with_trailing_slash, is_absolute, is_empty, path_joined_with_slash, normalized, strip_directory_prefix}
use Rattle.glob_rules.specs.Glob.{is_glob_special_byte}
use Rattle.glob_rules.specs.PathSpec.{PathSpec}
use Rattle.glob_rules.specs.PathSpecText.{parse_path_spec}
use Rattle.glob_rules.specs.declared.pathspec.Error.{Error}
use Rattle.glob_rules.specs.declared.pathspec.Error.TheVariants as faults
use Rattle.check_ignore.specs.Finds.{◌>>=◌}
use Rattle.check_ignore.specs.declared.asked.AskedPath.{AskedPath}
use Rattle.check_ignore.specs.declared.stop.Stop.{Stop}
use Rattle.check_ignore.specs.declared.stop.Stop.TheVariants as stops

-- ---- from the top

-- a path begins with a colon
abbrev pub begins_with_colon : List ℕ → Bool
begins_with_colon [] = false
begins_with_colon (b ∷ bytes) = b == 58

-- what an absolute path has behind that of the top, if it is there or beneath
abbrev pub rest_beneath_root : List ℕ → List ℕ → Option (List ℕ)
rest_beneath_root root path = if bytes_eq path root then Some [] else strip_directory_prefix root path

-- the same of a path that may be missing, as one that leads out above `/` is: then there is none
abbrev pub rest_beneath_root_if_path_given : List ℕ → Option (List ℕ) → Option (List ℕ)
rest_beneath_root_if_path_given root None = None
rest_beneath_root_if_path_given root (Some path) = rest_beneath_root root path

-- a path has a byte that has a meaning of its own in a pattern
abbrev pub has_pattern_special_byte : List ℕ → Bool
has_pattern_special_byte bytes = list_any is_glob_special_byte bytes

-- an absolute path, from the top
abbrev pub parse_absolute_path_to_root_relative : List ℕ → List ℕ → Result (List ℕ) Stop
parse_absolute_path_to_root_relative root text = ok_or (rest_beneath_root_if_path_given root (normalized text)) (stops.Elsewhere text)

-- a path behind that of a directory
abbrev pub normalized_path_joined_to_prefix : List ℕ → List ℕ → Result (List ℕ) Stop
normalized_path_joined_to_prefix prefix text = ok_or (normalized (path_joined_with_slash prefix text)) (stops.Outside text)

-- a relative path is from the directory `prefix`
abbrev pub parse_relative_path_in_prefix : List ℕ → List ℕ → Result (List ℕ) Stop
parse_relative_path_in_prefix prefix text = if has_pattern_special_byte text && has_pattern_special_byte prefix then Err (stops.Prefix text) else normalized_path_joined_to_prefix prefix text

-- a path from the top, without empty names, `.` and `..`
unfoldable pub parse_path_to_root_relative : List ℕ → List ℕ → List ℕ → Result (List ℕ) Stop
parse_path_to_root_relative root prefix text =
    if begins_with_colon text then Err (stops.Magic text) else if is_absolute text then parse_absolute_path_to_root_relative root text else parse_relative_path_in_prefix prefix text

-- ---- as a path spec

-- a path asks for a directory: it is the top, or ends in a slash, in `.` or in `..`
abbrev pub is_empty_dot_or_dot_dot : List ℕ → Bool
is_empty_dot_or_dot_dot name = is_empty name || (bytes_eq name (codes ".") || bytes_eq name (codes ".."))

-- a path asks for a directory, by how it was written (`text`) and by what it is from the top (`path`)
abbrev pub is_top_or_ends_as_directory : List ℕ → List ℕ → Bool
is_top_or_ends_as_directory text path = is_empty path || is_empty_dot_or_dot_dot (basename text)

-- a path, with a slash behind it where it asks for a directory
abbrev pub path_with_slash_if_directory : List ℕ → Bool → List ℕ
path_with_slash_if_directory path directory = if directory then path_with_trailing_slash path else path

-- a path without wildcards means its bytes
abbrev pub glob_or_literal_magic : List ℕ → List ℕ
glob_or_literal_magic text = if has_pattern_special_byte text then codes "::" else codes ":(literal)"

-- the text of a path spec for a path from the top; whether it is a pattern is told by the text as it was written
abbrev pub path_spec_text_of_path : List ℕ → List ℕ → Bool → List ℕ
path_spec_text_of_path text path directory = glob_or_literal_magic text ++ path_with_slash_if_directory path directory

-- that one path spec alone; one that is refused counts as magic, which is not answered here
abbrev pub single_spec_or_magic_error : List ℕ → Result PathSpec Error → Result (List PathSpec) Stop
single_spec_or_magic_error text (Ok spec) = Ok (spec ∷ [])
single_spec_or_magic_error text (Err (faults.Parse at)) = Err (stops.Magic text)
single_spec_or_magic_error text (Err faults.Normalize) = Err (stops.Magic text)
single_spec_or_magic_error text (Err faults.OutOfMemory) = Err stops.OutOfMemory

-- the path spec by which the index is asked
abbrev pub parse_path_as_path_spec : List ℕ → List ℕ → Bool → Result (List PathSpec) Stop
parse_path_as_path_spec text path directory = single_spec_or_magic_error text (parse_path_spec false (path_spec_text_of_path text path directory))

-- what is kept of a path that is asked about: as written, from the top, and as a path spec
abbrev pub asked_path_with_spec : List ℕ → List ℕ → List PathSpec → AskedPath
asked_path_with_spec text path spec = record { text = text; path = path; names_directory = is_top_or_ends_as_directory text path; spec = spec }

-- a path that is asked about in the directory `prefix`
unfoldable pub parse_asked_path : List ℕ → List ℕ → List ℕ → Result AskedPath Stop
parse_asked_path root prefix text = do
  path ← parse_path_to_root_relative root prefix text
  spec ← parse_path_as_path_spec text path (is_top_or_ends_as_directory text path)
  Ok (asked_path_with_spec text path spec)
