-- Which file a key includes.
use Rattle.std.specs.Prelude.{ℕ, Bool, true, false, ◌&&◌, ◌++◌, ◌==◌, codes, bytes_eq, List, [], ◌∷◌, Option, Some, None, Result, Ok, Err, if◌then◌else◌, unwrap_or}
use Rattle.std.specs.List.{list_any}
use Rattle.gitbase_core.specs.Path.{parent}
use Rattle.gitbase_core.specs.Text.{eq_ignore_case}
use Rattle.git_config_lite.specs.declared.entry.Entry.{Entry}
use Rattle.git_config_lite.specs.Sections.{Section}
use Rattle.worktree_fs.specs.Changes.{resolve_path_from_directory}
use Rattle.worktree_fs.specs.Repository.{text_after_prefix}
use Rattle.worktree_fs.specs.Tree.{Names}
use Rattle.git_config_files.specs.Conditions.{IncludeContext, begins_with_unsupported_home, include_condition_holds}
use Rattle.gitbase_core.specs.Steps.{and_then}
use Rattle.git_config_files.specs.declared.error.FilesError.{FilesError}
use Rattle.git_config_files.specs.declared.error.FilesError.TheVariants as errors

-- a path behind a `~`, with the home in the place of that; none where there is no home
abbrev pub home_followed_by_rest : Option (List ℕ) → List ℕ → Option (List ℕ)
home_followed_by_rest None rest = None
home_followed_by_rest (Some home) rest = Some (home ++ rest)

-- a path without a `~` at its front, as it is; with one it begins with the home, and is none where that is not known
abbrev pub path_or_home_with_rest : Option (List ℕ) → List ℕ → Option (List ℕ) → Option (List ℕ)
path_or_home_with_rest home path None = Some path
path_or_home_with_rest home path (Some rest) = home_followed_by_rest home rest

-- a path that a key has as its value, with the home in the place of a `~` at its front; none where that home is not known
abbrev pub path_with_tilde_expanded : Option (List ℕ) → List ℕ → Option (List ℕ)
path_with_tilde_expanded home path = if begins_with_unsupported_home path then None else path_or_home_with_rest home path (text_after_prefix (codes "~") path)

-- a NUL, which no path has
abbrev pub has_nul : List ℕ → Bool
has_nul text = list_any (λ b. b == 0) text

-- a value that begins with an unknown home is refused by its text and the file that it stands in
abbrev pub expanded_path_or_user_dir_error : Option (List ℕ) → List ℕ → Option (List ℕ) → Result (List ℕ) FilesError
expanded_path_or_user_dir_error file text None = Err (errors.UserDir file text)
expanded_path_or_user_dir_error file text (Some path) = Ok path

-- the path that the value of a key is, in a file: one with a NUL is refused by the key, and one with a home that is not known by its text
unfoldable pub path_of_config_value : Option (List ℕ) → List ℕ → Option (List ℕ) → List ℕ → Result (List ℕ) FilesError
path_of_config_value file key home text = if has_nul text then Err (errors.Value file key) else expanded_path_or_user_dir_error file text (path_with_tilde_expanded home text)

-- taken from the directory of the file, where it is relative
abbrev pub path_from_directory_of_file : List ℕ → List ℕ → List ℕ
path_from_directory_of_file from path = resolve_path_from_directory path (unwrap_or (parent from) [])

-- the included path, from the directory of the file `from`; an unknown home is refused by that file
abbrev pub included_file_or_home_error : List ℕ → Option (List ℕ) → Result (Option (List ℕ)) FilesError
included_file_or_home_error from None = Err (errors.Home from)
included_file_or_home_error from (Some path) = Ok (Some (path_from_directory_of_file from path))

-- the file that a value names; a key without a value names none, and is refused, as one whose value has a NUL is
abbrev pub included_file_of_value : IncludeContext → List ℕ → Option (List ℕ) → Result (Option (List ℕ)) FilesError
included_file_of_value known from None = Err (errors.Include from)
included_file_of_value known from (Some text) =
    if has_nul text then Err (errors.Value (Some from) (codes "include.path")) else included_file_or_home_error from (path_with_tilde_expanded known.home text)

-- where the condition does not hold nothing is included, and not even a missing value is refused
abbrev pub included_file_if_true : IncludeContext → List ℕ → Entry → Bool → Result (Option (List ℕ)) FilesError
included_file_if_true known from e does = if does then included_file_of_value known from e.value else Ok None

-- what a `path` under `[includeIf "CONDITION"]` includes; a condition that cannot be judged is refused
abbrev pub included_file_if_condition_holds : Names → IncludeContext → List ℕ → List ℕ → Entry → Result (Option (List ℕ)) FilesError
included_file_if_condition_holds t known from condition e = and_then (included_file_if_true known from e) (include_condition_holds t known from condition)

-- the file that a key `path` includes, by the name and the subsection of its section
abbrev pub included_file_of_path_key : Names → IncludeContext → List ℕ → List ℕ → Option (List ℕ) → Entry → Result (Option (List ℕ)) FilesError
included_file_of_path_key t known from name None e = if eq_ignore_case name (codes "include") then included_file_of_value known from e.value else Ok None
included_file_of_path_key t known from name (Some condition) e =
    if eq_ignore_case name (codes "includeif") then included_file_if_condition_holds t known from condition e else Ok None

-- the file that a key of a section of the file `from` includes, if it includes one
abbrev pub target : Names → IncludeContext → List ℕ → Section → Entry → Result (Option (List ℕ)) FilesError
target t known from section e =
    if eq_ignore_case e.key (codes "path") then included_file_of_path_key t known from section.name section.subsection e else Ok None
