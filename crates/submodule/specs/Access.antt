-- What is said of a submodule. Every value read is the last one, overrides included.
use Rattle.std.specs.Prelude.{◌≡◌, ℕ, List, [], ◌∷◌, codes, bytes_eq, Bool, true, false, not, ◌&&◌, Option, Some, None, is_some, find, Result, Ok, Err, if◌then◌else◌}
use Rattle.std.specs.Option.{option_or}
use Rattle.gitbase_core.specs.Path.{is_empty, is_absolute, normalized}
use Rattle.git_config_lite.specs.declared.metadata.Source.{Source}
use Rattle.git_config_lite.specs.Sections.{Section}
use Rattle.git_config_lite.specs.Lookups.{last_string_with_source, last_boolean_value}
use Rattle.submodule.specs.Names.{is_gitmodules_source, submodule_names_of_gitmodules}
use Rattle.submodule.specs.Overrides.{value}
use Rattle.submodule.specs.Ignores.{parse_ignore_word}
use Rattle.submodule.specs.Recursions.{fetch_recurse_of_boolean_or_text}
use Rattle.submodule.specs.Branches.{parse_branch}
use Rattle.submodule.specs.Updates.{parse_update}
use Rattle.submodule.specs.Urls.{parse_url}
use Rattle.submodule.specs.declared.ignore.Ignore.{Ignore}
use Rattle.submodule.specs.declared.fetch_recurse.FetchRecurse.{FetchRecurse}
use Rattle.submodule.specs.declared.branch.Branch.{Branch}
use Rattle.submodule.specs.declared.branch.RefspecError.TheVariants as refspec_errors
use Rattle.submodule.specs.declared.branch.Error.{Error as BranchError}
use Rattle.submodule.specs.declared.branch.Error.TheVariants as branch_errors
use Rattle.submodule.specs.declared.update.Update.{Update}
use Rattle.submodule.specs.declared.update.Update.TheVariants as update_words
use Rattle.submodule.specs.declared.update.Error.{Error as UpdateError}
use Rattle.submodule.specs.declared.update.Error.TheVariants as update_errors
use Rattle.submodule.specs.declared.url.Url.{Url}
use Rattle.submodule.specs.declared.url.UrlError.{UrlError}
use Rattle.submodule.specs.declared.url.Error.{Error as UrlRefusal}
use Rattle.submodule.specs.declared.url.Error.TheVariants as url_errors
use Rattle.submodule.specs.declared.path.Error.{Error as PathError}
use Rattle.submodule.specs.declared.path.Error.TheVariants as path_errors
use Rattle.submodule.specs.declared.field.FieldName.TheVariants as fields
use Rattle.submodule.specs.declared.field.FieldError.{FieldError}
use Rattle.submodule.specs.declared.field.FieldError.TheVariants as field_errors

-- ---- path: not empty, not absolute, and it leads to a place inside the work tree

-- neither empty nor absolute, and no `..` of it leads out of the work tree; `.` itself passes
abbrev pub is_valid_submodule_path : List ℕ → Bool
is_valid_submodule_path text = not (is_empty text) && (not (is_absolute text) && is_some (normalized text))

-- why a text that is no such path is refused
abbrev pub path_error_of_value : List ℕ → List ℕ → PathError
path_error_of_value name text =
    if is_empty text then path_errors.Missing name
    else if is_absolute text then path_errors.Absolute name text
    else path_errors.OutsideOfWorktree name text

-- the path a value of `path` gives: missing where it is unset or empty, refused where it is absolute or leads out
abbrev pub path_of_optional_value : List ℕ → Option (List ℕ) → Result (List ℕ) PathError
path_of_optional_value name None = Err (path_errors.Missing name)
path_of_optional_value name (Some text) = if is_valid_submodule_path text then Ok text else Err (path_error_of_value name text)

-- the last `path` of a submodule, as it is written and not tidied up; refused where it is unset or may not be one
abbrev pub path : List ℕ → List Section → Result (List ℕ) PathError
path name sections = path_of_optional_value name (value name (codes "path") sections)

-- a value of `path` is this path, and one that may be given
abbrev pub is_value_this_valid_path : List ℕ → Option (List ℕ) → Bool
is_value_this_valid_path path None = false
is_value_this_valid_path path (Some text) = bytes_eq text path && is_valid_submodule_path text

-- the first name of that path
abbrev pub name_by_path : List ℕ → List Section → Option (List ℕ)
name_by_path path sections = find (λ name. is_value_this_valid_path path (value name (codes "path") sections)) (submodule_names_of_gitmodules sections)

-- ---- url: not empty

-- a url that was read; where its text was refused, that refusal under the name of the submodule
abbrev pub url_or_submodule_url_error : List ℕ → Result Url UrlError → Result Url UrlRefusal
url_or_submodule_url_error name (Ok url) = Ok url
url_or_submodule_url_error name (Err e) = Err (url_errors.Parse name e)

-- the url a value of `url` gives: missing where it is unset or empty, refused with its cause where it is no url
abbrev pub url_of_optional_value : List ℕ → Option (List ℕ) → Result Url UrlRefusal
url_of_optional_value name None = Err (url_errors.Missing name)
url_of_optional_value name (Some text) = if is_empty text then Err (url_errors.Missing name) else url_or_submodule_url_error name (parse_url text)

-- the parts of the last `url` of a submodule; unlike `update` or `branch`, an unset one is refused
abbrev pub url : List ℕ → List Section → Result Url UrlRefusal
url name sections = url_of_optional_value name (value name (codes "url") sections)

-- ---- update: a command of `.gitmodules` is forbidden

-- the last `update` of a submodule, and the kind of file that sets it, by which a command is allowed or not
abbrev pub update_value_and_source : List ℕ → List Section → Option (List ℕ × Source)
update_value_and_source name sections = last_string_with_source (codes "submodule") (Some name) (codes "update") sections

-- an update, unless it is a command of `.gitmodules`
abbrev pub update_unless_gitmodules_command : List ℕ → Source → Update → Result Update UpdateError
update_unless_gitmodules_command name source (update_words.Command command) =
    if is_gitmodules_source source then Err (update_errors.CommandForbiddenInModulesConfiguration name command)
    else Ok (update_words.Command command)
update_unless_gitmodules_command name source update_words.Checkout = Ok update_words.Checkout
update_unless_gitmodules_command name source update_words.Rebase = Ok update_words.Rebase
update_unless_gitmodules_command name source update_words.Merge = Ok update_words.Merge
update_unless_gitmodules_command name source update_words.None = Ok update_words.None

-- an update that was read, unless it is a command of `.gitmodules`; where none was read, the text is invalid
abbrev pub update_allowed_or_error : List ℕ → List ℕ → Source → Option Update → Result Update UpdateError
update_allowed_or_error name text source None = Err (update_errors.Invalid name text)
update_allowed_or_error name text source (Some update) = update_unless_gitmodules_command name source update

-- an update that may be used, as one that is set; a refusal stays
abbrev pub update_result_as_some : Result Update UpdateError → Result (Option Update) UpdateError
update_result_as_some (Ok update) = Ok (Some update)
update_result_as_some (Err e) = Err e

-- the update that the deciding value says: none where it is unset, refused where it is invalid or forbidden
abbrev pub update_of_optional_value : List ℕ → Option (List ℕ × Source) → Result (Option Update) UpdateError
update_of_optional_value name None = Ok None
update_of_optional_value name (Some found) = update_result_as_some (update_allowed_or_error name found.0 found.1 (parse_update found.0))

-- the last `update` of a submodule; none where it is unset: the default `checkout` is not filled in
abbrev pub update : List ℕ → List Section → Result (Option Update) UpdateError
update name sections = update_of_optional_value name (update_value_and_source name sections)

-- a command is given only where the deciding value is it, behind a `!`, in a section that is not one of `.gitmodules`
abbrev pub IsAllowedUpdate : Option (List ℕ × Source) → Update → Type 0
IsAllowedUpdate found (update_words.Command command) = (source : Source) × (found ≡ Some (33 ∷ command, source)) × (is_gitmodules_source source ≡ false)
IsAllowedUpdate found update_words.Checkout = Unit {0}
IsAllowedUpdate found update_words.Rebase = Unit {0}
IsAllowedUpdate found update_words.Merge = Unit {0}
IsAllowedUpdate found update_words.None = Unit {0}

-- a command is forbidden only where the deciding value is it, behind a `!`, in a section of `.gitmodules`
abbrev pub IsForbiddenUpdateError : Option (List ℕ × Source) → UpdateError → Type 0
IsForbiddenUpdateError found (update_errors.CommandForbiddenInModulesConfiguration name command) = (source : Source) × (found ≡ Some (33 ∷ command, source)) × (is_gitmodules_source source ≡ true)
IsForbiddenUpdateError found (update_errors.Invalid name text) = Unit {0}
IsForbiddenUpdateError found update_errors.OutOfMemory = Unit {0}

-- ---- branch, fetchRecurseSubmodules, ignore, shallow

-- a branch that was read; where the text names none, a refusal with the name of the submodule and that text
abbrev pub branch_or_refspec_error : List ℕ → List ℕ → Option Branch → Result (Option Branch) BranchError
branch_or_refspec_error name text None = Err (branch_errors.Refspec name text refspec_errors.Invalid)
branch_or_refspec_error name text (Some branch) = Ok (Some branch)

-- the branch a value of `branch` names: none where it is unset, `HEAD` where it is empty, refused where it is no name
abbrev pub branch_of_optional_value : List ℕ → Option (List ℕ) → Result (Option Branch) BranchError
branch_of_optional_value name None = Ok None
branch_of_optional_value name (Some text) = branch_or_refspec_error name text (parse_branch text)

-- the branch of its remote that a submodule follows, by its last `branch`; none where that is unset
abbrev pub branch : List ℕ → List Section → Result (Option Branch) BranchError
branch name sections = branch_of_optional_value name (value name (codes "branch") sections)

-- what was read; where the text is no boolean and not `on-demand`, a refusal with the submodule's name and that text
abbrev pub fetch_recurse_or_field_error : List ℕ → Result (Option FetchRecurse) (List ℕ) → Result (Option FetchRecurse) FieldError
fetch_recurse_or_field_error name (Ok answer) = Ok answer
fetch_recurse_or_field_error name (Err text) = Err (field_errors.Invalid fields.FetchRecurseSubmodules name text)

-- the last `fetchRecurseSubmodules` of a submodule: none where it is unset, `Always` where the key has no value
abbrev pub fetch_recurse : List ℕ → List Section → Result (Option FetchRecurse) FieldError
fetch_recurse name sections = fetch_recurse_or_field_error name (fetch_recurse_of_boolean_or_text (last_boolean_value (codes "submodule") (Some name) (codes "fetchRecurseSubmodules") sections))

-- a word that was read; where the text is none of the words, a refusal with the submodule's name and that text
abbrev pub ignore_or_field_error : List ℕ → List ℕ → Option Ignore → Result (Option Ignore) FieldError
ignore_or_field_error name text None = Err (field_errors.Invalid fields.Ignore name text)
ignore_or_field_error name text (Some ignore) = Ok (Some ignore)

-- what a value of `ignore` says: none where it is unset, refused where it is none of the words
abbrev pub ignore_of_optional_value : List ℕ → Option (List ℕ) → Result (Option Ignore) FieldError
ignore_of_optional_value name None = Ok None
ignore_of_optional_value name (Some text) = ignore_or_field_error name text (parse_ignore_word text)

-- which changes of a submodule a status leaves out, by its last `ignore`; none where that is unset
abbrev pub ignore : List ℕ → List Section → Result (Option Ignore) FieldError
ignore name sections = ignore_of_optional_value name (value name (codes "ignore") sections)

-- whether only the newest commit is fetched, by the last `shallow`: none where it is unset, its text where it is no boolean
abbrev pub shallow : List ℕ → List Section → Result (Option Bool) (List ℕ)
shallow name sections = last_boolean_value (codes "submodule") (Some name) (codes "shallow") sections

-- ---- the file

-- the path of the first section that has one
abbrev pub config_path : List Section → Option (List ℕ)
config_path [] = None
config_path (section ∷ sections) = option_or section.meta.path (config_path sections)
