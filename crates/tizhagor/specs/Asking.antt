-- What is asked of a work tree, and what is found of it.
use Rattle.std.specs.Prelude.{ℕ, List, Bool, true, not, ◌&&◌, bytes_eq, is_some, if◌then◌else◌, Option, Some, None, Result, Ok, Err}
use Rattle.gitbase_core.specs.Steps.{and_then}
use Rattle.git_places.specs.Variables.{EnvironmentVariable, surroundings_of_variables}
use Rattle.git_setup.specs.Found.{find_and_read_setup}
use Rattle.git_setup.specs.declared.asked.Asked.{Asked}
use Rattle.git_setup.specs.declared.found.Found.{Found}
use Rattle.clean_plan.specs.Prepared.{options_prepared_for_plan}
use Rattle.worktree_fs.specs.Owners.{OwnershipByPath}
use Rattle.worktree_fs.specs.Tree.{Names}
use Rattle.worktree_report.specs.declared.setup.SetupOptions.{SetupOptions}
use Rattle.tizhagor.specs.declared.call.Call.{Call}
use Rattle.tizhagor.specs.declared.call.Call.TheVariants as calls
use Rattle.tizhagor.specs.declared.refusal.CommandRefusal.{CommandRefusal}
use Rattle.tizhagor.specs.declared.refusal.CommandRefusal.TheVariants as errors
use Rattle.tizhagor.specs.Directory.{resolve_named_directory}
use Rattle.tizhagor.specs.Refusals.{git_result_with_here_refusal}

-- the options with which a work tree is found: a plan prepares them, and submodules are asked for where what becomes of them is
abbrev pub setup_options_for_call : Call → SetupOptions → SetupOptions
setup_options_for_call calls.Report options = options
setup_options_for_call (calls.Plan what finding) options = options_prepared_for_plan finding options
setup_options_for_call calls.Modules options = record options { submodules = true }
setup_options_for_call calls.State options = options

-- the same request, with the options of the setup as the call wants them: `plan` prepares them, `modules` asks for submodules
abbrev pub request_with_call_options : Call → Asked → Asked
request_with_call_options call asked = record asked { options = setup_options_for_call call asked.options }

-- the directory that `-C` names from the current one, if it names one
abbrev pub resolve_directory_or_current : Names → List ℕ → Option (List ℕ) → Result (List ℕ) CommandRefusal
resolve_directory_or_current t current None = Ok current
resolve_directory_or_current t current (Some name) = resolve_named_directory t current name

-- the work tree around this directory and its setup, with the variables that git heeds; or git's refusal
abbrev pub found_from_directory : Names → OwnershipByPath → List EnvironmentVariable → Asked → List ℕ → Result Found CommandRefusal
found_from_directory t owned variables asked directory = git_result_with_here_refusal (find_and_read_setup t owned (surroundings_of_variables directory variables) asked)

-- a directory, if it is the current one
abbrev pub require_current_directory : List ℕ → List ℕ → Result (List ℕ) CommandRefusal
require_current_directory current directory = if bytes_eq directory current then Ok directory else Err errors.Elsewhere

-- The work tree around the current directory, and the setup that its repository gives, or the first refusal: of another directory, then
-- of the repository.
unfoldable pub found_around_current_directory : Names → OwnershipByPath → List ℕ → List EnvironmentVariable → Option (List ℕ) → Asked → Result Found CommandRefusal
found_around_current_directory t owned current variables directory asked =
    and_then (found_from_directory t owned variables asked) (and_then (require_current_directory current) (resolve_directory_or_current t current directory))

-- what may be deleted is asked for, and the current directory is not the top of the work tree: the paths that are written lead from there
abbrev pub deletes_away_from_top : SetupOptions → List ℕ → Found → Bool
deletes_away_from_top options current here = is_some options.for_deletion && not (bytes_eq here.root current)

-- what is found, unless what may be deleted is asked for elsewhere than at the top
abbrev pub require_top_if_deleting : SetupOptions → List ℕ → Found → Result Found CommandRefusal
require_top_if_deleting options current here = if deletes_away_from_top options current here then Err (errors.NotAtTop here.root) else Ok here

-- the same, refused where the options ask what may be deleted and `current` is not the top of the work tree
abbrev pub found_requiring_top_to_delete : Names → OwnershipByPath → List ℕ → List EnvironmentVariable → Asked → List ℕ → Result Found CommandRefusal
found_requiring_top_to_delete t owned current variables asked directory = and_then (require_top_if_deleting asked.options current) (found_from_directory t owned variables asked directory)

-- The work tree around a directory, and the setup that its repository gives, or the first refusal: of the directory, then of the
-- repository, and then of a deletion that is asked for below the top or from elsewhere.
unfoldable pub found_around_asked_directory : Names → OwnershipByPath → List ℕ → List EnvironmentVariable → Option (List ℕ) → Asked → Result Found CommandRefusal
found_around_asked_directory t owned current variables directory asked = and_then (found_requiring_top_to_delete t owned current variables asked) (resolve_directory_or_current t current directory)
