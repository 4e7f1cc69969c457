-- What `clean` names of a work tree that is found.
use Rattle.std.specs.Prelude.{ℕ, List, [], Bool, true, false, ◌||◌, codes, Option, Some, None, Result, Ok, Err, if◌then◌else◌}
use Rattle.gitbase_core.specs.Steps.{and_then}
use Rattle.git_clean.specs.Cleaned.{AnswersCleanDryRun, dry_run_text_over_tree}
use Rattle.git_clean.specs.Walking.{walk_options_for_cleaning}
use Rattle.git_clean.specs.Wrong.{reason_cleaning_unsupported}
use Rattle.git_clean.specs.declared.options.Cleaning.{Cleaning}
use Rattle.git_clean.specs.declared.wrong.UnsupportedCleaning.{UnsupportedCleaning}
use Rattle.git_config_lite.specs.Lookups.{last_boolean_value}
use Rattle.git_config_lite.specs.Sections.{Section}
use Rattle.git_places.specs.Variables.{EnvironmentVariable}
use Rattle.git_setup.specs.declared.asked.Asked.{Asked}
use Rattle.git_setup.specs.declared.found.Found.{Found}
use Rattle.command_line.specs.Cleanings.{is_force_given_counting_config, is_force_given_twice_counting_config}
use Rattle.command_line.specs.declared.clean_options.Force.{Force}
use Rattle.command_line.specs.declared.command.CleanAsked.{CleanAsked}
use Rattle.worktree_fs.specs.declared.interrupt.Interrupt.{Ghosts as InterruptOf}
use Rattle.worktree_fs.specs.declared.worktree.Worktree.{Ghosts as WorktreeOf}
use Rattle.worktree_fs.specs.Owners.{OwnershipByPath}
use Rattle.worktree_fs.specs.Tree.{Names}
use Rattle.worktree_report.specs.Asked.{sources_of_tree_and_setup, IsSetupValidAtRoot}
use Rattle.worktree_report.specs.declared.refusal.Refusal.{Refusal}
use Rattle.worktree_report.specs.declared.setup.Setup.{Setup}
use Rattle.tizhagor.specs.declared.require_force.Required.{Required}
use Rattle.tizhagor.specs.declared.require_force.Required.TheVariants as required
use Rattle.tizhagor.specs.declared.require_force.WrongClean.{WrongClean}
use Rattle.tizhagor.specs.declared.require_force.WrongClean.TheVariants as wrongs
use Rattle.tizhagor.specs.declared.refusal.CommandRefusal.{CommandRefusal}
use Rattle.tizhagor.specs.declared.refusal.CommandRefusal.TheVariants as errors
use Rattle.tizhagor.specs.Asking.{found_around_current_directory}
use Rattle.tizhagor.specs.Listings.{named_specs_of_found}
use Rattle.tizhagor.specs.Patterns.{is_nonempty_list, rules_text_of_patterns}

-- ---- what the configuration says of `-f`

-- `clean.requireForce` by its value, if it has one
abbrev pub require_force_of_boolean : Result (Option Bool) (List ℕ) → Required
require_force_of_boolean (Ok None) = required.Unsaid
require_force_of_boolean (Ok (Some is)) = if is then required.Yes else required.No
require_force_of_boolean (Err text) = required.Unread

-- what the last `clean.requireForce` says: `Unsaid` where there is none, `Unread` where its value is no boolean
abbrev pub read_require_force : List Section → Required
read_require_force sections = require_force_of_boolean (last_boolean_value (codes "clean") None (codes "requireforce") sections)

-- where it is false that counts for one `-f`
abbrev pub is_require_force_false : Required → Bool
is_require_force_false required.Unsaid = false
is_require_force_false required.Yes = false
is_require_force_false required.No = true
is_require_force_false required.Unread = false

-- `clean.requireForce` is false, not merely unsaid: it then counts for one `-f`
abbrev pub has_require_force_false : Found → Bool
has_require_force_false here = is_require_force_false (read_require_force here.config.sections)

-- git refuses to remove, and to say what it would remove
abbrev pub reason_force_is_missing : Bool → Force → Required → Option WrongClean
reason_force_is_missing is_dry force required.Unread = Some wrongs.Unread
reason_force_is_missing is_dry force required.Unsaid = if is_dry || is_force_given_counting_config force false then None else Some wrongs.Unforced
reason_force_is_missing is_dry force required.Yes = if is_dry || is_force_given_counting_config force false then None else Some wrongs.UnforcedAsSaid
reason_force_is_missing is_dry force required.No = if is_dry || is_force_given_counting_config force true then None else Some wrongs.UnforcedAsSaid

-- why `clean` is refused: neither `-n` nor the `-f` that is wanted stands, or `clean.requireForce` is no boolean; else none
abbrev pub reason_force_is_missing_in_found : CleanAsked → Found → Option WrongClean
reason_force_is_missing_in_found wants here = reason_force_is_missing wants.cleaning.dry_run wants.force (read_require_force here.config.sections)

-- ---- what is asked of a cleaning

-- the options of `clean` with whether `-e` gives patterns; all others stay
abbrev pub clean_options_with_pattern_flag : Cleaning → Bool → Cleaning
clean_options_with_pattern_flag cleaning patterns = record cleaning { patterns = patterns }

-- whether there are patterns is said by these
abbrev pub clean_options_of_request : CleanAsked → Cleaning
clean_options_of_request wants = clean_options_with_pattern_flag wants.cleaning (is_nonempty_list wants.patterns.items)

-- ---- what is found for a cleaning

-- the options with which a work tree is found
abbrev pub request_with_walk_options_for_clean : CleanAsked → Asked → Asked
request_with_walk_options_for_clean wants asked = record asked { options = walk_options_for_cleaning (clean_options_of_request wants) asked.options }

-- a reason of the options, if there is one, among the reasons of the command, which may be a missing `-f` too
abbrev pub wrong_clean_of_wrong_cleaning : Option UnsupportedCleaning → Option WrongClean
wrong_clean_of_wrong_cleaning None = None
wrong_clean_of_wrong_cleaning (Some wrong) = Some (wrongs.Wrong wrong)

-- the first reason wins, and the second counts where there is no first
abbrev pub first_reason_clean_is_wrong : Option WrongClean → Option WrongClean → Option WrongClean
first_reason_clean_is_wrong None other = other
first_reason_clean_is_wrong (Some wrong) other = Some wrong

-- what is found, or the first reason why there is no such cleaning of it
abbrev pub found_or_wrong_clean : Found → Option WrongClean → Result Found CommandRefusal
found_or_wrong_clean here None = Ok here
found_or_wrong_clean here (Some wrong) = Err (errors.Cleaning wrong)

-- what is found, unless `-f` is missing; then unless the options are refused, by git or since they are not supported here
abbrev pub require_valid_clean_request : CleanAsked → Found → Result Found CommandRefusal
require_valid_clean_request wants here = found_or_wrong_clean here (first_reason_clean_is_wrong (reason_force_is_missing_in_found wants here) (wrong_clean_of_wrong_cleaning (reason_cleaning_unsupported (clean_options_of_request wants) here.setup)))

-- The work tree around a directory and its setup, or the first refusal: as for any command, and then of the cleaning.
abbrev pub found_checked_for_clean : Names → OwnershipByPath → List ℕ → List EnvironmentVariable → Option (List ℕ) → CleanAsked → Asked → Result Found CommandRefusal
found_checked_for_clean t owned current variables directory wants asked =
    and_then (require_valid_clean_request wants) (found_around_current_directory t owned current variables directory (request_with_walk_options_for_clean wants asked))

-- ---- what is named by it

-- repositories too, by how often `-f` stands; and the configuration says how bytes above 0x7f are written
abbrev pub clean_options_with_repositories_and_quoting : Cleaning → Bool → Bool → Cleaning
clean_options_with_repositories_and_quoting cleaning repositories quote_path = record cleaning { repositories = repositories; quote_path = quote_path }

-- the options with what the configuration says: `core.quotePath`, and whether the `-f` that are given make repositories go
abbrev pub clean_options_for_found : CleanAsked → Found → Cleaning
clean_options_for_found wants here = clean_options_with_repositories_and_quoting (clean_options_of_request wants) (is_force_given_twice_counting_config wants.force (has_require_force_false here)) here.quote_path

-- the setup with the patterns before all other rules, and the whole of the work tree to look at
abbrev pub whole_tree_setup_with_rules : List ℕ → Setup → Setup
whole_tree_setup_with_rules rules setup = record setup { root = Some (codes "."); overrides = rules }

-- the setup by which `clean` walks: the whole work tree, with the patterns of `-e` before all other rules
abbrev pub clean_setup_for_found : CleanAsked → Found → Setup
clean_setup_for_found wants here = whole_tree_setup_with_rules (rules_text_of_patterns wants.patterns.items) here.setup

-- over a tree, by a report of the work tree
abbrev pub clean_dry_run_text_of_found : Bool → Names → Found → CleanAsked → Option (List ℕ)
clean_dry_run_text_of_found composes t here wants = dry_run_text_over_tree composes t here.root (clean_setup_for_found wants here) (clean_options_for_found wants here) here.prefix (named_specs_of_found here)

-- it can be had
abbrev pub IsSetupValidForClean : Bool → Names → Found → CleanAsked → Type 0
IsSetupValidForClean composes t here wants = IsSetupValidAtRoot composes (sources_of_tree_and_setup t (clean_setup_for_found wants here)) here.root (clean_setup_for_found wants here)

-- what making it says, where a worktree was `w0` and is `w1`, and an interrupt was `i0` and is `i1`
abbrev pub AnswersCleanDryRunOfFound : {W I : Type 0} → WorktreeOf W → InterruptOf I → W → W → I → I → CleanAsked → Found → Result (List ℕ) Refusal → Type 0
AnswersCleanDryRunOfFound w i w0 w1 i0 i1 wants here answer =
    AnswersCleanDryRun w i (w.precomposes w0) w0 w1 i0 i1 here.root (clean_setup_for_found wants here) (clean_options_for_found wants here) here.prefix (named_specs_of_found here) answer
