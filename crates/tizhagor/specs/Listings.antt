-- What `ls-files` lists of a work tree that is found.
use Rattle.std.specs.Prelude.{◌≡◌, ℕ, List, [], ◌++◌, Bool, not, ◌&&◌, ◌||◌, map, Option, Some, None, Result, Ok, Err, if◌then◌else◌}
use Rattle.std.specs.Bool.{MatchBool}
use Rattle.std.specs.Option.{option_or}
use Rattle.gitbase_core.specs.Path.{is_empty}
use Rattle.gitbase_core.specs.Steps.{and_then}
use Rattle.git_places.specs.Variables.{EnvironmentVariable}
use Rattle.git_setup.specs.declared.asked.Asked.{Asked}
use Rattle.git_setup.specs.declared.each.AskedSpec.{AskedSpec}
use Rattle.git_setup.specs.declared.found.Found.{Found}
use Rattle.command_line.specs.RulesGiven.{RulesGiven}
use Rattle.command_line.specs.declared.command.FilesAsked.{FilesAsked}
use Rattle.ls_files.specs.Choices.{needs_worktree_walk}
use Rattle.ls_files.specs.Listed.{ListsFilesOfWorktree, output_and_errors_of_report_entries, output_and_errors_of_worktree}
use Rattle.ls_files.specs.Walking.{walk_options_for_listing}
use Rattle.ls_files.specs.Wrong.{first_refusal_of_options_and_index, refusal_of_partial_ignored_directories}
use Rattle.ls_files.specs.declared.listed.Listed.{Listed}
use Rattle.ls_files.specs.declared.options.Listing.{Listing}
use Rattle.ls_files.specs.declared.options.NamedSpec.{NamedSpec}
use Rattle.ls_files.specs.declared.wrong.WrongListing.{WrongListing}
use Rattle.worktree_fs.specs.declared.interrupt.Interrupt.{Ghosts as InterruptOf}
use Rattle.worktree_fs.specs.declared.worktree.Worktree.{Ghosts as WorktreeOf}
use Rattle.worktree_fs.specs.Owners.{OwnershipByPath}
use Rattle.worktree_fs.specs.Tree.{Names}
use Rattle.worktree_report.specs.Asked.{sources_of_tree_and_setup, IsSetupValidAtRoot}
use Rattle.worktree_report.specs.declared.refusal.Refusal.{Refusal}
use Rattle.worktree_report.specs.declared.setup.Setup.{Setup}
use Rattle.tizhagor.specs.declared.refusal.CommandRefusal.{CommandRefusal}
use Rattle.tizhagor.specs.declared.refusal.CommandRefusal.TheVariants as errors
use Rattle.tizhagor.specs.declared.reply.Reply.{Reply}
use Rattle.tizhagor.specs.Asking.{found_around_asked_directory}
use Rattle.tizhagor.specs.ExcludeFiles.{read_exclude_files_into_found}
use Rattle.tizhagor.specs.Patterns.{is_nonempty_list, rules_text_of_patterns}

-- ---- what is asked of a listing

-- the options of `ls-files` with whether the words give rules; all others stay
abbrev pub ls_files_options_with_pattern_flag : Listing → Bool → Listing
ls_files_options_with_pattern_flag listing patterns = record listing { patterns = patterns }

-- there are rules of the command line, or files of rules are named
abbrev pub has_command_line_rules : RulesGiven → Bool
has_command_line_rules rules = is_nonempty_list rules.patterns || (is_nonempty_list rules.weaker || is_nonempty_list rules.stronger)

-- whether there are patterns is said by these
abbrev pub ls_files_options_of_request : FilesAsked → Listing
ls_files_options_of_request wants = ls_files_options_with_pattern_flag wants.listing (has_command_line_rules wants.rules)

-- ---- what is found for a listing

-- what is found, unless there is a reason why there is no such listing of it
abbrev pub found_or_refusal_of_wrong_listing : Found → Option WrongListing → Result Found CommandRefusal
found_or_refusal_of_wrong_listing here None = Ok here
found_or_refusal_of_wrong_listing here (Some wrong) = Err (errors.Listing wrong)

-- the whole work tree is listed: no path spec is written, and what is asked for is the top
abbrev pub lists_whole_work_tree : Asked → Found → Bool
lists_whole_work_tree asked here = is_empty here.prefix && not (is_nonempty_list asked.paths.items)

-- the first reason: of the options and the index, and then that `-i --directory` is asked of a part of the work tree
abbrev pub reason_ls_files_request_is_wrong : FilesAsked → Asked → Found → Option WrongListing
reason_ls_files_request_is_wrong wants asked here =
    option_or (first_refusal_of_options_and_index (ls_files_options_of_request wants) here.setup.index) (refusal_of_partial_ignored_directories (ls_files_options_of_request wants) (lists_whole_work_tree asked here))

-- what is found, unless there is no such listing of its index, or of a part of the work tree
unfoldable pub require_valid_ls_files_request : FilesAsked → Asked → Found → Result Found CommandRefusal
require_valid_ls_files_request wants asked here = found_or_refusal_of_wrong_listing here (reason_ls_files_request_is_wrong wants asked here)

-- The work tree around a directory and its setup, with the rules of the files that are named, or the first refusal: as for any command, and
-- then of these files.
unfoldable pub found_with_exclude_files_of_request : Names → OwnershipByPath → List ℕ → List EnvironmentVariable → Option (List ℕ) → FilesAsked → Asked → Result Found CommandRefusal
found_with_exclude_files_of_request t owned current variables directory wants asked =
    and_then (read_exclude_files_into_found t wants) (found_around_asked_directory t owned current variables directory asked)

-- the same, or the first refusal: as there, and then of the listing
abbrev pub found_checked_for_ls_files : Names → OwnershipByPath → List ℕ → List EnvironmentVariable → Option (List ℕ) → FilesAsked → Asked → Result Found CommandRefusal
found_checked_for_ls_files t owned current variables directory wants asked =
    and_then (require_valid_ls_files_request wants asked) (found_with_exclude_files_of_request t owned current variables directory wants asked)

-- ---- what is listed by it

-- the configuration says how bytes above 0x7f are written
abbrev pub ls_files_options_with_quote_path : Listing → Bool → Listing
ls_files_options_with_quote_path listing quote_path = record listing { quote_path = quote_path }

-- the options, with whether the words give rules, and with `core.quotePath` of the configuration
abbrev pub ls_files_options_for_found : FilesAsked → Found → Listing
ls_files_options_for_found wants here = ls_files_options_with_quote_path (ls_files_options_of_request wants) here.quote_path

-- the setup with the options that a listing needs, and with patterns before all other rules
abbrev pub setup_with_listing_options_and_rules : Listing → List ℕ → Setup → Setup
setup_with_listing_options_and_rules listing rules setup =
    record setup { options = walk_options_for_listing listing setup.options; overrides = rules }

-- the setup by which `ls-files` walks: with the options that it needs, and the patterns of the words before all other rules
abbrev pub ls_files_setup_for_found : FilesAsked → Found → Setup
ls_files_setup_for_found wants here = setup_with_listing_options_and_rules (ls_files_options_of_request wants) (rules_text_of_patterns wants.rules.patterns) here.setup

-- a path spec and how it was written, as `ls-files` and `clean` take it
abbrev pub named_spec_of_asked_spec : AskedSpec → NamedSpec
named_spec_of_asked_spec asked = record { text = asked.text; spec = asked.spec }

-- each path spec of what is found by itself, in order, with how it was written
abbrev pub named_specs_of_found : Found → List NamedSpec
named_specs_of_found here = map named_spec_of_asked_spec here.each

-- over a tree: by a report of the work tree, where what stands there is listed
abbrev pub ls_files_output_over_tree : Bool → Names → Found → FilesAsked → Option Listed
ls_files_output_over_tree composes t here wants =
    if needs_worktree_walk wants.listing then output_and_errors_of_worktree composes t here.root (ls_files_setup_for_found wants here) (ls_files_options_for_found wants here) here.prefix (named_specs_of_found here)
    else Some (output_and_errors_of_report_entries (ls_files_options_for_found wants here) here.prefix (named_specs_of_found here) (ls_files_setup_for_found wants here) [])

-- it can be had
abbrev pub IsSetupValidForLsFiles : Bool → Names → Found → FilesAsked → Type 0
IsSetupValidForLsFiles composes t here wants =
    MatchBool (needs_worktree_walk wants.listing) (IsSetupValidAtRoot composes (sources_of_tree_and_setup t (ls_files_setup_for_found wants here)) here.root (ls_files_setup_for_found wants here)) (Unit {0})

-- what making it says, where a worktree was `w0` and is `w1`, and an interrupt was `i0` and is `i1`
abbrev pub AnswersLsFilesOfFound : {W I : Type 0} → WorktreeOf W → InterruptOf I → W → W → I → I → FilesAsked → Found → Result Listed Refusal → Type 0
AnswersLsFilesOfFound w i w0 w1 i0 i1 wants here answer =
    ListsFilesOfWorktree w i (w.precomposes w0) w0 w1 i0 i1 here.root (ls_files_setup_for_found wants here) (ls_files_options_for_found wants here) here.prefix (named_specs_of_found here) answer

-- ---- what is said

-- the answer is no where something is told of path specs
abbrev pub reply_of_listed_files : Listed → Reply
reply_of_listed_files made = record { out = made.out; err = made.err; is_no = not (is_empty made.err) }

-- the listing as a reply, or why the walk gives none; the answer is no where something is told of path specs
abbrev pub reply_of_ls_files_answer : Result Listed Refusal → Result Reply Refusal
reply_of_ls_files_answer (Ok made) = Ok (reply_of_listed_files made)
reply_of_ls_files_answer (Err e) = Err e
