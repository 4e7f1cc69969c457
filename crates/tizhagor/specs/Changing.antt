-- What `ls-files -d` and `-m` list of a work tree.
use Rattle.std.specs.Prelude.{ℕ, List, Bool, map, Option, Some, None, Result, Ok, Err}
use Rattle.gitbase_core.specs.Steps.{and_then}
use Rattle.command_line.specs.Comparings.{default_diff_files_request}
use Rattle.command_line.specs.declared.command.FilesAsked.{FilesAsked}
use Rattle.diff_files.specs.Stats.{StatsByPath}
use Rattle.diff_files.specs.declared.comparison.Comparison.{Comparison}
use Rattle.ls_files.specs.declared.changed_error.ChangedError.{ChangedError}
use Rattle.ls_files.specs.declared.changed_error.ChangedError.TheVariants as differences
use Rattle.diff_files.specs.declared.error.Unsupported.{Unsupported}
use Rattle.git_places.specs.Variables.{EnvironmentVariable}
use Rattle.git_setup.specs.FromDirectory as setups
use Rattle.git_setup.specs.declared.asked.Asked.{Asked}
use Rattle.git_setup.specs.declared.compared.Compared.{Compared}
use Rattle.git_setup.specs.declared.from_directory.ComparedFrom.{ComparedFrom}
use Rattle.git_setup.specs.declared.settings.Settings.{Settings}
use Rattle.ls_files.specs.Changed.{output_of_changes_or_unsupported}
use Rattle.ls_files.specs.Wrong.{refusal_of_options_for_changes}
use Rattle.ls_files.specs.declared.listed.Listed.{Listed}
use Rattle.ls_files.specs.declared.options.Listing.{Listing}
use Rattle.ls_files.specs.declared.options.NamedSpec.{NamedSpec}
use Rattle.ls_files.specs.declared.standings.DeletedModifiedChoice.{DeletedModifiedChoice}
use Rattle.ls_files.specs.declared.wrong.WrongListing.{WrongListing}
use Rattle.ls_files.specs.declared.wrong.WrongListing.TheVariants as wrong
use Rattle.worktree_fs.specs.Owners.{OwnershipByPath}
use Rattle.worktree_fs.specs.Tree.{Names}
use Rattle.tizhagor.specs.declared.compare.Placed.{Placed}
use Rattle.tizhagor.specs.declared.refusal.CommandRefusal.{CommandRefusal}
use Rattle.tizhagor.specs.declared.refusal.CommandRefusal.TheVariants as errors
use Rattle.tizhagor.specs.declared.reply.Reply.{Reply}
use Rattle.tizhagor.specs.Comparing.{comparison_of_request_and_settings, index_mtime_of_git_dir, find_work_tree_and_repository_places}
use Rattle.tizhagor.specs.Listings.{ls_files_options_of_request, ls_files_options_with_quote_path, named_spec_of_asked_spec, reply_of_listed_files}
use Rattle.tizhagor.specs.Refusals.{git_result_with_here_refusal, fault, memory}

-- ---- what is read

-- the index with its details, the settings and each path spec, as they are read from the repository; or git's first refusal
abbrev pub inputs_for_listing_changes_in_tree : Names → Placed → Asked → Result ComparedFrom CommandRefusal
inputs_for_listing_changes_in_tree t placed asked = git_result_with_here_refusal (setups.read_comparison_setup_from_directory t placed.places placed.around asked.prefers_current asked.paths.items)

-- what was read, unless there is a reason why there is no such listing
abbrev pub inputs_or_wrong_listing_refusal : ComparedFrom → Option WrongListing → Result ComparedFrom CommandRefusal
inputs_or_wrong_listing_refusal compared None = Ok compared
inputs_or_wrong_listing_refusal compared (Some why) = Err (errors.Listing why)

-- what is read, unless there is no such listing
abbrev pub require_valid_listing_of_changes : FilesAsked → ComparedFrom → Result ComparedFrom CommandRefusal
require_valid_listing_of_changes wants compared = inputs_or_wrong_listing_refusal compared (refusal_of_options_for_changes (ls_files_options_of_request wants))

-- what is read, or the first refusal: of the reading, and then of options such as `-i`, with which no changes are listed here
unfoldable pub checked_inputs_for_listing_changes : Names → Placed → Asked → FilesAsked → Result ComparedFrom CommandRefusal
checked_inputs_for_listing_changes t placed asked wants = and_then (require_valid_listing_of_changes wants) (inputs_for_listing_changes_in_tree t placed asked)

-- ---- what is asked of it

-- both are compared as `diff-files` without options compares them; how it prints says nothing here
abbrev pub default_comparison_of_settings : Settings → ℕ → Comparison
default_comparison_of_settings settings time = comparison_of_request_and_settings default_diff_files_request settings time

-- the configuration says how bytes above 0x7f are written
abbrev pub ls_files_options_with_config_quoting : FilesAsked → Settings → Listing
ls_files_options_with_config_quoting wants settings = ls_files_options_with_quote_path (ls_files_options_of_request wants) settings.quote_path

-- ---- what is said

-- why no changes are listed, told to the user: a form that is not supported here, a fault, or want of memory
abbrev pub here_refusal_of_changed_error : ChangedError → CommandRefusal
here_refusal_of_changed_error (differences.Unsupported form) = errors.Listing (wrong.Unsupported form)
here_refusal_of_changed_error differences.Fault = fault
here_refusal_of_changed_error differences.OutOfMemory = memory

-- what the code listed, as a reply, or why it listed nothing, a fault or want of memory among the reasons
abbrev pub reply_of_deleted_and_modified : Result Listed ChangedError → Result Reply CommandRefusal
reply_of_deleted_and_modified (Ok made) = Ok (reply_of_listed_files made)
reply_of_deleted_and_modified (Err e) = Err (here_refusal_of_changed_error e)

-- the same where nothing fails: the one reason is a form that is not supported here, as where a repository stands
abbrev pub reply_of_listed_changes_or_unsupported : Result Listed Unsupported → Result Reply CommandRefusal
reply_of_listed_changes_or_unsupported (Ok made) = Ok (reply_of_listed_files made)
reply_of_listed_changes_or_unsupported (Err form) = Err (errors.Listing (wrong.Unsupported form))

-- what is listed of a work tree and its index, where that was written at a time, in a directory and with each path spec
unfoldable pub changed_files_reply_of_comparison : Names → StatsByPath → FilesAsked → DeletedModifiedChoice → Compared → List ℕ → List NamedSpec → ℕ → Result Reply CommandRefusal
changed_files_reply_of_comparison t told wants standings compared prefix named time =
    reply_of_listed_changes_or_unsupported
    (output_of_changes_or_unsupported (record { tree = t; stats = told }) compared.root compared.index compared.details (default_comparison_of_settings compared.settings time) standings
    (ls_files_options_with_config_quoting wants compared.settings) prefix named compared.specs)

-- the listing by what was read, in its directory and with each path spec; `time` is when the index was written, in seconds
abbrev pub changed_files_reply_from_directory : Names → StatsByPath → FilesAsked → DeletedModifiedChoice → ComparedFrom → ℕ → Result Reply CommandRefusal
changed_files_reply_from_directory t told wants standings from time =
    changed_files_reply_of_comparison t told wants standings from.compared from.prefix (map named_spec_of_asked_spec from.each) time

-- the listing where the index was written at `time`: what it needs is read first, or refused
abbrev pub changed_files_reply_at_index_time : Names → StatsByPath → Placed → Asked → FilesAsked → DeletedModifiedChoice → ℕ → Result Reply CommandRefusal
changed_files_reply_at_index_time t told placed asked wants standings time =
    and_then (λ (compared : ComparedFrom). changed_files_reply_from_directory t told wants standings compared time) (checked_inputs_for_listing_changes t placed asked wants)

-- the listing of a work tree whose repository is found: the time of the index file is asked for before the index is read
abbrev pub changed_files_reply_of_placed : Names → StatsByPath → Placed → Asked → FilesAsked → DeletedModifiedChoice → Result Reply CommandRefusal
changed_files_reply_of_placed t told placed asked wants standings =
    and_then (λ (time : ℕ). changed_files_reply_at_index_time t told placed asked wants standings time) (index_mtime_of_git_dir t told placed.places.git)

-- what is said of the work tree around a directory, or the first refusal
abbrev pub changed_files_reply_around_directory : Names → OwnershipByPath → StatsByPath → List ℕ → List EnvironmentVariable → Option (List ℕ) → Asked → FilesAsked → DeletedModifiedChoice → Result Reply CommandRefusal
changed_files_reply_around_directory t owned told current variables directory asked wants standings =
    and_then (λ (placed : Placed). changed_files_reply_of_placed t told placed asked wants standings) (find_work_tree_and_repository_places t owned current variables directory)
