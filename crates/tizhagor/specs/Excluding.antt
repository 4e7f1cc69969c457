-- What `ls-files -i -c` lists of a work tree.
use Rattle.std.specs.Prelude.{ℕ, List, Option, Result, Ok, Err}
use Rattle.gitbase_core.specs.Steps.{and_then}
use Rattle.command_line.specs.declared.command.FilesAsked.{FilesAsked}
use Rattle.git_places.specs.Variables.{EnvironmentVariable}
use Rattle.git_setup.specs.declared.asked.Asked.{Asked}
use Rattle.git_setup.specs.declared.found.Found.{Found}
use Rattle.ls_files.specs.Excluded.{output_of_ignored_index_or_error, refusal_if_no_rules_or_sparse}
use Rattle.ls_files.specs.declared.excluded_error.ExcludedError.{ExcludedError}
use Rattle.ls_files.specs.declared.excluded_error.ExcludedError.TheVariants as excluding
use Rattle.ls_files.specs.declared.listed.Listed.{Listed}
use Rattle.ls_files.specs.declared.wrong.WrongListing.TheVariants as wrong
use Rattle.worktree_fs.specs.Owners.{OwnershipByPath}
use Rattle.worktree_fs.specs.Tree.{Names}
use Rattle.tizhagor.specs.declared.refusal.CommandRefusal.{CommandRefusal}
use Rattle.tizhagor.specs.declared.refusal.CommandRefusal.TheVariants as errors
use Rattle.tizhagor.specs.declared.reply.Reply.{Reply}
use Rattle.tizhagor.specs.Listings.{named_specs_of_found, ls_files_options_for_found, ls_files_options_of_request, reply_of_listed_files, found_with_exclude_files_of_request, ls_files_setup_for_found, found_or_refusal_of_wrong_listing}
use Rattle.tizhagor.specs.Refusals.{fault, memory}

-- ---- what is found

-- what is found, unless there is no such listing of its index
abbrev pub require_valid_ignored_index_listing : FilesAsked → Found → Result Found CommandRefusal
require_valid_ignored_index_listing wants here = found_or_refusal_of_wrong_listing here (refusal_if_no_rules_or_sparse (ls_files_options_of_request wants) here.setup.index)

-- the work tree around a directory and its setup, with the rules of the files that are named, or the first refusal: as for any listing, and
-- then of this one
abbrev pub found_checked_for_ignored_index : Names → OwnershipByPath → List ℕ → List EnvironmentVariable → Option (List ℕ) → FilesAsked → Asked → Result Found CommandRefusal
found_checked_for_ignored_index t owned current variables directory wants asked =
    and_then (require_valid_ignored_index_listing wants) (found_with_exclude_files_of_request t owned current variables directory wants asked)

-- ---- what is said

-- why the ignored of the index are not listed, told to the user: a rules file is not read, a fault, or want of memory
abbrev pub here_refusal_of_ignored_index_error : ExcludedError → CommandRefusal
here_refusal_of_ignored_index_error excluding.Unread = errors.Listing wrong.UnreadRules
here_refusal_of_ignored_index_error excluding.Fault = fault
here_refusal_of_ignored_index_error excluding.OutOfMemory = memory

-- the listing as a reply, or why there is none; the answer is no where something is told of path specs
abbrev pub reply_of_ignored_index_listing : Result Listed ExcludedError → Result Reply CommandRefusal
reply_of_ignored_index_listing (Ok made) = Ok (reply_of_listed_files made)
reply_of_ignored_index_listing (Err e) = Err (here_refusal_of_ignored_index_error e)

-- by what was found
abbrev pub ignored_index_reply_of_found : Names → FilesAsked → Found → Result Reply CommandRefusal
ignored_index_reply_of_found t wants here =
    reply_of_ignored_index_listing (output_of_ignored_index_or_error t here.root (ls_files_setup_for_found wants here) (ls_files_options_for_found wants here) here.prefix (named_specs_of_found here))

-- what is said of the work tree around a directory, or the first refusal
abbrev pub ignored_index_reply_around_directory : Names → OwnershipByPath → List ℕ → List EnvironmentVariable → Option (List ℕ) → FilesAsked → Asked → Result Reply CommandRefusal
ignored_index_reply_around_directory t owned current variables directory wants asked =
    and_then (λ (here : Found). ignored_index_reply_of_found t wants here) (found_checked_for_ignored_index t owned current variables directory wants asked)
