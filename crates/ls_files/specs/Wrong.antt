-- Which listings there are not: in git, or not here.
use Rattle.std.specs.Prelude.{ℕ, List, Bool, not, ◌&&◌, ◌||◌, codes, Option, Some, None, if◌then◌else◌}
use Rattle.std.specs.List.{list_any}
use Rattle.std.specs.Option.{option_or}
use Rattle.gitbase_core.specs.Entry.{is_sparse_directory_entry}
use Rattle.gitbase_core.specs.declared.entry.IndexEntry.{IndexEntry}
use Rattle.diff_files.specs.declared.error.Unsupported.{Unsupported}
use Rattle.diff_files.specs.declared.error.Unsupported.TheVariants as forms
use Rattle.ls_files.specs.declared.options.Listing.{Listing}
use Rattle.ls_files.specs.declared.wrong.WrongListing.{WrongListing}
use Rattle.ls_files.specs.declared.wrong.WrongListing.TheVariants as wrong
use Rattle.ls_files.specs.Choices.{uses_per_directory_ignore_rules, lists_index_entries, needs_worktree_walk}
use Rattle.ls_files.specs.Alone.{has_patterns_without_standard_or_directory_rules}

-- "-i: Show only ignored files in the output. Must be used with either an explicit -c or -o."
abbrev pub lacks_others_and_cached : Listing → Bool
lacks_others_and_cached l = not (l.others || l.cached)

-- there are rules to exclude paths by: those of directories, or patterns of the command line
abbrev pub has_any_exclude_rules : Listing → Bool
has_any_exclude_rules l = uses_per_directory_ignore_rules l || l.patterns

-- of `-i`, in the order in which git asks; the last two are not answered here
abbrev pub refusal_of_ignored_option_combination : Listing → Option WrongListing
refusal_of_ignored_option_combination l =
    if lacks_others_and_cached l then Some wrong.IgnoredOfNothing
    else if not (has_any_exclude_rules l) then Some wrong.IgnoredWithoutRules
    else if lists_index_entries l then Some wrong.IgnoredIndex
    else if l.directories && l.killed then Some wrong.IgnoredDirectories
    else None

-- the same of any listing: without `-i` none of it is refused
abbrev pub refusal_if_ignored_option_given : Listing → Option WrongListing
refusal_if_ignored_option_given l = if l.ignored then refusal_of_ignored_option_combination l else None

-- directories are to be shown where something in them is not ignored
abbrev pub lists_unignored_directories : Listing → Bool
lists_unignored_directories l = l.others && (l.directories && not l.ignored)

-- patterns alone are asked here about what the index does not have, each path by itself
abbrev pub refusal_if_patterns_stand_alone : Listing → Option WrongListing
refusal_if_patterns_stand_alone l = if has_patterns_without_standard_or_directory_rules l && (l.killed || lists_unignored_directories l) then Some wrong.PatternsAlone else None

-- git reads what it stands for from objects
abbrev pub refusal_if_index_is_sparse : Listing → List IndexEntry → Option WrongListing
refusal_if_index_is_sparse l entries = if (lists_index_entries l || l.killed) && list_any is_sparse_directory_entry entries then Some wrong.SparseIndex else None

-- why there is no such listing of an index
abbrev pub first_refusal_of_options_and_index : Listing → List IndexEntry → Option WrongListing
first_refusal_of_options_and_index l entries = option_or (refusal_if_ignored_option_given l) (option_or (refusal_if_patterns_stand_alone l) (refusal_if_index_is_sparse l entries))

-- Ignored directories are shown of a whole work tree alone: none where path specs are written, or one is meant since the command is called in a
-- directory.
abbrev pub refusal_of_partial_ignored_directories : Listing → Bool → Option WrongListing
refusal_of_partial_ignored_directories l whole = if l.ignored && (l.directories && not whole) then Some wrong.IgnoredDirectories else None

-- of what changed, which the index has, those that are ignored are not listed here
abbrev pub refusal_if_ignored_or_error_unmatch : Listing → Option WrongListing
refusal_if_ignored_or_error_unmatch l =
    if l.ignored then Some wrong.IgnoredIndex
    else if needs_worktree_walk l && l.error_unmatch then Some wrong.UnmatchedOfBoth
    else None

-- The same of a listing with what changed. A path spec is about something if it is about what changed or about what else a work tree holds,
-- which is not told here.
abbrev pub refusal_of_options_for_changes : Listing → Option WrongListing
refusal_of_options_for_changes l = option_or (refusal_if_ignored_option_given l) (refusal_if_ignored_or_error_unmatch l)

-- what is told of a form that is not answered
abbrev pub message_of_unsupported : Unsupported → List ℕ
message_of_unsupported forms.Repository = codes "ls-files -m is not supported where a repository stands"
message_of_unsupported forms.Conversion = codes "ls-files -m is not supported where bytes are converted"
message_of_unsupported forms.IgnoredSubmodule = codes "ls-files -m is not supported for ignored submodules"
message_of_unsupported forms.SparseIndex = codes "ls-files is not supported for what a sparse index has"
message_of_unsupported forms.Details = codes "ls-files has no stat fields of an entry"

-- what is told of it
abbrev pub message_of_wrong_listing : WrongListing → List ℕ
message_of_wrong_listing wrong.IgnoredOfNothing = codes "ls-files -i must be used with either -o or -c"
message_of_wrong_listing wrong.IgnoredWithoutRules = codes "ls-files --ignored needs some exclude pattern"
message_of_wrong_listing wrong.IgnoredIndex = codes "ls-files -i is not supported for what the index has"
message_of_wrong_listing wrong.IgnoredDirectories = codes "ls-files -i --directory is not supported with -k, path specs, or below the top"
message_of_wrong_listing wrong.SparseIndex = codes "ls-files is not supported for what a sparse index has"
message_of_wrong_listing wrong.PatternsAlone = codes "ls-files -x or -X alone is not supported with -k, or with --directory and no -i"
message_of_wrong_listing wrong.UnmatchedOfBoth = codes "ls-files --error-unmatch is not supported with -d or -m beside -o or -k"
message_of_wrong_listing wrong.UnreadRules = codes "ls-files -i is not supported with a rules file that is not read"
message_of_wrong_listing (wrong.Unsupported form) = message_of_unsupported form
