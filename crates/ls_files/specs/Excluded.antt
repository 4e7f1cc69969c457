-- What ignore rules exclude of an index: git-ls-files(1), "-i: .. When showing files in the index, print only those matched by an exclude
-- pattern".
use Rattle.std.specs.Prelude.{ℕ, List, [], ◌∷◌, ◌++◌, Bool, true, false, not, ◌&&◌, filter, Option, Some, None, Result, Ok, Err, if◌then◌else◌}
use Rattle.std.specs.List.{list_all, list_any}
use Rattle.gitbase_core.specs.Path.{components, path_joined_with_slash}
use Rattle.gitbase_core.specs.Steps.{and_then}
use Rattle.gitbase_core.specs.declared.entry.IndexEntry.{IndexEntry}
use Rattle.gitbase_core.specs.Entry.{is_sparse_directory_entry}
use Rattle.glob_rules.specs.Ignore.{RulesList}
use Rattle.glob_rules.specs.declared.Case.{Case}
use Rattle.worktree_fs.specs.Paths.{all_but_last, all_prefixes_shortest_first, is_relative_without_dots, slash_joined_components}
use Rattle.worktree_fs.specs.Answers.{kind_of_lookup}
use Rattle.worktree_fs.specs.Tree.{Names, look}
use Rattle.worktree_fs.specs.declared.answers.NodeKind.{NodeKind}
use Rattle.worktree_fs.specs.declared.answers.NodeKind.TheVariants as kinds
use Rattle.worktree_report.specs.Asked.{sources_of_tree_and_setup}
use Rattle.worktree_report.specs.Excluding.{stack_setup_of_setup}
use Rattle.worktree_report.specs.declared.setup.Setup.{Setup}
use Rattle.worktree_stack.specs.Excludes.{exclude, is_excluding_decision}
use Rattle.worktree_stack.specs.Mappings.{case_by_ignore_case}
use Rattle.worktree_stack.specs.Reading.{TreeAndObjects, is_read_without_refusal, rules_texts_of_directory, rulebook_of_stack_setup}
use Rattle.worktree_stack.specs.Setup.{StackSetup}
use Rattle.worktree_stack.specs.declared.error.AtPathError.{AtPathError}
use Rattle.worktree_stack.specs.declared.error.AtPathError.TheVariants as lookups
use Rattle.worktree_stack.specs.declared.error.BlobWhy.{BlobWhy}
use Rattle.worktree_stack.specs.declared.error.BlobWhy.TheVariants as blobs
use Rattle.worktree_stack.specs.declared.error.RulesWhy.{RulesWhy}
use Rattle.worktree_stack.specs.declared.error.RulesWhy.TheVariants as rules
use Rattle.ls_files.specs.declared.excluded_error.ExcludedError.{ExcludedError}
use Rattle.ls_files.specs.declared.excluded_error.ExcludedError.TheVariants as errors
use Rattle.ls_files.specs.declared.listed.Listed.{Listed}
use Rattle.ls_files.specs.declared.options.Listing.{Listing}
use Rattle.ls_files.specs.declared.options.NamedSpec.{NamedSpec}
use Rattle.ls_files.specs.declared.wrong.WrongListing.{WrongListing}
use Rattle.ls_files.specs.declared.wrong.WrongListing.TheVariants as wrong
use Rattle.ls_files.specs.Alone.{has_patterns_without_standard_or_directory_rules, is_excluded, rules_from_setup_patterns}
use Rattle.ls_files.specs.Choices.{needs_worktree_walk}
use Rattle.ls_files.specs.Listed.{output_and_errors_of_all_listed}
use Rattle.ls_files.specs.Wrong.{has_any_exclude_rules}

-- ---- which listings there are

-- of the index alone that is listed which rules exclude
abbrev pub lists_only_ignored_index_entries : Listing → Bool
lists_only_ignored_index_entries l = l.ignored && (l.cached && not (needs_worktree_walk l))

-- why there is no such listing of an index
abbrev pub refusal_if_no_rules_or_sparse : Listing → List IndexEntry → Option WrongListing
refusal_if_no_rules_or_sparse l entries =
    if not (has_any_exclude_rules l) then Some wrong.IgnoredWithoutRules
    else if list_any is_sparse_directory_entry entries then Some wrong.SparseIndex
    else None

-- ---- what stands at a path

-- a directory stands there, whatever the index has of it; a link is not followed
abbrev pub is_directory_node_kind : Option NodeKind → Bool
is_directory_node_kind None = false
is_directory_node_kind (Some kinds.File) = false
is_directory_node_kind (Some kinds.Symlink) = false
is_directory_node_kind (Some kinds.Directory) = true
is_directory_node_kind (Some kinds.Untrackable) = false

-- a directory stands at a path from the top; links on the way to it are followed
abbrev pub is_worktree_path_directory : Names → List ℕ → List ℕ → Bool
is_worktree_path_directory t root path = is_directory_node_kind (kind_of_lookup (look t (path_joined_with_slash root path) false))

-- ---- by the rules of directories

-- the rules files of the directories above a path are read
abbrev pub are_rules_above_read : StackSetup → TreeAndObjects → List (List ℕ) → Bool
are_rules_above_read made s names = list_all (λ directory. is_read_without_refusal (rules_texts_of_directory made s (slash_joined_components directory))) (all_prefixes_shortest_first (all_but_last names))

-- a path can be looked up: it is relative without `.` and `..`, and every rules file above it is read
abbrev pub is_path_normal_and_rules_read : StackSetup → TreeAndObjects → List ℕ → Bool
is_path_normal_and_rules_read made s path = is_relative_without_dots path && are_rules_above_read made s (components path)

-- the rule that decides about a path excludes it, as that of a directory or not
abbrev pub do_rules_exclude_path : StackSetup → TreeAndObjects → List ℕ → Bool → Bool
do_rules_exclude_path made s path is_dir = is_excluding_decision (exclude (rulebook_of_stack_setup made s) (components path) (Some is_dir))

-- the same, if the rules above it are read
unfoldable pub exclusion_or_unread : StackSetup → TreeAndObjects → List ℕ → Bool → Result Bool ExcludedError
exclusion_or_unread made s path is_dir = if is_path_normal_and_rules_read made s path then Ok (do_rules_exclude_path made s path is_dir) else Err errors.Unread

-- an entry behind others, if it is excluded
abbrev pub append_entry_if_excluded : List IndexEntry → IndexEntry → Bool → List IndexEntry
append_entry_if_excluded done e excluded = if excluded then done ++ e ∷ [] else done

-- the path of an entry, by what stands there
abbrev pub exclusion_of_index_entry : Names → List ℕ → Setup → StackSetup → IndexEntry → Result Bool ExcludedError
exclusion_of_index_entry t root setup made e = exclusion_or_unread made (sources_of_tree_and_setup t setup) e.path (is_worktree_path_directory t root e.path)

-- those of some entries that are excluded, in their order, behind others
abbrev pub excluded_entries_appended : Names → List ℕ → Setup → StackSetup → List IndexEntry → List IndexEntry → Result (List IndexEntry) ExcludedError
excluded_entries_appended t root setup made done [] = Ok done
excluded_entries_appended t root setup made done (e ∷ entries) =
    and_then (λ excluded. excluded_entries_appended t root setup made (append_entry_if_excluded done e excluded) entries) (exclusion_of_index_entry t root setup made e)

-- ---- by patterns alone

-- a pattern excludes an entry, or a directory above it
abbrev pub do_patterns_exclude_entry : Names → List ℕ → List RulesList → Case → IndexEntry → Bool
do_patterns_exclude_entry t root patterns case e = is_excluded patterns case (record { path = e.path; holds_names = is_worktree_path_directory t root e.path })

-- those of some entries that patterns exclude, in their order
abbrev pub entries_excluded_by_patterns : Names → List ℕ → List RulesList → Case → List IndexEntry → List IndexEntry
entries_excluded_by_patterns t root patterns case entries = filter (do_patterns_exclude_entry t root patterns case) entries

-- ---- the listing

-- The entries of an index that are excluded, in its order. git takes no heed of the mode that the index has: what stands at a path says
-- whether it is that of a directory.
abbrev pub excluded_entries_of_setup : Names → List ℕ → Setup → Listing → Result (List IndexEntry) ExcludedError
excluded_entries_of_setup t root setup l =
    if has_patterns_without_standard_or_directory_rules l then Ok (entries_excluded_by_patterns t root (rules_from_setup_patterns setup) (case_by_ignore_case setup.options.ignore_case) setup.index)
    else excluded_entries_appended t root setup (stack_setup_of_setup root setup) [] setup.index

-- they are listed as an index that has these alone is
abbrev pub output_and_errors_of_excluded : Listing → List ℕ → List NamedSpec → Setup → List IndexEntry → Listed
output_and_errors_of_excluded l prefix named setup entries = output_and_errors_of_all_listed l prefix named setup.specs entries [] []

-- What is listed of an index, or the first refusal.
unfoldable pub output_of_ignored_index_or_error : Names → List ℕ → Setup → Listing → List ℕ → List NamedSpec → Result Listed ExcludedError
output_of_ignored_index_or_error t root setup l prefix named =
    and_then (λ entries. Ok (output_and_errors_of_excluded l prefix named setup entries)) (excluded_entries_of_setup t root setup l)

-- ---- refused lookups

-- a rules file that is a link, or no file, is not read; a fault stays one
abbrev pub excluded_error_of_rules_file : RulesWhy → ExcludedError
excluded_error_of_rules_file rules.Link = errors.Unread
excluded_error_of_rules_file rules.LinkLimit = errors.Unread
excluded_error_of_rules_file rules.Special = errors.Unread
excluded_error_of_rules_file rules.Fault = errors.Fault

-- the same of rules that the index has: an object that is missing or no blob is not read
abbrev pub excluded_error_of_blob : BlobWhy → ExcludedError
excluded_error_of_blob blobs.Missing = errors.Unread
excluded_error_of_blob blobs.NotABlob = errors.Unread
excluded_error_of_blob blobs.Fault = errors.Fault

-- what a refused lookup is
abbrev pub excluded_error_of_lookup_error : AtPathError → ExcludedError
excluded_error_of_lookup_error lookups.NotNormal = errors.Unread
excluded_error_of_lookup_error (lookups.RulesFile path why) = excluded_error_of_rules_file why
excluded_error_of_lookup_error (lookups.Blob id why) = excluded_error_of_blob why
excluded_error_of_lookup_error (lookups.Component why) = errors.Unread
excluded_error_of_lookup_error (lookups.Collision path) = errors.Unread
excluded_error_of_lookup_error (lookups.Directory path why) = errors.Unread
excluded_error_of_lookup_error lookups.OutOfMemory = errors.OutOfMemory
