-- What `-d` and `-m` show of an index, and what is shown of it beside: git-ls-files(1), "OPTIONS".
use Rattle.std.specs.Prelude.{◌≡◌, ℕ, List, [], ◌∷◌, ◌++◌, Bool, true, false, not, ◌&&◌, ◌||◌, map, Option, Some, None, Result, Ok, Err, IsErrOf, if◌then◌else◌}
use Rattle.std.specs.List.{flat_map, list_any}
use Rattle.gitbase_core.specs.Steps.{and_then}
use Rattle.gitbase_core.specs.declared.entry.IndexEntry.{IndexEntry}
use Rattle.gitbase_core.specs.Entry.{is_sparse_directory_entry}
use Rattle.git_index.specs.declared.stat.Detail.{Detail}
use Rattle.glob_rules.specs.PathSpec.{PathSpec}
use Rattle.worktree_fs.specs.declared.worktree.Worktree.{Ghosts as WorktreeOf}
use Rattle.worktree_fs.specs.Kept.{KeepsTreeAndListCounts}
use Rattle.diff_files.specs.declared.change.PathChange.{PathChange}
use Rattle.diff_files.specs.declared.change.PathChange.TheVariants as changes
use Rattle.diff_files.specs.declared.comparison.Comparison.{Comparison}
use Rattle.diff_files.specs.declared.error.Unsupported.{Unsupported}
use Rattle.diff_files.specs.declared.error.Unsupported.TheVariants as forms
use Rattle.diff_files.specs.declared.stats.Stats.{Ghosts as StatsOf}
use Rattle.diff_files.specs.KeptStats.{KeepsToldStats, CountsFaultInEither, KeepsFaultCounts, TreeAndStats, Tells}
use Rattle.diff_files.specs.Rows.{is_unchanged}
use Rattle.diff_files.specs.Standing.{is_effectively_skipped_below_root, change_for_ls_files_deleted, change_for_ls_files_modified}
use Rattle.ls_files.specs.declared.changed_error.ChangedError.{ChangedError}
use Rattle.ls_files.specs.declared.changed_error.ChangedError.TheVariants as errors
use Rattle.ls_files.specs.ChangedErrors.{AnswersAsDefined, HoldsUnlessFault}
use Rattle.ls_files.specs.declared.standings.ChangeQuery.{ChangeQuery}
use Rattle.ls_files.specs.declared.standings.DeletedModifiedChoice.{DeletedModifiedChoice}
use Rattle.ls_files.specs.declared.standings.DeletedModifiedChoice.TheVariants as standings
use Rattle.ls_files.specs.declared.listed.Listed.{Listed}
use Rattle.ls_files.specs.declared.options.Listing.{Listing}
use Rattle.ls_files.specs.declared.options.NamedSpec.{NamedSpec}
use Rattle.ls_files.specs.declared.shown.Sign.{Sign}
use Rattle.ls_files.specs.declared.shown.Sign.TheVariants as signs
use Rattle.ls_files.specs.Cached.{do_specs_match_index_entry}
use Rattle.ls_files.specs.Choices.{is_dropped_as_repeated_path, passes_unmerged_option, lists_each_path_once, lists_stages}
use Rattle.ls_files.specs.Lines.{line_of_shown_entry}
use Rattle.ls_files.specs.Places.{PathWithDirectoryFlag, EntryAsKeptGoneOrModified}
use Rattle.ls_files.specs.Unmatched.{unmatched_specs_message, does_any_spec_include_place, place_of_index_entry}

-- ---- which entries are looked at

-- "-d: Show files with an unstaged deletion", "-m: Show files with an unstaged modification (note that an unstaged deletion also counts as an unstaged modification)"
abbrev pub lists_deleted : DeletedModifiedChoice → Bool
lists_deleted standings.Deleted = true
lists_deleted standings.Modified = false
lists_deleted standings.Both = true

-- `-m` is given, alone or with `-d`
abbrev pub lists_modified : DeletedModifiedChoice → Bool
lists_modified standings.Deleted = false
lists_modified standings.Modified = true
lists_modified standings.Both = true

-- what the index has is shown beside only where it is asked for
abbrev pub is_listed_as_indexed : Listing → IndexEntry → Bool
is_listed_as_indexed l e = (l.cached || lists_stages l) && passes_unmerged_option l e

-- a path that is shown once is not looked at where it is shown already
abbrev pub is_deduplicated_and_listed_as_indexed : Listing → IndexEntry → Bool
is_deduplicated_and_listed_as_indexed l e = lists_each_path_once l && is_listed_as_indexed l e

-- the path specs match it; or one of them does, where it is to be told which do
abbrev pub do_specs_or_single_spec_match : Listing → List NamedSpec → List PathSpec → IndexEntry → Bool
do_specs_or_single_spec_match l named specs e = do_specs_match_index_entry specs e || (l.error_unmatch && does_any_spec_include_place named (place_of_index_entry e))

-- how an entry stands matters: its path is not shown already, and path specs match it
abbrev pub needs_worktree_look : Listing → List NamedSpec → List PathSpec → IndexEntry → Bool
needs_worktree_look l named specs e = not (is_deduplicated_and_listed_as_indexed l e) && do_specs_or_single_spec_match l named specs e

-- nor is one that is skipped
abbrev pub needs_look_unless_skipped : TreeAndStats → List ℕ → Comparison → Listing → List NamedSpec → List PathSpec → IndexEntry → Bool
needs_look_unless_skipped s root o l named specs e = needs_worktree_look l named specs e && not (is_effectively_skipped_below_root s.stats root o e)

-- the same with all that is asked in one value
abbrev pub query_needs_look_unless_skipped : TreeAndStats → ChangeQuery → IndexEntry → Bool
query_needs_look_unless_skipped s q e = needs_look_unless_skipped s q.root.now q.comparison.now q.listing.now q.named.now q.specs.now e

-- ---- how they stand

-- where only what is gone is asked for, nothing else is looked at
abbrev pub change_of_examined_entry : TreeAndStats → List ℕ → Comparison → DeletedModifiedChoice → IndexEntry → Detail → Result PathChange Unsupported
change_of_examined_entry s root o standings.Deleted e d = Ok (change_for_ls_files_deleted s.stats root e)
change_of_examined_entry s root o standings.Modified e d = change_for_ls_files_modified s root o e d
change_of_examined_entry s root o standings.Both e d = change_for_ls_files_modified s root o e d

-- how an entry stands to the work tree; one that need not be looked at counts as unchanged
unfoldable pub change_of_entry : TreeAndStats → List ℕ → Comparison → DeletedModifiedChoice → Listing → List NamedSpec → List PathSpec → IndexEntry → Detail → Result PathChange Unsupported
change_of_entry s root o w l named specs e d = if needs_look_unless_skipped s root o l named specs e then change_of_examined_entry s root o w e d else Ok changes.Same

-- the same with all that is asked in one value
abbrev pub change_of_entry_by_query : TreeAndStats → ChangeQuery → IndexEntry → Detail → Result PathChange Unsupported
change_of_entry_by_query s q e d = change_of_entry s q.root.now q.comparison.now q.standings q.listing.now q.named.now q.specs.now e d

-- nothing stands at the path; something else in its place is no deletion
abbrev pub is_deletion : PathChange → Bool
is_deletion changes.Same = false
is_deletion changes.Deleted = true
is_deletion (changes.Added mode) = false
is_deletion (changes.Modified mode) = false
is_deletion (changes.TypeChanged mode) = false
is_deletion (changes.Unmerged mode) = false

-- ---- what is shown of an entry

-- an entry that is shown so, or nothing
abbrev pub shown_entry_if : Bool → IndexEntry → Sign → List EntryAsKeptGoneOrModified
shown_entry_if is e sign = if is then record { entry = e; sign = sign } ∷ [] else []

-- `-d` is given, and the entry is gone
abbrev pub is_listed_as_deleted : DeletedModifiedChoice → PathChange → Bool
is_listed_as_deleted w change = lists_deleted w && is_deletion change

-- `-m` is given, and something changed: an entry that is gone counts too
abbrev pub is_listed_as_modified : DeletedModifiedChoice → PathChange → Bool
is_listed_as_modified w change = lists_modified w && not (is_unchanged change)

-- as what the index has; as what is gone; as what is modified
abbrev pub kept_gone_and_modified_of_entry : DeletedModifiedChoice → Listing → IndexEntry → PathChange → List EntryAsKeptGoneOrModified
kept_gone_and_modified_of_entry w l e change =
    shown_entry_if (is_listed_as_indexed l e) e signs.Kept ++ shown_entry_if (is_listed_as_deleted w change) e signs.Gone ++ shown_entry_if (is_listed_as_modified w change) e signs.Modified

-- the first of these
abbrev pub first_of_kept_gone_modified : DeletedModifiedChoice → Listing → IndexEntry → PathChange → List EntryAsKeptGoneOrModified
first_of_kept_gone_modified w l e change =
    if is_listed_as_indexed l e then record { entry = e; sign = signs.Kept } ∷ []
    else if is_listed_as_deleted w change then record { entry = e; sign = signs.Gone } ∷ []
    else shown_entry_if (is_listed_as_modified w change) e signs.Modified

-- as what an entry is shown: as the first that fits where each path is shown once, else as each that fits
unfoldable pub entry_signs_by_deduplication : DeletedModifiedChoice → Listing → IndexEntry → PathChange → List EntryAsKeptGoneOrModified
entry_signs_by_deduplication w l e change = if lists_each_path_once l then first_of_kept_gone_modified w l e change else kept_gone_and_modified_of_entry w l e change

-- any of these
abbrev pub is_listed_kept_gone_or_modified : DeletedModifiedChoice → Listing → IndexEntry → PathChange → Bool
is_listed_kept_gone_or_modified w l e change = is_listed_as_indexed l e || (is_listed_as_deleted w change || is_listed_as_modified w change)

-- the path that was shown last
unfoldable pub last_listed_path_after_entry : Option (List ℕ) → DeletedModifiedChoice → Listing → IndexEntry → PathChange → Option (List ℕ)
last_listed_path_after_entry last w l e change = if is_listed_kept_gone_or_modified w l e change then Some e.path else last

-- What is shown, with what is shown of some entries, in the order of the index, behind one of the path `last`; or the first form that is
-- not answered.
abbrev pub shown_entries_after_path_or_unsupported : TreeAndStats → List ℕ → Comparison → DeletedModifiedChoice → Listing → List NamedSpec → List PathSpec → List EntryAsKeptGoneOrModified → Option (List ℕ) → List IndexEntry → List Detail → Result (List EntryAsKeptGoneOrModified) Unsupported
shown_entries_after_path_or_unsupported s root o w l named specs shown last [] details = Ok shown
shown_entries_after_path_or_unsupported s root o w l named specs shown last (e ∷ entries) [] = Err forms.Details
shown_entries_after_path_or_unsupported s root o w l named specs shown last (e ∷ entries) (d ∷ details) =
    if is_dropped_as_repeated_path l last e then shown_entries_after_path_or_unsupported s root o w l named specs shown last entries details
    else and_then (λ (change : PathChange). shown_entries_after_path_or_unsupported s root o w l named specs (shown ++ entry_signs_by_deduplication w l e change) (last_listed_path_after_entry last w l e change) entries details)
    (change_of_entry s root o w l named specs e d)

-- what is shown of a whole index by one query, from its first entry on; or the first form that is not answered
abbrev pub entries_as_kept_gone_or_modified : TreeAndStats → ChangeQuery → List IndexEntry → List Detail → Result (List EntryAsKeptGoneOrModified) Unsupported
entries_as_kept_gone_or_modified s q entries details = shown_entries_after_path_or_unsupported s q.root.now q.comparison.now q.standings q.listing.now q.named.now q.specs.now [] None entries details

-- what is shown of an entry is added, or the form that is not answered is refused; want of memory stands apart
abbrev pub AddsSignsUnlessUnsupported : DeletedModifiedChoice → Listing → IndexEntry → Result PathChange Unsupported → List EntryAsKeptGoneOrModified → List EntryAsKeptGoneOrModified → Result PathChange ChangedError → Type 0
AddsSignsUnlessUnsupported w l e change old now (Ok given) = (change ≡ Ok given) × (now ≡ old ++ entry_signs_by_deduplication w l e given)
AddsSignsUnlessUnsupported w l e change old now (Err (errors.Unsupported form)) = change ≡ Err form
AddsSignsUnlessUnsupported w l e change old now (Err errors.Fault) = ⊥
AddsSignsUnlessUnsupported w l e change old now (Err errors.OutOfMemory) = Unit {0}

-- ---- what is printed

-- the line of what is shown; an entry that was looked at for `--error-unmatch` alone has none
abbrev pub shown_line_if_specs_match : Listing → List ℕ → List PathSpec → EntryAsKeptGoneOrModified → List ℕ
shown_line_if_specs_match l prefix specs shown = if do_specs_match_index_entry specs shown.entry then line_of_shown_entry l prefix shown else []

-- its path, that of a directory by what the index has there
abbrev pub path_with_directory_flag_of_shown_entry : EntryAsKeptGoneOrModified → PathWithDirectoryFlag
path_with_directory_flag_of_shown_entry shown = place_of_index_entry shown.entry

-- the lines of all that is shown, in the order of the index
abbrev pub text_of_shown_entries : Listing → List ℕ → List PathSpec → List EntryAsKeptGoneOrModified → List ℕ
text_of_shown_entries l prefix specs shown = flat_map (shown_line_if_specs_match l prefix specs) shown

-- with `--error-unmatch` what is told of path specs that are about nothing shown; else no bytes
abbrev pub unmatched_specs_text_for_shown : Listing → List NamedSpec → List EntryAsKeptGoneOrModified → List ℕ
unmatched_specs_text_for_shown l named shown = if l.error_unmatch then unmatched_specs_message named (map path_with_directory_flag_of_shown_entry shown) else []

-- what goes to the output, and what is told of path specs
unfoldable pub output_and_errors_of_shown : Listing → List ℕ → List NamedSpec → List PathSpec → List EntryAsKeptGoneOrModified → Listed
output_and_errors_of_shown l prefix named specs shown = record { out = text_of_shown_entries l prefix specs shown; err = unmatched_specs_text_for_shown l named shown }

-- of a sparse index, in which an entry stands for a directory, nothing is shown
abbrev pub shown_entries_unless_sparse : TreeAndStats → List ℕ → List IndexEntry → List Detail → Comparison → DeletedModifiedChoice → Listing → List NamedSpec → List PathSpec → Result (List EntryAsKeptGoneOrModified) Unsupported
shown_entries_unless_sparse s root entries details o w l named specs =
    if list_any is_sparse_directory_entry entries then Err forms.SparseIndex else shown_entries_after_path_or_unsupported s root o w l named specs [] None entries details

-- What is listed, or the first form that is not answered.
abbrev pub output_of_changes_or_unsupported : TreeAndStats → List ℕ → List IndexEntry → List Detail → Comparison → DeletedModifiedChoice → Listing → List ℕ → List NamedSpec → List PathSpec → Result Listed Unsupported
output_of_changes_or_unsupported s root entries details o w l prefix named specs =
    and_then (λ (shown : List EntryAsKeptGoneOrModified). Ok (output_and_errors_of_shown l prefix named specs shown)) (shown_entries_unless_sparse s root entries details o w l named specs)

-- What is answered of a work tree, where it was `w0` and is `w1`, and what is asked for stats was `s0` and is `s1`.
pub record ListsDeletedAndModified {W S : Type 0} (w : WorktreeOf W) (s : StatsOf S) (w0 w1 : W) (s0 s1 : S) (root : List ℕ) (entries : List IndexEntry)
    (details : List Detail) (o : Comparison) (asked : DeletedModifiedChoice) (l : Listing) (prefix : List ℕ) (named : List NamedSpec) (specs : List PathSpec)
    (answer : Result Listed ChangedError) : Type 0 where
  -- Over a told tree and told stats it is exactly what `git ls-files` lists, or the form that is not answered.
  pub gives : (outside : TreeAndStats) → Tells (w.told w0) (s.told s0) outside → AnswersAsDefined (output_of_changes_or_unsupported outside root entries details o asked l prefix named specs) answer
  -- a fault is told only where one was counted
  pub cause : IsErrOf answer errors.Fault → CountsFaultInEither w s w0 w1 s0 s1
  -- and none was counted that is not told
  pub unfaulted : HoldsUnlessFault answer (KeepsFaultCounts w s w0 w1 s0 s1)
  pub worktree : KeepsTreeAndListCounts w w0 w1
  pub stats : KeepsToldStats s s0 s1
