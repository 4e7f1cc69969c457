-- When a directory is folded: the entry that stands for all that it holds.
use Rattle.std.specs.Prelude.{ℕ, ◌+◌, ◌<◌, ◌≤◌, ◌^◌, Bool, true, false, not, ◌&&◌, ◌||◌, ◌==◌, if◌then◌else◌, List, count_by, Option, Some, None, option_map, is_some, is_none}
use Rattle.gitbase_core.specs.Path.{is_empty}
use Rattle.glob_rules.specs.declared.ignore.Kind.TheVariants.{Expendable, Precious}
use Rattle.dir_classify.specs.declared.classify.Outcome.{Outcome}
use Rattle.dir_classify.specs.declared.entry.Entry.{Entry}
use Rattle.dir_classify.specs.declared.entry.PathspecMatch.{PathspecMatch}
use Rattle.dir_classify.specs.declared.entry.PathspecMatch.TheVariants.{Always, Excluded, Prefix, WildcardMatch, Verbatim}
use Rattle.dir_classify.specs.declared.entry.Property.{Property}
use Rattle.dir_classify.specs.declared.entry.Property.TheVariants.{EmptyDirectory}
use Rattle.dir_classify.specs.declared.entry.Status.{Status}
use Rattle.dir_classify.specs.declared.entry.Status.TheVariants.{Pruned, Tracked, Ignored, Untracked}
use Rattle.dir_classify.specs.declared.options.CollapsedEntriesEmissionMode.{CollapsedEntriesEmissionMode}
use Rattle.dir_classify.specs.declared.options.CollapsedEntriesEmissionMode.TheVariants.{OnStatusMismatch, All}
use Rattle.dir_classify.specs.Chosen.{WalkOptions, is_collapsing_mode, collapses_directories_if_some}
use Rattle.dir_classify.specs.Enters.{is_pruned_status}
use Rattle.dir_classify.specs.Entries.{entry_with_outcome}
use Rattle.dir_classify.specs.Evidence.{PathEvidence, is_protected_current_directory}
use Rattle.dir_classify.specs.Kinds.{is_repository_kind}
use Rattle.dir_walk.specs.declared.tally.Tally.{Tally}
use Rattle.dir_walk.specs.Emissions.{is_empty_directory_property, is_tracked_status}

-- ---- what is asked of an entry

abbrev pub is_untracked_status : Status → Bool
is_untracked_status Untracked = true
is_untracked_status Pruned = false
is_untracked_status Tracked = false
is_untracked_status (Ignored kind) = false

abbrev pub is_expendable_status : Status → Bool
is_expendable_status (Ignored Expendable) = true
is_expendable_status (Ignored Precious) = false
is_expendable_status Pruned = false
is_expendable_status Tracked = false
is_expendable_status Untracked = false

abbrev pub is_precious_status : Status → Bool
is_precious_status (Ignored Precious) = true
is_precious_status (Ignored Expendable) = false
is_precious_status Pruned = false
is_precious_status Tracked = false
is_precious_status Untracked = false

abbrev pub is_pruned : Entry → Bool
is_pruned e = is_pruned_status e.status

abbrev pub is_untracked_entry : Entry → Bool
is_untracked_entry e = is_untracked_status e.status

abbrev pub is_ignored_expendable_entry : Entry → Bool
is_ignored_expendable_entry e = is_expendable_status e.status

abbrev pub is_ignored_precious_entry : Entry → Bool
is_ignored_precious_entry e = is_precious_status e.status

-- a directory without names
abbrev pub is_empty_directory_entry : Entry → Bool
is_empty_directory_entry e = is_empty_directory_property e.property

-- the place of a match in the order of matches, none before all others
abbrev pub rank_of_pathspec_match : PathspecMatch → ℕ
rank_of_pathspec_match Always = 1
rank_of_pathspec_match Excluded = 2
rank_of_pathspec_match Prefix = 3
rank_of_pathspec_match WildcardMatch = 4
rank_of_pathspec_match Verbatim = 5

abbrev pub rank_of_optional_pathspec_match : Option PathspecMatch → ℕ
rank_of_optional_pathspec_match None = 0
rank_of_optional_pathspec_match (Some found) = rank_of_pathspec_match found

-- the entry has this match
abbrev pub has_pathspec_match : PathspecMatch → Entry → Bool
has_pathspec_match found e = rank_of_optional_pathspec_match e.pathspec_match == rank_of_pathspec_match found

-- no directory folds over a repository, nor over what a spec names in full or takes out
abbrev pub prevents_folding : Entry → Bool
prevents_folding e = is_repository_kind e.disk_kind || has_pathspec_match Verbatim e || has_pathspec_match Excluded e

-- matched by a directory above, or by wildcards
abbrev pub is_prefix_or_wildcard_match : Entry → Bool
is_prefix_or_wildcard_match e = has_pathspec_match Prefix e || has_pathspec_match WildcardMatch e

-- ---- what is held, counted

abbrev pub tally_held_entries : List Entry → Tally
tally_held_entries held =
    record {
      all = count_by (λ e. true) held;
      untracked = count_by is_untracked_entry held;
      expendable = count_by is_ignored_expendable_entry held;
      precious = count_by is_ignored_precious_entry held;
      barring = count_by prevents_folding held;
      picked = count_by is_prefix_or_wildcard_match held;
      without_names = count_by is_empty_directory_entry held;
      always = count_by (has_pathspec_match Always) held;
      excluded = count_by (has_pathspec_match Excluded) held;
      prefixed = count_by (has_pathspec_match Prefix) held;
      wildcard = count_by (has_pathspec_match WildcardMatch) held;
      verbatim = count_by (has_pathspec_match Verbatim) held;
    }

abbrev pub count_of_flag : Bool → ℕ
count_of_flag b = if b then 1 else 0

-- the counts with one more entry
abbrev pub tally_with_entry : Tally → Entry → Tally
tally_with_entry n e =
    record {
      all = n.all + 1;
      untracked = n.untracked + count_of_flag (is_untracked_entry e);
      expendable = n.expendable + count_of_flag (is_ignored_expendable_entry e);
      precious = n.precious + count_of_flag (is_ignored_precious_entry e);
      barring = n.barring + count_of_flag (prevents_folding e);
      picked = n.picked + count_of_flag (is_prefix_or_wildcard_match e);
      without_names = n.without_names + count_of_flag (is_empty_directory_entry e);
      always = n.always + count_of_flag (has_pathspec_match Always e);
      excluded = n.excluded + count_of_flag (has_pathspec_match Excluded e);
      prefixed = n.prefixed + count_of_flag (has_pathspec_match Prefix e);
      wildcard = n.wildcard + count_of_flag (has_pathspec_match WildcardMatch e);
      verbatim = n.verbatim + count_of_flag (has_pathspec_match Verbatim e);
    }

-- one more can be counted
pub record CanCountOneMore (n : Tally) : Type 0 where
  pub all : n.all + 1 < 2 ^ 64
  pub untracked : n.untracked ≤ n.all
  pub expendable : n.expendable ≤ n.all
  pub precious : n.precious ≤ n.all
  pub barring : n.barring ≤ n.all
  pub picked : n.picked ≤ n.all
  pub without_names : n.without_names ≤ n.all
  pub always : n.always ≤ n.all
  pub excluded : n.excluded ≤ n.all
  pub prefixed : n.prefixed ≤ n.all
  pub wildcard : n.wildcard ≤ n.all
  pub verbatim : n.verbatim ≤ n.all

abbrev pub is_nonzero : ℕ → Bool
is_nonzero n = not (n == 0)

-- ---- the status of a folded directory

-- in deletion nothing precious goes with the rest, and what is ignored only where ignored paths are asked for
abbrev pub may_delete_all_at_once : WalkOptions → Tally → Bool
may_delete_all_at_once o n = is_none o.for_deletion || (not (is_nonzero n.precious) && (not (is_nonzero n.expendable) || is_some o.emit_ignored))

-- all are untracked or ignored
abbrev pub all_counted_untracked_or_ignored : Tally → Bool
all_counted_untracked_or_ignored n = n.untracked + n.expendable + n.precious == n.all

abbrev pub may_fold_as_untracked : WalkOptions → Tally → Bool
may_fold_as_untracked o n = is_collapsing_mode o.emit_untracked && is_nonzero n.untracked && all_counted_untracked_or_ignored n && may_delete_all_at_once o n

abbrev pub may_fold_as_expendable : WalkOptions → Tally → Bool
may_fold_as_expendable o n = collapses_directories_if_some o.emit_ignored && is_nonzero n.expendable && (n.expendable == n.all)

abbrev pub may_fold_as_precious : WalkOptions → Tally → Bool
may_fold_as_precious o n = collapses_directories_if_some o.emit_ignored && is_nonzero n.precious && (n.precious == n.all)

-- the status under which all that is held may become one entry, the first one that fits
abbrev pub status_of_folded_directory : WalkOptions → Tally → Option Status
status_of_folded_directory o n =
    if may_fold_as_untracked o n then Some Untracked
    else if may_fold_as_expendable o n then Some (Ignored Expendable)
    else if may_fold_as_precious o n then Some (Ignored Precious)
    else None

-- ---- the folded directory

-- The directory may become one entry: it is neither the worktree root nor the directory that must not go, it holds nothing over
-- which no directory folds, all that it holds was picked or nothing, and the path specs match all that lies beneath it.
abbrev pub is_foldable_by_contents : PathEvidence → List ℕ → Tally → Bool
is_foldable_by_contents ev d n =
    not (is_empty d) && not (is_protected_current_directory ev d)
    && not (is_nonzero n.barring)
    && (not (is_nonzero n.picked) || (n.picked == n.all))
    && ev.covers d

-- the greatest match of what is held, where there is one
abbrev pub greatest_match_counted : Tally → Option PathspecMatch
greatest_match_counted n =
    if is_nonzero n.verbatim then Some Verbatim
    else if is_nonzero n.wildcard then Some WildcardMatch
    else if is_nonzero n.prefixed then Some Prefix
    else if is_nonzero n.excluded then Some Excluded
    else if is_nonzero n.always then Some Always
    else None

-- the directory's own match, where no spec was needed for it or one names it
abbrev pub match_unless_prefix_or_excluded : Option PathspecMatch → Option PathspecMatch
match_unless_prefix_or_excluded (Some Always) = Some Always
match_unless_prefix_or_excluded (Some WildcardMatch) = Some WildcardMatch
match_unless_prefix_or_excluded (Some Verbatim) = Some Verbatim
match_unless_prefix_or_excluded (Some Prefix) = None
match_unless_prefix_or_excluded (Some Excluded) = None
match_unless_prefix_or_excluded None = None

abbrev pub pathspec_match_of_folded_directory : Option PathspecMatch → Outcome → Option PathspecMatch
pathspec_match_of_folded_directory None c = match_unless_prefix_or_excluded c.pathspec_match
pathspec_match_of_folded_directory (Some found) c = Some found

-- the directory's own property; else, outside deletion, it is one without names where all that it holds are untracked and
-- without names
abbrev pub property_of_folded_directory : WalkOptions → Option Property → Status → Tally → Option Property
property_of_folded_directory o (Some property) status n = Some property
property_of_folded_directory o None Untracked n = if is_none o.for_deletion && (n.without_names == n.all) then Some EmptyDirectory else None
property_of_folded_directory o None Pruned n = None
property_of_folded_directory o None Tracked n = None
property_of_folded_directory o None (Ignored kind) n = None

-- the class of the directory as one entry in place of all that it holds
abbrev pub class_of_folded_directory : WalkOptions → Outcome → Tally → Status → Outcome
class_of_folded_directory o c n status =
    record c { status = status; property = property_of_folded_directory o c.property status n; pathspec_match = pathspec_match_of_folded_directory (greatest_match_counted n) c }

abbrev pub entry_of_folded_directory : WalkOptions → List ℕ → Outcome → Tally → Status → Entry
entry_of_folded_directory o d c n status = entry_with_outcome d (class_of_folded_directory o c n status)

-- The fold of a directory of a class: none, or the entry that stands for all that it holds. It sees counts, and so no order.
unfoldable pub fold : WalkOptions → PathEvidence → List ℕ → Outcome → Tally → Option Entry
fold o ev d c n = if is_foldable_by_contents ev d n then option_map (entry_of_folded_directory o d c n) (status_of_folded_directory o n) else None

-- ---- what is emitted besides it

abbrev pub equals_status : Status → Status → Bool
equals_status Pruned status = is_pruned_status status
equals_status Tracked status = is_tracked_status status
equals_status (Ignored Expendable) status = is_expendable_status status
equals_status (Ignored Precious) status = is_precious_status status
equals_status Untracked status = is_untracked_status status

-- a held entry is emitted besides the directory that was folded over it with a status
abbrev pub emits_besides_folded_directory : Option CollapsedEntriesEmissionMode → Status → Entry → Bool
emits_besides_folded_directory None status e = false
emits_besides_folded_directory (Some OnStatusMismatch) status e = not (equals_status e.status status)
emits_besides_folded_directory (Some All) status e = true
