-- What `state --by-stat` tells of the paths of the index: what `git diff-files` tells, in the words of `state`.
use Rattle.std.specs.Prelude.{ℕ, List, codes, Option, Some, None, Result, Ok, IsErrOf, if◌then◌else◌}
use Rattle.std.specs.List.{flat_map}
use Rattle.gitbase_core.specs.Steps.{and_then}
use Rattle.gitbase_core.specs.declared.entry.IndexEntry.{IndexEntry}
use Rattle.command_line.specs.Comparings.{default_diff_files_request}
use Rattle.command_line.specs.declared.compare_options.Comparing.{Comparing}
use Rattle.command_line.specs.declared.compare_options.Ignoring.TheVariants as ignorings
use Rattle.diff_files.specs.Differences.{AnswersAsDefined, HoldsUnlessFault, rows_of_index_changes}
use Rattle.diff_files.specs.KeptStats.{KeepsToldStats, CountsFaultInEither, KeepsFaultCounts, TreeAndStats, Tells}
use Rattle.diff_files.specs.Rows.{ChangeRow}
use Rattle.diff_files.specs.States.{is_merged}
use Rattle.diff_files.specs.declared.change.PathChange.{PathChange}
use Rattle.diff_files.specs.declared.change.PathChange.TheVariants as changes
use Rattle.diff_files.specs.declared.comparison.Comparison.{Comparison}
use Rattle.diff_files.specs.declared.error.DiffError.{DiffError}
use Rattle.diff_files.specs.declared.error.DiffError.TheVariants as errors
use Rattle.diff_files.specs.declared.error.Unanswered.{Unanswered}
use Rattle.diff_files.specs.declared.stats.Stats.{Ghosts as StatsOf}
use Rattle.git_index.specs.declared.stat.Detail.{Detail}
use Rattle.glob_rules.specs.PathSpec.{PathSpec}
use Rattle.index_status.specs.Lines.{line_of_optional_state_word}
use Rattle.worktree_fs.specs.declared.worktree.Worktree.{Ghosts as WorktreeOf}
use Rattle.worktree_fs.specs.Kept.{KeepsTreeAndListCounts}
use Rattle.tizhagor.specs.declared.written.Writing.{Writing}
use Rattle.tizhagor.specs.Writing.{text_formatted_for_output}

-- the word for how a path changed; the index has an empty file for one that is to be added later, so what stands there is another
abbrev pub state_word_of_change : PathChange → Option (List ℕ)
state_word_of_change changes.Same = None
state_word_of_change changes.Deleted = Some (codes "deleted")
state_word_of_change (changes.Added mode) = Some (codes "modified")
state_word_of_change (changes.Modified mode) = Some (codes "modified")
state_word_of_change (changes.TypeChanged mode) = Some (codes "typechanged")
state_word_of_change (changes.Unmerged mode) = Some (codes "conflicted")

-- of a path that is not merged nothing else is told
abbrev pub state_word_of_unmerged_change : PathChange → Option (List ℕ)
state_word_of_unmerged_change changes.Same = None
state_word_of_unmerged_change changes.Deleted = None
state_word_of_unmerged_change (changes.Added mode) = None
state_word_of_unmerged_change (changes.Modified mode) = None
state_word_of_unmerged_change (changes.TypeChanged mode) = None
state_word_of_unmerged_change (changes.Unmerged mode) = Some (codes "conflicted")

-- the word for a change of an entry; none where nothing changed, and of an entry that is not merged `conflicted` at most
abbrev pub state_word_of_row : ChangeRow → Option (List ℕ)
state_word_of_row row = if is_merged row.entry then state_word_of_change row.change else state_word_of_unmerged_change row.change

-- the line of a path that changed
unfoldable pub state_line_of_row : ChangeRow → List ℕ
state_line_of_row row = line_of_optional_state_word (state_word_of_row row) row.entry.path

-- the lines of all that changed, in the order of the index
abbrev pub state_lines_of_rows : List ChangeRow → List ℕ
state_lines_of_rows rows = flat_map state_line_of_row rows

-- submodules are left out
abbrev pub diff_options_without_submodules : Comparing
diff_options_without_submodules = record default_diff_files_request { ignoring = ignorings.All }

-- The bytes that are written for them, or the first form that is not answered.
abbrev pub state_lines_over_tree_and_stats : TreeAndStats → List ℕ → List IndexEntry → List Detail → Comparison → List PathSpec → Writing → Result (List ℕ) Unanswered
state_lines_over_tree_and_stats s root entries details o specs writing =
    and_then (λ (rows : List ChangeRow). Ok (text_formatted_for_output writing (state_lines_of_rows rows))) (rows_of_index_changes s root entries details o specs)

-- What is answered of a work tree, where it was `w0` and is `w1`, and what is asked for stats was `s0` and is `s1`.
pub record MakesStateLinesByStat {W S : Type 0} (w : WorktreeOf W) (s : StatsOf S) (w0 w1 : W) (s0 s1 : S) (root : List ℕ) (entries : List IndexEntry)
    (details : List Detail) (o : Comparison) (specs : List PathSpec) (writing : Writing) (answer : Result (List ℕ) DiffError) : Type 0 where
  pub gives : (outside : TreeAndStats) → Tells (w.told w0) (s.told s0) outside → AnswersAsDefined (state_lines_over_tree_and_stats outside root entries details o specs writing) answer
  -- a fault is told only where one was counted, and none was counted that is not told
  pub cause : IsErrOf answer errors.Fault → CountsFaultInEither w s w0 w1 s0 s1
  pub unfaulted : HoldsUnlessFault answer (KeepsFaultCounts w s w0 w1 s0 s1)
  pub worktree : KeepsTreeAndListCounts w w0 w1
  pub stats : KeepsToldStats s s0 s1
