-- A record of the loop over the entries of an index.
use Rattle.std.proofs.Common.{◌≡◌, ℕ, List, [], Option, Some, None}
use Rattle.gitbase_core.specs.declared.entry.IndexEntry.{IndexEntry}
use Rattle.git_index.specs.declared.stat.Detail.{Detail}
use Rattle.glob_rules.specs.PathSpec.{PathSpec}
use Rattle.worktree_fs.specs.declared.worktree.Worktree.{Ghosts as WorktreeOf}
use Rattle.worktree_fs.specs.Kept.{KeepsTreeAndListCounts}
use Rattle.diff_files.specs.declared.comparison.Comparison.{Comparison}
use Rattle.diff_files.specs.declared.stats.Stats.{Ghosts as StatsOf}
use Rattle.diff_files.specs.KeptStats.{KeepsToldStats, KeepsFaultCounts, TreeAndStats, Tells}
use Rattle.ls_files.specs.declared.standings.DeletedModifiedChoice.{DeletedModifiedChoice}
use Rattle.ls_files.specs.declared.options.Listing.{Listing}
use Rattle.ls_files.specs.declared.options.NamedSpec.{NamedSpec}
use Rattle.ls_files.specs.Changed.{shown_entries_after_path_or_unsupported}
use Rattle.ls_files.specs.Places.{EntryAsKeptGoneOrModified}

-- what was shown, with what is shown of the entries that are left, is what is shown of all
pub record IsAlong {W S : Type 0} (w : WorktreeOf W) (s : StatsOf S) (w0 w1 : W) (s0 s1 : S) (root : List ℕ) (entries : List IndexEntry)
    (details : List Detail) (o : Comparison) (asked : DeletedModifiedChoice) (l : Listing) (named : List NamedSpec) (specs : List PathSpec) (shown : List EntryAsKeptGoneOrModified)
    (last : Option (List ℕ)) (entries_left : List IndexEntry) (details_left : List Detail) : Type 0 where
  pub worktree : KeepsTreeAndListCounts w w0 w1
  pub stats : KeepsToldStats s s0 s1
  pub unfaulted : KeepsFaultCounts w s w0 w1 s0 s1
  pub same : (outside : TreeAndStats) → Tells (w.told w0) (s.told s0) outside
      → shown_entries_after_path_or_unsupported outside root o asked l named specs shown last entries_left details_left ≡ shown_entries_after_path_or_unsupported outside root o asked l named specs [] None entries details
