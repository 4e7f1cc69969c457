-- Records of the loops.
use Rattle.std.proofs.Common.{◌≡◌, ℕ, List, [], Option, Some, None}
use Rattle.gitbase_core.specs.Path.{components}
use Rattle.gitbase_core.specs.declared.entry.IndexEntry.{IndexEntry}
use Rattle.git_index.specs.declared.stat.Detail.{Detail}
use Rattle.glob_rules.specs.PathSpec.{PathSpec}
use Rattle.worktree_fs.specs.declared.worktree.Worktree.{Ghosts as WorktreeOf}
use Rattle.worktree_fs.specs.Kept.{KeepsTreeAndListCounts}
use Rattle.diff_files.specs.declared.comparison.Comparison.{Comparison}
use Rattle.diff_files.specs.declared.stats.Stats.{Ghosts as StatsOf}
use Rattle.diff_files.specs.KeptStats.{KeepsToldStats, KeepsFaultCounts, TreeAndStats, Tells}
use Rattle.diff_files.specs.Rows.{ChangeRow, rows_of_remaining_entries}
use Rattle.diff_files.specs.Stats.{StatsByPath}
use Rattle.diff_files.specs.There.{LeadsKnownPathThroughDirectories, leads_only_through_directories}

-- directories lead along the names that were taken, if they lead along all from here on
pub record IsLeading {S : Type 0} (s : StatsOf S) (before now : S) (root directory full left : List ℕ) : Type 0 where
  pub kept : KeepsToldStats s before now
  pub unfaulted : s.faults now ≡ s.faults before
  pub same : (t : StatsByPath) → s.told before ≡ Some t → leads_only_through_directories t full (components left) ≡ leads_only_through_directories t root (components directory)

-- the rows that were made, with those of the entries that are left, are those of all
pub record IsAlong {W S : Type 0} (w : WorktreeOf W) (s : StatsOf S) (w0 w1 : W) (s0 s1 : S) (root : List ℕ) (entries : List IndexEntry)
    (details : List Detail) (o : Comparison) (specs : List PathSpec) (known : List ℕ) (rows : List ChangeRow) (last : Option (List ℕ))
    (entries_left : List IndexEntry) (details_left : List Detail) : Type 0 where
  pub worktree : KeepsTreeAndListCounts w w0 w1
  pub stats : KeepsToldStats s s0 s1
  pub unfaulted : KeepsFaultCounts w s w0 w1 s0 s1
  pub knows : LeadsKnownPathThroughDirectories (s.told s0) root known
  pub same : (outside : TreeAndStats) → Tells (w.told w0) (s.told s0) outside
      → rows_of_remaining_entries outside root o specs rows last entries_left details_left ≡ rows_of_remaining_entries outside root o specs [] None entries details
