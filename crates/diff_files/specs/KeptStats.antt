-- What stays of stats that were asked, and of a worktree beside them.
use Rattle.std.specs.Prelude.{◌≡◌, ◌≤◌, ◌⊎◌, Option, Some}
use Rattle.worktree_fs.specs.declared.worktree.Worktree.{Ghosts as WorktreeOf}
use Rattle.worktree_fs.specs.Causes.{CountIncreasedOrSaturated}
use Rattle.worktree_fs.specs.Tree.{Names}
use Rattle.diff_files.specs.declared.stats.Stats.{Ghosts as StatsOf}
use Rattle.diff_files.specs.Stats.{StatsByPath}

-- asking for stats changes nothing that they tell, and no fault is forgotten
pub record KeepsToldStats {S : Type 0} (s : StatsOf S) (before now : S) : Type 0 where
  pub told : s.told now ≡ s.told before
  pub faults : s.faults before ≤ s.faults now

-- what there is: a tree, and what is told of its nodes
pub record TreeAndStats : Type 0 where
  pub tree : Names
  pub stats : StatsByPath

-- it is told
abbrev pub Tells : Option Names → Option StatsByPath → TreeAndStats → Type 0
Tells tree stats outside = (tree ≡ Some outside.tree) × (stats ≡ Some outside.stats)

-- the worktree failed, or what is asked for stats did
abbrev pub CountsFaultInEither : {W S : Type 0} → WorktreeOf W → StatsOf S → W → W → S → S → Type 0
CountsFaultInEither w s w0 w1 s0 s1 = CountIncreasedOrSaturated (w.faults w0) (w.faults w1) ⊎ CountIncreasedOrSaturated (s.faults s0) (s.faults s1)

-- neither did
abbrev pub KeepsFaultCounts : {W S : Type 0} → WorktreeOf W → StatsOf S → W → W → S → S → Type 0
KeepsFaultCounts w s w0 w1 s0 s1 = (w.faults w1 ≡ w.faults w0) × (s.faults s1 ≡ s.faults s0)
