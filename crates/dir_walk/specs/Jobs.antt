-- What a job says that walks one directory, over whatever it has of a worktree, a store and an interrupt.
use Rattle.std.specs.Prelude.{ℕ, List, Option, Result}
use Rattle.gitbase_core.specs.declared.find.Find.{Ghosts as FindOf}
use Rattle.worktree_fs.specs.declared.interrupt.Interrupt.{Ghosts as InterruptOf}
use Rattle.worktree_fs.specs.declared.worktree.Worktree.{Ghosts as WorktreeOf}
use Rattle.dir_classify.specs.declared.classify.Outcome.{Outcome as Class}
use Rattle.dir_classify.specs.Layers.{WalkSetting}
use Rattle.dir_walk.specs.declared.delegate.Delegate.{Ghosts as DelegateOf}
use Rattle.dir_walk.specs.declared.handed.Handed.{Handed}
use Rattle.dir_walk.specs.declared.handed.Stop.{Stop}
use Rattle.dir_walk.specs.Moments.{WalkState}
use Rattle.dir_walk.specs.WalkSteps.{OpensAtMostEntered, StepWalksOverAnyWorktree, StepWalksOverSources, at_directory, CountsOpenedOverOneFork}

-- The directory at `path`, of a class, is walked; what is opened is opened over forks, and so the walk alone counts it.
pub record WalksDirectoryAsJob {W F I D : Type 0} (w : WorktreeOf W) (f : FindOf F) (i : InterruptOf I) (d : DelegateOf D) (before now : WalkState W F I D) (given : WalkSetting) (blocked : Option (List ℕ)) (levels : ℕ) (path : List ℕ) (class : Class) (result : Result Handed Stop) : Type 0 where
  pub told : StepWalksOverSources w f d before now given blocked levels (at_directory path class) result
  pub walks : StepWalksOverAnyWorktree w f i d before now given levels (at_directory path class) result
  pub opens : CountsOpenedOverOneFork i before now result (OpensAtMostEntered w f d before now given blocked levels (at_directory path class) result)
