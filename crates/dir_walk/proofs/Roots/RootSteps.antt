-- A traversal root is walked as any directory is, where the levels below it reach down to the limit.
use Rattle.std.proofs.Common.{◌≡◌, ℕ, ◌+◌, List, Option}
use Rattle.std.specs.Prelude.{Result}
use Rattle.gitbase_core.specs.declared.find.Find.{Ghosts as FindOf}
use Rattle.worktree_fs.specs.declared.interrupt.Interrupt.{Ghosts as InterruptOf}
use Rattle.worktree_fs.specs.declared.worktree.Worktree.{Ghosts as WorktreeOf}
use Rattle.dir_classify.specs.declared.classify.Outcome.{Outcome as Class}
use Rattle.dir_classify.specs.Excludes.{setup_of_optional_stack}
use Rattle.dir_classify.specs.Kept.{KeepsRulesInStep}
use Rattle.dir_classify.specs.Layers.{WalkSetting}
use Rattle.dir_walk.specs.declared.delegate.Delegate.{Ghosts as DelegateOf}
use Rattle.dir_walk.specs.declared.handed.Handed.{Handed}
use Rattle.dir_walk.specs.declared.handed.Stop.{Stop}
use Rattle.dir_walk.specs.Moments.{WalkState}
use Rattle.dir_walk.specs.Report.{count_components}
use Rattle.dir_walk.specs.RootSteps.{WalksRootOverAnyWorktree, WalksRootOverSources}
use Rattle.dir_walk.specs.WalkSteps.{StepWalksOverAnyWorktree, StepWalksOverSources, at_directory}
use Rattle.dir_walk.proofs.Refused.Refusals.{about-from}

pub root-told : {W F I D : Type 0} {w : WorktreeOf W} {f : FindOf F} {d : DelegateOf D} {before now : WalkState W F I D} {given : WalkSetting} {blocked : Option (List ℕ)} {levels limit : ℕ} {path : List ℕ} {class : Class} {result : Result Handed Stop}
    → levels + count_components path ≡ limit → StepWalksOverSources w f d before now given blocked levels (at_directory path class) result → WalksRootOverSources w f d before now given blocked limit path class result
root-told {limit = limit} level told =
    record {
      gives = λ made s stands quiet default. told.gives made s stands quiet default limit level;
      part = told.part;
      refused = λ made s stands default. told.refused made s stands default limit level;
    }

pub root-any : {W F I D : Type 0} {w : WorktreeOf W} {f : FindOf F} {i : InterruptOf I} {d : DelegateOf D} {before now : WalkState W F I D} {given : WalkSetting} {levels limit : ℕ} {path : List ℕ} {class : Class} {result : Result Handed Stop}
    → levels + count_components path ≡ limit → KeepsRulesInStep w f before.worktree before.objects before.rules now.rules → StepWalksOverAnyWorktree w f i d before now given levels (at_directory path class) result → WalksRootOverAnyWorktree w f i d before now given limit path result
root-any {before = before} {given = given} {limit = limit} {path = path} {result = result} level rules walks =
    record {
      about = about-from (setup_of_optional_stack before.rules) given.root path limit result (walks.about limit level);
      found = walks.found;
      hands = walks.hands;
      filtered = walks.filtered;
      ends = record { worktree = walks.worktree; store = walks.store; rules = rules; interrupt = walks.interrupt; delegate = walks.delegate; heeds = walks.heeds; caused = walks.caused };
    }
