use Rattle.std.proofs.Common.{◌≡◌, ◌+◌, ℕ, true, Option, take}
use Rattle.worktree_fs.specs.Causes.{CountNotIncreased}
use Rattle.worktree_fs.specs.Kept.{KeepsStoredObjects}
use Rattle.worktree_stack.specs.Setup.{StackSetup}
use Rattle.worktree_stack.specs.Reading.{TreeAndObjects}
use Rattle.dir_classify.specs.Chosen.{walk_options_of}
use Rattle.dir_classify.specs.Kept.{KeepsRulesInStep}
use Rattle.dir_classify.specs.Layers.{setting_of_shared}
use Rattle.dir_walk.specs.Kept.{KeepsWorktree, AsksInterruptPerRaise, KeepsDelegateRunning}
use Rattle.dir_walk.specs.Moments.{KeepsPartReferences}
use Rattle.dir_walk.specs.Opens.{OpensDirectoriesMostlyOverForks}
use Rattle.dir_walk.specs.Puts.{AddsNoHiddenEmission, AddsEmissionsWithinRoom}
use Rattle.dir_walk.specs.Report.{count_components}
use Rattle.dir_walk.specs.Told.{IsWalkOverSources}
use Rattle.dir_walk.proofs.Opens.Entered.{EntersSoFar}
use Rattle.dir_walk.proofs.Folding.Named.{SoFar}
use Rattle.dir_walk.proofs.Places.Rooms.{once_below}
use Rattle.dir_walk.proofs.children.walk_root_directory_by_jobs.Given as goal

abbrev pub invariant-loop-name : goal.invariant-loop-name
invariant-loop-name g l =
    let w = g.W.Worktree in
    let f = g.F.Find in
    let i = g.I.Interrupt in
    let d = g.D.Delegate in
    let given = setting_of_shared g.M.Matcher l.shared in
    record {
      same : KeepsPartReferences l.fn.parts l.parts;
      worktree : KeepsWorktree w l.fn.parts.worktree.now l.parts.worktree.now;
      store : KeepsStoredObjects f l.fn.parts.objects.now l.parts.objects.now;
      rules : KeepsRulesInStep w f l.fn.parts.worktree.now l.fn.parts.objects.now l.fn.parts.excludes.now l.parts.excludes.now;
      interrupt : AsksInterruptPerRaise i l.fn.parts.interrupt.now l.parts.interrupt.now;
      opens : OpensDirectoriesMostlyOverForks w i l.fn.parts.worktree.now l.parts.worktree.now l.fn.parts.interrupt.now l.parts.interrupt.now l.fn.parts.outcome.now l.parts.outcome.now 1 0
          (EntersSoFar w f d l.fn.parts.worktree.now l.parts.worktree.now l.fn.parts.objects.now l.fn.parts.excludes.now l.fn.parts.delegate.now given l.blocked (l.levels + count_components l.fn.place.path) l.fn.place.path (take l.name-index l.name-items));
      puts : AddsEmissionsWithinRoom (once_below l.fn.place.path (take l.name-index l.name-items)) (d.given l.fn.parts.delegate.now) (d.given l.parts.delegate.now) l.fn.parts.outcome.now l.parts.outcome.now l.held.entries.items;
      delegate : KeepsDelegateRunning d l.fn.parts.delegate.now l.parts.delegate.now;
      filtered : AddsNoHiddenEmission (walk_options_of l.shared.options) (d.given l.fn.parts.delegate.now) (d.given l.parts.delegate.now);
      listed : w.list_faults l.parts.worktree.now ≡ w.list_faults l.fn.parts.worktree.now;
      calm : i.raised l.parts.interrupt.now ≡ i.raised l.fn.parts.interrupt.now;
      kept_on : d.breaks l.parts.delegate.now ≡ d.breaks l.fn.parts.delegate.now;
      stays : l.place ≡ l.fn.place;
      so_far : (made : Option StackSetup) (s : TreeAndObjects) → IsWalkOverSources given (w.told l.fn.parts.worktree.now) (f.holds l.fn.parts.objects.now) l.fn.parts.excludes.now l.blocked made s → CountNotIncreased (w.faults l.fn.parts.worktree.now) (w.faults l.parts.worktree.now)
          → d.is_default l.fn.parts.delegate.now ≡ true → (limit : ℕ) → l.levels + count_components l.fn.place.path ≡ limit
          → SoFar given made s limit l.fn.place.path (take l.name-index l.name-items) (d.given l.fn.parts.delegate.now) (d.given l.parts.delegate.now) l.fn.parts.outcome.now l.parts.outcome.now l.held.entries.items l.held.blocked;
    }
