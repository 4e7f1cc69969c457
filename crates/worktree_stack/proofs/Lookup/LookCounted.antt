-- A lookup that was counted first, and then refused on the way or answered.
use Rattle.std.specs.Prelude.{◌≡◌, ℕ, ◌+◌, Bool, true, List, [], length, Option, Ok, Err}
use Rattle.std.proofs.Common.{refl, sym, subst, arith}
use Rattle.std.proofs.lemmas.List.{append-nil}
use Rattle.gitbase_core.specs.declared.find.Find.{Ghosts as FindOf}
use Rattle.gitbase_core.specs.Path.{components}
use Rattle.worktree_fs.specs.declared.worktree.Worktree.{Ghosts as WorktreeOf}
use Rattle.worktree_fs.specs.Causes.{CountIncreasedOrSaturated}
use Rattle.worktree_fs.specs.Paths.{is_relative_without_dots}
use Rattle.worktree_fs.specs.PathStack.{DelegateCall, delegate_calls_of_lookup}
use Rattle.worktree_stack.specs.declared.error.AtPathError.{AtPathError}
use Rattle.worktree_stack.specs.Counted.{with_lookup_counted}
use Rattle.worktree_stack.specs.LooksUp.{LooksUpPath}
use Rattle.worktree_stack.specs.Lookups.{directories_kept_by_lookup}
use Rattle.worktree_stack.specs.Moments.{WorktreeStoreAndStack}
use Rattle.worktree_stack.specs.StackSteps.{ArrivesAtPathOrOnWay, BoundsWorktreeReads, KeepsStackInStepAndLevel, PushKeepsSetupAndTree, CarriesOutOrStopsCalls, SeesNamesReadByCalls}
use Rattle.worktree_stack.specs.Stacked.{StackModel, pushed_directories}
use Rattle.worktree_stack.specs.Steps.{CarriesOutCalls, StopsLookupByError}
use Rattle.worktree_stack.proofs.Lookup.Above.{refuses}
use Rattle.worktree_stack.proofs.Lookup.Carrying.{carries-then, stops-after}
use Rattle.worktree_stack.proofs.Lookup.LookedUp.{carries-counted, not_both}

pub look-refused : {W F : Type 0} (w : WorktreeOf W) (f : FindOf F) (mid now : WorktreeStoreAndStack W F) (path : List ℕ) (kind : Option Bool) (old : StackModel) (e : AtPathError)
    → mid.stack ≡ with_lookup_counted old → is_relative_without_dots path ≡ true
    → PushKeepsSetupAndTree {T = Unit {0}} w f mid now (Err e) → ArrivesAtPathOrOnWay {T = Unit {0}} (components path) (directories_kept_by_lookup mid.stack.at (components path)) now.stack (Err e)
    → CarriesOutOrStopsCalls {T = Unit {0}} w f mid now (delegate_calls_of_lookup mid.stack.at (components path)) (Err e) → KeepsStackInStepAndLevel w f mid now
    → SeesNamesReadByCalls {T = Unit {0}} w f mid now (delegate_calls_of_lookup mid.stack.at (components path)) (Err e)
    → BoundsWorktreeReads w mid now (delegate_calls_of_lookup mid.stack.at (components path)) (length (pushed_directories (directories_kept_by_lookup mid.stack.at (components path)))) (length (pushed_directories now.stack.at) + 1)
    → LooksUpPath {T = Unit {0}} w f mid.worktree now.worktree mid.objects now.objects path kind old now.stack (Err e)
look-refused {W} {F} w f mid now path kind old e counted normal =
    let names : List (List ℕ) = components path in
    subst
    (λ (m : StackModel). PushKeepsSetupAndTree {T = Unit {0}} w f (record mid { stack = m }) now (Err e) → ArrivesAtPathOrOnWay {T = Unit {0}} names (directories_kept_by_lookup m.at names) now.stack (Err e)
    → CarriesOutOrStopsCalls {T = Unit {0}} w f (record mid { stack = m }) now (delegate_calls_of_lookup m.at names) (Err e) → KeepsStackInStepAndLevel w f (record mid { stack = m }) now
    → SeesNamesReadByCalls {T = Unit {0}} w f (record mid { stack = m }) now (delegate_calls_of_lookup m.at names) (Err e)
    → BoundsWorktreeReads w (record mid { stack = m }) now (delegate_calls_of_lookup m.at names) (length (pushed_directories (directories_kept_by_lookup m.at names))) (length (pushed_directories now.stack.at) + 1)
    → LooksUpPath {T = Unit {0}} w f mid.worktree now.worktree mid.objects now.objects path kind old now.stack (Err e))
    (sym counted)
    (λ keeps arrives moves holds sees asks.
    let calls : List DelegateCall = delegate_calls_of_lookup old.at names in
    let stopped : StopsLookupByError (w.told mid.worktree) (f.holds mid.objects) (CountIncreasedOrSaturated (w.faults mid.worktree) (w.faults now.worktree)) (CountIncreasedOrSaturated (f.faults mid.objects) (f.faults now.objects)) calls old now.stack e =
    stops-after (w.told mid.worktree) (f.holds mid.objects) calls [] calls [] old (with_lookup_counted old) now.stack (sym (append-nil calls)) (carries-counted (w.told mid.worktree) (f.holds mid.objects) old) refl
    _ _ _ _ (λ rose. rose) (λ rose. rose) e moves.stopped in
    record {
      made = keeps.made;
      in_step = holds.in_step;
      levels = holds.levels;
      sees = sees;
      looked_up = tt;
      is_dir = tt;
      answered = tt;
      unanswered = keeps.answered;
      on_way = λ is. arrives.on_way;
      normal = λ is. absurd (not_both (is_relative_without_dots path) is normal);
      refused = λ is. refuses names (w.told mid.worktree) (f.holds mid.objects) old now.stack _ _ e stopped;
      untouched = keeps.untouched;
      store_untouched = keeps.store_untouched;
      platforms = keeps.platforms;
      carried = tt;
      stopped = λ is. stopped;
      stays = arrives.stays;
      reads = λ alone. omega (arith, asks.reads alone);
    })

pub look-answered : {W F : Type 0} (w : WorktreeOf W) (f : FindOf F) (mid went : WorktreeStoreAndStack W F) (path : List ℕ) (kind : Option Bool) (old new : StackModel)
    → mid.stack ≡ with_lookup_counted old → is_relative_without_dots path ≡ true → new ≡ record went.stack { is_dir = kind; is_answered = true }
    → PushKeepsSetupAndTree {T = Unit {0}} w f mid went (Ok tt) → ArrivesAtPathOrOnWay {T = Unit {0}} (components path) (directories_kept_by_lookup mid.stack.at (components path)) went.stack (Ok tt)
    → CarriesOutOrStopsCalls {T = Unit {0}} w f mid went (delegate_calls_of_lookup mid.stack.at (components path)) (Ok tt) → KeepsStackInStepAndLevel w f mid went
    → SeesNamesReadByCalls {T = Unit {0}} w f mid went (delegate_calls_of_lookup mid.stack.at (components path)) (Ok tt)
    → BoundsWorktreeReads w mid went (delegate_calls_of_lookup mid.stack.at (components path)) (length (pushed_directories (directories_kept_by_lookup mid.stack.at (components path)))) (length (pushed_directories went.stack.at) + 0)
    → LooksUpPath {T = Unit {0}} w f mid.worktree went.worktree mid.objects went.objects path kind old new (Ok tt)
look-answered {W} {F} w f mid went path kind old new counted normal same keeps0 arrives0 moves0 holds0 sees0 asks0 =
    let names : List (List ℕ) = components path in
    subst (λ (s : StackModel). LooksUpPath {T = Unit {0}} w f mid.worktree went.worktree mid.objects went.objects path kind old s (Ok tt)) (sym same)
    (subst
    (λ (m : StackModel). PushKeepsSetupAndTree {T = Unit {0}} w f (record mid { stack = m }) went (Ok tt) → ArrivesAtPathOrOnWay {T = Unit {0}} names (directories_kept_by_lookup m.at names) went.stack (Ok tt)
    → CarriesOutOrStopsCalls {T = Unit {0}} w f (record mid { stack = m }) went (delegate_calls_of_lookup m.at names) (Ok tt) → KeepsStackInStepAndLevel w f (record mid { stack = m }) went
    → SeesNamesReadByCalls {T = Unit {0}} w f (record mid { stack = m }) went (delegate_calls_of_lookup m.at names) (Ok tt)
    → BoundsWorktreeReads w (record mid { stack = m }) went (delegate_calls_of_lookup m.at names) (length (pushed_directories (directories_kept_by_lookup m.at names))) (length (pushed_directories went.stack.at) + 0)
    → LooksUpPath {T = Unit {0}} w f mid.worktree went.worktree mid.objects went.objects path kind old (record went.stack { is_dir = kind; is_answered = true }) (Ok tt))
    (sym counted)
    (λ keeps arrives moves holds sees asks.
    let carried : CarriesOutCalls (w.told mid.worktree) (f.holds mid.objects) (delegate_calls_of_lookup old.at names) old went.stack =
    carries-then (w.told mid.worktree) (f.holds mid.objects) [] (delegate_calls_of_lookup old.at names) old (with_lookup_counted old) went.stack (carries-counted (w.told mid.worktree) (f.holds mid.objects) old) moves.carried in
    record {
      made = keeps.made;
      in_step = holds.in_step;
      levels = holds.levels;
      sees = sees;
      looked_up = record { at = arrives.looked_up.at; current = arrives.looked_up.current };
      is_dir = refl;
      answered = refl;
      unanswered = tt;
      on_way = λ is. tt;
      normal = λ is. absurd (not_both (is_relative_without_dots path) is normal);
      refused = λ is. tt;
      untouched = keeps.untouched;
      store_untouched = keeps.store_untouched;
      platforms = keeps.platforms;
      carried = record { setup = carried.setup; left = carried.left; counted = carried.counted; read = carried.read };
      stopped = λ is. tt;
      stays = arrives.stays;
      reads = λ alone. omega (arith, asks.reads alone);
    }) keeps0 arrives0 moves0 holds0 sees0 asks0)
