-- Steps of a lookup: none, one behind another, and one that was refused.
use Rattle.std.specs.Prelude.{◌≡◌, ℕ, List, ◌++◌, replicate, Some, Result, Ok, Err, OnOk, IsErrAnd}
use Rattle.std.proofs.Common.{refl, sym, ap, ◌∙◌, subst, arith}
use Rattle.worktree_fs.specs.Causes.{CountIncreasedOrSaturated}
use Rattle.worktree_fs.specs.Paths.{all_prefixes_shortest_first}
use Rattle.worktree_fs.specs.PathStack.{DelegateCall, pop_directory}
use Rattle.worktree_fs.proofs.Routes.Lookups.{on_ok}
use Rattle.gitbase_core.specs.declared.find.Find.{Ghosts as FindOf}
use Rattle.worktree_fs.specs.declared.worktree.Worktree.{Ghosts as WorktreeOf}
use Rattle.worktree_stack.specs.declared.error.AtPathError.{AtPathError}
use Rattle.worktree_stack.specs.Excludes.{proper_ancestor_directories}
use Rattle.worktree_stack.specs.Lookups.{stack_setup_reads_worktree}
use Rattle.worktree_stack.specs.Moments.{WorktreeStoreAndStack}
use Rattle.worktree_stack.specs.Reading.{TreeAndObjects, Tells}
use Rattle.worktree_stack.specs.Setup.{StackSetup}
use Rattle.worktree_stack.specs.StackSteps.{KeepsStackExceptRulesAndReadCounts, PopsDirectoriesOnly, KeepsStackInStepAndLevel, PushKeepsSetupAndTree, CarriesOutOrStopsCalls, SeesNamesReadByCalls}
use Rattle.worktree_stack.specs.Stacked.{CountsMatchDirectories, HoldsRulesOfTree, IsInStepWithTree, HasCountsOfPushedDirectories, StackModel, setup_of_stack, pushed_directories}
use Rattle.worktree_stack.specs.Steps.{CarriesOutCalls, StopsLookupByError}
use Rattle.worktree_stack.proofs.Lookup.Carrying.{carries-then, stops-after}
use Rattle.worktree_stack.proofs.Refusals.{rose-earlier}
use Rattle.worktree_stack.proofs.Lookup.SeeingOn.{on-then, sees-popped}
use Rattle.worktree_stack.proofs.Lookup.LookedUp.{leaves-then, store-then, tells-before}

-- where a call was refused nothing is said of an answer
pub no-answer : {T E : Type 0} (P : Type 0) (r : Result T E) (e : E) → IsErrAnd r (λ x. x ≡ e) → OnOk r P
no-answer P (Ok v) e said = absurd said
no-answer P (Err x) e said = tt

module _ {W F : Type 0} (w : WorktreeOf W) (f : FindOf F) where
  pub keeps-none : (m : WorktreeStoreAndStack W F) → PushKeepsSetupAndTree {T = Unit {0}} w f m m (Ok tt)
  keeps-none m =
      record {
        made = refl;
        is_dir = refl;
        answered = refl;
        platforms = refl;
        no_mkdirs = refl;
        untouched = λ none. refl;
        store_untouched = λ none. refl;
        leaves = record { tree = refl; faults = omega arith; list_faults = refl; reads = omega arith; lists = refl; precomposes = refl };
        leaves_store = record { holds = refl; faults = omega arith };
        unfaulted = refl;
        unfaulted_store = refl;
      }

  pub keeps-then : (a b c : WorktreeStoreAndStack W F) (r : Result (Unit {0}) AtPathError) → PushKeepsSetupAndTree {T = Unit {0}} w f a b (Ok tt) → PushKeepsSetupAndTree w f b c r → PushKeepsSetupAndTree w f a c r
  keeps-then a b c r first second =
      record {
        made = second.made ∙ first.made;
        is_dir = second.is_dir ∙ first.is_dir;
        answered = second.answered ∙ first.answered;
        platforms = second.platforms ∙ first.platforms;
        no_mkdirs = second.no_mkdirs ∙ first.no_mkdirs;
        untouched = λ none. second.untouched (ap stack_setup_reads_worktree first.made ∙ none) ∙ first.untouched none;
        store_untouched = λ none. second.store_untouched (ap (λ (m : StackSetup). m.mappings) first.made ∙ none) ∙ first.store_untouched none;
        leaves = leaves-then w a.worktree b.worktree c.worktree first.leaves second.leaves;
        leaves_store = store-then f a.objects b.objects c.objects first.leaves_store second.leaves_store;
        unfaulted = on_ok r (λ same. same ∙ first.unfaulted) second.unfaulted;
        unfaulted_store = on_ok r (λ same. same ∙ first.unfaulted_store) second.unfaulted_store;
      }

  pub holds-none : (m : WorktreeStoreAndStack W F) → KeepsStackInStepAndLevel w f m m
  holds-none m = record { in_step = λ s tells in_step. in_step; levels = λ level. level }

  pub holds-then : {T : Type 0} (a b c : WorktreeStoreAndStack W F) (r : Result T AtPathError) → PushKeepsSetupAndTree w f a b r → KeepsStackInStepAndLevel w f a b → KeepsStackInStepAndLevel w f b c → KeepsStackInStepAndLevel w f a c
  holds-then a b c r keeps first second =
      record {
        in_step = λ s tells in_step. second.in_step s (tells-before _ _ _ _ s keeps.leaves.tree keeps.leaves_store.holds tells) (first.in_step s tells in_step);
        levels = λ level. second.levels (first.levels level);
      }

  -- the current path, whose rules are pushed, is the deepest directory then
  pub holds-entered : (a b : WorktreeStoreAndStack W F) (mid : StackModel) → b.stack ≡ record mid { at = Some mid.current } → KeepsStackExceptRulesAndReadCounts a.stack mid → pushed_directories a.stack.at ≡ proper_ancestor_directories a.stack.current
      → ((s : TreeAndObjects) → Tells (w.told a.worktree) (f.holds a.objects) s → HoldsRulesOfTree (setup_of_stack a.stack) s (proper_ancestor_directories a.stack.current) a.stack.attributes a.stack.ignore
      → HoldsRulesOfTree (setup_of_stack a.stack) s (all_prefixes_shortest_first a.stack.current) mid.attributes mid.ignore)
      → (CountsMatchDirectories (proper_ancestor_directories a.stack.current) a.stack.attributes a.stack.ignore → CountsMatchDirectories (all_prefixes_shortest_first a.stack.current) mid.attributes mid.ignore)
      → KeepsStackInStepAndLevel w f a b
  holds-entered a b mid entered place above in_step levels =
      record {
        in_step = λ s tells held.
            let told : HoldsRulesOfTree (setup_of_stack a.stack) s (all_prefixes_shortest_first a.stack.current) mid.attributes mid.ignore =
            in_step s tells (subst (λ (ds : List (List (List ℕ))). HoldsRulesOfTree (setup_of_stack a.stack) s ds a.stack.attributes a.stack.ignore) above held) in
            let there : IsInStepWithTree s (record mid { at = Some mid.current }) =
            subst (λ (m : StackSetup). HoldsRulesOfTree m s (all_prefixes_shortest_first mid.current) mid.attributes mid.ignore) (sym place.made)
            (subst (λ (n : List (List ℕ)). HoldsRulesOfTree (setup_of_stack a.stack) s (all_prefixes_shortest_first n) mid.attributes mid.ignore) (sym place.current) told) in
            subst (λ (x : StackModel). IsInStepWithTree s x) (sym entered) there;
        levels = λ level.
            let many : CountsMatchDirectories (all_prefixes_shortest_first a.stack.current) mid.attributes mid.ignore = levels (subst (λ (ds : List (List (List ℕ))). CountsMatchDirectories ds a.stack.attributes a.stack.ignore) above level) in
            let there : HasCountsOfPushedDirectories (record mid { at = Some mid.current }) = subst (λ (n : List (List ℕ)). CountsMatchDirectories (all_prefixes_shortest_first n) mid.attributes mid.ignore) (sym place.current) many in
            subst (λ (x : StackModel). HasCountsOfPushedDirectories x) (sym entered) there;
      }

  -- a path is current then, and nothing else changed of what is held
  pub holds-as : (a b : WorktreeStoreAndStack W F) (new there : StackModel) → new ≡ there → ((s : TreeAndObjects) → IsInStepWithTree s b.stack → IsInStepWithTree s there) → (HasCountsOfPushedDirectories b.stack → HasCountsOfPushedDirectories there)
      → KeepsStackInStepAndLevel w f a b → KeepsStackInStepAndLevel w f a (record b { stack = new })
  holds-as a b new there same step level holds =
      record {
        in_step = λ s tells held. subst (λ (x : StackModel). IsInStepWithTree s x) (sym same) (step s (holds.in_step s tells held));
        levels = λ many. subst (λ (x : StackModel). HasCountsOfPushedDirectories x) (sym same) (level (holds.levels many));
      }

  -- ---- calls behind others

  -- what is told then was told before
  pub told-before : (a b : WorktreeStoreAndStack W F) (calls : List DelegateCall) (old new : StackModel) → PushKeepsSetupAndTree {T = Unit {0}} w f a b (Ok tt)
      → CarriesOutCalls (w.told b.worktree) (f.holds b.objects) calls old new → CarriesOutCalls (w.told a.worktree) (f.holds a.objects) calls old new
  told-before a b calls old new keeps carries =
      subst (λ h. CarriesOutCalls (w.told a.worktree) h calls old new) keeps.leaves_store.holds (subst (λ t. CarriesOutCalls t (f.holds b.objects) calls old new) keeps.leaves.tree carries)

  pub moves-then : (a b c : WorktreeStoreAndStack W F) (first next : List DelegateCall) → PushKeepsSetupAndTree {T = Unit {0}} w f a b (Ok tt) → CarriesOutOrStopsCalls {T = Unit {0}} w f a b first (Ok tt)
      → CarriesOutOrStopsCalls {T = Unit {0}} w f b c next (Ok tt) → CarriesOutOrStopsCalls {T = Unit {0}} w f a c (first ++ next) (Ok tt)
  moves-then a b c first next keeps one two =
      record {
        carried = carries-then (w.told a.worktree) (f.holds a.objects) first next a.stack b.stack c.stack one.carried (told-before a b next b.stack c.stack keeps two.carried);
        stopped = tt;
      }

  -- a stop after calls that were carried out, and before more
  pub stops-behind : (a b c : WorktreeStoreAndStack W F) (calls first next more : List DelegateCall) → calls ≡ first ++ (next ++ more) → PushKeepsSetupAndTree {T = Unit {0}} w f a b (Ok tt) → CarriesOutOrStopsCalls {T = Unit {0}} w f a b first (Ok tt)
      → (e : AtPathError)
      → StopsLookupByError (w.told b.worktree) (f.holds b.objects) (CountIncreasedOrSaturated (w.faults b.worktree) (w.faults c.worktree)) (CountIncreasedOrSaturated (f.faults b.objects) (f.faults c.objects)) next b.stack c.stack e
      → StopsLookupByError (w.told a.worktree) (f.holds a.objects) (CountIncreasedOrSaturated (w.faults a.worktree) (w.faults c.worktree)) (CountIncreasedOrSaturated (f.faults a.objects) (f.faults c.objects)) calls a.stack c.stack e
  stops-behind a b c calls first next more calls_are keeps moves e stops =
      stops-after (w.told a.worktree) (f.holds a.objects) calls first next more a.stack b.stack c.stack calls_are moves.carried keeps.is_dir _ _ _ _
      (rose-earlier (w.faults a.worktree) (w.faults b.worktree) (w.faults c.worktree) keeps.leaves.faults) (rose-earlier (f.faults a.objects) (f.faults b.objects) (f.faults c.objects) keeps.leaves_store.faults) e
      (subst (λ h. StopsLookupByError (w.told a.worktree) h (CountIncreasedOrSaturated (w.faults b.worktree) (w.faults c.worktree)) (CountIncreasedOrSaturated (f.faults b.objects) (f.faults c.objects)) next b.stack c.stack e) keeps.leaves_store.holds
      (subst (λ t. StopsLookupByError t (f.holds b.objects) (CountIncreasedOrSaturated (w.faults b.worktree) (w.faults c.worktree)) (CountIncreasedOrSaturated (f.faults b.objects) (f.faults c.objects)) next b.stack c.stack e) keeps.leaves.tree stops))

  pub sees-behind : (a b c : WorktreeStoreAndStack W F) (first next calls : List DelegateCall) (r : Result (Unit {0}) AtPathError) → calls ≡ first ++ next → PushKeepsSetupAndTree {T = Unit {0}} w f a b (Ok tt)
      → SeesNamesReadByCalls {T = Unit {0}} w f a b first (Ok tt) → SeesNamesReadByCalls w f b c next r → SeesNamesReadByCalls w f a c calls r
  sees-behind a b c first next calls r calls_are keeps one two =
      on-then (w.told a.worktree) (w.told b.worktree) (f.holds a.objects) (f.holds b.objects) (setup_of_stack a.stack) (setup_of_stack b.stack) first next calls a.stack.attributes b.stack.attributes c.stack.attributes r
      keeps.leaves.tree keeps.leaves_store.holds keeps.made calls_are one two

  -- ---- directories that are popped behind others

  pub keeps-popped : (a b : WorktreeStoreAndStack W F) (new : StackModel) {calls : List DelegateCall} → PushKeepsSetupAndTree {T = Unit {0}} w f a b (Ok tt) → PopsDirectoriesOnly calls b.stack new → PushKeepsSetupAndTree {T = Unit {0}} w f a (record b { stack = new }) (Ok tt)
  keeps-popped a b new keeps pops =
      record {
        made = pops.made ∙ keeps.made;
        is_dir = pops.is_dir ∙ keeps.is_dir;
        answered = pops.answered ∙ keeps.answered;
        platforms = pops.platforms ∙ keeps.platforms;
        no_mkdirs = pops.no_mkdirs ∙ keeps.no_mkdirs;
        untouched = keeps.untouched;
        store_untouched = keeps.store_untouched;
        leaves = keeps.leaves;
        leaves_store = keeps.leaves_store;
        unfaulted = keeps.unfaulted;
        unfaulted_store = keeps.unfaulted_store;
      }

  pub holds-popped : (a b : WorktreeStoreAndStack W F) (new : StackModel) {calls : List DelegateCall} → KeepsStackInStepAndLevel w f a b → PopsDirectoriesOnly calls b.stack new → KeepsStackInStepAndLevel w f a (record b { stack = new })
  holds-popped a b new holds pops =
      record { in_step = λ s tells in_step. pops.in_step s (holds.in_step s tells in_step); levels = λ level. pops.levels (holds.levels level) }

  pub moves-popped : (a b : WorktreeStoreAndStack W F) (new : StackModel) (first calls : List DelegateCall) → CarriesOutOrStopsCalls {T = Unit {0}} w f a b first (Ok tt) → PopsDirectoriesOnly calls b.stack new
      → CarriesOutOrStopsCalls {T = Unit {0}} w f a (record b { stack = new }) (first ++ calls) (Ok tt)
  moves-popped a b new first calls moves pops =
      record {
        carried = carries-then (w.told a.worktree) (f.holds a.objects) first calls a.stack b.stack new moves.carried (pops.carried (w.told a.worktree) (f.holds a.objects));
        stopped = tt;
      }

  pub sees-popped-on : (a b : WorktreeStoreAndStack W F) (new : StackModel) (first : List DelegateCall) (n : ℕ) → PushKeepsSetupAndTree {T = Unit {0}} w f a b (Ok tt) → SeesNamesReadByCalls {T = Unit {0}} w f a b first (Ok tt)
      → PopsDirectoriesOnly (replicate n pop_directory) b.stack new → SeesNamesReadByCalls {T = Unit {0}} w f a (record b { stack = new }) (first ++ replicate n pop_directory) (Ok tt)
  sees-popped-on a b new first n keeps seen pops =
      sees-behind a b (record b { stack = new }) first (replicate n pop_directory) (first ++ replicate n pop_directory) (Ok tt) refl keeps seen
      (sees-popped (w.told b.worktree) (f.holds b.objects) (setup_of_stack b.stack) n b.stack.attributes new.attributes pops.names pops.dropped)
