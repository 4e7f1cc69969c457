-- How what is walked from a traversal root ends, call by call.
use Rattle.std.proofs.Common.{◌≡◌, ℕ, List, Option, Result, Ok, Err, IfErr, refl, sym, ap, ◌∙◌, arith}
use Rattle.std.specs.Prelude.{is_some}
use Rattle.gitbase_core.specs.declared.find.Find.{Ghosts as FindOf}
use Rattle.worktree_fs.specs.declared.interrupt.Interrupt.{Ghosts as InterruptOf}
use Rattle.worktree_fs.specs.declared.worktree.Worktree.{Ghosts as WorktreeOf}
use Rattle.worktree_fs.specs.Causes.{CountIncreasedOrSaturated}
use Rattle.worktree_fs.specs.Kept.{KeepsTreeAndListCounts, KeepsStoredObjects}
use Rattle.worktree_stack.specs.Reading.{TreeAndObjects}
use Rattle.worktree_stack.specs.Setup.{StackSetup}
use Rattle.worktree_stack.specs.Stacked.{StackModel}
use Rattle.dir_classify.specs.declared.classify.RootOutcome.{RootOutcome}
use Rattle.dir_classify.specs.declared.error.Error.{Error}
use Rattle.dir_classify.specs.declared.error.Error.TheVariants as errors
use Rattle.dir_classify.specs.Kept.{AsksWorktreeForRules, KeepsRulesInStep}
use Rattle.dir_classify.specs.Refused.{HoldsIfFaultError}
use Rattle.dir_classify.specs.Refused as classes
use Rattle.dir_walk.specs.declared.delegate.Delegate.{Ghosts as DelegateOf}
use Rattle.dir_walk.specs.declared.handed.Stop.{Stop}
use Rattle.dir_walk.specs.declared.handed.Stop.TheVariants.{Refused, Broken}
use Rattle.dir_walk.specs.Given.{HoldsOfErrorIfRefused}
use Rattle.dir_walk.specs.Kept.{AsksInterruptPerRaise, HeedsDelegateBreak, KeepsDelegateRunning, KeepsWorktree, HoldsIfInterrupted, RefusesOnlyOutOfMemory, HoldsIfListingFault}
use Rattle.dir_walk.specs.Refused.{IsTooDeepOrInterruptedError}
use Rattle.dir_walk.specs.Starts.{IsNonDirectoryRootError}
use Rattle.dir_walk.specs.Walks.{KeepsStateAtEnd, Tells}
use Rattle.dir_walk.proofs.Walked.Ending.{Caused-later, always}
use Rattle.dir_walk.proofs.Opens.Keeping.{AsksStore-same, AsksStore-then, Heeds-after, KeepsDelegate-same, KeepsDelegate-then, KeepsRules-same, KeepsRules-then, KeepsTree-then}
use Rattle.dir_walk.proofs.Refused.Refusals.{memory-only}

-- what came before left the worktree unlisted
pub record Before {W F : Type 0} (w : WorktreeOf W) (f : FindOf F) (w0 w1 : W) (o0 o1 : F) (old new : Option StackModel) : Type 0 where
  pub worktree : AsksWorktreeForRules w w0 w1
  pub store : KeepsStoredObjects f o0 o1
  pub rules : KeepsRulesInStep w f w0 o0 old new

pub Before-asked : {W F : Type 0} {w : WorktreeOf W} {f : FindOf F} {w0 w1 : W} {o : F} {rules : Option StackModel} → KeepsTreeAndListCounts w w0 w1 → Before w f w0 w1 o o rules rules
Before-asked asks =
    record {
      worktree = record { tree = asks.tree; faults = asks.faults; list_faults = asks.list_faults; reads = asks.reads; lists = asks.lists; precomposes = asks.precomposes };
      store = AsksStore-same;
      rules = KeepsRules-same;
    }

pub Before-classed : {W F : Type 0} {w : WorktreeOf W} {f : FindOf F} {w0 w1 : W} {o0 o1 : F} {r0 r1 : Option StackModel} → AsksWorktreeForRules w w0 w1 → KeepsStoredObjects f o0 o1 → KeepsRulesInStep w f w0 o0 r0 r1 → Before w f w0 w1 o0 o1 r0 r1
Before-classed worktree store rules = record { worktree = worktree; store = store; rules = rules }

-- what is told is told afterwards too
pub Tells-later : {W F : Type 0} {w : WorktreeOf W} {f : FindOf F} {w0 w1 : W} {o0 o1 : F} {r0 r1 : Option StackModel} {s : TreeAndObjects} → Before w f w0 w1 o0 o1 r0 r1 → Tells w f w0 o0 r0 s → Tells w f w1 o1 r1 s
Tells-later b t =
    record {
      tells = record {
        tree_is = b.worktree.tree ∙ t.tells.tree_is;
        objects_are = λ some. b.store.holds ∙ t.tells.objects_are (ap is_some (sym b.rules.made) ∙ some);
      };
      in_step = b.rules.in_step _ t.tells t.in_step;
    }

pub Before-then : {W F : Type 0} {w : WorktreeOf W} {f : FindOf F} {w0 w1 w2 : W} {o0 o1 o2 : F} {r0 r1 r2 : Option StackModel}
    → Before w f w0 w1 o0 o1 r0 r1 → Before w f w1 w2 o1 o2 r1 r2 → Before w f w0 w2 o0 o2 r0 r2
Before-then a b =
    record {
      worktree = record {
        tree = b.worktree.tree ∙ a.worktree.tree;
        faults = omega (arith, a.worktree.faults, b.worktree.faults);
        list_faults = b.worktree.list_faults ∙ a.worktree.list_faults;
        reads = omega (arith, a.worktree.reads, b.worktree.reads);
        lists = b.worktree.lists ∙ a.worktree.lists;
        precomposes = b.worktree.precomposes ∙ a.worktree.precomposes;
      };
      store = AsksStore-then a.store b.store;
      rules = KeepsRules-then a.worktree.tree a.store.holds a.rules b.rules;
    }

pub unlisted : {W : Type 0} {w : WorktreeOf W} {w0 w1 : W} → AsksWorktreeForRules w w0 w1 → KeepsWorktree w w0 w1
unlisted {W} {w} {w0} {w1} a =
    record { tree = a.tree; faults = a.faults; list_faults = omega (arith, a.list_faults); reads = a.reads; lists = omega (arith, a.lists); precomposes = a.precomposes }

module _ {W F I D T : Type 0} (w : WorktreeOf W) (f : FindOf F) (i : InterruptOf I) (d : DelegateOf D) where
  pub Ends-after : {w0 w1 w2 : W} {o0 o1 o2 : F} {i0 i1 : I} {r0 r1 r2 : Option StackModel} {d0 d1 : D} (result : Result T Stop)
      → Before w f w0 w1 o0 o1 r0 r1 → KeepsStateAtEnd w f i d w1 w2 o1 o2 i0 i1 r1 r2 d0 d1 result → KeepsStateAtEnd w f i d w0 w2 o0 o2 i0 i1 r0 r2 d0 d1 result
  Ends-after {w0} {w1} {w2} {o0} {o1} {o2} {i0} {i1} result b e =
      record {
        worktree = KeepsTree-then (unlisted b.worktree) e.worktree;
        store = AsksStore-then b.store e.store;
        rules = KeepsRules-then b.worktree.tree b.store.holds b.rules e.rules;
        interrupt = e.interrupt;
        delegate = e.delegate;
        heeds = e.heeds;
        caused = Caused-later result b.worktree.faults b.store.faults refl b.worktree.list_faults e.caused;
      }

  -- a delegate that was asked, and given nothing
  pub Ends-asked : {w0 w1 : W} {o0 o1 : F} {i0 i1 : I} {r0 r1 : Option StackModel} {d0 d1 d2 : D} (result : Result T Stop)
      → KeepsDelegateRunning d d0 d1 → d.breaks d1 ≡ d.breaks d0 → KeepsStateAtEnd w f i d w0 w1 o0 o1 i0 i1 r0 r1 d1 d2 result → KeepsStateAtEnd w f i d w0 w1 o0 o1 i0 i1 r0 r1 d0 d2 result
  Ends-asked {d0 = d0} {d1 = d1} {d2 = d2} result keeps same e =
      record {
        worktree = e.worktree;
        store = e.store;
        rules = e.rules;
        interrupt = e.interrupt;
        delegate = KeepsDelegate-then keeps e.delegate;
        heeds = Heeds-after d d0 d1 d2 result same e.heeds;
        caused = e.caused;
      }

  -- only the delegate was given something
  pub Ends-put : {w0 : W} {o0 : F} {i0 : I} {r0 : Option StackModel} {d0 d1 : D} (result : Result T Stop) → KeepsDelegateRunning d d0 d1 → HeedsDelegateBreak d d0 d1 result
      → IfErr result (HoldsOfErrorIfRefused (HoldsIfFaultError (CountIncreasedOrSaturated (w.faults w0) (w.faults w0)) (CountIncreasedOrSaturated (f.faults o0) (f.faults o0)))) → IfErr result (HoldsOfErrorIfRefused (HoldsIfInterrupted (CountIncreasedOrSaturated (i.raised i0) (i.raised i0))))
      → IfErr result (HoldsOfErrorIfRefused (HoldsIfListingFault (CountIncreasedOrSaturated (w.list_faults w0) (w.list_faults w0))))
      → KeepsStateAtEnd w f i d w0 w0 o0 o0 i0 i0 r0 r0 d0 d1 result
  Ends-put {w0} {o0} {i0} result keeps heeds fault interrupt listing =
      record {
        worktree = record { tree = refl; faults = omega arith; list_faults = omega arith; reads = omega arith; lists = omega arith; precomposes = refl };
        store = AsksStore-same;
        rules = KeepsRules-same;
        interrupt = record { questions = omega arith; raised = omega arith };
        delegate = keeps;
        heeds = heeds;
        caused = record { fault = fault; interrupt = interrupt; listing = listing; listed = always result refl; calm = always result refl };
      }

-- a refusal before anything was given
pub Ends-refused : {W F I D : Type 0} (T : Type 0) (w : WorktreeOf W) (f : FindOf F) (i : InterruptOf I) (d : DelegateOf D) {w0 w1 : W} {o0 o1 : F} {i0 i1 : I} {r0 r1 : Option StackModel} {d0 : D} (e : Error)
    → Before w f w0 w1 o0 o1 r0 r1 → AsksInterruptPerRaise i i0 i1
    → HoldsIfFaultError (CountIncreasedOrSaturated (w.faults w0) (w.faults w1)) (CountIncreasedOrSaturated (f.faults o0) (f.faults o1)) e → HoldsIfInterrupted (CountIncreasedOrSaturated (i.raised i0) (i.raised i1)) e
    → HoldsIfListingFault (CountIncreasedOrSaturated (w.list_faults w0) (w.list_faults w1)) e
    → KeepsStateAtEnd {T = T} w f i d w0 w1 o0 o1 i0 i1 r0 r1 d0 d0 (Err (Refused e))
Ends-refused T w f i d e b asks fault interrupt listing =
    record {
      worktree = unlisted b.worktree;
      store = b.store;
      rules = b.rules;
      interrupt = asks;
      delegate = KeepsDelegate-same;
      heeds = record { broken = tt; stopped = tt; unbroken = refl; kept_on = tt };
      caused = record { fault = fault; interrupt = interrupt; listing = listing; listed = tt; calm = tt };
    }

-- want of memory
pub Ends-memory : {W F I D : Type 0} (T : Type 0) (w : WorktreeOf W) (f : FindOf F) (i : InterruptOf I) (d : DelegateOf D) {w0 w1 : W} {o0 o1 : F} {i0 : I} {r0 r1 : Option StackModel} {d0 : D}
    → Before w f w0 w1 o0 o1 r0 r1 → KeepsStateAtEnd {T = T} w f i d w0 w1 o0 o1 i0 i0 r0 r1 d0 d0 (Err (Refused errors.OutOfMemory))
Ends-memory T w f i d b = Ends-refused T w f i d errors.OutOfMemory b (record { questions = omega arith; raised = omega arith }) tt tt tt

-- an end that is handed on
pub Ends-err : {W F I D S T : Type 0} (w : WorktreeOf W) (f : FindOf F) (i : InterruptOf I) (d : DelegateOf D) {w0 w1 : W} {o0 o1 : F} {i0 i1 : I} {r0 r1 : Option StackModel} {d0 d1 : D} (stop : Stop)
    → KeepsStateAtEnd {T = S} w f i d w0 w1 o0 o1 i0 i1 r0 r1 d0 d1 (Err stop) → KeepsStateAtEnd {T = T} w f i d w0 w1 o0 o1 i0 i1 r0 r1 d0 d1 (Err stop)
Ends-err w f i d (Refused e) h =
    record {
      worktree = h.worktree;
      store = h.store;
      rules = h.rules;
      interrupt = h.interrupt;
      delegate = h.delegate;
      heeds = record { broken = tt; stopped = tt; unbroken = h.heeds.unbroken; kept_on = tt };
      caused = record { fault = h.caused.fault; interrupt = h.caused.interrupt; listing = h.caused.listing; listed = tt; calm = tt };
    }
Ends-err w f i d Broken h =
    record {
      worktree = h.worktree;
      store = h.store;
      rules = h.rules;
      interrupt = h.interrupt;
      delegate = h.delegate;
      heeds = record { broken = h.heeds.broken; stopped = h.heeds.stopped; unbroken = tt; kept_on = tt };
      caused = record { fault = tt; interrupt = tt; listing = tt; listed = h.caused.listed; calm = h.caused.calm };
    }

-- one call, and then what is put out
pub Ends-then : {W F I D S T : Type 0} (w : WorktreeOf W) (f : FindOf F) (i : InterruptOf I) (d : DelegateOf D) {w0 w1 : W} {o0 o1 : F} {i0 i1 : I} {r0 r1 : Option StackModel} {d0 d1 d2 : D} (handed : S) (result : Result T Stop)
    → KeepsStateAtEnd w f i d w0 w1 o0 o1 i0 i1 r0 r1 d0 d1 (Ok handed) → KeepsDelegateRunning d d1 d2 → HeedsDelegateBreak d d1 d2 result → RefusesOnlyOutOfMemory result → KeepsStateAtEnd w f i d w0 w1 o0 o1 i0 i1 r0 r1 d0 d2 result
Ends-then w f i d {w0} {w1} {o0} {o1} {i0} {i1} {d0 = d0} {d1 = d1} {d2 = d2} handed result e keeps heeds memory =
    record {
      worktree = e.worktree;
      store = e.store;
      rules = e.rules;
      interrupt = e.interrupt;
      delegate = KeepsDelegate-then e.delegate keeps;
      heeds = Heeds-after d d0 d1 d2 result e.heeds.kept_on heeds;
      caused = record {
        fault = memory-only result (HoldsIfFaultError (CountIncreasedOrSaturated (w.faults w0) (w.faults w1)) (CountIncreasedOrSaturated (f.faults o0) (f.faults o1))) tt memory;
        interrupt = memory-only result (HoldsIfInterrupted (CountIncreasedOrSaturated (i.raised i0) (i.raised i1))) tt memory;
        listing = memory-only result (HoldsIfListingFault (CountIncreasedOrSaturated (w.list_faults w0) (w.list_faults w1))) tt memory;
        listed = always result e.caused.listed;
        calm = always result e.caused.calm;
      };
    }

-- ---- refusals that neither a fault nor the interrupt caused

pub fault-root : (P Q : Type 0) (top root : List ℕ) (reached : RootOutcome) (e : Error) → IsNonDirectoryRootError top root reached e → HoldsIfFaultError P Q e
fault-root P Q top root reached errors.Interrupted h = tt
fault-root P Q top root reached (errors.WorktreeRootIsFile path) h = tt
fault-root P Q top root reached (errors.NormalizeRoot path) h = absurd h
fault-root P Q top root reached (errors.SymlinkInRoot path worktree_root index) h = absurd h
fault-root P Q top root reached (errors.SymlinkMetadata path why) h = absurd h
fault-root P Q top root reached (errors.ExcludesAccess e) h = absurd h
fault-root P Q top root reached (errors.TooDeep path) h = absurd h
fault-root P Q top root reached (errors.ReadDir path why) h = absurd h
fault-root P Q top root reached (errors.DirEntry path) h = absurd h
fault-root P Q top root reached errors.OutOfMemory h = tt

pub interrupt-root : (P : Type 0) (top root : List ℕ) (reached : RootOutcome) (e : Error) → IsNonDirectoryRootError top root reached e → HoldsIfInterrupted P e
interrupt-root P top root reached errors.Interrupted h = absurd h
interrupt-root P top root reached (errors.WorktreeRootIsFile path) h = tt
interrupt-root P top root reached (errors.NormalizeRoot path) h = tt
interrupt-root P top root reached (errors.SymlinkInRoot path worktree_root index) h = tt
interrupt-root P top root reached (errors.SymlinkMetadata path why) h = tt
interrupt-root P top root reached (errors.ExcludesAccess e) h = tt
interrupt-root P top root reached (errors.TooDeep path) h = tt
interrupt-root P top root reached (errors.ReadDir path why) h = tt
interrupt-root P top root reached (errors.DirEntry path) h = tt
interrupt-root P top root reached errors.OutOfMemory h = tt

pub interrupt-class : (P : Type 0) (made : Option StackSetup) (path : List ℕ) (e : Error) → classes.IsClassErrorAboutPath made path e → HoldsIfInterrupted P e
interrupt-class P made path errors.Interrupted h = absurd h
interrupt-class P made path (errors.WorktreeRootIsFile root) h = tt
interrupt-class P made path (errors.NormalizeRoot root) h = tt
interrupt-class P made path (errors.SymlinkInRoot root worktree_root index) h = tt
interrupt-class P made path (errors.SymlinkMetadata at why) h = tt
interrupt-class P made path (errors.ExcludesAccess x) h = tt
interrupt-class P made path (errors.TooDeep at) h = tt
interrupt-class P made path (errors.ReadDir at why) h = tt
interrupt-class P made path (errors.DirEntry at) h = tt
interrupt-class P made path errors.OutOfMemory h = tt

pub fault-deep : (P Q : Type 0) (full : List ℕ) (Raised : Type 0) (e : Error) → IsTooDeepOrInterruptedError full Raised e → HoldsIfFaultError P Q e
fault-deep P Q full R errors.Interrupted h = tt
fault-deep P Q full R (errors.WorktreeRootIsFile path) h = absurd h
fault-deep P Q full R (errors.NormalizeRoot path) h = absurd h
fault-deep P Q full R (errors.SymlinkInRoot path worktree_root index) h = absurd h
fault-deep P Q full R (errors.SymlinkMetadata path why) h = absurd h
fault-deep P Q full R (errors.ExcludesAccess e) h = absurd h
fault-deep P Q full R (errors.TooDeep path) h = tt
fault-deep P Q full R (errors.ReadDir path why) h = absurd h
fault-deep P Q full R (errors.DirEntry path) h = absurd h
fault-deep P Q full R errors.OutOfMemory h = tt

pub interrupt-deep : (full : List ℕ) (Raised : Type 0) (e : Error) → IsTooDeepOrInterruptedError full Raised e → HoldsIfInterrupted Raised e
interrupt-deep full R errors.Interrupted h = h
interrupt-deep full R (errors.WorktreeRootIsFile path) h = tt
interrupt-deep full R (errors.NormalizeRoot path) h = tt
interrupt-deep full R (errors.SymlinkInRoot path worktree_root index) h = tt
interrupt-deep full R (errors.SymlinkMetadata path why) h = tt
interrupt-deep full R (errors.ExcludesAccess e) h = tt
interrupt-deep full R (errors.TooDeep path) h = tt
interrupt-deep full R (errors.ReadDir path why) h = tt
interrupt-deep full R (errors.DirEntry path) h = tt
interrupt-deep full R errors.OutOfMemory h = tt
