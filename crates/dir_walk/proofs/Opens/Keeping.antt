-- What stays over one call and then another.
use Rattle.std.proofs.Common.{◌≡◌, ◌≤◌, List, [], ◌++◌, false, Option, Some, refl, sym, ap, ◌∙◌, append_assoc, arith}
use Rattle.std.specs.Prelude.{Result, Ok, Err, is_some}
use Rattle.std.proofs.lemmas.List.{append-nil}
use Rattle.gitbase_core.specs.declared.find.Find.{Ghosts as FindOf}
use Rattle.worktree_fs.specs.declared.interrupt.Interrupt.{Ghosts as InterruptOf}
use Rattle.worktree_fs.specs.declared.worktree.Worktree.{Ghosts as WorktreeOf}
use Rattle.worktree_fs.specs.Kept.{KeepsStoredObjects}
use Rattle.worktree_stack.specs.Stacked.{StackModel}
use Rattle.worktree_stack.specs.Setup.{StackSetup}
use Rattle.dir_classify.specs.Excludes.{setup_of_optional_stack, maps_rules_files_to_blobs}
use Rattle.dir_classify.specs.Kept.{KeepsRulesInStep}
use Rattle.dir_walk.specs.declared.delegate.Delegate.{Ghosts as DelegateOf}
use Rattle.dir_walk.specs.declared.handed.Stop.{Stop}
use Rattle.dir_walk.specs.declared.handed.Stop.TheVariants.{Refused, Broken}
use Rattle.dir_walk.specs.Emissions.{Emission}
use Rattle.dir_walk.specs.Given.{ExtendsEmissions}
use Rattle.dir_walk.specs.Kept.{KeepsWorktree, AsksInterruptPerRaise, KeepsDelegateRunning, HeedsDelegateBreak}

-- ---- the worktree, the store and the rules

-- a store that nothing is mapped to is as it was
pub unmapped-then : {F : Type 0} {o0 o1 o2 : F} (old now : Option StackModel) → setup_of_optional_stack now ≡ setup_of_optional_stack old
    → (maps_rules_files_to_blobs (setup_of_optional_stack old) ≡ false → o1 ≡ o0) → (maps_rules_files_to_blobs (setup_of_optional_stack now) ≡ false → o2 ≡ o1) → maps_rules_files_to_blobs (setup_of_optional_stack old) ≡ false → o2 ≡ o0
unmapped-then old now same first second none = second (ap (λ (m : Option StackSetup). maps_rules_files_to_blobs m) same ∙ none) ∙ first none

pub KeepsTree-then : {W : Type 0} {w : WorktreeOf W} {a b c : W} → KeepsWorktree w a b → KeepsWorktree w b c → KeepsWorktree w a c
KeepsTree-then first second =
    record {
      tree = second.tree ∙ first.tree;
      faults = omega (arith, first.faults, second.faults);
      list_faults = omega (arith, first.list_faults, second.list_faults);
      reads = omega (arith, first.reads, second.reads);
      lists = omega (arith, first.lists, second.lists);
      precomposes = second.precomposes ∙ first.precomposes;
    }

pub AsksStore-then : {F : Type 0} {f : FindOf F} {a b c : F} → KeepsStoredObjects f a b → KeepsStoredObjects f b c → KeepsStoredObjects f a c
AsksStore-then first second = record { holds = second.holds ∙ first.holds; faults = omega (arith, first.faults, second.faults) }

pub KeepsRules-then : {W F : Type 0} {w : WorktreeOf W} {f : FindOf F} {a b : W} {k l : F} {r s t : Option StackModel}
    → w.told b ≡ w.told a → f.holds l ≡ f.holds k → KeepsRulesInStep w f a k r s → KeepsRulesInStep w f b l s t → KeepsRulesInStep w f a k r t
KeepsRules-then tree holds first second =
    record {
      made = second.made ∙ first.made;
      in_step = λ u told step. second.in_step u (record { tree_is = tree ∙ told.tree_is; objects_are = λ some. holds ∙ told.objects_are (ap is_some (sym first.made) ∙ some) }) (first.in_step u told step);
    }

-- ---- the interrupt

pub AsksInterrupt-then : {I : Type 0} {i : InterruptOf I} {a b c : I} → AsksInterruptPerRaise i a b → AsksInterruptPerRaise i b c → AsksInterruptPerRaise i a c
AsksInterrupt-then first second = record { questions = omega (arith, first.questions, second.questions); raised = omega (arith, first.raised, second.raised) }

-- ---- the delegate

pub Extends-same : (a b : Option (List Emission)) → b ≡ a → ExtendsEmissions a b
Extends-same a b is = record { same = ap (λ x. is_some x) is; front = λ xs told. ([], is ∙ told ∙ ap (λ (ys : List Emission). Some ys) (sym (append-nil xs))) }

pub Extends-then : (a b c : Option (List Emission)) → ExtendsEmissions a b → ExtendsEmissions b c → ExtendsEmissions a c
Extends-then a b c one two =
    record {
      same = two.same ∙ one.same;
      front = λ xs is.
          let m = one.front xs is in
          let n = two.front (xs ++ m.0) m.1 in
          (m.0 ++ n.0, n.1 ∙ ap (λ (ys : List Emission). Some ys) (append_assoc xs m.0 n.0));
    }

pub KeepsDelegate-then : {D : Type 0} {d : DelegateOf D} {a b c : D} → KeepsDelegateRunning d a b → KeepsDelegateRunning d b c → KeepsDelegateRunning d a c
KeepsDelegate-then {D} {d} {a} {b} {c} first second =
    record {
      default = second.default ∙ first.default;
      given = Extends-then (d.given a) (d.given b) (d.given c) first.given second.given;
      breaks = omega (arith, first.breaks, second.breaks);
      refusals = omega (arith, first.refusals, second.refusals);
    }

-- after a call that left the delegate as it was but for its answers
pub Heeds-after : {D T : Type 0} (d : DelegateOf D) (a b c : D) (result : Result T Stop) → d.breaks b ≡ d.breaks a → HeedsDelegateBreak d b c result → HeedsDelegateBreak d a c result
Heeds-after d a b c (Ok done) same heeds = record { broken = tt; stopped = tt; unbroken = tt; kept_on = heeds.kept_on ∙ same }
Heeds-after d a b c (Err Broken) same heeds = record { broken = rw (sym same) heeds.broken; stopped = heeds.stopped; unbroken = tt; kept_on = tt }
Heeds-after d a b c (Err (Refused e)) same heeds = record { broken = tt; stopped = tt; unbroken = heeds.unbroken ∙ same; kept_on = tt }

pub KeepsDelegate-same : {D : Type 0} {d : DelegateOf D} {a : D} → KeepsDelegateRunning d a a
KeepsDelegate-same {D} {d} {a} = record { default = refl; given = Extends-same (d.given a) (d.given a) refl; breaks = omega arith; refusals = omega arith }

-- a delegate that was asked whether it recurses
pub KeepsDelegate-asked : {D : Type 0} {d : DelegateOf D} {a b : D} → d.is_default b ≡ d.is_default a → d.given b ≡ d.given a → d.breaks b ≡ d.breaks a → d.refusals a ≤ d.refusals b → KeepsDelegateRunning d a b
KeepsDelegate-asked {D} {d} {a} {b} default given breaks refusals = record { default = default; given = Extends-same (d.given a) (d.given b) given; breaks = omega (arith, breaks); refusals = refusals }

pub KeepsRules-same : {W F : Type 0} {w : WorktreeOf W} {f : FindOf F} {a : W} {k : F} {r : Option StackModel} → KeepsRulesInStep w f a k r r
KeepsRules-same = record { made = refl; in_step = λ u told step. step }

pub AsksStore-same : {F : Type 0} {f : FindOf F} {a : F} → KeepsStoredObjects f a a
AsksStore-same = record { holds = refl; faults = omega arith }
