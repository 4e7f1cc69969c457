-- The components are pushed one after another. What holds of those that are done holds of the path once the last one is current, or one
-- is refused.
use Rattle.std.proofs.Common.{◌≡◌, ◌∙◌, ◌++◌, ◌+◌, ◌∷◌, [], ℕ, List, Option, Result, Ok, Err, inl, refl, sym, ap, subst, is_some, true, false, length, arith, rules}
use Rattle.std.specs.Prelude.{IsErrAnd}
use Rattle.std.proofs.lemmas.List.{append-nil, length-append}
use Rattle.gitbase_core.specs.Path.{components}
use Rattle.worktree_fs.specs.Paths.{slash_joined_components}
use Rattle.worktree_fs.specs.PathStack.{DelegateCall, deepest_components_or_root, delegate_calls_of_component, delegate_calls_of_components}
use Rattle.worktree_fs.proofs.Calls.{handed_on}
use Rattle.worktree_stack.specs.declared.error.AtPathError.{AtPathError}
use Rattle.worktree_stack.specs.declared.error.AtPathError.TheVariants as errors
use Rattle.worktree_stack.specs.Lookups.{one_if_refused, stack_after_pushing_component}
use Rattle.worktree_stack.specs.Moments.{worktree_store_and_stack}
use Rattle.worktree_stack.specs.StackSteps.{SeesNamesReadByCalls}
use Rattle.worktree_stack.specs.Stacked.{StackModel, setup_of_stack}
use Rattle.worktree_stack.proofs.CheckOut.Stepping.{on_err, carries-stepped}
use Rattle.worktree_stack.proofs.Lookup.Descent.{below_first, below_next, on_way, on_way_same, at_last, next-calls, further, last-calls, no-calls}
use Rattle.worktree_stack.proofs.Lookup.Asked.{asks-front, asks-none, asks-then, one-refused}
use Rattle.worktree_stack.proofs.Lookup.Carrying.{carries-none, carries-then, carries-as, carries-left, stops-left}
use Rattle.worktree_stack.proofs.Refusals.{is_err}
use Rattle.worktree_stack.proofs.Lookup.Seeing.{sees-nothing}
use Rattle.worktree_stack.proofs.Lookup.SeeingOn.{on-front, sees-last, sees-left, sees-short}
use Rattle.worktree_stack.proofs.Lookup.StackSteps.{holds-as, holds-none, holds-then, keeps-none, keeps-then, moves-then, no-answer, sees-behind, stops-behind}
use Rattle.worktree_stack.proofs.stack.Stack.push_remaining_components.Goals as goal

pub loop-next-init : goal.loop-next-init
loop-next-init g c =
    let W = g.W.Worktree in
    let F = g.F.Find in
    let old : StackModel = c.args.self.now in
    let start = worktree_store_and_stack c.args.worktree.now c.args.objects.now old in
    record {
      some = c.requires.some;
      below = below_first old.at (components c.args.left.now) c.requires.some c.requires.end;
      done = [];
      front = refl;
      keeps = keeps-none W F start;
      moves = record { carried = carries-none (W.told c.args.worktree.now) (F.holds c.args.objects.now) old old refl refl refl; stopped = tt };
      holds = holds-none W F start;
      sees = sees-nothing (W.told c.args.worktree.now) (F.holds c.args.objects.now) (λ s. []) old.attributes old.attributes (Ok tt) refl (λ s. refl);
      asks = asks-none W start (length (deepest_components_or_root old.at));
      stays = omega arith;
    }

pub loop-next-preserved : goal.loop-next-preserved
loop-next-preserved g c =
    let W = g.W.Worktree in
    let F = g.F.Find in
    let so_far = c.loop-next.invariant in
    let before = worktree_store_and_stack c.args.worktree.now c.args.objects.now c.args.self.now in
    let mid = worktree_store_and_stack c.loop-next.worktree c.loop-next.objects c.loop-next.self in
    let now = worktree_store_and_stack c.push_child_directory_with_rules.new.worktree c.push_child_directory_with_rules.new.objects c.push_child_directory_with_rules.new.self in
    let names : List (List ℕ) = deepest_components_or_root c.loop-next.self.at in
    let name : List ℕ = c.in-Some.next.name.now in
    let rest : List (List ℕ) = components c.loop-next.rest.now in
    let more : List (List ℕ) = components c.in-Some.next.rest.now in
    let calls : List DelegateCall = delegate_calls_of_component names name false in
    let more_is = sym c.in-Some.ensures.2 ∙ c.if-next.false in
    let names_is : deepest_components_or_root c.push_child_directory_with_rules.new.self.at ≡ names ++ name ∷ [] = ap deepest_components_or_root c.in_ok-push_child_directory_with_rules.ensures.stands.at in
    record {
      some = ap is_some c.in_ok-push_child_directory_with_rules.ensures.stands.at;
      below = below_next _ c.loop-next.self.at c.push_child_directory_with_rules.new.self.at rest more name so_far.below c.in-Some.ensures.0 more_is c.in_ok-push_child_directory_with_rules.ensures.stands.at;
      done = so_far.done ++ calls;
      front = further _ so_far.done names rest more name so_far.front c.in-Some.ensures.0 more_is ∙ ap (λ (n : List (List ℕ)). (so_far.done ++ calls) ++ delegate_calls_of_components n more) (sym names_is);
      keeps = keeps-then W F before mid now (Ok tt) so_far.keeps c.in_ok-push_child_directory_with_rules.ensures.keeps;
      moves = moves-then W F before mid now so_far.done calls so_far.keeps so_far.moves c.in_ok-push_child_directory_with_rules.ensures.moves;
      holds = holds-then W F before mid now (Ok tt) so_far.keeps so_far.holds c.push_child_directory_with_rules.ensures.holds;
      sees = sees-behind W F before mid now so_far.done calls (so_far.done ++ calls) (Ok tt) refl so_far.keeps so_far.sees c.in_ok-push_child_directory_with_rules.ensures.sees;
      asks =
          asks-then W F before mid now so_far.done calls (so_far.done ++ calls) [] (sym (append-nil (so_far.done ++ calls))) (length (deepest_components_or_root c.args.self.now.at)) (length names) 1 (length (deepest_components_or_root c.push_child_directory_with_rules.new.self.at))
          (omega (arith, ap length names_is, length-append names (name ∷ []))) so_far.keeps so_far.asks c.push_child_directory_with_rules.ensures.asks;
      stays = omega (arith, so_far.stays, ap length names_is, length-append names (name ∷ []));
    }

-- ---- the last component is current

pub returns-then-next-clause-arrives : goal.returns-then-next-clause-arrives
returns-then-next-clause-arrives g c =
    let so_far = c.loop-next.invariant in
    let at : c.push.new.self.at ≡ c.loop-next.self.at = ap (λ (s : StackModel). s.at) c.in_ok-push.ensures.made in
    record {
      some = ap is_some at ∙ so_far.some;
      looked_up =
          at_last _ c.loop-next.self c.push.new.self (components c.loop-next.rest.now) (components c.in-Some.next.rest.now) c.in-Some.next.name.now
          so_far.below c.in-Some.ensures.0 (sym c.in-Some.ensures.2 ∙ c.if-next.true) c.in_ok-push.ensures.made;
      on_way = tt;
      stays = omega (arith, so_far.stays, ap (λ (d : Option (List (List ℕ))). length (deepest_components_or_root d)) at);
    }

pub returns-then-next-clause-moves : goal.returns-then-next-clause-moves
returns-then-next-clause-moves g c =
    let told = g.W.Worktree.told c.args.worktree.now in
    let holds = g.F.Find.holds c.args.objects.now in
    let so_far = c.loop-next.invariant in
    let names : List (List ℕ) = deepest_components_or_root c.loop-next.self.at in
    let name : List ℕ = c.in-Some.next.name.now in
    record {
      carried =
          carries-as told holds _ _ c.args.self.now c.push.new.self
          (last-calls _ so_far.done names (components c.loop-next.rest.now) (components c.in-Some.next.rest.now) name so_far.front c.in-Some.ensures.0 (sym c.in-Some.ensures.2 ∙ c.if-next.true))
          (carries-then told holds _ _ c.args.self.now c.loop-next.self c.push.new.self so_far.moves.carried
          (carries-stepped told holds c.loop-next.self c.push.new.self name (slash_joined_components (names ++ name ∷ [])) true c.in_ok-push.ensures.made));
      stopped = tt;
    }

pub returns-then-next-clause-holds : goal.returns-then-next-clause-holds
returns-then-next-clause-holds g c =
    holds-as g.W.Worktree g.F.Find (worktree_store_and_stack c.args.worktree.now c.args.objects.now c.args.self.now) (worktree_store_and_stack c.loop-next.worktree c.loop-next.objects c.loop-next.self) c.push.new.self
    (stack_after_pushing_component c.loop-next.self c.in-Some.next.name.now) c.in_ok-push.ensures.made (λ s held. held) (λ level. level) c.loop-next.invariant.holds

pub returns-then-next-clause-sees : goal.returns-then-next-clause-sees
returns-then-next-clause-sees g c =
    let so_far = c.loop-next.invariant in
    let names : List (List ℕ) = deepest_components_or_root c.loop-next.self.at in
    let name : List ℕ = c.in-Some.next.name.now in
    sees-last (g.W.Worktree.told c.args.worktree.now) (g.F.Find.holds c.args.objects.now) (setup_of_stack c.args.self.now) so_far.done _ (slash_joined_components (names ++ name ∷ [])) true c.args.self.now.attributes c.loop-next.self.attributes c.push.new.self.attributes
    (last-calls _ so_far.done names (components c.loop-next.rest.now) (components c.in-Some.next.rest.now) name so_far.front c.in-Some.ensures.0 (sym c.in-Some.ensures.2 ∙ c.if-next.true))
    (ap (λ (s : StackModel). s.attributes) c.in_ok-push.ensures.made) so_far.sees

pub returns-then-next-clause-asks : goal.returns-then-next-clause-asks
returns-then-next-clause-asks g c =
    let so_far = c.loop-next.invariant in
    let at : c.push.new.self.at ≡ c.loop-next.self.at = ap (λ (s : StackModel). s.at) c.in_ok-push.ensures.made in
    asks-front g.W.Worktree (worktree_store_and_stack c.args.worktree.now c.args.objects.now c.args.self.now) (worktree_store_and_stack c.loop-next.worktree c.loop-next.objects c.loop-next.self) (worktree_store_and_stack c.loop-next.worktree c.loop-next.objects c.push.new.self)
    so_far.done _ _ so_far.front refl (length (deepest_components_or_root c.args.self.now.at)) (length (deepest_components_or_root c.loop-next.self.at)) (length (deepest_components_or_root c.push.new.self.at) + 0)
    (omega (arith, ap (λ (d : Option (List (List ℕ))). length (deepest_components_or_root d)) at)) so_far.asks

-- ---- no memory for a component

pub returns-in_err-push-clause-arrives : goal.returns-in_err-push-clause-arrives
returns-in_err-push-clause-arrives g c =
    let same : IsErrAnd c.from_residual.result (λ x. x ≡ errors.OutOfMemory) = search rules in
    let so_far = c.loop-next.invariant in
    let at : c.push.new.self.at ≡ c.loop-next.self.at = ap (λ (s : StackModel). s.at) c.in_err-push.ensures.refused in
    record {
      some = ap is_some at ∙ so_far.some;
      looked_up = no-answer _ c.from_residual.result errors.OutOfMemory same;
      on_way =
          on_err c.from_residual.result (on_way_same _ c.loop-next.self.at c.push.new.self.at at
          (on_way _ c.loop-next.self.at (components c.loop-next.rest.now) (components c.in-Some.next.rest.now) c.in-Some.next.name.now so_far.below c.in-Some.ensures.0));
      stays = omega (arith, so_far.stays, ap (λ (d : Option (List (List ℕ))). length (deepest_components_or_root d)) at);
    }

pub returns-in_err-push-clause-moves : goal.returns-in_err-push-clause-moves
returns-in_err-push-clause-moves g c =
    let same : IsErrAnd c.from_residual.result (λ x. x ≡ errors.OutOfMemory) = search rules in
    let so_far = c.loop-next.invariant in
    record {
      carried = no-answer _ c.from_residual.result errors.OutOfMemory same;
      stopped =
          handed_on c.from_residual.result errors.OutOfMemory _ same
          (inl (stops-left (g.W.Worktree.told c.args.worktree.now) (g.F.Find.holds c.args.objects.now) _ so_far.done _ c.args.self.now c.loop-next.self c.push.new.self so_far.front so_far.moves.carried so_far.keeps.is_dir c.in_err-push.ensures.refused));
    }

pub returns-in_err-push-clause-holds : goal.returns-in_err-push-clause-holds
returns-in_err-push-clause-holds g c =
    holds-as g.W.Worktree g.F.Find (worktree_store_and_stack c.args.worktree.now c.args.objects.now c.args.self.now) (worktree_store_and_stack c.loop-next.worktree c.loop-next.objects c.loop-next.self) c.push.new.self
    (record c.loop-next.self { current = deepest_components_or_root c.loop-next.self.at }) c.in_err-push.ensures.refused (λ s held. held) (λ level. level) c.loop-next.invariant.holds

pub returns-in_err-push-clause-sees : goal.returns-in_err-push-clause-sees
returns-in_err-push-clause-sees g c =
    let same : IsErrAnd c.from_residual.result (λ x. x ≡ errors.OutOfMemory) = search rules in
    let so_far = c.loop-next.invariant in
    sees-short (g.W.Worktree.told c.args.worktree.now) (g.F.Find.holds c.args.objects.now) (setup_of_stack c.args.self.now) so_far.done _ _ c.args.self.now.attributes c.loop-next.self.attributes c.push.new.self.attributes
    c.from_residual.result errors.OutOfMemory same so_far.front (ap (λ (s : StackModel). s.attributes) c.in_err-push.ensures.refused) so_far.sees

pub returns-in_err-push-clause-asks : goal.returns-in_err-push-clause-asks
returns-in_err-push-clause-asks g c =
    let so_far = c.loop-next.invariant in
    let at : c.push.new.self.at ≡ c.loop-next.self.at = ap (λ (s : StackModel). s.at) c.in_err-push.ensures.refused in
    asks-front g.W.Worktree (worktree_store_and_stack c.args.worktree.now c.args.objects.now c.args.self.now) (worktree_store_and_stack c.loop-next.worktree c.loop-next.objects c.loop-next.self) (worktree_store_and_stack c.loop-next.worktree c.loop-next.objects c.push.new.self)
    so_far.done _ _ so_far.front refl (length (deepest_components_or_root c.args.self.now.at)) (length (deepest_components_or_root c.loop-next.self.at)) (length (deepest_components_or_root c.push.new.self.at) + one_if_refused c.from_residual.result)
    (omega (arith, ap (λ (d : Option (List (List ℕ))). length (deepest_components_or_root d)) at)) so_far.asks

-- ---- a directory that was refused

pub returns-in_err-push_child_directory_with_rules-clause-arrives : goal.returns-in_err-push_child_directory_with_rules-clause-arrives
returns-in_err-push_child_directory_with_rules-clause-arrives g c =
    let e : AtPathError = c.in_err-push_child_directory_with_rules.field-0.0 in
    let same : IsErrAnd c.from_residual-in_err-push_child_directory_with_rules.result (λ x. x ≡ e) = search rules in
    let so_far = c.loop-next.invariant in
    let at = c.in_err-push_child_directory_with_rules.ensures.stands.at_refused in
    record {
      some = ap is_some at ∙ so_far.some;
      looked_up = no-answer _ c.from_residual-in_err-push_child_directory_with_rules.result e same;
      on_way =
          on_err c.from_residual-in_err-push_child_directory_with_rules.result (on_way_same _ c.loop-next.self.at c.push_child_directory_with_rules.new.self.at at
          (on_way _ c.loop-next.self.at (components c.loop-next.rest.now) (components c.in-Some.next.rest.now) c.in-Some.next.name.now so_far.below c.in-Some.ensures.0));
      stays = omega (arith, so_far.stays, ap (λ (d : Option (List (List ℕ))). length (deepest_components_or_root d)) at);
    }

pub returns-in_err-push_child_directory_with_rules-clause-moves : goal.returns-in_err-push_child_directory_with_rules-clause-moves
returns-in_err-push_child_directory_with_rules-clause-moves g c =
    let e : AtPathError = c.in_err-push_child_directory_with_rules.field-0.0 in
    let same : IsErrAnd c.from_residual-in_err-push_child_directory_with_rules.result (λ x. x ≡ e) = search rules in
    let so_far = c.loop-next.invariant in
    let names : List (List ℕ) = deepest_components_or_root c.loop-next.self.at in
    let name : List ℕ = c.in-Some.next.name.now in
    let more : List (List ℕ) = components c.in-Some.next.rest.now in
    record {
      carried = no-answer _ c.from_residual-in_err-push_child_directory_with_rules.result e same;
      stopped =
          handed_on c.from_residual-in_err-push_child_directory_with_rules.result e _ same
          (stops-behind g.W.Worktree g.F.Find (worktree_store_and_stack c.args.worktree.now c.args.objects.now c.args.self.now) (worktree_store_and_stack c.loop-next.worktree c.loop-next.objects c.loop-next.self)
          (worktree_store_and_stack c.push_child_directory_with_rules.new.worktree c.push_child_directory_with_rules.new.objects c.push_child_directory_with_rules.new.self) _ so_far.done (delegate_calls_of_component names name false) (delegate_calls_of_components (names ++ name ∷ []) more)
          (next-calls _ so_far.done names (components c.loop-next.rest.now) more name so_far.front c.in-Some.ensures.0 false (sym c.in-Some.ensures.2 ∙ c.if-next.false))
          so_far.keeps so_far.moves e c.in_err-push_child_directory_with_rules.ensures.moves.stopped);
    }

pub returns-in_err-push_child_directory_with_rules-clause-holds : goal.returns-in_err-push_child_directory_with_rules-clause-holds
returns-in_err-push_child_directory_with_rules-clause-holds g c =
    holds-then g.W.Worktree g.F.Find (worktree_store_and_stack c.args.worktree.now c.args.objects.now c.args.self.now) (worktree_store_and_stack c.loop-next.worktree c.loop-next.objects c.loop-next.self)
    (worktree_store_and_stack c.push_child_directory_with_rules.new.worktree c.push_child_directory_with_rules.new.objects c.push_child_directory_with_rules.new.self) (Ok tt) c.loop-next.invariant.keeps c.loop-next.invariant.holds c.push_child_directory_with_rules.ensures.holds

pub returns-in_err-push_child_directory_with_rules-clause-sees : goal.returns-in_err-push_child_directory_with_rules-clause-sees
returns-in_err-push_child_directory_with_rules-clause-sees g c =
    let W = g.W.Worktree in
    let F = g.F.Find in
    let so_far = c.loop-next.invariant in
    let before = worktree_store_and_stack c.args.worktree.now c.args.objects.now c.args.self.now in
    let now = worktree_store_and_stack c.push_child_directory_with_rules.new.worktree c.push_child_directory_with_rules.new.objects c.push_child_directory_with_rules.new.self in
    let names : List (List ℕ) = deepest_components_or_root c.loop-next.self.at in
    let name : List ℕ = c.in-Some.next.name.now in
    let more : List (List ℕ) = components c.in-Some.next.rest.now in
    let e : AtPathError = c.in_err-push_child_directory_with_rules.field-0.0 in
    let same : IsErrAnd c.from_residual-in_err-push_child_directory_with_rules.result (λ x. x ≡ e) = search rules in
    let calls : List DelegateCall = delegate_calls_of_components (deepest_components_or_root c.args.self.now.at) (components c.args.left.now) in
    let done : List DelegateCall = so_far.done ++ delegate_calls_of_component names name false in
    subst (λ (r : Result (Unit {0}) AtPathError). SeesNamesReadByCalls W F before now calls r) (sym (is_err c.from_residual-in_err-push_child_directory_with_rules.result e same))
    (on-front (W.told c.args.worktree.now) (F.holds c.args.objects.now) (setup_of_stack c.args.self.now) done (delegate_calls_of_components (names ++ name ∷ []) more) calls c.args.self.now.attributes c.push_child_directory_with_rules.new.self.attributes e
    (further _ so_far.done names (components c.loop-next.rest.now) more name so_far.front c.in-Some.ensures.0 (sym c.in-Some.ensures.2 ∙ c.if-next.false))
    (sees-behind W F before (worktree_store_and_stack c.loop-next.worktree c.loop-next.objects c.loop-next.self) now so_far.done (delegate_calls_of_component names name false) done (Err e) refl so_far.keeps so_far.sees c.in_err-push_child_directory_with_rules.ensures.sees))

pub returns-in_err-push_child_directory_with_rules-clause-asks : goal.returns-in_err-push_child_directory_with_rules-clause-asks
returns-in_err-push_child_directory_with_rules-clause-asks g c =
    let e : AtPathError = c.in_err-push_child_directory_with_rules.field-0.0 in
    let same : IsErrAnd c.from_residual-in_err-push_child_directory_with_rules.result (λ x. x ≡ e) = search rules in
    let so_far = c.loop-next.invariant in
    let names : List (List ℕ) = deepest_components_or_root c.loop-next.self.at in
    let name : List ℕ = c.in-Some.next.name.now in
    let more : List (List ℕ) = components c.in-Some.next.rest.now in
    asks-then g.W.Worktree g.F.Find (worktree_store_and_stack c.args.worktree.now c.args.objects.now c.args.self.now) (worktree_store_and_stack c.loop-next.worktree c.loop-next.objects c.loop-next.self)
    (worktree_store_and_stack c.push_child_directory_with_rules.new.worktree c.push_child_directory_with_rules.new.objects c.push_child_directory_with_rules.new.self) so_far.done (delegate_calls_of_component names name false) _ (delegate_calls_of_components (names ++ name ∷ []) more)
    (further _ so_far.done names (components c.loop-next.rest.now) more name so_far.front c.in-Some.ensures.0 (sym c.in-Some.ensures.2 ∙ c.if-next.false))
    (length (deepest_components_or_root c.args.self.now.at)) (length names) 1 (length (deepest_components_or_root c.push_child_directory_with_rules.new.self.at) + one_if_refused c.from_residual-in_err-push_child_directory_with_rules.result)
    (omega (arith, ap (λ (d : Option (List (List ℕ))). length (deepest_components_or_root d)) c.in_err-push_child_directory_with_rules.ensures.stands.at_refused, one-refused c.from_residual-in_err-push_child_directory_with_rules.result e same)) so_far.keeps so_far.asks c.push_child_directory_with_rules.ensures.asks

-- ---- no component is left

pub returns-clause-moves : goal.returns-clause-moves
returns-clause-moves g c =
    let told = g.W.Worktree.told c.args.worktree.now in
    let holds = g.F.Find.holds c.args.objects.now in
    let so_far = c.loop-next.invariant in
    record {
      carried =
          carries-as told holds _ _ c.args.self.now c.make_deepest_current.new.self (no-calls _ so_far.done (deepest_components_or_root c.loop-next.self.at) (components c.loop-next.rest.now) so_far.front (search rules))
          (carries-left told holds _ c.args.self.now c.loop-next.self c.make_deepest_current.new.self so_far.moves.carried c.make_deepest_current.ensures);
      stopped = tt;
    }

pub returns-clause-holds : goal.returns-clause-holds
returns-clause-holds g c =
    holds-as g.W.Worktree g.F.Find (worktree_store_and_stack c.args.worktree.now c.args.objects.now c.args.self.now) (worktree_store_and_stack c.loop-next.worktree c.loop-next.objects c.loop-next.self) c.make_deepest_current.new.self
    (record c.loop-next.self { current = deepest_components_or_root c.loop-next.self.at }) c.make_deepest_current.ensures (λ s held. held) (λ level. level) c.loop-next.invariant.holds

pub returns-clause-sees : goal.returns-clause-sees
returns-clause-sees g c =
    let so_far = c.loop-next.invariant in
    sees-left (g.W.Worktree.told c.args.worktree.now) (g.F.Find.holds c.args.objects.now) (setup_of_stack c.args.self.now) so_far.done _ c.args.self.now.attributes c.loop-next.self.attributes c.make_deepest_current.new.self.attributes
    (no-calls _ so_far.done (deepest_components_or_root c.loop-next.self.at) (components c.loop-next.rest.now) so_far.front (search rules)) (ap (λ (s : StackModel). s.attributes) c.make_deepest_current.ensures) so_far.sees

pub returns-clause-asks : goal.returns-clause-asks
returns-clause-asks g c =
    let so_far = c.loop-next.invariant in
    let at : c.make_deepest_current.new.self.at ≡ c.loop-next.self.at = ap (λ (s : StackModel). s.at) c.make_deepest_current.ensures in
    asks-front g.W.Worktree (worktree_store_and_stack c.args.worktree.now c.args.objects.now c.args.self.now) (worktree_store_and_stack c.loop-next.worktree c.loop-next.objects c.loop-next.self) (worktree_store_and_stack c.loop-next.worktree c.loop-next.objects c.make_deepest_current.new.self)
    so_far.done _ _ so_far.front refl (length (deepest_components_or_root c.args.self.now.at)) (length (deepest_components_or_root c.loop-next.self.at)) (length (deepest_components_or_root c.make_deepest_current.new.self.at) + 0)
    (omega (arith, ap (λ (d : Option (List (List ℕ))). length (deepest_components_or_root d)) at)) so_far.asks
