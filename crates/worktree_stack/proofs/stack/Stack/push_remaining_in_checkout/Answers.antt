-- The components are tested, made and pushed one after another. What holds of those that are done holds of the path in the end.
use Rattle.std.proofs.Common.{◌≡◌, ◌∙◌, ◌++◌, ◌∷◌, [], ℕ, List, Option, inl, inr, refl, sym, ap, subst, is_some, true, false, length, Ok, Err, arith, rules}
use Rattle.std.specs.Prelude.{IsErrAnd, Result}
use Rattle.std.proofs.lemmas.List.{length-append, append-nil}
use Rattle.gitbase_core.specs.Path.{components}
use Rattle.worktree_fs.specs.PathStack.{DelegateCall, deepest_components_or_root, delegate_calls_of_component, delegate_calls_of_components}
use Rattle.worktree_stack.specs.declared.error.AtPathError.{AtPathError}
use Rattle.worktree_stack.specs.GoesOn.{RunsCheckoutCalls, PushesComponentInCheckout, HoldsForLaterTree, HoldsForPresentTree, StepKeepsHeldRules}
use Rattle.worktree_stack.specs.Lookups.{is_dir_by_mode}
use Rattle.worktree_stack.specs.Making.{CheckoutLookupOptions, is_symlink_by_mode, checkout_lookup_options}
use Rattle.worktree_stack.specs.Setup.{StackSetup}
use Rattle.worktree_stack.specs.Stacked.{StackModel, setup_of_stack}
use Rattle.worktree_stack.proofs.CheckOut.Stepping.{on_err}
use Rattle.worktree_stack.proofs.Lookup.Descent.{below_first, below_next, on_way, on_way_same, next-calls, further, last-calls, no-calls}
use Rattle.worktree_stack.proofs.Refusals.{is_err}
use Rattle.worktree_stack.proofs.CheckOut.Going.{goes-then, goes-more, goes-as, goes-nothing, goes-left, goes-pushed}
use Rattle.worktree_stack.specs.Checkout.{EqualsDirectoryOutcome}
use Rattle.worktree_stack.specs.GoesOn.{LookupKeepsHeldRules, LeavesLastComponentDirectory}
use Rattle.worktree_stack.specs.Making.{outcome_of_checkout_calls, mkdir_count_of_stack, outcome_before_checkout}
use Rattle.worktree_fs.specs.Tree.{Names}
use Rattle.worktree_fs.specs.declared.answers.MakeAnswer.TheVariants as makes
use Rattle.std.proofs.Common.{append_assoc}
use Rattle.worktree_stack.proofs.CheckOut.Holding.{kept-now}
use Rattle.worktree_stack.proofs.CheckOut.KeptSteps.{pushed-field, pushed-kept}
use Rattle.worktree_stack.proofs.CheckOut.Preparing.{some-same}
use Rattle.worktree_stack.proofs.CheckOut.RestOut.{keeping-by, keeps-left, kept-by, nil-is, last-there, looked-pushed, may-first, rest-none, taken-names, way-same}
use Rattle.worktree_stack.specs.HeldOut.{AppendsListsOfCheckout}
use Rattle.worktree_stack.specs.Setup.{HeldAttributeLists}
use Rattle.worktree_stack.proofs.CheckOut.HeldOut.{adds-same, adds-then, always}
use Rattle.worktree_stack.proofs.Lookup.StackSteps.{no-answer}
use Rattle.worktree_stack.proofs.stack.Stack.push_remaining_in_checkout.Goals as goal

pub loop-next-init : goal.loop-next-init
loop-next-init g c =
    record {
      some = c.requires.some;
      below = below_first c.args.self.now.at (components c.args.left.now) c.requires.some c.requires.end;
      done = [];
      taken = [];
      front = refl;
      parts = refl;
      goes = goes-nothing g.W.Worktree g.F.Find _ _ _ c.args.worktree.now c.args.objects.now c.args.self.now;
      unfaulted = refl;
      unfaulted_store = refl;
      held = λ s tells. adds-same _ _ _ s [] c.args.self.now.attributes c.args.self.now.attributes tt refl refl;
      stays = omega arith;
      keeps = λ s0 t t1 told holds told1 may kept keeping. subst (λ x. HoldsForLaterTree (setup_of_stack c.args.self.now) s0 x c.args.self.now.at c.args.self.now.attributes c.args.self.now.ignore) (some-same (sym told ∙ told1)) keeping;
    }

pub loop-next-preserved : goal.loop-next-preserved
loop-next-preserved g c =
    let W = g.W.Worktree in
    let F = g.F.Find in
    let a = c.args in
    let before = c.loop-next.invariant in
    let link = is_symlink_by_mode a.mode in
    let protects = a.checkout.validate.protect_windows in
    let way : CheckoutLookupOptions = checkout_lookup_options a.checkout (W.precomposes a.worktree.now) a.self.now.root (is_dir_by_mode a.mode) in
    let there : CheckoutLookupOptions = checkout_lookup_options a.checkout (W.precomposes c.loop-next.worktree) c.loop-next.self.root (is_dir_by_mode a.mode) in
    let ways : there ≡ way = way-same a.checkout (is_dir_by_mode a.mode) (W.precomposes a.worktree.now) (W.precomposes c.loop-next.worktree) a.self.now.root c.loop-next.self.root before.goes.alters.precomposes (ap (λ (m : StackSetup). m.root) before.goes.made) in
    let names : List (List ℕ) = deepest_components_or_root c.loop-next.self.at in
    let name : List ℕ = c.in-Some.next.name.now in
    let rest : List (List ℕ) = components c.loop-next.rest.now in
    let more : List (List ℕ) = components c.in-Some.next.rest.now in
    let more_is = sym c.in-Some.ensures.2 ∙ c.if-next.false in
    let names_is : deepest_components_or_root c.push_directory_in_checkout.new.self.at ≡ names ++ name ∷ [] = ap deepest_components_or_root c.in_ok-push_directory_in_checkout.ensures.stands.at in
    let step : RunsCheckoutCalls W F c.loop-next.worktree c.push_directory_in_checkout.new.worktree c.loop-next.objects c.push_directory_in_checkout.new.objects way link protects (delegate_calls_of_component names name false) (name ∷ []) c.loop-next.self c.push_directory_in_checkout.new.self (Ok tt) =
    subst (λ (x : CheckoutLookupOptions). RunsCheckoutCalls W F c.loop-next.worktree c.push_directory_in_checkout.new.worktree c.loop-next.objects c.push_directory_in_checkout.new.objects x link protects (delegate_calls_of_component names name false) (name ∷ []) c.loop-next.self c.push_directory_in_checkout.new.self (Ok tt)) ways
    (subst (λ (r : Result (Unit {0}) AtPathError). RunsCheckoutCalls W F c.loop-next.worktree c.push_directory_in_checkout.new.worktree c.loop-next.objects c.push_directory_in_checkout.new.objects there link protects (delegate_calls_of_component names name false) (name ∷ []) c.loop-next.self c.push_directory_in_checkout.new.self r) c.in_ok-push_directory_in_checkout.was c.push_directory_in_checkout.ensures.goes) in
    let goes = goes-then W F way link protects (Ok tt) before.goes step in
    record {
      some = ap is_some c.in_ok-push_directory_in_checkout.ensures.stands.at;
      below = below_next _ c.loop-next.self.at c.push_directory_in_checkout.new.self.at rest more name before.below c.in-Some.ensures.0 more_is c.in_ok-push_directory_in_checkout.ensures.stands.at;
      done = before.done ++ delegate_calls_of_component names name false;
      taken = before.taken ++ name ∷ [];
      front =
          further _ before.done names rest more name before.front c.in-Some.ensures.0 more_is
          ∙ ap (λ (n : List (List ℕ)). (before.done ++ delegate_calls_of_component names name false) ++ delegate_calls_of_components n more) (sym names_is);
      parts = before.parts ∙ ap (λ (l : List (List ℕ)). before.taken ++ l) c.in-Some.ensures.0 ∙ sym (append_assoc before.taken (name ∷ []) more);
      goes = goes;
      unfaulted = c.in_ok-push_directory_in_checkout.ensures.unfaulted.worktree ∙ before.unfaulted;
      unfaulted_store = c.in_ok-push_directory_in_checkout.ensures.unfaulted.objects ∙ before.unfaulted_store;
      held = λ s tells.
          adds-then W (F.holds a.objects.now) way (setup_of_stack a.self.now) before.done (delegate_calls_of_component names name false) (mkdir_count_of_stack a.self.now) (mkdir_count_of_stack c.loop-next.self) a.self.now.statistics c.loop-next.self.statistics
          a.self.now.attributes c.loop-next.self.attributes c.push_directory_in_checkout.new.self.attributes before.goes.works s tells (before.held s tells)
          (λ after now.
          subst (λ (m : StackSetup). AppendsListsOfCheckout m way (mkdir_count_of_stack c.loop-next.self) after (delegate_calls_of_component names name false) c.loop-next.self.attributes c.push_directory_in_checkout.new.self.attributes) before.goes.made
          (subst (λ (x : CheckoutLookupOptions). AppendsListsOfCheckout (setup_of_stack c.loop-next.self) x (mkdir_count_of_stack c.loop-next.self) after (delegate_calls_of_component names name false) c.loop-next.self.attributes c.push_directory_in_checkout.new.self.attributes) ways
          (c.in_ok-push_directory_in_checkout.ensures.held after (record { tree_is = now.tree_is; objects_are = before.goes.leaves_store.holds ∙ now.objects_are }))));
      stays = omega (arith, before.stays, ap length names_is, length-append names (name ∷ []));
      keeps = λ s0 t t1 told holds told1 may kept k.
          let is : EqualsDirectoryOutcome (outcome_of_checkout_calls way (outcome_before_checkout t (mkdir_count_of_stack a.self.now)) before.done) (W.told c.loop-next.worktree) (mkdir_count_of_stack c.loop-next.self) makes.Made = before.goes.works.tree t told in
          let tm : Names = (outcome_of_checkout_calls way (outcome_before_checkout t (mkdir_count_of_stack a.self.now)) before.done).tree in
          let mid : HoldsForLaterTree (setup_of_stack a.self.now) s0 tm c.loop-next.self.at c.loop-next.self.attributes c.loop-next.self.ignore = before.keeps s0 t tm told holds is.tree_is may kept k in
          let on : StepKeepsHeldRules W F c.loop-next.worktree c.push_directory_in_checkout.new.worktree c.loop-next.objects way (name ∷ []) c.loop-next.self c.push_directory_in_checkout.new.self (Ok tt) =
          subst (λ (x : CheckoutLookupOptions). StepKeepsHeldRules W F c.loop-next.worktree c.push_directory_in_checkout.new.worktree c.loop-next.objects x (name ∷ []) c.loop-next.self c.push_directory_in_checkout.new.self (Ok tt)) ways
          (subst (λ (r : Result (Unit {0}) AtPathError). StepKeepsHeldRules W F c.loop-next.worktree c.push_directory_in_checkout.new.worktree c.loop-next.objects there (name ∷ []) c.loop-next.self c.push_directory_in_checkout.new.self r) c.in_ok-push_directory_in_checkout.was c.push_directory_in_checkout.ensures.keeps) in
          keeping-by s0 (setup_of_stack a.self.now) (setup_of_stack c.loop-next.self) before.goes.made t1
          (on.going s0 tm t1 is.tree_is (before.goes.leaves_store.holds ∙ holds) told1
          (may-first way (setup_of_stack a.self.now) (setup_of_stack c.loop-next.self) a.self.now.at c.loop-next.self.at before.taken name more (components a.left.now) before.goes.made
          (taken-names (deepest_components_or_root a.self.now.at) before.taken rest (components a.left.now) c.loop-next.self.at before.below before.parts)
          (before.parts ∙ ap (λ (l : List (List ℕ)). before.taken ++ l) c.in-Some.ensures.0) may)
          (keeps-left way (components a.left.now) before.taken more name (before.parts ∙ ap (λ (l : List (List ℕ)). before.taken ++ l) c.in-Some.ensures.0) false more_is refl kept, tt)
          (keeping-by s0 (setup_of_stack c.loop-next.self) (setup_of_stack a.self.now) (sym before.goes.made) tm mid));
    }

pub returns-in_err-push_directory_in_checkout-clause-goes : goal.returns-in_err-push_directory_in_checkout-clause-goes
returns-in_err-push_directory_in_checkout-clause-goes g c =
    let W = g.W.Worktree in
    let F = g.F.Find in
    let a = c.args in
    let before = c.loop-next.invariant in
    let link = is_symlink_by_mode a.mode in
    let protects = a.checkout.validate.protect_windows in
    let way : CheckoutLookupOptions = checkout_lookup_options a.checkout (W.precomposes a.worktree.now) a.self.now.root (is_dir_by_mode a.mode) in
    let there : CheckoutLookupOptions = checkout_lookup_options a.checkout (W.precomposes c.loop-next.worktree) c.loop-next.self.root (is_dir_by_mode a.mode) in
    let ways : there ≡ way = way-same a.checkout (is_dir_by_mode a.mode) (W.precomposes a.worktree.now) (W.precomposes c.loop-next.worktree) a.self.now.root c.loop-next.self.root before.goes.alters.precomposes (ap (λ (m : StackSetup). m.root) before.goes.made) in
    let names : List (List ℕ) = deepest_components_or_root c.loop-next.self.at in
    let name : List ℕ = c.in-Some.next.name.now in
    let more : List (List ℕ) = components c.in-Some.next.rest.now in
    let e : AtPathError = c.in_err-push_directory_in_checkout.field-0.0 in
    let same : IsErrAnd c.from_residual.result (λ x. x ≡ e) = search rules in
    let step : RunsCheckoutCalls W F c.loop-next.worktree c.push_directory_in_checkout.new.worktree c.loop-next.objects c.push_directory_in_checkout.new.objects way link protects (delegate_calls_of_component names name false) (name ∷ []) c.loop-next.self c.push_directory_in_checkout.new.self (Err e) =
    subst (λ (x : CheckoutLookupOptions). RunsCheckoutCalls W F c.loop-next.worktree c.push_directory_in_checkout.new.worktree c.loop-next.objects c.push_directory_in_checkout.new.objects x link protects (delegate_calls_of_component names name false) (name ∷ []) c.loop-next.self c.push_directory_in_checkout.new.self (Err e)) ways
    (subst (λ (r : Result (Unit {0}) AtPathError). RunsCheckoutCalls W F c.loop-next.worktree c.push_directory_in_checkout.new.worktree c.loop-next.objects c.push_directory_in_checkout.new.objects there link protects (delegate_calls_of_component names name false) (name ∷ []) c.loop-next.self c.push_directory_in_checkout.new.self r) c.in_err-push_directory_in_checkout.was c.push_directory_in_checkout.ensures.goes) in
    subst (λ (r : Result (Unit {0}) AtPathError). RunsCheckoutCalls W F a.worktree.now c.push_directory_in_checkout.new.worktree a.objects.now c.push_directory_in_checkout.new.objects way link protects (delegate_calls_of_components (deepest_components_or_root a.self.now.at) (components a.left.now)) (components a.left.now) a.self.now c.push_directory_in_checkout.new.self r)
    (sym (is_err c.from_residual.result e same))
    (goes-as W F way link protects (Err e) (next-calls _ before.done names (components c.loop-next.rest.now) more name before.front c.in-Some.ensures.0 false (sym c.in-Some.ensures.2 ∙ c.if-next.false)) refl
    (goes-as W F way link protects (Err e) (sym (append_assoc before.done (delegate_calls_of_component names name false) (delegate_calls_of_components (names ++ name ∷ []) more)))
    (before.parts ∙ ap (λ (l : List (List ℕ)). before.taken ++ l) c.in-Some.ensures.0 ∙ sym (append_assoc before.taken (name ∷ []) more))
    (goes-more W F way link protects e (delegate_calls_of_components (names ++ name ∷ []) more) more (goes-then W F way link protects (Err e) before.goes step))))

pub returns-in_err-push_directory_in_checkout-clause-arrives : goal.returns-in_err-push_directory_in_checkout-clause-arrives
returns-in_err-push_directory_in_checkout-clause-arrives g c =
    let e : AtPathError = c.in_err-push_directory_in_checkout.field-0.0 in
    let same : IsErrAnd c.from_residual.result (λ x. x ≡ e) = search rules in
    let before = c.loop-next.invariant in
    let at = c.in_err-push_directory_in_checkout.ensures.stands.at_refused in
    record {
      some = ap is_some at ∙ before.some;
      looked_up = no-answer _ c.from_residual.result e same;
      on_way =
          on_err c.from_residual.result (on_way_same _ c.loop-next.self.at c.push_directory_in_checkout.new.self.at at
          (on_way _ c.loop-next.self.at (components c.loop-next.rest.now) (components c.in-Some.next.rest.now) c.in-Some.next.name.now before.below c.in-Some.ensures.0));
      stays = omega (arith, before.stays, ap (λ (d : Option (List (List ℕ))). length (deepest_components_or_root d)) at);
    }

pub returns-in_err-push_directory_in_checkout-clause-last : goal.returns-in_err-push_directory_in_checkout-clause-last
returns-in_err-push_directory_in_checkout-clause-last g c =
    let e : AtPathError = c.in_err-push_directory_in_checkout.field-0.0 in
    let same : IsErrAnd c.from_residual.result (λ x. x ≡ e) = search rules in
    let W = g.W.Worktree in
    subst (λ (r : Result (Unit {0}) AtPathError). LeavesLastComponentDirectory W c.push_directory_in_checkout.new.worktree (checkout_lookup_options c.args.checkout (W.precomposes c.args.worktree.now) c.args.self.now.root (is_dir_by_mode c.args.mode)) (deepest_components_or_root c.args.self.now.at) (components c.args.left.now) r)
    (sym (is_err c.from_residual.result e same)) (record { last = λ t1 told1 makes path parts normal keeps. inr tt })

pub returns-in_err-push_directory_in_checkout-clause-keeps : goal.returns-in_err-push_directory_in_checkout-clause-keeps
returns-in_err-push_directory_in_checkout-clause-keeps g c =
    let W = g.W.Worktree in
    let F = g.F.Find in
    let a = c.args in
    let before = c.loop-next.invariant in
    let way : CheckoutLookupOptions = checkout_lookup_options a.checkout (W.precomposes a.worktree.now) a.self.now.root (is_dir_by_mode a.mode) in
    let there : CheckoutLookupOptions = checkout_lookup_options a.checkout (W.precomposes c.loop-next.worktree) c.loop-next.self.root (is_dir_by_mode a.mode) in
    let ways : there ≡ way = way-same a.checkout (is_dir_by_mode a.mode) (W.precomposes a.worktree.now) (W.precomposes c.loop-next.worktree) a.self.now.root c.loop-next.self.root before.goes.alters.precomposes (ap (λ (m : StackSetup). m.root) before.goes.made) in
    let name : List ℕ = c.in-Some.next.name.now in
    let rest : List (List ℕ) = components c.loop-next.rest.now in
    let more : List (List ℕ) = components c.in-Some.next.rest.now in
    let e : AtPathError = c.in_err-push_directory_in_checkout.field-0.0 in
    let same : IsErrAnd c.from_residual.result (λ x. x ≡ e) = search rules in
    let more_is = sym c.in-Some.ensures.2 ∙ c.if-next.false in
    subst (λ (r : Result (Unit {0}) AtPathError). LookupKeepsHeldRules W F a.worktree.now c.push_directory_in_checkout.new.worktree a.objects.now way (components a.left.now) a.self.now c.push_directory_in_checkout.new.self r)
    (sym (is_err c.from_residual.result e same))
    (record {
      gone = λ s0 t t1 told holds told1 may kept plain k.
          let is : EqualsDirectoryOutcome (outcome_of_checkout_calls way (outcome_before_checkout t (mkdir_count_of_stack a.self.now)) before.done) (W.told c.loop-next.worktree) (mkdir_count_of_stack c.loop-next.self) makes.Made = before.goes.works.tree t told in
          let tm : Names = (outcome_of_checkout_calls way (outcome_before_checkout t (mkdir_count_of_stack a.self.now)) before.done).tree in
          let mid : HoldsForLaterTree (setup_of_stack a.self.now) s0 tm c.loop-next.self.at c.loop-next.self.attributes c.loop-next.self.ignore = before.keeps s0 t tm told holds is.tree_is may kept k in
          let on : StepKeepsHeldRules W F c.loop-next.worktree c.push_directory_in_checkout.new.worktree c.loop-next.objects way (name ∷ []) c.loop-next.self c.push_directory_in_checkout.new.self (Err e) =
          subst (λ (x : CheckoutLookupOptions). StepKeepsHeldRules W F c.loop-next.worktree c.push_directory_in_checkout.new.worktree c.loop-next.objects x (name ∷ []) c.loop-next.self c.push_directory_in_checkout.new.self (Err e)) ways
          (subst (λ (r : Result (Unit {0}) AtPathError). StepKeepsHeldRules W F c.loop-next.worktree c.push_directory_in_checkout.new.worktree c.loop-next.objects there (name ∷ []) c.loop-next.self c.push_directory_in_checkout.new.self r) c.in_err-push_directory_in_checkout.was c.push_directory_in_checkout.ensures.keeps) in
          kept-by s0 (setup_of_stack c.loop-next.self) (setup_of_stack a.self.now) before.goes.made t1
          (on.gone s0 tm t1 is.tree_is (before.goes.leaves_store.holds ∙ holds) told1
          (may-first way (setup_of_stack a.self.now) (setup_of_stack c.loop-next.self) a.self.now.at c.loop-next.self.at before.taken name more (components a.left.now) before.goes.made
          (taken-names (deepest_components_or_root a.self.now.at) before.taken rest (components a.left.now) c.loop-next.self.at before.below before.parts)
          (before.parts ∙ ap (λ (l : List (List ℕ)). before.taken ++ l) c.in-Some.ensures.0) may)
          (keeps-left way (components a.left.now) before.taken more name (before.parts ∙ ap (λ (l : List (List ℕ)). before.taken ++ l) c.in-Some.ensures.0) false more_is refl kept, tt) plain
          (keeping-by s0 (setup_of_stack c.loop-next.self) (setup_of_stack a.self.now) (sym before.goes.made) tm mid));
    })

pub returns-then-next-clause-goes : goal.returns-then-next-clause-goes
returns-then-next-clause-goes g c =
    let W = g.W.Worktree in
    let F = g.F.Find in
    let a = c.args in
    let before = c.loop-next.invariant in
    let link = is_symlink_by_mode a.mode in
    let protects = a.checkout.validate.protect_windows in
    let way : CheckoutLookupOptions = checkout_lookup_options a.checkout (W.precomposes a.worktree.now) a.self.now.root (is_dir_by_mode a.mode) in
    let there : CheckoutLookupOptions = checkout_lookup_options a.checkout (W.precomposes c.loop-next.worktree) c.loop-next.self.root (is_dir_by_mode a.mode) in
    let ways : there ≡ way = way-same a.checkout (is_dir_by_mode a.mode) (W.precomposes a.worktree.now) (W.precomposes c.loop-next.worktree) a.self.now.root c.loop-next.self.root before.goes.alters.precomposes (ap (λ (m : StackSetup). m.root) before.goes.made) in
    let names : List (List ℕ) = deepest_components_or_root c.loop-next.self.at in
    let name : List ℕ = c.in-Some.next.name.now in
    let more : List (List ℕ) = components c.in-Some.next.rest.now in
    let none = sym c.in-Some.ensures.2 ∙ c.if-next.true in
    let pushes : PushesComponentInCheckout W c.loop-next.worktree c.push_component_in_checkout.new.worktree way link protects name true c.loop-next.self c.push_component_in_checkout.new.self c.push_component_in_checkout.result =
    subst (λ (x : CheckoutLookupOptions). PushesComponentInCheckout W c.loop-next.worktree c.push_component_in_checkout.new.worktree x link protects name true c.loop-next.self c.push_component_in_checkout.new.self c.push_component_in_checkout.result) ways c.push_component_in_checkout.ensures in
    goes-as W F way link protects c.push_component_in_checkout.result
    (last-calls _ before.done names (components c.loop-next.rest.now) more name before.front c.in-Some.ensures.0 none)
    (before.parts ∙ ap (λ (l : List (List ℕ)). before.taken ++ l) (c.in-Some.ensures.0 ∙ ap (λ (l : List (List ℕ)). name ∷ l) (nil-is more none)))
    (goes-then W F way link protects c.push_component_in_checkout.result before.goes
    (goes-pushed W F way link protects c.loop-next.objects c.loop-next.self c.push_component_in_checkout.new.self name true c.push_component_in_checkout.result pushes))

pub returns-then-next-clause-arrives : goal.returns-then-next-clause-arrives
returns-then-next-clause-arrives g c =
    let before = c.loop-next.invariant in
    let at : c.push_component_in_checkout.new.self.at ≡ c.loop-next.self.at =
    pushed-field g.W.Worktree g.F.Find _ _ _ (λ (s : StackModel). s.at) c.loop-next.self c.push_component_in_checkout.new.self c.in-Some.next.name.now true c.push_component_in_checkout.result (λ n. refl) refl (λ n. refl) c.push_component_in_checkout.ensures in
    record {
      some = ap is_some at ∙ before.some;
      looked_up =
          looked-pushed g.W.Worktree _ _ _ _ c.loop-next.self c.push_component_in_checkout.new.self (components c.loop-next.rest.now) (components c.in-Some.next.rest.now) c.in-Some.next.name.now c.push_component_in_checkout.result
          before.below c.in-Some.ensures.0 (sym c.in-Some.ensures.2 ∙ c.if-next.true) c.push_component_in_checkout.ensures;
      on_way =
          on_err c.push_component_in_checkout.result (on_way_same _ c.loop-next.self.at c.push_component_in_checkout.new.self.at at
          (on_way _ c.loop-next.self.at (components c.loop-next.rest.now) (components c.in-Some.next.rest.now) c.in-Some.next.name.now before.below c.in-Some.ensures.0));
      stays = omega (arith, before.stays, ap (λ (d : Option (List (List ℕ))). length (deepest_components_or_root d)) at);
    }

pub returns-then-next-clause-keeps : goal.returns-then-next-clause-keeps
returns-then-next-clause-keeps g c =
    let W = g.W.Worktree in
    let F = g.F.Find in
    let a = c.args in
    let before = c.loop-next.invariant in
    let way : CheckoutLookupOptions = checkout_lookup_options a.checkout (W.precomposes a.worktree.now) a.self.now.root (is_dir_by_mode a.mode) in
    let there : CheckoutLookupOptions = checkout_lookup_options a.checkout (W.precomposes c.loop-next.worktree) c.loop-next.self.root (is_dir_by_mode a.mode) in
    let ways : there ≡ way = way-same a.checkout (is_dir_by_mode a.mode) (W.precomposes a.worktree.now) (W.precomposes c.loop-next.worktree) a.self.now.root c.loop-next.self.root before.goes.alters.precomposes (ap (λ (m : StackSetup). m.root) before.goes.made) in
    let name : List ℕ = c.in-Some.next.name.now in
    let rest : List (List ℕ) = components c.loop-next.rest.now in
    let more : List (List ℕ) = components c.in-Some.next.rest.now in
    let pushes : PushesComponentInCheckout W c.loop-next.worktree c.push_component_in_checkout.new.worktree way (is_symlink_by_mode a.mode) a.checkout.validate.protect_windows name true c.loop-next.self c.push_component_in_checkout.new.self c.push_component_in_checkout.result =
    subst (λ (x : CheckoutLookupOptions). PushesComponentInCheckout W c.loop-next.worktree c.push_component_in_checkout.new.worktree x (is_symlink_by_mode a.mode) a.checkout.validate.protect_windows name true c.loop-next.self c.push_component_in_checkout.new.self c.push_component_in_checkout.result) ways c.push_component_in_checkout.ensures in
    record {
      gone = λ s0 t t1 told holds told1 may kept plain k.
          let is : EqualsDirectoryOutcome (outcome_of_checkout_calls way (outcome_before_checkout t (mkdir_count_of_stack a.self.now)) before.done) (W.told c.loop-next.worktree) (mkdir_count_of_stack c.loop-next.self) makes.Made = before.goes.works.tree t told in
          let tm : Names = (outcome_of_checkout_calls way (outcome_before_checkout t (mkdir_count_of_stack a.self.now)) before.done).tree in
          let mid : HoldsForLaterTree (setup_of_stack a.self.now) s0 tm c.loop-next.self.at c.loop-next.self.attributes c.loop-next.self.ignore = before.keeps s0 t tm told holds is.tree_is may kept k in
          kept-by s0 (setup_of_stack c.loop-next.self) (setup_of_stack a.self.now) before.goes.made t1
          (pushed-kept W F way (is_symlink_by_mode a.mode) a.checkout.validate.protect_windows c.loop-next.self c.push_component_in_checkout.new.self name [] true c.push_component_in_checkout.result before.some pushes s0 tm t1 is.tree_is told1
          (may-first way (setup_of_stack a.self.now) (setup_of_stack c.loop-next.self) a.self.now.at c.loop-next.self.at before.taken name more (components a.left.now) before.goes.made
          (taken-names (deepest_components_or_root a.self.now.at) before.taken rest (components a.left.now) c.loop-next.self.at before.below before.parts)
          (before.parts ∙ ap (λ (l : List (List ℕ)). before.taken ++ l) c.in-Some.ensures.0) may)
          (λ made. keeps-left way (components a.left.now) before.taken more name (before.parts ∙ ap (λ (l : List (List ℕ)). before.taken ++ l) c.in-Some.ensures.0) true (sym c.in-Some.ensures.2 ∙ c.if-next.true) made kept) plain
          (keeping-by s0 (setup_of_stack c.loop-next.self) (setup_of_stack a.self.now) (sym before.goes.made) tm mid));
    }

pub returns-then-next-clause-last : goal.returns-then-next-clause-last
returns-then-next-clause-last g c =
    let W = g.W.Worktree in
    let a = c.args in
    let before = c.loop-next.invariant in
    let way : CheckoutLookupOptions = checkout_lookup_options a.checkout (W.precomposes a.worktree.now) a.self.now.root (is_dir_by_mode a.mode) in
    let there : CheckoutLookupOptions = checkout_lookup_options a.checkout (W.precomposes c.loop-next.worktree) c.loop-next.self.root (is_dir_by_mode a.mode) in
    let ways : there ≡ way = way-same a.checkout (is_dir_by_mode a.mode) (W.precomposes a.worktree.now) (W.precomposes c.loop-next.worktree) a.self.now.root c.loop-next.self.root before.goes.alters.precomposes (ap (λ (m : StackSetup). m.root) before.goes.made) in
    let name : List ℕ = c.in-Some.next.name.now in
    let pushes : PushesComponentInCheckout W c.loop-next.worktree c.push_component_in_checkout.new.worktree way (is_symlink_by_mode a.mode) a.checkout.validate.protect_windows name true c.loop-next.self c.push_component_in_checkout.new.self c.push_component_in_checkout.result =
    subst (λ (x : CheckoutLookupOptions). PushesComponentInCheckout W c.loop-next.worktree c.push_component_in_checkout.new.worktree x (is_symlink_by_mode a.mode) a.checkout.validate.protect_windows name true c.loop-next.self c.push_component_in_checkout.new.self c.push_component_in_checkout.result) ways c.push_component_in_checkout.ensures in
    last-there W way (is_symlink_by_mode a.mode) a.checkout.validate.protect_windows c.loop-next.self c.push_component_in_checkout.new.self name (deepest_components_or_root a.self.now.at) (components a.left.now) before.taken (components c.in-Some.next.rest.now) c.push_component_in_checkout.result pushes
    pushes.changes.untold (sym c.in-Some.ensures.2 ∙ c.if-next.true) (before.below.whole_is ∙ ap (λ (l : List (List ℕ)). deepest_components_or_root c.loop-next.self.at ++ l) c.in-Some.ensures.0)
    (before.parts ∙ ap (λ (l : List (List ℕ)). before.taken ++ l) c.in-Some.ensures.0)

pub returns-clause-goes : goal.returns-clause-goes
returns-clause-goes g c =
    let W = g.W.Worktree in
    let F = g.F.Find in
    let a = c.args in
    let before = c.loop-next.invariant in
    let way : CheckoutLookupOptions = checkout_lookup_options a.checkout (W.precomposes a.worktree.now) a.self.now.root (is_dir_by_mode a.mode) in
    let none : components c.loop-next.rest.now ≡ [] = search rules in
    goes-as W F way (is_symlink_by_mode a.mode) a.checkout.validate.protect_windows (Ok tt) (no-calls _ before.done (deepest_components_or_root c.loop-next.self.at) (components c.loop-next.rest.now) before.front none)
    (before.parts ∙ ap (λ (l : List (List ℕ)). before.taken ++ l) none ∙ append-nil before.taken)
    (goes-left W F way (is_symlink_by_mode a.mode) a.checkout.validate.protect_windows before.goes c.make_deepest_current.ensures)

pub returns-clause-keeps : goal.returns-clause-keeps
returns-clause-keeps g c =
    let before = c.loop-next.invariant in
    let made = setup_of_stack c.args.self.now in
    record {
      gone = λ s0 t t1 told holds told1 may kept plain k.
          subst (λ (s : StackModel). HoldsForPresentTree made s0 t1 s.at s.attributes s.ignore) (sym c.make_deepest_current.ensures)
          (kept-now made s0 may.alone t1 c.loop-next.self.at c.loop-next.self.attributes c.loop-next.self.ignore (before.keeps s0 t t1 told holds told1 may kept k));
    }

pub returns-clause-last : goal.returns-clause-last
returns-clause-last g c =
    let before = c.loop-next.invariant in
    let none : components c.loop-next.rest.now ≡ [] = search rules in
    record {
      last = λ t1 told1 makes path parts normal keeps. inl (rest-none (deepest_components_or_root c.args.self.now.at) (components c.args.left.now)
          (before.below.whole_is ∙ ap (λ (l : List (List ℕ)). deepest_components_or_root c.loop-next.self.at ++ l) none ∙ append-nil (deepest_components_or_root c.loop-next.self.at) ∙ before.below.end none));
    }

pub returns-then-next-clause-held : goal.returns-then-next-clause-held
returns-then-next-clause-held g c s tells =
    let W = g.W.Worktree in
    let F = g.F.Find in
    let a = c.args in
    let before = c.loop-next.invariant in
    let way : CheckoutLookupOptions = checkout_lookup_options a.checkout (W.precomposes a.worktree.now) a.self.now.root (is_dir_by_mode a.mode) in
    let names : List (List ℕ) = deepest_components_or_root c.loop-next.self.at in
    let name : List ℕ = c.in-Some.next.name.now in
    let more : List (List ℕ) = components c.in-Some.next.rest.now in
    let none = sym c.in-Some.ensures.2 ∙ c.if-next.true in
    let same : c.push_component_in_checkout.new.self.attributes ≡ c.loop-next.self.attributes = pushed-field W F _ _ _ (λ (s : StackModel). s.attributes) c.loop-next.self c.push_component_in_checkout.new.self name true c.push_component_in_checkout.result (λ n. refl) refl (λ n. refl) c.push_component_in_checkout.ensures in
    always c.push_component_in_checkout.result
    (subst (λ (calls : List DelegateCall). AppendsListsOfCheckout (setup_of_stack a.self.now) way (mkdir_count_of_stack a.self.now) s calls a.self.now.attributes c.push_component_in_checkout.new.self.attributes)
    (sym (last-calls _ before.done names (components c.loop-next.rest.now) more name before.front c.in-Some.ensures.0 none))
    (adds-then W (F.holds a.objects.now) way (setup_of_stack a.self.now) before.done (delegate_calls_of_component names name true) (mkdir_count_of_stack a.self.now) (mkdir_count_of_stack c.loop-next.self) a.self.now.statistics c.loop-next.self.statistics
    a.self.now.attributes c.loop-next.self.attributes c.push_component_in_checkout.new.self.attributes before.goes.works s tells (before.held s tells)
    (λ after now. adds-same (setup_of_stack a.self.now) way (mkdir_count_of_stack c.loop-next.self) after (delegate_calls_of_component names name true) c.loop-next.self.attributes c.push_component_in_checkout.new.self.attributes tt refl same)))

pub returns-clause-held : goal.returns-clause-held
returns-clause-held g c s tells =
    let W = g.W.Worktree in
    let a = c.args in
    let before = c.loop-next.invariant in
    let way : CheckoutLookupOptions = checkout_lookup_options a.checkout (W.precomposes a.worktree.now) a.self.now.root (is_dir_by_mode a.mode) in
    let none : components c.loop-next.rest.now ≡ [] = search rules in
    subst (λ (calls : List DelegateCall). AppendsListsOfCheckout (setup_of_stack a.self.now) way (mkdir_count_of_stack a.self.now) s calls a.self.now.attributes c.make_deepest_current.new.self.attributes)
    (sym (no-calls _ before.done (deepest_components_or_root c.loop-next.self.at) (components c.loop-next.rest.now) before.front none))
    (subst (λ (h : Option HeldAttributeLists). AppendsListsOfCheckout (setup_of_stack a.self.now) way (mkdir_count_of_stack a.self.now) s before.done a.self.now.attributes h) (sym (ap (λ (x : StackModel). x.attributes) c.make_deepest_current.ensures)) (before.held s tells))
