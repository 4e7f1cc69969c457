-- A component is tested and made, and then pushed as a directory.
use Rattle.std.proofs.Common.{◌≡◌, ◌∙◌, ◌++◌, ◌∷◌, [], ℕ, List, sym, ap, subst, Ok, Err, rules}
use Rattle.std.specs.Prelude.{IsErrAnd, Result, is_some, false}
use Rattle.worktree_fs.specs.Paths.{slash_joined_components}
use Rattle.worktree_fs.specs.PathStack.{deepest_components_or_root, push, push_directory}
use Rattle.worktree_stack.specs.declared.error.AtPathError.{AtPathError}
use Rattle.worktree_stack.specs.GoesOn.{RunsCheckoutCalls, StepKeepsHeldRules, PushesComponentInCheckout}
use Rattle.worktree_stack.specs.Lookups.{is_dir_by_mode}
use Rattle.worktree_stack.specs.Making.{CheckoutLookupOptions, is_symlink_by_mode, mkdir_count_of_stack, checkout_lookup_options}
use Rattle.worktree_stack.specs.Stacked.{StackModel}
use Rattle.worktree_stack.proofs.Lookup.InStep.{pushed-below}
use Rattle.worktree_stack.proofs.Refusals.{is_err}
use Rattle.worktree_stack.proofs.CheckOut.Going.{goes-then, goes-more, goes-pushed, goes-unpushed}
use Rattle.worktree_stack.proofs.CheckOut.KeptSteps.{keeps-refused, keeps-passed}
use Rattle.worktree_fs.proofs.Routes.Lookups.{on_ok}
use Rattle.worktree_stack.specs.Checkout.{EqualsDirectoryOutcome, DirectoryOutcome}
use Rattle.worktree_stack.specs.Making.{outcome_of_pushed_component, outcome_before_checkout}
use Rattle.worktree_stack.specs.Reading.{TreeAndObjects}
use Rattle.worktree_fs.specs.declared.answers.MakeAnswer.TheVariants as makes
use Rattle.worktree_stack.proofs.CheckOut.HeldOut.{adds-step}
use Rattle.worktree_stack.proofs.Lookup.SeeingOn.{sees-one}
use Rattle.worktree_stack.proofs.stack.Stack.push_directory_in_checkout.Goals as goal

pub returns-in_err-push_component_in_checkout-clause-goes : goal.returns-in_err-push_component_in_checkout-clause-goes
returns-in_err-push_component_in_checkout-clause-goes g c =
    let W = g.W.Worktree in
    let F = g.F.Find in
    let a = c.args in
    let way : CheckoutLookupOptions = checkout_lookup_options a.checkout (W.precomposes a.worktree.now) a.self.now.root (is_dir_by_mode a.mode) in
    let e : AtPathError = c.in_err-push_component_in_checkout.field-0.0 in
    let same : IsErrAnd c.from_residual.result (λ x. x ≡ e) = search rules in
    let path : List ℕ = slash_joined_components (deepest_components_or_root a.self.now.at ++ a.name.now ∷ []) in
    let pushes : PushesComponentInCheckout W a.worktree.now c.push_component_in_checkout.new.worktree way (is_symlink_by_mode a.mode) a.checkout.validate.protect_windows a.name.now false a.self.now c.push_component_in_checkout.new.self (Err e) =
    subst (λ (r : Result (Unit {0}) AtPathError). PushesComponentInCheckout W a.worktree.now c.push_component_in_checkout.new.worktree way (is_symlink_by_mode a.mode) a.checkout.validate.protect_windows a.name.now false a.self.now c.push_component_in_checkout.new.self r) c.in_err-push_component_in_checkout.was c.push_component_in_checkout.ensures in
    subst (λ (r : Result (Unit {0}) AtPathError). RunsCheckoutCalls W F a.worktree.now c.push_component_in_checkout.new.worktree a.objects.now a.objects.now way (is_symlink_by_mode a.mode) a.checkout.validate.protect_windows (push path false ∷ push_directory path ∷ []) (a.name.now ∷ []) a.self.now c.push_component_in_checkout.new.self r)
    (sym (is_err c.from_residual.result e same))
    (goes-more W F way (is_symlink_by_mode a.mode) a.checkout.validate.protect_windows e (push_directory path ∷ []) []
    (goes-pushed W F way (is_symlink_by_mode a.mode) a.checkout.validate.protect_windows a.objects.now a.self.now c.push_component_in_checkout.new.self a.name.now false (Err e) pushes))

pub returns-clause-goes : goal.returns-clause-goes
returns-clause-goes g c =
    let W = g.W.Worktree in
    let F = g.F.Find in
    let a = c.args in
    let way : CheckoutLookupOptions = checkout_lookup_options a.checkout (W.precomposes a.worktree.now) a.self.now.root (is_dir_by_mode a.mode) in
    let protects = a.checkout.validate.protect_windows in
    let path : List ℕ = slash_joined_components (deepest_components_or_root a.self.now.at ++ a.name.now ∷ []) in
    let mid : StackModel = c.push_component_in_checkout.new.self in
    let pushes : PushesComponentInCheckout W a.worktree.now c.push_component_in_checkout.new.worktree way (is_symlink_by_mode a.mode) protects a.name.now false a.self.now mid (Ok tt) =
    subst (λ (r : Result (Unit {0}) AtPathError). PushesComponentInCheckout W a.worktree.now c.push_component_in_checkout.new.worktree way (is_symlink_by_mode a.mode) protects a.name.now false a.self.now mid r) c.in_ok-push_component_in_checkout.was c.push_component_in_checkout.ensures in
    let current : mid.current ≡ deepest_components_or_root a.self.now.at ++ a.name.now ∷ [] = ap (λ (s : StackModel). s.current) pushes.passed in
    let at : mid.at ≡ a.self.now.at = ap (λ (s : StackModel). s.at) pushes.passed in
    let below = pushed-below mid.at mid.current a.name.now (ap is_some at ∙ c.requires.some) (current ∙ sym (ap (λ d. deepest_components_or_root d ++ a.name.now ∷ []) at)) in
    let went = c.push_directory.ensures in
    subst (λ (p : List ℕ). RunsCheckoutCalls W F a.worktree.now c.push_directory.new.worktree a.objects.now c.push_directory.new.objects way (is_symlink_by_mode a.mode) protects (push path false ∷ push_directory p ∷ []) (a.name.now ∷ []) a.self.now c.push_directory.new.self c.push_directory.result)
    (ap slash_joined_components current)
    (goes-then W F way (is_symlink_by_mode a.mode) protects c.push_directory.result
    (goes-pushed W F way (is_symlink_by_mode a.mode) protects a.objects.now a.self.now mid a.name.now false (Ok tt) pushes)
    (goes-unpushed W F way (is_symlink_by_mode a.mode) protects (push_directory (slash_joined_components mid.current) ∷ []) mid c.push_directory.new.self tt went.keeps.leaves went.keeps.leaves_store
    c.push_directory.result went.keeps.made (went.carried below) went.stopped went.keeps.no_mkdirs went.keeps.is_dir went.keeps.answered went.keeps.platforms (went.holds below).levels (sees-one (W.told c.push_component_in_checkout.new.worktree) (F.holds a.objects.now) mid c.push_directory.new.self.attributes c.push_directory.result went.pushes.sees) went.keeps.store_untouched
    went.asks.asked))

pub returns-in_err-push_component_in_checkout-clause-keeps : goal.returns-in_err-push_component_in_checkout-clause-keeps
returns-in_err-push_component_in_checkout-clause-keeps g c =
    let W = g.W.Worktree in
    let F = g.F.Find in
    let a = c.args in
    let way : CheckoutLookupOptions = checkout_lookup_options a.checkout (W.precomposes a.worktree.now) a.self.now.root (is_dir_by_mode a.mode) in
    let e : AtPathError = c.in_err-push_component_in_checkout.field-0.0 in
    let same : IsErrAnd c.from_residual.result (λ x. x ≡ e) = search rules in
    let pushes : PushesComponentInCheckout W a.worktree.now c.push_component_in_checkout.new.worktree way (is_symlink_by_mode a.mode) a.checkout.validate.protect_windows a.name.now false a.self.now c.push_component_in_checkout.new.self (Err e) =
    subst (λ (r : Result (Unit {0}) AtPathError). PushesComponentInCheckout W a.worktree.now c.push_component_in_checkout.new.worktree way (is_symlink_by_mode a.mode) a.checkout.validate.protect_windows a.name.now false a.self.now c.push_component_in_checkout.new.self r) c.in_err-push_component_in_checkout.was c.push_component_in_checkout.ensures in
    subst (λ (r : Result (Unit {0}) AtPathError). StepKeepsHeldRules W F a.worktree.now c.push_component_in_checkout.new.worktree a.objects.now way (a.name.now ∷ []) a.self.now c.push_component_in_checkout.new.self r)
    (sym (is_err c.from_residual.result e same))
    (keeps-refused W F way (is_symlink_by_mode a.mode) a.checkout.validate.protect_windows a.objects.now a.self.now c.push_component_in_checkout.new.self a.name.now false e c.requires.some pushes)

pub returns-clause-keeps : goal.returns-clause-keeps
returns-clause-keeps g c =
    let W = g.W.Worktree in
    let F = g.F.Find in
    let a = c.args in
    let way : CheckoutLookupOptions = checkout_lookup_options a.checkout (W.precomposes a.worktree.now) a.self.now.root (is_dir_by_mode a.mode) in
    let protects = a.checkout.validate.protect_windows in
    let mid : StackModel = c.push_component_in_checkout.new.self in
    let pushes : PushesComponentInCheckout W a.worktree.now c.push_component_in_checkout.new.worktree way (is_symlink_by_mode a.mode) protects a.name.now false a.self.now mid (Ok tt) =
    subst (λ (r : Result (Unit {0}) AtPathError). PushesComponentInCheckout W a.worktree.now c.push_component_in_checkout.new.worktree way (is_symlink_by_mode a.mode) protects a.name.now false a.self.now mid r) c.in_ok-push_component_in_checkout.was c.push_component_in_checkout.ensures in
    let went = c.push_directory.ensures in
    keeps-passed W F way (is_symlink_by_mode a.mode) protects a.objects.now a.self.now mid c.push_directory.new.self a.name.now c.requires.some pushes went.keeps.leaves.tree
    c.push_directory.result went.keeps.made went.stands.at went.stands.at_refused went.pushes.held went.pushes.held_lists went.pushes.lists

pub returns-clause-held : goal.returns-clause-held
returns-clause-held g c s tells =
    let W = g.W.Worktree in
    let a = c.args in
    let way : CheckoutLookupOptions = checkout_lookup_options a.checkout (W.precomposes a.worktree.now) a.self.now.root (is_dir_by_mode a.mode) in
    let protects = a.checkout.validate.protect_windows in
    let mid : StackModel = c.push_component_in_checkout.new.self in
    let pushes : PushesComponentInCheckout W a.worktree.now c.push_component_in_checkout.new.worktree way (is_symlink_by_mode a.mode) protects a.name.now false a.self.now mid (Ok tt) =
    subst (λ (r : Result (Unit {0}) AtPathError). PushesComponentInCheckout W a.worktree.now c.push_component_in_checkout.new.worktree way (is_symlink_by_mode a.mode) protects a.name.now false a.self.now mid r) c.in_ok-push_component_in_checkout.was c.push_component_in_checkout.ensures in
    let p : DirectoryOutcome = outcome_of_pushed_component way (outcome_before_checkout s.tree (mkdir_count_of_stack a.self.now)) (slash_joined_components (deepest_components_or_root a.self.now.at ++ a.name.now ∷ [])) false in
    let is : EqualsDirectoryOutcome p (W.told c.push_component_in_checkout.new.worktree) (mkdir_count_of_stack mid) makes.Made = pushes.made s.tree tells.tree_is in
    let after : TreeAndObjects = record { tree = p.tree; objects = s.objects } in
    on_ok c.push_directory.result (λ pushed. adds-step way s a.self.now mid c.push_directory.new.self.attributes a.name.now (mkdir_count_of_stack mid) pushes.passed pushed)
    (c.push_directory.ensures.pushes.lists after (record { tree_is = is.tree_is; objects_are = tells.objects_are }))
