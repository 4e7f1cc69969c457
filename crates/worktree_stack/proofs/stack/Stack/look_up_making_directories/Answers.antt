-- A checkout is the root, what is popped, and what is left of the path, one behind another.
use Rattle.std.proofs.Common.{append_assoc, ◌≡◌, ◌∙◌, ◌++◌, ℕ, List, refl, sym, ap, subst, replicate, Ok, Err, arith, rules}
use Rattle.std.specs.Prelude.{IsErrAnd, Result}
use Rattle.gitbase_core.specs.Path.{components}
use Rattle.worktree_fs.specs.PathStack.{DelegateCall, shared_proper_ancestor_components, deepest_components_or_root, delegate_calls_of_components, delegate_calls_to_push_root, number_of_directories_to_pop, pop_directory, delegate_calls_of_lookup}
use Rattle.worktree_stack.specs.declared.error.AtPathError.{AtPathError}
use Rattle.worktree_stack.specs.ChecksOut.{AreDirectoriesBelowRoot, components_pushed_by_lookup}
use Rattle.worktree_stack.specs.GoesOn.{RunsCheckoutCalls, KeepsStackInStep, LookupKeepsHeldRules, LeavesLastComponentDirectory}
use Rattle.worktree_stack.specs.Lookups.{is_dir_by_mode, directories_kept_by_lookup}
use Rattle.worktree_stack.specs.Making.{CheckoutLookupOptions, is_symlink_by_mode, checkout_lookup_options}
use Rattle.worktree_stack.specs.Setup.{StackSetup}
use Rattle.worktree_stack.specs.Stacked.{StackModel, setup_of_stack, pushed_directories}
use Rattle.worktree_stack.proofs.Refusals.{is_err}
use Rattle.worktree_stack.proofs.Lookup.Looking.{IsStaying, whole, ends, left_names, calls_are}
use Rattle.worktree_stack.proofs.Lookup.Arriving.{arrives-whole}
use Rattle.worktree_stack.proofs.CheckOut.Working.{unpushed-root, unpushed-pops}
use Rattle.worktree_stack.proofs.CheckOut.Going.{goes-then, goes-more, goes-as, goes-unpushed}
use Rattle.worktree_stack.proofs.CheckOut.RestOut.{way-same}
use Rattle.worktree_stack.proofs.CheckOut.Within.{within-gone, within-same, there-staying}
use Rattle.worktree_fs.proofs.Routes.Lookups.{on_ok}
use Rattle.worktree_stack.specs.HeldOut.{AppendsListsOfCheckout, KeepsLowestAppendsCheckoutLists}
use Rattle.worktree_stack.specs.Making.{mkdir_count_of_stack}
use Rattle.worktree_stack.proofs.CheckOut.HeldOut.{holds-whole, none-surplus}
use Rattle.worktree_stack.proofs.Lookup.SeeingOn.{sees-popped}
use Rattle.worktree_stack.proofs.stack.Stack.look_up_making_directories.Goals as goal

pub push_remaining_in_checkout-requires-clause-end : goal.push_remaining_in_checkout-requires-clause-end
push_remaining_in_checkout-requires-clause-end g c =
    ends c.args.self.now.at c.push_root_with_rules.new.self.at c.pop_non_ancestor_directories.new.self.at (components c.args.relative.now) (components c.components_to_push-left.result.now)
    (record { rooted = c.in_ok-push_root_with_rules.ensures.stands.at; popped = c.pop_non_ancestor_directories.ensures.at; left_is = c.components_to_push-left.ensures })

pub returns-clause-arrives : goal.returns-clause-arrives
returns-clause-arrives g c =
    let staying_is : IsStaying c.args.self.now.at c.push_root_with_rules.new.self.at c.pop_non_ancestor_directories.new.self.at (components c.args.relative.now) (components c.components_to_push-left.result.now) =
    record { rooted = c.in_ok-push_root_with_rules.ensures.stands.at; popped = c.pop_non_ancestor_directories.ensures.at; left_is = c.components_to_push-left.ensures } in
    arrives-whole c.args.self.now.at c.push_root_with_rules.new.self.at c.pop_non_ancestor_directories.new.self.at (components c.args.relative.now) (components c.components_to_push-left.result.now) staying_is c.push_remaining_in_checkout.new.self c.push_remaining_in_checkout.result refl c.push_remaining_in_checkout.ensures.arrives

pub returns-in_err-push_root_with_rules-clause-goes : goal.returns-in_err-push_root_with_rules-clause-goes
returns-in_err-push_root_with_rules-clause-goes g c =
    let W = g.W.Worktree in
    let F = g.F.Find in
    let a = c.args in
    let way : CheckoutLookupOptions = checkout_lookup_options a.checkout (W.precomposes a.worktree.now) a.self.now.root (is_dir_by_mode a.mode) in
    let e : AtPathError = c.in_err-push_root_with_rules.field-0.0 in
    let same : IsErrAnd c.from_residual.result (λ x. x ≡ e) = search rules in
    let went = c.push_root_with_rules.ensures in
    let more : List DelegateCall = replicate (number_of_directories_to_pop a.self.now.at (components a.relative.now)) pop_directory ++ delegate_calls_of_components (shared_proper_ancestor_components (deepest_components_or_root a.self.now.at) (components a.relative.now)) (components_pushed_by_lookup a.self.now.at (components a.relative.now)) in
    subst (λ (r : Result (Unit {0}) AtPathError). RunsCheckoutCalls W F a.worktree.now c.push_root_with_rules.new.worktree a.objects.now c.push_root_with_rules.new.objects way (is_symlink_by_mode a.mode) a.checkout.validate.protect_windows (delegate_calls_of_lookup a.self.now.at (components a.relative.now)) (components_pushed_by_lookup a.self.now.at (components a.relative.now)) a.self.now c.push_root_with_rules.new.self r)
    (sym (is_err c.from_residual.result e same))
    (goes-as W F way (is_symlink_by_mode a.mode) a.checkout.validate.protect_windows (Err e) (append_assoc (delegate_calls_to_push_root a.self.now.at) (replicate (number_of_directories_to_pop a.self.now.at (components a.relative.now)) pop_directory) (delegate_calls_of_components (shared_proper_ancestor_components (deepest_components_or_root a.self.now.at) (components a.relative.now)) (components_pushed_by_lookup a.self.now.at (components a.relative.now)))) refl
    (goes-more W F way (is_symlink_by_mode a.mode) a.checkout.validate.protect_windows e more (components_pushed_by_lookup a.self.now.at (components a.relative.now))
    (goes-unpushed W F way (is_symlink_by_mode a.mode) a.checkout.validate.protect_windows (delegate_calls_to_push_root a.self.now.at) a.self.now c.push_root_with_rules.new.self (unpushed-root a.self.now.at) went.keeps.leaves went.keeps.leaves_store
    (Err e) went.keeps.made tt c.in_err-push_root_with_rules.ensures.moves.stopped went.keeps.no_mkdirs went.keeps.is_dir went.keeps.answered went.keeps.platforms went.holds.levels c.in_err-push_root_with_rules.ensures.sees went.keeps.store_untouched went.asks.asked)))

pub returns-clause-goes : goal.returns-clause-goes
returns-clause-goes g c =
    let W = g.W.Worktree in
    let F = g.F.Find in
    let a = c.args in
    let link = is_symlink_by_mode a.mode in
    let protects = a.checkout.validate.protect_windows in
    let way : CheckoutLookupOptions = checkout_lookup_options a.checkout (W.precomposes a.worktree.now) a.self.now.root (is_dir_by_mode a.mode) in
    let mid : StackModel = c.pop_non_ancestor_directories.new.self in
    let made : setup_of_stack mid ≡ setup_of_stack a.self.now = c.pop_non_ancestor_directories.ensures.pops.made ∙ c.push_root_with_rules.ensures.keeps.made in
    let there : CheckoutLookupOptions = checkout_lookup_options a.checkout (W.precomposes c.push_root_with_rules.new.worktree) mid.root (is_dir_by_mode a.mode) in
    let ways : there ≡ way = way-same a.checkout (is_dir_by_mode a.mode) (W.precomposes a.worktree.now) (W.precomposes c.push_root_with_rules.new.worktree) a.self.now.root mid.root c.push_root_with_rules.ensures.keeps.leaves.precomposes (ap (λ (m : StackSetup). m.root) made) in
    let parts : List (List ℕ) = components a.relative.now in
    let left : List (List ℕ) = components c.components_to_push-left.result.now in
    let directories_kept_by_lookup : IsStaying a.self.now.at c.push_root_with_rules.new.self.at mid.at parts left = record { rooted = c.in_ok-push_root_with_rules.ensures.stands.at; popped = c.pop_non_ancestor_directories.ensures.at; left_is = c.components_to_push-left.ensures } in
    let root = c.push_root_with_rules.ensures in
    let pops = c.pop_non_ancestor_directories.ensures.pops in
    let n = number_of_directories_to_pop c.push_root_with_rules.new.self.at parts in
    let carried = pops.carried (W.told c.push_root_with_rules.new.worktree) (F.holds c.push_root_with_rules.new.objects) in
    let first = goes-unpushed W F way link protects (delegate_calls_to_push_root a.self.now.at) a.self.now c.push_root_with_rules.new.self (unpushed-root a.self.now.at) root.keeps.leaves root.keeps.leaves_store
    (Ok tt) root.keeps.made c.in_ok-push_root_with_rules.ensures.moves.carried tt root.keeps.no_mkdirs root.keeps.is_dir root.keeps.answered root.keeps.platforms root.holds.levels c.in_ok-push_root_with_rules.ensures.sees root.keeps.store_untouched root.asks.asked in
    let second = goes-unpushed W F way link protects (replicate n pop_directory) c.push_root_with_rules.new.self mid (unpushed-pops n)
    (record { tree = refl; faults = omega arith; list_faults = refl; reads = omega arith; lists = refl; precomposes = refl }) (record { holds = refl; faults = omega arith })
    (Ok tt) pops.made carried tt pops.no_mkdirs pops.is_dir pops.answered pops.platforms pops.levels (sees-popped (W.told c.push_root_with_rules.new.worktree) (F.holds c.push_root_with_rules.new.objects) (setup_of_stack c.push_root_with_rules.new.self) n c.push_root_with_rules.new.self.attributes mid.attributes pops.names pops.dropped) (λ none. refl) (omega arith) in
    let third : RunsCheckoutCalls W F c.push_root_with_rules.new.worktree c.push_remaining_in_checkout.new.worktree c.push_root_with_rules.new.objects c.push_remaining_in_checkout.new.objects way link protects (delegate_calls_of_components (deepest_components_or_root mid.at) left) left mid c.push_remaining_in_checkout.new.self c.push_remaining_in_checkout.result =
    subst (λ (x : CheckoutLookupOptions). RunsCheckoutCalls W F c.push_root_with_rules.new.worktree c.push_remaining_in_checkout.new.worktree c.push_root_with_rules.new.objects c.push_remaining_in_checkout.new.objects x link protects (delegate_calls_of_components (deepest_components_or_root mid.at) left) left mid c.push_remaining_in_checkout.new.self c.push_remaining_in_checkout.result) ways c.push_remaining_in_checkout.ensures.goes in
    goes-as W F way link protects c.push_remaining_in_checkout.result (calls_are a.self.now.at c.push_root_with_rules.new.self.at mid.at parts left directories_kept_by_lookup) (sym (left_names a.self.now.at c.push_root_with_rules.new.self.at mid.at parts left directories_kept_by_lookup))
    (goes-then W F way link protects c.push_remaining_in_checkout.result (goes-then W F way link protects (Ok tt) first second) third)

pub returns-in_err-push_root_with_rules-clause-within : goal.returns-in_err-push_root_with_rules-clause-within
returns-in_err-push_root_with_rules-clause-within g c =
    let W = g.W.Worktree in
    let F = g.F.Find in
    let a = c.args in
    let e : AtPathError = c.in_err-push_root_with_rules.field-0.0 in
    let same : IsErrAnd c.from_residual.result (λ x. x ≡ e) = search rules in
    let went = c.push_root_with_rules.ensures in
    subst (λ (r : Result (Unit {0}) AtPathError). KeepsStackInStep W F a.worktree.now c.push_root_with_rules.new.worktree a.objects.now c.push_root_with_rules.new.objects (checkout_lookup_options a.checkout (W.precomposes a.worktree.now) a.self.now.root (is_dir_by_mode a.mode)) (components a.relative.now) (components_pushed_by_lookup a.self.now.at (components a.relative.now)) a.self.now c.push_root_with_rules.new.self r)
    (sym (is_err c.from_residual.result e same))
    (within-same W F _ (components a.relative.now) (components_pushed_by_lookup a.self.now.at (components a.relative.now)) a.self.now c.push_root_with_rules.new.self e went.keeps.leaves.tree went.keeps.leaves_store.holds went.keeps.made c.in_err-push_root_with_rules.ensures.stands.at_refused went.holds.in_step)

pub returns-clause-within : goal.returns-clause-within
returns-clause-within g c =
    let W = g.W.Worktree in
    let F = g.F.Find in
    let a = c.args in
    let way : CheckoutLookupOptions = checkout_lookup_options a.checkout (W.precomposes a.worktree.now) a.self.now.root (is_dir_by_mode a.mode) in
    let mid : StackModel = c.pop_non_ancestor_directories.new.self in
    let made : setup_of_stack mid ≡ setup_of_stack a.self.now = c.pop_non_ancestor_directories.ensures.pops.made ∙ c.push_root_with_rules.ensures.keeps.made in
    let there : CheckoutLookupOptions = checkout_lookup_options a.checkout (W.precomposes c.push_root_with_rules.new.worktree) mid.root (is_dir_by_mode a.mode) in
    let ways : there ≡ way = way-same a.checkout (is_dir_by_mode a.mode) (W.precomposes a.worktree.now) (W.precomposes c.push_root_with_rules.new.worktree) a.self.now.root mid.root c.push_root_with_rules.ensures.keeps.leaves.precomposes (ap (λ (m : StackSetup). m.root) made) in
    let parts : List (List ℕ) = components a.relative.now in
    let left : List (List ℕ) = components c.components_to_push-left.result.now in
    let staying_is : IsStaying a.self.now.at c.push_root_with_rules.new.self.at mid.at parts left = record { rooted = c.in_ok-push_root_with_rules.ensures.stands.at; popped = c.pop_non_ancestor_directories.ensures.at; left_is = c.components_to_push-left.ensures } in
    let root = c.push_root_with_rules.ensures in
    let keeps : LookupKeepsHeldRules W F c.push_root_with_rules.new.worktree c.push_remaining_in_checkout.new.worktree c.push_root_with_rules.new.objects way left mid c.push_remaining_in_checkout.new.self c.push_remaining_in_checkout.result =
    subst (λ (x : CheckoutLookupOptions). LookupKeepsHeldRules W F c.push_root_with_rules.new.worktree c.push_remaining_in_checkout.new.worktree c.push_root_with_rules.new.objects x left mid c.push_remaining_in_checkout.new.self c.push_remaining_in_checkout.result) ways c.push_remaining_in_checkout.ensures.keeps in
    let last : LeavesLastComponentDirectory W c.push_remaining_in_checkout.new.worktree way (deepest_components_or_root mid.at) left c.push_remaining_in_checkout.result =
    subst (λ (x : CheckoutLookupOptions). LeavesLastComponentDirectory W c.push_remaining_in_checkout.new.worktree x (deepest_components_or_root mid.at) left c.push_remaining_in_checkout.result) ways c.push_remaining_in_checkout.ensures.last in
    subst (λ (l : List (List ℕ)). KeepsStackInStep W F a.worktree.now c.push_remaining_in_checkout.new.worktree a.objects.now c.push_remaining_in_checkout.new.objects way parts l a.self.now c.push_remaining_in_checkout.new.self c.push_remaining_in_checkout.result)
    (left_names a.self.now.at c.push_root_with_rules.new.self.at mid.at parts left staying_is)
    (within-gone W F way parts left a.relative.now a.self.now mid c.push_remaining_in_checkout.new.self c.push_remaining_in_checkout.result refl made c.push_remaining_in_checkout.ensures.goes.made refl root.keeps.leaves.tree root.keeps.leaves_store.holds c.push_remaining_in_checkout.ensures.goes.leaves_store.holds
    (whole a.self.now.at c.push_root_with_rules.new.self.at mid.at parts left staying_is) (ends a.self.now.at c.push_root_with_rules.new.self.at mid.at parts left staying_is)
    (λ s tells step. c.pop_non_ancestor_directories.ensures.pops.in_step s (root.holds.in_step s tells step))
    (λ t are. subst (λ at. AreDirectoriesBelowRoot a.self.now.root t (pushed_directories at)) (sym (c.pop_non_ancestor_directories.ensures.at ∙ ap (λ d. directories_kept_by_lookup d parts) c.in_ok-push_root_with_rules.ensures.stands.at)) (there-staying a.self.now.root t a.self.now.at parts are))
    keeps last)

pub returns-clause-held : goal.returns-clause-held
returns-clause-held g c s tells =
    let W = g.W.Worktree in
    let F = g.F.Find in
    let a = c.args in
    let way : CheckoutLookupOptions = checkout_lookup_options a.checkout (W.precomposes a.worktree.now) a.self.now.root (is_dir_by_mode a.mode) in
    let mid : StackModel = c.pop_non_ancestor_directories.new.self in
    let made : setup_of_stack mid ≡ setup_of_stack a.self.now = c.pop_non_ancestor_directories.ensures.pops.made ∙ c.push_root_with_rules.ensures.keeps.made in
    let there : CheckoutLookupOptions = checkout_lookup_options a.checkout (W.precomposes c.push_root_with_rules.new.worktree) mid.root (is_dir_by_mode a.mode) in
    let ways : there ≡ way = way-same a.checkout (is_dir_by_mode a.mode) (W.precomposes a.worktree.now) (W.precomposes c.push_root_with_rules.new.worktree) a.self.now.root mid.root c.push_root_with_rules.ensures.keeps.leaves.precomposes (ap (λ (m : StackSetup). m.root) made) in
    let parts : List (List ℕ) = components a.relative.now in
    let left : List (List ℕ) = components c.components_to_push-left.result.now in
    let staying_is : IsStaying a.self.now.at c.push_root_with_rules.new.self.at mid.at parts left = record { rooted = c.in_ok-push_root_with_rules.ensures.stands.at; popped = c.pop_non_ancestor_directories.ensures.at; left_is = c.components_to_push-left.ensures } in
    let below : List DelegateCall = delegate_calls_of_components (deepest_components_or_root mid.at) left in
    let n = number_of_directories_to_pop c.push_root_with_rules.new.self.at parts in
    let counted : mkdir_count_of_stack mid ≡ mkdir_count_of_stack a.self.now = c.pop_non_ancestor_directories.ensures.pops.no_mkdirs ∙ c.push_root_with_rules.ensures.keeps.no_mkdirs in
    on_ok c.push_remaining_in_checkout.result
    (λ (added : AppendsListsOfCheckout (setup_of_stack mid) there (mkdir_count_of_stack mid) s below mid.attributes c.push_remaining_in_checkout.new.self.attributes).
    subst (λ (calls : List DelegateCall). KeepsLowestAppendsCheckoutLists (setup_of_stack a.self.now) way (mkdir_count_of_stack a.self.now) s calls a.self.now.attributes c.push_remaining_in_checkout.new.self.attributes)
    (sym (calls_are a.self.now.at c.push_root_with_rules.new.self.at mid.at parts left staying_is))
    (holds-whole (setup_of_stack a.self.now) way (mkdir_count_of_stack a.self.now) s a.self.now.at n below a.self.now.attributes c.push_root_with_rules.new.self.attributes mid.attributes c.push_remaining_in_checkout.new.self.attributes
    (c.in_ok-push_root_with_rules.ensures.lists way s tells) c.pop_non_ancestor_directories.ensures.pops.dropped
    (λ none. c.pop_non_ancestor_directories.ensures.undropped (none-surplus a.self.now.at c.push_root_with_rules.new.self.at parts c.in_ok-push_root_with_rules.ensures.stands.at none))
    (subst (λ (m : StackSetup). AppendsListsOfCheckout m way (mkdir_count_of_stack a.self.now) s below mid.attributes c.push_remaining_in_checkout.new.self.attributes) made
    (subst (λ (x : CheckoutLookupOptions). AppendsListsOfCheckout (setup_of_stack mid) x (mkdir_count_of_stack a.self.now) s below mid.attributes c.push_remaining_in_checkout.new.self.attributes) ways
    (subst (λ (k : ℕ). AppendsListsOfCheckout (setup_of_stack mid) there k s below mid.attributes c.push_remaining_in_checkout.new.self.attributes) counted added)))))
    (c.push_remaining_in_checkout.ensures.held s (record { tree_is = c.push_root_with_rules.ensures.keeps.leaves.tree ∙ tells.tree_is; objects_are = c.push_root_with_rules.ensures.keeps.leaves_store.holds ∙ tells.objects_are }))
