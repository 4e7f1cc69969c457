-- A lookup is counted, and goes to its path as one that makes no directories or as a checkout; then it is answered.
use Rattle.std.proofs.Common.{ℕ, List, ◌≤◌, length, ◌≡◌, ◌∙◌, refl, sym, ap, subst, Ok, Err, Some, None, rules}
use Rattle.std.specs.Prelude.{IsErrAnd, Result, Option, is_some}
use Rattle.gitbase_core.specs.Path.{components}
use Rattle.worktree_fs.specs.PathStack.{delegate_calls_of_lookup}
use Rattle.worktree_stack.specs.ChecksOut.{LooksUpMakingDirectories, components_pushed_by_lookup}
use Rattle.worktree_stack.specs.GoesOn.{RunsCheckoutCalls, KeepsStackInStep}
use Rattle.worktree_stack.specs.LooksUp.{LooksUpPath}
use Rattle.worktree_stack.specs.Lookups.{is_dir_by_mode, directories_kept_by_lookup}
use Rattle.worktree_stack.specs.Making.{is_symlink_by_mode, checkout_lookup_options}
use Rattle.worktree_stack.specs.Moments.{worktree_store_and_stack}
use Rattle.worktree_stack.specs.Stacked.{StackModel, setup_of_stack, pushed_directories}
use Rattle.worktree_stack.specs.declared.error.AtPathError.{AtPathError}
use Rattle.worktree_stack.specs.declared.state.Checkout.{Checkout}
use Rattle.worktree_stack.proofs.Lookup.Asked.{asked-as}
use Rattle.worktree_stack.proofs.Lookup.LookedUp.{not-normal}
use Rattle.worktree_stack.proofs.Lookup.LookCounted.{look-answered, look-refused}
use Rattle.worktree_stack.proofs.Lookup.LookedOut.{checks-answered, checks-not-normal, checks-refused, same-checkout}
use Rattle.worktree_stack.proofs.Refusals.{is_err}
use Rattle.worktree_stack.specs.HeldOut.{KeepsLowestAppendsCheckoutLists}
use Rattle.worktree_stack.specs.Making.{mkdir_count_of_stack}
use Rattle.worktree_stack.specs.Setup.{HeldAttributeLists}
use Rattle.worktree_stack.proofs.stack.Stack.at_path.Goals as goal

pub returns-then-not-is_relative_without_dots-clause-looks_up : goal.returns-then-not-is_relative_without_dots-clause-looks_up
returns-then-not-is_relative_without_dots-clause-looks_up g c keeps =
    not-normal g.W.Worktree g.F.Find c.args.worktree.now c.args.objects.now c.args.relative.now _
    c.args.self.now c.count_lookup.new.self c.count_lookup.ensures (search rules)

pub returns-then-not-is_relative_without_dots-clause-checks_out : goal.returns-then-not-is_relative_without_dots-clause-checks_out
returns-then-not-is_relative_without_dots-clause-checks_out g c checkout is =
    checks-not-normal g.W.Worktree g.F.Find c.args.worktree.now c.args.worktree.now c.args.objects.now c.args.objects.now checkout c.args.relative.now (is_dir_by_mode c.args.mode) (is_symlink_by_mode c.args.mode)
    c.args.self.now c.count_lookup.new.self refl refl c.count_lookup.ensures (search rules)

pub returns-in_err-look_up_without_making_directories-clause-looks_up : goal.returns-in_err-look_up_without_making_directories-clause-looks_up
returns-in_err-look_up_without_making_directories-clause-looks_up g c keeps =
    let W = g.W.Worktree in
    let F = g.F.Find in
    let e = c.in_err-look_up_without_making_directories.field-0.0 in
    let same : IsErrAnd c.from_residual.result (λ x. x ≡ e) = search rules in
    subst (λ (r : Result (Unit {0}) AtPathError). LooksUpPath W F c.args.worktree.now c.look_up_without_making_directories.new.worktree c.args.objects.now c.look_up_without_making_directories.new.objects c.args.relative.now (is_dir_by_mode c.args.mode) c.args.self.now c.look_up_without_making_directories.new.self r)
    (sym (is_err c.from_residual.result e same))
    (look-refused W F (worktree_store_and_stack c.args.worktree.now c.args.objects.now c.count_lookup.new.self) (worktree_store_and_stack c.look_up_without_making_directories.new.worktree c.look_up_without_making_directories.new.objects c.look_up_without_making_directories.new.self) c.args.relative.now _ c.args.self.now e
    c.count_lookup.ensures (search rules) c.in_err-look_up_without_making_directories.ensures.keeps c.in_err-look_up_without_making_directories.ensures.arrives c.in_err-look_up_without_making_directories.ensures.moves c.look_up_without_making_directories.ensures.holds c.in_err-look_up_without_making_directories.ensures.sees c.in_err-look_up_without_making_directories.ensures.asks)

pub returns-in_default-clause-looks_up : goal.returns-in_default-clause-looks_up
returns-in_default-clause-looks_up g c keeps =
    look-answered g.W.Worktree g.F.Find (worktree_store_and_stack c.args.worktree.now c.args.objects.now c.count_lookup.new.self) (worktree_store_and_stack c.look_up_without_making_directories.new.worktree c.look_up_without_making_directories.new.objects c.look_up_without_making_directories.new.self) c.args.relative.now (is_dir_by_mode c.args.mode)
    c.args.self.now c.mark_lookup_answered.new.self c.count_lookup.ensures (search rules) c.mark_lookup_answered.ensures c.in_ok-look_up_without_making_directories.ensures.keeps c.in_ok-look_up_without_making_directories.ensures.arrives c.in_ok-look_up_without_making_directories.ensures.moves c.look_up_without_making_directories.ensures.holds c.in_ok-look_up_without_making_directories.ensures.sees c.in_ok-look_up_without_making_directories.ensures.asks

pub returns-in_err-look_up_making_directories-clause-checks_out : goal.returns-in_err-look_up_making_directories-clause-checks_out
returns-in_err-look_up_making_directories-clause-checks_out g c checkout is =
    let W = g.W.Worktree in
    let F = g.F.Find in
    let a = c.args in
    let old : StackModel = a.self.now in
    let new : StackModel = c.look_up_making_directories.new.self in
    let k : Checkout = c.in-Some.checkout in
    let counted = c.count_lookup.ensures in
    let parts : List (List ℕ) = components a.relative.now in
    let e : AtPathError = c.in_err-look_up_making_directories.field-0.0 in
    let same : IsErrAnd c.from_residual-in_err-look_up_making_directories.result (λ x. x ≡ e) = search rules in
    let has : old.checkout ≡ Some k = sym (ap (λ (s : StackModel). s.checkout) counted) ∙ sym c.checkout.ensures.checkout ∙ c.in-Some.is in
    let free : old.ignore ≡ None = sym (ap (λ (s : StackModel). s.ignore) counted) ∙ c.checkout.ensures.alone (ap is_some c.in-Some.is) in
    let went = c.in_err-look_up_making_directories.ensures in
    subst (λ (x : Checkout). LooksUpMakingDirectories W F a.worktree.now c.look_up_making_directories.new.worktree a.objects.now c.look_up_making_directories.new.objects x a.relative.now (is_dir_by_mode a.mode) (is_symlink_by_mode a.mode) old new c.from_residual-in_err-look_up_making_directories.result) (same-checkout old.checkout has is)
    (subst (λ (r : Result (Unit {0}) AtPathError). LooksUpMakingDirectories W F a.worktree.now c.look_up_making_directories.new.worktree a.objects.now c.look_up_making_directories.new.objects k a.relative.now (is_dir_by_mode a.mode) (is_symlink_by_mode a.mode) old new r) (sym (is_err c.from_residual-in_err-look_up_making_directories.result e same))
    (checks-refused W F a.worktree.now c.look_up_making_directories.new.worktree a.objects.now c.look_up_making_directories.new.objects k a.relative.now (is_dir_by_mode a.mode) (is_symlink_by_mode a.mode) old has free (search rules) new e
    (subst (λ (m : StackModel). RunsCheckoutCalls W F a.worktree.now c.look_up_making_directories.new.worktree a.objects.now c.look_up_making_directories.new.objects (checkout_lookup_options k (W.precomposes a.worktree.now) m.root (is_dir_by_mode a.mode)) (is_symlink_by_mode a.mode) k.validate.protect_windows (delegate_calls_of_lookup m.at parts) (components_pushed_by_lookup m.at parts) m new (Err e)) counted
    (subst (λ (r : Result (Unit {0}) AtPathError). RunsCheckoutCalls W F a.worktree.now c.look_up_making_directories.new.worktree a.objects.now c.look_up_making_directories.new.objects (checkout_lookup_options k (W.precomposes a.worktree.now) c.count_lookup.new.self.root (is_dir_by_mode a.mode)) (is_symlink_by_mode a.mode) k.validate.protect_windows (delegate_calls_of_lookup c.count_lookup.new.self.at parts) (components_pushed_by_lookup c.count_lookup.new.self.at parts) c.count_lookup.new.self new r) c.in_err-look_up_making_directories.was c.look_up_making_directories.ensures.goes))
    went.arrives.on_way (subst (λ (m : StackModel). length (pushed_directories (directories_kept_by_lookup m.at parts)) ≤ length (pushed_directories new.at)) counted c.look_up_making_directories.ensures.arrives.stays)
    (subst (λ (m : StackModel). KeepsStackInStep W F a.worktree.now c.look_up_making_directories.new.worktree a.objects.now c.look_up_making_directories.new.objects (checkout_lookup_options k (W.precomposes a.worktree.now) m.root (is_dir_by_mode a.mode)) parts (components_pushed_by_lookup m.at parts) m new (Err e)) counted
    (subst (λ (r : Result (Unit {0}) AtPathError). KeepsStackInStep W F a.worktree.now c.look_up_making_directories.new.worktree a.objects.now c.look_up_making_directories.new.objects (checkout_lookup_options k (W.precomposes a.worktree.now) c.count_lookup.new.self.root (is_dir_by_mode a.mode)) parts (components_pushed_by_lookup c.count_lookup.new.self.at parts) c.count_lookup.new.self new r) c.in_err-look_up_making_directories.was c.look_up_making_directories.ensures.within))))

pub returns-clause-checks_out : goal.returns-clause-checks_out
returns-clause-checks_out g c checkout is =
    let W = g.W.Worktree in
    let F = g.F.Find in
    let a = c.args in
    let old : StackModel = a.self.now in
    let went_to : StackModel = c.look_up_making_directories.new.self in
    let k : Checkout = c.in-Some.checkout in
    let counted = c.count_lookup.ensures in
    let parts : List (List ℕ) = components a.relative.now in
    let has : old.checkout ≡ Some k = sym (ap (λ (s : StackModel). s.checkout) counted) ∙ sym c.checkout.ensures.checkout ∙ c.in-Some.is in
    let free : old.ignore ≡ None = sym (ap (λ (s : StackModel). s.ignore) counted) ∙ c.checkout.ensures.alone (ap is_some c.in-Some.is) in
    subst (λ (x : Checkout). LooksUpMakingDirectories W F a.worktree.now c.look_up_making_directories.new.worktree a.objects.now c.look_up_making_directories.new.objects x a.relative.now (is_dir_by_mode a.mode) (is_symlink_by_mode a.mode) old c.mark_lookup_answered-2.new.self (Ok tt)) (same-checkout old.checkout has is)
    (checks-answered W F a.worktree.now c.look_up_making_directories.new.worktree a.objects.now c.look_up_making_directories.new.objects k a.relative.now (is_dir_by_mode a.mode) (is_symlink_by_mode a.mode) old has free (search rules) went_to c.mark_lookup_answered-2.new.self c.mark_lookup_answered-2.ensures
    (subst (λ (m : StackModel). RunsCheckoutCalls W F a.worktree.now c.look_up_making_directories.new.worktree a.objects.now c.look_up_making_directories.new.objects (checkout_lookup_options k (W.precomposes a.worktree.now) m.root (is_dir_by_mode a.mode)) (is_symlink_by_mode a.mode) k.validate.protect_windows (delegate_calls_of_lookup m.at parts) (components_pushed_by_lookup m.at parts) m went_to (Ok tt)) counted
    (subst (λ (r : Result (Unit {0}) AtPathError). RunsCheckoutCalls W F a.worktree.now c.look_up_making_directories.new.worktree a.objects.now c.look_up_making_directories.new.objects (checkout_lookup_options k (W.precomposes a.worktree.now) c.count_lookup.new.self.root (is_dir_by_mode a.mode)) (is_symlink_by_mode a.mode) k.validate.protect_windows (delegate_calls_of_lookup c.count_lookup.new.self.at parts) (components_pushed_by_lookup c.count_lookup.new.self.at parts) c.count_lookup.new.self went_to r) c.in_ok-look_up_making_directories.was c.look_up_making_directories.ensures.goes))
    c.in_ok-look_up_making_directories.ensures.arrives.looked_up (subst (λ (m : StackModel). length (pushed_directories (directories_kept_by_lookup m.at parts)) ≤ length (pushed_directories went_to.at)) counted c.look_up_making_directories.ensures.arrives.stays)
    (subst (λ (m : StackModel). KeepsStackInStep W F a.worktree.now c.look_up_making_directories.new.worktree a.objects.now c.look_up_making_directories.new.objects (checkout_lookup_options k (W.precomposes a.worktree.now) m.root (is_dir_by_mode a.mode)) parts (components_pushed_by_lookup m.at parts) m went_to (Ok tt)) counted
    (subst (λ (r : Result (Unit {0}) AtPathError). KeepsStackInStep W F a.worktree.now c.look_up_making_directories.new.worktree a.objects.now c.look_up_making_directories.new.objects (checkout_lookup_options k (W.precomposes a.worktree.now) c.count_lookup.new.self.root (is_dir_by_mode a.mode)) parts (components_pushed_by_lookup c.count_lookup.new.self.at parts) c.count_lookup.new.self went_to r) c.in_ok-look_up_making_directories.was c.look_up_making_directories.ensures.within)))

pub returns-in_err-look_up_without_making_directories-clause-asked : goal.returns-in_err-look_up_without_making_directories-clause-asked
returns-in_err-look_up_without_making_directories-clause-asked g c =
    asked-as g.W.Worktree c.args.worktree.now c.look_up_without_making_directories.new.worktree (components c.args.relative.now) c.args.self.now c.count_lookup.new.self c.count_lookup.ensures c.look_up_without_making_directories.ensures.asks.asked

pub returns-in_default-clause-asked : goal.returns-in_default-clause-asked
returns-in_default-clause-asked g c =
    asked-as g.W.Worktree c.args.worktree.now c.look_up_without_making_directories.new.worktree (components c.args.relative.now) c.args.self.now c.count_lookup.new.self c.count_lookup.ensures c.look_up_without_making_directories.ensures.asks.asked

pub returns-in_err-look_up_making_directories-clause-asked : goal.returns-in_err-look_up_making_directories-clause-asked
returns-in_err-look_up_making_directories-clause-asked g c =
    asked-as g.W.Worktree c.args.worktree.now c.look_up_making_directories.new.worktree (components c.args.relative.now) c.args.self.now c.count_lookup.new.self c.count_lookup.ensures c.look_up_making_directories.ensures.goes.asked

pub returns-clause-asked : goal.returns-clause-asked
returns-clause-asked g c =
    asked-as g.W.Worktree c.args.worktree.now c.look_up_making_directories.new.worktree (components c.args.relative.now) c.args.self.now c.count_lookup.new.self c.count_lookup.ensures c.look_up_making_directories.ensures.goes.asked

pub returns-clause-held : goal.returns-clause-held
returns-clause-held g c checkout is s tells =
    let W = g.W.Worktree in
    let a = c.args in
    let old : StackModel = a.self.now in
    let k : Checkout = c.in-Some.checkout in
    let counted = c.count_lookup.ensures in
    let parts : List (List ℕ) = components a.relative.now in
    let composes = W.precomposes a.worktree.now in
    let kind = is_dir_by_mode a.mode in
    let has : old.checkout ≡ Some k = sym (ap (λ (x : StackModel). x.checkout) counted) ∙ sym c.checkout.ensures.checkout ∙ c.in-Some.is in
    subst (λ (x : Checkout). KeepsLowestAppendsCheckoutLists (setup_of_stack old) (checkout_lookup_options x composes old.root kind) (mkdir_count_of_stack old) s (delegate_calls_of_lookup old.at parts) old.attributes c.mark_lookup_answered-2.new.self.attributes) (same-checkout old.checkout has is)
    (subst (λ (h : Option HeldAttributeLists). KeepsLowestAppendsCheckoutLists (setup_of_stack old) (checkout_lookup_options k composes old.root kind) (mkdir_count_of_stack old) s (delegate_calls_of_lookup old.at parts) old.attributes h) (sym (ap (λ (x : StackModel). x.attributes) c.mark_lookup_answered-2.ensures))
    (subst (λ (m : StackModel). KeepsLowestAppendsCheckoutLists (setup_of_stack m) (checkout_lookup_options k composes m.root kind) (mkdir_count_of_stack m) s (delegate_calls_of_lookup m.at parts) m.attributes c.look_up_making_directories.new.self.attributes) counted
    (c.in_ok-look_up_making_directories.ensures.held s tells)))
