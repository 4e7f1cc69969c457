use Rattle.std.proofs.Common.{◌≡◌, ◌∙◌, ap, sym, refl, is_some, length, true, false, arith, rules}
use Rattle.std.specs.Prelude.{IsErrAnd}
use Rattle.gitbase_core.specs.Path.{components}
use Rattle.worktree_fs.specs.PathStack.{PathStackModel}
use Rattle.worktree_fs.proofs.Calls.{handed_on}
use Rattle.worktree_fs.proofs.Routes.Lookups.{descended-none, descended-more, stopped-at, on_way, on_err, ended-state, ended-given, root-state, root-given, counts-after, counts-handed_on}
use Rattle.worktree_fs.proofs.path_stack.PathStack.push_remaining_components.Goals as goal

pub loop-next-init : goal.loop-next-init
loop-next-init g c = record {
  descended = descended-none c.args.self.now _ (components c.args.left.now) c.requires.deepest c.requires.end;
  unrefused = refl;
  later = omega arith;
  ruled = λ first held. held;
}

pub returns-in_err-make_child_current_with_delegate-clause-stopped : goal.returns-in_err-make_child_current_with_delegate-clause-stopped
returns-in_err-make_child_current_with_delegate-clause-stopped g c =
    let same : IsErrAnd c.from_residual.result (λ x. x ≡ c.in_err-make_child_current_with_delegate.field-0.0) = search rules in
    handed_on c.from_residual.result c.in_err-make_child_current_with_delegate.field-0.0 _ same
    (stopped-at c.args.self.now c.loop-next.self _ _ _ (components c.args.left.now) (components c.loop-next.rest.now) (components c.in-Some.next.rest.now) c.in-Some.next.name.now
    c.loop-next.invariant.descended c.in-Some.ensures.0 c.make_child_current_with_delegate.new.self true c.in_err-make_child_current_with_delegate.field-0.0 (sym c.in-Some.ensures.2 ∙ c.if-next.true) c.in_err-make_child_current_with_delegate.ensures.stopped)

pub returns-in_err-make_child_current_with_delegate-clause-root : goal.returns-in_err-make_child_current_with_delegate-clause-root
returns-in_err-make_child_current_with_delegate-clause-root g c = ap (λ (s : PathStackModel). s.root) c.in_err-make_child_current_with_delegate.ensures.refused ∙ c.loop-next.invariant.descended.root

pub returns-in_err-make_child_current_with_delegate-clause-delegate : goal.returns-in_err-make_child_current_with_delegate-clause-delegate
returns-in_err-make_child_current_with_delegate-clause-delegate g c =
    let same : IsErrAnd c.from_residual.result (λ x. x ≡ c.in_err-make_child_current_with_delegate.field-0.0) = search rules in
    counts-handed_on g.D.PathDelegate.refusals g.D.PathDelegate.causes g.D.PathDelegate.rule c.args.delegate.now c.loop-next.delegate c.make_child_current_with_delegate.new.delegate
    c.loop-next.invariant.unrefused c.loop-next.invariant.later c.loop-next.invariant.ruled c.from_residual.result c.in_err-make_child_current_with_delegate.field-0.0 same c.in_err-make_child_current_with_delegate.ensures.delegate

pub returns-then-next-clause-state : goal.returns-then-next-clause-state
returns-then-next-clause-state g c =
    ended-state c.args.self.now c.loop-next.self _ _ (g.D.PathDelegate.given c.make_child_current_with_delegate.new.delegate) (components c.args.left.now) (components c.loop-next.rest.now) (components c.in-Some.next.rest.now) c.in-Some.next.name.now
    c.loop-next.invariant.descended c.in-Some.ensures.0 c.make_child_current_with_delegate.new.self (sym c.in-Some.ensures.2 ∙ c.if-next.true) c.in_ok-make_child_current_with_delegate.ensures.state

pub returns-then-next-clause-given : goal.returns-then-next-clause-given
returns-then-next-clause-given g c =
    ended-given c.args.self.now c.loop-next.self _ _ _ (components c.args.left.now) (components c.loop-next.rest.now) (components c.in-Some.next.rest.now) c.in-Some.next.name.now
    c.loop-next.invariant.descended c.in-Some.ensures.0 c.make_child_current_with_delegate.new.self (sym c.in-Some.ensures.2 ∙ c.if-next.true) c.in_ok-make_child_current_with_delegate.ensures.state c.in_ok-make_child_current_with_delegate.ensures.given

pub returns-then-next-clause-root : goal.returns-then-next-clause-root
returns-then-next-clause-root g c = ap (λ (s : PathStackModel). s.root) c.in_ok-make_child_current_with_delegate.ensures.state ∙ c.loop-next.invariant.descended.root

pub returns-then-next-clause-delegate : goal.returns-then-next-clause-delegate
returns-then-next-clause-delegate g c =
    counts-after g.D.PathDelegate.refusals g.D.PathDelegate.causes g.D.PathDelegate.rule c.args.delegate.now c.loop-next.delegate c.make_child_current_with_delegate.new.delegate
    c.loop-next.invariant.unrefused c.loop-next.invariant.later c.loop-next.invariant.ruled _ c.in_ok-make_child_current_with_delegate.ensures.delegate

pub push_child_directory-requires-clause-root : goal.push_child_directory-requires-clause-root
push_child_directory-requires-clause-root g c = ap is_some c.loop-next.invariant.descended.top

pub returns-in_err-push_child_directory-clause-stopped : goal.returns-in_err-push_child_directory-clause-stopped
returns-in_err-push_child_directory-clause-stopped g c =
    let same : IsErrAnd c.from_residual-in_err-push_child_directory.result (λ x. x ≡ c.in_err-push_child_directory.field-0.0) = search rules in
    handed_on c.from_residual-in_err-push_child_directory.result c.in_err-push_child_directory.field-0.0 _ same
    (stopped-at c.args.self.now c.loop-next.self _ _ _ (components c.args.left.now) (components c.loop-next.rest.now) (components c.in-Some.next.rest.now) c.in-Some.next.name.now
    c.loop-next.invariant.descended c.in-Some.ensures.0 c.push_child_directory.new.self false c.in_err-push_child_directory.field-0.0 (sym c.in-Some.ensures.2 ∙ c.if-next.false) c.in_err-push_child_directory.ensures.stopped)

pub returns-in_err-push_child_directory-clause-root : goal.returns-in_err-push_child_directory-clause-root
returns-in_err-push_child_directory-clause-root g c = ap (λ (s : PathStackModel). s.root) c.in_err-push_child_directory.ensures.refused ∙ c.loop-next.invariant.descended.root

pub returns-in_err-push_child_directory-clause-delegate : goal.returns-in_err-push_child_directory-clause-delegate
returns-in_err-push_child_directory-clause-delegate g c =
    let same : IsErrAnd c.from_residual-in_err-push_child_directory.result (λ x. x ≡ c.in_err-push_child_directory.field-0.0) = search rules in
    counts-handed_on g.D.PathDelegate.refusals g.D.PathDelegate.causes g.D.PathDelegate.rule c.args.delegate.now c.loop-next.delegate c.push_child_directory.new.delegate
    c.loop-next.invariant.unrefused c.loop-next.invariant.later c.loop-next.invariant.ruled c.from_residual-in_err-push_child_directory.result c.in_err-push_child_directory.field-0.0 same c.in_err-push_child_directory.ensures.delegate

pub loop-next-smaller : goal.loop-next-smaller
loop-next-smaller g c = omega (arith, ap length c.in-Some.ensures.0)

pub loop-next-preserved : goal.loop-next-preserved
loop-next-preserved g c = record {
  descended =
      descended-more c.args.self.now c.loop-next.self _ _ _ (components c.args.left.now) (components c.loop-next.rest.now) (components c.in-Some.next.rest.now) c.in-Some.next.name.now
      c.loop-next.invariant.descended c.in-Some.ensures.0 c.push_child_directory.new.self (sym c.in-Some.ensures.2 ∙ c.if-next.false) c.in_ok-push_child_directory.ensures.state c.in_ok-push_child_directory.ensures.given;
  unrefused = c.in_ok-push_child_directory.ensures.delegate.unrefused ∙ c.loop-next.invariant.unrefused;
  later = omega (arith, c.loop-next.invariant.later, c.push_child_directory.ensures.delegate.later);
  ruled = λ first held. c.push_child_directory.ensures.delegate.ruled first (c.loop-next.invariant.ruled first held);
}

pub returns-clause-state : goal.returns-clause-state
returns-clause-state g c =
    root-state c.args.self.now c.loop-next.self _ _ (components c.args.left.now) (components c.loop-next.rest.now) c.loop-next.invariant.descended c.in_default.ensures

pub returns-clause-given : goal.returns-clause-given
returns-clause-given g c =
    root-given c.args.self.now c.loop-next.self _ _ (components c.args.left.now) (components c.loop-next.rest.now) c.loop-next.invariant.descended c.in_default.ensures

pub returns-clause-root : goal.returns-clause-root
returns-clause-root g c = c.loop-next.invariant.descended.root

pub returns-clause-delegate : goal.returns-clause-delegate
returns-clause-delegate g c = record {
  counted = tt;
  uncounted = tt;
  cause = tt;
  unrefused = c.loop-next.invariant.unrefused;
  later = c.loop-next.invariant.later;
  ruled = c.loop-next.invariant.ruled;
}

pub returns-in_err-make_child_current_with_delegate-clause-on_way : goal.returns-in_err-make_child_current_with_delegate-clause-on_way
returns-in_err-make_child_current_with_delegate-clause-on_way g c =
    on_err c.from_residual.result
    (on_way c.args.self.now c.loop-next.self _ _ (g.D.PathDelegate.given c.make_child_current_with_delegate.new.delegate) (components c.args.left.now) (components c.loop-next.rest.now) (components c.in-Some.next.rest.now) c.in-Some.next.name.now
    c.loop-next.invariant.descended c.in-Some.ensures.0 c.make_child_current_with_delegate.new.self (ap (λ (s : PathStackModel). s.deepest) c.in_err-make_child_current_with_delegate.ensures.refused))

pub returns-in_err-push_child_directory-clause-on_way : goal.returns-in_err-push_child_directory-clause-on_way
returns-in_err-push_child_directory-clause-on_way g c =
    on_err c.from_residual-in_err-push_child_directory.result
    (on_way c.args.self.now c.loop-next.self _ _ (g.D.PathDelegate.given c.push_child_directory.new.delegate) (components c.args.left.now) (components c.loop-next.rest.now) (components c.in-Some.next.rest.now) c.in-Some.next.name.now
    c.loop-next.invariant.descended c.in-Some.ensures.0 c.push_child_directory.new.self (ap (λ (s : PathStackModel). s.deepest) c.in_err-push_child_directory.ensures.refused))
