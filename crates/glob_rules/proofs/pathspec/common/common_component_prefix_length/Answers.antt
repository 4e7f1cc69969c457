use Rattle.std.proofs.Common.{◌≡◌, ℕ, nat_eq, take, arith, ap, sym, ◌∙◌}
use Rattle.std.proofs.lemmas.List.Sums.{common_prefix_len-le}
use Rattle.glob_rules.proofs.Stems.{longest_here, longest_before, longest_none}
use Rattle.glob_rules.proofs.Cuts.{common_at, common_begins}
use Rattle.glob_rules.proofs.pathspec.common.common_component_prefix_length.Goals as goal

pub loop-end-init : goal.loop-end-init
loop-end-init c = record {
  within = omega (arith, c.common_prefix_length-end.ensures);
  same = common_begins c.args.left.now c.args.right.now c.common_prefix_length-end.result c.common_prefix_length-end.ensures;
}

pub is_component_boundary_in_both-requires-clause-left : goal.is_component_boundary_in_both-requires-clause-left
is_component_boundary_in_both-requires-clause-left c = omega (arith, common_prefix_len-le nat_eq c.args.left.now c.args.right.now, c.loop-end.invariant.within)

pub is_component_boundary_in_both-requires-clause-right : goal.is_component_boundary_in_both-requires-clause-right
is_component_boundary_in_both-requires-clause-right c = omega (arith, common_prefix_len-le nat_eq c.args.left.now c.args.right.now, c.loop-end.invariant.within)

pub loop-end-preserved : goal.loop-end-preserved
loop-end-preserved c = record {
  within = omega (arith, c.loop-end.invariant.within);
  same =
      longest_before _ c.args.left.now c.loop-end.end c.loop-end-test.true
      (common_at c.loop-end.end c.args.left.now c.args.right.now c.loop-end-test.true c.loop-end.invariant.within ∙ sym c.is_component_boundary_in_both.ensures ∙ c.if-not-is_component_boundary_in_both.true)
      ∙ c.loop-end.invariant.same;
}

pub returns-else-not-is_component_boundary_in_both-clause-within : goal.returns-else-not-is_component_boundary_in_both-clause-within
returns-else-not-is_component_boundary_in_both-clause-within c = omega (arith, common_prefix_len-le nat_eq c.args.left.now c.args.right.now, c.loop-end.invariant.within)

pub returns-else-not-is_component_boundary_in_both-clause-value : goal.returns-else-not-is_component_boundary_in_both-clause-value
returns-else-not-is_component_boundary_in_both-clause-value c =
    sym (longest_here _ c.args.left.now c.loop-end.end c.loop-end-test.true
    (common_at c.loop-end.end c.args.left.now c.args.right.now c.loop-end-test.true c.loop-end.invariant.within ∙ sym c.is_component_boundary_in_both.ensures ∙ c.if-not-is_component_boundary_in_both.false))
    ∙ c.loop-end.invariant.same

pub returns-after-loop-end-clause-value : goal.returns-after-loop-end-clause-value
returns-after-loop-end-clause-value c =
    let none : c.loop-end.end ≡ 0 = omega arith in
    ap (λ (n : ℕ). take n c.args.left.now) none ∙ sym (longest_none _ c.args.left.now c.loop-end.end none) ∙ c.loop-end.invariant.same
