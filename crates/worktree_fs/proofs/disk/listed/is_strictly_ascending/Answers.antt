use Rattle.std.proofs.Common.{[], refl, sym, true≢false, rules, arith}
use Rattle.std.proofs.lemmas.Cmp.{nat_list_cmp_total}
use Rattle.std.proofs.lemmas.Map.Keys.{sorted_from_all_adjacent}
use Rattle.worktree_fs.proofs.Lists.Distinct.{below_next}
use Rattle.worktree_fs.proofs.disk.listed.is_strictly_ascending.Goals as goal

pub returns-then-not-is_name_less : goal.returns-then-not-is_name_less
returns-then-not-is_name_less c = (
  λ rises. absurd (true≢false (sym rises)),
  λ sorted.
      let before = below_next c.args.names.now c.loop-i.i c.index-names-i.result c.index-names-i-in-loop-i.result sorted c.loop-i.invariant.0 c.loop-i-test.true in
      search rules,
)

pub returns : goal.returns
returns c = (
  λ rises. sorted_from_all_adjacent nat_list_cmp_total c.args.names.now [] (λ k lt.
      c.loop-i.invariant.1 k (omega (arith, c.loop-i-test.false, lt))),
  λ sorted. refl,
)
