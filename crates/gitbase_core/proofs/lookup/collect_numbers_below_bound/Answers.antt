use Rattle.std.proofs.Common.{ℕ, List, [], ◌∷◌, ◌++◌, sym, ap, ◌∙◌}
use Rattle.gitbase_core.proofs.FoldedOrder.{one_number_more}
use Rattle.gitbase_core.proofs.lookup.collect_numbers_below_bound.Goals as goal

pub loop-number-preserved : goal.loop-number-preserved
loop-number-preserved c =
    c.in_ok-push.ensures.items
    ∙ ap (λ (l : List ℕ). l ++ c.loop-number.number ∷ []) c.loop-number.invariant
    ∙ sym (one_number_more c.loop-number.number)
