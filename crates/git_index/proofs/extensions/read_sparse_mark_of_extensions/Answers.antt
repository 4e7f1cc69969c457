use Rattle.std.proofs.Common.{arith, sym, ap, ◌∙◌, ◌||◌, drop}
use Rattle.git_index.specs.Extensions.{read_sparse_mark_of_rest}
use Rattle.git_index.proofs.Passing.{past_one, cut_one}
use Rattle.git_index.proofs.extensions.read_sparse_mark_of_extensions.Goals as goal

pub returns-then-extension-behind : goal.returns-then-extension-behind
returns-then-extension-behind c =
    sym (cut_one c.loop-left.is_sparse c.loop-left.left.now _ (omega (arith, c.split_at.ensures.back_len)) (omega (arith, c.split_at.ensures.back_len, c.if-extension-behind.true)) (sym c.in_ok-extension.ensures))
    ∙ c.loop-left.invariant

pub loop-left-preserved : goal.loop-left-preserved
loop-left-preserved c =
    let more = c.loop-left.is_sparse || c.in_ok-extension.extension.is_sparse in
    ap (read_sparse_mark_of_rest 0 more) (c.split_at-in-loop-left.ensures.back ∙ ap (drop c.in_ok-extension.extension.size) c.split_at.ensures.back)
    ∙ sym (past_one c.loop-left.is_sparse c.loop-left.left.now _ (omega (arith, c.split_at.ensures.back_len, c.if-extension-behind.false)) (sym c.in_ok-extension.ensures))
    ∙ c.loop-left.invariant
