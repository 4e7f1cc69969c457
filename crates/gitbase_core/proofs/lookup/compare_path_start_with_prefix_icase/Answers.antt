use Rattle.gitbase_core.proofs.FoldedOrder.{fold_case-parts}
use Rattle.gitbase_core.proofs.lookup.compare_path_start_with_prefix_icase.Goals as goal

pub returns : goal.returns
returns c =
    rw (c.then.ensures, c.compare_bytes_ignoring_case.ensures, c.compare_bytes_ignoring_case-2.ensures, c.split_at.ensures.front, c.split_at-2.ensures.front, c.min-2.ensures, c.split_at.ensures.back, c.min.ensures)
    (fold_case-parts c.args.front.now c.args.back.now c.args.path.now)
