use Rattle.gitbase_core.proofs.PrefixOrder.{prefix_cmp-parts}
use Rattle.gitbase_core.proofs.index.compare_path_start_with_prefix.Goals as goal

pub returns : goal.returns
returns c =
    rw (c.then.ensures, c.cmp.ensures, c.cmp-2.ensures, c.split_at.ensures.front, c.split_at-2.ensures.front, c.min-2.ensures, c.split_at.ensures.back, c.min.ensures)
    (prefix_cmp-parts c.args.front.now c.args.back.now c.args.path.now)
