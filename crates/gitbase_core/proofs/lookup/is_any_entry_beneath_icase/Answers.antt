use Rattle.std.proofs.Common.{sym, arith}
use Rattle.gitbase_core.proofs.FoldedSearch.{never-fold_case, some-fold_case, none-beneath}
use Rattle.gitbase_core.proofs.lookup.is_any_entry_beneath_icase.Goals as goal

pub number_range_with_path_prefix_icase-start-requires : goal.number_range_with_path_prefix_icase-start-requires
number_range_with_path_prefix_icase-start-requires c = never-fold_case c.args.entries.now c.args.numbers.now c.requires

pub returns-then-start-end : goal.returns-then-start-end
returns-then-start-end c =
    sym (some-fold_case c.args.dir.now c.args.entries.now c.args.numbers.now c.requires _ _ c.number_range_with_path_prefix_icase-start.ensures c.if-start-end.true)

pub returns : goal.returns
returns c =
    let above = c.if-start-end.false in
    sym (none-beneath c.args.dir.now c.args.entries.now c.args.numbers.now c.requires _ _ c.number_range_with_path_prefix_icase-start.ensures (λ lt. omega (arith, above, lt)))
