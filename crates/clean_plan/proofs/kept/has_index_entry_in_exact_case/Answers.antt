use Rattle.std.proofs.Common.{rules}
use Rattle.clean_plan.proofs.Indexed.{some-beneath}
use Rattle.clean_plan.proofs.kept.has_index_entry_in_exact_case.Goals as goal

pub returns-else-is_some : goal.returns-else-is_some
returns-else-is_some c =
    let beneath = some-beneath c.args.path.now c.args.index.now c.requires.below in
    search rules
