use Rattle.std.proofs.Common.{sym, ◌∙◌}
use Rattle.gitbase_core.proofs.PathSearch.{got}
use Rattle.gitbase_core.proofs.FoldedSearch.{never-fold_case, no-fold_case, number-in_run}
use Rattle.gitbase_core.proofs.lookup.first_entry_beneath_directory_icase.Goals as goal

pub number_range_with_path_prefix_icase-start-requires : goal.number_range_with_path_prefix_icase-start-requires
number_range_with_path_prefix_icase-start-requires c = never-fold_case c.args.entries.now c.args.numbers.now c.requires

pub returns-in_default : goal.returns-in_default
returns-in_default c =
    no-fold_case c.args.dir.now c.args.entries.now c.args.numbers.now c.requires _ _ c.number_range_with_path_prefix_icase-start.ensures
    (rw c.in_default.is at c.least_number.ensures)

pub returns : goal.returns
returns c =
    let entries = c.args.entries.now in
    let number = c.in-Some.number in
    let least = rw c.in-Some.is at c.least_number.ensures in
    sym (got entries number c.get.result c.get.ensures.lookup.3)
    ∙ number-in_run c.args.dir.now entries c.args.numbers.now c.requires _ _ c.number_range_with_path_prefix_icase-start.ensures number least.0 least.1
