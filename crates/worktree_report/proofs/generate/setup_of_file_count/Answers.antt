use Rattle.std.proofs.Common.{Some, ap, sym, ◌∙◌}
use Rattle.worktree_report.proofs.Generated.{generated_setup-is}
use Rattle.worktree_report.proofs.generate.setup_of_file_count.Goals as goal

pub returns-in_ok-index_of_file_count-in-Ok : goal.returns-in_ok-index_of_file_count-in-Ok
returns-in_ok-index_of_file_count-in-Ok c = generated_setup-is c.args.count c.in-Ok.setup _ c.in-Ok.ensures c.in_ok-index_of_file_count-in-Ok.ensures ∙ ap Some (sym c.replace_index_of_setup.ensures)
