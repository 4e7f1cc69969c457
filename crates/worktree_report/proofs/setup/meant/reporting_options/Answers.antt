use Rattle.worktree_report.proofs.Meanings.{reporting-is}
use Rattle.worktree_report.proofs.setup.meant.reporting_options.Goals as goal

pub returns : goal.returns
returns c =
    reporting-is c.args.options.now _ _ _ _ _ _ _ _ _ _ c.is_option_set_to.ensures c.is_option_set_to-2.ensures c.emit_untracked_from_options.ensures c.emit_ignored_from_options.ensures c.emit_collapsed_from_options.ensures c.is_option_set_to-3.ensures
    c.is_option_set_to-4.ensures c.is_option_set_to-5.ensures c.permissions_from_options.ensures c.is_option_set_to-6.ensures
