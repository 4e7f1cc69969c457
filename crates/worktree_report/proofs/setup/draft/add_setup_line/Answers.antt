use Rattle.std.proofs.Common.{Some, ap, sym, ◌∙◌}
use Rattle.worktree_report.proofs.Meanings.{taken-configures}
use Rattle.worktree_report.proofs.setup.draft.add_setup_line.Goals as goal

pub returns-in_ok-push-in-Some-Configures : goal.returns-in_ok-push-in-Some-Configures
returns-in_ok-push-in-Some-Configures c =
    taken-configures _ _ c.in-Some-Configures.config c.draft.view_is (sym c.in_ok-parse_setup_line.ensures ∙ c.in-Some-Configures.is ∙ ap Some c.in-Some-Configures.field-0-is) c.in_ok-push-in-Some-Configures.ensures.items
