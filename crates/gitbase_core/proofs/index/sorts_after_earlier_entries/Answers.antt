use Rattle.std.proofs.Common.{sym, ◌∙◌, ap}
use Rattle.std.specs.Ordering.{is_lt}
use Rattle.gitbase_core.proofs.IndexRules.{is_last, ascends-last}
use Rattle.gitbase_core.proofs.index.sorts_after_earlier_entries.Goals as goal

pub returns-in-Some : goal.returns-in-Some
returns-in-Some c =
    c.is_lt.ensures ∙ ap is_lt c.compare_entries_by_path_and_stage.ensures
    ∙ ascends-last _ c.in-Some.before.now c.args.entry.now c.requires (is_last _ _ (sym c.in-Some.ensures.value))
