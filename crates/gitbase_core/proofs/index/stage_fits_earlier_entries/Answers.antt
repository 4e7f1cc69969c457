use Rattle.std.proofs.Common.{sym}
use Rattle.gitbase_core.proofs.IndexRules.{is_last, fits_stage-last}
use Rattle.gitbase_core.proofs.index.stage_fits_earlier_entries.Goals as goal

pub returns-in-Some : goal.returns-in-Some
returns-in-Some c =
    rw c.has_stage_zero_conflict.ensures
    (fits_stage-last _ c.in-Some.before.now c.args.entry.now c.requires.index (is_last _ _ (sym c.in-Some.ensures.value))
    c.requires.behind c.if-entry-gt3.false)
