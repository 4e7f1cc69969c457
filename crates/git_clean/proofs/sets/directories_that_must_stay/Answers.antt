use Rattle.std.proofs.Common.{◌∙◌, arith}
use Rattle.git_clean.specs.Directories.{directories_above_if_entry_kept}
use Rattle.git_clean.proofs.Ordered.{taken}
use Rattle.git_clean.proofs.sets.directories_that_must_stay.Goals as goal

pub loop-entry-preserved : goal.loop-entry-preserved
loop-entry-preserved c =
    taken (directories_above_if_entry_kept c.args.cleaning.now) c.loop-entry.directories.keys c.add_parents_if_repository_or_dot_git_kept.new.directories.keys c.entry-item.result c.args.found.now c.loop-entry.entry-index
    (omega (arith, c.loop-entry-test.true)) c.entry-item.is c.in_ok-add_parents_if_repository_or_dot_git_kept.ensures
    ∙ c.loop-entry.invariant
