use Rattle.std.proofs.Common.{◌∙◌, arith}
use Rattle.git_clean.specs.Directories.{directories_marked_by_entry}
use Rattle.git_clean.proofs.Ordered.{taken}
use Rattle.git_clean.proofs.sets.directories_marked_against_removal.Goals as goal

pub loop-entry-preserved : goal.loop-entry-preserved
loop-entry-preserved c =
    taken (directories_marked_by_entry c.args.cleaning.now c.args.guards.now.keys) c.loop-entry.directories.keys c.add_directories_marked_by_entry.new.directories.keys c.entry-item.result c.args.found.now c.loop-entry.entry-index
    (omega (arith, c.loop-entry-test.true)) c.entry-item.is c.in_ok-add_directories_marked_by_entry.ensures
    ∙ c.loop-entry.invariant
