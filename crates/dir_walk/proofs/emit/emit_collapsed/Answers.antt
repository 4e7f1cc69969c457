use Rattle.std.proofs.Common.{refl, ◌∙◌, arith}
use Rattle.std.proofs.lemmas.Result.{err_from_is_err_and}
use Rattle.dir_classify.specs.Chosen.{walk_options_of}
use Rattle.dir_walk.proofs.Gives.Emitting.{Emits-then, Within-then, within-fits, within-more}
use Rattle.dir_walk.proofs.Opens.Keeping.{KeepsDelegate-then}
use Rattle.dir_walk.proofs.Gives.Putting.{Puts-last, Puts-more, Puts-tried}
use Rattle.dir_walk.proofs.emit.emit_collapsed.Goals as goal

pub returns-in_err-emit_or_count_collapsed_entry-clause-part : goal.returns-in_err-emit_or_count_collapsed_entry-clause-part
returns-in_err-emit_or_count_collapsed_entry-clause-part g c =
    let p = err_from_is_err_and c.from_residual.result c.from_residual.ensures.1 in
    rw p.1 (Within-then _ _ _ _ _ _ _ _ _ _ _ _ _ c.loop-entry.invariant.so_far c.in_err-emit_or_count_collapsed_entry.ensures.part (within-fits (walk_options_of c.args.options.now) c.args.held.now c.loop-entry.entry-index c.entry-item.result c.loop-entry-test.true c.entry-item.is c.args.status) (omega (arith, c.loop-entry-test.true)))

pub returns-in_err-emit_or_count_collapsed_entry-clause-puts : goal.returns-in_err-emit_or_count_collapsed_entry-clause-puts
returns-in_err-emit_or_count_collapsed_entry-clause-puts g c =
    Puts-tried c.args.held.now c.loop-entry.entry-index c.entry-item.result c.loop-entry-test.true c.entry-item.is _ refl _ _ _ _ _ _ c.loop-entry.invariant.puts c.emit_or_count_collapsed_entry.ensures.puts

pub loop-entry-preserved : goal.loop-entry-preserved
loop-entry-preserved g c =
    let before = c.loop-entry.invariant in
    record {
      delegate = KeepsDelegate-then before.delegate c.emit_or_count_collapsed_entry.ensures.delegate;
      kept_on = c.in_ok-emit_or_count_collapsed_entry.ensures.heeds.kept_on ∙ before.kept_on;
      so_far = Emits-then _ _ _ _ _ _ _ _ _ _ _ _ _ _ _ before.so_far c.in_ok-emit_or_count_collapsed_entry.ensures.gives (within-more (walk_options_of c.args.options.now) c.args.held.now c.loop-entry.entry-index c.entry-item.result c.loop-entry-test.true c.entry-item.is c.args.status) refl refl;
      puts = Puts-more c.args.held.now c.loop-entry.entry-index c.entry-item.result c.loop-entry-test.true c.entry-item.is _ refl _ _ _ _ _ _ before.puts c.emit_or_count_collapsed_entry.ensures.puts;
      filtered = c.emit_or_count_collapsed_entry.ensures.filtered ∙ before.filtered;
      entered = c.emit_or_count_collapsed_entry.ensures.entered ∙ before.entered;
    }

pub returns-clause-puts : goal.returns-clause-puts
returns-clause-puts g c = Puts-last c.args.held.now c.loop-entry.entry-index _ _ _ _ c.loop-entry.invariant.puts

pub returns-in_err-emit_or_count_collapsed_entry-clause-delegate : goal.returns-in_err-emit_or_count_collapsed_entry-clause-delegate
returns-in_err-emit_or_count_collapsed_entry-clause-delegate g c = KeepsDelegate-then c.loop-entry.invariant.delegate c.emit_or_count_collapsed_entry.ensures.delegate

pub returns-in_err-emit_or_count_collapsed_entry-clause-filtered : goal.returns-in_err-emit_or_count_collapsed_entry-clause-filtered
returns-in_err-emit_or_count_collapsed_entry-clause-filtered g c = c.emit_or_count_collapsed_entry.ensures.filtered ∙ c.loop-entry.invariant.filtered
