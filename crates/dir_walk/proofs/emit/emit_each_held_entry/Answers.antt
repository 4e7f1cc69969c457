use Rattle.std.proofs.Common.{refl, ◌∙◌, arith}
use Rattle.std.proofs.lemmas.Result.{err_from_is_err_and}
use Rattle.dir_classify.specs.Chosen.{walk_options_of}
use Rattle.dir_walk.proofs.Gives.Emitting.{Emits-then, Within-then, plain-fits, plain-more}
use Rattle.dir_walk.proofs.Opens.Keeping.{KeepsDelegate-then}
use Rattle.dir_walk.proofs.Gives.Putting.{Puts-last, Puts-more, Puts-tried}
use Rattle.dir_walk.proofs.emit.emit_each_held_entry.Goals as goal

pub returns-in_err-emit-clause-part : goal.returns-in_err-emit-clause-part
returns-in_err-emit-clause-part g c =
    let p = err_from_is_err_and c.from_residual.result c.from_residual.ensures.1 in
    rw p.1 (Within-then _ _ _ _ _ _ _ _ _ _ _ _ _ c.loop-entry.invariant.so_far c.in_err-emit.ensures.part (λ q. plain-fits (walk_options_of c.args.options.now) c.args.held.now c.loop-entry.entry-index c.entry-item.result c.loop-entry-test.true c.entry-item.is q _ c.to_ref.ensures) (omega (arith, c.loop-entry-test.true)))

pub returns-in_err-emit-clause-puts : goal.returns-in_err-emit-clause-puts
returns-in_err-emit-clause-puts g c =
    Puts-tried c.args.held.now c.loop-entry.entry-index c.entry-item.result c.loop-entry-test.true c.entry-item.is _ c.to_ref.ensures _ _ _ _ _ _ c.loop-entry.invariant.puts c.emit.ensures.puts

pub loop-entry-preserved : goal.loop-entry-preserved
loop-entry-preserved g c =
    let before = c.loop-entry.invariant in
    record {
      delegate = KeepsDelegate-then before.delegate c.emit.ensures.delegate;
      kept_on = c.in_ok-emit.ensures.heeds.kept_on ∙ before.kept_on;
      so_far = Emits-then _ _ _ _ _ _ _ _ _ _ _ _ _ _ _ before.so_far c.in_ok-emit.ensures.gives (λ q. plain-more (walk_options_of c.args.options.now) c.args.held.now c.loop-entry.entry-index c.entry-item.result c.loop-entry-test.true c.entry-item.is q _ c.to_ref.ensures) refl refl;
      puts = Puts-more c.args.held.now c.loop-entry.entry-index c.entry-item.result c.loop-entry-test.true c.entry-item.is _ c.to_ref.ensures _ _ _ _ _ _ before.puts c.emit.ensures.puts;
      filtered = c.emit.ensures.filtered ∙ before.filtered;
      entered = c.emit.ensures.entered ∙ before.entered;
    }

pub returns-clause-puts : goal.returns-clause-puts
returns-clause-puts g c = Puts-last c.args.held.now c.loop-entry.entry-index _ _ _ _ c.loop-entry.invariant.puts

pub returns-in_err-emit-clause-filtered : goal.returns-in_err-emit-clause-filtered
returns-in_err-emit-clause-filtered g c = c.emit.ensures.filtered ∙ c.loop-entry.invariant.filtered
