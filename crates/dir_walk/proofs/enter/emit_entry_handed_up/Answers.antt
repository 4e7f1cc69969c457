use Rattle.std.proofs.Common.{◌∷◌, [], None, subst}
use Rattle.std.proofs.lemmas.Result.{on_ok_weaker}
use Rattle.dir_classify.specs.declared.entry.Entry.{Entry}
use Rattle.dir_classify.specs.Chosen.{walk_options_of}
use Rattle.dir_walk.specs.Emissions.{emission_with_fold_status}
use Rattle.dir_walk.specs.Emits.{AddsEmissionsAndCounts, count_shown_passing}
use Rattle.dir_walk.proofs.enter.emit_entry_handed_up.Goals as goal

pub returns-in-Some-clause-gives : goal.returns-in-Some-clause-gives
returns-in-Some-clause-gives g c =
    let o = walk_options_of c.args.options.now in
    let told = g.D.Delegate.given in
    rw c.in-Some.is
    (on_ok_weaker c.emit.result
    (λ e. subst (λ (x : Entry). AddsEmissionsAndCounts (told c.args.delegate.now) (told c.emit.new.delegate) c.args.outcome.now c.emit.new.outcome (λ p. count_shown_passing o p (emission_with_fold_status x None ∷ [])) 1 0) c.to_ref.ensures e)
    c.emit.ensures.gives)
