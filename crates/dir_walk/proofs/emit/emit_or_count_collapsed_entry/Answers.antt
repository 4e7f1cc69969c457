use Rattle.std.proofs.Common.{◌≡◌, true, ◌∙◌, refl, sym}
use Rattle.std.proofs.lemmas.Result.{on_ok_weaker}
use Rattle.dir_classify.specs.Chosen.{walk_options_of}
use Rattle.dir_walk.specs.Fold.{emits_besides_folded_directory}
use Rattle.dir_walk.proofs.Gives.Emitting.{Emits-as, merged-shown}
use Rattle.dir_walk.proofs.emit.emit_or_count_collapsed_entry.Goals as goal

pub returns-then-emits_besides_folded_directory-clause-gives : goal.returns-then-emits_besides_folded_directory-clause-gives
returns-then-emits_besides_folded_directory-clause-gives g c =
    let a = c.args in
    let o = walk_options_of a.options.now in
    let shown : emits_besides_folded_directory o.emit_collapsed a.status a.entry.now ≡ true =
    rw c.collapsed_emission_mode.ensures at (sym c.emits_besides_folded_directory.ensures ∙ c.if-emits_besides_folded_directory.true) in
    on_ok_weaker c.emit.result (λ all. Emits-as _ _ _ _ _ _ _ _ _ _ all (λ p. merged-shown o a.status _ a.entry.now p c.to_ref.ensures shown) refl refl) c.emit.ensures.gives
