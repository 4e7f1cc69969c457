use Rattle.std.proofs.Common.{length, sym, ◌∙◌, eqb-true}
use Rattle.dir_classify.specs.Chosen.{walk_options_of}
use Rattle.dir_walk.proofs.Folding.Empties.{folded-empty}
use Rattle.dir_walk.proofs.close.folded_outcome_unless_blocked.Goals as goal

pub returns-then-is_empty : goal.returns-then-is_empty
returns-then-is_empty g c = λ ev is.
    let a = c.args in
    let held = a.held.now in
    sym (folded-empty (walk_options_of a.shared.now.options) ev a.path.now a.class.now held.entries.items held.blocked (eqb-true (length held.entries.items) 0 (sym c.is_empty.ensures ∙ c.if-is_empty.true)))
