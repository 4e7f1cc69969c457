use Rattle.std.proofs.Common.{sym, ◌∙◌}
use Rattle.dir_walk.proofs.Places.Standing.{IsPlaced-left, standing-left, OnOk-always, OnOk-refused, OnOk-taken}
use Rattle.dir_walk.proofs.place.Place.truncate_to_directory_if_ok.Goals as goal

pub returns-then-is_err : goal.returns-then-is_err
returns-then-is_err c = λ directory within. OnOk-refused _ c.args.handed.now (sym c.is_err.ensures.value ∙ c.if-is_err.true)

pub invariant_of-self : goal.invariant_of-self
invariant_of-self c =
    let at = c.self.inside in
    IsPlaced-left at.root_length at.start at.whole c.truncate.new.self c.args.cut c.requires.0 c.args.self.now c.self.invariant c.self.view_is
    (OnOk-taken c.args.handed.now (sym c.is_err.ensures.value ∙ c.if-is_err.false) c.requires.1) c.truncate.ensures

pub returns : goal.returns
returns c = λ directory within.
    let at = c.self.inside in
    OnOk-always c.args.handed.now
    (standing-left at.root_length at.start at.whole c.truncate.new.self c.args.cut directory c.args.self.now c.self.invariant c.self.view_is
    (OnOk-taken c.args.handed.now (sym c.is_err.ensures.value ∙ c.if-is_err.false) within) c.truncate.ensures)
