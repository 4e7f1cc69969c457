use Rattle.std.proofs.Common.{ap, length, ℕ, List}
use Rattle.dir_walk.proofs.Places.Standing.{IsPlaced-name, IsPushed-name, standing-pushed}
use Rattle.dir_walk.proofs.place.Place.push.Goals as goal

pub invariant_of-self-2 : goal.invariant_of-self-2
invariant_of-self-2 c =
    let at = c.self.inside in
    IsPlaced-name at.root_length at.start at.whole c.push_component.new.self c.args.name.now c.requires c.self.invariant c.in_ok-push_component.ensures.pushed

pub returns-clause-pushed : goal.returns-clause-pushed
returns-clause-pushed c =
    let at = c.self.inside in
    standing-pushed at.root_length at.start at.whole c.push_component.new.self c.args.name.now (length c.as_bytes-length.result.now) c.args.self.now c.requires c.self.invariant c.in_ok-push_component.ensures.pushed c.self.view_is
    (ap (λ (w : List ℕ). length w) c.as_bytes-length.ensures)

pub returns-clause-within : goal.returns-clause-within
returns-clause-within c =
    let at = c.self.inside in
    IsPushed-name at.root_length at.start at.whole c.push_component.new.self c.args.name.now (length c.as_bytes-length.result.now) c.args.self.now c.requires c.self.invariant c.in_ok-push_component.ensures.pushed c.self.view_is
    (ap (λ (w : List ℕ). length w) c.as_bytes-length.ensures)
