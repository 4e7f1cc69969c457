use Rattle.std.proofs.Common.{◌≡◌, rules, ap, sym, ◌∙◌, ℕ, List, false, refl}
use Rattle.glob_rules.specs.AttributeValues.{has_assigned_name, state_of_name}
use Rattle.glob_rules.specs.Standing.{dereferenced_assignments}
use Rattle.glob_rules.proofs.StandingStates.{there_or_not, has-more, told-last}
use Rattle.glob_rules.proofs.attributes.standing.Standing.add_if_first.Goals as goal

pub returns-then-contains_key-clause-first : goal.returns-then-contains_key-clause-first
returns-then-contains_key-clause-first c =
    let there = there_or_not c.self.inside.states.entries (dereferenced_assignments c.self.inside.said.items) c.as_bytes-name.result.now c.contains_key.result c.self.invariant c.contains_key.ensures in
    search rules

pub returns-then-contains_key-clause-said : goal.returns-then-contains_key-clause-said
returns-then-contains_key-clause-said c =
    let there = there_or_not c.self.inside.states.entries (dereferenced_assignments c.self.inside.said.items) c.as_bytes-name.result.now c.contains_key.result c.self.invariant c.contains_key.ensures in
    search rules

pub invariant_of-self-in-Ok : goal.invariant_of-self-in-Ok
invariant_of-self-in-Ok c =
    let standing = dereferenced_assignments c.self.inside.said.items in
    let there = there_or_not c.self.inside.states.entries standing c.as_bytes-name.result.now c.contains_key.result c.self.invariant c.contains_key.ensures in
    let named : c.as_bytes-name.result.now ≡ c.args.assigned.now.name = c.as_bytes-name.ensures in
    let new : has_assigned_name c.args.assigned.now.name standing ≡ false = sym (ap (λ (n : List ℕ). has_assigned_name n standing) named) ∙ there ∙ c.if-contains_key.false in
    λ name.
    has-more c.self.inside.states.entries c.insert.new.self.entries standing c.args.assigned.now c.as_bytes-name.result _ named refl c.self.invariant new c.in-Ok.ensures.updates.0 name
    ∙ sym (ap (state_of_name name) (ap dereferenced_assignments c.in_ok-push.ensures.items ∙ told-last c.self.inside.said.items c.args.assigned))

pub returns-in-Ok-clause-first : goal.returns-in-Ok-clause-first
returns-in-Ok-clause-first c =
    let there = there_or_not c.self.inside.states.entries (dereferenced_assignments c.self.inside.said.items) c.as_bytes-name.result.now c.contains_key.result c.self.invariant c.contains_key.ensures in
    search rules

pub returns-in-Ok-clause-said : goal.returns-in-Ok-clause-said
returns-in-Ok-clause-said c =
    let there = there_or_not c.self.inside.states.entries (dereferenced_assignments c.self.inside.said.items) c.as_bytes-name.result.now c.contains_key.result c.self.invariant c.contains_key.ensures in
    let pushed = ap dereferenced_assignments c.in_ok-push.ensures.items ∙ told-last c.self.inside.said.items c.args.assigned in
    search rules
