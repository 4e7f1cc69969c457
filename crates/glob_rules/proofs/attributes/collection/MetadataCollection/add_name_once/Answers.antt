use Rattle.std.proofs.Common.{rules}
use Rattle.glob_rules.proofs.SeenNames.{there_or_not, same-more}
use Rattle.glob_rules.proofs.attributes.collection.MetadataCollection.add_name_once.Goals as goal
use Rattle.glob_rules.proofs.attributes.collection.MetadataCollection.add_name_once.Goals.{in-Ok, in-Err}

pub returns-then-contains-clause-seen : goal.returns-then-contains-clause-seen
returns-then-contains-clause-seen c =
    let there = there_or_not c.self.inside.sorted.keys c.self.inside.names.items c.args.name.now c.contains.result c.self.invariant c.contains.ensures in
    search rules

pub invariant_of-self-in-Ok : goal.invariant_of-self-in-Ok
invariant_of-self-in-Ok c = λ name.
    let same = same-more c.self.inside.sorted.keys c.self.inside.names.items c.in_ok-key.key c.self.invariant name in
    search rules

pub returns-clause-seen : goal.returns-clause-seen
returns-clause-seen c =
    let there = there_or_not c.self.inside.sorted.keys c.self.inside.names.items c.args.name.now c.contains.result c.self.invariant c.contains.ensures in
    elim c.match-insert.branch [ in-Ok w ↦ search rules | in-Err w ↦ search rules ]
