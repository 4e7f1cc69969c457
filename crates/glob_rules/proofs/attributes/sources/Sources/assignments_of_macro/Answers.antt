use Rattle.std.proofs.Common.{rules}
use Rattle.glob_rules.proofs.Bodies.{body_of-both}
use Rattle.glob_rules.proofs.attributes.sources.Sources.assignments_of_macro.Goals as goal

pub returns-in-Some : goal.returns-in-Some
returns-in-Some c =
    let both = body_of-both c.args.name.now c.self.inside.globals.now c.self.inside.stack.now in
    search rules

pub returns-in-None : goal.returns-in-None
returns-in-None c =
    let both = body_of-both c.args.name.now c.self.inside.globals.now c.self.inside.stack.now in
    search rules
