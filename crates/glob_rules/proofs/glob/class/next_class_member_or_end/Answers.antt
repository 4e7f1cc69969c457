use Rattle.std.proofs.Common.{ap, ◌∙◌}
use Rattle.glob_rules.specs.Class.{class_members_after_skip}
use Rattle.glob_rules.proofs.Members.{closes, no_member, a_member, open_from}
use Rattle.glob_rules.proofs.glob.class.next_class_member_or_end.Goals as goal

pub returns-then-not-first-clause-tells : goal.returns-then-not-first-clause-tells
returns-then-not-first-clause-tells c = ap (λ first. class_members_after_skip 0 first c.args.bytes.now) c.if-not-first.true ∙ closes c.args.bytes.now c.requires.some c.if-bytes-eq93.true

pub returns-in-None-clause-tells : goal.returns-in-None-clause-tells
returns-in-None-clause-tells c =
    no_member c.args.cases.lower c.args.cases.upper c.args.first c.args.bytes.now (open_from c.args.first c.args.bytes.now c.else-bytes-eq93.either) c.in-None.ensures.value

pub returns-in-Some-clause-tells : goal.returns-in-Some-clause-tells
returns-in-Some-clause-tells c =
    a_member c.args.cases.lower c.args.cases.upper c.args.first c.args.bytes.now c.in-Some.found (open_from c.args.first c.args.bytes.now c.else-bytes-eq93.either)
    c.in-Some.ensures.within.0 c.requires.some c.in-Some.ensures.value
