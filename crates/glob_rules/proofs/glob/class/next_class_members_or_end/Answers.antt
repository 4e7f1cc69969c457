use Rattle.std.proofs.Common.{List, ℕ, false, subst}
use Rattle.glob_rules.specs.declared.glob.class.MemberStep.TheVariants.{Holds}
use Rattle.glob_rules.specs.Step.{IsSoundMemberStep}
use Rattle.glob_rules.proofs.Members.{after_more}
use Rattle.glob_rules.proofs.glob.class.next_class_members_or_end.Goals as goal

pub returns-in-Holds-clause-tells : goal.returns-in-Holds-clause-tells
returns-in-Holds-clause-tells c =
    let more = c.match_plain_members_at_front-more in
    after_more c.args.cases.lower c.args.cases.upper c.args.first c.args.bytes.now c.in-Holds.found more.result c.in-Holds.ensures.tells
    (subst (λ (l : List ℕ). IsSoundMemberStep c.args.cases.lower c.args.cases.upper false l (Holds more.result)) c.bytes_from_offset-rest.ensures more.ensures.tells)
