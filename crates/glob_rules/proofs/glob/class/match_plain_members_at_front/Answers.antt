use Rattle.std.proofs.Common.{◌≡◌, true, length, drop, ap, sym, ◌∙◌, arith, length-drop}
use Rattle.glob_rules.specs.Step.{begins_with_plain_member}
use Rattle.glob_rules.proofs.Members.{after_plain_at, plain_some}
use Rattle.glob_rules.proofs.glob.class.match_plain_members_at_front.Goals as goal

pub loop-cases-preserved : goal.loop-cases-preserved
loop-cases-preserved c =
    let at = c.loop-cases in
    let plain : begins_with_plain_member (drop at.length c.args.bytes.now) ≡ true = ap begins_with_plain_member (sym c.bytes_from_offset.ensures) ∙ sym c.begins_with_plain_member.ensures.value ∙ c.loop-cases-test.true in
    record {
      within = omega (arith, plain_some (drop at.length c.args.bytes.now) plain, length-drop at.length c.args.bytes.now);
      same = λ listed read. at.invariant.same listed read
          ∙ after_plain_at c.args.cases.lower c.args.cases.upper c.args.bytes.now at.length listed at.has c.range_contains_either_case-has.result read
          plain c.range_contains_either_case-has.ensures;
    }
