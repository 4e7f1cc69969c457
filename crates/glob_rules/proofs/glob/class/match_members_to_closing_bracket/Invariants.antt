use Rattle.std.proofs.Common.{length, ◌≡◌, ◌+◌, option_map, true}
use Rattle.glob_rules.specs.Class.{class_members_after_skip}
use Rattle.glob_rules.specs.Step.{OpensNoPosixNameBefore, found_in_members, found_after_earlier_members}
use Rattle.glob_rules.proofs.glob.class.match_members_to_closing_bracket.Given as goal

abbrev pub invariant-loop-rest : goal.invariant-loop-rest
invariant-loop-rest l = record {
  within : l.read + length l.rest ≡ length l.bytes;
  plain : OpensNoPosixNameBefore l.known l.rest;
  same : option_map (found_after_earlier_members l.cases.lower l.cases.upper l.listed l.read) (class_members_after_skip 0 l.first l.rest) ≡ option_map (found_in_members l.cases.lower l.cases.upper) (class_members_after_skip 0 true l.bytes);
}

abbrev pub decreases-loop-rest : goal.decreases-loop-rest
decreases-loop-rest l = length l.rest
