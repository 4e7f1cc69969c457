use Rattle.std.proofs.Common.{Bool, false, ℕ, length, drop, ◌≡◌, ◌+◌, ◌-◌, ◌≤◌, ◌||◌, option_map}
use Rattle.glob_rules.specs.Class.{class_members_after_skip}
use Rattle.glob_rules.specs.Step.{found_after_earlier_members}
use Rattle.glob_rules.proofs.glob.class.match_plain_members_at_front.Given as goal

abbrev pub invariant-loop-cases : goal.invariant-loop-cases
invariant-loop-cases l = record {
  within : l.length ≤ length l.bytes;
  same : (listed : Bool) (read : ℕ) → option_map (found_after_earlier_members l.cases.lower l.cases.upper listed read) (class_members_after_skip 0 false l.bytes) ≡
      option_map (found_after_earlier_members l.cases.lower l.cases.upper (listed || l.has) (read + l.length)) (class_members_after_skip 0 false (drop l.length l.bytes));
}

abbrev pub decreases-loop-cases : goal.decreases-loop-cases
decreases-loop-cases l = length l.bytes - l.length
