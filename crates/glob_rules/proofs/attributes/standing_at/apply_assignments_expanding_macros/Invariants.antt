use Rattle.std.proofs.Common.{◌≡◌, ◌+◌, reverse, length}
use Rattle.glob_rules.specs.Standing.{standing_after_assignments}
use Rattle.glob_rules.proofs.Sayings.{unsaid}
use Rattle.glob_rules.proofs.attributes.standing_at.apply_assignments_expanding_macros.Given as goal

abbrev pub invariant-loop-assigned : goal.invariant-loop-assigned
invariant-loop-assigned l = standing_after_assignments l.sources l.standing l.left ≡ standing_after_assignments l.sources l.fn.standing (reverse l.words)

abbrev pub decreases-loop-assigned : goal.decreases-loop-assigned
decreases-loop-assigned l = unsaid (λ body. length body) l.standing (reverse l.sources) + length l.left
