use Rattle.std.proofs.Common.{◌≡◌, length}
use Rattle.git_places.specs.Head.{without_leading_blanks}
use Rattle.git_places.proofs.head.without_leading_blanks.Given as goal

abbrev pub invariant-loop-first : goal.invariant-loop-first
invariant-loop-first l = without_leading_blanks l.rest ≡ without_leading_blanks l.text

abbrev pub decreases-loop-first : goal.decreases-loop-first
decreases-loop-first l = length l.rest
