use Rattle.std.proofs.Common.{◌≡◌, length}
use Rattle.git_config_lite.specs.Texts.{without_leading_blanks}
use Rattle.git_config_lite.proofs.text.without_leading_blanks.Given as goal

abbrev pub invariant-loop-first : goal.invariant-loop-first
invariant-loop-first l = without_leading_blanks l.rest ≡ without_leading_blanks l.bytes

abbrev pub decreases-loop-first : goal.decreases-loop-first
decreases-loop-first l = length l.rest
