use Rattle.std.proofs.Common.{length, ◌≡◌, ◌==◌}
use Rattle.std.specs.List.{slice_split}
use Rattle.glob_rules.specs.Marks.{comma}
use Rattle.git_setup.specs.Placed.{has_word}
use Rattle.git_setup.proofs.placed.is_among_comma_words.Given as goal

abbrev pub invariant-loop-word : goal.invariant-loop-word
invariant-loop-word l = has_word l.word (slice_split (λ b. b == comma) l.left) ≡ has_word l.word (slice_split (λ b. b == comma) l.words)

abbrev pub decreases-loop-word : goal.decreases-loop-word
decreases-loop-word l = length l.left
