use Rattle.std.proofs.Common.{length, ◌≡◌, ◌+◌, ◌≤◌, ◌==◌}
use Rattle.std.specs.List.{slice_split}
use Rattle.glob_rules.specs.Marks.{comma}
use Rattle.glob_rules.specs.PathSpecText.{signature_with_magic_words}
use Rattle.glob_rules.proofs.pathspec.parse.signature_with_magic_words.Given as goal

abbrev pub invariant-loop-more : goal.invariant-loop-more
invariant-loop-more l = record {
  within : l.at + length l.left ≤ 2 + length l.words;
  same : signature_with_magic_words l.at l.now (slice_split (λ b. b == comma) l.left) ≡ signature_with_magic_words 2 l.fn.said (slice_split (λ b. b == comma) l.words);
}

abbrev pub decreases-loop-more : goal.decreases-loop-more
decreases-loop-more l = length l.left
