use Rattle.std.proofs.Common.{◌≡◌, ◌++◌, reverse, length}
use Rattle.glob_rules.specs.Standing.{reversed_words_of_slices}
use Rattle.glob_rules.proofs.attributes.left.Left.take.Given as goal

abbrev pub invariant-loop-assigned : goal.invariant-loop-assigned
invariant-loop-assigned l = reverse l.self-inside.words.now ++ reversed_words_of_slices l.self-inside.pending.items ≡ l.fn.self

abbrev pub decreases-loop-assigned : goal.decreases-loop-assigned
decreases-loop-assigned l = length l.self-inside.pending.items
