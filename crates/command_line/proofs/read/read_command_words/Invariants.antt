use Rattle.std.proofs.Common.{◌≡◌, length}
use Rattle.command_line.specs.Readings.{read_remaining_words, read_command_words}
use Rattle.command_line.proofs.read.read_command_words.Given as goal

abbrev pub invariant-loop-word : goal.invariant-loop-word
invariant-loop-word l = read_remaining_words l.verb l.rest l.draft l.next l.paths.items l.rules ≡ read_command_words l.verb l.words

abbrev pub decreases-loop-word : goal.decreases-loop-word
decreases-loop-word l = length l.rest
