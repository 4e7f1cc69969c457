use Rattle.std.proofs.Common.{◌≡◌, length}
use Rattle.command_line.specs.Steps.{step_of_letters}
use Rattle.command_line.proofs.step.step_of_letters.Given as goal

abbrev pub invariant-loop-letter : goal.invariant-loop-letter
invariant-loop-letter l = step_of_letters l.verb l.rest l.said ≡ step_of_letters l.verb l.text l.fn.draft

abbrev pub decreases-loop-letter : goal.decreases-loop-letter
decreases-loop-letter l = length l.rest
