use Rattle.std.proofs.Common.{◌≡◌, ◌-◌, drop, length}
use Rattle.worktree_stack.specs.Excludes.{first_excluding_decision}
use Rattle.worktree_stack.proofs.ignore.first_excluding_directory.Given as goal

-- none of the directories before those still to be asked excludes
abbrev pub invariant-loop-at : goal.invariant-loop-at
invariant-loop-at l = record {
  none_before : first_excluding_decision (drop l.at l.matches) ≡ first_excluding_decision l.matches;
}

abbrev pub decreases-loop-at : goal.decreases-loop-at
decreases-loop-at l = length l.matches - l.at
