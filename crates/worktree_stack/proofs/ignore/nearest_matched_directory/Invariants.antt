use Rattle.std.proofs.Common.{◌≡◌, ◌≤◌, reverse, length, take}
use Rattle.worktree_stack.specs.Excludes.{first_present_decision}
use Rattle.worktree_stack.proofs.ignore.nearest_matched_directory.Given as goal

-- none of the directories after those still to be asked has a match
abbrev pub invariant-loop-at : goal.invariant-loop-at
invariant-loop-at l = record {
  within : l.at ≤ length l.matches;
  none_later : first_present_decision (reverse (take l.at l.matches)) ≡ first_present_decision (reverse l.matches);
}

abbrev pub decreases-loop-at : goal.decreases-loop-at
decreases-loop-at l = l.at
