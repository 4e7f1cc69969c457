use Rattle.dir_walk.proofs.Places.Standing.{IsPlaced-at, standing-at}
use Rattle.dir_walk.proofs.place.Place.from_root_and_path.Goals as goal

pub invariant_of-result : goal.invariant_of-result
invariant_of-result c = rw (c.in_ok-whole.ensures, c.start_of_relative_path.ensures) (IsPlaced-at c.args.worktree_root.now c.args.path.now c.requires.normal c.requires.plain c.requires.spelled)

pub returns : goal.returns
returns c = rw (c.in_ok-whole.ensures, c.start_of_relative_path.ensures) (standing-at c.args.worktree_root.now c.args.path.now c.requires.normal c.requires.plain c.requires.spelled)
