use Rattle.std.proofs.Common.{◌≡◌, drop}
use Rattle.check_ignore.specs.Tracked.{refuse_paths_in_submodules}
use Rattle.check_ignore.proofs.tracked.refuse_paths_in_submodules.Given as goal

abbrev pub invariant-loop-entry : goal.invariant-loop-entry
invariant-loop-entry l = refuse_paths_in_submodules l.asked (drop l.entry-index l.index) ≡ refuse_paths_in_submodules l.asked l.index
