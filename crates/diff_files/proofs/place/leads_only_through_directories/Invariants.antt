use Rattle.std.proofs.Common.{length}
use Rattle.gitbase_core.specs.Path.{components}
use Rattle.diff_files.proofs.Steps.{IsLeading}
use Rattle.diff_files.proofs.place.leads_only_through_directories.Given as goal

abbrev pub invariant-loop-name : goal.invariant-loop-name
invariant-loop-name g l = IsLeading g.S.Stats l.fn.stats l.stats l.root l.directory l.full l.left

abbrev pub decreases-loop-name : goal.decreases-loop-name
decreases-loop-name g l = length (components l.left)
