use Rattle.std.proofs.Common.{length}
use Rattle.gitbase_core.specs.Path.{components}
use Rattle.dir_classify.specs.Layers.{setting_of_shared}
use Rattle.dir_walk.proofs.Roots.Rootward.{IsRootward}
use Rattle.dir_walk.proofs.root.refuse_link_in_root_components.Given as goal

abbrev pub invariant-loop-next : goal.invariant-loop-next
invariant-loop-next g l = IsRootward g.W.Worktree l.fn.worktree l.worktree (setting_of_shared g.M.Matcher l.shared) l.path l.way l.component_index l.rest

abbrev pub decreases-loop-next : goal.decreases-loop-next
decreases-loop-next g l = length (components l.rest)
