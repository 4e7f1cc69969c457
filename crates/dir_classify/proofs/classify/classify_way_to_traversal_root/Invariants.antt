use Rattle.std.proofs.Common.{length}
use Rattle.gitbase_core.specs.Path.{components}
use Rattle.dir_classify.specs.Layers.{setting_of_shared}
use Rattle.dir_classify.proofs.Onward.{IsOnward}
use Rattle.dir_classify.proofs.classify.classify_way_to_traversal_root.Given as goal

abbrev pub invariant-loop-next : goal.invariant-loop-next
invariant-loop-next g l =
    IsOnward g.W.Worktree g.F.Find l.fn.worktree l.worktree l.fn.objects l.objects l.fn.excludes l.excludes (setting_of_shared g.M.Matcher l.fn.shared) l.fn.worktree_relative_root l.path l.class
    l.in_repository l.rest

abbrev pub decreases-loop-next : goal.decreases-loop-next
decreases-loop-next g l = length (components l.rest)
