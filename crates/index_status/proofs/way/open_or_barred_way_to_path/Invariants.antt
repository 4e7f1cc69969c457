use Rattle.gitbase_core.specs.Path.{components}
use Rattle.index_status.proofs.Wayside.{IsOn}
use Rattle.index_status.proofs.way.open_or_barred_way_to_path.Given as goal

abbrev pub invariant-loop-next : goal.invariant-loop-next
invariant-loop-next g l = IsOn g.W.Worktree l.fn.worktree l.worktree l.root l.path l.known.barred l.full l.name l.next-iterator (components l.left)
