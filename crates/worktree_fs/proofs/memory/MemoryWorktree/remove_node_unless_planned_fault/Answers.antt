use Rattle.std.proofs.Common.{false, sym, subst}
use Rattle.worktree_fs.specs.Tree.{resolution_of_path}
use Rattle.worktree_fs.specs.Composed.{EntriesHaveComposedNames}
use Rattle.worktree_fs.proofs.Trees.KeptNames.{kept-after_remove}
use Rattle.worktree_fs.proofs.memory.MemoryWorktree.remove_node_unless_planned_fault.Goals as goal

pub invariant_of-self : goal.invariant_of-self
invariant_of-self c =
    let composes = c.self.inside.composes in
    let root = c.self.inside.root in
    subst (EntriesHaveComposedNames composes) (sym c.remove.ensures.removed) (kept-after_remove composes root (resolution_of_path root c.args.path.now false) c.self.invariant)
