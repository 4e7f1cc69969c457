use Rattle.std.proofs.Common.{◌≡◌, Some, subst}
use Rattle.worktree_fs.specs.Memory.{MemoryWorktreeModel, tree_if_valid}
use Rattle.worktree_fs.proofs.Trees.Tested.{told_some}
use Rattle.worktree_fs.proofs.memory.MemoryWorktree.assert_tree_is_valid.Goals as goal

pub returns : goal.returns
returns c = subst (λ (m : MemoryWorktreeModel). tree_if_valid m.tree ≡ Some m.tree) c.self.view_is (told_some c.self.inside.root c.entries-entries.ensures.tree)
