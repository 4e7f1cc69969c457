use Rattle.std.proofs.Common.{subst}
use Rattle.worktree_fs.specs.Tree.{Names, directory}
use Rattle.worktree_fs.specs.Naming.{IsValidTree}
use Rattle.worktree_fs.proofs.Trees.Sorted.{sorted_tree}
use Rattle.worktree_fs.proofs.memory.root.Root.entries.Goals as goal

pub returns-clause-tree : goal.returns-clause-tree
returns-clause-tree c = subst (λ (n : Names). IsValidTree (directory n)) c.self.view_is (sorted_tree c.self.inside.entries.items c.self.invariant.0)
