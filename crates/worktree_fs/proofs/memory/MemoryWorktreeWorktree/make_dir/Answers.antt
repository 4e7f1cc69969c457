use Rattle.std.proofs.Common.{◌≡◌, Some, rules}
use Rattle.worktree_fs.specs.Memory.{tree_if_valid}
use Rattle.worktree_fs.specs.Told.{told_tree_is_valid}
use Rattle.worktree_fs.proofs.Trees.Answered.{inside_of}
use Rattle.worktree_fs.proofs.memory.MemoryWorktreeWorktree.make_dir.Goals as goal

pub returns-clause-inside : goal.returns-clause-inside
returns-clause-inside c =
    let tree = c.args.self.now.tree in
    let told : tree_if_valid tree ≡ Some tree = search rules in
    inside_of c.args.self.now.composes tree c.args.path.now (told_tree_is_valid tree tree told) c.make_dir_unless_planned_fault-answer.result (search rules)
