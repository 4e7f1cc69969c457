use Rattle.std.proofs.Common.{◌≡◌, Some, rules}
use Rattle.worktree_fs.specs.Memory.{tree_if_valid, is_next_call_planned_to_fail}
use Rattle.worktree_fs.specs.Told.{told_tree_is_valid}
use Rattle.worktree_fs.specs.declared.memory.plan.CallKind.TheVariants as calls
use Rattle.worktree_fs.proofs.Trees.Answered.{gone_of}
use Rattle.worktree_fs.proofs.memory.MemoryWorktreeWorktree.remove_node.Goals as goal

pub returns-clause-gone : goal.returns-clause-gone
returns-clause-gone c =
    let tree = c.args.self.now.tree in
    let told : tree_if_valid tree ≡ Some tree = search rules in
    gone_of tree c.args.path.now (told_tree_is_valid tree tree told) (is_next_call_planned_to_fail c.args.self.now calls.RemoveNode) c.remove_node_unless_planned_fault-answer.result c.remove_node_unless_planned_fault-answer.new.self.tree (search rules) (search rules)
