use Rattle.std.proofs.Common.{◌∙◌, ap, sym, Some, arith}
use Rattle.worktree_fs.specs.Tree.{Node}
use Rattle.worktree_fs.specs.Grow.{entries_of_node_if_directory}
use Rattle.worktree_fs.specs.Stored.{named_nodes_of_entries, tree_node_of_inner}
use Rattle.worktree_fs.proofs.Routes.Ways.{nth_node, nth_none, dir_of_other, no_directory}
use Rattle.worktree_fs.proofs.memory.trace.entries_of_child_directory.Goals as goal

pub returns-then-dir-at-clause-names : goal.returns-then-dir-at-clause-names
returns-then-dir-at-clause-names c = sym (dir_of_other (named_nodes_of_entries c.args.dir.now) c.args.at (nth_none c.args.dir.now c.args.at c.if-dir-at.true))

pub returns-in-Directory-clause-names : goal.returns-in-Directory-clause-names
returns-in-Directory-clause-names c =
    ap named_nodes_of_entries c.deref.ensures.value
    ∙ sym (ap (λ (n : Node). entries_of_node_if_directory (Some n)) (
    nth_node c.args.dir.now c.args.at c.index-dir-at.result (omega (arith, c.if-dir-at.false))
    ∙ sym c.inner.ensures.node ∙ ap tree_node_of_inner c.in-Directory.is))

pub returns-in_default-clause-names : goal.returns-in_default-clause-names
returns-in_default-clause-names c =
    sym (ap (λ (n : Node). entries_of_node_if_directory (Some n)) (
    nth_node c.args.dir.now c.args.at c.index-dir-at.result (omega (arith, c.if-dir-at.false))
    ∙ sym c.inner.ensures.node)
    ∙ no_directory c.inner.result.now (λ entries is. c.in_default.not-Directory entries is))
