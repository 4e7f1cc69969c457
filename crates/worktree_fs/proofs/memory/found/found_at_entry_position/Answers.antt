use Rattle.std.proofs.Common.{◌∙◌, ap, sym, arith}
use Rattle.worktree_fs.specs.Tree.{found}
use Rattle.worktree_fs.proofs.Routes.Ways.{nth_node, nth_none}
use Rattle.worktree_fs.proofs.memory.found.found_at_entry_position.Goals as goal

pub returns-then-dir-at-clause-leads : goal.returns-then-dir-at-clause-leads
returns-then-dir-at-clause-leads c = sym (ap found (nth_none c.args.dir.now c.args.at c.if-dir-at.true))

pub returns-clause-leads : goal.returns-clause-leads
returns-clause-leads c =
    c.found_of_stored_node.ensures.leads ∙ ap found (sym (nth_node c.args.dir.now c.args.at c.index-dir-at.result (omega (arith, c.if-dir-at.false))))
