use Rattle.std.proofs.Common.{◌≡◌, Some, drop, map}
use Rattle.worktree_fs.specs.Kept.{KeepsTreeAndListCounts}
use Rattle.worktree_fs.specs.Tree.{Names}
use Rattle.check_ignore.specs.Checked.{empty_answer}
use Rattle.check_ignore.specs.Input.{append_answers_of_lines}
use Rattle.check_ignore.proofs.each_path.combined_answer_of_input_lines.Given as goal

abbrev pub invariant-loop-line : goal.invariant-loop-line
invariant-loop-line g l =
    record {
      same : (t : Names) → g.W.Worktree.told l.fn.worktree ≡ Some t
          → append_answers_of_lines t l.context.root.now l.context.prefix.now l.context.index.now l.context.outer.now l.context.checking.now l.done (map (λ line. line.now) (drop l.line-index l.lines))
          ≡ append_answers_of_lines t l.context.root.now l.context.prefix.now l.context.index.now l.context.outer.now l.context.checking.now empty_answer (map (λ line. line.now) l.lines);
      unfaulted : g.W.Worktree.faults l.worktree ≡ g.W.Worktree.faults l.fn.worktree;
      keeps : KeepsTreeAndListCounts g.W.Worktree l.fn.worktree l.worktree;
    }
