use Rattle.std.proofs.Common.{◌≡◌, Some, drop}
use Rattle.worktree_fs.specs.Kept.{KeepsTreeAndListCounts}
use Rattle.worktree_fs.specs.Tree.{Names}
use Rattle.check_ignore.specs.Checked.{append_answers_of_paths, empty_answer}
use Rattle.check_ignore.proofs.answer.combined_answer_of_asked_paths.Given as goal

abbrev pub invariant-loop-one : goal.invariant-loop-one
invariant-loop-one g l =
    record {
      same : (t : Names) → g.W.Worktree.told l.fn.worktree ≡ Some t
          → append_answers_of_paths t l.root l.index l.outer l.checking l.done (drop l.one-index l.asked) ≡ append_answers_of_paths t l.root l.index l.outer l.checking empty_answer l.asked;
      unfaulted : g.W.Worktree.faults l.worktree ≡ g.W.Worktree.faults l.fn.worktree;
      keeps : KeepsTreeAndListCounts g.W.Worktree l.fn.worktree l.worktree;
    }
