use Rattle.std.specs.Prelude.{drop, option_copied}
use Rattle.diff_files.proofs.Steps.{IsAlong}
use Rattle.diff_files.proofs.answer.rows_of_entries.Given as goal

abbrev pub invariant-loop-entry : goal.invariant-loop-entry
invariant-loop-entry g l =
    IsAlong g.W.Worktree g.S.Stats l.fn.worktree l.worktree l.fn.stats l.stats l.root l.entries l.details l.comparison l.specs l.known l.rows.items
    (option_copied l.last) (drop l.entry-index l.entries) l.left
