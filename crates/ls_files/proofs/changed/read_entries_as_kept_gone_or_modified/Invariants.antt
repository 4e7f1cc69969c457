use Rattle.std.specs.Prelude.{drop, option_copied}
use Rattle.ls_files.proofs.Along.{IsAlong}
use Rattle.ls_files.proofs.changed.read_entries_as_kept_gone_or_modified.Given as goal

abbrev pub invariant-loop-entry : goal.invariant-loop-entry
invariant-loop-entry g l =
    IsAlong g.W.Worktree g.S.Stats l.fn.worktree l.worktree l.fn.stats l.stats l.query.root.now l.entries l.details l.query.comparison.now l.query.standings l.query.listing.now l.query.named.now l.query.specs.now l.shown.items
    (option_copied l.last) (drop l.entry-index l.entries) l.left
