use Rattle.index_status.proofs.Alongside.{reads-row}
use Rattle.index_status.proofs.compare.add_row_unless_path_repeats.Goals as goal

pub returns-clause-read : goal.returns-clause-read
returns-clause-read g c =
    reads-row (g.W.Worktree.reads c.args.worktree.now) (g.W.Worktree.reads c.state_of_index_entry.new.worktree) c.args.made.items c.in_ok-rows_with_one_pushed.field-0.items c.args.entry.now.path
    c.in_ok-state.state c.in_ok-state.ensures.read c.in_ok-rows_with_one_pushed.ensures
