use Rattle.worktree_report.proofs.Generated.{tracked_paths-more, tracked_paths-none}
use Rattle.std.proofs.Common.{rules}
use Rattle.worktree_report.proofs.generate.tracked_paths_of_file_count.Goals as goal

pub loop-number-init : goal.loop-number-init
loop-number-init c = search (rules, tracked_paths-none)

pub loop-number-preserved : goal.loop-number-preserved
loop-number-preserved c = tracked_paths-more c.loop-number.number _ _ c.loop-number.invariant c.in_ok-insert_path_if_tracked.ensures
