use Rattle.std.proofs.Common.{◌≡◌, ◌++◌, map}
use Rattle.worktree_report.specs.Generate.{index_entry_of_path, tracked_paths_of_file_count}
use Rattle.worktree_report.proofs.generate.index_of_file_count.Given as goal

abbrev pub invariant-loop-path : goal.invariant-loop-path
invariant-loop-path l = l.entries.items ++ map index_entry_of_path l.path-iterator ≡ map index_entry_of_path (tracked_paths_of_file_count l.count)
