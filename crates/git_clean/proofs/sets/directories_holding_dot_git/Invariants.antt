use Rattle.std.specs.Prelude.{◌≡◌, [], drop}
use Rattle.std.specs.List.{flat_map}
use Rattle.worktree_report.specs.SetupMeant.{insert_paths_in_order}
use Rattle.git_clean.specs.Directories.{parent_of_dot_git_entry}
use Rattle.git_clean.proofs.sets.directories_holding_dot_git.Given as goal

abbrev pub invariant-loop-entry : goal.invariant-loop-entry
invariant-loop-entry l =
    insert_paths_in_order l.directories.keys (flat_map parent_of_dot_git_entry (drop l.entry-index l.found)) ≡ insert_paths_in_order [] (flat_map parent_of_dot_git_entry l.found)
