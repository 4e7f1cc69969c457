use Rattle.std.specs.Prelude.{◌≡◌, drop}
use Rattle.std.specs.List.{flat_map}
use Rattle.worktree_report.specs.SetupMeant.{insert_paths_in_order}
use Rattle.git_clean.specs.Directories.{directories_above_if_entry_kept, current_directory_and_parents}
use Rattle.git_clean.proofs.sets.directories_that_must_stay.Given as goal

abbrev pub invariant-loop-entry : goal.invariant-loop-entry
invariant-loop-entry l =
    insert_paths_in_order l.directories.keys (flat_map (directories_above_if_entry_kept l.cleaning) (drop l.entry-index l.found))
    ≡ insert_paths_in_order (current_directory_and_parents l.prefix) (flat_map (directories_above_if_entry_kept l.cleaning) l.found)
