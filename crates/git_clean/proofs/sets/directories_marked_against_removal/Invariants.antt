use Rattle.std.specs.Prelude.{◌≡◌, [], drop}
use Rattle.std.specs.List.{flat_map}
use Rattle.worktree_report.specs.SetupMeant.{insert_paths_in_order}
use Rattle.git_clean.specs.Directories.{directories_marked_by_entry}
use Rattle.git_clean.proofs.sets.directories_marked_against_removal.Given as goal

abbrev pub invariant-loop-entry : goal.invariant-loop-entry
invariant-loop-entry l =
    insert_paths_in_order l.directories.keys (flat_map (directories_marked_by_entry l.cleaning l.guards.keys) (drop l.entry-index l.found))
    ≡ insert_paths_in_order [] (flat_map (directories_marked_by_entry l.cleaning l.guards.keys) l.found)
