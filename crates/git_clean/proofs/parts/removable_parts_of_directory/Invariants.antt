use Rattle.std.specs.Prelude.{◌≡◌, drop}
use Rattle.worktree_report.specs.SetupMeant.{insert_paths_in_order}
use Rattle.git_clean.specs.Parts.{removable_parts_of_directory, removable_parts_of_entries}
use Rattle.git_clean.specs.Scenes.{scene_in_specification}
use Rattle.git_clean.proofs.parts.removable_parts_of_directory.Given as goal

abbrev pub invariant-loop-entry : goal.invariant-loop-entry
invariant-loop-entry l =
    insert_paths_in_order l.parts.keys (removable_parts_of_entries (scene_in_specification l.scene) l.directory (drop l.entry-index l.scene.found.now)) ≡ removable_parts_of_directory (scene_in_specification l.scene) l.directory
