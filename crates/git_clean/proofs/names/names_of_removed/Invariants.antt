use Rattle.std.specs.Prelude.{◌≡◌, drop}
use Rattle.worktree_report.specs.SetupMeant.{insert_paths_in_order}
use Rattle.git_clean.specs.Places.{names_of_removed, removal_names_of_entries}
use Rattle.git_clean.specs.Scenes.{scene_in_specification}
use Rattle.git_clean.proofs.names.names_of_removed.Given as goal

abbrev pub invariant-loop-entry : goal.invariant-loop-entry
invariant-loop-entry l =
    insert_paths_in_order l.names.keys (removal_names_of_entries (scene_in_specification l.scene) (drop l.entry-index l.scene.found.now)) ≡ names_of_removed (scene_in_specification l.scene)
