use Rattle.std.specs.Prelude.{◌≡◌, ◌++◌, take}
use Rattle.std.specs.List.{flat_map}
use Rattle.git_clean.specs.Lines.{line_if_repository_skipped}
use Rattle.git_clean.specs.Scenes.{scene_in_specification}
use Rattle.git_clean.proofs.inside.append_skipped_repository_lines.Given as goal

abbrev pub invariant-loop-entry : goal.invariant-loop-entry
invariant-loop-entry l =
    l.text.items ≡ l.fn.text.items ++ flat_map (line_if_repository_skipped (scene_in_specification l.scene) l.directory) (take l.entry-index l.scene.found.now)
