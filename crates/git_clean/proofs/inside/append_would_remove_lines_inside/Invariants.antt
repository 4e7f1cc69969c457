use Rattle.std.specs.Prelude.{◌≡◌, ◌++◌}
use Rattle.std.specs.List.{flat_map}
use Rattle.git_clean.specs.Lines.{line_of_path_in_directory, would_remove_lines_inside, would_remove_words}
use Rattle.git_clean.specs.Scenes.{scene_in_specification}
use Rattle.git_clean.proofs.inside.append_would_remove_lines_inside.Given as goal

abbrev pub invariant-loop-path : goal.invariant-loop-path
invariant-loop-path l =
    l.text.items ++ flat_map (line_of_path_in_directory (scene_in_specification l.scene) would_remove_words l.directory) l.path-iterator
    ≡ l.fn.text.items ++ would_remove_lines_inside (scene_in_specification l.scene) l.directory
