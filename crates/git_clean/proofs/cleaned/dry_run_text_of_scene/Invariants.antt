use Rattle.std.specs.Prelude.{◌≡◌, ◌++◌}
use Rattle.std.specs.List.{flat_map}
use Rattle.git_clean.specs.Lines.{removal_lines_of_name, text}
use Rattle.git_clean.specs.Scenes.{scene_in_specification}
use Rattle.git_clean.proofs.cleaned.dry_run_text_of_scene.Given as goal

abbrev pub invariant-loop-name : goal.invariant-loop-name
invariant-loop-name l = l.text.items ++ flat_map (removal_lines_of_name (scene_in_specification l.scene)) l.name-iterator ≡ text (scene_in_specification l.scene)
