use Rattle.std.proofs.Common.{ap, ◌∙◌}
use Rattle.git_clean.specs.declared.scene.Scene.{Scene}
use Rattle.git_clean.specs.Lines.{would_remove_lines_inside, skipped_repository_lines}
use Rattle.git_clean.specs.Scenes.{scene_in_specification}
use Rattle.git_clean.proofs.Near.{parts-near, skips-near}
use Rattle.git_clean.proofs.inside.scene_narrowed_to_directory_if_sorted.Goals as goal

pub returns-clause-skips : goal.returns-clause-skips
returns-clause-skips c =
    ap (λ (s : Scene). skipped_repository_lines (scene_in_specification s) c.args.directory.now) c.with_report_entries.ensures
    ∙ skips-near (scene_in_specification c.args.scene.now) c.args.directory.now c.in_ok-found.found.now c.in_ok-found.ensures

pub returns-clause-parts : goal.returns-clause-parts
returns-clause-parts c =
    ap (λ (s : Scene). would_remove_lines_inside (scene_in_specification s) c.args.directory.now) c.with_report_entries.ensures
    ∙ parts-near (scene_in_specification c.args.scene.now) c.args.directory.now c.in_ok-found.found.now c.in_ok-found.ensures
