use Rattle.std.proofs.Common.{◌&&◌, Bool, is_some, ap, ◌∙◌}
use Rattle.gitbase_core.specs.Path.{is_empty}
use Rattle.glob_rules.specs.Rule.{is_empty_or_root_path, rest_without_separating_slash}
use Rattle.glob_rules.proofs.Fronts.{same_short, beneath_short, same_cut, beneath_cut}
use Rattle.glob_rules.proofs.pathspec.standing.rest_after_directory_bytes.Goals as goal

pub returns-then-path-dir-clause-same : goal.returns-then-path-dir-clause-same
returns-then-path-dir-clause-same c = same_short c.args.case c.args.dir.now c.args.path.now c.if-path-dir.true

pub returns-then-path-dir-clause-beneath : goal.returns-then-path-dir-clause-beneath
returns-then-path-dir-clause-beneath c = beneath_short c.args.case c.args.dir.now c.args.path.now c.if-path-dir.true

pub returns-then-is_equal_in_case_mode-clause-same : goal.returns-then-is_equal_in_case_mode-clause-same
returns-then-is_equal_in_case_mode-clause-same c =
    same_cut c.args.case c.args.dir.now c.args.path.now c.split_at.result.0.now c.split_at.result.1.now c.is_equal_in_case_mode.result c.if-path-dir.false c.split_at.ensures.front c.split_at.ensures.back c.is_equal_in_case_mode.ensures
    ∙ ap (λ (t : Bool). t && is_empty c.split_at.result.1.now) c.if-is_equal_in_case_mode.true

pub returns-then-is_equal_in_case_mode-clause-beneath : goal.returns-then-is_equal_in_case_mode-clause-beneath
returns-then-is_equal_in_case_mode-clause-beneath c =
    beneath_cut c.args.case c.args.dir.now c.args.path.now c.split_at.result.0.now c.split_at.result.1.now c.is_equal_in_case_mode.result c.if-path-dir.false c.split_at.ensures.front c.split_at.ensures.back c.is_equal_in_case_mode.ensures
    ∙ ap (λ (t : Bool). t && is_some (rest_without_separating_slash (is_empty_or_root_path c.args.dir.now) c.split_at.result.1.now)) c.if-is_equal_in_case_mode.true

pub returns-else-is_equal_in_case_mode-clause-same : goal.returns-else-is_equal_in_case_mode-clause-same
returns-else-is_equal_in_case_mode-clause-same c =
    same_cut c.args.case c.args.dir.now c.args.path.now c.split_at.result.0.now c.split_at.result.1.now c.is_equal_in_case_mode.result c.if-path-dir.false c.split_at.ensures.front c.split_at.ensures.back c.is_equal_in_case_mode.ensures
    ∙ ap (λ (t : Bool). t && is_empty c.split_at.result.1.now) c.if-is_equal_in_case_mode.false

pub returns-else-is_equal_in_case_mode-clause-beneath : goal.returns-else-is_equal_in_case_mode-clause-beneath
returns-else-is_equal_in_case_mode-clause-beneath c =
    beneath_cut c.args.case c.args.dir.now c.args.path.now c.split_at.result.0.now c.split_at.result.1.now c.is_equal_in_case_mode.result c.if-path-dir.false c.split_at.ensures.front c.split_at.ensures.back c.is_equal_in_case_mode.ensures
    ∙ ap (λ (t : Bool). t && is_some (rest_without_separating_slash (is_empty_or_root_path c.args.dir.now) c.split_at.result.1.now)) c.if-is_equal_in_case_mode.false
