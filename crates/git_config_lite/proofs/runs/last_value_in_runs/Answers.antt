use Rattle.std.proofs.Common.{◌∙◌, option_copied}
use Rattle.git_config_lite.specs.Seen as seen
use Rattle.git_config_lite.proofs.Behind.{found-behind, not-behind}
use Rattle.git_config_lite.proofs.Shorter.{runs-before}
use Rattle.git_config_lite.proofs.runs.last_value_in_runs.Goals as goal

pub returns-in-Some-last_value_by_index : goal.returns-in-Some-last_value_by_index
returns-in-Some-last_value_by_index c =
    found-behind c.args.name.now (option_copied c.args.subsection) c.args.key.now _ c.loop-run.left.now c.split_at.result.0.now c.split_at.result.1.now c.split_at.ensures.front c.split_at.ensures.back
    (seen.found c.in-Some-last_value_by_index.found) c.in-Some-last_value_by_index.ensures
    ∙ c.loop-run.invariant.same

pub loop-run-preserved : goal.loop-run-preserved
loop-run-preserved c = record {
  indexed =
      runs-before c.loop-run.others.now c.in-Some.before.now c.in-Some.run'.now c.loop-run.left.now c.split_at.result.0.now c.in-Some.ensures.cases.0 c.split_at.ensures.front
      c.loop-run.invariant.indexed;
  same =
      not-behind c.args.name.now (option_copied c.args.subsection) c.args.key.now _ c.loop-run.left.now c.split_at.result.0.now c.split_at.result.1.now c.split_at.ensures.front c.split_at.ensures.back
      c.in_default-last_value_by_index.ensures
      ∙ c.loop-run.invariant.same;
}
