use Rattle.std.proofs.Common.{◌∙◌, ap, ℕ, List}
use Rattle.std.proofs.lemmas.Result.{err_from_is_err_and}
use Rattle.dir_classify.specs.Layers.{current_directory_in_worktree}
use Rattle.clean_plan.specs.Plans.{entries_of_report_entries}
use Rattle.clean_plan.specs.Setups.{plan_inputs_of_setup, traversal_root_relative_to_work_tree}
use Rattle.clean_plan.proofs.Safely.{plan-spared}
use Rattle.clean_plan.proofs.by_setup.plan_wanted_by_report.Goals as goal

pub returns : goal.returns
returns g c =
    let below = c.in_ok-current.ensures in
    record {
      asks = below.keeps;
      reads = below.reads;
      by_report = record {
        current = c.in_ok-current.current;
        current_is = λ t told. below.below t told ∙ ap (λ (cwd : List ℕ). current_directory_in_worktree t c.args.worktree_root.now cwd) c.current_dir_or_work_tree_root-current_dir.ensures;
        plan_is = c.in_ok-plan_by_report_and_current_dir.ensures;
      };
      spares =
          plan-spared (plan_inputs_of_setup c.args.wanted c.args.setup.now (traversal_root_relative_to_work_tree c.args.worktree_root.now c.args.report.now.root) c.in_ok-current.current)
          (entries_of_report_entries c.args.report.now.entries) c.in_ok-plan_by_report_and_current_dir.field-0.paths.items c.in_ok-plan_by_report_and_current_dir.ensures;
      refused = tt;
      unfaulted = below.unfaulted;
    }

pub returns-in_err-current : goal.returns-in_err-current
returns-in_err-current g c =
    let p = err_from_is_err_and c.from_residual.result c.from_residual.ensures.1 in
    let below = c.in_err-current.ensures in
    rw (p.1, p.2)
    (record { asks = below.keeps; reads = below.reads; by_report = tt; spares = tt; refused = below.refused; unfaulted = below.unfaulted })

pub returns-in_err-plan_by_report_and_current_dir : goal.returns-in_err-plan_by_report_and_current_dir
returns-in_err-plan_by_report_and_current_dir g c =
    let p = err_from_is_err_and c.from_residual-in_err-plan_by_report_and_current_dir.result c.from_residual-in_err-plan_by_report_and_current_dir.ensures.1 in
    let below = c.in_ok-current.ensures in
    rw (p.1, p.2)
    (record { asks = below.keeps; reads = below.reads; by_report = tt; spares = tt; refused = tt; unfaulted = below.unfaulted })
