use Rattle.clean_plan.specs.Asked.{plan_inputs_of_cleaning}
use Rattle.clean_plan.specs.Plans.{entries_of_report_entries}
use Rattle.clean_plan.proofs.Planning.{plan-texts}
use Rattle.clean_plan.proofs.planned.planned_removal_paths.Goals as goal

pub returns : goal.returns
returns c =
    plan-texts (plan_inputs_of_cleaning c.args.cleaning.now) (entries_of_report_entries c.args.entries.now) c.in_ok-sifted.sifted c.deref.result.now c.in_ok-planned.planned c.in_ok-staying.staying c.in_ok-sifted.ensures
    c.deref.ensures.value c.in_ok-planned.ensures c.in_ok-staying.ensures (λ paths. paths.items) c.into_path_texts_except.result c.into_path_texts_except.ensures.same c.into_path_texts_except.ensures.ascends
