use Rattle.std.proofs.Common.{sym, ◌∙◌}
use Rattle.module_plan.proofs.Loaded.{known-late, text-given, which}
use Rattle.module_plan.proofs.program.plan_text_of_modules.Goals as goal

pub returns-in_ok-text_of_plan-in-Ok-clause-gives : goal.returns-in_ok-text_of_plan-in-Ok-clause-gives
returns-in_ok-text_of_plan-in-Ok-clause-gives g c = λ t told.
    text-given _ _ c.in-Ok.plan c.in_ok-text_of_plan-in-Ok.field-0 c.in-Ok.ensures.active (c.in-Ok.ensures.planned t told) c.in-Ok.ensures.ascends c.in_ok-text_of_plan-in-Ok.ensures

pub returns-in_ok-text_of_plan-in-Ok-clause-safe : goal.returns-in_ok-text_of_plan-in-Ok-clause-safe
returns-in_ok-text_of_plan-in-Ok-clause-safe g c = λ t told.
    record { plan = c.in-Ok.plan; is_plan = c.in-Ok.ensures.planned t told; safe = c.in-Ok.ensures.safe; open_way = c.in-Ok.ensures.open_way t told }

pub returns-in_ok-text_of_plan-in-Ok-clause-orderly : goal.returns-in_ok-text_of_plan-in-Ok-clause-orderly
returns-in_ok-text_of_plan-in-Ok-clause-orderly g c = λ tells. record {
  modules = c.args.modules.now;
  told_by = tells;
  plan = c.in-Ok.plan;
  possible = c.in-Ok.ensures.possible;
  ascends = c.in-Ok.ensures.ascends;
  safe = c.in-Ok.ensures.safe;
  text_is = c.in_ok-text_of_plan-in-Ok.ensures;
}

pub returns-in-Err-clause-late : goal.returns-in-Err-clause-late
returns-in-Err-clause-late g c = λ is.
    known-late _ _ _ _ c.args.ignore_case c.args.modules.now c.in-Err.error c.in-Err.ensures.refused (sym c.from.ensures ∙ which is)
