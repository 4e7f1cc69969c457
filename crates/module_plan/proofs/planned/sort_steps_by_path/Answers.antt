use Rattle.std.proofs.Common.{rules}
use Rattle.std.proofs.lemmas.List.Sorted.{answers_always}
use Rattle.module_plan.proofs.Ascending.{ascends-sorted, by_paths, is_before}
use Rattle.module_plan.proofs.planned.sort_steps_by_path.Goals as goal

pub returns-clause-ascends : goal.returns-clause-ascends
returns-clause-ascends c = λ distinct.
    ascends-sorted c.args.plan.steps.items c.sort_by.new.self.items c.in_ok-sort_by.ensures.permutation
    (c.in_ok-sort_by.ensures.sorted is_before by_paths (answers_always _ _ _ (λ f a r g h. search rules)))
    distinct
