use Rattle.module_plan.specs.Wanted.{plan_input_of_configs}
use Rattle.module_plan.proofs.Sorted.{asked_with, asked-is, distinct-judged, planned-open, planned-possible, planned-safe, planned-told}
use Rattle.module_plan.proofs.planned.plan.Goals as goal

pub returns-clause-planned : goal.returns-clause-planned
returns-clause-planned g c = λ t told.
    planned-told (g.W.Worktree.told c.args.worktree.now) c.args.worktree_root.now
    (asked_with c.args.modules.now c.args.config.now c.in_ok-platform.platform) (plan_input_of_configs c.args.defaults.ignore_case c.args.modules.now c.args.config.now)
    (asked-is c.args.defaults.ignore_case c.args.modules.now c.args.config.now c.in_ok-platform.platform c.in_ok-platform.ensures.platform)
    c.in_ok-plan.plan c.in_ok-plan.ensures.judged c.in_ok-sort_steps_by_path.field-0 c.in_ok-sort_steps_by_path.ensures.same c.in_ok-sort_steps_by_path.ensures.skipped t told

pub returns-clause-possible : goal.returns-clause-possible
returns-clause-possible g c =
    planned-possible (g.W.Worktree.told c.args.worktree.now) c.args.worktree_root.now
    (asked_with c.args.modules.now c.args.config.now c.in_ok-platform.platform) (plan_input_of_configs c.args.defaults.ignore_case c.args.modules.now c.args.config.now)
    (asked-is c.args.defaults.ignore_case c.args.modules.now c.args.config.now c.in_ok-platform.platform c.in_ok-platform.ensures.platform)
    c.in_ok-plan.plan c.in_ok-plan.ensures.judged c.in_ok-sort_steps_by_path.field-0 c.in_ok-sort_steps_by_path.ensures.same c.in_ok-sort_steps_by_path.ensures.skipped

pub returns-clause-safe : goal.returns-clause-safe
returns-clause-safe g c =
    planned-safe (g.W.Worktree.told c.args.worktree.now) c.args.worktree_root.now
    (asked_with c.args.modules.now c.args.config.now c.in_ok-platform.platform) (plan_input_of_configs c.args.defaults.ignore_case c.args.modules.now c.args.config.now)
    (asked-is c.args.defaults.ignore_case c.args.modules.now c.args.config.now c.in_ok-platform.platform c.in_ok-platform.ensures.platform)
    c.in_ok-plan.plan c.in_ok-plan.ensures.judged c.in_ok-sort_steps_by_path.field-0 c.in_ok-sort_steps_by_path.ensures.same c.in_ok-sort_steps_by_path.ensures.skipped

pub returns-clause-ascends : goal.returns-clause-ascends
returns-clause-ascends g c =
    c.in_ok-sort_steps_by_path.ensures.ascends
    (distinct-judged (g.W.Worktree.told c.args.worktree.now) c.args.worktree_root.now
    (asked_with c.args.modules.now c.args.config.now c.in_ok-platform.platform) (plan_input_of_configs c.args.defaults.ignore_case c.args.modules.now c.args.config.now)
    (asked-is c.args.defaults.ignore_case c.args.modules.now c.args.config.now c.in_ok-platform.platform c.in_ok-platform.ensures.platform)
    c.in_ok-plan.plan c.in_ok-plan.ensures.judged)

pub returns-clause-open_way : goal.returns-clause-open_way
returns-clause-open_way g c = λ t told.
    planned-open (g.W.Worktree.told c.args.worktree.now) c.args.worktree_root.now
    (asked_with c.args.modules.now c.args.config.now c.in_ok-platform.platform) (plan_input_of_configs c.args.defaults.ignore_case c.args.modules.now c.args.config.now)
    (asked-is c.args.defaults.ignore_case c.args.modules.now c.args.config.now c.in_ok-platform.platform c.in_ok-platform.ensures.platform)
    c.in_ok-plan.plan c.in_ok-plan.ensures.judged c.in_ok-sort_steps_by_path.field-0 c.in_ok-sort_steps_by_path.ensures.same c.in_ok-sort_steps_by_path.ensures.skipped t told
