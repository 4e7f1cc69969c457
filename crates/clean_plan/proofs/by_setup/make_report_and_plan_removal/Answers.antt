use Rattle.std.proofs.lemmas.Result.{err_from_is_err_and}
use Rattle.clean_plan.proofs.Made.{plan-by, plan-refused}
use Rattle.clean_plan.proofs.by_setup.make_report_and_plan_removal.Goals as goal

pub returns-in_err-report : goal.returns-in_err-report
returns-in_err-report g c =
    let a = c.args in
    let p = err_from_is_err_and c.from_residual.result c.from_residual.ensures.1 in
    rw (p.1, p.2)
    (plan-refused g.W.Worktree g.F.Find g.I.Interrupt a.worktree.now c.worktree_report.new.worktree c.worktree_report.new.worktree a.objects.now
    c.worktree_report.new.objects a.interrupt.now c.worktree_report.new.interrupt a.worktree_root.now a.setup.now a.wanted c.in_err-report.field-0.0
    c.in_err-report.ensures)

pub returns : goal.returns
returns g c =
    let a = c.args in
    plan-by g.W.Worktree g.F.Find g.I.Interrupt a.worktree.now c.worktree_report.new.worktree c.plan_wanted_by_report.new.worktree a.objects.now
    c.worktree_report.new.objects a.interrupt.now c.worktree_report.new.interrupt a.worktree_root.now a.setup.now a.wanted c.in_ok-report.report
    c.in_ok-report.ensures a.finding c.requires.prepared c.plan_wanted_by_report.result c.plan_wanted_by_report.ensures
