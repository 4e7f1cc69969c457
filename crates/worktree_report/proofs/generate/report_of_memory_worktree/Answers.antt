use Rattle.std.proofs.Common.{◌≡◌, Bool, Some, ap, subst, arith}
use Rattle.worktree_report.specs.Asked.{sources_of_tree_and_setup, walk_report_of_setup}
use Rattle.worktree_report.specs.Generate.{worktree_root}
use Rattle.worktree_report.proofs.Answered.{told-blobs}
use Rattle.worktree_report.proofs.generate.report_of_memory_worktree.Goals as goal

pub returns-clause-gives : goal.returns-clause-gives
returns-clause-gives g c =
    let setup = c.args.setup.now in
    let tells = told-blobs setup (ap Some c.in_ok-objects.ensures) c.fault_count-faults.ensures.told in
    let made = c.in-Ok.ensures.gives (sources_of_tree_and_setup c.args.tree.tree setup) tells
    (omega (arith, c.requires.faults, c.fault_count-faults.ensures.count, c.fault_count.ensures.count, c.if-fault_count-faults.false)) in
    subst (λ (b : Bool). walk_report_of_setup b (sources_of_tree_and_setup c.args.tree.tree setup) worktree_root setup ≡ Some c.in-Ok.report) c.requires.composes made.is
