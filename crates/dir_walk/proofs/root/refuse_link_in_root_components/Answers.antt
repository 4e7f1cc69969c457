use Rattle.std.proofs.Common.{◌∙◌, ap, length, arith, subst, ℕ, List, false}
use Rattle.std.proofs.lemmas.Result.{err_from_is_err_and}
use Rattle.worktree_fs.specs.Causes.{CountIncreasedOrSaturated}
use Rattle.worktree_fs.specs.Paths.{root_joined_with_relative}
use Rattle.worktree_fs.proofs.Paths.Pieces.{pieces_few}
use Rattle.dir_classify.specs.Layers.{setting_of_shared, kind_of_node_at}
use Rattle.dir_walk.specs.Rooting.{IsLinkTestOfExistingNode, IsMetadataErrorAtPath}
use Rattle.dir_walk.proofs.Roots.Rootward.{rootward-about, rootward-grown, through-fault}
use Rattle.dir_walk.proofs.root.refuse_link_in_root_components.Goals as goal

pub returns-in_err-is_existing_node_symlink-clause-about : goal.returns-in_err-is_existing_node_symlink-clause-about
returns-in_err-is_existing_node_symlink-clause-about g c =
    let p = err_from_is_err_and c.from_residual-in_err-is_existing_node_symlink.result c.from_residual-in_err-is_existing_node_symlink.ensures.1 in
    rw (p.1, p.2)
    (rootward-about g.W.Worktree c.args.worktree.now c.loop-next.worktree c.is_existing_node_symlink.new.worktree (setting_of_shared g.M.Matcher c.args.shared.now) c.args.path.now c.loop-next.way c.in-Some.next.name.now c.loop-next.rest.now c.in-Some.next.rest.now c.loop-next.component_index
    c.loop-next.invariant c.in-Some.ensures.0 c.in-Some.ensures.1
    c.in_err-is_existing_node_symlink.field-0.0 (subst (λ (f : List ℕ). IsMetadataErrorAtPath f c.in_err-is_existing_node_symlink.field-0.0) (c.in_ok-full.ensures ∙ ap (root_joined_with_relative c.args.shared.now.worktree_root.now) (c.as_bytes.ensures ∙ c.in_ok-push_component.ensures.pushed)) c.in_err-is_existing_node_symlink.ensures.about))

pub returns-in_err-is_existing_node_symlink-clause-fault : goal.returns-in_err-is_existing_node_symlink-clause-fault
returns-in_err-is_existing_node_symlink-clause-fault g c = λ before now.
    let p = err_from_is_err_and c.from_residual-in_err-is_existing_node_symlink.result c.from_residual-in_err-is_existing_node_symlink.ensures.1 in
    rw (p.1, p.2)
    (through-fault c.args.shared.now.worktree_root.now c.args.path.now c.in_err-is_existing_node_symlink.field-0.0
    (CountIncreasedOrSaturated (g.W.Worktree.faults c.loop-next.worktree) (g.W.Worktree.faults c.is_existing_node_symlink.new.worktree))
    (CountIncreasedOrSaturated (g.W.Worktree.faults c.args.worktree.now) (g.W.Worktree.faults c.is_existing_node_symlink.new.worktree)) (CountIncreasedOrSaturated before now)
    (rootward-about g.W.Worktree c.args.worktree.now c.loop-next.worktree c.is_existing_node_symlink.new.worktree (setting_of_shared g.M.Matcher c.args.shared.now) c.args.path.now c.loop-next.way c.in-Some.next.name.now c.loop-next.rest.now c.in-Some.next.rest.now c.loop-next.component_index
    c.loop-next.invariant c.in-Some.ensures.0 c.in-Some.ensures.1
    c.in_err-is_existing_node_symlink.field-0.0 (subst (λ (f : List ℕ). IsMetadataErrorAtPath f c.in_err-is_existing_node_symlink.field-0.0) (c.in_ok-full.ensures ∙ ap (root_joined_with_relative c.args.shared.now.worktree_root.now) (c.as_bytes.ensures ∙ c.in_ok-push_component.ensures.pushed)) c.in_err-is_existing_node_symlink.ensures.about))
    (λ more. let k = c.loop-next.invariant.keeps.faults in omega (arith, k, more))
    (c.in_err-is_existing_node_symlink.ensures.fault before now))

pub overflow_add-component_index : goal.overflow_add-component_index
overflow_add-component_index g c =
    omega (arith, c.loop-next.invariant.count, ap (λ l. length l) c.in-Some.ensures.0, pieces_few c.args.path.now)

pub loop-next-preserved : goal.loop-next-preserved
loop-next-preserved g c =
    rw c.in_ok-push_component.ensures.pushed
    (rootward-grown g.W.Worktree c.args.worktree.now c.loop-next.worktree c.is_existing_node_symlink.new.worktree (setting_of_shared g.M.Matcher c.args.shared.now) c.args.path.now c.loop-next.way c.in-Some.next.name.now c.loop-next.rest.now c.in-Some.next.rest.now c.loop-next.component_index
    c.loop-next.invariant c.in-Some.ensures.0 c.in-Some.ensures.1
    c.in_ok-is_existing_node_symlink.ensures.keeps c.in_ok-is_existing_node_symlink.ensures.reads c.in_ok-is_existing_node_symlink.field-0 c.if-branch.false
    (λ t told. subst (λ (f : List ℕ). IsLinkTestOfExistingNode (kind_of_node_at t f false) c.in_ok-is_existing_node_symlink.field-0) (c.in_ok-full.ensures ∙ ap (root_joined_with_relative c.args.shared.now.worktree_root.now) (c.as_bytes.ensures ∙ c.in_ok-push_component.ensures.pushed)) (c.in_ok-is_existing_node_symlink.ensures.link t told)))
