use Rattle.std.proofs.Common.{◌≡◌, ◌∙◌, ap, arith, sym, subst, ℕ, List}
use Rattle.std.proofs.lemmas.Result.{err_from_is_err_and}
use Rattle.gitbase_core.specs.Path.{is_absolute}
use Rattle.worktree_fs.specs.Causes.{CountIncreasedOrSaturated}
use Rattle.dir_classify.specs.Layers.{setting_of_shared}
use Rattle.dir_walk.specs.Root.{traversal_root_of_normal_path, rooted}
use Rattle.dir_walk.specs.Rooting.{IsErrorOfRootResult}
use Rattle.dir_walk.proofs.Places.NormalRoots.{ends-absolute, ends-outside, ends-through, normal-root, root-normalized, root-or-top}
use Rattle.dir_walk.proofs.Roots.Rootward.{through-fault}
use Rattle.dir_walk.proofs.root.find_traversal_root.Goals as goal

pub returns-then-is_absolute-clause-refused : goal.returns-then-is_absolute-clause-refused
returns-then-is_absolute-clause-refused g c = λ t told.
    ends-absolute (setting_of_shared g.M.Matcher c.args.shared.now) t c.args.explicit.now c.in_ok-asked.asked (c.in_ok-asked.ensures.fault t told) c.in-Some.path
    (sym c.in_ok-normalize.ensures ∙ c.in-Some.is)
    (ap is_absolute (sym c.as_bytes.ensures) ∙ sym c.is_absolute.ensures ∙ c.if-is_absolute.true)

pub returns-in_err-refuse_link_in_root_components-in-Some-clause-refused : goal.returns-in_err-refuse_link_in_root_components-in-Some-clause-refused
returns-in_err-refuse_link_in_root_components-in-Some-clause-refused g c = λ t told.
    let p = err_from_is_err_and c.from_residual-in_err-refuse_link_in_root_components-in-Some.result c.from_residual-in_err-refuse_link_in_root_components-in-Some.ensures.1 in
    let given = setting_of_shared g.M.Matcher c.args.shared.now in
    let e = c.in_err-refuse_link_in_root_components-in-Some.field-0.0 in
    rw (p.1, p.2)
    (ends-through given t c.args.explicit.now c.in_ok-asked.asked (c.in_ok-asked.ensures.fault t told) c.in-Some.path e
    (sym c.in_ok-normalize.ensures ∙ c.in-Some.is)
    (ap is_absolute (sym c.as_bytes.ensures) ∙ sym c.is_absolute.ensures ∙ c.if-is_absolute.false)
    (subst (λ (bytes : List ℕ). IsErrorOfRootResult (traversal_root_of_normal_path given t bytes) e) c.as_bytes-in-Some.ensures (c.in_err-refuse_link_in_root_components-in-Some.ensures.refused t (c.in_ok-asked.ensures.keeps.tree ∙ told))))

pub returns-in_err-refuse_link_in_root_components-in-Some-clause-fault : goal.returns-in_err-refuse_link_in_root_components-in-Some-clause-fault
returns-in_err-refuse_link_in_root_components-in-Some-clause-fault g c = λ before now.
    let p = err_from_is_err_and c.from_residual-in_err-refuse_link_in_root_components-in-Some.result c.from_residual-in_err-refuse_link_in_root_components-in-Some.ensures.1 in
    rw (p.1, p.2)
    (through-fault c.args.shared.now.worktree_root.now c.as_bytes-in-Some.result.now c.in_err-refuse_link_in_root_components-in-Some.field-0.0
    (CountIncreasedOrSaturated (g.W.Worktree.faults c.explicit_or_common_root_before_normalizing.new.worktree) (g.W.Worktree.faults c.refuse_link_in_root_components.new.worktree))
    (CountIncreasedOrSaturated (g.W.Worktree.faults c.args.worktree.now) (g.W.Worktree.faults c.refuse_link_in_root_components.new.worktree)) (CountIncreasedOrSaturated before now)
    c.in_err-refuse_link_in_root_components-in-Some.ensures.about
    (λ more. let k = c.in_ok-asked.ensures.keeps.faults in omega (arith, k, more))
    (c.in_err-refuse_link_in_root_components-in-Some.ensures.fault before now))

pub returns-in-None-clause-refused : goal.returns-in-None-clause-refused
returns-in-None-clause-refused g c = λ t told.
    ends-outside (setting_of_shared g.M.Matcher c.args.shared.now) t c.args.explicit.now c.in_ok-asked.asked (c.in_ok-asked.ensures.fault t told)
    (sym c.in_ok-normalize.ensures ∙ c.in-None.is)

pub returns-in_ok-refuse_link_in_root_components-in-Some-clause-root : goal.returns-in_ok-refuse_link_in_root_components-in-Some-clause-root
returns-in_ok-refuse_link_in_root_components-in-Some-clause-root g c = λ t told quiet.
    sym (root-normalized (setting_of_shared g.M.Matcher c.args.shared.now) t c.args.explicit.now c.in_ok-asked.asked c.in-Some.path
    (let more = c.in_ok-refuse_link_in_root_components-in-Some.ensures.keeps.faults in c.in_ok-asked.ensures.root t told (omega (arith, quiet, more)))
    (sym c.in_ok-normalize.ensures ∙ c.in-Some.is)
    (ap is_absolute (sym c.as_bytes.ensures) ∙ sym c.is_absolute.ensures ∙ c.if-is_absolute.false))
    ∙ subst (λ (bytes : List ℕ). traversal_root_of_normal_path (setting_of_shared g.M.Matcher c.args.shared.now) t bytes ≡ rooted bytes) c.as_bytes-in-Some.ensures (c.in_ok-refuse_link_in_root_components-in-Some.ensures.through t (c.in_ok-asked.ensures.keeps.tree ∙ told))

pub returns-in_ok-refuse_link_in_root_components-in-Some-clause-way : goal.returns-in_ok-refuse_link_in_root_components-in-Some-clause-way
returns-in_ok-refuse_link_in_root_components-in-Some-clause-way g c = λ t told.
    let given = setting_of_shared g.M.Matcher c.args.shared.now in
    root-or-top given t c.args.explicit.now c.in_ok-asked.asked (c.in_ok-asked.ensures.fault t told) c.in-Some.path
    (sym c.in_ok-normalize.ensures ∙ c.in-Some.is)
    (ap is_absolute (sym c.as_bytes.ensures) ∙ sym c.is_absolute.ensures ∙ c.if-is_absolute.false)
    (subst (λ (bytes : List ℕ). traversal_root_of_normal_path given t bytes ≡ rooted bytes) c.as_bytes-in-Some.ensures (c.in_ok-refuse_link_in_root_components-in-Some.ensures.through t (c.in_ok-asked.ensures.keeps.tree ∙ told)))

pub returns-in_ok-refuse_link_in_root_components-in-Some-clause-shape : goal.returns-in_ok-refuse_link_in_root_components-in-Some-clause-shape
returns-in_ok-refuse_link_in_root_components-in-Some-clause-shape g c = normal-root c.in_ok-asked.asked c.in-Some.path
    (sym c.in_ok-normalize.ensures ∙ c.in-Some.is)
    (ap is_absolute (sym c.as_bytes.ensures) ∙ sym c.is_absolute.ensures ∙ c.if-is_absolute.false)

pub returns-in_ok-refuse_link_in_root_components-in-Some-clause-asked : goal.returns-in_ok-refuse_link_in_root_components-in-Some-clause-asked
returns-in_ok-refuse_link_in_root_components-in-Some-clause-asked g c =
    (c.in_ok-asked.asked, c.in_ok-asked.ensures.asked, sym c.in_ok-normalize.ensures ∙ c.in-Some.is, ap is_absolute (sym c.as_bytes.ensures) ∙ sym c.is_absolute.ensures ∙ c.if-is_absolute.false)
