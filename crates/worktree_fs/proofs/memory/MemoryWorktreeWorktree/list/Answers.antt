use Rattle.std.proofs.Common.{◌≡◌, Bool, All, IfOk, subst, rules}
use Rattle.worktree_fs.specs.Composed.{IsComponentOfComposedText}
use Rattle.worktree_fs.proofs.Trees.KeptNames.{kept-listed}
use Rattle.worktree_fs.proofs.memory.MemoryWorktreeWorktree.list.Goals as goal

pub returns-clause-kept : goal.returns-clause-kept
returns-clause-kept c =
    let memory = c.self-3.inside in
    let composes : memory.composes ≡ c.args.self.now.composes = search rules in
    subst (λ (b : Bool). IfOk c.list.result (All (IsComponentOfComposedText b))) composes
    (kept-listed memory.composes memory.is_reversed memory.root c.args.path.now c.args.follow c.list.result c.self-3.invariant c.list.ensures.answer)
