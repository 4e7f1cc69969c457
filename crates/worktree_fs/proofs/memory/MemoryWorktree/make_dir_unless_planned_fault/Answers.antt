use Rattle.std.proofs.Common.{◌≡◌, Some, sym, subst, rules}
use Rattle.worktree_fs.specs.Composed.{EntriesHaveComposedNames}
use Rattle.worktree_fs.specs.Memory.{tree_if_valid}
use Rattle.worktree_fs.specs.Told.{told_tree_is_valid}
use Rattle.worktree_fs.proofs.Trees.KeptNames.{kept-after_make}
use Rattle.worktree_fs.proofs.memory.MemoryWorktree.make_dir_unless_planned_fault.Goals as goal

pub invariant_of-self-2 : goal.invariant_of-self-2
invariant_of-self-2 c =
    let composes = c.self.inside.composes in
    let root = c.self.inside.root in
    let told : tree_if_valid root ≡ Some root = search rules in
    subst (EntriesHaveComposedNames composes) (sym c.in_ok-make_dir.ensures.made) (kept-after_make composes root c.args.path.now (told_tree_is_valid root root told) c.self.invariant)
