use Rattle.std.proofs.Common.{◌≡◌, ◌∙◌, sym, ap, subst}
use Rattle.std.specs.List.{AllByRecursion}
use Rattle.gitbase_core.specs.Path.{components, pieces_between_slashes}
use Rattle.worktree_fs.specs.Composed.{nfc_if_composing, IsComponentOfComposedText, NodeHasComposedNames}
use Rattle.worktree_fs.specs.Grow.{is_absolute_path_of_valid_names}
use Rattle.worktree_fs.proofs.Trees.KeptNames.{kept-added, kept-components, kept-new}
use Rattle.worktree_fs.proofs.memory.MemoryWorktree.add.Goals as goal

pub invariant_of-self-2 : goal.invariant_of-self-2
invariant_of-self-2 c =
    let composes = c.self.inside.composes in
    let same : c.as_bytes.result.now ≡ nfc_if_composing composes c.args.path.now = c.as_bytes.ensures ∙ c.in_ok-kept.ensures in
    let parts : AllByRecursion (IsComponentOfComposedText composes) (pieces_between_slashes c.in-Some.below.now) =
    subst (AllByRecursion (IsComponentOfComposedText composes)) (sym (ap components same) ∙ c.in-Some.ensures.pieces)
    (kept-components composes c.args.path.now (sym (ap is_absolute_path_of_valid_names same) ∙ c.in-Some.ensures.normal)) in
    kept-added composes c.self.inside.root c.add.new.self (pieces_between_slashes c.in-Some.below.now) c.in_ok-node.node parts
    (subst (NodeHasComposedNames composes) (sym c.in_ok-node.ensures.node) (kept-new composes c.args.node)) c.self.invariant c.in_ok-add.ensures.grown
