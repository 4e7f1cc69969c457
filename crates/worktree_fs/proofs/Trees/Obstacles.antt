-- What stands in the way of a node that is added.
use Rattle.std.proofs.Common.{◌≡◌, ℕ, List, ◌∷◌, Option, Some, Result, Ok, Err, IfErr, OnOk, refl, sym, ap, subst, ◌∙◌}
use Rattle.gitbase_core.specs.Path.{pieces_between_slashes}
use Rattle.worktree_fs.specs.Grow.{add_error_at_names, IsAddErrorUnlessOutOfMemory}
use Rattle.worktree_fs.specs.declared.memory.grow.AddError.{AddError}
use Rattle.worktree_fs.specs.declared.memory.grow.AddError.TheVariants.{NoParent}
use Rattle.worktree_fs.specs.declared.memory.stored.Inner.{Inner}
use Rattle.worktree_fs.specs.declared.memory.stored.Inner.TheVariants as stored
use Rattle.worktree_fs.specs.Stored.{tree_node_of_inner}
use Rattle.worktree_fs.proofs.Paths.Texts.{some_parts}

pub on_ok : {P Q : Type 0} → (P → Q) → (r : Result (Unit {0}) AddError) → OnOk r P → OnOk r Q
on_ok f (Ok x) p = f p
on_ok f (Err e) p = tt

pub if_refused : (a b : Option AddError) → a ≡ b → (r : Result (Unit {0}) AddError) → IfErr r (IsAddErrorUnlessOutOfMemory b) → IfErr r (IsAddErrorUnlessOutOfMemory a)
if_refused a b e r = subst (λ (o : Option AddError). IfErr r (IsAddErrorUnlessOutOfMemory o)) (sym e)

-- below a node that is no directory nothing is added
pub obstacle-no_directory : (inner : Inner) (path : List ℕ) → ((entries : _) → inner ≡ stored.Directory entries → ⊥) → add_error_at_names (pieces_between_slashes path) (Some (tree_node_of_inner inner)) ≡ Some NoParent
obstacle-no_directory inner path not =
    let some = some_parts path in
    ap (λ names. add_error_at_names names (Some (tree_node_of_inner inner))) some.2 ∙ go inner some.0 some.1 not
  where
    go : (inner : Inner) (name : List ℕ) (rest : List (List ℕ)) → ((entries : _) → inner ≡ stored.Directory entries → ⊥) → add_error_at_names (name ∷ rest) (Some (tree_node_of_inner inner)) ≡ Some NoParent
    go (stored.File bytes) name rest other_than = refl
    go (stored.Link target) name rest other_than = refl
    go (stored.Directory entries) name rest other_than = absurd (other_than entries refl)
    go stored.Other name rest other_than = refl
