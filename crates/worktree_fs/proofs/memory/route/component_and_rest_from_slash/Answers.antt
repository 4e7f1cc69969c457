use Rattle.std.proofs.Common.{◌≡◌, ℕ, List, [], ◌∷◌}
use Rattle.gitbase_core.specs.Path.{components}
use Rattle.worktree_fs.proofs.Paths.Pieces.{some_component}
use Rattle.worktree_fs.proofs.memory.route.component_and_rest_from_slash.Goals as goal

pub returns-in-None : goal.returns-in-None
returns-in-None c = absurd (clash (some_component c.args.text.now c.requires).2 (rw c.in-None.is at c.split_first_component.ensures.components))
  where
    clash : {x : List ℕ} {xs : List (List ℕ)} → components c.args.text.now ≡ x ∷ xs → components c.args.text.now ≡ [] → ⊥
    clash a b = cc
