-- What is removed where a node other than a directory was found.
use Rattle.std.proofs.Common.{◌≡◌, ℕ, List, false, Some, if◌then◌else◌, reverse, sym, ap, ◌∙◌}
use Rattle.worktree_fs.specs.Tree.{Names, Node, PathResolution, reached, directory, is_directory}
use Rattle.worktree_fs.specs.Grow.{entries_of_node_if_directory}
use Rattle.worktree_fs.specs.Changes.{node_without_descendant, entries_after_remove_node}

pub removed_leaf : (t new : Names) (at : PathResolution) (names : List (List ℕ)) (node : Node) → at ≡ reached names node → is_directory node ≡ false → directory new ≡ node_without_descendant (reverse names) (directory t) → new ≡ entries_after_remove_node t at
removed_leaf t new at names node e leaf made =
    ap (λ (n : Node). entries_of_node_if_directory (Some n)) made
    ∙ sym (ap (entries_after_remove_node t) e ∙ ap (λ b. if b then t else entries_of_node_if_directory (Some (node_without_descendant (reverse names) (directory t)))) leaf)
