-- The nodes of a tree by their names alone, and what a resolution says of them.
use Rattle.std.specs.Prelude.{◌≡◌, ℕ, List, [], ◌∷◌, reverse, Option, Some, None}
use Rattle.worktree_fs.specs.Tree.{Names, Node, PathResolution, reached, missing, nowhere, endless, directory, child_by_name}
use Rattle.worktree_fs.specs.Grow.{entries_of_node_if_directory}

-- the node at the end of these names from a node, no link followed
abbrev pub descendant_by_names : List (List ℕ) → Option Node → Option Node
descendant_by_names [] from = from
descendant_by_names (name ∷ rest) from = descendant_by_names rest (child_by_name (entries_of_node_if_directory from) name)

-- the first of these names is missing in a directory, to which the others lead from the root
abbrev pub IsMissingInReachedDirectory : Names → List (List ℕ) → Type 0
IsMissingInReachedDirectory root [] = ⊥
IsMissingInReachedDirectory root (name ∷ below) = (here : Names) × (descendant_by_names (reverse below) (Some (directory root)) ≡ Some (directory here)) × (child_by_name here name ≡ None)

-- the node that was reached is at the end of its names, and a missing name is missing in a directory that is there
abbrev pub ResolutionAgreesWithNames : Names → PathResolution → Type 0
ResolutionAgreesWithNames root (reached names node) = descendant_by_names (reverse names) (Some (directory root)) ≡ Some node
ResolutionAgreesWithNames root (missing names rest) = IsMissingInReachedDirectory root names
ResolutionAgreesWithNames root nowhere = Unit {0}
ResolutionAgreesWithNames root endless = Unit {0}
