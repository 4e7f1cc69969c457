-- Where paths lead in two trees that differ in one node.
use Rattle.std.specs.Prelude.{◌≡◌, ◌⊎◌, ℕ, Bool, false, List, [], reverse, Some, option_map}
use Rattle.worktree_fs.specs.Tree.{Node, Names, PathResolution, reached, missing, nowhere, endless, file, link, directory, other, none}
use Rattle.worktree_fs.specs.ByNames.{descendant_by_names}

-- a node, and of a directory no more than that it is one
abbrev pub node_without_children : Node → Node
node_without_children (file bytes) = file bytes
node_without_children (link target) = link target
node_without_children (directory names) = directory none
node_without_children other = other

-- where a path leads, with the outline of the node that it leads to
abbrev pub resolution_without_children : PathResolution → PathResolution
resolution_without_children (reached names node) = reached names (node_without_children node)
resolution_without_children (missing names rest) = missing names rest
resolution_without_children nowhere = nowhere
resolution_without_children endless = endless

-- A path came to these names, the last one first, in a tree that has nothing there: in one that has a node there it leads
-- to that node where nothing is left to go along and a last link is not followed.
pub record ReachesAddedNode (follow : Bool) (names : List (List ℕ)) (node : Node) (without beside : PathResolution) : Type 0 where
  pub rest : List (List ℕ)
  pub is_missing : without ≡ missing names rest
  pub ends : follow ≡ false → rest ≡ [] → beside ≡ reached names node

-- A path, by where it leads in a tree that has nothing at these names, and in one that has a node there: it comes to
-- them, or it leads to the same node in both, which where it is a directory may have other nodes in it.
abbrev pub ResolvesAlikeUnlessAtNode : Bool → List (List ℕ) → Node → PathResolution → PathResolution → Type 0
ResolvesAlikeUnlessAtNode follow names node without beside = ReachesAddedNode follow names node without beside ⊎ (resolution_without_children without ≡ resolution_without_children beside)

-- at all names but these, the last one first, there stands in both trees the same node, by its outline, or none in both
abbrev pub TreesAgreeExceptAtNames : List (List ℕ) → Names → Names → Type 0
TreesAgreeExceptAtNames at without beside =
    (names : List (List ℕ))
    → (names ≡ at) ⊎ (option_map node_without_children (descendant_by_names (reverse names) (Some (directory without))) ≡ option_map node_without_children (descendant_by_names (reverse names) (Some (directory beside))))
