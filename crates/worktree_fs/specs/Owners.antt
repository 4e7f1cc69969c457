-- Who owns the nodes of a file system, and on which file system they lie.
use Rattle.std.specs.Prelude.{ℕ, Bool, true, false, List, Option, Some, None, bytes_eq, find, option_map}
use Rattle.worktree_fs.specs.declared.owners.ownership.Ownership.{Ownership}

-- what is told of the node at a path, by whether a last link is followed; none where nothing is there
abbrev pub OwnershipByPath : Type 0
OwnershipByPath = List ℕ → Bool → Option Ownership

-- the count of one that asks the system
pub record DiskOwnersModel : Type 0 where
  pub faults : ℕ

-- ---- in memory

-- a node at a path, and, where a link leads there, the link itself
pub record OwnedNode : Type 0 where
  pub path : List ℕ
  pub ownership : Ownership
  pub link : Option Ownership

-- a link is told by itself, unless it is followed
abbrev pub ownership_followed_or_of_link : Ownership → Option Ownership → Bool → Ownership
ownership_followed_or_of_link ownership None follow = ownership
ownership_followed_or_of_link ownership (Some link) true = ownership
ownership_followed_or_of_link ownership (Some link) false = link

-- what nodes tell: each of the path at which it is listed, and the first of those at one path
abbrev pub ownership_by_path_of_nodes : List OwnedNode → OwnershipByPath
ownership_by_path_of_nodes nodes path follow =
    option_map (λ (node : OwnedNode). ownership_followed_or_of_link node.ownership node.link follow) (find (λ (node : OwnedNode). bytes_eq node.path path) nodes)
