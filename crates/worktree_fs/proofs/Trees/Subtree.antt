-- What a path leads to in a tree is a tree.
use Rattle.std.proofs.Common.{◌≡◌, ℕ, Bool, true, false, List, Some, refl, if◌then◌else◌, subst}
use Rattle.std.specs.Str.{bytes_eq}
use Rattle.std.specs.List.{AllByRecursion}
use Rattle.std.proofs.lemmas.Slice.Eq.{bytes_eq-Decides}
use Rattle.worktree_fs.specs.Tree.{Names, Node, found, file, link, directory, other, none, named, entry_names_in_order, child_by_name, is_directory, look}
use Rattle.worktree_fs.specs.Naming.{IsValidEntryName, IsValidTree, AreValidTrees}
use Rattle.worktree_fs.proofs.Trees.Within.{leads-look}

pub IsTree-child : (names : Names) (name : List ℕ) (node : Node) → AreValidTrees names → child_by_name names name ≡ Some node → IsValidTree node
IsTree-child none name node all e = absurd (cc e)
IsTree-child (named n first rest) name node all e = go (IsTree-child rest name node all.1) (bytes_eq n name) e
  where
    go : (child_by_name rest name ≡ Some node → IsValidTree node) → (b : Bool) → (if b then Some first else child_by_name rest name) ≡ Some node → IsValidTree node
    go ih true is = subst IsValidTree (cc is) all.0
    go ih false is = ih is

-- a name under which there is a node is one of a directory's names
pub named_is : (names : Names) (name : List ℕ) (node : Node) → AllByRecursion IsValidEntryName (entry_names_in_order names) → child_by_name names name ≡ Some node → IsValidEntryName name
named_is none name node each e = absurd (cc e)
named_is (named n first rest) name node each e = go (bytes_eq n name) refl e (named_is rest name node each.1)
  where
    go : (b : Bool) → bytes_eq n name ≡ b → (if b then Some first else child_by_name rest name) ≡ Some node → (child_by_name rest name ≡ Some node → IsValidEntryName name) → IsValidEntryName name
    go true same e ih = subst IsValidEntryName ((bytes_eq-Decides n name).0 same) each.0
    go false same e ih = ih e

pub tree-leaf : (node : Node) → is_directory node ≡ false → IsValidTree node
tree-leaf (file bytes) e = tt
tree-leaf (link target) e = tt
tree-leaf (directory names) e = absurd (cc e)
tree-leaf other e = tt

pub tree-inside : (names : Names) (name : List ℕ) (node : Node) → IsValidTree (directory names) → child_by_name names name ≡ Some node → IsValidTree node × IsValidEntryName name
tree-inside names name node tree there = (IsTree-child names name node tree.1 there, named_is names name node tree.0.each there)

pub IsTree-look : (root : Names) (path : List ℕ) (follow : Bool) (node : Node) → IsValidTree (directory root) → look root path follow ≡ found node → IsValidTree node
IsTree-look = leads-look IsValidTree IsValidEntryName tree-leaf tree-inside
