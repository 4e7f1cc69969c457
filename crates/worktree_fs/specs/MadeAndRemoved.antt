-- What a caller knows of a tree in which a directory was made, or from which a node was removed.
use Rattle.std.specs.Prelude.{◌≡◌, ℕ, Bool, true, false, List, [], reverse, Option, Some, None}
use Rattle.gitbase_core.specs.Path.{path_joined_with_slash}
use Rattle.worktree_fs.specs.Tree.{Names, Node, reached, missing, directory, none, is_directory, resolution_of_path, look, absent, found, child_by_name}
use Rattle.worktree_fs.specs.Naming.{IsValidEntryName}
use Rattle.worktree_fs.specs.Composed.{nfc_if_composing}
use Rattle.worktree_fs.specs.declared.answers.MakeAnswer.{MakeAnswer}
use Rattle.worktree_fs.specs.declared.answers.MakeAnswer.TheVariants as makes
use Rattle.worktree_fs.specs.ByNames.{descendant_by_names}
use Rattle.worktree_fs.specs.Outlines.{ResolvesAlikeUnlessAtNode, TreesAgreeExceptAtNames}

-- A directory was made at a path. Its last name was missing in a directory that is there, and a directory without names
-- is there now, a last link not followed. By its names, which lead from the root without links, nothing stood there, and
-- it does now; at all other names there stands what stood there. Each path leads where it led, unless it comes to these names.
pub record DirectoryMadeAtPath (path : List ℕ) (before now : Names) : Type 0 where
  pub names : List (List ℕ)
  pub was : resolution_of_path before path false ≡ missing names []
  pub is : resolution_of_path now path false ≡ reached names (directory none)
  pub free : descendant_by_names (reverse names) (Some (directory before)) ≡ None
  pub there : descendant_by_names (reverse names) (Some (directory now)) ≡ Some (directory none)
  pub apart : TreesAgreeExceptAtNames names before now
  pub alike : (other : List ℕ) (follow : Bool) → ResolvesAlikeUnlessAtNode follow names (directory none) (resolution_of_path before other follow) (resolution_of_path now other follow)

-- The node at a path was removed, which is no directory, a last link not followed: nothing is there now. By its names, which
-- lead from the root without links, it stood there, and nothing does now; at all other names there stands what stood there. Each path leads where it led, unless it came to
-- these names.
pub record NodeRemovedAtPath (path : List ℕ) (before now : Names) : Type 0 where
  pub names : List (List ℕ)
  pub node : Node
  pub is_leaf : is_directory node ≡ false
  pub was : resolution_of_path before path false ≡ reached names node
  pub is : look now path false ≡ absent
  pub stood : descendant_by_names (reverse names) (Some (directory before)) ≡ Some node
  pub gone : descendant_by_names (reverse names) (Some (directory now)) ≡ None
  pub apart : TreesAgreeExceptAtNames names now before
  pub alike : (other : List ℕ) (follow : Bool) → ResolvesAlikeUnlessAtNode follow names node (resolution_of_path now other follow) (resolution_of_path before other follow)

-- what is answered to the making of a directory under a name, by what has the name
abbrev pub make_answer_by_existing_node : Option Node → MakeAnswer
make_answer_by_existing_node None = makes.Made
make_answer_by_existing_node (Some node) = makes.Exists

-- The answer to the making of a directory at a path, where that is the path of a name in a directory that is there, and
-- the name is kept as it is: it was made, or something has the name. It is never refused for its parent.
abbrev pub AnswersMakeInExistingParent : Bool → Names → List ℕ → MakeAnswer → Type 0
AnswersMakeInExistingParent composes t path answer =
    (above name : List ℕ) (names : Names)
    → path ≡ path_joined_with_slash above name
    → IsValidEntryName name
    → nfc_if_composing composes name ≡ name
    → look t above true ≡ found (directory names)
    → answer ≡ make_answer_by_existing_node (child_by_name names name)
