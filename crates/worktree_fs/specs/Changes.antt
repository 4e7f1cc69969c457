-- The path of a node without links, and what making and removing nodes does to a tree.
use Rattle.std.specs.Prelude.{ℕ, List, [], ◌∷◌, ◌++◌, reverse, Option, Some, None, Bool, true, if◌then◌else◌}
use Rattle.std.specs.Str.{bytes_eq}
use Rattle.gitbase_core.specs.Path.{components}
use Rattle.worktree_fs.specs.Tree.{Node, Names, PathResolution, reached, missing, nowhere, endless, file, link, directory, other, none, named, is_directory, is_nil, is_absolute, resolution_of_path}
use Rattle.worktree_fs.specs.Grow.{node_with_descendant_added, add_error_at_path, entries_of_node_if_directory}
use Rattle.worktree_fs.specs.Composed.{nfc_if_composing}
use Rattle.worktree_fs.specs.declared.answers.MakeAnswer.{MakeAnswer}
use Rattle.worktree_fs.specs.declared.answers.MakeAnswer.TheVariants as makes
use Rattle.worktree_fs.specs.declared.answers.RemoveAnswer.{RemoveAnswer}
use Rattle.worktree_fs.specs.declared.answers.RemoveAnswer.TheVariants as removes
use Rattle.worktree_fs.specs.declared.memory.grow.AddError.{AddError}
use Rattle.worktree_fs.specs.declared.memory.grow.AddError.TheVariants as refusals

-- each name behind a slash; the last one comes first
abbrev pub slash_before_each_reversed_name : List (List ℕ) → List ℕ
slash_before_each_reversed_name [] = []
slash_before_each_reversed_name (name ∷ below) = slash_before_each_reversed_name below ++ 47 ∷ name

-- the path that names spell; without names it is that of the root
abbrev pub root_or_path_of_reversed_names : List (List ℕ) → List ℕ
root_or_path_of_reversed_names [] = 47 ∷ []
root_or_path_of_reversed_names (name ∷ below) = slash_before_each_reversed_name (name ∷ below)

-- a path, or the path that it has from a directory where it does not begin at the root
abbrev pub resolve_path_from_directory : List ℕ → List ℕ → List ℕ
resolve_path_from_directory path cwd = if is_absolute path then path else cwd ++ 47 ∷ path

-- the path without links of a node
abbrev pub real_path_of_resolution : PathResolution → Option (List ℕ)
real_path_of_resolution (reached names node) = Some (root_or_path_of_reversed_names names)
real_path_of_resolution (missing names rest) = None
real_path_of_resolution nowhere = None
real_path_of_resolution endless = None

abbrev pub real_path : Names → List ℕ → List ℕ → Option (List ℕ)
real_path t path cwd = real_path_of_resolution (resolution_of_path t (resolve_path_from_directory path cwd) true)

-- the names of a new node: the last one, which comes first here, is kept as names are kept
abbrev pub reversed_names_last_one_composed : Bool → List (List ℕ) → List (List ℕ)
reversed_names_last_one_composed composes [] = []
reversed_names_last_one_composed composes (name ∷ below) = nfc_if_composing composes name ∷ below

-- what is answered to the making of a directory, by why no node would be added there
abbrev pub make_answer_of_add_error : Option AddError → MakeAnswer
make_answer_of_add_error None = makes.Made
make_answer_of_add_error (Some refusals.NotNormal) = makes.NoParent
make_answer_of_add_error (Some refusals.NoParent) = makes.NoParent
make_answer_of_add_error (Some refusals.Exists) = makes.Exists
make_answer_of_add_error (Some refusals.OutOfMemory) = makes.NoParent

-- What is answered to the making of a directory. It is made where its directory is there and has no such name; where
-- names are composed, the composed name.
abbrev pub answer_to_make_dir : Bool → Names → PathResolution → MakeAnswer
answer_to_make_dir composes t (reached names node) = makes.Exists
answer_to_make_dir composes t (missing names rest) =
    if is_nil rest then make_answer_of_add_error (add_error_at_path t (slash_before_each_reversed_name (reversed_names_last_one_composed composes names))) else makes.NoParent
answer_to_make_dir composes t nowhere = makes.NoParent
answer_to_make_dir composes t endless = makes.NoParent

-- the names in the root with a directory at the end of a path, unless it is refused
abbrev pub entries_with_directory_added : Option AddError → Names → List ℕ → Names
entries_with_directory_added None t path = entries_of_node_if_directory (Some (node_with_descendant_added (components path) (directory none) (Some (directory t))))
entries_with_directory_added (Some refusal) t path = t

-- the names in the root after the making of a directory
abbrev pub entries_after_make_dir : Bool → Names → PathResolution → Names
entries_after_make_dir composes t (reached names node) = t
entries_after_make_dir composes t (missing names rest) =
    if is_nil rest then entries_with_directory_added (add_error_at_path t (slash_before_each_reversed_name (reversed_names_last_one_composed composes names))) t (slash_before_each_reversed_name (reversed_names_last_one_composed composes names)) else t
entries_after_make_dir composes t nowhere = t
entries_after_make_dir composes t endless = t

-- without the node at the end of these names; what is not there is not removed
abbrev mutual
  pub node_without_descendant : List (List ℕ) → Node → Node
  node_without_descendant [] node = node
  node_without_descendant (name ∷ rest) (directory names) = directory (entries_without_descendant name rest names)
  node_without_descendant (name ∷ rest) (file bytes) = file bytes
  node_without_descendant (name ∷ rest) (link target) = link target
  node_without_descendant (name ∷ rest) other = other

  pub entries_without_descendant : List ℕ → List (List ℕ) → Names → Names
  entries_without_descendant name rest none = none
  entries_without_descendant name rest (named n node more) =
      if bytes_eq n name then (if is_nil rest then more else named n (node_without_descendant rest node) more)
      else named n node (entries_without_descendant name rest more)

-- what is answered to the removal of what is there
abbrev pub answer_to_remove_node : PathResolution → RemoveAnswer
answer_to_remove_node (reached names node) = if is_directory node then removes.IsDirectory else removes.Removed
answer_to_remove_node (missing names rest) = removes.Absent
answer_to_remove_node nowhere = removes.Absent
answer_to_remove_node endless = removes.Absent

-- the names in the root after the removal
abbrev pub entries_after_remove_node : Names → PathResolution → Names
entries_after_remove_node t (reached names node) = if is_directory node then t else entries_of_node_if_directory (Some (node_without_descendant (reverse names) (directory t)))
entries_after_remove_node t (missing names rest) = t
entries_after_remove_node t nowhere = t
entries_after_remove_node t endless = t
