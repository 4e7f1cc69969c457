-- How deep a tree is after a node was put into it or removed.
use Rattle.std.proofs.Common.{◌≡◌, ℕ, zero, suc, ◌+◌, ◌≤◌, max, List, [], ◌∷◌, length, Bool, true, false, Option, Some, Result, Ok, Err, OnOk, OnErr, if◌then◌else◌, ap, arith}
use Rattle.std.specs.Str.{bytes_eq}
use Rattle.std.specs.Ordering.{is_lt}
use Rattle.worktree_fs.specs.Tree.{Node, Names, file, link, directory, other, none, named, child_by_name, is_nil}
use Rattle.worktree_fs.specs.Grow.{entries_with_node_at_name, node_with_descendant_added, entries_of_node_if_directory}
use Rattle.worktree_fs.specs.Changes.{node_without_descendant, entries_without_descendant}
use Rattle.worktree_fs.specs.Order.{compare_path_bytes}
use Rattle.worktree_fs.specs.Stored.{named_nodes_of_entries}
use Rattle.worktree_fs.specs.declared.memory.stored.Entry.{Entry}
use Rattle.worktree_fs.specs.Way.{directory_depth_of_node, directory_depth_of_entries}

pub depth-put : (b : ℕ) (name : List ℕ) (node : Node) (names : Names) → directory_depth_of_node node ≤ b → directory_depth_of_entries names ≤ b → directory_depth_of_entries (entries_with_node_at_name name node names) ≤ b
depth-put b name node none n m = omega (arith, n)
depth-put b name node (named k old rest) n m = go (depth-put b name node rest n (omega (arith, m))) (bytes_eq k name) (is_lt (compare_path_bytes name k))
  where
    go : directory_depth_of_entries (entries_with_node_at_name name node rest) ≤ b → (x y : Bool) → directory_depth_of_entries (if x then named name node rest else if y then named name node (named k old rest) else named k old (entries_with_node_at_name name node rest)) ≤ b
    go ih true y = omega (arith, n, m)
    go ih false true = omega (arith, n, m)
    go ih false false = omega (arith, n, m, ih)

inner : (k : ℕ) (node : Node) → directory_depth_of_node node ≤ suc k → directory_depth_of_entries (entries_of_node_if_directory (Some node)) ≤ k
inner k (file bytes) le = omega arith
inner k (link target) le = omega arith
inner k (directory names) le = omega (arith, le)
inner k other le = omega arith

depth-child : (k : ℕ) (names : Names) (name : List ℕ) → directory_depth_of_entries names ≤ suc k → directory_depth_of_entries (entries_of_node_if_directory (child_by_name names name)) ≤ k
depth-child k none name le = omega arith
depth-child k (named n node rest) name le = go (depth-child k rest name (omega (arith, le))) (bytes_eq n name)
  where
    go : directory_depth_of_entries (entries_of_node_if_directory (child_by_name rest name)) ≤ k → (x : Bool) → directory_depth_of_entries (entries_of_node_if_directory (if x then Some node else child_by_name rest name)) ≤ k
    go ih true = inner k node (omega (arith, le))
    go ih false = ih

pub depth-grown : (b : ℕ) (path : List (List ℕ)) (node : Node) (old : Option Node) → length path + directory_depth_of_node node ≤ suc b → directory_depth_of_entries (entries_of_node_if_directory old) ≤ b → directory_depth_of_node (node_with_descendant_added path node old) ≤ suc b
depth-grown b [] node old n m = omega (arith, n)
depth-grown b (name ∷ []) node old n m = omega (arith, depth-put b name node (entries_of_node_if_directory old) (omega (arith, n)) m)
depth-grown zero (name ∷ next ∷ rest) node old n m = absurd (omega (arith, n))
depth-grown (suc b) (name ∷ next ∷ rest) node old n m =
    let ih = depth-grown b (next ∷ rest) node (child_by_name (entries_of_node_if_directory old) name) (omega (arith, n)) (depth-child b (entries_of_node_if_directory old) name m) in
    omega (arith, depth-put (suc b) name (node_with_descendant_added (next ∷ rest) node (child_by_name (entries_of_node_if_directory old) name)) (entries_of_node_if_directory old) ih m)

cut_cases : (rest : List (List ℕ)) (n : List ℕ) (node cut_node : Node) (more cut_more : Names) (x y : Bool) → directory_depth_of_node cut_node ≤ directory_depth_of_node node → directory_depth_of_entries cut_more ≤ directory_depth_of_entries more
    → directory_depth_of_entries (if x then (if y then more else named n cut_node more) else named n node cut_more) ≤ max (directory_depth_of_node node) (directory_depth_of_entries more)
cut_cases rest n node cut_node more cut_more true true a b = omega arith
cut_cases rest n node cut_node more cut_more true false a b = omega (arith, a)
cut_cases rest n node cut_node more cut_more false y a b = omega (arith, b)

mutual
  pub depth-cut : (path : List (List ℕ)) (node : Node) → directory_depth_of_node (node_without_descendant path node) ≤ directory_depth_of_node node
  depth-cut [] node = omega arith
  depth-cut (name ∷ rest) (file bytes) = omega arith
  depth-cut (name ∷ rest) (link target) = omega arith
  depth-cut (name ∷ rest) (directory names) = omega (arith, depth-cut_names name rest names)
  depth-cut (name ∷ rest) other = omega arith

  depth-cut_names : (name : List ℕ) (rest : List (List ℕ)) (names : Names) → directory_depth_of_entries (entries_without_descendant name rest names) ≤ directory_depth_of_entries names
  depth-cut_names name rest none = omega arith
  depth-cut_names name rest (named n node more) =
      cut_cases rest n node (node_without_descendant rest node) more (entries_without_descendant name rest more) (bytes_eq n name) (is_nil rest) (depth-cut rest node) (depth-cut_names name rest more)

-- an addition stays within the depth for which there is room
pub depth-added : {T E : Type 0} (r : Result T E) (old new : Names) (path : List (List ℕ)) (node : Node) (room : ℕ)
    → OnOk r (directory new ≡ node_with_descendant_added path node (Some (directory old))) → OnErr r (new ≡ old) → length path ≤ room → directory_depth_of_node node ≤ 1 → directory_depth_of_entries old ≤ room → directory_depth_of_entries new ≤ room
depth-added (Ok answer) old new path node room made kept fits shallow before =
    omega (arith, ap directory_depth_of_node made, depth-grown room path node (Some (directory old)) (omega (arith, fits, shallow)) before)
depth-added (Err error) old new path node room made kept fits shallow before = omega (arith, ap directory_depth_of_entries kept, before)

pub kept_names : {T E : Type 0} (r : Result T E) (old new : List Entry) → OnErr r (new ≡ old) → OnErr r (named_nodes_of_entries new ≡ named_nodes_of_entries old)
kept_names (Ok answer) old new kept = tt
kept_names (Err error) old new kept = ap named_nodes_of_entries kept
