-- Ways down a tree.
use Rattle.std.proofs.Math.Seq.{take-suc}
use Rattle.std.proofs.Common.{◌≡◌, ℕ, zero, suc, ◌+◌, ◌<◌, ◌≤◌, List, [], ◌∷◌, ◌++◌, length, get_or, reverse, take, slice_index, append_assoc, Bool, true, false, if◌then◌else◌, Option, Some, refl, sym, ap, ◌∙◌, arith, subst}
use Rattle.std.proofs.lemmas.List.{length-map}
use Rattle.std.proofs.Math.ListN.{get_or-map}
use Rattle.std.specs.declared.cmp.Ordering.TheVariants.{Less}
use mathlib.Core.List.{reverse-cons}
use Rattle.worktree_fs.specs.Tree.{Node, Names, ParentWithChildName, DirectoryWithParents, PathResolution, directory, other, none, named, entry_names_in_order, child_by_name, child_directory_with_parents, parent_directory_or_root, root_above_directory, reversed_names_from_root, is_nil, is_directory, is_dot, is_dot_dot, resolve_components_within_links, resolve_from_node, resolver_continuations, link_resolver_with_limit}
use Rattle.worktree_fs.specs.Grow.{entries_of_node_if_directory}
use Rattle.worktree_fs.specs.Order.{compare_path_bytes, name_at_index_or_empty, AreStrictlyAscending, IsIndexOfName}
use Rattle.worktree_fs.specs.Stored.{named_nodes_of_entries, tree_node_of_inner, AreSortedValidEntries}
use Rattle.worktree_fs.specs.declared.memory.stored.Inner.{Inner}
use Rattle.worktree_fs.specs.declared.memory.stored.Inner.TheVariants as stored
use Rattle.worktree_fs.specs.Way.{name_at_position, node_at_position, child_entries_at_position, IsWayOfDirectories, entries_reached_by_way, parents_along_way, directory_reached_by_way, names_along_way_and_position, directory_depth_of_node, directory_depth_of_entries, IsDirectoryAtEndOfWay, IsNonDirectoryAtPosition, TurnFitsWay}
use Rattle.worktree_fs.specs.declared.memory.stored.Entry.{Entry}
use Rattle.worktree_fs.specs.declared.memory.trace.Turn.{Turn}
use Rattle.worktree_fs.specs.declared.memory.trace.Turn.TheVariants as turns
use Rattle.worktree_fs.proofs.Lists.Order.{names, blank}
use Rattle.worktree_fs.proofs.Trees.Grown.{child_at}

-- what is at a position of entries
pub nth_name : (es : List Entry) (i : ℕ) (d : Entry) → i < length es → name_at_position (named_nodes_of_entries es) i ≡ (get_or es i d).name
nth_name [] i d lt = absurd (omega arith)
nth_name (e ∷ es) zero d lt = refl
nth_name (e ∷ es) (suc i) d lt = nth_name es i d (omega arith)

pub nth_node : (es : List Entry) (i : ℕ) (d : Entry) → i < length es → node_at_position (named_nodes_of_entries es) i ≡ (get_or es i d).node
nth_node [] i d lt = absurd (omega arith)
nth_node (e ∷ es) zero d lt = refl
nth_node (e ∷ es) (suc i) d lt = nth_node es i d (omega arith)

pub nth_none : (es : List Entry) (i : ℕ) → length es ≤ i → node_at_position (named_nodes_of_entries es) i ≡ other
nth_none [] i le = refl
nth_none (e ∷ es) zero le = absurd (omega arith)
nth_none (e ∷ es) (suc i) le = nth_none es i (omega arith)

pub name_none : (es : List Entry) (i : ℕ) → length es ≤ i → name_at_position (named_nodes_of_entries es) i ≡ []
name_none [] i le = refl
name_none (e ∷ es) zero le = absurd (omega arith)
name_none (e ∷ es) (suc i) le = name_none es i (omega arith)

pub length-names : (es : List Entry) → length (entry_names_in_order (named_nodes_of_entries es)) ≡ length es
length-names [] = refl
length-names (e ∷ es) = ap suc (length-names es)

pub nth_in_range : (names : Names) (i : ℕ) (inner : Names) → node_at_position names i ≡ directory inner → i < length (entry_names_in_order names)
nth_in_range none i inner e = absurd (cc e)
nth_in_range (named n node rest) zero inner e = omega arith
nth_in_range (named n node rest) (suc i) inner e = omega (arith, nth_in_range rest i inner e)

pub nth_name_at : (es : List Entry) (i : ℕ) (d : Entry) → i < length es → d ≡ get_or es i d → name_at_position (named_nodes_of_entries es) i ≡ d.name
nth_name_at es i d lt is = nth_name es i d lt ∙ ap (λ (e : Entry). e.name) (sym is)

pub nth_node_at : (es : List Entry) (i : ℕ) (d : Entry) → i < length es → d ≡ get_or es i d → node_at_position (named_nodes_of_entries es) i ≡ d.node
nth_node_at es i d lt is = nth_node es i d lt ∙ ap (λ (e : Entry). e.node) (sym is)

-- a directory that is none holds nothing
pub dir_of_other : (names : Names) (i : ℕ) → node_at_position names i ≡ other → child_entries_at_position names i ≡ none
dir_of_other names i e = ap (λ (n : Node). entries_of_node_if_directory (Some n)) e

named_at : (es : List Entry) (k : ℕ) → name_at_index_or_empty (names es) k ≡ (get_or es k blank).name
named_at es k = get_or-map (λ (e : Entry). e.name) es k blank

-- a search finds the name and the node at a position
module _ (es : List Entry) (rising : AreStrictlyAscending (names es)) (x : List ℕ) (i : ℕ) (at : IsIndexOfName (names es) x i) where
  pub at_range : i < length es
  at_range = omega (arith, at.in_range, length-map es (λ (e : Entry). e.name))

  pub at_name : name_at_position (named_nodes_of_entries es) i ≡ x
  at_name = nth_name es i blank at_range ∙ sym (named_at es i) ∙ at.is

  lower : (j : ℕ) → j < i → compare_path_bytes (name_at_index_or_empty (names es) j) x ≡ Less
  lower j lt = subst (λ (n : List ℕ). compare_path_bytes (name_at_index_or_empty (names es) j) n ≡ Less) at.is (rising j i lt at.in_range)

  pub at_child : child_by_name (named_nodes_of_entries es) x ≡ Some (node_at_position (named_nodes_of_entries es) i)
  at_child =
      child_at es x i blank at_range (sym (named_at es i) ∙ at.is) lower
      ∙ ap (λ (n : Node). Some n) (sym (nth_node es i blank at_range))

pub is_at : (es : List Entry) (i : ℕ) → i < length es → IsIndexOfName (names es) (name_at_position (named_nodes_of_entries es) i) i
is_at es i lt = record {
  in_range = omega (arith, lt, length-map es (λ (e : Entry). e.name));
  is = named_at es i ∙ sym (nth_name es i blank lt);
}

-- one position more
pub here-push : (way : List ℕ) (i : ℕ) (here : Names) → entries_reached_by_way (way ++ i ∷ []) here ≡ child_entries_at_position (entries_reached_by_way way here) i
here-push [] i here = refl
here-push (j ∷ way) i here = here-push way i (child_entries_at_position here j)

pub above-push : (way : List ℕ) (i : ℕ) (here : Names) (above : List ParentWithChildName)
    → parents_along_way (way ++ i ∷ []) here above ≡ record { holds = entries_reached_by_way way here; name = name_at_position (entries_reached_by_way way here) i } ∷ parents_along_way way here above
above-push [] i here above = refl
above-push (j ∷ way) i here above = above-push way i (child_entries_at_position here j) (record { holds = here; name = name_at_position here j } ∷ above)

pub way-push : (way : List ℕ) (i : ℕ) (here : Names) → IsWayOfDirectories way here → node_at_position (entries_reached_by_way way here) i ≡ directory (child_entries_at_position (entries_reached_by_way way here) i) → IsWayOfDirectories (way ++ i ∷ []) here
way-push [] i here all is = (is, tt)
way-push (j ∷ way) i here all is = (all.0, way-push way i (child_entries_at_position here j) all.1 is)

pub way-pop : (way : List ℕ) (i : ℕ) (here : Names) → IsWayOfDirectories (way ++ i ∷ []) here → IsWayOfDirectories way here
way-pop [] i here all = tt
way-pop (j ∷ way) i here all = (all.0, way-pop way i (child_entries_at_position here j) all.1)

abbrev place : Names → List ParentWithChildName → DirectoryWithParents
place here above = record { here = here; above = above }

pub place-push : (root : Names) (way : List ℕ) (i : ℕ) → directory_reached_by_way root (way ++ i ∷ []) ≡ child_directory_with_parents (directory_reached_by_way root way) (name_at_position (entries_reached_by_way way root) i) (child_entries_at_position (entries_reached_by_way way root) i)
place-push root way i =
    ap (λ (h : Names). place h (parents_along_way (way ++ i ∷ []) root [])) (here-push way i root)
    ∙ ap (place (child_entries_at_position (entries_reached_by_way way root) i)) (above-push way i root [])

pub parent_place-push : (root : Names) (way : List ℕ) (i : ℕ) → directory_reached_by_way root way ≡ parent_directory_or_root (directory_reached_by_way root (way ++ i ∷ []))
parent_place-push root way i = sym (ap parent_directory_or_root (place-push root way i))

root-way : (way : List ℕ) (here : Names) (above : List ParentWithChildName) → root_above_directory (place (entries_reached_by_way way here) (parents_along_way way here above)) ≡ root_above_directory (place here above)
root-way [] here above = refl
root-way (i ∷ way) here above = root-way way (child_entries_at_position here i) (record { holds = here; name = name_at_position here i } ∷ above)

pub root-place : (root : Names) (way : List ℕ) → root_above_directory (directory_reached_by_way root way) ≡ directory_reached_by_way root []
root-place root way = root-way way root []

-- a way is no longer than the tree is deep
pub depth-nth : (names : Names) (i : ℕ) (inner : Names) → node_at_position names i ≡ directory inner → suc (directory_depth_of_entries inner) ≤ directory_depth_of_entries names
depth-nth none i inner e = absurd (cc e)
depth-nth (named n node rest) zero inner e = omega (arith, ap directory_depth_of_node e)
depth-nth (named n node rest) (suc i) inner e = omega (arith, depth-nth rest i inner e)

pub depth-way : (way : List ℕ) (here : Names) → IsWayOfDirectories way here → length way + directory_depth_of_entries (entries_reached_by_way way here) ≤ directory_depth_of_entries here
depth-way [] here all = omega arith
depth-way (i ∷ way) here all = omega (arith, depth-way way (child_entries_at_position here i) all.1, depth-nth here i (child_entries_at_position here i) all.0)

-- the names of a way are those through which it goes down
along : (way : List ℕ) (i : ℕ) (here : Names) (above : List ParentWithChildName)
    → reverse (name_at_position (entries_reached_by_way way here) i ∷ reversed_names_from_root (place (entries_reached_by_way way here) (parents_along_way way here above))) ≡ reverse (reversed_names_from_root (place here above)) ++ names_along_way_and_position way i here
along [] i here above = reverse-cons (name_at_position here i) (reversed_names_from_root (place here above))
along (j ∷ way) i here above =
    along way i (child_entries_at_position here j) (record { holds = here; name = name_at_position here j } ∷ above)
    ∙ ap (λ (l : List (List ℕ)). l ++ names_along_way_and_position way i (child_entries_at_position here j)) (reverse-cons (name_at_position here j) (reversed_names_from_root (place here above)))
    ∙ append_assoc (reverse (reversed_names_from_root (place here above))) (name_at_position here j ∷ []) (names_along_way_and_position way i (child_entries_at_position here j))

pub along-way : (root : Names) (way : List ℕ) (i : ℕ) → reverse (name_at_position (entries_reached_by_way way root) i ∷ reversed_names_from_root (directory_reached_by_way root way)) ≡ names_along_way_and_position way i root
along-way root way i = along way i root []

pub along-more : (way : List ℕ) (i : ℕ) (here : Names) → is_nil (names_along_way_and_position way i here) ≡ false
along-more [] i here = refl
along-more (j ∷ way) i here = refl

-- what stands at the end of a way that goes down by one position more
module _ (root dir inner : List Entry) (way : List ℕ) (i : ℕ) (stands : IsDirectoryAtEndOfWay root dir way) (is : node_at_position (named_nodes_of_entries dir) i ≡ directory (named_nodes_of_entries inner)) where
  there : node_at_position (entries_reached_by_way way (named_nodes_of_entries root)) i ≡ directory (named_nodes_of_entries inner)
  there = ap (λ (h : Names). node_at_position h i) stands.here ∙ is

  inner_is : child_entries_at_position (entries_reached_by_way way (named_nodes_of_entries root)) i ≡ named_nodes_of_entries inner
  inner_is = ap (λ (n : Node). entries_of_node_if_directory (Some n)) there

  pub room_down : (capacity : ℕ) → directory_depth_of_entries (named_nodes_of_entries root) ≤ capacity → length way < capacity
  room_down capacity room = omega (arith, room, depth-way way (named_nodes_of_entries root) stands.is_way, depth-nth (entries_reached_by_way way (named_nodes_of_entries root)) i (named_nodes_of_entries inner) there)

  pub stands_down : (more : List ℕ) → more ≡ way ++ i ∷ [] → AreSortedValidEntries inner → IsDirectoryAtEndOfWay root inner more
  stands_down more e sorted = record {
    is_way = subst (λ (w : List ℕ). IsWayOfDirectories w (named_nodes_of_entries root)) (sym e) (way-push way i (named_nodes_of_entries root) stands.is_way (there ∙ sym (ap directory inner_is)));
    here = ap (λ (w : List ℕ). entries_reached_by_way w (named_nodes_of_entries root)) e ∙ here-push way i (named_nodes_of_entries root) ∙ inner_is;
    sorted = sorted;
  }

  pub place_down : (more : List ℕ) → more ≡ way ++ i ∷ [] → child_directory_with_parents (directory_reached_by_way (named_nodes_of_entries root) way) (name_at_position (named_nodes_of_entries dir) i) (named_nodes_of_entries inner) ≡ directory_reached_by_way (named_nodes_of_entries root) more
  place_down more e =
      ap (λ (h : Names). child_directory_with_parents (directory_reached_by_way (named_nodes_of_entries root) way) (name_at_position h i) (named_nodes_of_entries inner)) (sym stands.here)
      ∙ ap (child_directory_with_parents (directory_reached_by_way (named_nodes_of_entries root) way) (name_at_position (entries_reached_by_way way (named_nodes_of_entries root)) i)) (sym inner_is)
      ∙ sym (place-push (named_nodes_of_entries root) way i)
      ∙ ap (directory_reached_by_way (named_nodes_of_entries root)) (sym e)

-- a node that is no directory
pub leaf_at : (root dir : List Entry) (way : List ℕ) (i : ℕ) (node : Node) → IsDirectoryAtEndOfWay root dir way → i < length dir → node_at_position (named_nodes_of_entries dir) i ≡ node → is_directory node ≡ false
    → IsWayOfDirectories way (named_nodes_of_entries root) × IsNonDirectoryAtPosition (entries_reached_by_way way (named_nodes_of_entries root)) i
leaf_at root dir way i node stands lt is leaf = (
  stands.is_way,
  record {
    in_range = omega (arith, lt, ap (λ (h : Names). length (entry_names_in_order h)) stands.here, length-names dir);
    no_directory = ap is_directory (ap (λ (h : Names). node_at_position h i) stands.here ∙ is) ∙ leaf;
  },
)

-- the directory above
pub stands_up : (root dir : List Entry) (way more : List ℕ) (i : ℕ) → IsWayOfDirectories more (named_nodes_of_entries root) → more ≡ way ++ i ∷ [] → entries_reached_by_way way (named_nodes_of_entries root) ≡ named_nodes_of_entries dir → AreSortedValidEntries dir → IsDirectoryAtEndOfWay root dir way
stands_up root dir way more i all e here sorted = record {
  is_way = way-pop way i (named_nodes_of_entries root) (subst (λ (w : List ℕ). IsWayOfDirectories w (named_nodes_of_entries root)) e all);
  here = here;
  sorted = sorted;
}

pub place_up : (root : Names) (way more : List ℕ) (i : ℕ) → more ≡ way ++ i ∷ [] → directory_reached_by_way root way ≡ parent_directory_or_root (directory_reached_by_way root more)
place_up root way more i e = parent_place-push root way i ∙ ap (λ (w : List ℕ). parent_directory_or_root (directory_reached_by_way root w)) (sym e)

take_next : (way : List ℕ) (k : ℕ) → k < length way → take (k + 1) way ≡ take k way ++ slice_index way k ∷ []
take_next way k lt =
    let s : k + 1 ≡ suc k = omega arith in
    ap (λ n. take n way) s ∙ take-suc way k 0 lt

-- along a way, from one directory to the next
pub here-take : (way : List ℕ) (k : ℕ) (root dir next : Names) → k < length way → entries_reached_by_way (take k way) root ≡ dir → next ≡ child_entries_at_position dir (slice_index way k) → entries_reached_by_way (take (k + 1) way) root ≡ next
here-take way k root dir next lt here is =
    ap (λ w. entries_reached_by_way w root) (take_next way k lt)
    ∙ here-push (take k way) (slice_index way k) root
    ∙ ap (λ (h : Names). child_entries_at_position h (slice_index way k)) here
    ∙ sym is

pub trail-take : (way : List ℕ) (k : ℕ) (root dir : Names) → k < length way → entries_reached_by_way (take k way) root ≡ dir
    → reversed_names_from_root (directory_reached_by_way root (take (k + 1) way)) ≡ name_at_position dir (slice_index way k) ∷ reversed_names_from_root (directory_reached_by_way root (take k way))
trail-take way k root dir lt here =
    ap (λ w. reversed_names_from_root (directory_reached_by_way root w)) (take_next way k lt)
    ∙ ap reversed_names_from_root (place-push root (take k way) (slice_index way k))
    ∙ ap (λ (h : Names). name_at_position h (slice_index way k) ∷ reversed_names_from_root (directory_reached_by_way root (take k way))) here

-- a component leads on from the node of its name
third : (x y : Bool) (a b c : PathResolution) → x ≡ false → y ≡ false → (if x then a else if y then b else c) ≡ c
third false false a b c e f = refl
third false true a b c e f = absurd (cc f)
third true y a b c e f = absurd (cc e)

pub component-leads : (links : ℕ) (follow : Bool) (at : DirectoryWithParents) (component : List ℕ) (rest : List (List ℕ)) (o : Option Node) → is_dot component ≡ false → is_dot_dot component ≡ false → child_by_name at.here component ≡ o
    → resolve_components_within_links links follow at (component ∷ rest) ≡ resolve_from_node (resolver_continuations (λ p. resolve_components_within_links links follow p rest) (link_resolver_with_limit links follow) follow) at rest component o
component-leads links follow at component rest o dot up is =
    third (is_dot component) (is_dot_dot component) (resolve_components_within_links links follow at rest) (resolve_components_within_links links follow (parent_directory_or_root at) rest)
    (resolve_from_node (resolver_continuations (λ p. resolve_components_within_links links follow p rest) (link_resolver_with_limit links follow) follow) at rest component (child_by_name at.here component)) dot up
    ∙ ap (λ (n : Option Node). resolve_from_node (resolver_continuations (λ p. resolve_components_within_links links follow p rest) (link_resolver_with_limit links follow) follow) at rest component n) is

-- a file or another node that ends a path is no directory
pub leaf_stands : (root : List Entry) (way : List ℕ) (i : ℕ) (b : Bool) (turn : Turn) → IsWayOfDirectories way (named_nodes_of_entries root) × IsNonDirectoryAtPosition (entries_reached_by_way way (named_nodes_of_entries root)) i → turn ≡ (if b then turns.Node i else turns.Nowhere) → TurnFitsWay root way turn
leaf_stands root way i true turn leaf e = subst (TurnFitsWay root way) (sym e) leaf
leaf_stands root way i false turn leaf e = subst (TurnFitsWay root way) (sym e) leaf.0

-- what is no directory holds no names
pub no_directory : (inner : Inner) → ((entries : _) → inner ≡ stored.Directory entries → ⊥) → entries_of_node_if_directory (Some (tree_node_of_inner inner)) ≡ none
no_directory (stored.File bytes) not = refl
no_directory (stored.Link target) not = refl
no_directory (stored.Directory entries) not = absurd (not entries refl)
no_directory stored.Other not = refl
