-- What the removal of an entry does to the named nodes.
use Rattle.std.proofs.Common.{◌≡◌, ℕ, zero, suc, ◌+◌, ◌<◌, ◌≤◌, List, [], ◌∷◌, length, get_or, set, Some, false, refl, sym, ap, subst, ◌∙◌, ◌⊎◌, inl, inr, arith}
use Rattle.std.specs.List.{AllByRecursion, remove}
use Rattle.std.specs.declared.cmp.Ordering.TheVariants.{Less}
use Rattle.std.proofs.lemmas.Bool.{cases_lt}
use Rattle.std.proofs.lemmas.List.{length-map}
use Rattle.std.proofs.Math.ListN.{get_or-map}
use Rattle.std.proofs.lemmas.List.Edits.{get_or-remove_below, get_or-remove_above, length-remove}
use Rattle.worktree_fs.specs.Tree.{Node, directory, entry_names_in_order, is_nil}
use Rattle.worktree_fs.specs.Grow.{entries_of_node_if_directory}
use Rattle.worktree_fs.specs.Way.{name_at_position, node_at_position, child_entries_at_position, IsWayOfDirectories, entries_reached_by_way, names_along_way_and_position}
use Rattle.worktree_fs.specs.Naming.{IsValidEntryName, IsValidTree}
use Rattle.worktree_fs.specs.Order.{compare_path_bytes, name_at_index_or_empty, AreStrictlyAscending, IsIndexOfName, IsInsertionIndexOfName}
use Rattle.worktree_fs.specs.Stored.{named_nodes_of_entries, AreSortedValidEntries}
use Rattle.worktree_fs.specs.Changes.{node_without_descendant, entries_without_descendant}
use Rattle.worktree_fs.specs.declared.memory.stored.Entry.{Entry}
use Rattle.worktree_fs.proofs.Lists.Order.{names, blank}
use Rattle.worktree_fs.proofs.Trees.Sorted.{sorted_put}
use Rattle.worktree_fs.proofs.Routes.Ways.{nth_in_range, length-names, nth_node_at, is_at, along-more}
use Rattle.worktree_fs.proofs.Trees.Grown.{differs_below, differs_above, same_name, gap_tail, gap_front, d_name}

named_at : (es : List Entry) (k : ℕ) → name_at_index_or_empty (names es) k ≡ (get_or es k blank).name
named_at es k = get_or-map (λ (e : Entry). e.name) es k blank

Moved : List Entry → ℕ → ℕ → Type 0
Moved es i j = ((j < i) × (name_at_index_or_empty (names (remove es i)) j ≡ name_at_index_or_empty (names es) j)) ⊎ ((i ≤ j) × (name_at_index_or_empty (names (remove es i)) j ≡ name_at_index_or_empty (names es) (j + 1)))

moved : (es : List Entry) (i : ℕ) → i < length es → (j : ℕ) → Moved es i j
unfolding Moved
moved es i lt j = elim (cases_lt j i) [
  | inl below ↦ inl (below, named_at (remove es i) j ∙ ap (λ (e : Entry). e.name) (get_or-remove_below es i blank j below lt) ∙ sym (named_at es j))
  | inr above ↦ inr (omega (arith, above), named_at (remove es i) j ∙ ap (λ (e : Entry). e.name) (get_or-remove_above es i blank j (omega (arith, above)) lt) ∙ sym (named_at es (j + 1)))
]

pub rising_remove : (es : List Entry) (i : ℕ) → i < length es → AreStrictlyAscending (names es) → AreStrictlyAscending (names (remove es i))
unfolding Moved
rising_remove es i lt rising j k before in_range =
    let size : length (names (remove es i)) + 1 ≡ length (names es) = omega (arith, length-map (remove es i) (λ (e : Entry). e.name), length-map es (λ (e : Entry). e.name), length-remove es i lt) in
    go (moved es i lt j) (moved es i lt k) (omega (arith, size, in_range))
  where
    at : (a b x y : List ℕ) → a ≡ x → b ≡ y → compare_path_bytes x y ≡ Less → compare_path_bytes a b ≡ Less
    at a b x y p q r = ap (λ (n : List ℕ). compare_path_bytes n b) p ∙ ap (compare_path_bytes x) q ∙ r

    go : Moved es i j → Moved es i k → k + 1 < length (names es) → compare_path_bytes (name_at_index_or_empty (names (remove es i)) j) (name_at_index_or_empty (names (remove es i)) k) ≡ Less
    go (inl a) (inl b) r = at _ _ _ _ a.1 b.1 (rising j k before (omega (arith, r)))
    go (inl a) (inr b) r = at _ _ _ _ a.1 b.1 (rising j (k + 1) (omega (arith, before)) r)
    go (inr a) (inl b) r = absurd (omega (arith, a.0, b.0, before))
    go (inr a) (inr b) r = at _ _ _ _ a.1 b.1 (rising (j + 1) (k + 1) (omega (arith, before)) r)

each_remove : (es : List Entry) (i : ℕ) → AllByRecursion IsValidEntryName (names es) → AllByRecursion IsValidEntryName (names (remove es i))
each_remove [] zero each = each
each_remove [] (suc i) each = each
each_remove (h ∷ es) zero each = each.1
each_remove (h ∷ es) (suc i) each = (each.0, each_remove es i each.1)

trees_remove : (es : List Entry) (i : ℕ) → AllByRecursion (λ e. IsValidTree e.node) es → AllByRecursion (λ e. IsValidTree e.node) (remove es i)
trees_remove [] zero trees = trees
trees_remove [] (suc i) trees = trees
trees_remove (h ∷ es) zero trees = trees.1
trees_remove (h ∷ es) (suc i) trees = (trees.0, trees_remove es i trees.1)

pub sorted_remove : (es : List Entry) (i : ℕ) → i < length es → AreSortedValidEntries es → AreSortedValidEntries (remove es i)
sorted_remove es i lt sorted = record { rising = rising_remove es i lt sorted.rising; each = each_remove es i sorted.each; trees = trees_remove es i sorted.trees }

pub cut_gap : (es : List Entry) (x : List ℕ) (rest : List (List ℕ)) (i : ℕ) → IsInsertionIndexOfName (names es) x i → entries_without_descendant x rest (named_nodes_of_entries es) ≡ named_nodes_of_entries es
cut_gap [] x rest i gap = refl
cut_gap (e ∷ es) x rest zero gap =
    let no = differs_above e.name x (gap.above zero (omega arith) (omega arith)) in
    let ih = cut_gap es x rest zero (gap_front e.name (names es) x gap) in
    grind arith
cut_gap (e ∷ es) x rest (suc i) gap =
    let no = differs_below e.name x (gap.below zero (omega arith)) in
    let ih = cut_gap es x rest i (gap_tail e.name (names es) x i gap) in
    grind arith

cut_remove : (es : List Entry) (x : List ℕ) (i : ℕ) (d : Entry) → i < length es → (get_or es i d).name ≡ x → ((j : ℕ) → j < i → compare_path_bytes (name_at_index_or_empty (names es) j) x ≡ Less) → named_nodes_of_entries (remove es i) ≡ entries_without_descendant x [] (named_nodes_of_entries es)
cut_remove [] x i d lt is below = absurd (omega arith)
cut_remove (h ∷ es) x zero d lt is below =
    let yes = same_name h.name x is in
    grind arith
cut_remove (h ∷ es) x (suc i) d lt is below =
    let no = differs_below h.name x (below zero (omega arith)) in
    let ih = cut_remove es x i d (omega arith) is (λ j l. below (suc j) (omega arith)) in
    grind arith

cut_set : (es : List Entry) (x : List ℕ) (rest : List (List ℕ)) (i : ℕ) (d e : Entry) → is_nil rest ≡ false → i < length es → (get_or es i d).name ≡ x → e.name ≡ (get_or es i d).name → e.node ≡ node_without_descendant rest (get_or es i d).node
    → ((j : ℕ) → j < i → compare_path_bytes (name_at_index_or_empty (names es) j) x ≡ Less) → named_nodes_of_entries (set es i e) ≡ entries_without_descendant x rest (named_nodes_of_entries es)
cut_set [] x rest i d e more lt is same node below = absurd (omega arith)
cut_set (h ∷ es) x rest zero d e more lt is same node below =
    let yes = same_name h.name x is in
    grind arith
cut_set (h ∷ es) x rest (suc i) d e more lt is same node below =
    let no = differs_below h.name x (below zero (omega arith)) in
    let ih = cut_set es x rest i d e more (omega arith) is same node (λ j l. below (suc j) (omega arith)) in
    grind arith

each_at : (es : List Entry) (i : ℕ) (d : Entry) → i < length es → AllByRecursion IsValidEntryName (names es) → IsValidEntryName (get_or es i d).name
each_at [] i d lt each = absurd (omega arith)
each_at (h ∷ es) zero d lt each = each.0
each_at (h ∷ es) (suc i) d lt each = each_at es i d (omega arith) each.1

module _ (es : List Entry) (rising : AreStrictlyAscending (names es)) (x : List ℕ) (i : ℕ) (at : IsIndexOfName (names es) x i) where
  pub in_es : i < length es
  in_es = omega (arith, at.in_range, length-map es (λ (e : Entry). e.name))

  lower : (j : ℕ) → j < i → compare_path_bytes (name_at_index_or_empty (names es) j) x ≡ Less
  lower j lt = subst (λ (n : List ℕ). compare_path_bytes (name_at_index_or_empty (names es) j) n ≡ Less) at.is (rising j i lt at.in_range)

  pub cut_here : named_nodes_of_entries (remove es i) ≡ entries_without_descendant x [] (named_nodes_of_entries es)
  cut_here = cut_remove es x i blank in_es (sym (named_at es i) ∙ at.is) lower

  at_name : (d : Entry) → d ≡ get_or es i d → (get_or es i d).name ≡ x
  at_name d is = sym (ap (λ (e : Entry). e.name) is) ∙ d_name es rising x i at d is

  pub cut_there : (d : Entry) → d ≡ get_or es i d → (rest : List (List ℕ)) (made : Node) → is_nil rest ≡ false → made ≡ node_without_descendant rest d.node
      → named_nodes_of_entries (set es i (record { name = d.name; node = made })) ≡ entries_without_descendant x rest (named_nodes_of_entries es)
  cut_there d is rest made more e =
      cut_set es x rest i d (record { name = d.name; node = made }) more in_es (at_name d is) (ap (λ (e : Entry). e.name) is) (e ∙ ap (λ (e : Entry). node_without_descendant rest e.node) is) lower

  pub name_there : (d : Entry) → d ≡ get_or es i d → AllByRecursion IsValidEntryName (names es) → IsValidEntryName x
  name_there d is each = subst IsValidEntryName (at_name d is) (each_at es i d in_es each)

-- the node behind the first step of a way, and the removal there
module _ (es : List Entry) (way : List ℕ) (first : ℕ) (rest : List ℕ) (at : ℕ) (e : way ≡ first ∷ rest) (all : IsWayOfDirectories way (named_nodes_of_entries es)) (there : at < length (entry_names_in_order (entries_reached_by_way way (named_nodes_of_entries es)))) where
  all_steps : IsWayOfDirectories (first ∷ rest) (named_nodes_of_entries es)
  all_steps = subst (λ (w : List ℕ). IsWayOfDirectories w (named_nodes_of_entries es)) e all

  pub first_in_range : first < length es
  first_in_range = omega (arith, nth_in_range (named_nodes_of_entries es) first (child_entries_at_position (named_nodes_of_entries es) first) all_steps.0, length-names es)

  module _ (d : Entry) (value : d ≡ get_or es first d) where
    node_is : node_at_position (named_nodes_of_entries es) first ≡ d.node
    node_is = nth_node_at es first d first_in_range value

    pub step_directory : d.node ≡ directory (entries_of_node_if_directory (Some d.node))
    step_directory = sym node_is ∙ all_steps.0 ∙ ap (λ (n : Node). directory (entries_of_node_if_directory (Some n))) node_is

    pub step_way : IsWayOfDirectories rest (entries_of_node_if_directory (Some d.node))
    step_way = subst (λ (n : Node). IsWayOfDirectories rest (entries_of_node_if_directory (Some n))) node_is all_steps.1

    pub step_there : at < length (entry_names_in_order (entries_reached_by_way rest (entries_of_node_if_directory (Some d.node))))
    step_there =
        subst (λ (n : Node). at < length (entry_names_in_order (entries_reached_by_way rest (entries_of_node_if_directory (Some n))))) node_is
        (subst (λ (w : List ℕ). at < length (entry_names_in_order (entries_reached_by_way w (named_nodes_of_entries es)))) e there)

    pub step_cut : AreStrictlyAscending (names es) → (made : Node) → made ≡ node_without_descendant (names_along_way_and_position rest at (entries_of_node_if_directory (Some d.node))) d.node
        → directory (named_nodes_of_entries (set es first (record { name = d.name; node = made }))) ≡ node_without_descendant (names_along_way_and_position way at (named_nodes_of_entries es)) (directory (named_nodes_of_entries es))
    step_cut rising made ih =
        ap directory (cut_there es rising (name_at_position (named_nodes_of_entries es) first) first (is_at es first first_in_range) d value
        (names_along_way_and_position rest at (entries_of_node_if_directory (Some d.node))) made (along-more rest at (entries_of_node_if_directory (Some d.node))) ih)
        ∙ ap (λ (n : Node). directory (entries_without_descendant (name_at_position (named_nodes_of_entries es) first) (names_along_way_and_position rest at (entries_of_node_if_directory (Some n))) (named_nodes_of_entries es))) (sym node_is)
        ∙ sym (ap (λ (w : List ℕ). node_without_descendant (names_along_way_and_position w at (named_nodes_of_entries es)) (directory (named_nodes_of_entries es))) e)

    pub step_sorted : AreSortedValidEntries es → (made : Node) → IsValidTree made → AreSortedValidEntries (set es first (record { name = d.name; node = made }))
    step_sorted sorted made tree =
        sorted_put es sorted (name_at_position (named_nodes_of_entries es) first) first
        (name_there es sorted.rising (name_at_position (named_nodes_of_entries es) first) first (is_at es first first_in_range) d value sorted.each)
        (is_at es first first_in_range) d value made tree

-- the removal in the directory itself
module _ (es : List Entry) (way : List ℕ) (at : ℕ) (e : way ≡ []) (there : at < length (entry_names_in_order (entries_reached_by_way way (named_nodes_of_entries es)))) where
  pub last_in_range : at < length es
  last_in_range = omega (arith, subst (λ (w : List ℕ). at < length (entry_names_in_order (entries_reached_by_way w (named_nodes_of_entries es)))) e there, length-names es)

  pub last_cut : AreStrictlyAscending (names es) → directory (named_nodes_of_entries (remove es at)) ≡ node_without_descendant (names_along_way_and_position way at (named_nodes_of_entries es)) (directory (named_nodes_of_entries es))
  last_cut rising =
      ap directory (cut_here es rising (name_at_position (named_nodes_of_entries es) at) at (is_at es at last_in_range))
      ∙ sym (ap (λ (w : List ℕ). node_without_descendant (names_along_way_and_position w at (named_nodes_of_entries es)) (directory (named_nodes_of_entries es))) e)
