-- What an insert or a change among sorted entries does to the named nodes.
use Rattle.std.proofs.Common.{◌≡◌, ℕ, zero, suc, ◌+◌, ◌<◌, ◌≤◌, List, [], ◌∷◌, length, get_or, set, Some, None, true, false, get_or-set_same, get_or-set_other, refl, sym, ap, subst, ◌∙◌, ◌⊎◌, inl, inr, arith}
use Rattle.std.specs.List.{insert}
use Rattle.std.specs.Str.{bytes_eq}
use Rattle.std.specs.Ordering.{is_lt, is_eq, ordering_reverse}
use Rattle.std.specs.declared.cmp.Ordering.TheVariants.{Less, Equal, Greater}
use Rattle.std.proofs.lemmas.Cmp.{nat_list_cmp_total}
use Rattle.std.proofs.lemmas.Map.Text.{is_eq-slice_cmp}
use Rattle.std.proofs.lemmas.Bool.{cases_lt, cases_eq}
use Rattle.std.proofs.Math.ListN.{get_or-map, length-set}
use Rattle.std.proofs.lemmas.List.{length-map, get_or-map as get_or-map_any}
use Rattle.std.proofs.lemmas.Bool.Decides.{nat_tests}
use Rattle.std.proofs.lemmas.List.Edits.{get_or-insert_below, get_or-insert_at, get_or-insert_above, length-insert}
use Rattle.worktree_fs.specs.Tree.{Node, none, named, child_by_name, directory}
use Rattle.worktree_fs.specs.Order.{compare_path_bytes, name_at_index_or_empty, AreStrictlyAscending, IsIndexOfName, IsInsertionIndexOfName}
use Rattle.worktree_fs.specs.Stored.{named_nodes_of_entries}
use Rattle.worktree_fs.specs.Grow.{entries_with_node_at_name, node_with_descendant_added}
use Rattle.worktree_fs.specs.declared.memory.stored.Entry.{Entry}
use Rattle.worktree_fs.proofs.Lists.Order.{names, blank}

-- what the order says of the tests
pub differs_below : (a x : List ℕ) → compare_path_bytes a x ≡ Less → bytes_eq a x ≡ false
differs_below a x e = sym (is_eq-slice_cmp a x) ∙ ap is_eq e

pub differs_above : (a x : List ℕ) → compare_path_bytes a x ≡ Greater → bytes_eq a x ≡ false
differs_above a x e = sym (is_eq-slice_cmp a x) ∙ ap is_eq e

pub same_name : (a x : List ℕ) → a ≡ x → bytes_eq a x ≡ true
same_name a x e = sym (is_eq-slice_cmp a x) ∙ ap is_eq (ap (λ (b : List ℕ). compare_path_bytes b x) e ∙ itself x)
  where
    itself : (x : List ℕ) → compare_path_bytes x x ≡ Equal
    itself [] = refl
    itself (b ∷ x) =
        let ih = itself x in
        grind (arith, nat_tests)

turned : (a x : List ℕ) → compare_path_bytes x a ≡ ordering_reverse (compare_path_bytes a x)
turned a x = nat_list_cmp_total.antisymm x a

not_before : (a x : List ℕ) → compare_path_bytes a x ≡ Less → is_lt (compare_path_bytes x a) ≡ false
not_before a x e = ap is_lt (turned a x ∙ ap ordering_reverse e)

before : (a x : List ℕ) → compare_path_bytes a x ≡ Greater → is_lt (compare_path_bytes x a) ≡ true
before a x e = ap is_lt (turned a x ∙ ap ordering_reverse e)

pub gap_tail : (n : List ℕ) (ns : List (List ℕ)) (x : List ℕ) (i : ℕ) → IsInsertionIndexOfName (n ∷ ns) x (suc i) → IsInsertionIndexOfName ns x i
gap_tail n ns x i gap = record { in_range = omega (arith, gap.in_range); below = λ j lt. gap.below (suc j) (omega arith); above = λ j le lt. gap.above (suc j) (omega arith) (omega arith) }

pub gap_front : (n : List ℕ) (ns : List (List ℕ)) (x : List ℕ) → IsInsertionIndexOfName (n ∷ ns) x zero → IsInsertionIndexOfName ns x zero
gap_front n ns x gap = record { in_range = omega arith; below = λ j lt. absurd (omega arith); above = λ j le lt. gap.above (suc j) (omega arith) (omega arith) }

pub child_gap : (es : List Entry) (x : List ℕ) (i : ℕ) → IsInsertionIndexOfName (names es) x i → child_by_name (named_nodes_of_entries es) x ≡ None
child_gap [] x i gap = refl
child_gap (e ∷ es) x zero gap =
    let no = differs_above e.name x (gap.above zero (omega arith) (omega arith)) in
    let ih = child_gap es x zero (gap_front e.name (names es) x gap) in
    grind arith
child_gap (e ∷ es) x (suc i) gap =
    let no = differs_below e.name x (gap.below zero (omega arith)) in
    let ih = child_gap es x i (gap_tail e.name (names es) x i gap) in
    grind arith

pub put_gap : (es : List Entry) (x : List ℕ) (i : ℕ) (e : Entry) → e.name ≡ x → IsInsertionIndexOfName (names es) x i → named_nodes_of_entries (insert es i e) ≡ entries_with_node_at_name x e.node (named_nodes_of_entries es)
put_gap [] x zero e is gap = ap (λ (n : List ℕ). named n e.node none) is
put_gap [] x (suc i) e is gap = ap (λ (n : List ℕ). named n e.node none) is
put_gap (h ∷ es) x zero e is gap =
    let greater = gap.above zero (omega arith) (omega arith) in
    let no = differs_above h.name x greater in
    let lt = before h.name x greater in
    grind arith
put_gap (h ∷ es) x (suc i) e is gap =
    let less = gap.below zero (omega arith) in
    let no = differs_below h.name x less in
    let ge = not_before h.name x less in
    let ih = put_gap es x i e is (gap_tail h.name (names es) x i gap) in
    grind arith

-- the entry of a name, and another in its place
pub child_at : (es : List Entry) (x : List ℕ) (i : ℕ) (d : Entry) → i < length es → (get_or es i d).name ≡ x → ((j : ℕ) → j < i → compare_path_bytes (name_at_index_or_empty (names es) j) x ≡ Less) → child_by_name (named_nodes_of_entries es) x ≡ Some (get_or es i d).node
child_at [] x i d lt is below = absurd (omega arith)
child_at (h ∷ es) x zero d lt is below =
    let yes = same_name h.name x is in
    grind arith
child_at (h ∷ es) x (suc i) d lt is below =
    let no = differs_below h.name x (below zero (omega arith)) in
    let ih = child_at es x i d (omega arith) is (λ j l. below (suc j) (omega arith)) in
    grind arith

pub put_set : (es : List Entry) (x : List ℕ) (i : ℕ) (d e : Entry) → i < length es → (get_or es i d).name ≡ x → e.name ≡ x → ((j : ℕ) → j < i → compare_path_bytes (name_at_index_or_empty (names es) j) x ≡ Less) → named_nodes_of_entries (set es i e) ≡ entries_with_node_at_name x e.node (named_nodes_of_entries es)
put_set [] x i d e lt is same below = absurd (omega arith)
put_set (h ∷ es) x zero d e lt is same below =
    let yes = same_name h.name x is in
    grind arith
put_set (h ∷ es) x (suc i) d e lt is same below =
    let less = below zero (omega arith) in
    let no = differs_below h.name x less in
    let ge = not_before h.name x less in
    let ih = put_set es x i d e (omega arith) is same (λ j l. below (suc j) (omega arith)) in
    grind arith

named_at : (es : List Entry) (k : ℕ) → name_at_index_or_empty (names es) k ≡ (get_or es k blank).name
named_at es k = get_or-map (λ (e : Entry). e.name) es k blank

pub rising_set : (es : List Entry) (i : ℕ) (e : Entry) → i < length es → e.name ≡ (get_or es i blank).name → AreStrictlyAscending (names es) → AreStrictlyAscending (names (set es i e))
rising_set es i e lt same rising j k before in_range =
    let size : length (names (set es i e)) ≡ length (names es) = length-map (set es i e) (λ (e : Entry). e.name) ∙ length-set es i e ∙ sym (length-map es (λ (e : Entry). e.name)) in
    ap (λ (n : List ℕ). compare_path_bytes n (name_at_index_or_empty (names (set es i e)) k)) (kept j) ∙ ap (compare_path_bytes (name_at_index_or_empty (names es) j)) (kept k) ∙ rising j k before (omega arith)
  where
    kept : (j : ℕ) → name_at_index_or_empty (names (set es i e)) j ≡ name_at_index_or_empty (names es) j
    kept j = named_at (set es i e) j ∙ elim (cases_eq j i) [
      | inl is ↦ ap (λ k. (get_or (set es i e) k blank).name) is ∙ ap (λ (e : Entry). e.name) (get_or-set_same es i e blank lt) ∙ same ∙ ap (λ k. (get_or es k blank).name) (sym is)
      | inr not ↦ ap (λ (e : Entry). e.name) (get_or-set_other es i j e blank not)
    ] ∙ sym (named_at es j)

-- where an element of the longer list comes from
From : List Entry → ℕ → Entry → ℕ → Type 0
From es i e k = ((k < i) × (get_or (insert es i e) k blank ≡ get_or es k blank)) ⊎ (((k ≡ i) × (get_or (insert es i e) k blank ≡ e)) ⊎ ((m : ℕ) × (m + 1 ≡ k) × (i ≤ m) × (get_or (insert es i e) k blank ≡ get_or es m blank)))

from : (es : List Entry) (i : ℕ) (e : Entry) → i ≤ length es → (k : ℕ) → From es i e k
unfolding From
from es i e le zero = elim (cases_eq zero i) [
  | inl is ↦ inr (inl (is, ap (λ j. get_or (insert es i e) j blank) is ∙ get_or-insert_at es i e blank le))
  | inr not ↦ inl (omega arith, get_or-insert_below es i e blank zero (omega arith) le)
]
from es i e le (suc m) = elim (cases_lt (suc m) i) [
  | inl lt ↦ inl (lt, get_or-insert_below es i e blank (suc m) lt le)
  | inr ge ↦ elim (cases_eq (suc m) i) [
    | inl is ↦ inr (inl (is, ap (λ j. get_or (insert es i e) j blank) is ∙ get_or-insert_at es i e blank le))
    | inr not ↦
        let s : suc m ≡ m + 1 = omega arith in
        inr (inr (m, omega arith, omega arith, ap (λ j. get_or (insert es i e) j blank) s ∙ get_or-insert_above es i e blank m (omega arith) le))
  ]
]

pub rising_insert : (es : List Entry) (i : ℕ) (e : Entry) → IsInsertionIndexOfName (names es) e.name i → AreStrictlyAscending (names es) → AreStrictlyAscending (names (insert es i e))
unfolding From
rising_insert es i e gap rising j k lt in_range =
    let le : i ≤ length es = omega (arith, gap.in_range, length-map es (λ (e : Entry). e.name)) in
    let size : length (names (insert es i e)) ≡ length es + 1 = length-map (insert es i e) (λ (e : Entry). e.name) ∙ length-insert es i e le in
    let whole : length (names es) ≡ length es = length-map es (λ (e : Entry). e.name) in
    ap (λ (n : List ℕ). compare_path_bytes n (name_at_index_or_empty (names (insert es i e)) k)) (named_at (insert es i e) j)
    ∙ ap (compare_path_bytes (get_or (insert es i e) j blank).name) (named_at (insert es i e) k)
    ∙ ordered (from es i e le j) (from es i e le k) (omega arith)
  where
    at : (a b : Entry) (x y : Entry) → a ≡ x → b ≡ y → compare_path_bytes x.name y.name ≡ Less → compare_path_bytes a.name b.name ≡ Less
    at a b x y p q r = ap (λ (e : Entry). compare_path_bytes e.name b.name) p ∙ ap (λ (e : Entry). compare_path_bytes x.name e.name) q ∙ r

    risen : (a b : ℕ) → a < b → b < length (names es) → compare_path_bytes (get_or es a blank).name (get_or es b blank).name ≡ Less
    risen a b l r = ap (λ (n : List ℕ). compare_path_bytes n (get_or es b blank).name) (sym (named_at es a)) ∙ ap (compare_path_bytes (name_at_index_or_empty (names es) a)) (sym (named_at es b)) ∙ rising a b l r

    ordered : From es i e j → From es i e k → k < length (names es) + 1 → compare_path_bytes (get_or (insert es i e) j blank).name (get_or (insert es i e) k blank).name ≡ Less
    ordered (inl a) (inl b) r = at _ _ _ _ a.1 b.1 (risen j k lt (omega (arith, gap.in_range, b.0)))
    ordered (inl a) (inr (inl b)) r = at _ _ _ _ a.1 b.1 (ap (λ (n : List ℕ). compare_path_bytes n e.name) (sym (named_at es j)) ∙ gap.below j a.0)
    ordered (inl a) (inr (inr b)) r = at _ _ _ _ a.1 b.3 (risen j b.0 (omega (arith, a.0, b.2)) (omega (arith, b.1)))
    ordered (inr (inl a)) (inl b) r = absurd (omega (arith, a.0, b.0, lt))
    ordered (inr (inl a)) (inr (inl b)) r = absurd (omega (arith, a.0, b.0, lt))
    ordered (inr (inl a)) (inr (inr b)) r =
        at _ _ _ _ a.1 b.3 (turned (get_or es b.0 blank).name e.name ∙ ap ordering_reverse (ap (λ (n : List ℕ). compare_path_bytes n e.name) (sym (named_at es b.0)) ∙ gap.above b.0 b.2 (omega (arith, b.1))))
    ordered (inr (inr a)) (inl b) r = absurd (omega (arith, a.1, a.2, b.0, lt))
    ordered (inr (inr a)) (inr (inl b)) r = absurd (omega (arith, a.1, a.2, b.0, lt))
    ordered (inr (inr a)) (inr (inr b)) r = at _ _ _ _ a.3 b.3 (risen a.0 b.0 (omega (arith, a.1, b.1, lt)) (omega (arith, b.1)))

module _ (es : List Entry) (rising : AreStrictlyAscending (names es)) (x : List ℕ) (i : ℕ) (at : IsIndexOfName (names es) x i) (d : Entry) (is : d ≡ get_or es i d) where
  in_es : i < length es
  in_es = omega (arith, at.in_range, length-map es (λ (e : Entry). e.name))

  lower : (j : ℕ) → j < i → compare_path_bytes (name_at_index_or_empty (names es) j) x ≡ Less
  lower j lt = subst (λ (n : List ℕ). compare_path_bytes (name_at_index_or_empty (names es) j) n ≡ Less) at.is (rising j i lt at.in_range)

  same_at : (get_or es i d).name ≡ x
  same_at = sym (get_or-map' es i d in_es) ∙ at.is
    where
      get_or-map' : (es : List Entry) (i : ℕ) (d : Entry) → i < length es → name_at_index_or_empty (names es) i ≡ (get_or es i d).name
      get_or-map' es i d lt = get_or-map_any (λ (e : Entry). e.name) es i d [] lt

  pub d_name : d.name ≡ x
  d_name = ap (λ (e : Entry). e.name) is ∙ same_at

  pub child_there : child_by_name (named_nodes_of_entries es) x ≡ Some d.node
  child_there = child_at es x i d in_es same_at lower ∙ ap (λ (e : Entry). Some e.node) (sym is)

  pub put_grown : (rest : List (List ℕ)) (node made : Node) → made ≡ node_with_descendant_added rest node (Some d.node) → directory (named_nodes_of_entries (set es i (record { name = d.name; node = made }))) ≡ node_with_descendant_added (x ∷ rest) node (Some (directory (named_nodes_of_entries es)))
  put_grown rest node made e =
      let there : Some d.node ≡ child_by_name (named_nodes_of_entries es) x = ap (λ (e : Entry). Some e.node) is ∙ sym (child_at es x i d in_es same_at lower) in
      ap directory (
      put_set es x i d (record { name = d.name; node = made }) in_es same_at d_name lower
      ∙ ap (λ (n : Node). entries_with_node_at_name x n (named_nodes_of_entries es)) (e ∙ ap (node_with_descendant_added rest node) there)
      )

  pub rising_put : (made : Node) → AreStrictlyAscending (names (set es i (record { name = d.name; node = made })))
  rising_put made = rising_set es i (record { name = d.name; node = made }) in_es (d_name ∙ sym at.is ∙ named_at es i) rising

pub found_at : (es : List Entry) → AreStrictlyAscending (names es) → (x : List ℕ) (i : ℕ) → IsIndexOfName (names es) x i → (d : Entry) → child_by_name (named_nodes_of_entries es) x ≡ Some (get_or es i d).node
found_at es rising x i at d =
    let lt : i < length es = omega (arith, at.in_range, length-map es (λ (e : Entry). e.name)) in
    child_at es x i d lt (sym (get_or-map_any (λ (e : Entry). e.name) es i d [] lt) ∙ at.is) (λ j l. subst (λ (n : List ℕ). compare_path_bytes (name_at_index_or_empty (names es) j) n ≡ Less) at.is (rising j i l at.in_range))
