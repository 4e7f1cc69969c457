-- Paths in their order: which are among them, and that none stands twice.
use Rattle.std.proofs.Common.{◌≡◌, ℕ, List, [], ◌∷◌, Bool, true, false, ◌||◌, bytes_eq, Bor, refl, sym, ap, ◌∙◌, subst}
use Rattle.std.specs.List.{AllByRecursion, list_any}
use Rattle.std.specs.List.Sorted.{IsStrictlySortedBy}
use Rattle.std.specs.BTreeSet.{insert_key}
use Rattle.std.specs.Cmp.Lexicographic.{slice_cmp}
use Rattle.std.specs.Ordering.{nat_cmp, is_eq, match_ordering}
use Rattle.std.specs.declared.cmp.Ordering.{Ordering}
use Rattle.std.specs.declared.cmp.Ordering.TheVariants.{Less, Equal, Greater}
use Rattle.std.proofs.lemmas.Map.Lookups.{exact_bytes}
use Rattle.std.proofs.lemmas.Map.Text.{is_eq-slice_cmp}
use Rattle.clean_plan.specs.Paths.{AscendsStrictly, is_text_in_list, borrowed_byte_strings}

abbrev pub lent_cmp : Bor (List ℕ) → Bor (List ℕ) → Ordering
lent_cmp a b = slice_cmp nat_cmp a.now b.now

or_swap : (a b c : Bool) → (a || (b || c)) ≡ (b || (a || c))
or_swap true true c = refl
or_swap true false c = refl
or_swap false b c = refl

or_twice : (a b : Bool) → (a || b) ≡ (a || (a || b))
or_twice true b = refl
or_twice false b = refl

pub among-by_order : (path : List ℕ) (paths : List (Bor (List ℕ))) → list_any (λ other. is_eq (slice_cmp nat_cmp path other.now)) paths ≡ is_text_in_list path (borrowed_byte_strings paths)
among-by_order path [] = refl
among-by_order path (other ∷ paths) = rw (is_eq-slice_cmp path other.now, among-by_order path paths) refl

pub among-inserted : (path : List ℕ) (paths : List (Bor (List ℕ))) (one : Bor (List ℕ))
    → is_text_in_list path (borrowed_byte_strings (insert_key lent_cmp paths one)) ≡ (bytes_eq path one.now || is_text_in_list path (borrowed_byte_strings paths))
among-inserted path [] one = refl
among-inserted path (other ∷ paths) one = go (lent_cmp one other) refl (among-inserted path paths one)
  where
    go : (o : Ordering) → lent_cmp one other ≡ o
        → is_text_in_list path (borrowed_byte_strings (insert_key lent_cmp paths one)) ≡ (bytes_eq path one.now || is_text_in_list path (borrowed_byte_strings paths))
        → is_text_in_list path (borrowed_byte_strings (match_ordering o (one ∷ other ∷ paths) (other ∷ paths) (other ∷ insert_key lent_cmp paths one)))
        ≡ (bytes_eq path one.now || is_text_in_list path (borrowed_byte_strings (other ∷ paths)))
    go Less e more = refl
    go Equal e more =
        subst (λ (x : List ℕ). is_text_in_list path (borrowed_byte_strings (other ∷ paths)) ≡ (bytes_eq path x || is_text_in_list path (borrowed_byte_strings (other ∷ paths))))
        (sym (exact_bytes one.now other.now e))
        (or_twice (bytes_eq path other.now) (is_text_in_list path (borrowed_byte_strings paths)))
    go Greater e more =
        ap (λ (b : Bool). bytes_eq path other.now || b) more
        ∙ or_swap (bytes_eq path other.now) (bytes_eq path one.now) (is_text_in_list path (borrowed_byte_strings paths))

behind : (path : Bor (List ℕ)) (paths : List (Bor (List ℕ))) → AllByRecursion (λ other. lent_cmp path other ≡ Less) paths
    → AllByRecursion (λ other. slice_cmp nat_cmp path.now other ≡ Less) (borrowed_byte_strings paths)
behind path [] h = tt
behind path (other ∷ paths) h = (h.0, behind path paths h.1)

pub ascends-texts : (paths : List (Bor (List ℕ))) → IsStrictlySortedBy lent_cmp paths → AscendsStrictly (borrowed_byte_strings paths)
unfolding IsStrictlySortedBy
ascends-texts [] h = tt
ascends-texts (path ∷ paths) h = (behind path paths h.0, ascends-texts paths h.1)
