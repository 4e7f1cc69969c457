-- How paths compare without regard to case.
use Rattle.std.proofs.Common.{◌≡◌, ℕ, zero, suc, ◌+◌, ◌<◌, true, false, List, [], ◌∷◌, ◌++◌, length, take, drop, min, get_or, refl, sym, ap, ◌∙◌, arith, inl, inr}
use Rattle.std.specs.Char.{to_ascii_lowercase}
use Rattle.std.specs.List.{range_with_len}
use Rattle.std.specs.Ordering.{nat_cmp, is_eq, ordering_then, ordering_reverse}
use Rattle.std.specs.declared.cmp.Ordering.{Ordering}
use Rattle.std.specs.declared.cmp.Ordering.TheVariants.{Less, Equal, Greater}
use Rattle.std.proofs.lemmas.Bool.{cases_lt, lt-ltb}
use Rattle.std.proofs.lemmas.Cmp.{nat_cmp_total, nat_list_cmp_total, tied_itself}
use Rattle.std.proofs.lemmas.List.{drop_more, drop_all, drop-map, take-map, length-map, length-drop, map-append}
use Rattle.std.proofs.lemmas.Map.Lookups.{exact_bytes}
use Rattle.gitbase_core.specs.Text.{fold_case}
use Rattle.gitbase_core.specs.Index.{compare_path_bytes, compare_path_start_with_prefix}
use Rattle.gitbase_core.proofs.PrefixOrder.{prefix_cmp-append, take-min, drop-min}

-- ---- byte by byte

pub fold_case-step : (left right : List ℕ) (i : ℕ) → i < length left → i < length right
    → compare_path_bytes (fold_case (drop i left)) (fold_case (drop i right))
    ≡ ordering_then (nat_cmp (to_ascii_lowercase (get_or left i 0)) (to_ascii_lowercase (get_or right i 0)))
    (compare_path_bytes (fold_case (drop (i + 1) left)) (fold_case (drop (i + 1) right)))
fold_case-step left right i low high =
    ap (λ (l : List ℕ). compare_path_bytes (fold_case l) (fold_case (drop i right))) (drop_more left i 0 low)
    ∙ ap (λ (r : List ℕ). compare_path_bytes (fold_case (get_or left i 0 ∷ drop (i + 1) left)) (fold_case r)) (drop_more right i 0 high)

pub decided : (o rest : Ordering) → is_eq o ≡ false → ordering_then o rest ≡ o
decided Less rest h = refl
decided Equal rest h = absurd (cc)
decided Greater rest h = refl

pub undecided : (o rest : Ordering) → is_eq o ≡ true → ordering_then o rest ≡ rest
undecided Less rest h = absurd (cc)
undecided Equal rest h = refl
undecided Greater rest h = absurd (cc)

less : (a b : ℕ) → a < b → nat_cmp a b ≡ Less
less a b low = rw (lt-ltb a b low) refl

ended-left : (a : ℕ) (right : List ℕ) (n b : ℕ) → a + length right ≡ b → compare_path_bytes [] (fold_case right) ≡ nat_cmp a b
ended-left a [] n b size = let same : a ≡ b = omega arith in rw same (sym (tied_itself nat_cmp_total b))
ended-left a (y ∷ right) n b size = sym (less a b (omega arith))

ended-right : (b : ℕ) (left : List ℕ) (n a : ℕ) → b + length left ≡ a → compare_path_bytes (fold_case left) [] ≡ nat_cmp a b
ended-right b [] n a size = let same : a ≡ b = omega arith in rw same (sym (tied_itself nat_cmp_total b))
ended-right b (x ∷ left) n a size = sym (nat_cmp_total.antisymm a b ∙ ap ordering_reverse (less b a (omega arith)))

-- where one of two paths ends, their lengths decide
pub ended : (left right : List ℕ) (n : ℕ) → n ≡ min (length left) (length right)
    → compare_path_bytes (fold_case (drop n left)) (fold_case (drop n right)) ≡ nat_cmp (length left) (length right)
ended left right n is =
    elim (cases_lt (length left) (length right)) [
      | inl low ↦
          let e : n ≡ length left = omega arith in
          ap (λ (l : List ℕ). compare_path_bytes (fold_case l) (fold_case (drop n right))) (drop_all n left (omega arith))
          ∙ ended-left (length left) (drop n right) n (length right) (omega (arith, length-drop n right))
      | inr high ↦
          let e : n ≡ length right = omega arith in
          ap (λ (r : List ℕ). compare_path_bytes (fold_case (drop n left)) (fold_case r)) (drop_all n right (omega arith))
          ∙ ended-right (length right) (drop n left) n (length left) (omega (arith, length-drop n left))
    ]

equal_is : (o : Ordering) → is_eq o ≡ true → o ≡ Equal
equal_is Less h = absurd (cc)
equal_is Equal h = refl
equal_is Greater h = absurd (cc)

pub same_from_order : (a b : List ℕ) (o : Ordering) → o ≡ compare_path_bytes a b → is_eq o ≡ true → a ≡ b
same_from_order a b o is tied = exact_bytes a b (sym is ∙ equal_is o tied)

pub other_from_order : (a b : List ℕ) (o : Ordering) → o ≡ compare_path_bytes a b → is_eq o ≡ false → a ≡ b → ⊥
other_from_order a b o is differs same =
    let tied : compare_path_bytes a b ≡ Equal = rw same (tied_itself nat_list_cmp_total b) in
    let equal : is_eq o ≡ true = ap is_eq (is ∙ tied) in
    absurd (cc (equal, differs))

-- ---- beside a prefix in two parts

front-same : (front path : List ℕ) → compare_path_bytes (fold_case (take (length front) path)) (fold_case front) ≡ compare_path_start_with_prefix (fold_case front) (fold_case path)
front-same front path =
    ap (λ (p : List ℕ). compare_path_bytes p (fold_case front))
    (sym (take-map to_ascii_lowercase (length front) path) ∙ ap (λ (n : ℕ). take n (fold_case path)) (sym (length-map front to_ascii_lowercase)))

pub fold_case-parts : (front back path : List ℕ) → ordering_then (compare_path_bytes (fold_case (take (min (length path) (length front)) path)) (fold_case front))
    (compare_path_bytes (fold_case (take (min (length (drop (min (length path) (length front)) path)) (length back)) (drop (min (length path) (length front)) path))) (fold_case back))
    ≡ compare_path_start_with_prefix (fold_case (front ++ back)) (fold_case path)
fold_case-parts front back path =
    rw (take-min (length front) path, drop-min (length front) path, take-min (length back) (drop (length front) path))
    (ap (λ (o : Ordering). ordering_then o (compare_path_bytes (fold_case (take (length back) (drop (length front) path))) (fold_case back))) (front-same front path)
    ∙ ap (ordering_then (compare_path_start_with_prefix (fold_case front) (fold_case path))) (front-same back (drop (length front) path)
    ∙ ap (compare_path_start_with_prefix (fold_case back)) (sym (drop-map to_ascii_lowercase (length front) path) ∙ ap (λ (n : ℕ). drop n (fold_case path)) (sym (length-map front to_ascii_lowercase))))
    ∙ prefix_cmp-append (fold_case front) (fold_case back) (fold_case path)
    ∙ ap (λ (p : List ℕ). compare_path_start_with_prefix p (fold_case path)) (sym (map-append to_ascii_lowercase front back)))

-- ---- the numbers below a bound

last : (a n j : ℕ) → a + n ≡ j → range_with_len a (suc n) ≡ range_with_len a n ++ j ∷ []
last a zero j e = let same : a ≡ j = omega arith in ap (λ (k : ℕ). k ∷ []) same
last a (suc n) j e = ap (λ (l : List ℕ). a ∷ l) (last (a + 1) n j (omega arith))

pub one_number_more : (n : ℕ) → range_with_len 0 (n + 1) ≡ range_with_len 0 n ++ n ∷ []
one_number_more n = let on : n + 1 ≡ suc n = omega arith in ap (range_with_len 0) on ∙ last 0 n n (omega arith)
