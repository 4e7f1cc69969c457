-- A path is among those in their order where it is the new one or is among those before.
use Rattle.std.proofs.Common.{◌≡◌, ℕ, List, [], ◌∷◌, Bool, true, false, ◌||◌, bytes_eq, refl, sym, ap, ◌∙◌, subst}
use Rattle.std.specs.List.{list_any}
use Rattle.std.specs.BTreeSet.{insert_key}
use Rattle.std.specs.Cmp.Lexicographic.{slice_cmp}
use Rattle.std.specs.Ordering.{nat_cmp, is_eq, match_ordering}
use Rattle.std.specs.declared.cmp.Ordering.{Ordering}
use Rattle.std.specs.declared.cmp.Ordering.TheVariants.{Less, Equal, Greater}
use Rattle.std.proofs.lemmas.Map.Lookups.{exact_bytes}
use Rattle.std.proofs.lemmas.Map.Text.{is_eq-slice_cmp}
use Rattle.submodule.specs.Names.{is_text_in_list}

or_swap : (a b c : Bool) → (a || (b || c)) ≡ (b || (a || c))
or_swap true true c = refl
or_swap true false c = refl
or_swap false b c = refl

or_twice : (a b : Bool) → (a || b) ≡ (a || (a || b))
or_twice true b = refl
or_twice false b = refl

pub among-by_order : (path : List ℕ) (paths : List (List ℕ)) → list_any (λ other. is_eq (slice_cmp nat_cmp path other)) paths ≡ is_text_in_list path paths
among-by_order path [] = refl
among-by_order path (other ∷ paths) = rw (is_eq-slice_cmp path other, among-by_order path paths) refl

pub among-inserted : (path : List ℕ) (paths : List (List ℕ)) (one : List ℕ)
    → is_text_in_list path (insert_key (slice_cmp nat_cmp) paths one) ≡ (bytes_eq path one || is_text_in_list path paths)
among-inserted path [] one = refl
among-inserted path (other ∷ paths) one = go (slice_cmp nat_cmp one other) refl (among-inserted path paths one)
  where
    go : (o : Ordering) → slice_cmp nat_cmp one other ≡ o
        → is_text_in_list path (insert_key (slice_cmp nat_cmp) paths one) ≡ (bytes_eq path one || is_text_in_list path paths)
        → is_text_in_list path (match_ordering o (one ∷ other ∷ paths) (other ∷ paths) (other ∷ insert_key (slice_cmp nat_cmp) paths one))
        ≡ (bytes_eq path one || is_text_in_list path (other ∷ paths))
    go Less e more = refl
    go Equal e more =
        subst (λ (x : List ℕ). is_text_in_list path (other ∷ paths) ≡ (bytes_eq path x || is_text_in_list path (other ∷ paths)))
        (sym (exact_bytes one other e))
        (or_twice (bytes_eq path other) (is_text_in_list path paths))
    go Greater e more =
        ap (λ (b : Bool). bytes_eq path other || b) more
        ∙ or_swap (bytes_eq path other) (bytes_eq path one) (is_text_in_list path paths)
