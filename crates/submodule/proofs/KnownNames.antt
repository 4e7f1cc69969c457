-- A name is among those in the order of their bytes where it is among those in their order.
use Rattle.std.proofs.Common.{◌≡◌, ℕ, List, [], ◌∷◌, ◌++◌, Bool, true, false, not, ◌||◌, Some, bytes_eq, refl, sym, ap, ◌∙◌, subst}
use Rattle.std.specs.List.{list_any}
use Rattle.std.specs.BTreeSet.{insert_key}
use Rattle.std.specs.Cmp.Lexicographic.{slice_cmp}
use Rattle.std.specs.Ordering.{nat_cmp, is_eq, eq_by_cmp, match_ordering}
use Rattle.std.specs.declared.cmp.Ordering.{Ordering}
use Rattle.std.specs.declared.cmp.Ordering.TheVariants.{Less, Equal, Greater}
use Rattle.std.proofs.lemmas.List.Folds.{list_any-append}
use Rattle.std.proofs.lemmas.Map.Lookups.{exact_bytes}
use Rattle.std.proofs.lemmas.Map.Text.{is_eq-slice_cmp}
use Rattle.submodule.specs.Names.{is_text_in_list, HaveSameTexts, names_with_name_added_once}

or_swap : (a b c : Bool) → (a || (b || c)) ≡ (b || (a || c))
or_swap true true c = refl
or_swap true false c = refl
or_swap false b c = refl

or_twice : (a b : Bool) → (a || b) ≡ (a || (a || b))
or_twice true b = refl
or_twice false b = refl

-- a name is among names where the order finds one that ties with it
pub among-by_order : (name : List ℕ) (names : List (List ℕ)) → list_any (λ other. is_eq (slice_cmp nat_cmp name other)) names ≡ is_text_in_list name names
among-by_order name [] = refl
among-by_order name (other ∷ names) = rw (is_eq-slice_cmp name other, among-by_order name names) refl

among-inserted : (name : List ℕ) (names : List (List ℕ)) (one : List ℕ)
    → is_text_in_list name (insert_key (slice_cmp nat_cmp) names one) ≡ (bytes_eq name one || is_text_in_list name names)
among-inserted name [] one = refl
among-inserted name (other ∷ names) one = go (slice_cmp nat_cmp one other) refl (among-inserted name names one)
  where
    go : (o : Ordering) → slice_cmp nat_cmp one other ≡ o
        → is_text_in_list name (insert_key (slice_cmp nat_cmp) names one) ≡ (bytes_eq name one || is_text_in_list name names)
        → is_text_in_list name (match_ordering o (one ∷ other ∷ names) (other ∷ names) (other ∷ insert_key (slice_cmp nat_cmp) names one))
        ≡ (bytes_eq name one || is_text_in_list name (other ∷ names))
    go Less e more = refl
    go Equal e more =
        subst (λ (x : List ℕ). is_text_in_list name (other ∷ names) ≡ (bytes_eq name x || is_text_in_list name (other ∷ names)))
        (sym (exact_bytes one other e))
        (or_twice (bytes_eq name other) (is_text_in_list name names))
    go Greater e more =
        ap (λ (b : Bool). bytes_eq name other || b) more
        ∙ or_swap (bytes_eq name other) (bytes_eq name one) (is_text_in_list name names)

-- both with one more
pub same-more : (sorted names : List (List ℕ)) (name : List ℕ) → HaveSameTexts sorted names
    → HaveSameTexts (insert_key (slice_cmp nat_cmp) sorted name) (names ++ name ∷ [])
same-more sorted names one same name =
    among-inserted name sorted one
    ∙ ap (λ (b : Bool). bytes_eq name one || b) (same name)
    ∙ sym (list_any-append (bytes_eq name) names (one ∷ [])
    ∙ or_end' (bytes_eq name one) (is_text_in_list name names))
  where
    or_end' : (a b : Bool) → (b || (a || false)) ≡ (a || b)
    or_end' true true = refl
    or_end' true false = refl
    or_end' false true = refl
    or_end' false false = refl

not_is : (a b : Bool) → a ≡ not b → b ≡ not a
not_is true true e = e
not_is true false e = refl
not_is false true e = refl
not_is false false e = e

-- whether a name is new says whether it is among them
pub new_or_not : (sorted names : List (List ℕ)) (name : List ℕ) (is_new : Bool) → HaveSameTexts sorted names
    → is_new ≡ not (list_any (λ other. is_eq (slice_cmp nat_cmp name other)) sorted) → is_text_in_list name names ≡ not is_new
new_or_not sorted names name is_new same e =
    sym (same name) ∙ sym (among-by_order name sorted)
    ∙ not_is is_new (list_any (λ other. is_eq (slice_cmp nat_cmp name other)) sorted) e
