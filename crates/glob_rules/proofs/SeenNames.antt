-- A name is among those in the order of their bytes where it is among those in their order; and names seen one after another.
use Rattle.std.proofs.Common.{◌≡◌, ℕ, List, [], ◌∷◌, ◌++◌, Bool, true, false, not, ◌||◌, bytes_eq, inl, inr, refl, sym, ap, ◌∙◌, subst}
use Rattle.std.specs.List.{list_any}
use Rattle.std.specs.BTreeSet.{insert_key}
use Rattle.std.specs.Cmp.Lexicographic.{slice_cmp}
use Rattle.std.specs.Ordering.{nat_cmp, is_eq, match_ordering}
use Rattle.std.specs.declared.cmp.Ordering.{Ordering}
use Rattle.std.specs.declared.cmp.Ordering.TheVariants.{Less, Equal, Greater}
use Rattle.std.proofs.lemmas.List.Folds.{list_any-append}
use Rattle.std.proofs.lemmas.Map.Lookups.{exact_bytes}
use Rattle.std.proofs.lemmas.Map.Text.{is_eq-slice_cmp}
use Rattle.glob_rules.specs.AttributeNames.{is_text_in_list, HaveSameTexts, names_with_name_added_once, names_with_names_added_once, AddsSomeFirstNames}

or_swap : (a b c : Bool) → (a || (b || c)) ≡ (b || (a || c))
or_swap true true c = refl
or_swap true false c = refl
or_swap false b c = refl

or_twice : (a b : Bool) → (a || b) ≡ (a || (a || b))
or_twice true b = refl
or_twice false b = refl

-- a name is among names where the order finds one that ties with it
pub among-by_order : (name : List ℕ) (names : List (List ℕ)) → list_any (λ other. is_eq (slice_cmp nat_cmp name other)) names ≡ is_text_in_list name names
among-by_order name [] = refl
among-by_order name (other ∷ names) = rw (is_eq-slice_cmp name other, among-by_order name names) refl

among-inserted : (name : List ℕ) (names : List (List ℕ)) (one : List ℕ)
    → is_text_in_list name (insert_key (slice_cmp nat_cmp) names one) ≡ (bytes_eq name one || is_text_in_list name names)
among-inserted name [] one = refl
among-inserted name (other ∷ names) one = go (slice_cmp nat_cmp one other) refl (among-inserted name names one)
  where
    go : (o : Ordering) → slice_cmp nat_cmp one other ≡ o
        → is_text_in_list name (insert_key (slice_cmp nat_cmp) names one) ≡ (bytes_eq name one || is_text_in_list name names)
        → is_text_in_list name (match_ordering o (one ∷ other ∷ names) (other ∷ names) (other ∷ insert_key (slice_cmp nat_cmp) names one))
        ≡ (bytes_eq name one || is_text_in_list name (other ∷ names))
    go Less e more = refl
    go Equal e more =
        subst (λ (x : List ℕ). is_text_in_list name (other ∷ names) ≡ (bytes_eq name x || is_text_in_list name (other ∷ names)))
        (sym (exact_bytes one other e))
        (or_twice (bytes_eq name other) (is_text_in_list name names))
    go Greater e more =
        ap (λ (b : Bool). bytes_eq name other || b) more
        ∙ or_swap (bytes_eq name other) (bytes_eq name one) (is_text_in_list name names)

-- both with one more
pub same-more : (sorted names : List (List ℕ)) (name : List ℕ) → HaveSameTexts sorted names
    → HaveSameTexts (insert_key (slice_cmp nat_cmp) sorted name) (names ++ name ∷ [])
same-more sorted names one same name =
    among-inserted name sorted one
    ∙ ap (λ (b : Bool). bytes_eq name one || b) (same name)
    ∙ sym (list_any-append (bytes_eq name) names (one ∷ [])
    ∙ or_last (bytes_eq name one) (is_text_in_list name names))
  where
    or_last : (a b : Bool) → (b || (a || false)) ≡ (a || b)
    or_last true true = refl
    or_last true false = refl
    or_last false true = refl
    or_last false false = refl

not_is : (a b : Bool) → a ≡ not b → b ≡ not a
not_is true true e = e
not_is true false e = refl
not_is false true e = refl
not_is false false e = e

-- whether the order has a name says whether it is among the names
pub there_or_not : (sorted names : List (List ℕ)) (name : List ℕ) (there : Bool) → HaveSameTexts sorted names
    → there ≡ list_any (λ other. is_eq (slice_cmp nat_cmp name other)) sorted → is_text_in_list name names ≡ there
there_or_not sorted names name there same e = sym (same name) ∙ sym (among-by_order name sorted) ∙ sym e

-- names seen after others
pub with_names-append : (names front back : List (List ℕ)) → names_with_names_added_once names (front ++ back) ≡ names_with_names_added_once (names_with_names_added_once names front) back
with_names-append names [] back = refl
with_names-append names (name ∷ front) back = with_names-append (names_with_name_added_once names name) front back

-- nothing is a part
pub part_none : (names given : List (List ℕ)) → AddsSomeFirstNames names given names
part_none names [] = refl
part_none names (name ∷ given) = inl refl

-- a part is one of more
pub part-front : (names front back seen : List (List ℕ)) → AddsSomeFirstNames names front seen → AddsSomeFirstNames names (front ++ back) seen
part-front names [] back seen e = subst (λ (some : List (List ℕ)). AddsSomeFirstNames names back some) (sym e) (part_none names back)
part-front names (name ∷ front) back seen (inl e) = inl e
part-front names (name ∷ front) back seen (inr part) = inr (part-front (names_with_name_added_once names name) front back seen part)

-- a part of what comes after others
pub part-back : (names front back seen : List (List ℕ)) → AddsSomeFirstNames (names_with_names_added_once names front) back seen → AddsSomeFirstNames names (front ++ back) seen
part-back names [] back seen part = part
part-back names (name ∷ front) back seen part = inr (part-back (names_with_name_added_once names name) front back seen part)

-- all are a part
pub part_all : (names given seen : List (List ℕ)) → seen ≡ names_with_names_added_once names given → AddsSomeFirstNames names given seen
part_all names [] seen e = e
part_all names (name ∷ given) seen e = inr (part_all (names_with_name_added_once names name) given seen e)
