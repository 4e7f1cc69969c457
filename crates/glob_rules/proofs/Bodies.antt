-- What macros stand for by two searches, and words of several slices.
use Rattle.std.proofs.Common.{◌≡◌, ℕ, List, [], ◌∷◌, ◌++◌, reverse, Option, Some, None, refl, ap, sym, ◌∙◌, append_assoc}
use Rattle.std.specs.Borrow.{Bor}
use Rattle.std.proofs.lemmas.List.{reverse-append}
use Rattle.std.specs.List.{flat_map}
use Rattle.glob_rules.specs.declared.attributes.word.Assigned.{Assigned}
use Rattle.glob_rules.specs.Attributes.{AttributeList}
use Rattle.glob_rules.specs.AttributeValues.{first_body_or_other, macro_body_in_list, macro_body_in_first_list}
use Rattle.glob_rules.specs.Standing.{reversed_words_of_slices}

body_or-assoc : (a b c : Option (List Assigned)) → first_body_or_other (first_body_or_other a b) c ≡ first_body_or_other a (first_body_or_other b c)
body_or-assoc None b c = refl
body_or-assoc (Some body) b c = refl

body_of-append : (name : List ℕ) (front back : List AttributeList) → macro_body_in_first_list name (front ++ back) ≡ first_body_or_other (macro_body_in_first_list name front) (macro_body_in_first_list name back)
body_of-append name [] back = refl
body_of-append name (list ∷ front) back =
    ap (first_body_or_other (macro_body_in_list name list.macros)) (body_of-append name front back)
    ∙ sym (body_or-assoc (macro_body_in_list name list.macros) (macro_body_in_first_list name front) (macro_body_in_first_list name back))

-- the higher lists are asked first
pub body_of-both : (name : List ℕ) (low high : List AttributeList) → macro_body_in_first_list name (reverse (low ++ high)) ≡ first_body_or_other (macro_body_in_first_list name (reverse high)) (macro_body_in_first_list name (reverse low))
body_of-both name low high = ap (macro_body_in_first_list name) (reverse-append low high) ∙ body_of-append name (reverse high) (reverse low)

pub flat_map-append : {X A : Type 0} (f : X → List A) (front back : List X) → flat_map f (front ++ back) ≡ flat_map f front ++ flat_map f back
flat_map-append f [] back = refl
flat_map-append f (x ∷ front) back = ap (λ rest. f x ++ rest) (flat_map-append f front back) ∙ sym (append_assoc (f x) (flat_map f front) (flat_map f back))

end-nothing : {A : Type 0} (xs : List A) → xs ++ [] ≡ xs
end-nothing [] = refl
end-nothing (x ∷ xs) = ap (λ rest. x ∷ rest) (end-nothing xs)

-- what the last of some things gives, read from its end, and then the others
pub from_end : {X A : Type 0} (f : X → List A) (xs : List X) (last : X) → reverse (flat_map f (xs ++ last ∷ [])) ≡ reverse (f last) ++ reverse (flat_map f xs)
from_end f xs last =
    ap (λ all. reverse all) (flat_map-append f xs (last ∷ []) ∙ ap (λ rest. flat_map f xs ++ rest) (end-nothing (f last)))
    ∙ reverse-append (flat_map f xs) (f last)

pub spread-last : (slices : List (Bor (List Assigned))) (last : Bor (List Assigned)) → reversed_words_of_slices (slices ++ last ∷ []) ≡ reverse last.now ++ reversed_words_of_slices slices
spread-last slices last = from_end (λ (slice : Bor (List Assigned)). slice.now) slices last
