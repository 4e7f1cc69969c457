-- One step of hearing what is said of a path.
use Rattle.std.proofs.Common.{◌≡◌, ◌<◌, ◌+◌, ◌⊎◌, inl, inr, ℕ, Bool, true, false, not, cond, List, [], ◌∷◌, ◌++◌, length, reverse, Some, refl, ap, sym, ◌∙◌, subst, arith, length-append}
use Rattle.std.proofs.Common.{Option}
use Rattle.std.specs.List.{flat_map}
use Rattle.std.proofs.lemmas.List.{length-reverse, reverse-append}
use Rattle.glob_rules.specs.declared.Case.{Case}
use Rattle.glob_rules.specs.declared.attributes.word.Assigned.{Assigned}
use Rattle.glob_rules.specs.Attributes.{AttributeList}
use Rattle.glob_rules.specs.AttributeValues.{path_assignments_reversed, list_assignments_for_path, macro_body_in_first_list, macro_assignments_if_set, has_assigned_name, count_of_macros}
use Rattle.glob_rules.specs.Standing.{standing_with_assignment_if_first, standing_after_assignments}
use Rattle.glob_rules.proofs.Bodies.{from_end, flat_map-append}
use Rattle.glob_rules.proofs.Sayings.{unsaid, unsaid-count, unsaid-more, unsaid-less, saying-nothing, saying-stands, saying-new, saying-append, follows-cases, stands-last}

not_true : (b : Bool) (first : Bool) → first ≡ not b → first ≡ true → b ≡ false
not_true true first e f = absurd (cc)
not_true false first e f = refl

not_false : (b : Bool) (first : Bool) → first ≡ not b → first ≡ false → b ≡ true
not_false true first e f = refl
not_false false first e f = absurd (cc)

module _ (lists : List AttributeList) (standing now left rest : List Assigned) (a : Assigned) (is_first : Bool)
    (next : left ≡ a ∷ rest) (first : is_first ≡ not (has_assigned_name a.name standing)) (said : now ≡ standing_with_assignment_if_first standing a) where
  -- what is not the first is not heard
  pub heard_again : is_first ≡ false → standing_after_assignments lists now rest ≡ standing_after_assignments lists standing left
  heard_again old =
      let there = not_false (has_assigned_name a.name standing) is_first first old in
      let same : now ≡ standing = said ∙ ap (λ (b : Bool). cond b standing (standing ++ a ∷ [])) there in
      ap (λ (s : List Assigned). standing_after_assignments lists s rest) same
      ∙ sym (saying-stands (count_of_macros (reverse lists)) (reverse lists) standing rest a there)
      ∙ sym (ap (standing_after_assignments lists standing) next)

  module _ (body after : List Assigned) (yes : is_first ≡ true) (follow : body ≡ macro_assignments_if_set (reverse lists) a) (put : after ≡ body ++ rest) where
    grown : now ≡ standing ++ a ∷ []
    grown = said ∙ ap (λ (b : Bool). cond b standing (standing ++ a ∷ [])) (not_true (has_assigned_name a.name standing) is_first first yes)

    -- what is the first stands, and what follows is heard next
    pub heard_first : standing_after_assignments lists now after ≡ standing_after_assignments lists standing left
    heard_first =
        ap (λ (s : List Assigned). standing_after_assignments lists s after) grown
        ∙ ap (standing_after_assignments lists (standing ++ a ∷ [])) (put ∙ ap (λ (b : List Assigned). b ++ rest) follow)
        ∙ sym (saying-new (count_of_macros (reverse lists)) (reverse lists) standing rest a (unsaid-count standing (reverse lists)) (not_true (has_assigned_name a.name standing) is_first first yes))
        ∙ sym (ap (standing_after_assignments lists standing) next)

    -- and less is left
    pub heard_less : unsaid (λ b. length b) now (reverse lists) + length after < unsaid (λ b. length b) standing (reverse lists) + length left
    heard_less =
        subst (λ (s : List Assigned). unsaid (λ b. length b) s (reverse lists) + length after < unsaid (λ b. length b) standing (reverse lists) + length left) (sym grown) (go (follows-cases (reverse lists) a))
      where
        go : (macro_assignments_if_set (reverse lists) a ≡ []) ⊎ ((macro : List Assigned) × (macro_body_in_first_list a.name (reverse lists) ≡ Some macro) × (macro_assignments_if_set (reverse lists) a ≡ reverse macro))
            → unsaid (λ b. length b) (standing ++ a ∷ []) (reverse lists) + length after < unsaid (λ b. length b) standing (reverse lists) + length left
        go (inl none) =
            let one : length left ≡ length (a ∷ rest) = ap (λ (l : List Assigned). length l) next in
            let all : length after ≡ length rest = ap (λ (l : List Assigned). length l) (put ∙ ap (λ (b : List Assigned). b ++ rest) (follow ∙ none)) in
            let more = unsaid-more (λ b. length b) standing (a ∷ []) (reverse lists) in
            omega (arith, one, all, more)
        go (inr some) =
            let one : length left ≡ length (a ∷ rest) = ap (λ (l : List Assigned). length l) next in
            let all : length after ≡ length (reverse some.0 ++ rest) = ap (λ (l : List Assigned). length l) (put ∙ ap (λ (b : List Assigned). b ++ rest) (follow ∙ some.2)) in
            let sum = length-append (reverse some.0) rest in
            let back = length-reverse some.0 in
            let less = unsaid-less (λ b. length b) a.name some.0 standing (a ∷ []) (reverse lists) some.1 (not_true (has_assigned_name a.name standing) is_first first yes) (stands-last standing a) in
            omega (arith, one, all, sum, back, less)

-- nothing is left
pub heard_all : (lists : List AttributeList) (standing left : List Assigned) → left ≡ [] → standing ≡ standing_after_assignments lists standing left
heard_all lists standing left e = sym (ap (standing_after_assignments lists standing) e ∙ saying-nothing (count_of_macros (reverse lists)) (reverse lists) standing)

-- what is said in two parts
pub heard_parts : (lists : List AttributeList) (standing front back : List Assigned) → standing_after_assignments lists standing (front ++ back) ≡ standing_after_assignments lists (standing_after_assignments lists standing front) back
heard_parts lists standing front back = saying-append (count_of_macros (reverse lists)) (reverse lists) standing front back

-- what the last of some things says, and then the others
pub heard_from_end : {X : Type 0} (f : X → List Assigned) (lists : List AttributeList) (standing now : List Assigned) (all before : List X) (last : X)
    → all ≡ before ++ last ∷ [] → now ≡ standing_after_assignments lists standing (reverse (f last))
    → standing_after_assignments lists now (reverse (flat_map f before)) ≡ standing_after_assignments lists standing (reverse (flat_map f all))
heard_from_end f lists standing now all before last split said =
    ap (λ (s : List Assigned). standing_after_assignments lists s (reverse (flat_map f before))) said
    ∙ sym (heard_parts lists standing (reverse (f last)) (reverse (flat_map f before)))
    ∙ sym (ap (standing_after_assignments lists standing) (ap (λ xs. reverse (flat_map f xs)) split ∙ from_end f before last))

-- nothing is said by nothing
pub heard_none : {X : Type 0} (f : X → List Assigned) (lists : List AttributeList) (standing : List Assigned) (all : List X) → length all ≡ 0 → standing ≡ standing_after_assignments lists standing (reverse (flat_map f all))
heard_none f lists standing [] e = heard_all lists standing [] refl
heard_none f lists standing (x ∷ all) e = absurd (omega (arith, e))

-- what two searches say, where the second is above the first
pub heard_both : (low high : List AttributeList) (path : List ℕ) (is_dir : Option Bool) (case : Case) (standing : List Assigned)
    → standing_after_assignments (low ++ high) (standing_after_assignments (low ++ high) standing (path_assignments_reversed high path is_dir case)) (path_assignments_reversed low path is_dir case)
    ≡ standing_after_assignments (low ++ high) standing (path_assignments_reversed (low ++ high) path is_dir case)
heard_both low high path is_dir case standing =
    sym (heard_parts (low ++ high) standing (path_assignments_reversed high path is_dir case) (path_assignments_reversed low path is_dir case))
    ∙ ap (standing_after_assignments (low ++ high) standing) (sym (ap (λ said. reverse said) (flat_map-append (list_assignments_for_path path is_dir case) low high)
    ∙ reverse-append (flat_map (list_assignments_for_path path is_dir case) low) (flat_map (list_assignments_for_path path is_dir case) high)))
