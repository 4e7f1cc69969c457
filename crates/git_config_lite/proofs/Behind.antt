-- What is found in sections that stand behind others, and else in those.
use Rattle.std.proofs.Common.{◌≡◌, ℕ, List, [], ◌∷◌, ◌++◌, take, drop, reverse, Option, Some, None, refl, sym, ap, ◌∙◌}
use Rattle.std.proofs.lemmas.List.{reverse-append, take-append-drop}
use Rattle.git_config_lite.specs.Sections.{Section}
use Rattle.git_config_lite.specs.Lookups.{FoundValueAndSource, last_value_in_matching_section, first_found_or_other, value_of_first_section_with_key, last_value_in_sections}
use Rattle.git_config_lite.proofs.Placed.{or_assoc}

module _ (name : List ℕ) (subsection : Option (List ℕ)) (key : List ℕ) where
  first-append : (xs ys : List Section)
      → value_of_first_section_with_key name subsection key (xs ++ ys) ≡ first_found_or_other (value_of_first_section_with_key name subsection key xs) (value_of_first_section_with_key name subsection key ys)
  first-append [] ys = refl
  first-append (x ∷ xs) ys =
      ap (first_found_or_other (last_value_in_matching_section name subsection key x)) (first-append xs ys)
      ∙ or_assoc (last_value_in_matching_section name subsection key x) (value_of_first_section_with_key name subsection key xs) (value_of_first_section_with_key name subsection key ys)

  pub last-parts : (n : ℕ) (sections front back : List Section) → front ≡ take n sections → back ≡ drop n sections
      → last_value_in_sections name subsection key sections ≡ first_found_or_other (last_value_in_sections name subsection key back) (last_value_in_sections name subsection key front)
  last-parts n sections front back e d =
      ap (λ (all : List Section). last_value_in_sections name subsection key all)
      (sym (take-append-drop n sections) ∙ ap (λ (p : List Section). p ++ drop n sections) (sym e) ∙ ap (λ (p : List Section). front ++ p) (sym d))
      ∙ ap (λ (all : List Section). value_of_first_section_with_key name subsection key all) (reverse-append front back)
      ∙ first-append (reverse back) (reverse front)

  pub found-behind : (n : ℕ) (sections front back : List Section) → front ≡ take n sections → back ≡ drop n sections
      → (found : FoundValueAndSource) → ◌≡◌ {A = Option FoundValueAndSource} (Some found) (last_value_in_sections name subsection key back) → ◌≡◌ {A = Option FoundValueAndSource} (Some found) (last_value_in_sections name subsection key sections)
  found-behind n sections front back e d found is =
      sym (last-parts n sections front back e d ∙ ap (λ (f : Option FoundValueAndSource). first_found_or_other f (last_value_in_sections name subsection key front)) (sym is))

  pub not-behind : (n : ℕ) (sections front back : List Section) → front ≡ take n sections → back ≡ drop n sections
      → ◌≡◌ {A = Option FoundValueAndSource} None (last_value_in_sections name subsection key back) → last_value_in_sections name subsection key front ≡ last_value_in_sections name subsection key sections
  not-behind n sections front back e d is =
      sym (last-parts n sections front back e d ∙ ap (λ (f : Option FoundValueAndSource). first_found_or_other f (last_value_in_sections name subsection key front)) (sym is))
