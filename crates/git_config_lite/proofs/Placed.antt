-- What an index of sections finds is what a walk over all of them finds.
use Rattle.std.proofs.Common.{◌≡◌, ℕ, suc, ◌+◌, Bool, true, false, ◌&&◌, List, [], ◌∷◌, ◌++◌, reverse, Option, Some, None, bytes_eq, refl, sym, ap, ◌∙◌, arith, subst}
use Rattle.std.specs.List.{filter, slice_get}
use Rattle.std.specs.Cmp.{IsStrictWeakOrder}
use Rattle.std.proofs.lemmas.Cmp.{nat_list_cmp_total, tied_itself}
use Rattle.std.proofs.lemmas.List.{reverse-append}
use Rattle.std.proofs.lemmas.List.MinMax.{ranks_by}
use Rattle.std.proofs.lemmas.Slice.Eq.{bytes_eq-Decides}
use Rattle.git_config_lite.proofs.KeyRuns.{not_both}
use Rattle.git_config_lite.specs.declared.section_place.SectionPlace.{SectionPlace}
use Rattle.git_config_lite.specs.Sections.{Section}
use Rattle.git_config_lite.specs.Booleans.{is_equal_ignoring_ascii_case}
use Rattle.git_config_lite.specs.Lookups.{FoundValueAndSource, is_same_subsection, last_value_in_matching_section, first_found_or_other, value_of_first_section_with_key, last_value_in_sections}
use Rattle.git_config_lite.specs.SectionPlaces.{subsection_or_empty_text, section_place, places_numbered_from, is_subsection_text_before, place_has_subsection_text, IsSortedIndexOfSections, last_value_in_optional_section, value_of_first_place_with_key}

pub by_keys : IsStrictWeakOrder is_subsection_text_before
by_keys = ranks_by nat_list_cmp_total (λ (p : SectionPlace). p.key)

or_none : (found : Option FoundValueAndSource) → first_found_or_other found None ≡ found
or_none None = refl
or_none (Some found) = refl

pub or_assoc : (a b c : Option FoundValueAndSource) → first_found_or_other a (first_found_or_other b c) ≡ first_found_or_other (first_found_or_other a b) c
or_assoc None b c = refl
or_assoc (Some a) b c = refl

and_no : (f t : Bool) → t ≡ false → (f && t) ≡ false
and_no false t e = refl
and_no true t e = e

has_same : (key : List ℕ) (n : ℕ) → place_has_subsection_text key (section_place key n) ≡ true
has_same key n = rw (tied_itself nat_list_cmp_total key) refl

-- a section of another text has another subsection
other_subsection : (n : ℕ) (a b : Option (List ℕ)) → place_has_subsection_text (subsection_or_empty_text b) (section_place (subsection_or_empty_text a) n) ≡ false → is_same_subsection a b ≡ false
other_subsection n None None h = absurd (not_both (place_has_subsection_text [] (section_place [] n)) h (has_same [] n))
other_subsection n None (Some b) h = refl
other_subsection n (Some a) None h = refl
other_subsection n (Some a) (Some b) h = go (bytes_eq a b) refl
  where
    go : (t : Bool) → bytes_eq a b ≡ t → t ≡ false
    go false e = refl
    go true e =
        let same : a ≡ b = (bytes_eq-Decides a b).0 e in
        let tied : place_has_subsection_text b (section_place a n) ≡ true = subst (λ (k : List ℕ). place_has_subsection_text b (section_place k n) ≡ true) (sym same) (has_same b n) in
        absurd (not_both (place_has_subsection_text b (section_place a n)) h tied)

module _ (name : List ℕ) (subsection : Option (List ℕ)) (key : List ℕ) where
  placed-end : (sections : List Section) (ps : List SectionPlace) (p : SectionPlace)
      → value_of_first_place_with_key name subsection key sections (ps ++ p ∷ [])
      ≡ first_found_or_other (value_of_first_place_with_key name subsection key sections ps) (last_value_in_optional_section name subsection key (slice_get sections p.number))
  placed-end sections [] p = or_none (last_value_in_optional_section name subsection key (slice_get sections p.number))
  placed-end sections (q ∷ ps) p =
      ap (first_found_or_other (last_value_in_optional_section name subsection key (slice_get sections q.number))) (placed-end sections ps p)
      ∙ or_assoc (last_value_in_optional_section name subsection key (slice_get sections q.number)) (value_of_first_place_with_key name subsection key sections ps)
      (last_value_in_optional_section name subsection key (slice_get sections p.number))

  found-end : (sections : List Section) (section : Section)
      → value_of_first_section_with_key name subsection key (sections ++ section ∷ [])
      ≡ first_found_or_other (value_of_first_section_with_key name subsection key sections) (last_value_in_matching_section name subsection key section)
  found-end [] section = or_none (last_value_in_matching_section name subsection key section)
  found-end (other ∷ sections) section =
      ap (first_found_or_other (last_value_in_matching_section name subsection key other)) (found-end sections section)
      ∙ or_assoc (last_value_in_matching_section name subsection key other) (value_of_first_section_with_key name subsection key sections) (last_value_in_matching_section name subsection key section)

  absent : (section : Section) → is_same_subsection section.subsection subsection ≡ false → last_value_in_matching_section name subsection key section ≡ None
  absent section e = rw (and_no (is_equal_ignoring_ascii_case section.name name) (is_same_subsection section.subsection subsection) e) refl

  placed-from : (sections : List Section) (n : ℕ) (rest : List Section) → ((i : ℕ) → slice_get sections (n + i) ≡ slice_get rest i)
      → value_of_first_place_with_key name subsection key sections (reverse (filter (place_has_subsection_text (subsection_or_empty_text subsection)) (places_numbered_from n rest)))
      ≡ value_of_first_section_with_key name subsection key (reverse rest)
  placed-from sections n [] same = refl
  placed-from sections n (section ∷ rest) same =
      go (place_has_subsection_text (subsection_or_empty_text subsection) (section_place (subsection_or_empty_text section.subsection) n)) refl
      (placed-from sections (n + 1) rest (λ i. ap (slice_get sections) {x = n + 1 + i} {y = n + suc i} (omega arith) ∙ same (suc i)))
    where
      here : last_value_in_optional_section name subsection key (slice_get sections n) ≡ last_value_in_matching_section name subsection key section
      here = ap (λ (s : Option Section). last_value_in_optional_section name subsection key s) (ap (slice_get sections) {x = n} {y = n + 0} (omega arith) ∙ same 0)

      go : (t : Bool) → place_has_subsection_text (subsection_or_empty_text subsection) (section_place (subsection_or_empty_text section.subsection) n) ≡ t
          → value_of_first_place_with_key name subsection key sections (reverse (filter (place_has_subsection_text (subsection_or_empty_text subsection)) (places_numbered_from (n + 1) rest)))
          ≡ value_of_first_section_with_key name subsection key (reverse rest)
          → value_of_first_place_with_key name subsection key sections (reverse (filter (place_has_subsection_text (subsection_or_empty_text subsection)) (places_numbered_from n (section ∷ rest))))
          ≡ value_of_first_section_with_key name subsection key (reverse (section ∷ rest))
      go true e more =
          rw (
            e,
            reverse-append (section_place (subsection_or_empty_text section.subsection) n ∷ []) (filter (place_has_subsection_text (subsection_or_empty_text subsection)) (places_numbered_from (n + 1) rest)),
            reverse-append (section ∷ []) rest,
          )
          (placed-end sections (reverse (filter (place_has_subsection_text (subsection_or_empty_text subsection)) (places_numbered_from (n + 1) rest))) (section_place (subsection_or_empty_text section.subsection) n)
          ∙ ap (λ (f : Option FoundValueAndSource). first_found_or_other f (last_value_in_optional_section name subsection key (slice_get sections n))) more
          ∙ ap (first_found_or_other (value_of_first_section_with_key name subsection key (reverse rest))) here
          ∙ sym (found-end (reverse rest) section))
      go false e more =
          rw (e, reverse-append (section ∷ []) rest)
          (more
          ∙ sym (or_none (value_of_first_section_with_key name subsection key (reverse rest)))
          ∙ ap (first_found_or_other (value_of_first_section_with_key name subsection key (reverse rest)))
          (sym (absent section (other_subsection n section.subsection subsection e)))
          ∙ sym (found-end (reverse rest) section))

  pub placed : (places : List SectionPlace) (sections : List Section) → IsSortedIndexOfSections places sections
      → value_of_first_place_with_key name subsection key sections (reverse (filter (place_has_subsection_text (subsection_or_empty_text subsection)) places)) ≡ last_value_in_sections name subsection key sections
  placed places sections stable =
      ap (λ (ps : List SectionPlace). value_of_first_place_with_key name subsection key sections (reverse ps)) (stable (section_place (subsection_or_empty_text subsection) 0))
      ∙ placed-from sections 0 sections (λ i. ap (slice_get sections) {x = 0 + i} {y = i} (omega arith))
