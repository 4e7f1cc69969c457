-- No name is given twice.
use Rattle.std.proofs.Common.{◌≡◌, ℕ, List, [], ◌∷◌, ◌++◌, Bool, true, false, Option, Some, None, cond, refl, subst, sym}
use Rattle.std.specs.Prelude.{bytes_eq}
use Rattle.std.specs.List.{IsDistinct}
use Rattle.std.specs.Cmp.Lexicographic.{nat_list_eq_equiv}
use Rattle.std.proofs.lemmas.Map.Keys.{IsDistinct-push}
use Rattle.git_config_lite.specs.Sections.{Section}
use Rattle.submodule.specs.Names.{is_text_in_list, names_with_name_added_once, name_if_gitmodules_section, names_after_reading_sections, submodule_names_of_gitmodules, submodule_sections}

with_one : (names : List (List ℕ)) (name : List ℕ) (b : Bool) → is_text_in_list name names ≡ b → IsDistinct bytes_eq names
    → IsDistinct bytes_eq (cond b names (names ++ name ∷ []))
with_one names name true there distinct = distinct
with_one names name false new distinct = IsDistinct-push nat_list_eq_equiv names name distinct new

with_told : (names : List (List ℕ)) (name : Option (List ℕ)) → IsDistinct bytes_eq names → IsDistinct bytes_eq (names_with_name_added_once names name)
with_told names None distinct = distinct
with_told names (Some name) distinct = with_one names name (is_text_in_list name names) refl distinct

after : (sections : List Section) (names : List (List ℕ)) → IsDistinct bytes_eq names → IsDistinct bytes_eq (names_after_reading_sections names sections)
after [] names distinct = distinct
after (section ∷ sections) names distinct = after sections (names_with_name_added_once names (name_if_gitmodules_section section)) (with_told names (name_if_gitmodules_section section) distinct)

no_names : IsDistinct bytes_eq []
unfolding IsDistinct
no_names = tt

pub distinct_names : (names : List (List ℕ)) (sections : List Section) → names ≡ submodule_names_of_gitmodules sections → IsDistinct bytes_eq names
distinct_names names sections are = subst (IsDistinct bytes_eq) (sym are) (after (submodule_sections sections) [] no_names)
