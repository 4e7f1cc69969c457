-- Entries of which none lies beneath another, and each path stands once.
use Rattle.std.proofs.Common.{◌≡◌, inl, inr, List, [], ◌∷◌, true, false, refl, sym, ap, ◌∙◌}
use Rattle.std.specs.Str.{bytes_eq}
use Rattle.std.specs.Cmp.Lexicographic.{slice_cmp}
use Rattle.std.specs.Ordering.{is_eq, is_lt, nat_cmp}
use Rattle.std.specs.declared.cmp.Ordering.{Ordering}
use Rattle.std.specs.declared.cmp.Ordering.TheVariants.{Less, Equal, Greater}
use Rattle.std.proofs.lemmas.Bool.{true≢false}
use Rattle.std.proofs.lemmas.Cmp.{nat_list_eq_equiv}
use Rattle.std.proofs.lemmas.Map.Text.{is_eq-slice_cmp}
use Rattle.gitbase_core.specs.Path.{is_beneath_directory}
use Rattle.dir_walk.specs.Covered.{IsListElement}
use Rattle.dir_walk.specs.Distinct.{IsWithoutNestedPaths, IsStrictlyAscendingByPath, LiesAboveNoEntry}
use Rattle.dir_walk.specs.Emissions.{Emission, is_before_by_path, path_of_emission}
use Rattle.dir_walk.proofs.Order.Members.{in-all}

pub flat-in : (all : List Emission) (x y : Emission) → IsWithoutNestedPaths all → IsListElement x all → IsListElement y all → is_beneath_directory (path_of_emission x) (path_of_emission y) ≡ false
flat-in all x y flat here there = in-all (λ (z : Emission). is_beneath_directory (path_of_emission x) (path_of_emission z) ≡ false) y all (in-all (LiesAboveNoEntry all) x all flat here) there

-- ---- each path once

never-before : (x y : Emission) → path_of_emission x ≡ path_of_emission y → is_before_by_path x y ≡ false
never-before x y same = go (slice_cmp nat_cmp (path_of_emission x) (path_of_emission y)) (is_eq-slice_cmp (path_of_emission x) (path_of_emission y) ∙ ap (bytes_eq (path_of_emission x)) (sym same) ∙ nat_list_eq_equiv.refl (path_of_emission x))
  where
    go : (o : Ordering) → is_eq o ≡ true → is_lt o ≡ false
    go Less e = absurd (cc e)
    go Equal e = refl
    go Greater e = refl

pub once-in : (all : List Emission) (x y : Emission) → IsStrictlyAscendingByPath all → IsListElement x all → IsListElement y all → path_of_emission x ≡ path_of_emission y → x ≡ y
once-in [] x y up here there same = absurd here
once-in (z ∷ all) x y up (inl p) (inl q) same = p ∙ sym q
once-in (z ∷ all) x y up (inl p) (inr q) same =
    absurd (true≢false (sym (in-all (λ (k : Emission). is_before_by_path z k ≡ true) y all up.0 q) ∙ never-before z y (ap path_of_emission (sym p) ∙ same)))
once-in (z ∷ all) x y up (inr p) (inl q) same =
    absurd (true≢false (sym (in-all (λ (k : Emission). is_before_by_path z k ≡ true) x all up.0 p) ∙ never-before z x (ap path_of_emission (sym q) ∙ sym same)))
once-in (z ∷ all) x y up (inr p) (inr q) same = once-in all x y up.1 p q same
