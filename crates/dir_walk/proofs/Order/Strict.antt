-- Entries with distinct paths ascend strictly once they are in the order of their paths.
use Rattle.std.proofs.Common.{◌≡◌, List, [], ◌∷◌, Bool, true, false, count_by, refl, sym, ◌∙◌, arith}
use Rattle.std.specs.Str.{bytes_eq}
use Rattle.std.specs.List.{AllByRecursion}
use Rattle.std.proofs.lemmas.Cmp.{nat_list_eq_equiv}
use Rattle.std.proofs.lemmas.Bool.{true≢false}
use Rattle.dir_walk.specs.Emissions.{Emission, path_of_emission, is_before_by_path, sort_emissions_by_path}
use Rattle.dir_walk.specs.Distinct.{HasDistinctPaths, IsStrictlyAscendingByPath, IsAscendingByPath}
use Rattle.dir_walk.proofs.Order.Counts.{count_by-cons, count_by-yes, count_by-no}
use Rattle.dir_walk.proofs.Order.Sorting.{IsAscending-by_path, tie, count_by-by_path}

none_pass : (p : Emission → Bool) (xs : List Emission) → count_by p xs ≡ 0 → AllByRecursion (λ y. p y ≡ false) xs
none_pass p [] none = tt
none_pass p (x ∷ xs) none = go (p x) refl (none_pass p xs)
  where
    go : (b : Bool) → p x ≡ b → (count_by p xs ≡ 0 → AllByRecursion (λ y. p y ≡ false) xs) → AllByRecursion (λ y. p y ≡ false) (x ∷ xs)
    go true is others = absurd (omega (arith, none, count_by-yes p x xs is))
    go false is others = (is, others (omega (arith, none, count_by-no p x xs is)))

before : (x y : Emission) → is_before_by_path y x ≡ false → bytes_eq (path_of_emission x) (path_of_emission y) ≡ false → is_before_by_path x y ≡ true
before x y down other = go (is_before_by_path x y) refl
  where
    go : (b : Bool) → is_before_by_path x y ≡ b → is_before_by_path x y ≡ true
    go true is = is
    go false is = absurd (true≢false (sym (tie (path_of_emission y) (path_of_emission x) down is) ∙ other))

all_before : (x : Emission) (xs : List Emission) → AllByRecursion (λ y. is_before_by_path y x ≡ false) xs → AllByRecursion (λ y. bytes_eq (path_of_emission x) (path_of_emission y) ≡ false) xs → AllByRecursion (λ y. is_before_by_path x y ≡ true) xs
all_before x [] up other = tt
all_before x (y ∷ ys) up other = (before x y up.0 other.0, all_before x ys up.1 other.1)

Ascends-distinct : (xs : List Emission) → IsAscendingByPath xs → HasDistinctPaths xs → IsStrictlyAscendingByPath xs
Ascends-distinct [] up distinct = tt
Ascends-distinct (x ∷ xs) up distinct =
    let same : Emission → Bool = λ e. bytes_eq (path_of_emission x) (path_of_emission e) in
    let others : count_by same xs ≡ 0 = omega (arith, distinct.once (path_of_emission x), count_by-yes same x xs (nat_list_eq_equiv.refl (path_of_emission x))) in (
      all_before x xs up.0 (none_pass same xs others),
      Ascends-distinct xs up.1 (record { once = λ q. omega (arith, distinct.once q, count_by-cons (λ e. bytes_eq q (path_of_emission e)) x xs) }),
    )

pub Ascends-by_path : (xs : List Emission) → HasDistinctPaths xs → IsStrictlyAscendingByPath (sort_emissions_by_path xs)
Ascends-by_path xs distinct =
    Ascends-distinct (sort_emissions_by_path xs) (IsAscending-by_path xs) (record { once = λ q. omega (arith, distinct.once q, count_by-by_path (λ e. bytes_eq q (path_of_emission e)) xs) })
