-- What a delegate was given in a call: entries of distinct paths, each at or beneath a directory.
use Rattle.std.proofs.Common.{◌≡◌, ℕ, ◌≤◌, List, [], ◌∷◌, ◌++◌, Bool, true, false, Option, Some, cond, count_by, is_some, refl, ap, arith}
use Rattle.std.specs.Str.{bytes_eq}
use Rattle.std.specs.List.{AllByRecursion}
use Rattle.std.proofs.lemmas.Cmp.{nat_list_eq_equiv}
use Rattle.gitbase_core.specs.Path.{is_prefix_by_whole_components}
use Rattle.dir_classify.specs.declared.entry.Entry.{Entry}
use Rattle.dir_walk.specs.declared.outcome.Outcome.{Outcome}
use Rattle.dir_walk.specs.Distinct.{HasDistinctPaths}
use Rattle.dir_walk.specs.Emissions.{Emission, path_of_emission}
use Rattle.dir_walk.specs.Given.{emissions_or_empty}
use Rattle.dir_walk.specs.Puts.{AddsEmissionsWithinRoom, count_emissions_at_path, one_at_or_beneath_path}
use Rattle.dir_walk.proofs.Order.Counts.{count_by-append, count_by-cons, count_by-yes, one-le}

beneath : (d : List ℕ) (more : List Emission) → ((path : List ℕ) → count_emissions_at_path path more ≤ one_at_or_beneath_path d path) → AllByRecursion (λ (x : Emission). is_prefix_by_whole_components d (path_of_emission x) ≡ true) more
beneath d [] h = tt
beneath d (x ∷ more) h =
    (first (is_prefix_by_whole_components d (path_of_emission x)) refl, beneath d more (λ path. omega (arith, h path, count_by-cons (λ (y : Emission). bytes_eq path (path_of_emission y)) x more)))
  where
    first : (b : Bool) → is_prefix_by_whole_components d (path_of_emission x) ≡ b → is_prefix_by_whole_components d (path_of_emission x) ≡ true
    first true e = e
    first false e =
        let q : Emission → Bool = λ y. bytes_eq (path_of_emission x) (path_of_emission y) in
        absurd (omega (arith, h (path_of_emission x), count_by-yes q x more (nat_list_eq_equiv.refl (path_of_emission x)), ap {B = ℕ} (λ (b : Bool). cond b 1 0) e))

module _ (d : List ℕ) {a b : Option (List Emission)} {i j : Outcome} {up : List Entry} (put : AddsEmissionsWithinRoom (one_at_or_beneath_path d) a b i j up) (xs more : List Emission) (before : a ≡ Some xs) (after : b ≡ Some (xs ++ more)) where
  given-since : (path : List ℕ) → count_emissions_at_path path more ≤ one_at_or_beneath_path d path
  given-since path =
      let q : Emission → Bool = λ y. bytes_eq path (path_of_emission y) in
      omega (
        arith,
        put.once (ap is_some before) path,
        ap {B = ℕ} (λ (x : Option (List Emission)). count_by q (emissions_or_empty x)) before,
        ap {B = ℕ} (λ (x : Option (List Emission)). count_by q (emissions_or_empty x)) after,
        count_by-append q xs more,
      )

  pub given-distinct : HasDistinctPaths more
  given-distinct = record { once = λ path. omega (arith, given-since path, one-le (is_prefix_by_whole_components d path)) }

  pub given-beneath : AllByRecursion (λ (x : Emission). is_prefix_by_whole_components d (path_of_emission x) ≡ true) more
  given-beneath = beneath d more given-since
