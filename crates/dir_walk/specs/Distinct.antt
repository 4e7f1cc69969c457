-- Entries in the order of their paths, and of which each path stands once.
use Rattle.std.specs.Prelude.{◌≡◌, ℕ, ◌≤◌, List, [], ◌∷◌, true, false, count_by}
use Rattle.std.specs.Str.{bytes_eq}
use Rattle.std.specs.List.{AllByRecursion}
use Rattle.gitbase_core.specs.Path.{is_beneath_directory}
use Rattle.dir_walk.specs.Emissions.{Emission, path_of_emission, is_before_by_path}

-- no path stands twice
pub record HasDistinctPaths (entries : List Emission) : Type 0 where
  pub once : (path : List ℕ) → count_by (λ x. bytes_eq path (path_of_emission x)) entries ≤ 1

-- no entry's path stands before that of one in front of it, byte by byte; a path may stand again
abbrev pub IsAscendingByPath : List Emission → Type 0
IsAscendingByPath [] = Unit {0}
IsAscendingByPath (x ∷ xs) = AllByRecursion (λ y. is_before_by_path y x ≡ false) xs × IsAscendingByPath xs

-- each entry's path stands before those of the entries behind it, byte by byte
abbrev pub IsStrictlyAscendingByPath : List Emission → Type 0
IsStrictlyAscendingByPath [] = Unit {0}
IsStrictlyAscendingByPath (x ∷ xs) = AllByRecursion (λ y. is_before_by_path x y ≡ true) xs × IsStrictlyAscendingByPath xs

-- no path lies beneath that of an entry
abbrev pub LiesAboveNoEntry : List Emission → Emission → Type 0
LiesAboveNoEntry all x = AllByRecursion (λ (y : Emission). is_beneath_directory (path_of_emission x) (path_of_emission y) ≡ false) all

-- no path lies beneath another
abbrev pub IsWithoutNestedPaths : List Emission → Type 0
IsWithoutNestedPaths all = AllByRecursion (LiesAboveNoEntry all) all
