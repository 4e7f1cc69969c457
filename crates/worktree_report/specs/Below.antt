-- Paths below a directory by their components.
use Rattle.std.specs.Prelude.{ℕ, zero, suc, List, [], ◌∷◌}
use Rattle.gitbase_core.specs.Path.{path_joined_with_slash}

-- a directory and so many names below it, or all where there are no more
unfoldable pub join_first_components : List ℕ → ℕ → List (List ℕ) → List ℕ
join_first_components directory zero names = directory
join_first_components directory (suc n) [] = directory
join_first_components directory (suc n) (name ∷ names) = join_first_components (path_joined_with_slash directory name) n names

-- the names below a directory up to the one with a number, from 0
abbrev pub join_components_through : List ℕ → ℕ → List (List ℕ) → List ℕ
join_components_through directory at [] = directory
join_components_through directory at (name ∷ names) = join_first_components (path_joined_with_slash directory name) at names
