-- Paths below a directory, component by component.
use Rattle.std.proofs.Common.{◌≡◌, ◌<◌, ◌-◌, ℕ, zero, suc, List, [], ◌∷◌, refl, arith}
use Rattle.gitbase_core.specs.Path.{path_joined_with_slash}
use Rattle.worktree_report.specs.Below.{join_first_components}

pub below-step : (directory : List ℕ) (n : ℕ) (name : List ℕ) (names : List (List ℕ)) → 0 < n → join_first_components directory n (name ∷ names) ≡ join_first_components (path_joined_with_slash directory name) (n - 1) names
unfolding join_first_components
below-step directory zero name names some = absurd (omega (arith, some))
below-step directory (suc n) name names some = let e : suc n - 1 ≡ n = omega arith in rw e refl

pub below-no_more : (directory : List ℕ) (n : ℕ) → join_first_components directory n [] ≡ directory
unfolding join_first_components
below-no_more directory zero = refl
below-no_more directory (suc n) = refl

pub below-none : (directory : List ℕ) (names : List (List ℕ)) → join_first_components directory 0 names ≡ directory
unfolding join_first_components
below-none directory names = refl
