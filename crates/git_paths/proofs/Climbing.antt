-- How a path reads from some directories, a step at a time.
use Rattle.std.proofs.Common.{◌≡◌, ◌++◌, ℕ, List, [], ◌∷◌, Option, Some, None, option_map, unwrap_or, ap, refl}
use Rattle.git_paths.specs.RelativeNames.{strip_leading_directory_name, dotdot_slash_per_component, path_relative_to_components, path_or_dot_slash_if_empty}

-- where the first name leads to the path, what is left reads from the others
pub from_names-beneath : (name : List ℕ) (names : List (List ℕ)) (path rest : List ℕ) → strip_leading_directory_name name path ≡ Some rest
    → path_relative_to_components (name ∷ names) path ≡ path_relative_to_components names rest
unfolding path_relative_to_components
from_names-beneath name names path rest is =
    ap (λ (found : Option (List ℕ)). unwrap_or (option_map (λ (left : List ℕ). path_relative_to_components names left) found) (dotdot_slash_per_component (name ∷ names) ++ path)) is

-- where it does not, the path stands behind one step up for each
pub from_names-aside : (name : List ℕ) (names : List (List ℕ)) (path : List ℕ) → strip_leading_directory_name name path ≡ None
    → path_or_dot_slash_if_empty (path_relative_to_components (name ∷ names) path) ≡ dotdot_slash_per_component (name ∷ names) ++ path
unfolding path_relative_to_components
from_names-aside name names path is =
    ap (λ (found : Option (List ℕ)). path_or_dot_slash_if_empty (unwrap_or (option_map (λ (left : List ℕ). path_relative_to_components names left) found) (dotdot_slash_per_component (name ∷ names) ++ path))) is

-- with no names left it is the path
pub from_names-none : (path : List ℕ) → path_relative_to_components [] path ≡ path
unfolding path_relative_to_components
from_names-none path = refl
