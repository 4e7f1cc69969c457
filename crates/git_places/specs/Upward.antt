-- From a directory upward: the nearest work tree.
use Rattle.std.specs.Prelude.{ℕ, List, [], ◌∷◌, ◌++◌, ◌≡◌, reverse, Option, Some, None, Result, Ok, Err}
use Rattle.gitbase_core.specs.Path.{components, path_joined_with_slash, path_from_reversed_components}
use Rattle.worktree_fs.specs.Owners.{OwnershipByPath}
use Rattle.worktree_fs.specs.Tree.{Names}
use Rattle.git_places.specs.GitDirectory.{git_directory_of_work_tree_top}
use Rattle.git_places.specs.Limits.{SearchLimits, path_with_leading_slash, error_where_search_stops}
use Rattle.git_places.specs.declared.error.PlacesError.{PlacesError}
use Rattle.git_places.specs.declared.error.PlacesError.TheVariants as errors

-- a work tree as it is found: its directory, and its git directory
pub record WorkTreeTop : Type 0 where
  pub directory : List ℕ
  pub git : List ℕ

-- a work tree that was found: the directory that has the `.git`, and the git directory
abbrev pub top : List ℕ → List ℕ → WorkTreeTop
top directory git = record { directory = directory; git = git }

-- a path with components behind it
abbrev pub join_components : List ℕ → List (List ℕ) → List ℕ
join_components path [] = path
join_components path (name ∷ names) = join_components (path_joined_with_slash path name) names

-- the components of a path, the last one first
abbrev pub components_last_first : List ℕ → List (List ℕ)
components_last_first path = reverse (components path)

-- a directory, where it is the top of a work tree, and else what is found above
abbrev pub top_here_or_above : List ℕ → Result WorkTreeTop PlacesError → Result (Option (List ℕ)) PlacesError → Result WorkTreeTop PlacesError
top_here_or_above directory above (Ok (Some git)) = Ok (top directory git)
top_here_or_above directory above (Ok None) = above
top_here_or_above directory above (Err e) = Err e

-- what is found above, unless the search stops
abbrev pub result_unless_search_stops : Option PlacesError → Result WorkTreeTop PlacesError → Result WorkTreeTop PlacesError
result_unless_search_stops None above = above
result_unless_search_stops (Some e) above = Err e

-- the nearest work tree, by the components of the directory, the last one first: the search ends at the top, and where it stops
unfoldable pub nearest_top_of_components : (List ℕ → Option PlacesError) → Names → List (List ℕ) → Result WorkTreeTop PlacesError
nearest_top_of_components stop t [] = top_here_or_above (path_with_leading_slash []) (Err errors.NoRepository) (git_directory_of_work_tree_top t (path_with_leading_slash []))
nearest_top_of_components stop t (name ∷ components_last_first) =
    top_here_or_above (path_with_leading_slash (path_from_reversed_components (name ∷ components_last_first))) (result_unless_search_stops (stop (path_from_reversed_components components_last_first)) (nearest_top_of_components stop t components_last_first))
    (git_directory_of_work_tree_top t (path_with_leading_slash (path_from_reversed_components (name ∷ components_last_first))))

-- the nearest work tree, from a directory upward, by its path: the directory itself comes first
abbrev pub nearest_top_of_path : (List ℕ → Option PlacesError) → Names → List ℕ → Result WorkTreeTop PlacesError
nearest_top_of_path stop t current = nearest_top_of_components stop t (components_last_first current)

-- the nearest work tree, where the search stops at ceilings and at the border of the file system
abbrev pub nearest_top_within_limits : SearchLimits → Names → OwnershipByPath → List ℕ → Result WorkTreeTop PlacesError
nearest_top_within_limits limits t owned current = nearest_top_of_path (error_where_search_stops owned limits) t current

-- no directory of these, the deepest first, is the top of a work tree, and the search goes up from each
abbrev pub AreNoTopsOnWay : (List ℕ → Option PlacesError) → Names → List (List ℕ) → List (List ℕ) → Type 0
AreNoTopsOnWay stop t [] rest = Unit {0}
AreNoTopsOnWay stop t (name ∷ passed) rest =
    (git_directory_of_work_tree_top t (path_with_leading_slash (path_from_reversed_components (name ∷ passed ++ rest))) ≡ Ok None) × (stop (path_from_reversed_components (passed ++ rest)) ≡ None) × AreNoTopsOnWay stop t passed rest

-- a work tree is the nearest one: the directory itself or one above it, and none of the directories passed on the way is one, is broken,
-- is a bare repository, or is one at which the search stops
pub record IsNearestTop (stop : List ℕ → Option PlacesError) (t : Names) (current : List ℕ) (found : WorkTreeTop) : Type 0 where
  pub passed : List (List ℕ)
  pub rest : List (List ℕ)
  pub way : passed ++ rest ≡ components_last_first current
  pub here : found.directory ≡ path_with_leading_slash (path_from_reversed_components rest)
  pub git : git_directory_of_work_tree_top t found.directory ≡ Ok (Some found.git)
  pub without : AreNoTopsOnWay stop t passed rest
