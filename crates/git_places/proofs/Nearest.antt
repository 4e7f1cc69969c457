-- The work tree that is found is the nearest one.
use Rattle.std.proofs.Common.{◌≡◌, ℕ, List, [], ◌∷◌, ◌++◌, Option, Some, None, Result, Ok, Err, refl, sym, ap, ◌∙◌}
use Rattle.gitbase_core.specs.Path.{path_from_reversed_components}
use Rattle.worktree_fs.specs.Tree.{Names}
use Rattle.git_places.specs.GitDirectory.{git_directory_of_work_tree_top}
use Rattle.worktree_fs.specs.Owners.{OwnershipByPath}
use Rattle.git_places.specs.Limits.{SearchLimits, path_with_leading_slash, error_where_search_stops}
use Rattle.git_places.specs.Upward.{WorkTreeTop, top, components_last_first, top_here_or_above, result_unless_search_stops, nearest_top_of_components, nearest_top_within_limits, AreNoTopsOnWay, IsNearestTop}
use Rattle.git_places.proofs.UpwardLemmas.{Stop}
use Rattle.git_places.specs.declared.error.PlacesError.{PlacesError}
use Rattle.git_places.specs.declared.error.PlacesError.TheVariants as errors

-- what is found at or above a directory is there, or nothing is there and it is found above
data Split (directory : List ℕ) (above : Result WorkTreeTop PlacesError) (at : Result (Option (List ℕ)) PlacesError) (found : WorkTreeTop) : Type 0 where
  here : (git : List ℕ) → at ≡ Ok (Some git) → found ≡ top directory git → Split directory above at found
  further : at ≡ Ok None → above ≡ Ok found → Split directory above at found

abbrev found_top : WorkTreeTop → Result WorkTreeTop PlacesError
found_top found = Ok found

ok-is : (x y : WorkTreeTop) → found_top x ≡ found_top y → x ≡ y
ok-is x y e = cc e

abbrev there : List ℕ → Result (Option (List ℕ)) PlacesError
there git = Ok (Some git)

split : (directory : List ℕ) (above : Result WorkTreeTop PlacesError) (at : Result (Option (List ℕ)) PlacesError) (found : WorkTreeTop)
    → top_here_or_above directory above at ≡ Ok found → Split directory above at found
split directory above (Ok (Some git)) found e = here git refl (sym (ok-is _ _ e))
split directory above (Ok None) found e = further refl e
split directory above (Err e) found is = absurd (cc is)

-- the nearest one, by the components of the directory
record NearestOf (stop : Stop) (t : Names) (start : List (List ℕ)) (found : WorkTreeTop) : Type 0 where
  passed : List (List ℕ)
  rest : List (List ℕ)
  way : passed ++ rest ≡ start
  is_here : found.directory ≡ path_with_leading_slash (path_from_reversed_components rest)
  git : git_directory_of_work_tree_top t found.directory ≡ Ok (Some found.git)
  without : AreNoTopsOnWay stop t passed rest

at_hand : (stop : Stop) (t : Names) (rest : List (List ℕ)) (git : List ℕ) (found : WorkTreeTop)
    → git_directory_of_work_tree_top t (path_with_leading_slash (path_from_reversed_components rest)) ≡ Ok (Some git) → found ≡ top (path_with_leading_slash (path_from_reversed_components rest)) git → NearestOf stop t rest found
at_hand stop t rest git found at is =
    record {
      passed = [];
      rest = rest;
      way = refl;
      is_here = ap (λ (f : WorkTreeTop). f.directory) is;
      git = ap (λ (f : WorkTreeTop). git_directory_of_work_tree_top t f.directory) is ∙ at ∙ ap (λ (f : WorkTreeTop). there f.git) (sym is);
      without = record {};
    }

nearest_of : (stop : Stop) (t : Names) (start : List (List ℕ)) (found : WorkTreeTop) → nearest_top_of_components stop t start ≡ Ok found → NearestOf stop t start found
unfolding nearest_top_of_components
nearest_of stop t [] found e = go (split _ _ _ found e)
  where
    go : Split (path_with_leading_slash []) (Err errors.NoRepository) (git_directory_of_work_tree_top t (path_with_leading_slash [])) found → NearestOf stop t [] found
    go (here git at is) = at_hand stop t [] git found at is
    go (further at above) = absurd (cc above)
nearest_of stop t (name ∷ components_last_first) found e = go (λ up. nearest_of stop t components_last_first found up) (split _ _ _ found e)
  where
    further_on : NearestOf stop t components_last_first found → git_directory_of_work_tree_top t (path_with_leading_slash (path_from_reversed_components (name ∷ components_last_first))) ≡ Ok None → stop (path_from_reversed_components components_last_first) ≡ None → NearestOf stop t (name ∷ components_last_first) found
    further_on up at clear =
        record {
          passed = name ∷ up.passed;
          rest = up.rest;
          way = ap (λ (l : List (List ℕ)). name ∷ l) up.way;
          is_here = up.is_here;
          git = up.git;
          without = (
            ap (λ (l : List (List ℕ)). git_directory_of_work_tree_top t (path_with_leading_slash (path_from_reversed_components (name ∷ l)))) up.way ∙ at,
            ap (λ (l : List (List ℕ)). stop (path_from_reversed_components l)) up.way ∙ clear,
            up.without,
          );
        }

    by_stop : (s : Option PlacesError) → stop (path_from_reversed_components components_last_first) ≡ s → (nearest_top_of_components stop t components_last_first ≡ Ok found → NearestOf stop t components_last_first found)
        → git_directory_of_work_tree_top t (path_with_leading_slash (path_from_reversed_components (name ∷ components_last_first))) ≡ Ok None → result_unless_search_stops s (nearest_top_of_components stop t components_last_first) ≡ Ok found → NearestOf stop t (name ∷ components_last_first) found
    by_stop (Some e) is hyp at above = absurd (cc above)
    by_stop None is hyp at above = further_on (hyp above) at is

    go : (nearest_top_of_components stop t components_last_first ≡ Ok found → NearestOf stop t components_last_first found)
        → Split (path_with_leading_slash (path_from_reversed_components (name ∷ components_last_first))) (result_unless_search_stops (stop (path_from_reversed_components components_last_first)) (nearest_top_of_components stop t components_last_first)) (git_directory_of_work_tree_top t (path_with_leading_slash (path_from_reversed_components (name ∷ components_last_first)))) found
        → NearestOf stop t (name ∷ components_last_first) found
    go hyp (here git at is) = at_hand stop t (name ∷ components_last_first) git found at is
    go hyp (further at above) = by_stop (stop (path_from_reversed_components components_last_first)) refl hyp at above

pub nearest : (limits : SearchLimits) (t : Names) (owned : OwnershipByPath) (current : List ℕ) (found : WorkTreeTop) → nearest_top_within_limits limits t owned current ≡ Ok found → IsNearestTop (error_where_search_stops owned limits) t current found
nearest limits t owned current found e =
    let of = nearest_of (error_where_search_stops owned limits) t (components_last_first current) found e in
    record { passed = of.passed; rest = of.rest; way = of.way; here = of.is_here; git = of.git; without = of.without }
