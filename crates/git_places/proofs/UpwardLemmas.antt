-- The components of a directory and its path, on the way upward.
use Rattle.std.proofs.Common.{◌≡◌, ℕ, Bool, true, false, List, [], ◌∷◌, ◌++◌, reverse, Option, Some, None, Result, Ok, Err, refl, sym, ap, ◌∙◌}
use Rattle.std.proofs.lemmas.List.{append-nil, append_assoc, reverse-append, reverse-reverse}
use Rattle.gitbase_core.specs.Path.{components, path_from_reversed_components, parent}
use Rattle.gitbase_core.proofs.Names.{AreNames, AreNames-components}
use Rattle.std.specs.Prelude.{is_some, unwrap_or}
use Rattle.git_places.specs.GitDirectory.{git_directory_of_work_tree_top}
use Rattle.gitbase_core.proofs.ClosedPaths.{parent-path_of}
use Rattle.worktree_fs.specs.Tree.{Names}
use Rattle.worktree_fs.proofs.Paths.Spelled.{AreNames-reverse, components-spelled}
use Rattle.git_places.specs.Limits.{path_with_leading_slash, true_unless_error}
use Rattle.git_places.specs.Upward.{WorkTreeTop, top, join_components, components_last_first, top_here_or_above, result_unless_search_stops, nearest_top_of_components, nearest_top_of_path}
use Rattle.git_places.specs.declared.error.PlacesError.{PlacesError}
use Rattle.git_places.specs.declared.error.PlacesError.TheVariants as errors

added-path_of : (done names : List (List ℕ)) → join_components (path_from_reversed_components done) names ≡ path_from_reversed_components (reverse names ++ done)
added-path_of done [] = refl
added-path_of done (name ∷ names) =
    added-path_of (name ∷ done) names
    ∙ ap path_from_reversed_components (sym (ap (λ l. l ++ done) (reverse-append (name ∷ []) names) ∙ append_assoc (reverse names) (name ∷ []) done))

-- a path is that of its components
abbrev pub IsSpelled : List ℕ → Type 0
IsSpelled path = path ≡ path_from_reversed_components (components_last_first path)

below-path_of : (rest : List (List ℕ)) → AreNames rest → components_last_first (path_from_reversed_components rest) ≡ rest
below-path_of rest are =
    ap reverse (ap (λ l. components (path_from_reversed_components l)) (sym (reverse-reverse rest)) ∙ components-spelled (reverse rest) (AreNames-reverse rest are))
    ∙ reverse-reverse rest

AreNames-below : (path : List ℕ) → AreNames (components_last_first path)
AreNames-below path = AreNames-reverse (components path) (AreNames-components path)

added-is : (path : List ℕ) → join_components [] (components path) ≡ path_from_reversed_components (components_last_first path)
added-is path = added-path_of [] (components path) ∙ ap path_from_reversed_components (append-nil (reverse (components path)))

-- why a search stops at a directory, if it does
abbrev pub Stop : Type 0
Stop = List ℕ → Option PlacesError

pub record Starts (path made : List ℕ) : Type 0 where
  pub spelled : IsSpelled made
  pub same : (stop : Stop) (t : Names) → nearest_top_of_path stop t made ≡ nearest_top_of_path stop t path

pub starts : (path made : List ℕ) → made ≡ join_components [] (components path) → Starts path made
starts path made is =
    let named : made ≡ path_from_reversed_components (components_last_first path) = is ∙ added-is path in
    let same : components_last_first made ≡ components_last_first path = ap components_last_first named ∙ below-path_of (components_last_first path) (AreNames-below path) in
    record { spelled = named ∙ ap path_from_reversed_components (sym same); same = λ stop t. ap (nearest_top_of_components stop t) same }

pub some-is : {A : Type 0} (x y : A) → Some x ≡ Some y → x ≡ y
some-is x y e = cc e

-- from a path that is spelled by its components to the one above
pub record Rises (path up : List ℕ) : Type 0 where
  pub spelled : IsSpelled up
  pub finds : (stop : Stop) (t : Names) → nearest_top_of_path stop t path ≡ top_here_or_above (path_with_leading_slash path) (result_unless_search_stops (stop up) (nearest_top_of_path stop t up)) (git_directory_of_work_tree_top t (path_with_leading_slash path))

pub rises : (path up : List ℕ) → IsSpelled path → parent path ≡ Some up → Rises path up
unfolding nearest_top_of_components
rises path up is above = go (components_last_first path) refl (AreNames-below path)
  where
    go : (b : List (List ℕ)) → components_last_first path ≡ b → AreNames b → Rises path up
    go [] e are = absurd (cc (sym above ∙ ap parent (is ∙ ap path_from_reversed_components e)))
    go (name ∷ rest) e are =
        let path_is : path ≡ path_from_reversed_components (name ∷ rest) = is ∙ ap path_from_reversed_components e in
        let up_is : up ≡ path_from_reversed_components rest = some-is _ _ (sym above ∙ ap parent path_is ∙ parent-path_of name rest are.0 are.1) in
        let up_below : components_last_first up ≡ rest = ap components_last_first up_is ∙ below-path_of rest are.1 in
        record {
          spelled = up_is ∙ ap path_from_reversed_components (sym up_below);
          finds = λ stop t. ap (nearest_top_of_components stop t) e
              ∙ ap (λ (p : List ℕ). top_here_or_above (path_with_leading_slash p) (result_unless_search_stops (stop (path_from_reversed_components rest)) (nearest_top_of_components stop t rest)) (git_directory_of_work_tree_top t (path_with_leading_slash p))) (sym path_is)
              ∙ ap (λ (u : List ℕ). top_here_or_above (path_with_leading_slash path) (result_unless_search_stops (stop u) (nearest_top_of_components stop t rest)) (git_directory_of_work_tree_top t (path_with_leading_slash path))) (sym up_is)
              ∙ ap (λ (l : List (List ℕ)). top_here_or_above (path_with_leading_slash path) (result_unless_search_stops (stop up) (nearest_top_of_components stop t l)) (git_directory_of_work_tree_top t (path_with_leading_slash path))) (sym up_below);
        }

-- and where there is none above
pub tops : (stop : Stop) (path : List ℕ) (t : Names) → parent path ≡ None → nearest_top_of_path stop t path ≡ top_here_or_above (path_with_leading_slash path) (Err errors.NoRepository) (git_directory_of_work_tree_top t (path_with_leading_slash path))
unfolding nearest_top_of_components
tops stop [] t e = refl
tops stop (b ∷ path) t e = absurd (cc e)

-- what is found from a directory, by what stands at it
record AtHand (stop : Stop) (path : List ℕ) (t : Names) : Type 0 where
  up : Result WorkTreeTop PlacesError
  finds : nearest_top_of_path stop t path ≡ top_here_or_above (path_with_leading_slash path) up (git_directory_of_work_tree_top t (path_with_leading_slash path))

at_hand : (stop : Stop) (path : List ℕ) (t : Names) → IsSpelled path → AtHand stop path t
unfolding nearest_top_of_components
at_hand stop path t is = go (components_last_first path) refl
  where
    go : (b : List (List ℕ)) → components_last_first path ≡ b → AtHand stop path t
    go [] e =
        record {
          up = Err errors.NoRepository;
          finds = ap (nearest_top_of_components stop t) e ∙ ap (λ (p : List ℕ). top_here_or_above (path_with_leading_slash p) (Err errors.NoRepository) (git_directory_of_work_tree_top t (path_with_leading_slash p))) (sym (is ∙ ap path_from_reversed_components e));
        }
    go (name ∷ rest) e =
        record {
          up = result_unless_search_stops (stop (path_from_reversed_components rest)) (nearest_top_of_components stop t rest);
          finds = ap (nearest_top_of_components stop t) e ∙ ap (λ (p : List ℕ). top_here_or_above (path_with_leading_slash p) (result_unless_search_stops (stop (path_from_reversed_components rest)) (nearest_top_of_components stop t rest)) (git_directory_of_work_tree_top t (path_with_leading_slash p))) (sym (is ∙ ap path_from_reversed_components e));
        }

pub stays : (stop : Stop) (path git : List ℕ) (t : Names) → IsSpelled path → git_directory_of_work_tree_top t (path_with_leading_slash path) ≡ Ok (Some git) → nearest_top_of_path stop t path ≡ Ok (top (path_with_leading_slash path) git)
stays stop path git t is h = let hand = at_hand stop path t is in hand.finds ∙ ap (top_here_or_above (path_with_leading_slash path) hand.up) h

pub refuses : (stop : Stop) (path : List ℕ) (t : Names) (e : PlacesError) → IsSpelled path → git_directory_of_work_tree_top t (path_with_leading_slash path) ≡ Err e → nearest_top_of_path stop t path ≡ Err e
refuses stop path t e is h = let hand = at_hand stop path t is in hand.finds ∙ ap (top_here_or_above (path_with_leading_slash path) hand.up) h

pub rises_by : (path up : List ℕ) → IsSpelled path → is_some (parent path) ≡ true → up ≡ unwrap_or (parent path) [] → Rises path up
rises_by [] up is some above = absurd (cc some)
rises_by (b ∷ path) up is some above = rises (b ∷ path) up is (ap Some (sym above))

pub tops_by : (stop : Stop) (path : List ℕ) (t : Names) → is_some (parent path) ≡ false → nearest_top_of_path stop t path ≡ top_here_or_above (path_with_leading_slash path) (Err errors.NoRepository) (git_directory_of_work_tree_top t (path_with_leading_slash path))
tops_by stop [] t e = tops stop [] t refl
tops_by stop (b ∷ path) t e = absurd (cc e)

-- what is found further up where the search goes on, and where it stops
pub goes_on : (stop : Stop) (path up : List ℕ) (t : Names) → Rises path up → git_directory_of_work_tree_top t (path_with_leading_slash path) ≡ Ok None → stop up ≡ None → nearest_top_of_path stop t path ≡ nearest_top_of_path stop t up
goes_on stop path up t by at clear =
    by.finds stop t ∙ ap (top_here_or_above (path_with_leading_slash path) (result_unless_search_stops (stop up) (nearest_top_of_path stop t up))) at ∙ ap (λ (s : Option PlacesError). result_unless_search_stops s (nearest_top_of_path stop t up)) clear

pub stops : (stop : Stop) (path up : List ℕ) (t : Names) (e : PlacesError) → Rises path up → git_directory_of_work_tree_top t (path_with_leading_slash path) ≡ Ok None → stop up ≡ Some e → nearest_top_of_path stop t path ≡ Err e
stops stop path up t e by at closed =
    by.finds stop t ∙ ap (top_here_or_above (path_with_leading_slash path) (result_unless_search_stops (stop up) (nearest_top_of_path stop t up))) at ∙ ap (λ (s : Option PlacesError). result_unless_search_stops s (nearest_top_of_path stop t up)) closed

-- what the answer on one step up says of it
pub goes : (s : Option PlacesError) (b : Bool) → true_unless_error s ≡ Ok b → s ≡ None
goes None b e = refl
goes (Some refused) b e = absurd (cc e)

pub closes : (s : Option PlacesError) (refused : PlacesError) → true_unless_error s ≡ Err refused → s ≡ Some refused
closes None refused e = absurd (cc e)
closes (Some other) refused e = cc e

abbrev pub found_top : WorkTreeTop → Result WorkTreeTop PlacesError
found_top found = Ok found
