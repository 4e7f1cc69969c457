-- A place, one after it went on to a name, and one after it went back.
use Rattle.std.proofs.Common.{◌≡◌, ℕ, true, false, List, length, take, drop, sym, ap, subst, ◌∙◌, arith}
use Rattle.std.specs.Prelude.{Result, Ok, Err, OnOk}
use Rattle.std.specs.Result.{is_err}
use Rattle.std.proofs.lemmas.List.{length-take}
use Rattle.gitbase_core.specs.Path.{components, path_joined_with_slash, path_with_trailing_slash, ends_in_slash}
use Rattle.worktree_fs.specs.Naming.{IsValidEntryName}
use Rattle.worktree_fs.specs.Paths.{root_joined_with_relative, is_relative_without_dots, slash_joined_components}
use Rattle.worktree_fs.proofs.Routes.FullPaths.{front-joined}
use Rattle.worktree_fs.proofs.Paths.NameParts.{pieces-name}
use Rattle.worktree_fs.proofs.Paths.Spelled.{grown-is, grown-components}
use Rattle.dir_walk.specs.Placed.{PlaceInWorktree, IsWellPlaced, IsNameInPlace, place_from_whole_path}
use Rattle.dir_walk.proofs.Places.JoinedPaths.{joined-ends}
use Rattle.dir_walk.proofs.Places.Placed.{full_path-child, root-found, path-found, normal-child}

-- a path behind a worktree root is a place
module _ (root path : List ℕ) (normal : is_relative_without_dots path ≡ true) (plain : ends_in_slash path ≡ false)
    (spelled_is : path ≡ slash_joined_components (components path)) where
  full : List ℕ
  full = root_joined_with_relative root path

  pub IsPlaced-at : IsWellPlaced (length root) (length (path_with_trailing_slash root)) (root_joined_with_relative root path)
  unfolding full
  IsPlaced-at =
      let root-is = root-found root path in
      let path-is = path-found root path in
      record {
        fits = omega (arith, ap length root-is, length-take (length root) full);
        start_is = ap (λ (r : List ℕ). length (path_with_trailing_slash r)) (sym root-is);
        whole_is = ap (λ (r : List ℕ). root_joined_with_relative r path) (sym root-is) ∙ ap (λ (p : List ℕ). root_joined_with_relative (take (length root) full) p) (sym path-is);
        plain = ap ends_in_slash path-is ∙ plain;
        normal = ap is_relative_without_dots path-is ∙ normal;
        spelled_is = path-is ∙ spelled_is ∙ ap (λ (p : List ℕ). slash_joined_components (components p)) (sym path-is);
      }

  pub standing-at : place_from_whole_path (length root) (length (path_with_trailing_slash root)) (root_joined_with_relative root path) ≡ record { root = root; path = path }
  unfolding full
  standing-at =
      let f : List ℕ → List ℕ → PlaceInWorktree = λ r p. record { root = r; path = p } in
      ap (λ (r : List ℕ). f r (drop (length (path_with_trailing_slash root)) full)) (root-found root path) ∙ ap (f root) (path-found root path)

module _ (n start : ℕ) (whole after name : List ℕ) (is : IsValidEntryName name) (at : IsWellPlaced n start whole) (pushed : after ≡ path_joined_with_slash whole name) where
  root : List ℕ
  root = take n whole

  path : List ℕ
  path = drop start whole

  after-is : after ≡ root_joined_with_relative root (path_joined_with_slash path name)
  unfolding root path
  after-is = pushed ∙ ap (λ (w : List ℕ). path_joined_with_slash w name) at.whole_is ∙ full_path-child (take n whole) (drop start whole) name is at.plain

  root-length : length root ≡ n
  unfolding root
  root-length = omega (arith, length-take n whole, at.fits)

  root-is : take n after ≡ root
  root-is = ap (take n) after-is ∙ ap (λ (k : ℕ). take k (root_joined_with_relative root (path_joined_with_slash path name))) (sym root-length) ∙ root-found root (path_joined_with_slash path name)

  path-is : drop start after ≡ path_joined_with_slash path name
  unfolding root path
  path-is = ap (drop start) after-is ∙ ap (λ (k : ℕ). drop k (root_joined_with_relative (take n whole) (path_joined_with_slash (drop start whole) name))) at.start_is ∙ path-found (take n whole) (path_joined_with_slash (drop start whole) name)

  pub IsPlaced-name : IsWellPlaced n start after
  unfolding root path
  IsPlaced-name =
      record {
        fits = omega (arith, ap length root-is, root-length, length-take n after);
        start_is = at.start_is ∙ ap (λ (r : List ℕ). length (path_with_trailing_slash r)) (sym root-is);
        whole_is = after-is ∙ ap (λ (r : List ℕ). root_joined_with_relative r (path_joined_with_slash path name)) (sym root-is) ∙ ap (λ (p : List ℕ). root_joined_with_relative (take n after) p) (sym path-is);
        plain = ap ends_in_slash path-is ∙ joined-ends path name is;
        normal = ap is_relative_without_dots path-is ∙ normal-child path name is at.normal;
        spelled_is =
            path-is ∙ grown-is path name at.spelled_is (pieces-name name is) ∙ ap slash_joined_components (sym (grown-components path name at.spelled_is (pieces-name name is)))
            ∙ ap (λ (p : List ℕ). slash_joined_components (components p)) (sym path-is);
      }

  pub standing-name : place_from_whole_path n start after ≡ record { root = (place_from_whole_path n start whole).root; path = path_joined_with_slash (place_from_whole_path n start whole).path name }
  unfolding root path
  standing-name =
      let f : List ℕ → List ℕ → PlaceInWorktree = λ r p. record { root = r; path = p } in
      ap (λ (r : List ℕ). f r (drop start after)) root-is ∙ ap (f (take n whole)) path-is

-- it went on from a place to that of a name, which is cut off again behind so many bytes
module _ (n start : ℕ) (whole after name : List ℕ) (bytes : ℕ) (before : PlaceInWorktree) (is : IsValidEntryName name) (at : IsWellPlaced n start whole)
    (pushed : after ≡ path_joined_with_slash whole name) (stands : place_from_whole_path n start whole ≡ before) (bytes_are : bytes ≡ length whole) where
  pub standing-pushed : place_from_whole_path n start after ≡ record { root = before.root; path = path_joined_with_slash before.path name }
  standing-pushed =
      let f : PlaceInWorktree → PlaceInWorktree = λ s. record { root = s.root; path = path_joined_with_slash s.path name } in
      standing-name n start whole after name is at pushed ∙ ap f stands

  pub IsPushed-name : IsNameInPlace bytes before (place_from_whole_path n start after)
  IsPushed-name =
      subst (λ (s : PlaceInWorktree). IsNameInPlace bytes s (place_from_whole_path n start after)) stands
      (record {
        bytes_are = bytes_are ∙ ap (λ (w : List ℕ). length w) at.whole_is;
        plain = at.plain;
        normal = at.normal;
        spelled_is = at.spelled_is;
        name = name;
        is_name = is;
        place_is = standing-name n start whole after name is at pushed;
      })

-- the place of a name, cut off behind the directory's whole path, is the directory's
module _ (n start : ℕ) (whole after : List ℕ) (bytes : ℕ) (directory place : PlaceInWorktree) (at : IsWellPlaced n start whole)
    (stands : place_from_whole_path n start whole ≡ place) (within : IsNameInPlace bytes directory place) (cut : after ≡ take bytes whole) where
  same : place_from_whole_path n start whole ≡ record { root = directory.root; path = path_joined_with_slash directory.path within.name }
  same = stands ∙ within.place_is

  root-same : take n whole ≡ directory.root
  root-same = ap (λ (s : PlaceInWorktree). s.root) same

  path-same : drop start whole ≡ path_joined_with_slash directory.path within.name
  path-same = ap (λ (s : PlaceInWorktree). s.path) same

  n-is : n ≡ length directory.root
  n-is = omega (arith, ap (λ (r : List ℕ). length r) root-same, length-take n whole, at.fits)

  start-is : start ≡ length (path_with_trailing_slash directory.root)
  start-is = at.start_is ∙ ap (λ (r : List ℕ). length (path_with_trailing_slash r)) root-same

  whole-is : whole ≡ path_joined_with_slash (root_joined_with_relative directory.root directory.path) within.name
  whole-is =
      at.whole_is ∙ ap (λ (r : List ℕ). root_joined_with_relative r (drop start whole)) root-same ∙ ap (root_joined_with_relative directory.root) path-same
      ∙ sym (full_path-child directory.root directory.path within.name within.is_name within.plain)

  cut-is : after ≡ root_joined_with_relative directory.root directory.path
  cut-is =
      cut ∙ ap (λ (k : ℕ). take k whole) within.bytes_are ∙ ap (take (length (root_joined_with_relative directory.root directory.path))) whole-is
      ∙ front-joined (root_joined_with_relative directory.root directory.path) within.name

  pub IsPlaced-left : IsWellPlaced n start after
  IsPlaced-left = rw (n-is, start-is, cut-is) (IsPlaced-at directory.root directory.path within.normal within.plain within.spelled_is)

  pub standing-left : place_from_whole_path n start after ≡ directory
  standing-left =
      ap (λ (k : ℕ). place_from_whole_path k start after) n-is ∙ ap (λ (k : ℕ). place_from_whole_path (length directory.root) k after) start-is
      ∙ ap (place_from_whole_path (length directory.root) (length (path_with_trailing_slash directory.root))) cut-is
      ∙ standing-at directory.root directory.path within.normal within.plain within.spelled_is

-- ---- where an answer is an error

pub OnOk-refused : {T E : Type 0} (P : Type 0) (r : Result T E) → is_err r ≡ true → OnOk r P
OnOk-refused P (Ok x) e = absurd (cc e)
OnOk-refused P (Err x) e = tt

pub OnOk-taken : {T E P : Type 0} (r : Result T E) → is_err r ≡ false → OnOk r P → P
OnOk-taken (Ok x) e p = p
OnOk-taken (Err x) e p = absurd (cc e)

pub OnOk-always : {T E P : Type 0} (r : Result T E) → P → OnOk r P
OnOk-always (Ok x) p = p
OnOk-always (Err x) p = tt
