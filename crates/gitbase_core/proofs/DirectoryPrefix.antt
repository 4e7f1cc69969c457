-- Paths that go on behind the path of a directory.
use Rattle.std.proofs.Common.{◌≡◌, ℕ, ◌+◌, ◌-◌, ◌≤◌, Bool, true, false, ◌&&◌, ◌||◌, List, [], ◌∷◌, ◌++◌, length, take, drop, cond, refl, sym, ap, ◌∙◌, arith, append_assoc}
use Rattle.std.specs.List.{starts_with}
use Rattle.std.specs.Prelude.{nat_eq}
use Rattle.std.specs.Str.{bytes_eq}
use Rattle.std.proofs.lemmas.Cmp.{nat_cmp_total, nat_eq_equiv, tied_itself}
use Rattle.std.proofs.lemmas.List.{append-nil, take-append-drop, length-append, length-take, get_or-append-add}
use Rattle.std.proofs.lemmas.Slice.Eq.{bytes_eq-Decides}
use Rattle.gitbase_core.specs.Index.{compare_path_bytes}
use Rattle.gitbase_core.specs.Path.{is_empty, ends_in_slash, path_joined_with_slash, path_with_trailing_slash}

-- ---- prefixes in two parts

and_assoc : (a b c : Bool) → (a && (b && c)) ≡ ((a && b) && c)
and_assoc true b c = refl
and_assoc false b c = refl

pub begins-append : (front more path : List ℕ)
    → starts_with nat_eq path (front ++ more) ≡ (starts_with nat_eq path front && starts_with nat_eq (drop (length front) path) more)
begins-append [] more path = refl
begins-append (f ∷ front) more [] = refl
begins-append (f ∷ front) more (x ∷ path) =
    ap (λ (b : Bool). nat_eq f x && b) (begins-append front more path)
    ∙ and_assoc (nat_eq f x) (starts_with nat_eq path front) (starts_with nat_eq (drop (length front) path) more)

pub equals-append : (front more path : List ℕ)
    → bytes_eq path (front ++ more) ≡ (starts_with nat_eq path front && bytes_eq (drop (length front) path) more)
equals-append [] more path = refl
equals-append (f ∷ front) more [] = refl
equals-append (f ∷ front) more (x ∷ path) =
    ap (λ (b : Bool). nat_eq x f && b) (equals-append front more path)
    ∙ ap (λ (b : Bool). b && (starts_with nat_eq path front && bytes_eq (drop (length front) path) more)) (nat_eq_equiv.symm x f)
    ∙ and_assoc (nat_eq f x) (starts_with nat_eq path front) (bytes_eq (drop (length front) path) more)

-- a path that begins with a front is that front and what stands behind it
pub front-and-rest : (front path : List ℕ) → starts_with nat_eq path front ≡ true → front ++ drop (length front) path ≡ path
front-and-rest front path h =
    ap (λ (start : List ℕ). start ++ drop (length front) path) ((bytes_eq-Decides front (take (length front) path)).0 h)
    ∙ take-append-drop (length front) path

pub front-fits : (front path : List ℕ) → starts_with nat_eq path front ≡ true → length front ≤ length path
front-fits front path h =
    let size : length front ≡ length (take (length front) path) = ap length ((bytes_eq-Decides front (take (length front) path)).0 h) in
    omega (arith, length-take (length front) path)

-- a common front does not count
pub cmp-front : (front a b : List ℕ) → compare_path_bytes (front ++ a) (front ++ b) ≡ compare_path_bytes a b
cmp-front [] a b = refl
cmp-front (f ∷ front) a b = rw (tied_itself nat_cmp_total f) (cmp-front front a b)

-- ---- fronts of directories

pub joined-front : (directory name : List ℕ) → path_joined_with_slash directory name ≡ path_with_trailing_slash directory ++ name
joined-front directory name = by_test (is_empty directory || ends_in_slash directory)
  where
    by_test : (t : Bool) → cond t (directory ++ name) (directory ++ 47 ∷ name) ≡ cond t directory (directory ++ 47 ∷ []) ++ name
    by_test true = refl
    by_test false = sym (append_assoc directory (47 ∷ []) name)

ends-append : (front : List ℕ) (b : ℕ) (name : List ℕ) → ends_in_slash (front ++ b ∷ name) ≡ ends_in_slash (b ∷ name)
ends-append front b name =
    let total = length-append front (b ∷ name) in
    let place : length (front ++ b ∷ name) - 1 ≡ length front + (length (b ∷ name) - 1) = omega arith in
    rw (place, get_or-append-add) refl

or-right : (a b : Bool) → b ≡ true → (a || b) ≡ true
or-right true b h = refl
or-right false b h = h

front-closed : (directory : List ℕ) → (is_empty (path_with_trailing_slash directory) || ends_in_slash (path_with_trailing_slash directory)) ≡ true
front-closed directory = by_test (is_empty directory || ends_in_slash directory) refl
  where
    by_test : (t : Bool) → (is_empty directory || ends_in_slash directory) ≡ t
        → (is_empty (cond t directory (directory ++ 47 ∷ [])) || ends_in_slash (cond t directory (directory ++ 47 ∷ []))) ≡ true
    by_test true h = h
    by_test false h = or-right (is_empty (directory ++ 47 ∷ [])) (ends_in_slash (directory ++ 47 ∷ [])) (ends-append directory 47 [])

not_empty : (front : List ℕ) (b : ℕ) (name : List ℕ) → is_empty (front ++ b ∷ name) ≡ false
not_empty [] b name = refl
not_empty (f ∷ front) b name = refl

front-append : (front name : List ℕ) → (is_empty front || ends_in_slash front) ≡ true → path_with_trailing_slash (front ++ name) ≡ front ++ path_with_trailing_slash name
front-append front [] closed = ap path_with_trailing_slash (append-nil front) ∙ rw closed (sym (append-nil front))
front-append front (b ∷ name) closed = rw (not_empty front b name, ends-append front b name) (by_test (ends_in_slash (b ∷ name)))
  where
    by_test : (t : Bool) → cond t (front ++ b ∷ name) ((front ++ b ∷ name) ++ 47 ∷ []) ≡ front ++ cond t (b ∷ name) (b ∷ name ++ 47 ∷ [])
    by_test true = refl
    by_test false = append_assoc front (b ∷ name) (47 ∷ [])

-- the front of a directory in a directory
pub front-joined : (directory name : List ℕ) → path_with_trailing_slash (path_joined_with_slash directory name) ≡ path_with_trailing_slash directory ++ path_with_trailing_slash name
front-joined directory name = ap path_with_trailing_slash (joined-front directory name) ∙ front-append (path_with_trailing_slash directory) name (front-closed directory)
