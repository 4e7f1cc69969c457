-- Paths of names: what they lead to, how deep they lie, and how they stand behind the worktree root.
use Rattle.std.proofs.Common.{◌≡◌, ◌≤◌, ℕ, ◌+◌, take, drop, List, [], ◌∷◌, ◌++◌, Bool, true, false, not, ◌||◌, length, refl, sym, ap, ◌∙◌, append_assoc, arith, eqb-true, length-append}
use Rattle.std.proofs.lemmas.List.{append-nil, drop_all}
use Rattle.std.specs.Prelude.{◌==◌, if◌then◌else◌}
use Rattle.std.specs.List.{list_any}
use Rattle.gitbase_core.specs.Path.{is_empty, is_absolute, ends_in_slash, components, path_joined_with_slash, path_with_trailing_slash}
use Rattle.worktree_fs.specs.Tree.{Names, child_by_name, look, found, directory}
use Rattle.worktree_fs.specs.Naming.{IsValidEntryName}
use Rattle.worktree_fs.specs.Paths.{is_dot_or_dot_dot, is_relative_without_dots, root_joined_with_relative}
use Rattle.std.proofs.lemmas.Bool.{and_parts}
use Rattle.worktree_fs.specs.Last.{found_or_absent}
use Rattle.worktree_fs.proofs.Routes.Join.{look-join, look-join_slash, look-join_empty}
use Rattle.worktree_fs.proofs.Paths.NameParts.{name_parts, pieces-name}
use Rattle.worktree_fs.proofs.Paths.Texts.{pieces-join}
use Rattle.worktree_fs.proofs.Routes.Follow.{look-follow}
use Rattle.dir_walk.specs.Report.{count_components}
use Rattle.dir_walk.proofs.Places.JoinedPaths.{ends_in_slash-append, ends_in_slash-cons, joined-plain, joined-some, or-false}

-- ---- where a path ends in a slash

-- what stands before a slash at the end
pub without_slash : (path : List ℕ) → ends_in_slash path ≡ true → (front : List ℕ) × (path ≡ front ++ 47 ∷ [])
without_slash [] e = absurd (cc e)
without_slash (a ∷ []) e = ([], ap (λ (n : ℕ). n ∷ []) (eqb-true a 47 e))
without_slash (a ∷ b ∷ path) e =
    let rest = without_slash (b ∷ path) (sym (ends_in_slash-cons a b path) ∙ e) in
    (a ∷ rest.0, ap (λ (l : List ℕ). a ∷ l) rest.1)

pub joined-slash : (path name : List ℕ) → ends_in_slash path ≡ true → path_joined_with_slash path name ≡ path ++ name
joined-slash [] name e = refl
joined-slash (a ∷ path) name e = ap (λ b. if b then (a ∷ path) ++ name else (a ∷ path) ++ 47 ∷ name) e

-- ---- both forms of a path

full_path-some : (root path : List ℕ) → is_empty path ≡ false → root_joined_with_relative root path ≡ path_joined_with_slash root path
full_path-some root [] e = absurd (cc e)
full_path-some root (b ∷ path) e = refl

-- a slash between, or none
abbrev between : Bool → List ℕ → List ℕ
between true path = path
between false path = 47 ∷ path

joined-between : (root path : List ℕ) → path_joined_with_slash root path ≡ root ++ between (is_empty root || ends_in_slash root) path
joined-between root path = go (is_empty root || ends_in_slash root)
  where
    go : (b : Bool) → (if b then root ++ path else root ++ 47 ∷ path) ≡ root ++ between b path
    go true = refl
    go false = refl

between-more : (b : Bool) (path more : List ℕ) → between b path ++ more ≡ between b (path ++ more)
between-more true path more = refl
between-more false path more = refl

module _ (a : ℕ) (d : List ℕ) (plain : ends_in_slash (a ∷ d) ≡ false) where
  some_at_end : (front : List ℕ) (b : Bool) → is_empty (front ++ between b (a ∷ d)) ≡ false
  some_at_end [] true = refl
  some_at_end [] false = refl
  some_at_end (x ∷ front) b = refl

  plain_at_end : (front : List ℕ) (b : Bool) → ends_in_slash (front ++ between b (a ∷ d)) ≡ false
  plain_at_end front true = ends_in_slash-append front a d ∙ plain
  plain_at_end front false = ends_in_slash-append front 47 (a ∷ d) ∙ ends_in_slash-append (47 ∷ []) a d ∙ plain

at_end : (path more : List ℕ) → is_empty path ≡ false → ends_in_slash path ≡ false → path_joined_with_slash path more ≡ path ++ 47 ∷ more
at_end [] more some plain = absurd (cc some)
at_end (a ∷ path) more some plain = joined-plain a path more plain

joined_twice : (root d name : List ℕ) → is_empty d ≡ false → ends_in_slash d ≡ false → path_joined_with_slash (path_joined_with_slash root d) name ≡ path_joined_with_slash root (path_joined_with_slash d name)
joined_twice root [] name some plain = absurd (cc some)
joined_twice root (a ∷ d) name some plain =
    let b : Bool = is_empty root || ends_in_slash root in
    ap (λ (p : List ℕ). path_joined_with_slash p name) (joined-between root (a ∷ d))
    ∙ at_end (root ++ between b (a ∷ d)) name (some_at_end a d plain root b) (plain_at_end a d plain root b)
    ∙ append_assoc root (between b (a ∷ d)) (47 ∷ name)
    ∙ ap (λ (p : List ℕ). root ++ p) (between-more b (a ∷ d) (47 ∷ name) ∙ ap (between b) (sym (joined-plain a d name plain)))
    ∙ sym (joined-between root (path_joined_with_slash (a ∷ d) name))

-- ---- a normal path

-- the components of the path of a name in a directory
pub components-child : (d name : List ℕ) → IsValidEntryName name → components (path_joined_with_slash d name) ≡ components d ++ name ∷ []
components-child [] name is = pieces-name name is
components-child (a ∷ d) name is = go (ends_in_slash (a ∷ d)) refl
  where
    behind_slash : (front : List ℕ) → components (front ++ 47 ∷ name) ≡ components front ++ name ∷ []
    behind_slash front = pieces-join front name ∙ ap (λ (l : List (List ℕ)). components front ++ l) (pieces-name name is)

    go : (slash : Bool) → ends_in_slash (a ∷ d) ≡ slash → components (path_joined_with_slash (a ∷ d) name) ≡ components (a ∷ d) ++ name ∷ []
    go false e = ap components (joined-plain a d name e) ∙ behind_slash (a ∷ d)
    go true e =
        let front = without_slash (a ∷ d) e in
        let at_slash : components (a ∷ d) ≡ components front.0 = ap components front.1 ∙ pieces-join front.0 [] ∙ append-nil (components front.0) in
        ap components (joined-slash (a ∷ d) name e ∙ ap (λ (p : List ℕ). p ++ name) front.1 ∙ append_assoc front.0 (47 ∷ []) name) ∙ behind_slash front.0
        ∙ ap (λ (l : List (List ℕ)). l ++ name ∷ []) (sym at_slash)

is_absolute-child : (d name : List ℕ) → IsValidEntryName name → is_absolute d ≡ false → is_absolute (path_joined_with_slash d name) ≡ false
is_absolute-child [] [] is e = refl
is_absolute-child [] (b ∷ bytes) is e = (or-false (b == 47) (list_any (λ x. x == 47) bytes) (name_parts (b ∷ bytes) is).no_slash).0
is_absolute-child (a ∷ d) name is e = go (ends_in_slash (a ∷ d))
  where
    go : (slash : Bool) → is_absolute (if slash then (a ∷ d) ++ name else (a ∷ d) ++ 47 ∷ name) ≡ false
    go true = e
    go false = e

any-last : (xs : List (List ℕ)) (x : List ℕ) → list_any is_dot_or_dot_dot xs ≡ false → is_dot_or_dot_dot x ≡ false → list_any is_dot_or_dot_dot (xs ++ x ∷ []) ≡ false
any-last [] x e f = rw f refl
any-last (y ∷ xs) x e f =
    let parts = or-false (is_dot_or_dot_dot y) (list_any is_dot_or_dot_dot xs) e in
    rw (parts.0, any-last xs x parts.1 f) refl

not-true : (b : Bool) → not b ≡ true → b ≡ false
not-true false e = refl
not-true true e = absurd (cc e)

-- the path of a name in a directory is normal where the directory's is
pub normal-child : (d name : List ℕ) → IsValidEntryName name → is_relative_without_dots d ≡ true → is_relative_without_dots (path_joined_with_slash d name) ≡ true
normal-child d name is normal =
    let parts = and_parts (not (is_absolute d)) (not (list_any is_dot_or_dot_dot (components d))) normal in
    let name_is = name_parts name is in
    let dots : is_dot_or_dot_dot name ≡ false = rw (name_is.no_dot, name_is.no_dot_dot) refl in
    let none : list_any is_dot_or_dot_dot (components (path_joined_with_slash d name)) ≡ false = ap (list_any is_dot_or_dot_dot) (components-child d name is) ∙ any-last (components d) name (not-true (list_any is_dot_or_dot_dot (components d)) parts.1) dots in
    rw (is_absolute-child d name is (not-true (is_absolute d) parts.0), none) refl

-- the whole path of a name in a directory
pub full_path-child : (root d name : List ℕ) → IsValidEntryName name → ends_in_slash d ≡ false → path_joined_with_slash (root_joined_with_relative root d) name ≡ root_joined_with_relative root (path_joined_with_slash d name)
full_path-child root [] name is plain = sym (full_path-some root name (joined-some [] name is))
full_path-child root (a ∷ d) name is plain = joined_twice root (a ∷ d) name refl plain ∙ sym (full_path-some root (path_joined_with_slash (a ∷ d) name) (joined-some (a ∷ d) name is))

-- ---- a root and what stands behind it

front : (root path : List ℕ) → take (length root) (root ++ path) ≡ root
front [] path = refl
front (b ∷ root) path = ap (λ (l : List ℕ). b ∷ l) (front root path)

back : (root path : List ℕ) → drop (length root) (root ++ path) ≡ path
back [] path = refl
back (b ∷ root) path = back root path

none_behind : (root : List ℕ) (n : ℕ) → length root ≤ n → drop n root ≡ []
none_behind root n h = drop_all n root h

prefix-length : (root : List ℕ) → length root ≤ length (path_with_trailing_slash root)
prefix-length root = go (is_empty root || ends_in_slash root)
  where
    go : (b : Bool) → length root ≤ length (if b then root else root ++ 47 ∷ [])
    go true = omega arith
    go false = omega (arith, length-append root (47 ∷ []))

joined-prefix : (root path : List ℕ) → path_joined_with_slash root path ≡ path_with_trailing_slash root ++ path
joined-prefix root path = go (is_empty root || ends_in_slash root)
  where
    go : (b : Bool) → (if b then root ++ path else root ++ 47 ∷ path) ≡ (if b then root else root ++ 47 ∷ []) ++ path
    go true = refl
    go false = sym (append_assoc root (47 ∷ []) path)

-- the root is found again in the whole path, and so is the path behind it
pub root-found : (root path : List ℕ) → take (length root) (root_joined_with_relative root path) ≡ root
root-found root [] = ap (take (length root)) (sym (append-nil root)) ∙ front root []
root-found root (b ∷ path) = ap (take (length root)) (joined-between root (b ∷ path)) ∙ front root (between (is_empty root || ends_in_slash root) (b ∷ path))

pub path-found : (root path : List ℕ) → drop (length (path_with_trailing_slash root)) (root_joined_with_relative root path) ≡ path
path-found root [] = none_behind root (length (path_with_trailing_slash root)) (prefix-length root)
path-found root (b ∷ path) = ap (drop (length (path_with_trailing_slash root))) (joined-prefix root (b ∷ path)) ∙ back (path_with_trailing_slash root) (b ∷ path)

-- ---- how deep it lies

-- a name in a directory lies one deeper
pub depth_of-joined : (d name : List ℕ) → IsValidEntryName name → count_components (path_joined_with_slash d name) ≡ count_components d + 1
depth_of-joined [] name is = ap (λ (l : List (List ℕ)). length l) (pieces-name name is)
depth_of-joined (a ∷ d) name is = go (ends_in_slash (a ∷ d)) refl
  where
    behind_slash : (front : List ℕ) → count_components (front ++ 47 ∷ name) ≡ length (components front) + 1
    behind_slash front =
        ap (λ (l : List (List ℕ)). length l) (pieces-join front name ∙ ap (λ (l : List (List ℕ)). components front ++ l) (pieces-name name is))
        ∙ length-append (components front) (name ∷ [])

    go : (slash : Bool) → ends_in_slash (a ∷ d) ≡ slash → count_components (path_joined_with_slash (a ∷ d) name) ≡ count_components (a ∷ d) + 1
    go false e = ap count_components (joined-plain a d name e) ∙ behind_slash (a ∷ d)
    go true e =
        let front = without_slash (a ∷ d) e in
        let at_slash : count_components (a ∷ d) ≡ length (components front.0) =
        ap count_components front.1 ∙ ap (λ (l : List (List ℕ)). length l) (pieces-join front.0 []) ∙ ap (λ (l : List (List ℕ)). length l) (append-nil (components front.0)) in
        ap count_components (joined-slash (a ∷ d) name e ∙ ap (λ (p : List ℕ). p ++ name) front.1 ∙ append_assoc front.0 (47 ∷ []) name) ∙ behind_slash front.0
        ∙ ap (λ (n : ℕ). n + 1) (sym at_slash)

-- ---- what it leads to

-- the node under a name of a directory
pub look-joined : (t names : Names) (path name : List ℕ) → IsValidEntryName name → look t path true ≡ found (directory names) → look t (path_joined_with_slash path name) false ≡ found_or_absent (child_by_name names name)
look-joined t names path name is there = go path there (is_empty path) (ends_in_slash path) refl refl
  where
    go : (p : List ℕ) → look t p true ≡ found (directory names) → (none slash : Bool) → is_empty p ≡ none → ends_in_slash p ≡ slash → look t (path_joined_with_slash p name) false ≡ found_or_absent (child_by_name names name)
    go [] e none slash n s = look-join_empty names name is t e
    go (a ∷ p) e none false n s = ap (λ (q : List ℕ). look t q false) (joined-plain a p name s) ∙ look-join names name is t (a ∷ p) e
    go (a ∷ p) e none true n s =
        let front = without_slash (a ∷ p) s in
        ap (λ (q : List ℕ). look t q false) (joined-slash (a ∷ p) name s ∙ ap (λ (q : List ℕ). q ++ name) front.1)
        ∙ look-join_slash names name is t front.0 (ap (λ (q : List ℕ). look t q true) (sym front.1) ∙ e)

-- the directory at a place, its last link followed for the worktree root alone, leads there with links followed
pub look-directory : (t names : Names) (full rela : List ℕ) → look t full (is_empty rela) ≡ found (directory names) → look t full true ≡ found (directory names)
look-directory t names full [] e = e
look-directory t names full (a ∷ rela) e = look-follow names t full e
