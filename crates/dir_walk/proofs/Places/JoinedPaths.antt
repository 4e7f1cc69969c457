-- The path of a name in a directory.
use Rattle.std.proofs.Common.{◌≡◌, ℕ, suc, ◌-◌, ◌<◌, List, [], ◌∷◌, ◌++◌, Bool, true, false, ◌||◌, length, length-append, get_or, refl, sym, ap, ◌∙◌, arith}
use Rattle.std.specs.Prelude.{◌==◌, if◌then◌else◌}
use Rattle.std.specs.List.{list_any}
use Rattle.gitbase_core.specs.Path.{is_slash, is_empty, is_empty_or_root_path, ends_in_slash, path_joined_with_slash}
use Rattle.worktree_fs.specs.Naming.{IsValidEntryName}
use Rattle.worktree_fs.proofs.Paths.NameParts.{name_parts}

-- ---- where a path ends in a slash

pub ends_in_slash-cons : (a b : ℕ) (path : List ℕ) → ends_in_slash (a ∷ b ∷ path) ≡ ends_in_slash (b ∷ path)
ends_in_slash-cons a b path =
    let longer : length {A = ℕ} (a ∷ b ∷ path) - 1 ≡ suc (length path) = omega arith in
    let shorter : length {A = ℕ} (b ∷ path) - 1 ≡ length path = omega arith in
    ap (λ (i : ℕ). is_slash (get_or (a ∷ b ∷ path) i 0)) longer ∙ sym (ap (λ (i : ℕ). is_slash (get_or (b ∷ path) i 0)) shorter)

pub ends_in_slash-append : (front : List ℕ) (b : ℕ) (back : List ℕ) → ends_in_slash (front ++ b ∷ back) ≡ ends_in_slash (b ∷ back)
ends_in_slash-append [] b back = refl
ends_in_slash-append (a ∷ []) b back = ends_in_slash-cons a b back
ends_in_slash-append (a ∷ x ∷ front) b back = ends_in_slash-cons a x (front ++ b ∷ back) ∙ ends_in_slash-append (x ∷ front) b back

pub joined-plain : (a : ℕ) (path name : List ℕ) → ends_in_slash (a ∷ path) ≡ false → path_joined_with_slash (a ∷ path) name ≡ (a ∷ path) ++ 47 ∷ name
joined-plain a path name e = ap (λ b. if b then (a ∷ path) ++ name else (a ∷ path) ++ 47 ∷ name) e

-- ---- names

pub or-false : (c d : Bool) → (c || d) ≡ false → (c ≡ false) × (d ≡ false)
or-false true d f = absurd (cc f)
or-false false d f = (refl, f)

name_plain : (b : ℕ) (bytes : List ℕ) → list_any (λ x. x == 47) (b ∷ bytes) ≡ false → ends_in_slash (b ∷ bytes) ≡ false
name_plain b [] e = (or-false (b == 47) false e).0
name_plain b (x ∷ bytes) e = ends_in_slash-cons b x bytes ∙ name_plain x bytes (or-false (b == 47) (list_any (λ y. y == 47) (x ∷ bytes)) e).1

-- a name has a first byte, and does not end in a slash
pub record Spelled (name : List ℕ) : Type 0 where
  pub first : ℕ
  pub rest : List ℕ
  pub spelling : name ≡ first ∷ rest
  pub plain : ends_in_slash name ≡ false

pub spelled : (name : List ℕ) → IsValidEntryName name → Spelled name
spelled [] is = absurd (let e = (name_parts [] is).full in cc e)
spelled (b ∷ bytes) is = record { first = b; rest = bytes; spelling = refl; plain = name_plain b bytes (name_parts (b ∷ bytes) is).no_slash }

-- ---- a name in a directory

-- the path of a name in a directory is not empty, and does not end in a slash
pub joined-some : (d name : List ℕ) → IsValidEntryName name → is_empty (path_joined_with_slash d name) ≡ false
joined-some [] name is = let s = spelled name is in ap is_empty s.spelling
joined-some (a ∷ d) name is = go (ends_in_slash (a ∷ d))
  where
    go : (b : Bool) → is_empty (if b then (a ∷ d) ++ name else (a ∷ d) ++ 47 ∷ name) ≡ false
    go true = refl
    go false = refl

pub joined-plain_end : (d name : List ℕ) → Spelled name → ends_in_slash (path_joined_with_slash d name) ≡ false
joined-plain_end [] name s = s.plain
joined-plain_end (a ∷ d) name s = go (ends_in_slash (a ∷ d))
  where
    at_name : ends_in_slash (s.first ∷ s.rest) ≡ false
    at_name = ap ends_in_slash (sym s.spelling) ∙ s.plain

    go : (b : Bool) → ends_in_slash (if b then (a ∷ d) ++ name else (a ∷ d) ++ 47 ∷ name) ≡ false
    go true = ap (λ (n : List ℕ). ends_in_slash ((a ∷ d) ++ n)) s.spelling ∙ ends_in_slash-append (a ∷ d) s.first s.rest ∙ at_name
    go false =
        ends_in_slash-append (a ∷ d) 47 name ∙ ap (λ (n : List ℕ). ends_in_slash (47 ∷ n)) s.spelling ∙ ends_in_slash-append (47 ∷ []) s.first s.rest ∙ at_name

pub joined-ends : (d name : List ℕ) → IsValidEntryName name → ends_in_slash (path_joined_with_slash d name) ≡ false
joined-ends d name is = joined-plain_end d name (spelled name is)

-- it is longer than the directory's
pub joined-longer : (d name : List ℕ) → IsValidEntryName name → length d < length (path_joined_with_slash d name)
joined-longer [] name is = let s = spelled name is in omega (arith, ap length s.spelling)
joined-longer (a ∷ d) name is = go (ends_in_slash (a ∷ d))
  where
    s : Spelled name
    s = spelled name is

    go : (b : Bool) → length (a ∷ d) < length (if b then (a ∷ d) ++ name else (a ∷ d) ++ 47 ∷ name)
    go true = omega (arith, length-append (a ∷ d) name, ap length s.spelling)
    go false = omega (arith, length-append (a ∷ d) (47 ∷ name))

-- a path that is not empty and does not end in a slash is no top
pub no-top : (path : List ℕ) → is_empty path ≡ false → ends_in_slash path ≡ false → is_empty_or_root_path path ≡ false
no-top [] some plain = absurd (cc some)
no-top (b ∷ []) some plain = plain
no-top (b ∷ c ∷ path) some plain = refl

pub joined-no_top : (d name : List ℕ) → IsValidEntryName name → is_empty_or_root_path (path_joined_with_slash d name) ≡ false
joined-no_top d name is = no-top (path_joined_with_slash d name) (joined-some d name is) (joined-ends d name is)
