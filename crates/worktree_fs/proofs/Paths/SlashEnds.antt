-- The slashes at the end of a path, as they are cut off.
use Rattle.std.proofs.Common.{◌≡◌, ◌≤◌, ◌+◌, ◌-◌, ◌==◌, ℕ, true, false, List, Option, Some, None, [], ◌∷◌, ◌++◌, length, take, reverse, refl, ap, sym, subst, ◌∙◌, arith, inl, inr}
use Rattle.std.specs.Prelude.{IfSome, IsCharBoundary}
use Rattle.std.proofs.lemmas.Bool.{cases_eq}
use Rattle.std.specs.Str.Pattern.{CutsSuffixes, FindsCharSuffix, IsTrimEndMatches}
use Rattle.std.specs.List.{suffix_len, prefix_len}
use Rattle.std.proofs.lemmas.List.{reverse-append, reverse-reverse, take_all, take-append-le, length-append}
use Rattle.std.proofs.lemmas.List.Sums.{suffix_len-le-length}
use Rattle.std.proofs.lemmas.Str.Pattern.{ends_char}
use Rattle.std.proofs.lemmas.Bool.Decides.{nat_tests}
use Rattle.gitbase_core.specs.Path.{is_slash}
use Rattle.worktree_fs.specs.Disk.{without_trailing_slashes, root_if_empty}

-- one more slash at the end is cut off too
one_more : (path : List ℕ) → without_trailing_slashes (path ++ 47 ∷ []) ≡ without_trailing_slashes path
one_more path =
    let more : suffix_len is_slash (path ++ 47 ∷ []) ≡ 1 + suffix_len is_slash path = ap (prefix_len is_slash) (reverse-append path (47 ∷ [])) in
    let few : suffix_len is_slash path ≤ length path = suffix_len-le-length is_slash path in
    let size : length (path ++ 47 ∷ []) ≡ length path + 1 = length-append path (47 ∷ []) in
    let same : length (path ++ 47 ∷ []) - suffix_len is_slash (path ++ 47 ∷ []) ≡ length path - suffix_len is_slash path = omega (arith, more, few, size) in
    ap (λ n. take n (path ++ 47 ∷ [])) same
    ∙ take-append-le (length path - suffix_len is_slash path) path (47 ∷ []) (omega arith)

-- what ends in no slash stays
no_slash_at_end : (path : List ℕ) → ((front : List ℕ) → path ≡ front ++ 47 ∷ [] → ⊥) → suffix_len is_slash path ≡ 0
no_slash_at_end path none = go (reverse path) (sym (reverse-reverse path))
  where
    go : (back : List ℕ) → path ≡ reverse back → prefix_len is_slash back ≡ 0
    go [] e = refl
    go (b ∷ back) e = elim (cases_eq b 47) [
      | inl is ↦ absurd (none (reverse back) (e ∙ reverse-append (b ∷ []) back ∙ ap (λ (n : ℕ). reverse back ++ n ∷ []) is))
      | inr not ↦ grind (arith, nat_tests)
    ]

stays : (path : List ℕ) → ((front : List ℕ) → path ≡ front ++ 47 ∷ [] → ⊥) → without_trailing_slashes path ≡ path
stays path none =
    let no : suffix_len is_slash path ≡ 0 = no_slash_at_end path none in
    take_all (length path - suffix_len is_slash path) path (omega (arith, no))

-- a slash that was found at the end
found_slash : (path : List ℕ) (n : ℕ) → FindsCharSuffix 47 path (Some n) → path ≡ take (length path - n) path ++ 47 ∷ []
found_slash path n found =
    let fits : n ≤ length path = omega (arith, found.0, found.1.ends) in
    let one : n ≡ 1 = found.0 in
    (ends_char 47 path true (n, found, fits, subst (λ k. IsCharBoundary path (length path - k)) (sym one) found.2) (omega arith)).0 refl
    ∙ ap (λ (k : ℕ). take (length path - k) path ++ 47 ∷ []) (sym one)

cut_off : (path rest : List ℕ) (ns : List ℕ) → CutsSuffixes (FindsCharSuffix 47) path ns rest → without_trailing_slashes path ≡ without_trailing_slashes rest
cut_off path rest [] cuts = ap without_trailing_slashes (sym cuts)
cut_off path rest (n ∷ ns) cuts =
    let before = cuts.0 in
    cut_off path before ns cuts.1
    ∙ ap without_trailing_slashes (found_slash before n cuts.2)
    ∙ one_more (take (length before - n) before)
    ∙ ap without_trailing_slashes (sym cuts.3)

-- What std cuts off the end of a text by the character of a slash.
pub trimmed_slashes : (path rest : List ℕ) → IsTrimEndMatches (FindsCharSuffix 47) path rest → rest ≡ without_trailing_slashes path
trimmed_slashes path rest trims =
    let full = trims.1 in
    let none : (front : List ℕ) → rest ≡ front ++ 47 ∷ [] → ⊥ = ends rest full.0 full.1 full.2 in
    sym (cut_off path rest trims.0.0 trims.0.1 ∙ stays rest none)
  where
    ends : (rest : List ℕ) (o : Option ℕ) → FindsCharSuffix 47 rest o → IfSome o (λ n. n ≡ 0) → (front : List ℕ) → rest ≡ front ++ 47 ∷ [] → ⊥
    ends rest None found zero front e = cc ((ends_char 47 rest false found (omega arith)).1 front e)
    ends rest (Some n) found zero front e = omega (arith, found.0, zero)

pub no_path : (path : List ℕ) → (length path == 0) ≡ true → root_if_empty path ≡ 47 ∷ []
no_path [] e = refl
no_path (b ∷ path) e = grind (arith, nat_tests)

pub a_path : (path : List ℕ) → (length path == 0) ≡ false → root_if_empty path ≡ path
a_path [] e = grind (arith, nat_tests)
a_path (b ∷ path) e = refl
