-- The components of a text are texts: bytes of UTF-8 may be cut beside a slash.
use Rattle.std.proofs.Common.{◌≡◌, ◌==◌, ℕ, ◌+◌, ◌<◌, Bool, true, false, not, ◌&&◌, ◌||◌, List, [], ◌∷◌, ◌++◌, length, drop, get_or, cond, filter, refl, sym, ap, subst, ◌∙◌, arith, append_assoc}
use Rattle.std.specs.Prelude.{IsUtf8}
use Rattle.std.specs.Str.{is_utf8}
use Rattle.std.specs.List.{list_any, list_all, onto_first, AllByRecursion}
use Rattle.std.proofs.lemmas.Bool.{and_parts, and_from, or_parts}
use Rattle.std.proofs.lemmas.Bool.Decides.{nat_tests}
use Rattle.std.proofs.lemmas.List.{append-nil, length-append, drop_at, get_or_at}
use Rattle.std.proofs.Math.Seq.{take-append_seam}
use Rattle.std.proofs.lemmas.Str.{IsUtf8-nil, IsUtf8-append, IsUtf8-take, IsUtf8-drop, IsCharBoundary-before_ascii, IsCharBoundary-after_ascii, IsUtf8-from_is_utf8, is_utf8-from_IsUtf8}
use Rattle.gitbase_core.specs.Path.{is_slash, is_empty, pieces_between_slashes, components}
use Rattle.gitbase_core.specs.Text.{is_nul}
use Rattle.worktree_fs.specs.Tree.{is_utf8_without_nul, is_dot, is_dot_dot}
use Rattle.worktree_fs.specs.Grow.{is_absolute_path_of_valid_names}
use Rattle.worktree_fs.specs.Naming.{IsValidEntryName, is_valid_entry_name}
use Rattle.worktree_fs.proofs.Paths.NameParts.{name_parts}
use Rattle.worktree_fs.proofs.Paths.Parts.{all_names}
use Rattle.worktree_fs.proofs.Paths.Texts.{is_text-slash}

abbrev HasNoNul : List ℕ → Type 0
HasNoNul bytes = list_any is_nul bytes ≡ false

-- what stands on the two sides of a slash
cut_beside : (front rest : List ℕ) → IsUtf8 (front ++ 47 ∷ rest) → IsUtf8 front × IsUtf8 rest
cut_beside front rest text =
    let bytes : List ℕ = front ++ 47 ∷ rest in
    let is : get_or bytes (length front) 0 ≡ 47 = get_or_at front 47 rest 0 (length front) refl in
    let low : length front < length bytes = omega (arith, length-append front (47 ∷ rest)) in
    let ascii : get_or bytes (length front) 0 < 128 = omega (arith, is) in
    let split : front ++ 47 ∷ rest ≡ (front ++ 47 ∷ []) ++ rest = sym (append_assoc front (47 ∷ []) rest) in (
      subst IsUtf8 (take-append_seam front (47 ∷ rest)) (IsUtf8-take bytes (length front) text (IsCharBoundary-before_ascii bytes (length front) low ascii)),
      subst IsUtf8 (ap (drop (length front + 1)) split ∙ drop_at (front ++ 47 ∷ []) rest (length front + 1) (length-append front (47 ∷ [])))
          (IsUtf8-drop bytes (length front + 1) text (IsCharBoundary-after_ascii bytes (length front) text low ascii)),
    )

-- the first of some pieces has more in front of it
abbrev AreFronted : List ℕ → List (List ℕ) → Type 0
AreFronted front [] = IsUtf8 front
AreFronted front (first ∷ others) = IsUtf8 (front ++ first) × AllByRecursion IsUtf8 others

all_from : (parts : List (List ℕ)) → AreFronted [] parts → AllByRecursion IsUtf8 parts
all_from [] are = tt
all_from (first ∷ others) are = are

one_more : (front : List ℕ) (b : ℕ) (parts : List (List ℕ)) → AreFronted (front ++ b ∷ []) parts → AreFronted front (onto_first b parts)
one_more front b [] are = (are, tt)
one_more front b (first ∷ others) are = (subst IsUtf8 (append_assoc front (b ∷ []) first) are.0, are.1)

fronted : (front bytes : List ℕ) → IsUtf8 (front ++ bytes) → AreFronted front (pieces_between_slashes bytes)
fronted front [] text = (text, tt)
fronted front (b ∷ bytes) text = go (is_slash b) refl (λ more. fronted more bytes)
  where
    go : (t : Bool) → is_slash b ≡ t → ((more : List ℕ) → IsUtf8 (more ++ bytes) → AreFronted more (pieces_between_slashes bytes)) → AreFronted front (cond t ([] ∷ pieces_between_slashes bytes) (onto_first b (pieces_between_slashes bytes)))
    go true is ih =
        let slash : b ≡ 47 = grind (is, arith, nat_tests) in
        let both = cut_beside front bytes (subst (λ (c : ℕ). IsUtf8 (front ++ c ∷ bytes)) slash text) in
        (subst IsUtf8 (sym (append-nil front)) both.0, all_from (pieces_between_slashes bytes) (ih [] both.1))
    go false is ih = one_more front b (pieces_between_slashes bytes) (ih (front ++ b ∷ []) (subst IsUtf8 (sym (append_assoc front (b ∷ []) bytes)) text))

-- no piece has a NUL
no_nul_more : (b : ℕ) (parts : List (List ℕ)) → is_nul b ≡ false → AllByRecursion HasNoNul parts → AllByRecursion HasNoNul (onto_first b parts)
no_nul_more b [] e all = (ap (λ t. t || false) e, tt)
no_nul_more b (first ∷ others) e all = (ap (λ t. t || list_any is_nul first) e ∙ all.0, all.1)

no_nuls : (bytes : List ℕ) → HasNoNul bytes → AllByRecursion HasNoNul (pieces_between_slashes bytes)
no_nuls [] e = (refl, tt)
no_nuls (b ∷ bytes) e =
    let parts = or_parts (is_nul b) (list_any is_nul bytes) e in
    go (is_slash b) parts.0 (no_nuls bytes parts.1)
  where
    go : (t : Bool) → is_nul b ≡ false → AllByRecursion HasNoNul (pieces_between_slashes bytes) → AllByRecursion HasNoNul (cond t ([] ∷ pieces_between_slashes bytes) (onto_first b (pieces_between_slashes bytes)))
    go true first ih = (refl, ih)
    go false first ih = no_nul_more b (pieces_between_slashes bytes) first ih

-- no piece has a slash
abbrev HasNoSlash : List ℕ → Type 0
HasNoSlash bytes = list_any (λ b. b == 47) bytes ≡ false

no_slash_more : (b : ℕ) (parts : List (List ℕ)) → is_slash b ≡ false → AllByRecursion HasNoSlash parts → AllByRecursion HasNoSlash (onto_first b parts)
no_slash_more b [] e all = (ap (λ t. t || false) e, tt)
no_slash_more b (first ∷ others) e all = (ap (λ t. t || list_any (λ b. b == 47) first) e ∙ all.0, all.1)

no_slashes : (bytes : List ℕ) → AllByRecursion HasNoSlash (pieces_between_slashes bytes)
no_slashes [] = (refl, tt)
no_slashes (b ∷ bytes) = go (is_slash b) refl (no_slashes bytes)
  where
    go : (t : Bool) → is_slash b ≡ t → AllByRecursion HasNoSlash (pieces_between_slashes bytes) → AllByRecursion HasNoSlash (cond t ([] ∷ pieces_between_slashes bytes) (onto_first b (pieces_between_slashes bytes)))
    go true is ih = (refl, ih)
    go false is ih = no_slash_more b (pieces_between_slashes bytes) is ih

-- a component of a text
pub record IsPart (name : List ℕ) : Type 0 where
  pub text : is_utf8_without_nul name ≡ true
  pub full : is_empty name ≡ false
  pub no_slash : list_any (λ b. b == 47) name ≡ false

abbrev pub AreParts : List (List ℕ) → Type 0
AreParts names = AllByRecursion IsPart names

text_from : (bytes : List ℕ) → IsUtf8 bytes → HasNoNul bytes → is_utf8_without_nul bytes ≡ true
unfolding is_utf8_without_nul
text_from bytes text free = and_from (is_utf8 bytes) (not (list_any is_nul bytes)) (is_utf8-from_IsUtf8 bytes text) (ap not free)

parts_from : (parts : List (List ℕ)) → AllByRecursion IsUtf8 parts → AllByRecursion HasNoNul parts → AllByRecursion HasNoSlash parts → AreParts (filter (λ piece. not (is_empty piece)) parts)
parts_from [] text free plain = tt
parts_from ([] ∷ parts) text free plain = parts_from parts text.1 free.1 plain.1
parts_from ((b ∷ bytes) ∷ parts) text free plain =
    (record { text = text_from (b ∷ bytes) text.0 free.0; full = refl; no_slash = plain.0 }, parts_from parts text.1 free.1 plain.1)

is_not : (b : Bool) → not b ≡ true → b ≡ false
is_not false e = refl
is_not true e = sym e

-- the components of a text
pub parts-components : (path : List ℕ) → is_utf8_without_nul path ≡ true → AreParts (components path)
unfolding is_utf8_without_nul
parts-components path text =
    let parts = and_parts (is_utf8 path) (not (list_any is_nul path)) text in
    parts_from (pieces_between_slashes path) (all_from (pieces_between_slashes path) (fronted [] path (IsUtf8-from_is_utf8 path parts.0)))
    (no_nuls path (is_not (list_any is_nul path) parts.1)) (no_slashes path)

-- such a component is a name, unless it is `.` or `..`
pub name-from_part : (name : List ℕ) → IsPart name → is_dot name ≡ false → is_dot_dot name ≡ false → IsValidEntryName name
name-from_part name part dot dot_dot =
    let text_full = and_from (is_utf8_without_nul name) (not (is_empty name)) part.text (ap not part.full) in
    let plain = and_from (is_utf8_without_nul name && not (is_empty name)) (not (list_any (λ b. b == 47) name)) text_full (ap not part.no_slash) in
    let undotted = and_from (is_utf8_without_nul name && not (is_empty name) && not (list_any (λ b. b == 47) name)) (not (is_dot name)) plain (ap not dot) in
    and_from (is_utf8_without_nul name && not (is_empty name) && not (list_any (λ b. b == 47) name) && not (is_dot name)) (not (is_dot_dot name)) undotted (ap not dot_dot)

-- bytes whose pieces are texts are a text
slash_text : IsUtf8 (47 ∷ [])
unfolding is_utf8_without_nul
slash_text = IsUtf8-from_is_utf8 (47 ∷ []) (and_parts (is_utf8 (47 ∷ [])) (not (list_any is_nul (47 ∷ []))) is_text-slash).0

behind_slash : (bytes : List ℕ) → IsUtf8 bytes → IsUtf8 (47 ∷ bytes)
behind_slash bytes text = IsUtf8-append (47 ∷ []) bytes slash_text text

fronted_from : (parts : List (List ℕ)) → AllByRecursion IsUtf8 parts → AreFronted [] parts
fronted_from [] all = IsUtf8-nil
fronted_from (first ∷ others) all = all

without_first : (front : List ℕ) (b : ℕ) (parts : List (List ℕ)) → AreFronted front (onto_first b parts) → AreFronted (front ++ b ∷ []) parts
without_first front b [] are = are.0
without_first front b (first ∷ others) are = (subst IsUtf8 (sym (append_assoc front (b ∷ []) first)) are.0, are.1)

joined : (front bytes : List ℕ) → AreFronted front (pieces_between_slashes bytes) → IsUtf8 (front ++ bytes)
joined front [] are = are.0
joined front (b ∷ bytes) are = go (is_slash b) refl are (λ more. joined more bytes)
  where
    go : (t : Bool) → is_slash b ≡ t → AreFronted front (cond t ([] ∷ pieces_between_slashes bytes) (onto_first b (pieces_between_slashes bytes))) → ((more : List ℕ) → AreFronted more (pieces_between_slashes bytes) → IsUtf8 (more ++ bytes)) → IsUtf8 (front ++ b ∷ bytes)
    go true is are ih =
        let slash : b ≡ 47 = grind (is, arith, nat_tests) in
        subst (λ (c : ℕ). IsUtf8 (front ++ c ∷ bytes)) (sym slash)
        (IsUtf8-append front (47 ∷ bytes) (subst IsUtf8 (append-nil front) are.0) (behind_slash bytes (ih [] (fronted_from (pieces_between_slashes bytes) are.1))))
    go false is are ih = subst IsUtf8 (append_assoc front (b ∷ []) bytes) (ih (front ++ b ∷ []) (without_first front b (pieces_between_slashes bytes) are))

pub utf8-from_name : (name : List ℕ) → IsValidEntryName name → is_utf8 name ≡ true
unfolding is_utf8_without_nul
utf8-from_name name is = (and_parts (is_utf8 name) (not (list_any is_nul name)) (name_parts name is).text).0

all_utf8 : (names : List (List ℕ)) → AllByRecursion IsValidEntryName names → AllByRecursion IsUtf8 names
all_utf8 [] all = tt
all_utf8 (name ∷ names) all = (IsUtf8-from_is_utf8 name (utf8-from_name name all.0), all_utf8 names all.1)

pub utf8-from_full : (path : List ℕ) → is_absolute_path_of_valid_names path ≡ true → is_utf8 path ≡ true
utf8-from_full [] full = absurd (cc full)
utf8-from_full (b ∷ path) full =
    let parts = and_parts (b == 47) (list_all is_valid_entry_name (pieces_between_slashes path)) full in
    let slash : b ≡ 47 = let first = parts.0 in grind (first, arith, nat_tests) in
    is_utf8-from_IsUtf8 (b ∷ path)
    (subst (λ (c : ℕ). IsUtf8 (c ∷ path)) (sym slash) (behind_slash path (joined [] path (fronted_from (pieces_between_slashes path) (all_utf8 (pieces_between_slashes path) (all_names (pieces_between_slashes path) parts.1))))))
