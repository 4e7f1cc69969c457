-- Paths beneath one another: what lies under two names of a directory lies apart.
use Rattle.std.proofs.Common.{◌≡◌, ℕ, ◌+◌, ◌⊎◌, inl, inr, List, [], ◌∷◌, ◌++◌, Bool, true, false, cond, ◌||◌, Option, Some, None, length, length-append, drop, append_assoc, eqb-true, refl, sym, ap, subst, ◌∙◌, arith}
use Rattle.std.specs.Prelude.{◌==◌, nat_eq, is_some, if◌then◌else◌}
use Rattle.std.specs.Str.{bytes_eq}
use Rattle.std.specs.List.{AllByRecursion, list_any, starts_with}
use Rattle.std.specs.Cmp.Lexicographic.{same_text}
use Rattle.std.proofs.Math.Seq.{drop-append-add}
use Rattle.std.proofs.lemmas.Bool.{cond-true, or_left, or_right, true≢false}
use Rattle.std.proofs.lemmas.Bool.Decides.{Decides-eqb}
use Rattle.std.proofs.lemmas.Cmp.{nat_list_eq_equiv}
use Rattle.std.proofs.lemmas.List.{append-nil, drop_at}
use Rattle.std.proofs.lemmas.Slice.Eq.{starts_is}
use Rattle.gitbase_core.specs.Path.{ends_in_slash, is_empty, is_prefix_by_whole_components, is_slash, is_empty_or_root_path, path_joined_with_slash, is_beneath_directory, rest_without_separating_slash}
use Rattle.worktree_fs.specs.Naming.{IsValidEntryName}
use Rattle.worktree_fs.proofs.Paths.NameParts.{name_parts}
use Rattle.dir_walk.proofs.Order.Lists.{refuted}
use Rattle.dir_walk.proofs.Places.JoinedPaths.{joined-longer, joined-no_top, joined-plain}

-- ---- in bytes

-- a path is another one, or goes on behind it and a slash
abbrev pub IsWithin : List ℕ → List ℕ → Type 0
IsWithin above path = (path ≡ above) ⊎ ((rest : List ℕ) × (path ≡ above ++ 47 ∷ rest))

some_then : (b : Bool) (found : Option (List ℕ)) → is_some (cond b found None) ≡ true → (b ≡ true) × (is_some found ≡ true)
some_then true found h = (refl, h)
some_then false found h = absurd (cc h)

-- behind what is no top stands a slash
behind : (top : Bool) (rest : List ℕ) → top ≡ false → is_some (rest_without_separating_slash top rest) ≡ true → (more : List ℕ) × (rest ≡ 47 ∷ more)
behind true rest e h = absurd (cc e)
behind false [] e h = absurd (cc h)
behind false (b ∷ rest) e h = go (is_slash b) refl h
  where
    go : (s : Bool) → is_slash b ≡ s → is_some (if s then Some rest else None) ≡ true → (more : List ℕ) × ((b ∷ rest) ≡ 47 ∷ more)
    go false is f = absurd (cc f)
    go true is f = (rest, ap (λ (n : ℕ). n ∷ rest) (eqb-true b 47 is))

pub beneath-rest : (above path : List ℕ) → is_empty_or_root_path above ≡ false → is_beneath_directory above path ≡ true → (rest : List ℕ) × (path ≡ above ++ 47 ∷ rest)
beneath-rest above path low h =
    let both = some_then (starts_with nat_eq path above) (rest_without_separating_slash (is_empty_or_root_path above) (drop (length above) path)) h in
    let more = behind (is_empty_or_root_path above) (drop (length above) path) low both.1 in
    (more.0, (starts_is Decides-eqb path above (starts_with nat_eq path above) refl).0 both.0 ∙ ap (λ (r : List ℕ). above ++ r) more.1)

deeper : (top : Bool) (rest : List ℕ) → is_some (rest_without_separating_slash top (47 ∷ rest)) ≡ true
deeper true rest = refl
deeper false rest = refl

pub rest-beneath : (above rest : List ℕ) → is_beneath_directory above (above ++ 47 ∷ rest) ≡ true
rest-beneath above rest =
    let path : List ℕ = above ++ 47 ∷ rest in
    let begins = (starts_is Decides-eqb path above (starts_with nat_eq path above) refl).1 (47 ∷ rest) refl in
    ap is_some (cond-true (starts_with nat_eq path above) (rest_without_separating_slash (is_empty_or_root_path above) (drop (length above) path)) None begins)
    ∙ ap (λ (r : List ℕ). is_some (rest_without_separating_slash (is_empty_or_root_path above) r)) (drop_at above (47 ∷ rest) (length above) refl)
    ∙ deeper (is_empty_or_root_path above) rest

pub prefix-within : (above path : List ℕ) → is_empty_or_root_path above ≡ false → is_prefix_by_whole_components above path ≡ true → IsWithin above path
prefix-within [] path low h = absurd (cc low)
prefix-within (b ∷ above) path low h = go (bytes_eq (b ∷ above) path) refl h
  where
    go : (same : Bool) → bytes_eq (b ∷ above) path ≡ same → (same || is_beneath_directory (b ∷ above) path) ≡ true → IsWithin (b ∷ above) path
    go true e f = inl (sym (same_text (b ∷ above) path (sym e)))
    go false e f = inr (beneath-rest (b ∷ above) path low f)

pub within-prefix : (above path : List ℕ) → IsWithin above path → is_prefix_by_whole_components above path ≡ true
within-prefix [] path h = refl
within-prefix (b ∷ above) path (inl e) = or_left (bytes_eq (b ∷ above) path) _ (ap (bytes_eq (b ∷ above)) e ∙ nat_list_eq_equiv.refl (b ∷ above))
within-prefix (b ∷ above) path (inr (rest, e)) = or_right (bytes_eq (b ∷ above) path) _ (ap (is_beneath_directory (b ∷ above)) e ∙ rest-beneath (b ∷ above) rest)

-- what lies within what lies within
IsWithin-then : (a b c : List ℕ) → IsWithin a b → IsWithin b c → IsWithin a c
IsWithin-then a b c h (inl e) = subst (IsWithin a) (sym e) h
IsWithin-then a b c (inl e) (inr (rest, f)) = inr (rest, f ∙ ap (λ (p : List ℕ). p ++ 47 ∷ rest) e)
IsWithin-then a b c (inr (more, e)) (inr (rest, f)) =
    inr (more ++ 47 ∷ rest, f ∙ ap (λ (p : List ℕ). p ++ 47 ∷ rest) e ∙ append_assoc a (47 ∷ more) (47 ∷ rest))

within-longer : (above path : List ℕ) → IsWithin above path → (more : ℕ) × (length path ≡ length above + more)
within-longer above path (inl e) = (0, omega (arith, ap length e))
within-longer above path (inr (rest, e)) = (length (47 ∷ rest), ap length e ∙ length-append above (47 ∷ rest))

within-no_top : (above path : List ℕ) → is_empty_or_root_path above ≡ false → IsWithin above path → is_empty_or_root_path path ≡ false
within-no_top above path low (inl e) = ap is_empty_or_root_path e ∙ low
within-no_top [] path low (inr (rest, e)) = absurd (cc low)
within-no_top (a ∷ []) path low (inr (rest, e)) = ap is_empty_or_root_path e
within-no_top (a ∷ b ∷ above) path low (inr (rest, e)) = ap is_empty_or_root_path e

-- ---- the first name below a directory

abbrev first_name : List ℕ → List ℕ
first_name [] = []
first_name (b ∷ bytes) = cond (b == 47) [] (b ∷ first_name bytes)

first_name-alone : (name : List ℕ) → AllByRecursion (λ b. (b == 47) ≡ false) name → first_name name ≡ name
first_name-alone [] h = refl
first_name-alone (b ∷ bytes) h = rw (h.0, first_name-alone bytes h.1) refl

first_name-more : (name rest : List ℕ) → AllByRecursion (λ b. (b == 47) ≡ false) name → first_name (name ++ 47 ∷ rest) ≡ name
first_name-more [] rest h = refl
first_name-more (b ∷ bytes) rest h = rw (h.0, first_name-more bytes rest h.1) refl

each_byte : (bytes : List ℕ) → list_any (λ b. b == 47) bytes ≡ false → AllByRecursion (λ b. (b == 47) ≡ false) bytes
each_byte [] e = tt
each_byte (b ∷ bytes) e = let h = go (b == 47) (list_any (λ b. b == 47) bytes) e in (h.0, each_byte bytes h.1)
  where
    go : (c d : Bool) → (c || d) ≡ false → (c ≡ false) × (d ≡ false)
    go true d f = absurd (cc f)
    go false d f = (refl, f)

no_slash : (name : List ℕ) → IsValidEntryName name → AllByRecursion (λ b. (b == 47) ≡ false) name
no_slash name is = each_byte name (name_parts name is).no_slash

-- what follows a directory's path and a slash
abbrev strip : List ℕ → List ℕ → List ℕ
strip [] path = path
strip (b ∷ bytes) path = drop (length (b ∷ bytes) + 1) path

strip-joined : (d name : List ℕ) → ends_in_slash d ≡ false → strip d (path_joined_with_slash d name) ≡ name
strip-joined [] name plain = refl
strip-joined (b ∷ bytes) name plain = ap (strip (b ∷ bytes)) (joined-plain b bytes name plain) ∙ drop-append-add (b ∷ bytes) (47 ∷ name) 1

strip-joined_more : (d name rest : List ℕ) → ends_in_slash d ≡ false → strip d (path_joined_with_slash d name ++ 47 ∷ rest) ≡ name ++ 47 ∷ rest
strip-joined_more [] name rest plain = refl
strip-joined_more (b ∷ bytes) name rest plain =
    ap (λ (p : List ℕ). strip (b ∷ bytes) (p ++ 47 ∷ rest)) (joined-plain b bytes name plain)
    ∙ ap (strip (b ∷ bytes)) (append_assoc (b ∷ bytes) (47 ∷ name) (47 ∷ rest)) ∙ drop-append-add (b ∷ bytes) (47 ∷ name ++ 47 ∷ rest) 1

next_is : (d name path : List ℕ) → IsValidEntryName name → ends_in_slash d ≡ false → IsWithin (path_joined_with_slash d name) path → first_name (strip d path) ≡ name
next_is d name path is plain (inl e) = ap (λ (p : List ℕ). first_name (strip d p)) e ∙ ap first_name (strip-joined d name plain) ∙ first_name-alone name (no_slash name is)
next_is d name path is plain (inr (rest, e)) = ap (λ (p : List ℕ). first_name (strip d p)) e ∙ ap first_name (strip-joined_more d name rest plain) ∙ first_name-more name rest (no_slash name is)

-- what lies within a name's path lies within its directory's, where that is not empty
within_name : (b : ℕ) (d name path : List ℕ) → ends_in_slash (b ∷ d) ≡ false → IsWithin (path_joined_with_slash (b ∷ d) name) path → IsWithin (b ∷ d) path
within_name b d name path plain = IsWithin-then (b ∷ d) (path_joined_with_slash (b ∷ d) name) path (inr (name, joined-plain b d name plain))

-- ---- what callers need

pub prefix-self : (path : List ℕ) → is_prefix_by_whole_components path path ≡ true
prefix-self path = within-prefix path path (inl refl)

pub not_beneath-self : (path : List ℕ) → is_beneath_directory path path ≡ false
not_beneath-self path =
    let none : drop (length path) path ≡ [] = ap (drop (length path)) (sym (append-nil path)) ∙ drop_at path [] (length path) refl in
    ap (λ (r : List ℕ). is_some (if starts_with nat_eq path path then rest_without_separating_slash (is_empty_or_root_path path) r else None)) none ∙ go (starts_with nat_eq path path)
  where
    go : (b : Bool) → is_some (if b then rest_without_separating_slash (is_empty_or_root_path path) [] else None) ≡ false
    go true = refl
    go false = refl

-- what a path is no prefix of lies not beneath it
pub not_beneath : (above path : List ℕ) → is_prefix_by_whole_components above path ≡ false → is_beneath_directory above path ≡ false
not_beneath above path e = go (is_empty above || bytes_eq above path) (is_beneath_directory above path) e
  where
    go : (a b : Bool) → (a || b) ≡ false → b ≡ false
    go true b f = absurd (cc f)
    go false b f = f

-- what lies beneath a path has it as a prefix
pub beneath-prefix : (above path : List ℕ) → is_beneath_directory above path ≡ true → is_prefix_by_whole_components above path ≡ true
beneath-prefix above path h = or_right (is_empty above || bytes_eq above path) (is_beneath_directory above path) h

-- what lies beneath a name of a directory lies beneath the directory
pub prefix-up : (d name path : List ℕ) → IsValidEntryName name → ends_in_slash d ≡ false → is_prefix_by_whole_components (path_joined_with_slash d name) path ≡ true → is_prefix_by_whole_components d path ≡ true
prefix-up [] name path is plain h = refl
prefix-up (b ∷ d) name path is plain h = within-prefix (b ∷ d) path (within_name b d name path plain (prefix-within (path_joined_with_slash (b ∷ d) name) path (joined-no_top (b ∷ d) name is) h))

-- but not the other way round
pub prefix-down : (d name path : List ℕ) → IsValidEntryName name → is_prefix_by_whole_components (path_joined_with_slash d name) path ≡ true → is_prefix_by_whole_components path d ≡ false
prefix-down d name path is h =
    refuted (is_prefix_by_whole_components path d) (λ e.
    let down : IsWithin (path_joined_with_slash d name) path = prefix-within (path_joined_with_slash d name) path (joined-no_top d name is) h in
    let up : IsWithin path d = prefix-within path d (within-no_top (path_joined_with_slash d name) path (joined-no_top d name is) down) e in
    let longer = within-longer (path_joined_with_slash d name) path down in
    let shorter = within-longer path d up in
    absurd (omega (arith, longer.1, shorter.1, joined-longer d name is)))

-- and what lies within one name of a directory is no prefix of what lies within another
pub prefix-apart : (d name other x y : List ℕ) → IsValidEntryName name → IsValidEntryName other → ends_in_slash d ≡ false → bytes_eq name other ≡ false
    → is_prefix_by_whole_components (path_joined_with_slash d name) x ≡ true → is_prefix_by_whole_components (path_joined_with_slash d other) y ≡ true → is_prefix_by_whole_components x y ≡ false
prefix-apart d name other x y is are plain differ h k =
    refuted (is_prefix_by_whole_components x y) (λ e.
    let here : IsWithin (path_joined_with_slash d name) x = prefix-within (path_joined_with_slash d name) x (joined-no_top d name is) h in
    let there : IsWithin (path_joined_with_slash d other) y = prefix-within (path_joined_with_slash d other) y (joined-no_top d other are) k in
    let along : IsWithin x y = prefix-within x y (within-no_top (path_joined_with_slash d name) x (joined-no_top d name is) here) e in
    let one : name ≡ other = sym (next_is d name y is plain (IsWithin-then (path_joined_with_slash d name) x y here along)) ∙ next_is d other y are plain there in
    sym differ ∙ ap (bytes_eq name) (sym one) ∙ nat_list_eq_equiv.refl name)

-- what a path is a prefix of, and not the other way round, lies beneath it
pub strictly-beneath : (above path : List ℕ) → is_prefix_by_whole_components above path ≡ true → is_prefix_by_whole_components path above ≡ false → is_beneath_directory above path ≡ true
strictly-beneath [] [] h k = absurd (cc k)
strictly-beneath [] (b ∷ path) h k = refl
strictly-beneath (a ∷ above) path h k = go (bytes_eq (a ∷ above) path) refl h
  where
    go : (same : Bool) → bytes_eq (a ∷ above) path ≡ same → (same || is_beneath_directory (a ∷ above) path) ≡ true → is_beneath_directory (a ∷ above) path ≡ true
    go false e f = f
    go true e f = absurd (true≢false (sym (prefix-self (a ∷ above)) ∙ ap (λ (p : List ℕ). is_prefix_by_whole_components p (a ∷ above)) (same_text (a ∷ above) path (sym e)) ∙ k))
