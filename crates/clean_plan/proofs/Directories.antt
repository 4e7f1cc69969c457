-- Directories above a path: how those above one path lie to one another, and to its fronts.
use Rattle.std.proofs.Common.{◌≡◌, ℕ, zero, suc, ◌+◌, ◌<◌, ◌≤◌, ◌⊎◌, inl, inr, List, [], ◌∷◌, ◌++◌, Bool, true, false, cond, ◌||◌, ◌&&◌, Option, Some, None, length, length-append, take, drop, get_or, append_assoc, bytes_eq, eqb, ◌≢◌, refl, sym, ap, subst, ◌∙◌, arith}
use Rattle.std.specs.Prelude.{nat_eq, nat_lt, is_some}
use Rattle.std.specs.List.{starts_with}
use Rattle.std.proofs.lemmas.Bool.{cases_lt, cond-true, lt-ltb, ltb-true, true≢false}
use Rattle.std.proofs.lemmas.Cmp.{nat_list_eq_equiv}
use Rattle.std.proofs.lemmas.Bool.Decides.{Decides-eqb, eqb_tells}
use Rattle.std.proofs.lemmas.List.{drop_at, drop_more, length-take-le, take_at, take-append-drop}
use Rattle.std.proofs.lemmas.Slice.Eq.{starts_is}
use Rattle.std.specs.Cmp.Lexicographic.{same_text}
use Rattle.gitbase_core.specs.Path.{is_slash, is_empty_or_root_path, is_beneath_directory, rest_without_separating_slash}
use Rattle.clean_plan.specs.Above.{prefixes_shorter_than_length, any_ancestor_passes, any_ancestor_below_length_passes}

-- a path goes on behind a directory, which is the top, or behind which a slash stands
pub record GoesOn (d path : List ℕ) : Type 0 where
  pub byte : ℕ
  pub rest : List ℕ
  pub is : path ≡ d ++ byte ∷ rest
  pub parted : (is_empty_or_root_path d || is_slash byte) ≡ true

some_then : (b : Bool) (found : Option (List ℕ)) → is_some (cond b found None) ≡ true → (b ≡ true) × (is_some found ≡ true)
some_then true found h = (refl, h)
some_then false found h = absurd (cc h)

step-is : (top : Bool) (b : ℕ) (rest : List ℕ) → is_some (rest_without_separating_slash top (b ∷ rest)) ≡ (top || is_slash b)
step-is true b rest = refl
step-is false b rest = go (is_slash b)
  where
    go : (s : Bool) → is_some (cond s (Some rest) None) ≡ s
    go true = refl
    go false = refl

pub beneath-is : (d : List ℕ) (b : ℕ) (rest : List ℕ) → is_beneath_directory d (d ++ b ∷ rest) ≡ (is_empty_or_root_path d || is_slash b)
beneath-is d b rest =
    let path : List ℕ = d ++ b ∷ rest in
    let begins = (starts_is Decides-eqb path d (starts_with nat_eq path d) refl).1 (b ∷ rest) refl in
    ap is_some (cond-true (starts_with nat_eq path d) (rest_without_separating_slash (is_empty_or_root_path d) (drop (length d) path)) None begins)
    ∙ ap (λ (r : List ℕ). is_some (rest_without_separating_slash (is_empty_or_root_path d) r)) (drop_at d (b ∷ rest) (length d) refl)
    ∙ step-is (is_empty_or_root_path d) b rest

pub goes-on : (d path : List ℕ) → is_beneath_directory d path ≡ true → GoesOn d path
goes-on d path h =
    let both = some_then (starts_with nat_eq path d) (rest_without_separating_slash (is_empty_or_root_path d) (drop (length d) path)) h in
    go (drop (length d) path) ((starts_is Decides-eqb path d (starts_with nat_eq path d) refl).0 both.0) both.1
  where
    go : (rest : List ℕ) → path ≡ d ++ rest → is_some (rest_without_separating_slash (is_empty_or_root_path d) rest) ≡ true → GoesOn d path
    go [] e k = absurd (cc k)
    go (b ∷ rest) e k = record { byte = b; rest = rest; is = e; parted = sym (step-is (is_empty_or_root_path d) b rest) ∙ k }

pub beneath-on : (d path : List ℕ) → GoesOn d path → is_beneath_directory d path ≡ true
beneath-on d path h = ap (is_beneath_directory d) h.is ∙ beneath-is d h.byte h.rest ∙ h.parted

-- ---- in bytes

abbrev tail_of : List ℕ → List ℕ
tail_of [] = []
tail_of (b ∷ bytes) = bytes

abbrev head_of : List ℕ → ℕ
head_of [] = 0
head_of (b ∷ bytes) = b

-- of two fronts of one path the shorter one is a front of the longer one
pub record IsFrontOf (a b r s : List ℕ) : Type 0 where
  pub byte : ℕ
  pub between : List ℕ
  pub is : b ≡ a ++ byte ∷ between
  pub rest_is : r ≡ byte ∷ between ++ s

front-of : (a b r s : List ℕ) → a ++ r ≡ b ++ s → length a < length b → IsFrontOf a b r s
front-of a [] r s e short = absurd (omega (arith, short))
front-of [] (y ∷ b) r s e short = record { byte = y; between = b; is = refl; rest_is = e }
front-of (x ∷ a) (y ∷ b) r s e short =
    let more : IsFrontOf a b r s = front-of a b r s (ap tail_of e) (omega (arith, short)) in
    record {
      byte = more.byte;
      between = more.between;
      is = ap (λ (n : ℕ). n ∷ b) (sym (ap head_of e)) ∙ ap (λ (bytes : List ℕ). x ∷ bytes) more.is;
      rest_is = more.rest_is;
    }

same-front : (a b r s : List ℕ) → a ++ r ≡ b ++ s → length a ≡ length b → a ≡ b
same-front [] [] r s e same = refl
same-front [] (y ∷ b) r s e same = absurd (omega (arith, same))
same-front (x ∷ a) [] r s e same = absurd (omega (arith, same))
same-front (x ∷ a) (y ∷ b) r s e same =
    ap (λ (n : ℕ). n ∷ a) (ap head_of e) ∙ ap (λ (bytes : List ℕ). y ∷ bytes) (same-front a b r s (ap tail_of e) (omega (arith, same)))

-- ---- directories above one another

pub above-shorter : (d path : List ℕ) → is_beneath_directory d path ≡ true → length d < length path
above-shorter d path h =
    let on : GoesOn d path = goes-on d path h in
    omega (arith, ap length on.is, length-append d (on.byte ∷ on.rest))

pub above-front : (d path : List ℕ) → is_beneath_directory d path ≡ true → take (length d) path ≡ d
above-front d path h = let on : GoesOn d path = goes-on d path h in ap (take (length d)) on.is ∙ take_at d (on.byte ∷ on.rest) (length d) refl

-- what lies beneath what lies beneath
pub above-then : (a b c : List ℕ) → is_beneath_directory a b ≡ true → is_beneath_directory b c ≡ true → is_beneath_directory a c ≡ true
above-then a b c h k =
    let one : GoesOn a b = goes-on a b h in
    let two : GoesOn b c = goes-on b c k in
    beneath-on a c (record {
      byte = one.byte;
      rest = one.rest ++ two.byte ∷ two.rest;
      is = two.is ∙ ap (λ (p : List ℕ). p ++ two.byte ∷ two.rest) one.is ∙ append_assoc a (one.byte ∷ one.rest) (two.byte ∷ two.rest);
      parted = one.parted;
    })

-- of two directories above one path the shorter one is above the longer one
pub above-longer : (a b c : List ℕ) → is_beneath_directory a c ≡ true → is_beneath_directory b c ≡ true → length a < length b → is_beneath_directory a b ≡ true
above-longer a b c h k short =
    let one : GoesOn a c = goes-on a c h in
    let two : GoesOn b c = goes-on b c k in
    let front : IsFrontOf a b (one.byte ∷ one.rest) (two.byte ∷ two.rest) = front-of a b (one.byte ∷ one.rest) (two.byte ∷ two.rest) (sym one.is ∙ two.is) short in
    beneath-on a b (record {
      byte = front.byte;
      rest = front.between;
      is = front.is;
      parted = ap (λ (n : ℕ). is_empty_or_root_path a || is_slash n) (sym (first one.byte front.byte one.rest (front.between ++ two.byte ∷ two.rest) front.rest_is)) ∙ one.parted;
    })
  where
    first : (x y : ℕ) (r s : List ℕ) → (x ∷ r) ≡ (y ∷ s) → x ≡ y
    first x y r s e = ap head_of e

-- and two as long are one
pub above-same : (a b c : List ℕ) → is_beneath_directory a c ≡ true → is_beneath_directory b c ≡ true → length a ≡ length b → a ≡ b
above-same a b c h k same =
    let one : GoesOn a c = goes-on a c h in
    let two : GoesOn b c = goes-on b c k in
    same-front a b (one.byte ∷ one.rest) (two.byte ∷ two.rest) (sym one.is ∙ two.is) same

-- whether a front of a path is above it
pub front-is : (path : List ℕ) (at : ℕ) → at < length path → is_beneath_directory (take at path) path ≡ (is_empty_or_root_path (take at path) || is_slash (get_or path at 0))
front-is path at short =
    ap (is_beneath_directory (take at path)) (sym (take-append-drop at path) ∙ ap (λ (r : List ℕ). take at path ++ r) (drop_more path at 0 short))
    ∙ beneath-is (take at path) (get_or path at 0) (drop (at + 1) path)

-- ---- some directory

or_cases : (a b : Bool) → (a || b) ≡ true → (a ≡ true) ⊎ (b ≡ true)
or_cases true b h = inl refl
or_cases false b h = inr h

or_none : (a b : Bool) → (a || b) ≡ false → (a ≡ false) × (b ≡ false)
or_none true b h = absurd (cc h)
or_none false b h = (refl, h)

pub and_both : (a b : Bool) → (a && b) ≡ true → (a ≡ true) × (b ≡ true)
and_both true b h = (refl, h)
and_both false b h = absurd (cc h)

and_none : (a b : Bool) → (a && b) ≡ false → a ≡ true → b ≡ false
and_none true b h e = h
and_none false b h e = absurd (cc e)

pub record FoundAbove (test : List ℕ → Bool) (n : ℕ) (path : List ℕ) : Type 0 where
  pub directory : List ℕ
  pub is_above : is_beneath_directory directory path ≡ true
  pub passes : test directory ≡ true

pub found-front : (test : List ℕ → Bool) (n : ℕ) (path : List ℕ) → any_ancestor_below_length_passes test n path ≡ true → FoundAbove test n path
unfolding prefixes_shorter_than_length
found-front test zero path h = absurd (cc h)
found-front test (suc n) path h = go (or_cases (is_beneath_directory (take n path) path && test (take n path)) (any_ancestor_below_length_passes test n path) h) (found-front test n path)
  where
    go : ((is_beneath_directory (take n path) path && test (take n path)) ≡ true) ⊎ (any_ancestor_below_length_passes test n path ≡ true)
        → (any_ancestor_below_length_passes test n path ≡ true → FoundAbove test n path) → FoundAbove test (suc n) path
    go (inl e) later = let both = and_both (is_beneath_directory (take n path) path) (test (take n path)) e in record { directory = take n path; is_above = both.0; passes = both.1 }
    go (inr e) later = let more : FoundAbove test n path = later e in record { directory = more.directory; is_above = more.is_above; passes = more.passes }

pub no-front : (test : List ℕ → Bool) (n : ℕ) (path d : List ℕ) → any_ancestor_below_length_passes test n path ≡ false → is_beneath_directory d path ≡ true → length d < n → test d ≡ false
unfolding prefixes_shorter_than_length
no-front test zero path d h beneath short = absurd (omega (arith, short))
no-front test (suc n) path d h beneath short =
    let both = or_none (is_beneath_directory (take n path) path && test (take n path)) (any_ancestor_below_length_passes test n path) h in
    go (eqb_tells (length d) n) both.0 (λ shorter. no-front test n path d both.1 beneath shorter)
  where
    go : ((eqb (length d) n ≡ true) × (length d ≡ n)) ⊎ ((eqb (length d) n ≡ false) × (length d ≢ n))
        → (is_beneath_directory (take n path) path && test (take n path)) ≡ false → (length d < n → test d ≡ false) → test d ≡ false
    go (inl e) here more =
        let same : take n path ≡ d = ap (λ (k : ℕ). take k path) (sym e.1) ∙ above-front d path beneath in
        and_none (is_beneath_directory d path) (test d) (subst (λ (x : List ℕ). (is_beneath_directory x path && test x) ≡ false) same here) beneath
    go (inr e) here more = more (omega (arith, short, e.1))

pub none-above : (test : List ℕ → Bool) (path d : List ℕ) → any_ancestor_passes test path ≡ false → is_beneath_directory d path ≡ true → test d ≡ false
none-above test path d h beneath = no-front test (length path) path d h beneath (above-shorter d path beneath)

-- the other way round
pub none-front : (test : List ℕ → Bool) (n : ℕ) (path : List ℕ) → ((d : List ℕ) → is_beneath_directory d path ≡ true → test d ≡ false) → any_ancestor_below_length_passes test n path ≡ false
unfolding prefixes_shorter_than_length
none-front test zero path h = refl
none-front test (suc n) path h = go (is_beneath_directory (take n path) path) refl (none-front test n path h)
  where
    go : (b : Bool) → is_beneath_directory (take n path) path ≡ b → any_ancestor_below_length_passes test n path ≡ false → ((b && test (take n path)) || any_ancestor_below_length_passes test n path) ≡ false
    go true e more = ap (λ (x : Bool). x || any_ancestor_below_length_passes test n path) (h (take n path) e) ∙ more
    go false e more = more

pub some-above : (test : List ℕ → Bool) (path d : List ℕ) → is_beneath_directory d path ≡ true → test d ≡ true → any_ancestor_passes test path ≡ true
some-above test path d beneath passes = go (any_ancestor_passes test path) refl
  where
    go : (b : Bool) → any_ancestor_passes test path ≡ b → any_ancestor_passes test path ≡ true
    go true e = e
    go false e = absurd (true≢false (sym passes ∙ none-above test path d e beneath))

-- ---- one front more

step-cases : (x l s t : Bool) → (x ≡ true → (l ≡ true) × (t ≡ true)) → (s ≡ true → t ≡ true) → (l ≡ true → t ≡ true → s ≡ false → x ≡ true) → (x || (l && s)) ≡ (l && t)
step-cases true l s t f g h = let both = f refl in rw (both.0, both.1) refl
step-cases false false s t f g h = refl
step-cases false true true t f g h = sym (g refl)
step-cases false true false true f g h = absurd (let no : false ≡ true = h refl refl refl in cc no)
step-cases false true false false f g h = refl

not-less : (a b : ℕ) → nat_lt a b ≡ false → b ≤ a
not-less a b e = go (cases_lt a b)
  where
    go : (a < b) ⊎ (b ≤ a) → b ≤ a
    go (inl h) = absurd (true≢false (sym (lt-ltb a b h) ∙ e))
    go (inr h) = h

-- a directory above a path that is no longer than a front is that front or is shorter
pub front-step : (path other : List ℕ) (n : ℕ) → n < length path
    → ((is_beneath_directory (take n path) path && bytes_eq other (take n path)) || (is_beneath_directory other path && nat_lt (length other) n)) ≡ (is_beneath_directory other path && nat_lt (length other) (n + 1))
front-step path other n short =
    let front : List ℕ = take n path in
    let long : length front ≡ n = length-take-le n path (omega (arith, short)) in
    step-cases (is_beneath_directory front path && bytes_eq other front) (is_beneath_directory other path) (nat_lt (length other) n) (nat_lt (length other) (n + 1))
    (λ e.
    let both = and_both (is_beneath_directory front path) (bytes_eq other front) e in
    let same : other ≡ front = same_text other front (sym both.1) in
    (ap (λ (d : List ℕ). is_beneath_directory d path) same ∙ both.0, lt-ltb (length other) (n + 1) (omega (arith, ap length same, long))))
    (λ e. let less = ltb-true (length other) n e in lt-ltb (length other) (n + 1) (omega (arith, less)))
    (λ beneath up down.
    let less = ltb-true (length other) (n + 1) up in
    let same : length other ≡ n = omega (arith, less, not-less (length other) n down) in
    let is : other ≡ front = sym (above-front other path beneath) ∙ ap (λ (k : ℕ). take k path) same in
    both-true (is_beneath_directory front path) (bytes_eq other front) (ap (λ (d : List ℕ). is_beneath_directory d path) (sym is) ∙ beneath) (ap (bytes_eq other) (sym is) ∙ nat_list_eq_equiv.refl other))
  where
    both-true : (a b : Bool) → a ≡ true → b ≡ true → (a && b) ≡ true
    both-true a b e f = rw (e, f) refl

pub or_along : (a b c : Bool) → (a || (b || c)) ≡ ((a || b) || c)
or_along true b c = refl
or_along false b c = refl

-- what is among others is added again
pub added-before : (above less old : Bool) → (above ≡ true → less ≡ true → old ≡ true) → old ≡ ((above && less) || old)
added-before false less old h = refl
added-before true false old h = refl
added-before true true old h = h refl refl
