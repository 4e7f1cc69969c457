-- The fronts of a path, one after another.
use Rattle.std.proofs.Common.{◌≡◌, ℕ, zero, suc, ◌+◌, ◌<◌, ◌≤◌, ◌⊎◌, inl, inr, List, [], ◌∷◌, ◌++◌, Bool, true, false, cond, ◌||◌, ◌&&◌, length, take, get_or, bytes_eq, eqb, eqb-true, max, ◌≢◌, refl, sym, ap, subst, ◌∙◌, arith}
use Rattle.std.specs.Prelude.{nat_lt, if◌then◌else◌}
use Rattle.std.specs.Cmp.Lexicographic.{same_text}
use Rattle.std.proofs.lemmas.Bool.{cases_lt, lt-ltb, ltb-true, true≢false}
use Rattle.std.proofs.lemmas.Bool.Decides.{eqb_tells}
use Rattle.std.proofs.lemmas.Cmp.{nat_list_eq_equiv}
use Rattle.std.proofs.lemmas.List.{length-take-le, take_more}
use Rattle.gitbase_core.specs.Path.{is_empty, is_prefix_by_whole_components, is_slash, is_empty_or_root_path, is_beneath_directory}
use Rattle.clean_plan.specs.Above.{IsFirstPassingAncestorOrSelf, prefixes_shorter_than_length, length_past_longest_passing_ancestor, any_ancestor_passes, any_ancestor_below_length_passes}
use Rattle.clean_plan.proofs.Directories.{above-longer, above-same, above-shorter, above-then, and_both, front-is, no-front, none-front, some-above}

more : (n : ℕ) → suc n ≡ n + 1
more n = omega arith

pub first-front : (test : List ℕ → Bool) (path : List ℕ) → any_ancestor_below_length_passes test 0 path ≡ false
unfolding prefixes_shorter_than_length
first-front test path = refl

pub next-front : (test : List ℕ → Bool) (n : ℕ) (path : List ℕ) → (is_beneath_directory (take n path) path && test (take n path)) ≡ false → any_ancestor_below_length_passes test n path ≡ false → any_ancestor_below_length_passes test (n + 1) path ≡ false
unfolding prefixes_shorter_than_length
next-front test n path here before =
    subst (λ (k : ℕ). any_ancestor_below_length_passes test k path ≡ false) (more n) (neither (is_beneath_directory (take n path) path && test (take n path)) (any_ancestor_below_length_passes test n path) here before)
  where
    neither : (a b : Bool) → a ≡ false → b ≡ false → (a || b) ≡ false
    neither true b e f = absurd (cc e)
    neither false b e f = f

-- a directory above a path that passes
pub passing-front : (test : List ℕ → Bool) (n : ℕ) (path : List ℕ) → (is_beneath_directory (take n path) path && test (take n path)) ≡ true → true ≡ any_ancestor_passes test path
passing-front test n path here =
    let both = and_both (is_beneath_directory (take n path) path) (test (take n path)) here in
    sym (some-above test path (take n path) both.0 both.1)

-- the first directory above a path that passes
pub target-here : (test : List ℕ → Bool) (n : ℕ) (path : List ℕ) → n < length path → (is_beneath_directory (take n path) path && test (take n path)) ≡ true → any_ancestor_below_length_passes test n path ≡ false → IsFirstPassingAncestorOrSelf test path (take n path)
target-here test n path short here before =
    let front : List ℕ = take n path in
    let long : length front ≡ n = length-take-le n path (omega (arith, short)) in
    let both = parts (is_beneath_directory front path) (test front) here in
    record {
      which = inr both;
      none_above = none-front test (length front) front (λ d above.
          no-front test n path d before (above-then d front path above both.0) (let less = above-shorter d front above in omega (arith, less, long)));
    }
  where
    parts : (a b : Bool) → (a && b) ≡ true → (a ≡ true) × (b ≡ true)
    parts true b h = (refl, h)
    parts false b h = absurd (cc h)

pub target-none : (test : List ℕ → Bool) (path : List ℕ) → any_ancestor_passes test path ≡ false → IsFirstPassingAncestorOrSelf test path path
target-none test path none = record { which = inl refl; none_above = none }

-- behind a directory above a path that is not the top stands a slash
pub front-slash : (path : List ℕ) (n : ℕ) → n < length path → is_beneath_directory (take n path) path ≡ true → is_empty_or_root_path (take n path) ≡ false → take (n + 1) path ≡ take n path ++ 47 ∷ []
front-slash path n short above low =
    take_more path n 0 short ∙ ap (λ (b : ℕ). take n path ++ b ∷ []) (eqb-true (get_or path n 0) 47 (go (is_empty_or_root_path (take n path)) (is_slash (get_or path n 0)) low (sym (front-is path n short) ∙ above)))
  where
    go : (a b : Bool) → a ≡ false → (a || b) ≡ true → b ≡ true
    go true b e h = absurd (cc e)
    go false b e h = h

-- ---- how far the directories reach that pass

pub reach-first : (test : List ℕ → Bool) (path : List ℕ) → length_past_longest_passing_ancestor test 0 path ≡ 0
unfolding length_past_longest_passing_ancestor
reach-first test path = refl

pub reach-next : (test : List ℕ → Bool) (n : ℕ) (path : List ℕ)
    → (if is_beneath_directory (take n path) path && test (take n path) then n + 1 else length_past_longest_passing_ancestor test n path) ≡ length_past_longest_passing_ancestor test (n + 1) path
unfolding length_past_longest_passing_ancestor
reach-next test n path = subst (λ (k : ℕ). (if is_beneath_directory (take n path) path && test (take n path) then k else length_past_longest_passing_ancestor test n path) ≡ length_past_longest_passing_ancestor test k path) (more n) refl

pub reach-within : (test : List ℕ → Bool) (n : ℕ) (path : List ℕ) → length_past_longest_passing_ancestor test n path ≤ n
unfolding length_past_longest_passing_ancestor
reach-within test zero path = omega arith
reach-within test (suc n) path = go (is_beneath_directory (take n path) path && test (take n path)) (reach-within test n path)
  where
    go : (b : Bool) → length_past_longest_passing_ancestor test n path ≤ n → cond b (suc n) (length_past_longest_passing_ancestor test n path) ≤ suc n
    go true h = omega arith
    go false h = omega (arith, h)

-- a prefix has no more bytes
prefix-short : (d path : List ℕ) → is_prefix_by_whole_components d path ≡ true → length d ≤ length path
prefix-short [] path h = omega arith
prefix-short (b ∷ d) path h = go (bytes_eq (b ∷ d) path) refl h
  where
    go : (same : Bool) → bytes_eq (b ∷ d) path ≡ same → (same || is_beneath_directory (b ∷ d) path) ≡ true → length (b ∷ d) ≤ length path
    go true e h = let is = same_text (b ∷ d) path (sym e) in omega (arith, ap length is)
    go false e h = let less = above-shorter (b ∷ d) path h in omega (arith, less)

pub prefix-self : (path : List ℕ) → is_prefix_by_whole_components path path ≡ true
prefix-self [] = refl
prefix-self (b ∷ path) = rw (nat_list_eq_equiv.refl (b ∷ path)) refl

pub prefix-beneath : (d path : List ℕ) → is_beneath_directory d path ≡ true → is_prefix_by_whole_components d path ≡ true
prefix-beneath d path h = go (is_empty d || bytes_eq d path) h
  where
    go : (b : Bool) → is_beneath_directory d path ≡ true → (b || is_beneath_directory d path) ≡ true
    go true e = refl
    go false e = e

-- of two directories above one path the one with no more bytes is a prefix of the other
prefix-longer : (d x path : List ℕ) → is_beneath_directory d path ≡ true → is_beneath_directory x path ≡ true → length d ≤ length x → is_prefix_by_whole_components d x ≡ true
prefix-longer d x path h k long = go (eqb_tells (length d) (length x))
  where
    go : ((eqb (length d) (length x) ≡ true) × (length d ≡ length x)) ⊎ ((eqb (length d) (length x) ≡ false) × (length d ≢ length x)) → is_prefix_by_whole_components d x ≡ true
    go (inl e) = ap (is_prefix_by_whole_components d) (sym (above-same d x path h k e.1)) ∙ prefix-self d
    go (inr e) = prefix-beneath d x (above-longer d x path h k (omega (arith, long, e.1)))

less-false : (a b : ℕ) → b ≤ a → nat_lt a b ≡ false
less-false a b h = go (nat_lt a b) refl
  where
    go : (x : Bool) → nat_lt a b ≡ x → nat_lt a b ≡ false
    go true e = let less = ltb-true a b e in absurd (omega (arith, h, less))
    go false e = e

-- A directory above a path has fewer bytes than that exactly where it is a prefix of one that passes.
pub reach-is : (test : List ℕ → Bool) (n : ℕ) (path d : List ℕ) → n ≤ length path → is_beneath_directory d path ≡ true
    → nat_lt (length d) (length_past_longest_passing_ancestor test n path) ≡ any_ancestor_below_length_passes (λ x. is_prefix_by_whole_components d x && test x) n path
unfolding length_past_longest_passing_ancestor prefixes_shorter_than_length
reach-is test zero path d short above = less-false (length d) 0 (omega arith)
reach-is test (suc n) path d short above = go (is_beneath_directory front path) (test front) refl refl (reach-is test n path d (omega (arith, short)) above)
  where
    front : List ℕ
    front = take n path

    rest : Bool
    rest = any_ancestor_below_length_passes (λ x. is_prefix_by_whole_components d x && test x) n path

    long : length (take n path) ≡ n
    long = length-take-le n path (omega (arith, short))

    far : (p : Bool) → is_prefix_by_whole_components d (take n path) ≡ p → is_beneath_directory (take n path) path ≡ true → nat_lt (length d) (length_past_longest_passing_ancestor test n path) ≡ any_ancestor_below_length_passes (λ x. is_prefix_by_whole_components d x && test x) n path
        → nat_lt (length d) (suc n) ≡ ((p && true) || any_ancestor_below_length_passes (λ x. is_prefix_by_whole_components d x && test x) n path)
    far true e h more = let short_d = prefix-short d (take n path) e in lt-ltb (length d) (suc n) (omega (arith, short_d, long))
    far false e h more = by (cases_lt n (length d))
      where
        by : (n < length d) ⊎ (length d ≤ n) → nat_lt (length d) (suc n) ≡ any_ancestor_below_length_passes (λ x. is_prefix_by_whole_components d x && test x) n path
        by (inl less) = less-false (length d) (suc n) (omega (arith, less)) ∙ sym (less-false (length d) (length_past_longest_passing_ancestor test n path) (let in_n = reach-within test n path in omega (arith, less, in_n))) ∙ more
        by (inr least) = absurd (true≢false (sym (prefix-longer d (take n path) path above h (omega (arith, least, long))) ∙ e))

    go : (l t : Bool) → is_beneath_directory (take n path) path ≡ l → test (take n path) ≡ t → nat_lt (length d) (length_past_longest_passing_ancestor test n path) ≡ any_ancestor_below_length_passes (λ x. is_prefix_by_whole_components d x && test x) n path
        → nat_lt (length d) (cond (l && t) (suc n) (length_past_longest_passing_ancestor test n path)) ≡ ((l && (is_prefix_by_whole_components d (take n path) && t)) || any_ancestor_below_length_passes (λ x. is_prefix_by_whole_components d x && test x) n path)
    go true true e f more = far (is_prefix_by_whole_components d (take n path)) refl e more
    go true false e f more = more ∙ no-and (is_prefix_by_whole_components d (take n path)) (any_ancestor_below_length_passes (λ x. is_prefix_by_whole_components d x && test x) n path)
      where
        no-and : (p r : Bool) → r ≡ ((p && false) || r)
        no-and true r = refl
        no-and false r = refl
    go false t e f more = more

-- where none passes that has some number of bytes or more
pub reach-begun : (test : List ℕ → Bool) (path : List ℕ) (begin n : ℕ) → n ≤ length path
    → ((d : List ℕ) → is_beneath_directory d path ≡ true → begin ≤ length d → length d < n → test d ≡ false) → length_past_longest_passing_ancestor test n path ≤ begin
unfolding length_past_longest_passing_ancestor
reach-begun test path begin zero short none = omega arith
reach-begun test path begin (suc n) short none =
    go (is_beneath_directory (take n path) path) (test (take n path)) refl refl (reach-begun test path begin n (omega (arith, short)) (λ d above long less. none d above long (omega (arith, less))))
  where
    long : length (take n path) ≡ n
    long = length-take-le n path (omega (arith, short))

    go : (l t : Bool) → is_beneath_directory (take n path) path ≡ l → test (take n path) ≡ t → length_past_longest_passing_ancestor test n path ≤ begin → cond (l && t) (suc n) (length_past_longest_passing_ancestor test n path) ≤ begin
    go true true e f h = by (cases_lt n begin)
      where
        by : (n < begin) ⊎ (begin ≤ n) → suc n ≤ begin
        by (inl less) = omega (arith, less)
        by (inr least) = absurd (true≢false (sym f ∙ none (take n path) e (omega (arith, least, long)) (omega (arith, long))))
    go true false e f h = h
    go false t e f h = h

-- the same beside a number that is no greater
pub reach-longer : (c : Bool) (begin n reached : ℕ) → begin ≤ n → (if c then n + 1 else max begin reached) ≡ max begin (if c then n + 1 else reached)
reach-longer true begin n reached h = omega (arith, h)
reach-longer false begin n reached h = refl

-- a directory above a path that passes has fewer bytes
pub reach-passes : (test : List ℕ → Bool) (path d : List ℕ) → is_beneath_directory d path ≡ true → length_past_longest_passing_ancestor test (length path) path ≤ length d → test d ≡ false
reach-passes test path d above long = go (test d) refl
  where
    go : (b : Bool) → test d ≡ b → test d ≡ false
    go false e = e
    go true e =
        let found : any_ancestor_below_length_passes (λ x. is_prefix_by_whole_components d x && test x) (length path) path ≡ true =
        some-above (λ x. is_prefix_by_whole_components d x && test x) path d above (ap (λ (b : Bool). b && test d) (prefix-self d) ∙ e) in
        absurd (true≢false (sym (reach-is test (length path) path d (omega arith) above ∙ found) ∙ less-false (length d) (length_past_longest_passing_ancestor test (length path) path) long))
