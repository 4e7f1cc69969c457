-- The lines of steps whose paths ascend are those of the steps sorted by path.
use Rattle.std.proofs.Common.{◌≡◌, ℕ, ◌+◌, ◌≤◌, List, [], ◌∷◌, ◌++◌, Bool, true, false, ◌&&◌, cond, count_by, map, IsPermutation, refl, sym, ap, subst, ◌∙◌, arith}
use Rattle.std.specs.Str.{bytes_eq}
use Rattle.std.specs.List.{AllByRecursion, flat_map}
use Rattle.std.specs.Cmp.{IsStrictWeakOrder}
use Rattle.std.specs.Cmp.Lexicographic.{slice_cmp}
use Rattle.std.specs.declared.cmp.Ordering.{Ordering}
use Rattle.std.specs.declared.cmp.Ordering.TheVariants.{Less, Equal, Greater}
use Rattle.std.specs.List.Sorted.{IsStrictlySortedBy}
use Rattle.std.specs.Ordering.{nat_cmp, is_lt, is_eq}
use Rattle.std.proofs.lemmas.Bool.{true≢false}
use Rattle.std.proofs.lemmas.Cmp.{nat_list_eq_equiv, nat_list_cmp_total}
use Rattle.std.proofs.lemmas.List.Concat.{flat_map-cons}
use Rattle.std.proofs.lemmas.List.Sorted.{ranks_by, sum_by-IsPermutation}
use Rattle.std.proofs.lemmas.List.Sums.{sum_by-cons}
use Rattle.std.proofs.lemmas.Map.Text.{is_eq-slice_cmp}
use Rattle.std.proofs.lemmas.Slice.Eq.{bytes_eq-Decides}
use Rattle.module_plan.specs.declared.step.Step.{Step}
use Rattle.module_plan.specs.Lines.{line_of_step}
use Rattle.module_plan.specs.Order.{is_before_by_path, insert_step_by_path, sort_steps_by_path}
use Rattle.module_plan.specs.Plans.{IsStrictlySortedByPath, path_of_step}

by_paths : IsStrictWeakOrder is_before_by_path
by_paths = ranks_by nat_list_cmp_total path_of_step

-- ---- counts

abbrev SameCounts : List Step → List Step → Type 0
SameCounts xs ys = (p : Step → Bool) → count_by p xs ≡ count_by p ys

count_by-cons : (p : Step → Bool) (x : Step) (xs : List Step) → count_by p (x ∷ xs) ≡ cond (p x) 1 0 + count_by p xs
count_by-cons p x xs = sum_by-cons (λ y. cond (p y) 1 0) x xs

count_by-yes : (p : Step → Bool) (x : Step) (xs : List Step) → p x ≡ true → count_by p (x ∷ xs) ≡ 1 + count_by p xs
count_by-yes p x xs e = count_by-cons p x xs ∙ ap (λ b. cond b 1 0 + count_by p xs) e

count_by-no : (p : Step → Bool) (x : Step) (xs : List Step) → p x ≡ false → count_by p (x ∷ xs) ≡ 0 + count_by p xs
count_by-no p x xs e = count_by-cons p x xs ∙ ap (λ b. cond b 1 0 + count_by p xs) e

none : (p : Step → Bool) (xs : List Step) → AllByRecursion (λ s. p s ≡ false) xs → count_by p xs ≡ 0
none p [] all = refl
none p (x ∷ xs) all = omega (arith, count_by-no p x xs all.0, none p xs all.1)

count_by-le : (p q : Step → Bool) (xs : List Step) → ((s : Step) → p s ≡ true → q s ≡ true) → count_by p xs ≤ count_by q xs
count_by-le p q [] h = omega arith
count_by-le p q (x ∷ xs) h =
    let here : cond (p x) 1 0 ≤ cond (q x) 1 0 = go (p x) (q x) (h x) in
    omega (arith, here, count_by-cons p x xs, count_by-cons q x xs, count_by-le p q xs h)
  where
    go : (a b : Bool) → (a ≡ true → b ≡ true) → cond a 1 0 ≤ cond b 1 0
    go true b f = rw (f refl) (omega arith)
    go false b f = omega arith

-- ---- by_path

abbrev IsUp : List Step → Type 0
IsUp [] = Unit {0}
IsUp (x ∷ xs) = AllByRecursion (λ y. is_before_by_path y x ≡ false) xs × IsUp xs

all_insert : (P : Step → Type 0) (s : Step) (xs : List Step) → P s → AllByRecursion P xs → AllByRecursion P (insert_step_by_path s xs)
all_insert P s [] ps h = (ps, tt)
all_insert P s (x ∷ xs) ps h = go (is_before_by_path x s) (all_insert P s xs ps h.1)
  where
    go : (b : Bool) → AllByRecursion P (insert_step_by_path s xs) → AllByRecursion P (cond b (x ∷ insert_step_by_path s xs) (s ∷ x ∷ xs))
    go true ih = (h.0, ih)
    go false ih = (ps, h)

all_chain : (x s : Step) (xs : List Step) → is_before_by_path x s ≡ false → AllByRecursion (λ y. is_before_by_path y x ≡ false) xs → AllByRecursion (λ y. is_before_by_path y s ≡ false) xs
all_chain x s [] h all = tt
all_chain x s (y ∷ ys) h all = (by_paths.chain y x s all.0 h, all_chain x s ys h all.1)

IsUp-insert : (s : Step) (xs : List Step) → IsUp xs → IsUp (insert_step_by_path s xs)
IsUp-insert s [] up = (tt, tt)
IsUp-insert s (x ∷ xs) up = go (is_before_by_path x s) refl (IsUp-insert s xs up.1)
  where
    go : (b : Bool) → is_before_by_path x s ≡ b → IsUp (insert_step_by_path s xs) → IsUp (cond b (x ∷ insert_step_by_path s xs) (s ∷ x ∷ xs))
    go true is ih = (all_insert (λ y. is_before_by_path y x ≡ false) s xs (by_paths.one_way x s is) up.0, ih)
    go false is ih = ((is, all_chain x s xs is up.0), up)

IsUp-by_path : (xs : List Step) → IsUp (sort_steps_by_path xs)
unfolding sort_steps_by_path
IsUp-by_path [] = tt
IsUp-by_path (x ∷ xs) = IsUp-insert x (sort_steps_by_path xs) (IsUp-by_path xs)

count_by-insert : (p : Step → Bool) (s : Step) (xs : List Step) → count_by p (insert_step_by_path s xs) ≡ cond (p s) 1 0 + count_by p xs
count_by-insert p s [] = count_by-cons p s []
count_by-insert p s (x ∷ xs) = go (is_before_by_path x s) (count_by-insert p s xs)
  where
    go : (b : Bool) → count_by p (insert_step_by_path s xs) ≡ cond (p s) 1 0 + count_by p xs → count_by p (cond b (x ∷ insert_step_by_path s xs) (s ∷ x ∷ xs)) ≡ cond (p s) 1 0 + count_by p (x ∷ xs)
    go true ih = omega (arith, ih, count_by-cons p x (insert_step_by_path s xs), count_by-cons p x xs)
    go false ih = count_by-cons p s (x ∷ xs)

count_by-by_path : (p : Step → Bool) (xs : List Step) → count_by p (sort_steps_by_path xs) ≡ count_by p xs
unfolding sort_steps_by_path
count_by-by_path p [] = refl
count_by-by_path p (x ∷ xs) = omega (arith, count_by-insert p x (sort_steps_by_path xs), count_by-by_path p xs, count_by-cons p x xs)

-- ---- one order

abbrev has_path : List ℕ → Step → Bool
has_path path s = bytes_eq path s.path

apart : (p q : List ℕ) (b : Bool) → bytes_eq p q ≡ b → (p ≡ q → ⊥) → bytes_eq p q ≡ false
apart p q true is never = absurd (never ((bytes_eq-Decides p q).0 is))
apart p q false is never = is

less_differs : (p q : List ℕ) → slice_cmp nat_cmp p q ≡ Less → bytes_eq p q ≡ false
less_differs p q less = sym (is_eq-slice_cmp p q) ∙ ap is_eq less

-- of a path below that of a first step there is none behind it
below_none : (p : List ℕ) (y : Step) (ys : List Step) → slice_cmp nat_cmp p y.path ≡ Less → AllByRecursion (λ z. is_before_by_path z y ≡ false) ys
    → AllByRecursion (λ s. has_path p s ≡ false) ys
below_none p y [] less up = tt
below_none p y (z ∷ ys) less up = (
  apart p z.path (bytes_eq p z.path) refl (λ e. true≢false (sym (ap is_lt (subst (λ (q : List ℕ). slice_cmp nat_cmp q y.path ≡ Less) e less)) ∙ up.0)),
  below_none p y ys less up.1,
)

-- the same where the paths ascend
above_none : (p : List ℕ) (x : Step) (xs : List Step) → is_lt (slice_cmp nat_cmp x.path p) ≡ false → AllByRecursion (λ path. slice_cmp nat_cmp x.path path ≡ Less) (map path_of_step xs)
    → AllByRecursion (λ s. has_path p s ≡ false) xs
above_none p x [] less up = tt
above_none p x (z ∷ xs) less up = (
  apart p z.path (bytes_eq p z.path) refl (λ e. true≢false (sym (ap is_lt (subst (λ (q : List ℕ). slice_cmp nat_cmp x.path q ≡ Less) (sym e) up.0)) ∙ less)),
  above_none p x xs less up.1,
)

module _ (x y : Step) (xs ys : List Step) (first : AllByRecursion (λ path. slice_cmp nat_cmp x.path path ≡ Less) (map path_of_step xs))
    (up : AllByRecursion (λ z. is_before_by_path z y ≡ false) ys) (same : SameCounts (x ∷ xs) (y ∷ ys)) where
  is_itself : has_path x.path x ≡ true
  is_itself = nat_list_eq_equiv.refl x.path

  no_less : slice_cmp nat_cmp x.path y.path ≡ Less → ⊥
  no_less less =
      let here = less_differs x.path y.path less in
      omega (arith, same (has_path x.path), count_by-yes (has_path x.path) x xs is_itself, none (has_path x.path) (y ∷ ys) (here, below_none x.path y ys less up))

  not_equal : slice_cmp nat_cmp x.path y.path ≡ Greater → bytes_eq y.path x.path ≡ false
  not_equal greater = apart y.path x.path (bytes_eq y.path x.path) refl (λ e. true≢false (sym (is_eq-slice_cmp x.path y.path ∙ equal e) ∙ ap is_eq greater))
    where
      equal : y.path ≡ x.path → bytes_eq x.path y.path ≡ true
      equal e = subst (λ (q : List ℕ). bytes_eq x.path q ≡ true) (sym e) (nat_list_eq_equiv.refl x.path)

  no_greater : slice_cmp nat_cmp x.path y.path ≡ Greater → ⊥
  no_greater greater =
      omega (
        arith,
        same (has_path y.path),
        count_by-yes (has_path y.path) y ys (nat_list_eq_equiv.refl y.path),
        none (has_path y.path) (x ∷ xs) (not_equal greater, above_none y.path x xs (ap is_lt greater) first),
      )

  -- the heads have one path, and none behind them has it
  module _ (equal : bytes_eq x.path y.path ≡ true) where
    alone : AllByRecursion (λ s. has_path x.path s ≡ false) xs
    alone = above_none x.path x xs (ap is_lt (own (slice_cmp nat_cmp x.path x.path) refl)) first
      where
        own : (o : Ordering) → slice_cmp nat_cmp x.path x.path ≡ o → slice_cmp nat_cmp x.path x.path ≡ Equal
        own Less e = absurd (true≢false (sym (nat_list_eq_equiv.refl x.path) ∙ less_differs x.path x.path e))
        own Equal e = e
        own Greater e = absurd (true≢false (sym (is_eq-slice_cmp x.path x.path ∙ nat_list_eq_equiv.refl x.path) ∙ ap is_eq e))

    none_behind : count_by (has_path x.path) ys ≡ 0
    none_behind =
        omega (arith, same (has_path x.path), count_by-yes (has_path x.path) x xs is_itself, none (has_path x.path) xs alone, count_by-yes (has_path x.path) y ys equal)

    -- each test counts them alike
    alike : (q : Step → Bool) → cond {A = ℕ} (q x) 1 0 ≡ cond (q y) 1 0
    alike q =
        let r : Step → Bool = λ s. has_path x.path s && q s in
        let few : (s : Step) → (has_path x.path s && q s) ≡ true → has_path x.path s ≡ true = λ s. front (has_path x.path s) (q s) in
        let here : cond {A = ℕ} (has_path x.path x && q x) 1 0 ≡ cond (q x) 1 0 = ap (λ b. cond (b && q x) 1 0) is_itself in
        let there : cond {A = ℕ} (has_path x.path y && q y) 1 0 ≡ cond (q y) 1 0 = ap (λ b. cond (b && q y) 1 0) has in
        omega (
          arith,
          here,
          there,
          same r,
          count_by-cons r x xs,
          count_by-cons r y ys,
          count_by-le r (has_path x.path) xs few,
          count_by-le r (has_path x.path) ys few,
          none (has_path x.path) xs alone,
          none_behind,
        )
      where
        front : (a b : Bool) → (a && b) ≡ true → a ≡ true
        front true b e = refl
        front false b e = e

        has : has_path x.path y ≡ true
        has = equal

    tails : SameCounts xs ys
    tails p = omega (arith, same p, count_by-cons p x xs, count_by-cons p y ys, alike p)

    head_lines : line_of_step x ≡ line_of_step y
    head_lines = (bytes_eq-Decides (line_of_step x) (line_of_step y)).0 (counted (bytes_eq (line_of_step x) (line_of_step y)) refl)
      where
        counted : (b : Bool) → bytes_eq (line_of_step x) (line_of_step y) ≡ b → bytes_eq (line_of_step x) (line_of_step y) ≡ true
        counted true e = e
        counted false e =
            absurd (let a : cond {A = ℕ} (bytes_eq (line_of_step x) (line_of_step x)) 1 0 ≡ cond (bytes_eq (line_of_step x) (line_of_step y)) 1 0 = alike (λ s. bytes_eq (line_of_step x) (line_of_step s)) in
            let one : cond {A = ℕ} (bytes_eq (line_of_step x) (line_of_step x)) 1 0 ≡ 1 = ap (λ b. cond b 1 0) (nat_list_eq_equiv.refl (line_of_step x)) in
            let zero : cond {A = ℕ} (bytes_eq (line_of_step x) (line_of_step y)) 1 0 ≡ 0 = ap (λ b. cond b 1 0) e in
            omega (arith, a, one, zero))

  one_path : bytes_eq x.path y.path ≡ true
  one_path = go (slice_cmp nat_cmp x.path y.path) refl
    where
      go : (o : Ordering) → slice_cmp nat_cmp x.path y.path ≡ o → bytes_eq x.path y.path ≡ true
      go Less e = absurd (no_less e)
      go Equal e = sym (is_eq-slice_cmp x.path y.path) ∙ ap is_eq e
      go Greater e = absurd (no_greater e)

same_lines : (xs ys : List Step) → IsStrictlySortedByPath xs → IsUp ys → SameCounts xs ys → flat_map line_of_step xs ≡ flat_map line_of_step ys
unfolding IsStrictlySortedBy
same_lines [] [] ascends up same = refl
same_lines [] (y ∷ ys) ascends up same = absurd (omega (arith, same (λ _. true), count_by-cons (λ _. true) y ys))
same_lines (x ∷ xs) [] ascends up same = absurd (omega (arith, same (λ _. true), count_by-cons (λ _. true) x xs))
same_lines (x ∷ xs) (y ∷ ys) ascends up same =
    let equal = one_path x y xs ys ascends.0 up.0 same in
    let rest = same_lines xs ys ascends.1 up.1 (tails x y xs ys ascends.0 up.0 same equal) in
    flat_map-cons line_of_step x xs ∙ ap (λ (l : List ℕ). l ++ flat_map line_of_step xs) (head_lines x y xs ys ascends.0 up.0 same equal)
    ∙ ap (λ (l : List ℕ). line_of_step y ++ l) rest ∙ sym (flat_map-cons line_of_step y ys)

pub lines-by_path : (steps made : List Step) → IsPermutation steps made → IsStrictlySortedByPath made → flat_map line_of_step made ≡ flat_map line_of_step (sort_steps_by_path steps)
lines-by_path steps made moved ascends =
    same_lines made (sort_steps_by_path steps) ascends (IsUp-by_path steps)
    (λ p. sum_by-IsPermutation (λ s. cond (p s) 1 0) steps made moved ∙ sym (count_by-by_path p steps))
