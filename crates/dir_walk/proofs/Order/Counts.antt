-- How many elements of a list pass a test, and whether some does.
use Rattle.std.proofs.Common.{◌≡◌, ℕ, ◌+◌, ◌≤◌, ◌&&◌, ◌||◌, List, [], ◌∷◌, ◌++◌, Bool, true, false, not, cond, count_by, filter, map, length, refl, sym, ap, ◌∙◌, arith}
use Rattle.std.specs.List.{list_any, AllByRecursion}
use Rattle.std.proofs.lemmas.List.Sums.{sum_by-append, sum_by-cons}

-- lists with the same elements, in whatever order
abbrev pub SameCounts : {X : Type 0} → List X → List X → Type 0
SameCounts {X} xs ys = (p : X → Bool) → count_by p xs ≡ count_by p ys

pub count_by-append : {X : Type 0} (p : X → Bool) (xs ys : List X) → count_by p (xs ++ ys) ≡ count_by p xs + count_by p ys
count_by-append p xs ys = sum_by-append (λ x. cond (p x) 1 0) xs ys

pub count_by-cons : {X : Type 0} (p : X → Bool) (x : X) (xs : List X) → count_by p (x ∷ xs) ≡ cond (p x) 1 0 + count_by p xs
count_by-cons p x xs = sum_by-cons (λ y. cond (p y) 1 0) x xs

pub count_by-yes : {X : Type 0} (p : X → Bool) (x : X) (xs : List X) → p x ≡ true → count_by p (x ∷ xs) ≡ 1 + count_by p xs
count_by-yes p x xs e = count_by-cons p x xs ∙ ap (λ b. cond b 1 0 + count_by p xs) e

pub count_by-no : {X : Type 0} (p : X → Bool) (x : X) (xs : List X) → p x ≡ false → count_by p (x ∷ xs) ≡ 0 + count_by p xs
count_by-no p x xs e = count_by-cons p x xs ∙ ap (λ b. cond b 1 0 + count_by p xs) e

-- a test counts one or nothing
pub one-le : (b : Bool) → cond {A = ℕ} b 1 0 ≤ 1
one-le true = omega arith
one-le false = omega arith

-- of what passes one test, those that pass another
pub count_by-filter : {X : Type 0} (p q : X → Bool) (xs : List X) → count_by p (filter q xs) ≡ count_by (λ x. q x && p x) xs
count_by-filter p q [] = refl
count_by-filter p q (x ∷ xs) = go (q x) (count_by-filter p q xs) ∙ sym (count_by-cons (λ y. q y && p y) x xs)
  where
    go : (b : Bool) → count_by p (filter q xs) ≡ count_by (λ y. q y && p y) xs
        → count_by p (cond b (x ∷ filter q xs) (filter q xs)) ≡ cond (b && p x) 1 0 + count_by (λ y. q y && p y) xs
    go true ih = count_by-cons p x (filter q xs) ∙ ap (λ (n : ℕ). cond (p x) 1 0 + n) ih
    go false ih = omega (arith, ih)

pub count_by-map : {X Y : Type 0} (p : Y → Bool) (f : X → Y) (xs : List X) → count_by p (map f xs) ≡ count_by (λ x. p (f x)) xs
count_by-map p f [] = refl
count_by-map p f (x ∷ xs) =
    count_by-cons p (f x) (map f xs) ∙ ap (λ (n : ℕ). cond (p (f x)) 1 0 + n) (count_by-map p f xs) ∙ sym (count_by-cons (λ y. p (f y)) x xs)

-- of what passes one test, mapped, by the other test
pub count_by-map_filter : {X Y : Type 0} (p : Y → Bool) (f : X → Y) (q : X → Bool) (xs : List X) → count_by p (map f (filter q xs)) ≡ count_by (λ x. q x && p (f x)) xs
count_by-map_filter p f q xs = count_by-map p f (filter q xs) ∙ count_by-filter (λ x. p (f x)) q xs

pub count_all : {X : Type 0} (xs : List X) → count_by (λ _. true) xs ≡ length xs
count_all [] = refl
count_all (x ∷ xs) = omega (arith, count_by-cons (λ _. true) x xs, count_all xs)

-- what passes a test and what does not are all
pub count_by-parts : {X : Type 0} (q : X → Bool) (xs : List X) → count_by q xs + count_by (λ x. not (q x)) xs ≡ length xs
count_by-parts q [] = refl
count_by-parts q (x ∷ xs) = omega (arith, count_by-cons q x xs, count_by-cons (λ y. not (q y)) x xs, count_by-parts q xs, go (q x))
  where
    go : (b : Bool) → cond b 1 0 + cond (not b) 1 0 ≡ 1
    go true = refl
    go false = refl

-- tests that agree on each element count alike
pub count_by-agree : {X : Type 0} (p q : X → Bool) (xs : List X) → ((x : X) → p x ≡ q x) → count_by p xs ≡ count_by q xs
count_by-agree p q [] h = refl
count_by-agree p q (x ∷ xs) h = omega (arith, count_by-cons p x xs, count_by-cons q x xs, count_by-agree p q xs h, ap {B = ℕ} (λ (b : Bool). cond b 1 0) (h x))

-- two tests together pass no more than each
pub count_by-and : {X : Type 0} (q p : X → Bool) (xs : List X) → count_by (λ x. q x && p x) xs ≤ count_by p xs
count_by-and q p [] = omega arith
count_by-and q p (x ∷ xs) = omega (arith, count_by-cons (λ y. q y && p y) x xs, count_by-cons p x xs, count_by-and q p xs, go (q x) (p x))
  where
    go : (a b : Bool) → cond {A = ℕ} (a && b) 1 0 ≤ cond b 1 0
    go true b = omega arith
    go false b = omega arith

-- what no element passes counts nothing
pub count-none : {X : Type 0} (p : X → Bool) (xs : List X) → AllByRecursion (λ x. p x ≡ false) xs → count_by p xs ≡ 0
count-none p [] h = refl
count-none p (x ∷ xs) h = omega (arith, count_by-no p x xs h.0, count-none p xs h.1)

-- ---- whether some pass

pub list_any-append : {X : Type 0} (p : X → Bool) (xs ys : List X) → list_any p (xs ++ ys) ≡ (list_any p xs || list_any p ys)
list_any-append p [] ys = refl
list_any-append p (x ∷ xs) ys = go (p x) (list_any-append p xs ys)
  where
    go : (b : Bool) → list_any p (xs ++ ys) ≡ (list_any p xs || list_any p ys) → (b || list_any p (xs ++ ys)) ≡ ((b || list_any p xs) || list_any p ys)
    go true ih = refl
    go false ih = ih

pub list_any-left : {X : Type 0} (p : X → Bool) (xs ys : List X) → list_any p xs ≡ true → list_any p (xs ++ ys) ≡ true
list_any-left p xs ys e = list_any-append p xs ys ∙ ap (λ b. b || list_any p ys) e

pub or-right : (a b : Bool) → b ≡ true → (a || b) ≡ true
or-right true b e = refl
or-right false b e = e

pub list_any-right : {X : Type 0} (p : X → Bool) (xs ys : List X) → list_any p ys ≡ true → list_any p (xs ++ ys) ≡ true
list_any-right p xs ys e = list_any-append p xs ys ∙ or-right (list_any p xs) (list_any p ys) e

-- where none passes, none is counted, and the other way round
pub list_any-none : {X : Type 0} (p : X → Bool) (xs : List X) → AllByRecursion (λ x. p x ≡ false) xs → list_any p xs ≡ false
list_any-none p [] h = refl
list_any-none p (x ∷ xs) h = rw (h.0, list_any-none p xs h.1) refl

pub list_any-count : {X : Type 0} (p : X → Bool) (xs : List X) → count_by p xs ≡ 0 → list_any p xs ≡ false
list_any-count p [] e = refl
list_any-count p (x ∷ xs) e = go (p x) refl (list_any-count p xs)
  where
    go : (b : Bool) → p x ≡ b → (count_by p xs ≡ 0 → list_any p xs ≡ false) → (b || list_any p xs) ≡ false
    go true is later = absurd (omega (arith, e, count_by-yes p x xs is))
    go false is later = later (omega (arith, e, count_by-no p x xs is))
