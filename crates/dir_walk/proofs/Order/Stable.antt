-- A stable sort by path has one outcome.
use Rattle.std.proofs.Common.{◌≡◌, List, [], ◌∷◌, Bool, true, false, not, cond, filter, IsSortedBy, refl, sym, ap, subst, ◌∙◌}
use Rattle.std.specs.List.{AllByRecursion}
use Rattle.std.specs.List.Sorted.{IsStableBy, ties}
use Rattle.std.proofs.lemmas.Bool.{and_parts, true≢false}
use Rattle.dir_walk.specs.Emissions.{Emission, is_before_by_path, insert_emission_by_path, sort_emissions_by_path}
use Rattle.dir_walk.specs.Distinct.{IsAscendingByPath}
use Rattle.dir_walk.proofs.Order.Sorting.{by_paths, IsAscending-by_path, IsAscending-from_sort}

-- ---- what a filter keeps

filter-yes : (q : Emission → Bool) (x : Emission) (xs : List Emission) → q x ≡ true → filter q (x ∷ xs) ≡ x ∷ filter q xs
filter-yes q x xs e = ap (λ (b : Bool). cond b (x ∷ filter q xs) (filter q xs)) e

filter-no : (q : Emission → Bool) (x : Emission) (xs : List Emission) → q x ≡ false → filter q (x ∷ xs) ≡ filter q xs
filter-no q x xs e = ap (λ (b : Bool). cond b (x ∷ filter q xs) (filter q xs)) e

filter-behind : (q : Emission → Bool) (x : Emission) (xs ys : List Emission) → filter q xs ≡ filter q ys → filter q (x ∷ xs) ≡ filter q (x ∷ ys)
filter-behind q x xs ys e = ap (λ (l : List Emission). cond (q x) (x ∷ l) l) e

abbrev head_of : Emission → List Emission → Emission
head_of d [] = d
head_of d (x ∷ xs) = x

abbrev tail_of : List Emission → List Emission
tail_of [] = []
tail_of (x ∷ xs) = xs

-- what is kept first has what all have
first_has : (q : Emission → Bool) (Q : Emission → Type 0) (ys : List Emission) (x : Emission) (rest : List Emission) → filter q ys ≡ x ∷ rest → AllByRecursion Q ys → Q x
first_has q Q [] x rest e all = absurd (cc e)
first_has q Q (y ∷ ys) x rest e all = go (q y) refl (λ f. first_has q Q ys x rest f all.1)
  where
    go : (b : Bool) → q y ≡ b → (filter q ys ≡ x ∷ rest → Q x) → Q x
    go true is behind =
        let same : y ≡ x = ap (head_of y) (sym (filter-yes q y ys is) ∙ e) in subst Q same all.0
    go false is behind = behind (sym (filter-no q y ys is) ∙ e)

-- ---- paths that tie

not_false : (b : Bool) → not b ≡ true → b ≡ false
not_false false e = refl
not_false true e = absurd (cc e)

apart : (a b : Emission) → ties is_before_by_path a b ≡ true → (is_before_by_path a b ≡ false) × (is_before_by_path b a ≡ false)
apart a b e =
    let parts = and_parts (not (is_before_by_path a b)) (not (is_before_by_path b a)) e in
    (not_false (is_before_by_path a b) parts.0, not_false (is_before_by_path b a) parts.1)

tied : (a b : Emission) → is_before_by_path a b ≡ false → is_before_by_path b a ≡ false → ties is_before_by_path a b ≡ true
tied a b e f = rw (e, f) refl

not_itself : (x : Emission) → is_before_by_path x x ≡ false
not_itself x = go (is_before_by_path x x) refl
  where
    go : (b : Bool) → is_before_by_path x x ≡ b → is_before_by_path x x ≡ false
    go true is = by_paths.one_way x x is
    go false is = is

itself : (x : Emission) → ties is_before_by_path x x ≡ true
itself x = tied x x (not_itself x) (not_itself x)

-- ---- two lists that ascend, with those that tie in one order

heads : (x y : Emission) (xs ys : List Emission) → IsAscendingByPath (x ∷ xs) → IsAscendingByPath (y ∷ ys) → IsStableBy is_before_by_path (x ∷ xs) (y ∷ ys) → ties is_before_by_path x y ≡ true
heads x y xs ys up up' same =
    let here : is_before_by_path x y ≡ false =
    first_has (ties is_before_by_path x) (λ (z : Emission). is_before_by_path z y ≡ false) (y ∷ ys) x (filter (ties is_before_by_path x) xs) (same x ∙ filter-yes (ties is_before_by_path x) x xs (itself x)) (not_itself y, up'.0) in
    let there : is_before_by_path y x ≡ false =
    first_has (ties is_before_by_path y) (λ (z : Emission). is_before_by_path z x ≡ false) (x ∷ xs) y (filter (ties is_before_by_path y) ys) (sym (same y) ∙ filter-yes (ties is_before_by_path y) y ys (itself y)) (not_itself x, up.0) in
    tied x y here there

unique : (xs ys : List Emission) → IsAscendingByPath xs → IsAscendingByPath ys → IsStableBy is_before_by_path xs ys → ys ≡ xs
unique [] [] up up' same = refl
unique [] (y ∷ ys) up up' same =
    let none : y ∷ filter (ties is_before_by_path y) ys ≡ [] = sym (filter-yes (ties is_before_by_path y) y ys (itself y)) ∙ same y in absurd (cc none)
unique (x ∷ xs) [] up up' same =
    let none : [] ≡ x ∷ filter (ties is_before_by_path x) xs = same x ∙ filter-yes (ties is_before_by_path x) x xs (itself x) in absurd (cc none)
unique (x ∷ xs) (y ∷ ys) up up' same =
    let tie = heads x y xs ys up up' same in
    let kept : y ∷ filter (ties is_before_by_path x) ys ≡ x ∷ filter (ties is_before_by_path x) xs =
    sym (filter-yes (ties is_before_by_path x) y ys tie) ∙ same x ∙ filter-yes (ties is_before_by_path x) x xs (itself x) in
    let e : y ≡ x = ap (head_of y) kept in
    ap (λ (z : Emission). z ∷ ys) e ∙ ap (λ (l : List Emission). x ∷ l) (unique xs ys up.1 up'.1 (λ p. rest p e (ties is_before_by_path p x) refl))
  where
    rest : (p : Emission) → y ≡ x → (b : Bool) → ties is_before_by_path p x ≡ b → filter (ties is_before_by_path p) ys ≡ filter (ties is_before_by_path p) xs
    rest p e true is =
        let here : ties is_before_by_path p y ≡ true = ap (ties is_before_by_path p) e ∙ is in
        ap tail_of (sym (filter-yes (ties is_before_by_path p) y ys here) ∙ same p ∙ filter-yes (ties is_before_by_path p) x xs is)
    rest p e false is =
        let here : ties is_before_by_path p y ≡ false = ap (ties is_before_by_path p) e ∙ is in
        sym (filter-no (ties is_before_by_path p) y ys here) ∙ same p ∙ filter-no (ties is_before_by_path p) x xs is

-- ---- by_path keeps the order of those that tie

stable-insert : (p e : Emission) (xs : List Emission) → filter (ties is_before_by_path p) (insert_emission_by_path e xs) ≡ filter (ties is_before_by_path p) (e ∷ xs)
stable-insert p e [] = refl
stable-insert p e (x ∷ xs) = go (is_before_by_path x e) refl (stable-insert p e xs)
  where
    other : is_before_by_path x e ≡ true → ties is_before_by_path p x ≡ true → (b : Bool) → ties is_before_by_path p e ≡ b → ties is_before_by_path p e ≡ false
    other before with_x true with_e =
        let not_before : is_before_by_path x e ≡ false = by_paths.chain x p e (apart p x with_x).1 (apart p e with_e).0 in absurd (true≢false (sym before ∙ not_before))
    other before with_x false with_e = with_e

    past : is_before_by_path x e ≡ true → filter (ties is_before_by_path p) (insert_emission_by_path e xs) ≡ filter (ties is_before_by_path p) (e ∷ xs) → (b : Bool) → ties is_before_by_path p x ≡ b
        → filter (ties is_before_by_path p) (x ∷ insert_emission_by_path e xs) ≡ filter (ties is_before_by_path p) (e ∷ x ∷ xs)
    past before ih true is =
        let away = other before is (ties is_before_by_path p e) refl in
        filter-behind (ties is_before_by_path p) x (insert_emission_by_path e xs) xs (ih ∙ filter-no (ties is_before_by_path p) e xs away) ∙ sym (filter-no (ties is_before_by_path p) e (x ∷ xs) away)
    past before ih false is =
        filter-no (ties is_before_by_path p) x (insert_emission_by_path e xs) is ∙ ih ∙ filter-behind (ties is_before_by_path p) e xs (x ∷ xs) (sym (filter-no (ties is_before_by_path p) x xs is))

    go : (b : Bool) → is_before_by_path x e ≡ b → filter (ties is_before_by_path p) (insert_emission_by_path e xs) ≡ filter (ties is_before_by_path p) (e ∷ xs)
        → filter (ties is_before_by_path p) (cond b (x ∷ insert_emission_by_path e xs) (e ∷ x ∷ xs)) ≡ filter (ties is_before_by_path p) (e ∷ x ∷ xs)
    go true is ih = past is ih (ties is_before_by_path p x) refl
    go false is ih = refl

stable-by_path : (p : Emission) (xs : List Emission) → filter (ties is_before_by_path p) (sort_emissions_by_path xs) ≡ filter (ties is_before_by_path p) xs
unfolding sort_emissions_by_path
stable-by_path p [] = refl
stable-by_path p (x ∷ xs) = stable-insert p x (sort_emissions_by_path xs) ∙ filter-behind (ties is_before_by_path p) x (sort_emissions_by_path xs) xs (stable-by_path p xs)

-- a stable sort by path gives by_path
pub by_path-from_stable : (xs ys : List Emission) → IsSortedBy is_before_by_path ys → IsStableBy is_before_by_path xs ys → ys ≡ sort_emissions_by_path xs
by_path-from_stable xs ys up stable =
    unique (sort_emissions_by_path xs) ys (IsAscending-by_path xs) (IsAscending-from_sort ys up) (λ p. stable p ∙ sym (stable-by_path p xs))
