-- Entries with distinct paths have one order by path.
use Rattle.std.proofs.Common.{◌≡◌, ℕ, suc, ◌+◌, ◌<◌, ◌≤◌, List, [], ◌∷◌, Bool, true, false, cond, count_by, length, get_or, IsSortedBy, refl, sym, ap, subst, ◌∙◌, arith}
use Rattle.std.specs.Str.{bytes_eq}
use Rattle.std.specs.List.{AllByRecursion}
use Rattle.std.specs.Cmp.{IsStrictWeakOrder}
use Rattle.std.specs.Cmp.Lexicographic.{slice_cmp}
use Rattle.std.specs.declared.cmp.Ordering.{Ordering}
use Rattle.std.specs.declared.cmp.Ordering.TheVariants.{Less, Equal, Greater}
use Rattle.std.specs.Ordering.{nat_cmp, is_lt, is_eq, ordering_reverse}
use Rattle.std.proofs.lemmas.Cmp.{nat_list_eq_equiv, nat_list_cmp_total}
use Rattle.std.proofs.lemmas.Bool.{true≢false}
use Rattle.std.proofs.lemmas.Map.Text.{is_eq-slice_cmp}
use Rattle.std.proofs.lemmas.List.Sorted.{sorted_far, ranks_by}
use Rattle.dir_walk.specs.Emissions.{Emission, path_of_emission, is_before_by_path, insert_emission_by_path, sort_emissions_by_path}
use Rattle.dir_walk.specs.Distinct.{HasDistinctPaths, IsAscendingByPath}
use Rattle.dir_walk.proofs.Order.Counts.{count_by-cons, count_by-yes, count_by-no}
use Rattle.dir_walk.proofs.Order.Same.{same_emission, emission_is, emission_same}

pub by_paths : IsStrictWeakOrder is_before_by_path
by_paths = ranks_by nat_list_cmp_total path_of_emission

-- ---- from the sort of std

all_after : (P : Emission → Type 0) (xs : List Emission) (d : Emission) → ((k : ℕ) → k < length xs → P (get_or xs k d)) → AllByRecursion P xs
all_after P [] d h = tt
all_after P (y ∷ ys) d h = (h 0 (omega arith), all_after P ys d (λ k p. h (suc k) (omega arith)))

IsAscending-from_far : (xs : List Emission) → ((i j : ℕ) (d : Emission) → i ≤ j → j < length xs → is_before_by_path (get_or xs j d) (get_or xs i d) ≡ false) → IsAscendingByPath xs
IsAscending-from_far [] h = tt
IsAscending-from_far (x ∷ xs) h = (all_after (λ y. is_before_by_path y x ≡ false) xs x (λ k p. h 0 (suc k) x (omega arith) (omega arith)), IsAscending-from_far xs (λ i j d p q. h (suc i) (suc j) d (omega arith) (omega arith)))

pub IsAscending-from_sort : (xs : List Emission) → IsSortedBy is_before_by_path xs → IsAscendingByPath xs
IsAscending-from_sort xs up = IsAscending-from_far xs (sorted_far is_before_by_path by_paths xs up)

-- ---- by_path

all_insert : (P : Emission → Type 0) (e : Emission) (xs : List Emission) → P e → AllByRecursion P xs → AllByRecursion P (insert_emission_by_path e xs)
all_insert P e [] pe h = (pe, tt)
all_insert P e (x ∷ xs) pe h = go (is_before_by_path x e) (all_insert P e xs pe h.1)
  where
    go : (b : Bool) → AllByRecursion P (insert_emission_by_path e xs) → AllByRecursion P (cond b (x ∷ insert_emission_by_path e xs) (e ∷ x ∷ xs))
    go true ih = (h.0, ih)
    go false ih = (pe, h)

pub all-by_path : (P : Emission → Type 0) (xs : List Emission) → AllByRecursion P xs → AllByRecursion P (sort_emissions_by_path xs)
unfolding sort_emissions_by_path
all-by_path P [] h = tt
all-by_path P (x ∷ xs) h = all_insert P x (sort_emissions_by_path xs) h.0 (all-by_path P xs h.1)

all_chain : (x e : Emission) (xs : List Emission) → is_before_by_path x e ≡ false → AllByRecursion (λ y. is_before_by_path y x ≡ false) xs → AllByRecursion (λ y. is_before_by_path y e ≡ false) xs
all_chain x e [] h all = tt
all_chain x e (y ∷ ys) h all = (by_paths.chain y x e all.0 h, all_chain x e ys h all.1)

IsAscending-insert : (e : Emission) (xs : List Emission) → IsAscendingByPath xs → IsAscendingByPath (insert_emission_by_path e xs)
IsAscending-insert e [] up = (tt, tt)
IsAscending-insert e (x ∷ xs) up = go (is_before_by_path x e) refl (IsAscending-insert e xs up.1)
  where
    go : (b : Bool) → is_before_by_path x e ≡ b → IsAscendingByPath (insert_emission_by_path e xs) → IsAscendingByPath (cond b (x ∷ insert_emission_by_path e xs) (e ∷ x ∷ xs))
    go true is ih = (all_insert (λ y. is_before_by_path y x ≡ false) e xs (by_paths.one_way x e is) up.0, ih)
    go false is ih = ((is, all_chain x e xs is up.0), up)

pub IsAscending-by_path : (xs : List Emission) → IsAscendingByPath (sort_emissions_by_path xs)
unfolding sort_emissions_by_path
IsAscending-by_path [] = tt
IsAscending-by_path (x ∷ xs) = IsAscending-insert x (sort_emissions_by_path xs) (IsAscending-by_path xs)

count_by-insert : (p : Emission → Bool) (e : Emission) (xs : List Emission) → count_by p (insert_emission_by_path e xs) ≡ cond (p e) 1 0 + count_by p xs
count_by-insert p e [] = count_by-cons p e []
count_by-insert p e (x ∷ xs) = go (is_before_by_path x e) (count_by-insert p e xs)
  where
    go : (b : Bool) → count_by p (insert_emission_by_path e xs) ≡ cond (p e) 1 0 + count_by p xs → count_by p (cond b (x ∷ insert_emission_by_path e xs) (e ∷ x ∷ xs)) ≡ cond (p e) 1 0 + count_by p (x ∷ xs)
    go true ih = omega (arith, ih, count_by-cons p x (insert_emission_by_path e xs), count_by-cons p x xs)
    go false ih = count_by-cons p e (x ∷ xs)

pub count_by-by_path : (p : Emission → Bool) (xs : List Emission) → count_by p (sort_emissions_by_path xs) ≡ count_by p xs
unfolding sort_emissions_by_path
count_by-by_path p [] = refl
count_by-by_path p (x ∷ xs) = omega (arith, count_by-insert p x (sort_emissions_by_path xs), count_by-by_path p xs, count_by-cons p x xs)

-- ---- one order

some_passes : (p : Emission → Bool) (Q : Emission → Type 0) (xs : List Emission) → 0 < count_by p xs → AllByRecursion Q xs → (z : Emission) × (p z ≡ true) × Q z
some_passes p Q [] some all = absurd (omega arith)
some_passes p Q (x ∷ xs) some all = go (p x) refl (some_passes p Q xs)
  where
    go : (b : Bool) → p x ≡ b → (0 < count_by p xs → AllByRecursion Q xs → (z : Emission) × (p z ≡ true) × Q z) → (z : Emission) × (p z ≡ true) × Q z
    go true is ih = (x, is, all.0)
    go false is ih = ih (omega (arith, count_by-no p x xs is)) all.1

count_by-le : (p q : Emission → Bool) (xs : List Emission) → ((e : Emission) → p e ≡ true → q e ≡ true) → count_by p xs ≤ count_by q xs
count_by-le p q [] h = omega arith
count_by-le p q (x ∷ xs) h =
    let here : cond (p x) 1 0 ≤ cond (q x) 1 0 = go (p x) (q x) (h x) in
    omega (arith, here, count_by-cons p x xs, count_by-cons q x xs, count_by-le p q xs h)
  where
    go : (a b : Bool) → (a ≡ true → b ≡ true) → cond a 1 0 ≤ cond b 1 0
    go true b f = rw (f refl) (omega arith)
    go false b f = omega arith

pub tie : (p q : List ℕ) → is_lt (slice_cmp nat_cmp p q) ≡ false → is_lt (slice_cmp nat_cmp q p) ≡ false → bytes_eq q p ≡ true
tie p q up down = go (slice_cmp nat_cmp q p) refl (ap is_lt (sym (nat_list_cmp_total.antisymm p q)) ∙ up) down
  where
    go : (o : Ordering) → slice_cmp nat_cmp q p ≡ o → is_lt (ordering_reverse o) ≡ false → is_lt o ≡ false → bytes_eq q p ≡ true
    go Less is a b = absurd cc
    go Equal is a b = sym (is_eq-slice_cmp q p) ∙ ap is_eq is
    go Greater is a b = absurd cc

abbrev pub SameCounts : List Emission → List Emission → Type 0
SameCounts xs ys = (p : Emission → Bool) → count_by p xs ≡ count_by p ys

-- where the heads differ, one head stands among the others of the other list
not_before : (x y : Emission) (xs ys : List Emission) → same_emission x y ≡ false → SameCounts (x ∷ xs) (y ∷ ys) → AllByRecursion (λ z. is_before_by_path z y ≡ false) ys → (0 < count_by (same_emission x) ys) × (is_before_by_path x y ≡ false)
not_before x y xs ys differ same all =
    let some : 0 < count_by (same_emission x) ys = omega (arith, same (same_emission x), count_by-no (same_emission x) y ys differ, count_by-yes (same_emission x) x xs (emission_same x)) in
    let found = some_passes (same_emission x) (λ z. is_before_by_path z y ≡ false) ys some all in
    (some, subst (λ (z : Emission). is_before_by_path z y ≡ false) (sym (emission_is x found.0 found.1)) found.2)

heads : (x y : Emission) (xs ys : List Emission) → IsAscendingByPath (x ∷ xs) → IsAscendingByPath (y ∷ ys) → SameCounts (x ∷ xs) (y ∷ ys) → HasDistinctPaths (x ∷ xs) → x ≡ y
heads x y xs ys up up' same distinct = go (same_emission x y) refl
  where
    back : same_emission x y ≡ false → (b : Bool) → same_emission y x ≡ b → same_emission y x ≡ false
    back differ true is = absurd (true≢false (sym (emission_same y) ∙ ap (λ (z : Emission). same_emission z y) (emission_is y x is) ∙ differ))
    back differ false is = is

    go : (b : Bool) → same_emission x y ≡ b → x ≡ y
    go true is = emission_is x y is
    go false is =
        let a = not_before x y xs ys is same up'.0 in
        let b = not_before y x ys xs (back is (same_emission y x) refl) (λ p. sym (same p)) up.0 in
        let path : bytes_eq (path_of_emission x) (path_of_emission y) ≡ true = tie (path_of_emission y) (path_of_emission x) b.1 a.1 in
        let more : count_by (same_emission y) xs ≤ count_by (λ e. bytes_eq (path_of_emission x) (path_of_emission e)) xs =
        count_by-le (same_emission y) (λ e. bytes_eq (path_of_emission x) (path_of_emission e)) xs (λ e h. subst (λ (z : Emission). bytes_eq (path_of_emission x) (path_of_emission z) ≡ true) (emission_is y e h) path) in
        absurd (omega (arith, distinct.once (path_of_emission x), b.0, more, count_by-yes (λ e. bytes_eq (path_of_emission x) (path_of_emission e)) x xs (nat_list_eq_equiv.refl (path_of_emission x))))

unique : (xs ys : List Emission) → IsAscendingByPath xs → IsAscendingByPath ys → SameCounts xs ys → HasDistinctPaths xs → xs ≡ ys
unique [] [] up up' same distinct = refl
unique [] (y ∷ ys) up up' same distinct = absurd (omega (arith, same (λ _. true), count_by-cons (λ _. true) y ys))
unique (x ∷ xs) [] up up' same distinct = absurd (omega (arith, same (λ _. true), count_by-cons (λ _. true) x xs))
unique (x ∷ xs) (y ∷ ys) up up' same distinct =
    let e : x ≡ y = heads x y xs ys up up' same distinct in
    let rest : xs ≡ ys = unique xs ys up.1 up'.1
    (λ p. let n : Emission → ℕ = λ z. cond (p z) 1 0 in let one : n x ≡ n y = ap n e in omega (arith, one, same p, count_by-cons p x xs, count_by-cons p y ys))
    (record { once = λ q. omega (arith, distinct.once q, count_by-cons (λ e. bytes_eq q (path_of_emission e)) x xs) }) in
    ap (λ (z : Emission). z ∷ xs) e ∙ ap (λ (zs : List Emission). y ∷ zs) rest

-- the order in which entries were met leaves no trace
pub by_path-same : (xs ys : List Emission) → SameCounts xs ys → HasDistinctPaths ys → sort_emissions_by_path xs ≡ sort_emissions_by_path ys
by_path-same xs ys same distinct =
    unique (sort_emissions_by_path xs) (sort_emissions_by_path ys) (IsAscending-by_path xs) (IsAscending-by_path ys) (λ p. omega (arith, same p, count_by-by_path p xs, count_by-by_path p ys))
    (record { once = λ q. omega (arith, distinct.once q, count_by-by_path (λ e. bytes_eq q (path_of_emission e)) xs, same (λ e. bytes_eq q (path_of_emission e))) })
