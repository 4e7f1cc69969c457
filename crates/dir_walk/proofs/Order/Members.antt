-- The elements of a list.
use Rattle.std.proofs.Common.{◌≡◌, ◌≤◌, ◌⊎◌, inl, inr, List, [], ◌∷◌, ◌++◌, Bool, true, false, cond, count_by, filter, refl, sym, subst, arith}
use Rattle.std.specs.List.{AllByRecursion}
use Rattle.dir_walk.specs.Covered.{IsListElement}
use Rattle.dir_walk.proofs.Order.Counts.{count_by-no}

pub in-left : {X : Type 0} (x : X) (xs ys : List X) → IsListElement x xs → IsListElement x (xs ++ ys)
in-left x [] ys h = absurd h
in-left x (z ∷ xs) ys (inl e) = inl e
in-left x (z ∷ xs) ys (inr h) = inr (in-left x xs ys h)

pub in-right : {X : Type 0} (x : X) (xs ys : List X) → IsListElement x ys → IsListElement x (xs ++ ys)
in-right x [] ys h = h
in-right x (z ∷ xs) ys h = inr (in-right x xs ys h)

pub in-either : {X : Type 0} (x : X) (xs ys : List X) → IsListElement x (xs ++ ys) → IsListElement x xs ⊎ IsListElement x ys
in-either x [] ys h = inr h
in-either x (z ∷ xs) ys (inl e) = inl (inl e)
in-either x (z ∷ xs) ys (inr h) = go (in-either x xs ys h)
  where
    go : IsListElement x xs ⊎ IsListElement x ys → IsListElement x (z ∷ xs) ⊎ IsListElement x ys
    go (inl k) = inl (inr k)
    go (inr k) = inr k

pub in-filter : {X : Type 0} (x : X) (q : X → Bool) (xs : List X) → IsListElement x (filter q xs) → IsListElement x xs
in-filter x q [] h = h
in-filter x q (z ∷ xs) h = go (q z) h (in-filter x q xs)
  where
    go : (b : Bool) → IsListElement x (cond b (z ∷ filter q xs) (filter q xs)) → (IsListElement x (filter q xs) → IsListElement x xs) → IsListElement x (z ∷ xs)
    go true (inl e) later = inl e
    go true (inr k) later = inr (later k)
    go false k later = inr (later k)

-- what holds of all holds of each
pub in-all : {X : Type 0} (P : X → Type 0) (x : X) (xs : List X) → AllByRecursion P xs → IsListElement x xs → P x
in-all P x [] all h = absurd h
in-all P x (z ∷ xs) all (inl e) = subst P (sym e) all.0
in-all P x (z ∷ xs) all (inr h) = in-all P x xs all.1 h

pub all-in : {X : Type 0} (P : X → Type 0) (xs : List X) → ((x : X) → IsListElement x xs → P x) → AllByRecursion P xs
all-in P [] f = tt
all-in P (x ∷ xs) f = (f x (inl refl), all-in P xs (λ y h. f y (inr h)))

-- where a test counts something, some element passes it
pub some-in : {X : Type 0} (p : X → Bool) (xs : List X) → 1 ≤ count_by p xs → (x : X) × IsListElement x xs × (p x ≡ true)
some-in p [] some = absurd (omega (arith, some))
some-in p (z ∷ xs) some = go (p z) refl (some-in p xs)
  where
    go : (b : Bool) → p z ≡ b → (1 ≤ count_by p xs → (x : _) × IsListElement x xs × (p x ≡ true)) → (x : _) × IsListElement x (z ∷ xs) × (p x ≡ true)
    go true is later = (z, inl refl, is)
    go false is later = let found = later (omega (arith, some, count_by-no p z xs is)) in (found.0, inr found.1, found.2)
