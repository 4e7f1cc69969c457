-- What a delegate is given, one call after another.
use Rattle.std.proofs.Common.{◌≡◌, ℕ, zero, suc, cond, sum_by, ◌+◌, ◌-◌, ◌^◌, ◌<◌, ◌≤◌, min, List, [], ◌∷◌, ◌++◌, Bool, Option, Some, None, count_by, take, get_or, length, length-append, is_some, ap, ◌∙◌, arith}
use Rattle.std.specs.Str.{bytes_eq}
use Rattle.std.proofs.lemmas.List.Sums.{sum_by-cons}
use Rattle.dir_classify.specs.declared.entry.Entry.{Entry}
use Rattle.dir_walk.specs.declared.outcome.Outcome.{Outcome}
use Rattle.dir_walk.specs.Emissions.{Emission, path_of_emission}
use Rattle.dir_walk.specs.Given.{emissions_or_empty, append_emission_if_told}
use Rattle.dir_walk.specs.Puts.{AddsEmissionsWithinRoom, count_emissions_at_path, count_held_at_path, one_at_path}
use Rattle.dir_walk.proofs.Order.Counts.{count_by-append, count_by-cons}
use Rattle.dir_walk.proofs.Gives.Emitting.{front, one_more}

-- nothing is given, and what is met is counted
pub Puts-none : (room : List ℕ → ℕ) (a b : Option (List Emission)) (i j : Outcome) (up : List Entry) → b ≡ a → j.returned_entries ≡ i.returned_entries
    → (i.seen_entries < 2 ^ 32 → (i.seen_entries ≤ j.seen_entries) × (j.seen_entries < 2 ^ 32)) → ((path : List ℕ) → count_held_at_path path up ≤ room path) → AddsEmissionsWithinRoom room a b i j up
Puts-none room a b i j up is returned seen fits =
    let same : length (emissions_or_empty b) ≡ length (emissions_or_empty a) = ap {B = ℕ} (λ x. length (emissions_or_empty x)) is in
    record {
      same = ap is_some is;
      longer = omega (arith, same);
      returned = λ told small. omega (arith, same, returned, small);
      later = λ small. (omega (arith, returned), omega (arith, returned, small));
      seen = λ short small. let s = seen small in (omega (arith, returned, s.0, s.1), s.1);
      once = λ told path. omega (arith, ap {B = ℕ} (λ x. count_emissions_at_path path (emissions_or_empty x)) is, fits path);
    }

-- one entry is given
pub Puts-one : (a b : Option (List Emission)) (x : Emission) (i j : Outcome) → b ≡ append_emission_if_told a x → j.returned_entries ≡ min (i.returned_entries + 1) (2 ^ 64 - 1)
    → j.seen_entries ≡ min (i.seen_entries + 1) (2 ^ 32 - 1) → AddsEmissionsWithinRoom (one_at_path (path_of_emission x)) a b i j []
Puts-one None b x i j is returned seen =
    let none : length (emissions_or_empty b) ≡ 0 = ap {B = ℕ} (λ y. length (emissions_or_empty y)) is in
    record {
      same = ap is_some is;
      longer = omega (arith, none);
      returned = λ told small. absurd (cc told);
      later = λ small. (omega (arith, returned, small), omega (arith, returned));
      seen = λ short small. (omega (arith, returned, short, seen, small), omega (arith, seen));
      once = λ told path. absurd (cc told);
    }
Puts-one (Some xs) b x i j is returned seen =
    let one : length (emissions_or_empty b) ≡ length xs + 1 = ap {B = ℕ} (λ y. length (emissions_or_empty y)) is ∙ length-append xs (x ∷ []) in
    record {
      same = ap is_some is;
      longer = omega (arith, one);
      returned = λ told small. omega (arith, one, returned, small);
      later = λ small. (omega (arith, returned, small), omega (arith, returned));
      seen = λ short small. (omega (arith, returned, short, seen, small), omega (arith, seen));
      once = λ told path.
          let q : Emission → Bool = λ y. bytes_eq path (path_of_emission y) in
          omega (arith, ap {B = ℕ} (λ y. count_by q (emissions_or_empty y)) is, count_by-append q xs (x ∷ []), count_by-cons q x []);
    }

pub Puts-as : (r s : List ℕ → ℕ) (a b : Option (List Emission)) (i j : Outcome) (up : List Entry) → AddsEmissionsWithinRoom r a b i j up → ((path : List ℕ) → r path ≤ s path) → AddsEmissionsWithinRoom s a b i j up
Puts-as r s a b i j up one fits =
    record { same = one.same; longer = one.longer; returned = one.returned; later = one.later; seen = one.seen; once = λ told path. omega (arith, one.once told path, fits path) }

-- something is handed up, for which there is room
pub Puts-up : (r s : List ℕ → ℕ) (a b : Option (List Emission)) (i j : Outcome) (up : List Entry) → AddsEmissionsWithinRoom r a b i j [] → ((path : List ℕ) → r path + count_held_at_path path up ≤ s path) → AddsEmissionsWithinRoom s a b i j up
Puts-up r s a b i j up one fits =
    record { same = one.same; longer = one.longer; returned = one.returned; later = one.later; seen = one.seen; once = λ told path. omega (arith, one.once told path, fits path) }

-- what is handed up is let go
pub Puts-drop : (r : List ℕ → ℕ) (a b : Option (List Emission)) (i j : Outcome) (up : List Entry) → AddsEmissionsWithinRoom r a b i j up → AddsEmissionsWithinRoom r a b i j []
Puts-drop r a b i j up one =
    record { same = one.same; longer = one.longer; returned = one.returned; later = one.later; seen = one.seen; once = λ told path. omega (arith, one.once told path) }

-- one call after another, of which both hand up
pub Puts-then : (r s t : List ℕ → ℕ) (a b c : Option (List Emission)) (i j k : Outcome) (held up : List Entry) → AddsEmissionsWithinRoom r a b i j held → AddsEmissionsWithinRoom s b c j k up
    → ((path : List ℕ) → r path + s path ≤ t path) → AddsEmissionsWithinRoom t a c i k (held ++ up)
Puts-then r s t a b c i j k held up one two fits =
    record {
      same = two.same ∙ one.same;
      longer = omega (arith, one.longer, two.longer);
      returned = λ told small. let first = one.returned told small in omega (arith, first, two.returned (one.same ∙ told) (omega (arith, first)), one.longer, two.longer);
      later = λ small. let first = one.later small in let last = two.later first.1 in (omega (arith, first.0, last.0), last.1);
      seen = λ short small. let first = one.later short in let mid = one.seen short small in let last = two.seen first.1 mid.1 in (omega (arith, first.0, (two.later first.1).0, mid.0, last.0), last.1);
      once = λ told path. omega (arith, one.once told path, two.once (one.same ∙ told) path, fits path, count_by-append (λ (e : Entry). bytes_eq path e.rela_path) held up);
    }

-- one call after another, where what the first one hands up stands in the room of the second one
pub Puts-over : (r s t : List ℕ → ℕ) (a b c : Option (List Emission)) (i j k : Outcome) (held up : List Entry) → AddsEmissionsWithinRoom r a b i j held → AddsEmissionsWithinRoom (λ path. s path + count_held_at_path path held) b c j k up
    → ((path : List ℕ) → r path + s path ≤ t path) → AddsEmissionsWithinRoom t a c i k up
Puts-over r s t a b c i j k held up one two fits =
    record {
      same = two.same ∙ one.same;
      longer = omega (arith, one.longer, two.longer);
      returned = λ told small. let first = one.returned told small in omega (arith, first, two.returned (one.same ∙ told) (omega (arith, first)), one.longer, two.longer);
      later = λ small. let first = one.later small in let last = two.later first.1 in (omega (arith, first.0, last.0), last.1);
      seen = λ short small. let first = one.later short in let mid = one.seen short small in let last = two.seen first.1 mid.1 in (omega (arith, first.0, (two.later first.1).0, mid.0, last.0), last.1);
      once = λ told path. omega (arith, one.once told path, two.once (one.same ∙ told) path, fits path);
    }

-- ---- the entries that a directory holds, one after another

pub take-sum : {X : Type 0} (f : X → ℕ) (xs : List X) (n : ℕ) → sum_by f (take n xs) ≤ sum_by f xs
take-sum f [] zero = omega arith
take-sum f [] (suc n) = omega arith
take-sum f (x ∷ xs) zero = omega arith
take-sum f (x ∷ xs) (suc n) = omega (arith, sum_by-cons f x xs, sum_by-cons f x (take n xs), take-sum f xs n)

-- all were put out
pub Puts-last : (held : List Entry) (n : ℕ) (a b : Option (List Emission)) (i j : Outcome) → AddsEmissionsWithinRoom (λ path. count_held_at_path path (take n held)) a b i j [] → AddsEmissionsWithinRoom (λ path. count_held_at_path path held) a b i j []
Puts-last held n a b i j all = Puts-as (λ path. count_held_at_path path (take n held)) (λ path. count_held_at_path path held) a b i j [] all (λ path. take-sum (λ (e : Entry). cond (bytes_eq path e.rela_path) 1 0) held n)

-- one more is put out, or may be
module _ (held : List Entry) (n : ℕ) (e : Entry) (inside : n < length held) (is : e ≡ get_or held n e) (f : Entry) (same : f ≡ e) (a b c : Option (List Emission)) (i j k : Outcome)
    (so_far : AddsEmissionsWithinRoom (λ path. count_held_at_path path (take n held)) a b i j []) (one : AddsEmissionsWithinRoom (one_at_path f.rela_path) b c j k []) where
  own : (path : List ℕ) → one_at_path f.rela_path path ≡ cond {A = ℕ} (bytes_eq path e.rela_path) 1 0
  own path = ap {B = ℕ} (λ (x : Entry). one_at_path x.rela_path path) same

  pub Puts-more : AddsEmissionsWithinRoom (λ path. count_held_at_path path (take (n + 1) held)) a c i k []
  Puts-more =
      Puts-then (λ path. count_held_at_path path (take n held)) (one_at_path f.rela_path) (λ path. count_held_at_path path (take (n + 1) held)) a b c i j k [] [] so_far one
      (λ path. omega (arith, own path, one_more (λ (x : Entry). bytes_eq path x.rela_path) held n e inside is))

  pub Puts-tried : AddsEmissionsWithinRoom (λ path. count_held_at_path path held) a c i k []
  Puts-tried =
      Puts-then (λ path. count_held_at_path path (take n held)) (one_at_path f.rela_path) (λ path. count_held_at_path path held) a b c i j k [] [] so_far one
      (λ path. omega (arith, own path, front (λ (x : Entry). bytes_eq path x.rela_path) held n e inside is))
