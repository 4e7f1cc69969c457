-- Putting entries out, one after another.
use Rattle.std.proofs.Common.{◌≡◌, ℕ, zero, suc, ◌+◌, ◌-◌, ◌^◌, ◌<◌, ◌≤◌, min, List, [], ◌∷◌, ◌++◌, Bool, true, cond, ◌&&◌, Option, Some, None, count_by, sum_by, take, get_or, length, map, refl, sym, ap, ◌∙◌, arith, is_some}
use Rattle.std.proofs.lemmas.List.Sums.{sum_by_more, sum_by-cons}
use Rattle.dir_classify.specs.declared.entry.Entry.{Entry}
use Rattle.dir_classify.specs.declared.entry.Status.{Status}
use Rattle.dir_classify.specs.Chosen.{WalkOptions}
use Rattle.dir_walk.specs.Emissions.{Emission, emission_with_fold_status, uncollapsed_emission, collapsed_emission, is_entry_shown_by_options}
use Rattle.dir_walk.specs.Fold.{emits_besides_folded_directory}
use Rattle.dir_walk.proofs.Order.Counts.{count_by-cons, count_by-map, count_by-map_filter}
use Rattle.dir_walk.specs.declared.outcome.Outcome.{Outcome}
use Rattle.dir_walk.specs.Given.{emissions_or_empty, ExtendsEmissions}
use Rattle.dir_walk.specs.Emits.{AddsAtMostByTest, AddsEmissionsAndCounts, AddsAtMostEmissionsAndSeen, count_shown_passing, count_held_emitted_plainly, count_held_emitted_collapsed}

pub Emits-then : (a b c : Option (List Emission)) (i j k : Outcome) (f g h : (Emission → Bool) → ℕ) (m n l r s t : ℕ) → AddsEmissionsAndCounts a b i j f m r → AddsEmissionsAndCounts b c j k g n s → ((p : Emission → Bool) → f p + g p ≡ h p) → m + n ≡ l → r + s ≡ t → AddsEmissionsAndCounts a c i k h l t
Emits-then a b c i j k f g h m n l r s t one two adds seen read =
    record {
      same = two.same ∙ one.same;
      entries = λ told p. omega (arith, one.entries told p, two.entries (one.same ∙ told) p, adds p);
      returned = λ small. let first = one.returned small in omega (arith, first, two.returned (omega (arith, first)), adds (λ _. true));
      seen = λ small. let first = one.seen small in omega (arith, first, two.seen (omega (arith, first)), seen);
      read = λ small. let first = one.read small in omega (arith, first, two.read (omega (arith, first)), read);
    }

pub Emits-as : (a b : Option (List Emission)) (i j : Outcome) (f g : (Emission → Bool) → ℕ) (m n r s : ℕ) → AddsEmissionsAndCounts a b i j f m r → ((p : Emission → Bool) → f p ≡ g p) → m ≡ n → r ≡ s → AddsEmissionsAndCounts a b i j g n s
Emits-as a b i j f g m n r s e same seen read =
    record {
      same = e.same;
      entries = λ told p. omega (arith, e.entries told p, same p);
      returned = λ small. omega (arith, e.returned small, same (λ _. true));
      seen = λ small. omega (arith, e.seen small, seen);
      read = λ small. omega (arith, e.read small, read);
    }

-- all that was given, and a part of what comes then
pub Within-then : (a b c : Option (List Emission)) (i j k : Outcome) (f g h : (Emission → Bool) → ℕ) (m n l r : ℕ) → AddsEmissionsAndCounts a b i j f m r → AddsAtMostEmissionsAndSeen b c j k g n → ((p : Emission → Bool) → f p + g p ≤ h p) → m + n ≤ l → AddsAtMostEmissionsAndSeen a c i k h l
Within-then a b c i j k f g h m n l r one two fits few =
    record {
      adds = record {
        same = two.adds.same ∙ one.same;
        counts = λ told p. omega (arith, one.entries told p, two.adds.counts (one.same ∙ told) p, fits p);
      };
      seen = λ small. let first = one.seen small in omega (arith, first, two.seen (omega (arith, first)), few);
    }

pub Within-as : (a b : Option (List Emission)) (i j : Outcome) (f g : (Emission → Bool) → ℕ) (m n : ℕ) → AddsAtMostEmissionsAndSeen a b i j f m → ((p : Emission → Bool) → f p ≤ g p) → m ≤ n → AddsAtMostEmissionsAndSeen a b i j g n
Within-as a b i j f g m n one fits few =
    record {
      adds = record { same = one.adds.same; counts = λ told p. omega (arith, one.adds.counts told p, fits p) };
      seen = λ small. omega (arith, one.seen small, few);
    }

pub Within-all : (a b : Option (List Emission)) (i j : Outcome) (f h : (Emission → Bool) → ℕ) (m l r : ℕ) → AddsEmissionsAndCounts a b i j f m r → ((p : Emission → Bool) → f p ≤ h p) → m ≤ l → AddsAtMostEmissionsAndSeen a b i j h l
Within-all a b i j f h m l r one fits few =
    record {
      adds = record { same = one.same; counts = λ told p. omega (arith, one.entries told p, fits p) };
      seen = λ small. omega (arith, one.seen small, few);
    }

pub AddsWithin-none : (a b : Option (List Emission)) (h : (Emission → Bool) → ℕ) → b ≡ a → AddsAtMostByTest a b h
AddsWithin-none a b h is = record { same = ap is_some is; counts = λ told p. omega (arith, ap {B = ℕ} (λ x. count_by p (emissions_or_empty x)) is) }

pub Within-none : (a b : Option (List Emission)) (i j : Outcome) (h : (Emission → Bool) → ℕ) (l : ℕ) → b ≡ a → j.seen_entries ≡ i.seen_entries → AddsAtMostEmissionsAndSeen a b i j h l
Within-none a b i j h l is same = record { adds = AddsWithin-none a b h is; seen = λ small. omega (arith, same, small) }

pub Extends-then : (a b c : Option (List Emission)) → ExtendsEmissions a b → ExtendsEmissions b c → ExtendsEmissions a c
Extends-then a b c one two =
    record {
      same = two.same ∙ one.same;
      front = λ xs is. let m = one.front xs is in let n = two.front (xs ++ m.0) m.1 in (m.0 ++ n.0, n.1 ∙ ap (λ (ys : List Emission). Some ys) (assoc xs m.0 n.0));
    }
  where
    assoc : (xs ys zs : List Emission) → (xs ++ ys) ++ zs ≡ xs ++ (ys ++ zs)
    assoc [] ys zs = refl
    assoc (x ∷ xs) ys zs = ap (λ (rest : List Emission). x ∷ rest) (assoc xs ys zs)

-- ---- one more of a list

pub front-sum : {X : Type 0} (f : X → ℕ) (xs : List X) (i : ℕ) (x : X) → i < length xs → x ≡ get_or xs i x → sum_by f (take i xs) + f x ≤ sum_by f xs
front-sum f [] i x inside is = absurd (omega (arith, inside))
front-sum f (y ∷ ys) zero x inside is = omega (arith, sum_by-cons f y ys, ap f is)
front-sum f (y ∷ ys) (suc i) x inside is = omega (arith, sum_by-cons f y (take i ys), sum_by-cons f y ys, front-sum f ys i x (omega (arith, inside)) is)

pub front : {X : Type 0} (q : X → Bool) (xs : List X) (i : ℕ) (x : X) → i < length xs → x ≡ get_or xs i x → count_by q (take i xs) + cond (q x) 1 0 ≤ count_by q xs
front q xs i x inside is = front-sum (λ z. cond (q z) 1 0) xs i x inside is

pub one_more : {X : Type 0} (q : X → Bool) (xs : List X) (i : ℕ) (x : X) → i < length xs → x ≡ get_or xs i x → count_by q (take (i + 1) xs) ≡ count_by q (take i xs) + cond (q x) 1 0
one_more q xs i x inside is = sum_by_more (λ z. cond (q z) 1 0) xs i x inside ∙ ap (λ z. count_by q (take i xs) + cond (q z) 1 0) (sym is)

module _ (o : WalkOptions) (held : List Entry) (i : ℕ) (x : Entry) (inside : i < length held) (is : x ≡ get_or held i x) where
  pub plain-fits : (p : Emission → Bool) (e : Entry) → e ≡ x → count_held_emitted_plainly o (take i held) p + count_shown_passing o p (emission_with_fold_status e None ∷ []) ≤ count_held_emitted_plainly o held p
  plain-fits p e same =
      let q : Entry → Bool = λ y. is_entry_shown_by_options o y && p (uncollapsed_emission y) in
      omega (
        arith,
        front q held i x inside is,
        count_by-map (λ y. is_entry_shown_by_options o y.0 && p y) uncollapsed_emission held,
        count_by-map (λ y. is_entry_shown_by_options o y.0 && p y) uncollapsed_emission (take i held),
        count_by-cons (λ y. is_entry_shown_by_options o y.0 && p y) (uncollapsed_emission e) [],
        ap {B = ℕ} (λ z. cond (q z) 1 0) same,
      )

  pub plain-more : (p : Emission → Bool) (e : Entry) → e ≡ x → count_held_emitted_plainly o (take i held) p + count_shown_passing o p (emission_with_fold_status e None ∷ []) ≡ count_held_emitted_plainly o (take (i + 1) held) p
  plain-more p e same =
      let q : Entry → Bool = λ y. is_entry_shown_by_options o y && p (uncollapsed_emission y) in
      omega (
        arith,
        one_more q held i x inside is,
        count_by-map (λ y. is_entry_shown_by_options o y.0 && p y) uncollapsed_emission (take (i + 1) held),
        count_by-map (λ y. is_entry_shown_by_options o y.0 && p y) uncollapsed_emission (take i held),
        count_by-cons (λ y. is_entry_shown_by_options o y.0 && p y) (uncollapsed_emission e) [],
        ap {B = ℕ} (λ z. cond (q z) 1 0) same,
      )

  module _ (status : Status) (p : Emission → Bool) where
    abbrev merged : Entry → Bool
    merged y = emits_besides_folded_directory o.emit_collapsed status y && (is_entry_shown_by_options o y && p (collapsed_emission status y))

    counted : (xs : List Entry) → count_held_emitted_collapsed o status xs p ≡ count_by merged xs
    counted xs = count_by-map_filter (λ y. is_entry_shown_by_options o y.0 && p y) (collapsed_emission status) (emits_besides_folded_directory o.emit_collapsed status) xs

    pub within-more : count_held_emitted_collapsed o status (take i held) p + count_held_emitted_collapsed o status (x ∷ []) p ≡ count_held_emitted_collapsed o status (take (i + 1) held) p
    within-more = omega (arith, counted (take i held), counted (x ∷ []), counted (take (i + 1) held), one_more merged held i x inside is, count_by-cons merged x [])

    pub within-fits : count_held_emitted_collapsed o status (take i held) p + count_held_emitted_collapsed o status (x ∷ []) p ≤ count_held_emitted_collapsed o status held p
    within-fits = omega (arith, counted (take i held), counted (x ∷ []), counted held, front merged held i x inside is, count_by-cons merged x [])

-- one entry that is shown besides the directory that was folded over it
pub merged-shown : (o : WalkOptions) (status : Status) (e x : Entry) (p : Emission → Bool) → e ≡ x → emits_besides_folded_directory o.emit_collapsed status x ≡ true
    → count_shown_passing o p (emission_with_fold_status e (Some status) ∷ []) ≡ count_held_emitted_collapsed o status (x ∷ []) p
merged-shown o status e x p same shown =
    ap {B = ℕ} (λ (y : Entry). count_shown_passing o p (collapsed_emission status y ∷ [])) same ∙ ap {B = ℕ} (λ (b : Bool). count_shown_passing o p (map (collapsed_emission status) (cond b (x ∷ []) []))) (sym shown)

pub Emits-opened : (a : Option (List Emission)) (start mid : Outcome) → mid.read_dir_calls ≡ min (start.read_dir_calls + 1) (2 ^ 32 - 1) → mid.returned_entries ≡ start.returned_entries → mid.seen_entries ≡ start.seen_entries → AddsEmissionsAndCounts a a start mid (λ p. 0) 0 1
Emits-opened a start mid read returned seen =
    record { same = refl; entries = λ told p. omega arith; returned = λ small. omega (arith, small, returned); seen = λ small. omega (arith, small, seen); read = λ small. read }
