-- No path comes twice: what the names of a directory give lies apart, and beneath the directory.
use Rattle.std.proofs.Common.{◌≡◌, ℕ, ◌+◌, ◌<◌, ◌≤◌, List, [], ◌∷◌, ◌++◌, Bool, true, false, Option, cond, sum_by, take, get_or, length, refl, sym, ap, ◌∙◌, arith}
use Rattle.std.specs.Prelude.{Result, Err}
use Rattle.std.specs.Str.{bytes_eq}
use Rattle.std.specs.List.{IsDistinct, AllByRecursion}
use Rattle.std.specs.Cmp.Lexicographic.{same_text}
use Rattle.std.proofs.lemmas.Bool.{true≢false}
use Rattle.std.proofs.lemmas.List.Sums.{sum_by-cons, sum_by_more}
use Rattle.gitbase_core.specs.Path.{ends_in_slash, is_prefix_by_whole_components, path_joined_with_slash}
use Rattle.worktree_fs.specs.Naming.{IsValidEntryName, AreDistinctValidEntryNames}
use Rattle.dir_classify.specs.declared.entry.Entry.{Entry}
use Rattle.dir_walk.specs.declared.handed.Handed.{Handed}
use Rattle.dir_walk.specs.declared.handed.Stop.{Stop}
use Rattle.dir_walk.specs.declared.outcome.Outcome.{Outcome}
use Rattle.dir_walk.specs.Emissions.{Emission}
use Rattle.dir_walk.specs.Puts.{AddsEmissionsWithinRoom, HandsUpOnlyEntryAtPath, count_held_at_path, one_at_path, one_at_or_beneath_path, one_at_path_plus_held, entries_handed_up}
use Rattle.dir_walk.proofs.Places.Beneath.{prefix-self, prefix-up, prefix-down, prefix-apart}
use Rattle.dir_walk.proofs.Order.Counts.{count_by-cons}
use Rattle.dir_walk.proofs.Gives.Emitting.{front-sum}
use Rattle.dir_walk.proofs.Order.Lists.{refuted}
use Rattle.dir_walk.proofs.Gives.Putting.{Puts-none, Puts-as, Puts-drop, Puts-up, Puts-then, Puts-over, take-sum}

-- how often a path may be given at or beneath some names of a directory
abbrev pub once_below : List ℕ → List (List ℕ) → List ℕ → ℕ
once_below d names path = sum_by (λ q. one_at_or_beneath_path (path_joined_with_slash d q) path) names

none-below : (d path : List ℕ) (names : List (List ℕ)) → AllByRecursion (λ q. is_prefix_by_whole_components (path_joined_with_slash d q) path ≡ false) names → once_below d names path ≡ 0
none-below d path [] h = refl
none-below d path (q ∷ names) h =
    omega (arith, sum_by-cons (λ r. one_at_or_beneath_path (path_joined_with_slash d r) path) q names, none-below d path names h.1, ap {B = ℕ} (λ (b : Bool). cond b 1 0) h.0)

at-prefix : (d path : List ℕ) → one_at_path d path ≤ one_at_or_beneath_path d path
at-prefix d path = go (bytes_eq path d) (is_prefix_by_whole_components d path) refl refl
  where
    go : (same prefix : Bool) → bytes_eq path d ≡ same → is_prefix_by_whole_components d path ≡ prefix → cond {A = ℕ} same 1 0 ≤ cond prefix 1 0
    go true true e f = omega arith
    go true false e f = absurd (true≢false (sym (prefix-self d) ∙ ap (is_prefix_by_whole_components d) (sym (same_text path d (sym e))) ∙ f))
    go false prefix e f = omega arith

module _ (d : List ℕ) (plain : ends_in_slash d ≡ false) (path : List ℕ) where
  -- names whose paths none has as its prefix
  each-not : (names : List (List ℕ)) → AllByRecursion IsValidEntryName names → ((q : List ℕ) → IsValidEntryName q → is_prefix_by_whole_components (path_joined_with_slash d q) path ≡ false) → AllByRecursion (λ q. is_prefix_by_whole_components (path_joined_with_slash d q) path ≡ false) names
  each-not [] are h = tt
  each-not (q ∷ names) are h = (h q are.0, each-not names are.1 h)

  others-not : (q : List ℕ) → IsValidEntryName q → is_prefix_by_whole_components (path_joined_with_slash d q) path ≡ true → (names : List (List ℕ)) → AllByRecursion IsValidEntryName names → AllByRecursion (λ r. bytes_eq q r ≡ false) names
      → AllByRecursion (λ r. is_prefix_by_whole_components (path_joined_with_slash d r) path ≡ false) names
  others-not q is within [] are apart = tt
  others-not q is within (r ∷ names) are apart =
      (refuted (is_prefix_by_whole_components (path_joined_with_slash d r) path) (λ e. sym (prefix-apart d q r path path is are.0 plain apart.0 within e) ∙ prefix-self path), others-not q is within names are.1 apart.1)

  below-one : (names : List (List ℕ)) → AllByRecursion IsValidEntryName names → IsDistinct bytes_eq names → once_below d names path ≤ 1
  unfolding IsDistinct
  below-one [] are apart = omega arith
  below-one (q ∷ names) are apart = go (is_prefix_by_whole_components (path_joined_with_slash d q) path) refl (below-one names are.1 apart.1)
    where
      go : (b : Bool) → is_prefix_by_whole_components (path_joined_with_slash d q) path ≡ b → once_below d names path ≤ 1 → once_below d (q ∷ names) path ≤ 1
      go true e ih =
          omega (arith, sum_by-cons (λ r. one_at_or_beneath_path (path_joined_with_slash d r) path) q names, ap {B = ℕ} (λ (b : Bool). cond b 1 0) e, none-below d path names (others-not q are.0 e names are.1 apart.0))
      go false e ih = omega (arith, sum_by-cons (λ r. one_at_or_beneath_path (path_joined_with_slash d r) path) q names, ap {B = ℕ} (λ (b : Bool). cond b 1 0) e, ih)

  -- the directory's own path and those beneath its names are each at or beneath it, and no two are the same
  pub below-within : (names : List (List ℕ)) → AreDistinctValidEntryNames names → once_below d names path + one_at_path d path ≤ one_at_or_beneath_path d path
  below-within names are = go (is_prefix_by_whole_components d path) (bytes_eq path d) refl refl
    where
      go : (prefix same : Bool) → is_prefix_by_whole_components d path ≡ prefix → bytes_eq path d ≡ same → once_below d names path + cond same 1 0 ≤ cond prefix 1 0
      go false same e f =
          let none = none-below d path names (each-not names are.each (λ q is. refuted (is_prefix_by_whole_components (path_joined_with_slash d q) path) (λ k. sym e ∙ prefix-up d q path is plain k))) in
          let own : cond {A = ℕ} same 1 0 ≡ 0 = sym (ap {B = ℕ} (λ (b : Bool). cond b 1 0) f) ∙ zero_at in
          omega (arith, none, own)
        where
          zero_at : one_at_path d path ≡ 0
          zero_at = omega (arith, at-prefix d path, ap {B = ℕ} (λ (b : Bool). cond b 1 0) e)
      go true true e f =
          let at : path ≡ d = same_text path d (sym f) in
          let none = none-below d path names (each-not names are.each (λ q is. refuted (is_prefix_by_whole_components (path_joined_with_slash d q) path) (λ k. sym (prefix-down d q path is k) ∙ ap (λ (p : List ℕ). is_prefix_by_whole_components p d) at ∙ prefix-self d))) in
          omega (arith, none)
      go true false e f = omega (arith, below-one names are.each are.distinct)

-- ---- a name

pub Hands-none : {path : List ℕ} {room : List ℕ → ℕ} {a b : Option (List Emission)} {i j : Outcome} {stop : Stop} → b ≡ a → j.returned_entries ≡ i.returned_entries → j.seen_entries ≡ i.seen_entries
    → HandsUpOnlyEntryAtPath path room a b i j (Err stop)
Hands-none {path} {room} {a} {b} {i} {j} is returned seen =
    record { puts = Puts-none room a b i j [] is returned (λ small. (omega (arith, seen), omega (arith, seen, small))) (λ p. omega arith); at = tt }

pub Hands-leaf : {path : List ℕ} {a b : Option (List Emission)} {i j : Outcome} {result : Result Handed Stop} → HandsUpOnlyEntryAtPath path (one_at_path path) a b i j result → HandsUpOnlyEntryAtPath path (one_at_or_beneath_path path) a b i j result
Hands-leaf {path} {a} {b} {i} {j} {result} one = record { puts = Puts-as (one_at_path path) (one_at_or_beneath_path path) a b i j (entries_handed_up result) one.puts (at-prefix path); at = one.at }

-- ---- a directory

Puts-opened : {room : List ℕ → ℕ} {a : Option (List Emission)} {i j : Outcome} → j.returned_entries ≡ i.returned_entries → j.seen_entries ≡ i.seen_entries → AddsEmissionsWithinRoom room a a i j []
Puts-opened {room} {a} {i} {j} returned seen = Puts-none room a a i j [] refl returned (λ small. (omega (arith, seen), omega (arith, seen, small))) (λ p. omega arith)

-- it was opened, and no name was walked yet
pub Puts-start : (d : List ℕ) (names : List (List ℕ)) {a : Option (List Emission)} {i j : Outcome} {held : List Entry} → j.returned_entries ≡ i.returned_entries → j.seen_entries ≡ i.seen_entries → held ≡ []
    → AddsEmissionsWithinRoom (once_below d (take 0 names)) a a i j held
Puts-start d names {a} {i} {j} returned seen none = rw none (Puts-opened returned seen)

-- it has no names
pub Hands-empty : {path : List ℕ} {a b : Option (List Emission)} {i j k : Outcome} {result : Result Handed Stop} → j.returned_entries ≡ i.returned_entries → j.seen_entries ≡ i.seen_entries
    → HandsUpOnlyEntryAtPath path (one_at_path path) a b j k result → HandsUpOnlyEntryAtPath path (one_at_or_beneath_path path) a b i k result
Hands-empty {path} {a} {b} {i} {j} {k} {result} returned seen one =
    record { puts = Puts-then (λ p. 0) (one_at_path path) (one_at_or_beneath_path path) a a b i j k [] (entries_handed_up result) (Puts-opened returned seen) one.puts (λ p. omega (arith, at-prefix path p)); at = one.at }

module _ (d : List ℕ) (names : List (List ℕ)) (i : ℕ) (q : List ℕ) {a b c : Option (List Emission)} {start mid stop : Outcome} {held up : List Entry} (inside : i < length names) (is : q ≡ get_or names i q)
    (so_far : AddsEmissionsWithinRoom (once_below d (take i names)) a b start mid held) (one : AddsEmissionsWithinRoom (one_at_or_beneath_path (path_joined_with_slash d q)) b c mid stop up) where
  -- one more name
  pub Puts-name : AddsEmissionsWithinRoom (once_below d (take (i + 1) names)) a c start stop (held ++ up)
  Puts-name =
      Puts-then (once_below d (take i names)) (one_at_or_beneath_path (path_joined_with_slash d q)) (once_below d (take (i + 1) names)) a b c start mid stop held up so_far one
      (λ path. let f : List ℕ → ℕ = λ r. one_at_or_beneath_path (path_joined_with_slash d r) path in omega (arith, sum_by_more f names i q inside, ap f is))

  -- or it is refused, or what it hands up is let go
  pub Hands-refused : {why : Stop} → AreDistinctValidEntryNames names → ends_in_slash d ≡ false → HandsUpOnlyEntryAtPath d (one_at_or_beneath_path d) a c start stop (Err why)
  Hands-refused are plain =
      let both : AddsEmissionsWithinRoom (one_at_or_beneath_path d) a c start stop (held ++ up) =
      Puts-then (once_below d (take i names)) (one_at_or_beneath_path (path_joined_with_slash d q)) (one_at_or_beneath_path d) a b c start mid stop held up so_far one
      (λ path. let f : List ℕ → ℕ = λ r. one_at_or_beneath_path (path_joined_with_slash d r) path in omega (arith, front-sum f names i q inside is, below-within d plain path names are)) in
      record { puts = Puts-drop (one_at_or_beneath_path d) a c start stop (held ++ up) both; at = tt }

-- what it held was put out, and nothing or its fold is handed up
module _ (d : List ℕ) (held : List Entry) {a b : Option (List Emission)} {i j : Outcome} {result : Result Handed Stop} (put : AddsEmissionsWithinRoom (λ path. count_held_at_path path held) a b i j []) where
  pub Hands-put : entries_handed_up result ≡ [] → HandsUpOnlyEntryAtPath d (one_at_path_plus_held d held) a b i j result
  Hands-put none = record { puts = rw none (Puts-up (λ path. count_held_at_path path held) (one_at_path_plus_held d held) a b i j [] put (λ path. omega arith)); at = rw none tt }

  pub Hands-fold : (f : Entry) → entries_handed_up result ≡ f ∷ [] → f.rela_path ≡ d → HandsUpOnlyEntryAtPath d (one_at_path_plus_held d held) a b i j result
  Hands-fold f up path_is =
      record {
        puts = rw up (Puts-up (λ path. count_held_at_path path held) (one_at_path_plus_held d held) a b i j (f ∷ []) put
            (λ path. omega (arith, count_by-cons (λ (e : Entry). bytes_eq path e.rela_path) f [], ap {B = ℕ} (λ (p : List ℕ). one_at_path p path) path_is)));
        at = rw up (path_is, tt);
      }

-- its names are done, and it is closed over what they handed up
pub Hands-closed : (d : List ℕ) (names : List (List ℕ)) (i : ℕ) {a b c : Option (List Emission)} {start mid stop : Outcome} {held : List Entry} {result : Result Handed Stop} → AreDistinctValidEntryNames names → ends_in_slash d ≡ false
    → AddsEmissionsWithinRoom (once_below d (take i names)) a b start mid held → HandsUpOnlyEntryAtPath d (one_at_path_plus_held d held) b c mid stop result → HandsUpOnlyEntryAtPath d (one_at_or_beneath_path d) a c start stop result
Hands-closed d names i {a} {b} {c} {start} {mid} {stop} {held} {result} are plain so_far one =
    record {
      puts = Puts-over (once_below d (take i names)) (one_at_path d) (one_at_or_beneath_path d) a b c start mid stop held (entries_handed_up result) so_far one.puts
          (λ path. omega (arith, take-sum (λ r. one_at_or_beneath_path (path_joined_with_slash d r) path) names i, below-within d plain path names are));
      at = one.at;
    }
