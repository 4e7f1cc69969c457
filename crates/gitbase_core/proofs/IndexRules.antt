-- What the rules of an index say of its entries one by one, and of the last of them.
use Rattle.std.proofs.Common.{◌≡◌, ℕ, zero, suc, ◌+◌, ◌-◌, ◌<◌, ◌≤◌, Bool, true, false, not, ◌&&◌, ◌||◌, ◌==◌, ◌⊎◌, cond, List, [], ◌∷◌, ◌++◌, length, take, drop, get_or, Option, Some, None, Err, refl, sym, ap, ◌∙◌, arith, inl, inr, append_assoc}
use Rattle.std.specs.Prelude.{slice_get, nat_lt}
use Rattle.std.specs.Cmp.{IsTotalOrder}
use Rattle.std.specs.List.{list_any}
use Rattle.std.specs.Ordering.{nat_cmp, is_lt, ordering_then}
use Rattle.std.specs.Str.{bytes_eq}
use Rattle.std.specs.declared.cmp.Ordering.{Ordering}
use Rattle.std.specs.declared.cmp.Ordering.TheVariants.{Less, Equal, Greater}
use Rattle.std.proofs.lemmas.Bool.{cases_lt}
use Rattle.std.proofs.lemmas.Bool.Decides.{nat_tests}
use Rattle.std.proofs.lemmas.Cmp.{tied_itself, nat_list_cmp_total, nat_cmp_total, on_total, then_total}
use Rattle.std.proofs.lemmas.List.{append-nil, get_or-take, length-take-le, take_more, take-append-drop}
use Rattle.std.proofs.lemmas.List.Folds.{list_any_at, list_any_none, list_all_at}
use Rattle.std.proofs.lemmas.List.Sums.{AllPass-from_list_all, list_all-from_AllPass}
use Rattle.std.proofs.lemmas.Map.Lookups.{exact_bytes}
use Rattle.std.proofs.lemmas.Option.{slice_get_within, get_or_from_slice_get}
use Rattle.std.proofs.lemmas.Slice.Eq.{bytes_eq-Decides}
use Rattle.std.specs.Option.{option_or}
use Rattle.gitbase_core.specs.Index.{compare_path_bytes, compare_entries_by_path_and_stage, is_valid_index_path, trailing_slash_fits_mode, sorts_after_earlier_entries, has_stage_zero_conflict, stage_fits_earlier_entries, index_error_of_next_entry, first_index_error_in_entries, AreValidIndexEntries, entries_or_index_error, checked_index_entries}
use Rattle.gitbase_core.specs.declared.entry.IndexEntry.{IndexEntry}
use Rattle.gitbase_core.specs.declared.index.IndexError.{IndexError}

-- ---- one entry behind another

pub entry_cmp_total : IsTotalOrder compare_entries_by_path_and_stage
entry_cmp_total = then_total (on_total (λ (e : IndexEntry). e.path) nat_list_cmp_total) (on_total (λ (e : IndexEntry). e.stage) nat_cmp_total)

option_or-none : (a b : Option IndexError) → option_or a b ≡ None → (a ≡ None) × (b ≡ None)
option_or-none (Some fault) b h = absurd (cc)
option_or-none None b h = (refl, h)

-- an entry that fails no check
pub record Passes (earlier : List IndexEntry) (e : IndexEntry) : Type 0 where
  pub path : is_valid_index_path e.path ≡ true
  pub mode : trailing_slash_fits_mode e ≡ true
  pub behind : sorts_after_earlier_entries earlier e ≡ true
  pub stage : stage_fits_earlier_entries earlier e ≡ true

-- the four checks, of which the first that fails names the fault
checks : {F : Type 0} (p m b s : Bool) (pf mf bf sf : F)
    → cond (not p) (Some pf) (cond (not m) (Some mf) (cond (not b) (Some bf) (cond (not s) (Some sf) None))) ≡ None
    → (p ≡ true) × (m ≡ true) × (b ≡ true) × (s ≡ true)
checks false m b s pf mf bf sf h = absurd (cc)
checks true false b s pf mf bf sf h = absurd (cc)
checks true true false s pf mf bf sf h = absurd (cc)
checks true true true false pf mf bf sf h = absurd (cc)
checks true true true true pf mf bf sf h = (refl, refl, refl, refl)

passes : (earlier : List IndexEntry) (e : IndexEntry) → index_error_of_next_entry earlier e ≡ None → Passes earlier e
passes earlier e h =
    let all = checks (is_valid_index_path e.path) (trailing_slash_fits_mode e) (sorts_after_earlier_entries earlier e) (stage_fits_earlier_entries earlier e) _ _ _ _ h in
    record { path = all.0; mode = all.1; behind = all.2; stage = all.3 }

-- ---- one after another

fault-at : (earlier left : List IndexEntry) (k : ℕ) (d : IndexEntry) → first_index_error_in_entries earlier left ≡ None → k < length left
    → index_error_of_next_entry (earlier ++ take k left) (get_or left k d) ≡ None
fault-at earlier [] k d h low = absurd (omega arith)
fault-at earlier (e ∷ left) zero d h low =
    ap (λ (es : List IndexEntry). index_error_of_next_entry es e) (append-nil earlier) ∙ (option_or-none (index_error_of_next_entry earlier e) _ h).0
fault-at earlier (e ∷ left) (suc k) d h low =
    ap (λ (es : List IndexEntry). index_error_of_next_entry es (get_or left k d)) (sym (append_assoc earlier (e ∷ []) (take k left)))
    ∙ fault-at (earlier ++ e ∷ []) left k d (option_or-none (index_error_of_next_entry earlier e) _ h).1 (omega arith)

-- each entry of an index passes behind those before it
pub passes-at : (entries : List IndexEntry) (k : ℕ) (d : IndexEntry) → AreValidIndexEntries entries → k < length entries
    → Passes (take k entries) (get_or entries k d)
passes-at entries k d index low = passes (take k entries) (get_or entries k d) (fault-at [] entries k d index low)

pub less_is : (o : Ordering) → is_lt o ≡ true → o ≡ Less
less_is Less h = refl
less_is Equal h = absurd (cc)
less_is Greater h = absurd (cc)

-- each entry of an index stands behind each before it
pub rises : (entries : List IndexEntry) (i j : ℕ) (d : IndexEntry) → AreValidIndexEntries entries → i < j → j < length entries
    → compare_entries_by_path_and_stage (get_or entries i d) (get_or entries j d) ≡ Less
rises entries i j d index low high =
    let pass = AllPass-from_list_all (λ before. is_lt (compare_entries_by_path_and_stage before (get_or entries j d))) (take j entries) (passes-at entries j d index high).behind in
    let at = pass i d (omega (arith, length-take-le j entries (omega arith))) in
    less_is _ (rw (get_or-take j entries i d low) at at)

-- ---- all entries of two lists

option_or-assoc : (a b c : Option IndexError) → option_or a (option_or b c) ≡ option_or (option_or a b) c
option_or-assoc (Some fault) b c = refl
option_or-assoc None b c = refl

pub first_error-append : (earlier xs ys : List IndexEntry)
    → first_index_error_in_entries earlier (xs ++ ys) ≡ option_or (first_index_error_in_entries earlier xs) (first_index_error_in_entries (earlier ++ xs) ys)
first_error-append earlier [] ys = ap (λ (es : List IndexEntry). first_index_error_in_entries es ys) (sym (append-nil earlier))
first_error-append earlier (e ∷ xs) ys =
    ap (option_or (index_error_of_next_entry earlier e)) (first_error-append (earlier ++ e ∷ []) xs ys)
    ∙ option_or-assoc (index_error_of_next_entry earlier e) (first_index_error_in_entries (earlier ++ e ∷ []) xs) (first_index_error_in_entries ((earlier ++ e ∷ []) ++ xs) ys)
    ∙ ap (λ (es : List IndexEntry). option_or (first_index_error_in_entries earlier (e ∷ xs)) (first_index_error_in_entries es ys)) (append_assoc earlier (e ∷ []) xs)

option_or-nothing : (a : Option IndexError) → option_or a None ≡ a
option_or-nothing (Some fault) = refl
option_or-nothing None = refl

-- one entry more
pub first_error-more : (entries : List IndexEntry) (i : ℕ) (d : IndexEntry) → i < length entries → AreValidIndexEntries (take i entries)
    → first_index_error_in_entries [] (take (i + 1) entries) ≡ index_error_of_next_entry (take i entries) (get_or entries i d)
first_error-more entries i d low index =
    rw (take_more entries i d low)
    (first_error-append [] (take i entries) (get_or entries i d ∷ [])
    ∙ ap (λ (o : Option IndexError). option_or o (first_index_error_in_entries (take i entries) (get_or entries i d ∷ []))) index
    ∙ option_or-nothing (index_error_of_next_entry (take i entries) (get_or entries i d)))

-- the first bad entry is that of the whole
first_error-found : (entries : List IndexEntry) (i : ℕ) (fault : IndexError)
    → first_index_error_in_entries [] (take i entries) ≡ Some fault → first_index_error_in_entries [] entries ≡ Some fault
first_error-found entries i fault found =
    ap (first_index_error_in_entries []) (sym (take-append-drop i entries))
    ∙ first_error-append [] (take i entries) (drop i entries)
    ∙ ap (λ (o : Option IndexError). option_or o (first_index_error_in_entries (take i entries) (drop i entries))) found

-- an entry that fails a check behind entries that fail none is the first bad one
pub refused-at : (entries : List IndexEntry) (i : ℕ) (e : IndexEntry) (fault : IndexError) → i < length entries
    → AreValidIndexEntries (take i entries) → e ≡ get_or entries i e → index_error_of_next_entry (take i entries) e ≡ Some fault → Err fault ≡ checked_index_entries entries
refused-at entries i e fault low index here fails =
    let found : first_index_error_in_entries [] (take (i + 1) entries) ≡ Some fault =
    first_error-more entries i e low index ∙ ap (index_error_of_next_entry (take i entries)) (sym here) ∙ fails in
    ap (entries_or_index_error entries) (sym (first_error-found entries (i + 1) fault found))

pub passed-at : (entries : List IndexEntry) (i : ℕ) (e : IndexEntry) → i < length entries
    → AreValidIndexEntries (take i entries) → e ≡ get_or entries i e → index_error_of_next_entry (take i entries) e ≡ None → AreValidIndexEntries (take (i + 1) entries)
passed-at entries i e low index here fails =
    first_error-more entries i e low index ∙ ap (index_error_of_next_entry (take i entries)) (sym here) ∙ fails

-- ---- the last entry

-- the last of some entries
pub record IsLast (entries : List IndexEntry) (e : IndexEntry) : Type 0 where
  pub some : 0 < length entries
  pub at : (d : IndexEntry) → get_or entries (length entries - 1) d ≡ e

pub is_last : (entries : List IndexEntry) (e : IndexEntry) → slice_get entries (length entries - 1) ≡ Some e → IsLast entries e
is_last entries e h = record {
  some = omega (arith, slice_get_within entries (length entries - 1) e h);
  at = λ d. get_or_from_slice_get entries (length entries - 1) e d h;
}

-- what is behind the last entry is behind all of them
pub ascends-last : (entries : List IndexEntry) (last e : IndexEntry) → AreValidIndexEntries entries → IsLast entries last
    → is_lt (compare_entries_by_path_and_stage last e) ≡ sorts_after_earlier_entries entries e
ascends-last entries last e index end = by_test (is_lt (compare_entries_by_path_and_stage last e)) refl
  where
    place : ℕ
    place = length entries - 1

    by_test : (t : Bool) → is_lt (compare_entries_by_path_and_stage last e) ≡ t → t ≡ sorts_after_earlier_entries entries e
    by_test false h =
        sym (list_all_at (λ before. is_lt (compare_entries_by_path_and_stage before e)) entries place last (omega (arith, end.some)) (rw (end.at last) h))
    by_test true h = sym (list_all-from_AllPass (λ before. is_lt (compare_entries_by_path_and_stage before e)) entries (λ k d low.
        elim (cases_lt k place) [
          | inl before ↦
              let one : compare_entries_by_path_and_stage (get_or entries k d) last ≡ Less =
              ap (compare_entries_by_path_and_stage (get_or entries k d)) (sym (end.at d)) ∙ rises entries k place d index before (omega (arith, end.some)) in
              let two : compare_entries_by_path_and_stage last e ≡ Less = less_is (compare_entries_by_path_and_stage last e) h in
              ap is_lt (entry_cmp_total.trans (get_or entries k d) last e one two)
          | inr not_before ↦
              let same : k ≡ place = omega arith in
              rw (same, end.at d) h
        ]))

-- ---- the stage of an entry behind others

fails_at : (p : IndexEntry → Bool) (entries : List IndexEntry) (k : ℕ) (d : IndexEntry) → list_any p entries ≡ false
    → k < length entries → p (get_or entries k d) ≡ false
fails_at p entries k d none low = by_test (p (get_or entries k d)) refl
  where
    by_test : (t : Bool) → p (get_or entries k d) ≡ t → t ≡ false
    by_test true h = absurd (cc (none, list_any_at p entries k d low h))
    by_test false h = refl

same_path : (a b : List ℕ) → bytes_eq a b ≡ true → a ≡ b
same_path a b h = (bytes_eq-Decides a b).0 h

-- an order by two parts that is Less is not Greater in the first
pub not_before : (o p : Ordering) → ordering_then o p ≡ Less → (o ≡ Less) ⊎ (o ≡ Equal)
not_before Less p h = inl refl
not_before Equal p h = inr refl
not_before Greater p h = absurd (cc)

-- an entry between two of one path has that path
between : (a b e : IndexEntry) → compare_entries_by_path_and_stage a b ≡ Less → compare_entries_by_path_and_stage b e ≡ Less → a.path ≡ e.path → b.path ≡ e.path
between a b e one two same =
    elim (not_before (compare_path_bytes a.path b.path) (nat_cmp a.stage b.stage) one) [
      | inr equal ↦ sym (exact_bytes a.path b.path equal) ∙ same
      | inl less ↦
          elim (not_before (compare_path_bytes b.path e.path) (nat_cmp b.stage e.stage) two) [
            | inr equal ↦ exact_bytes b.path e.path equal
            | inl further ↦
                let whole : compare_path_bytes a.path e.path ≡ Less = nat_list_cmp_total.trans a.path b.path e.path less further in
                let tied : compare_path_bytes e.path e.path ≡ Less = rw same at whole in
                absurd (cc (tied_itself nat_list_cmp_total e.path))
          ]
    ]

-- where the last entry has another path, no entry has the path
other_path : (entries : List IndexEntry) (last e : IndexEntry) → AreValidIndexEntries entries → IsLast entries last
    → is_lt (compare_entries_by_path_and_stage last e) ≡ true → bytes_eq last.path e.path ≡ false → list_any (has_stage_zero_conflict e) entries ≡ false
other_path entries last e index end behind other = list_any_none (has_stage_zero_conflict e) entries (λ k d low.
    no_clash (get_or entries k d) (bytes_eq (get_or entries k d).path e.path) refl (λ same.
    elim (cases_lt k (length entries - 1)) [
      | inl before ↦
          let one : compare_entries_by_path_and_stage (get_or entries k d) last ≡ Less =
          ap (compare_entries_by_path_and_stage (get_or entries k d)) (sym (end.at d))
          ∙ rises entries k (length entries - 1) d index before (omega (arith, end.some)) in
          let path : last.path ≡ e.path =
          between (get_or entries k d) last e one (less_is (compare_entries_by_path_and_stage last e) behind) (same_path (get_or entries k d).path e.path same) in
          cc (other, (bytes_eq-Decides last.path e.path).1 path)
      | inr not_there ↦
          let here : k ≡ length entries - 1 = omega arith in
          let at : get_or entries k d ≡ last = ap (λ (i : ℕ). get_or entries i d) here ∙ end.at d in
          cc (other, ap (λ (x : IndexEntry). bytes_eq x.path e.path) at, same)
    ]))
  where
    no_clash : (before : IndexEntry) (t : Bool) → bytes_eq before.path e.path ≡ t → (bytes_eq before.path e.path ≡ true → ⊥)
        → has_stage_zero_conflict e before ≡ false
    no_clash before true h none = absurd (none h)
    no_clash before false h none = rw h refl

-- p is a test of a path that q passes wherever p does; a, b and l are tests of stages
no_zero : (p q a b l : Bool) → (q && (a || l)) ≡ false → (p ≡ true → q ≡ true) → b ≡ false → (p && (a || b)) ≡ false
no_zero false q a b l h pq hb = refl
no_zero true false a b l h pq hb = absurd (cc (pq refl))
no_zero true true true b l h pq hb = absurd (cc)
no_zero true true false b l h pq hb = hb

right_false : (a b : Bool) → (a || b) ≡ false → b ≡ false
right_false true b h = absurd (cc)
right_false false b h = h

quiet_stage : (s c : Bool) → (s && not c) ≡ true → c ≡ false
quiet_stage false c h = absurd (cc)
quiet_stage true true h = absurd (cc)
quiet_stage true false h = refl

-- where no two entries of the last one's path clash, an entry of that path beside which the last one may stand goes
-- with all of them
goes_with : (entries : List IndexEntry) (last e : IndexEntry) → AreValidIndexEntries entries → IsLast entries last
    → last.path ≡ e.path → (last.stage == 0 || e.stage == 0) ≡ false → list_any (has_stage_zero_conflict e) entries ≡ false
goes_with entries last e index end path no_zero_stage = list_any_none (has_stage_zero_conflict e) entries (λ k d low.
    let place : ℕ = length entries - 1 in
    elim (cases_lt k place) [
      | inl before ↦
          let pass = (passes-at entries place d index (omega (arith, end.some))).stage in
          let none : list_any (has_stage_zero_conflict last) (take place entries) ≡ false =
          quiet_stage (not (nat_lt 3 last.stage)) _ (rw (end.at d) at pass) in
          let one : has_stage_zero_conflict last (get_or entries k d) ≡ false =
          rw (get_or-take place entries k d before)
          at (fails_at (has_stage_zero_conflict last) (take place entries) k d none (omega (arith, length-take-le place entries (omega arith)))) in
          no_zero (bytes_eq (get_or entries k d).path e.path) (bytes_eq (get_or entries k d).path last.path) ((get_or entries k d).stage == 0)
          (e.stage == 0) (last.stage == 0) one
          (λ same. rw path same) (right_false (last.stage == 0) (e.stage == 0) no_zero_stage)
      | inr not_there ↦
          let here : k ≡ place = omega arith in
          let at : get_or entries k d ≡ last = ap (λ (i : ℕ). get_or entries i d) here ∙ end.at d in
          rw at (by_same (bytes_eq last.path e.path))
    ])
  where
    by_same : (t : Bool) → (t && (last.stage == 0 || e.stage == 0)) ≡ false
    by_same true = no_zero_stage
    by_same false = refl

-- an entry behind others goes with all of them exactly where it goes with the last
pub stages_clash-last : (entries : List IndexEntry) (last e : IndexEntry) → AreValidIndexEntries entries → IsLast entries last
    → is_lt (compare_entries_by_path_and_stage last e) ≡ true → has_stage_zero_conflict e last ≡ list_any (has_stage_zero_conflict e) entries
stages_clash-last entries last e index end behind = by_path (bytes_eq last.path e.path) refl
  where
    by_stage : (t : Bool) → (last.stage == 0 || e.stage == 0) ≡ t → bytes_eq last.path e.path ≡ true
        → has_stage_zero_conflict e last ≡ list_any (has_stage_zero_conflict e) entries
    by_stage true found same =
        let here : has_stage_zero_conflict e last ≡ true = rw (same, found) refl in
        here ∙ sym (list_any_at (has_stage_zero_conflict e) entries (length entries - 1) last (omega (arith, end.some)) (rw (end.at last) here))
    by_stage false found same =
        let here : has_stage_zero_conflict e last ≡ false = rw (same, found) refl in
        here ∙ sym (goes_with entries last e index end (same_path last.path e.path same) found)

    by_path : (t : Bool) → bytes_eq last.path e.path ≡ t → has_stage_zero_conflict e last ≡ list_any (has_stage_zero_conflict e) entries
    by_path true same = by_stage (last.stage == 0 || e.stage == 0) refl same
    by_path false other =
        let here : has_stage_zero_conflict e last ≡ false = rw other refl in
        here ∙ sym (other_path entries last e index end behind other)

-- the same of the whole rule of stages
pub fits_stage-last : (entries : List IndexEntry) (last e : IndexEntry) → AreValidIndexEntries entries → IsLast entries last
    → sorts_after_earlier_entries entries e ≡ true → e.stage ≤ 3 → not (has_stage_zero_conflict e last) ≡ stage_fits_earlier_entries entries e
fits_stage-last entries last e index end behind low =
    let small : nat_lt 3 e.stage ≡ false = grind (arith, nat_tests) in
    rw small (ap not (stages_clash-last entries last e index end (ascends-last entries last e index end ∙ behind)))

pub fits_stage-first : (e : IndexEntry) → e.stage ≤ 3 → true ≡ stage_fits_earlier_entries [] e
fits_stage-first e low =
    let small : nat_lt 3 e.stage ≡ false = grind (arith, nat_tests) in
    rw small refl
