-- Which paths of an index are conflicted.
use Rattle.std.proofs.Common.{◌≡◌, ◌↔◌, ◌⊎◌, inl, inr, ℕ, List, [], ◌∷◌, ◌++◌, Bool, true, false, not, ◌&&◌, ◌||◌, Option, Some, None, length, bytes_eq, refl, sym, ap, ◌∙◌, subst, append_assoc}
use Rattle.std.specs.Prelude.{nat_lt, ◌==◌, if◌then◌else◌}
use Rattle.std.specs.Bool.{MatchBool}
use Rattle.std.specs.List.{list_any}
use Rattle.std.proofs.lemmas.Bool.{true≢false}
use Rattle.std.proofs.lemmas.Slice.Eq.{bytes_eq-Decides}
use Rattle.std.proofs.lemmas.List.{append-nil}
use Rattle.std.proofs.lemmas.List.Folds.{list_any-append}
use Rattle.gitbase_core.specs.Index.{AreValidIndexEntries, sorts_after_earlier_entries, index_error_of_next_entry, first_index_error_in_entries, trailing_slash_fits_mode, stage_fits_earlier_entries, is_valid_index_path, has_stage_zero_conflict}
use Rattle.gitbase_core.specs.declared.entry.IndexEntry.{IndexEntry}
use Rattle.gitbase_core.specs.declared.index.IndexError.TheVariants.{Path, ModePath, NotAscending, Stage}
use Rattle.index_status.specs.declared.path_state.PathState.{PathState}
use Rattle.index_status.specs.declared.path_state.PathState.TheVariants as states
use Rattle.index_status.specs.Rows.{AreConflictedExactlyWhereUnmerged, AreEntriesPairedWithRows, ArePossibleRowsOfIndex, PathAndState, first_entries_of_paths_after, has_conflicted_entry}
use Rattle.gitbase_core.specs.Entry.{mode_bits, gitlink_mode, is_unmerged_entry}
use Rattle.gitbase_core.specs.Path.{is_some_equal_path}
use Rattle.index_status.specs.States.{IsDeletedOrStateOfPresent, IsPossibleStateOfEntry, MayBeStateOfReadFile, MayBeStateWithoutReading, is_skipped_assumed_or_sparse, is_symlink_mode}
use Rattle.index_status.proofs.Ordered.{both-none}

or-none : (a b : Bool) → (a || b) ≡ false → (a ≡ false) × (b ≡ false)
or-none true b h = absurd (cc h)
or-none false b h = (refl, h)

-- ---- an entry of stage 0 is the only one of its path

-- nothing is wrong with the last of some entries behind the others
left-none : (earlier front rest : List IndexEntry) → first_index_error_in_entries earlier (front ++ rest) ≡ None → first_index_error_in_entries (earlier ++ front) rest ≡ None
left-none earlier [] rest none = subst (λ (l : List IndexEntry). first_index_error_in_entries l rest ≡ None) (sym (append-nil earlier)) none
left-none earlier (x ∷ front) rest none =
    subst (λ (l : List IndexEntry). first_index_error_in_entries l rest ≡ None) (append_assoc earlier (x ∷ []) front)
    (left-none (earlier ++ x ∷ []) front rest (both-none (index_error_of_next_entry earlier x) (first_index_error_in_entries (earlier ++ x ∷ []) (front ++ rest)) none).1)

fits : (earlier : List IndexEntry) (e : IndexEntry) → index_error_of_next_entry earlier e ≡ None → stage_fits_earlier_entries earlier e ≡ true
fits earlier e none = by (not (is_valid_index_path e.path)) (not (trailing_slash_fits_mode e)) (not (sorts_after_earlier_entries earlier e)) (stage_fits_earlier_entries earlier e) none
  where
    by : (a b c d : Bool)
        → (if a then Some (Path (length earlier)) else if b then Some (ModePath (length earlier)) else if c then Some (NotAscending (length earlier)) else if not d then Some (Stage (length earlier)) else None) ≡ None
        → d ≡ true
    by true b c d f = absurd (cc f)
    by false true c d f = absurd (cc f)
    by false false true d f = absurd (cc f)
    by false false false true f = refl
    by false false false false f = absurd (cc f)

no-clash : (earlier : List IndexEntry) (e : IndexEntry) → index_error_of_next_entry earlier e ≡ None → list_any (has_stage_zero_conflict e) earlier ≡ false
no-clash earlier e none = by (not (nat_lt 3 e.stage)) (list_any (has_stage_zero_conflict e) earlier) (fits earlier e none)
  where
    by : (a b : Bool) → (a && not b) ≡ true → b ≡ false
    by true false h = refl
    by true true h = absurd (cc h)
    by false b h = absurd (cc h)

none-before : (e : IndexEntry) (front : List IndexEntry) → (e.stage == 0) ≡ true → list_any (has_stage_zero_conflict e) front ≡ false → has_conflicted_entry front e.path ≡ false
none-before e [] zero none = refl
none-before e (x ∷ front) zero none =
    let both = or-none (has_stage_zero_conflict e x) (list_any (has_stage_zero_conflict e) front) none in
    by (bytes_eq x.path e.path) (x.stage == 0) (e.stage == 0) (has_conflicted_entry front e.path) both.0 zero (none-before e front zero both.1)
  where
    by : (p a b rest : Bool) → (p && (a || b)) ≡ false → b ≡ true → rest ≡ false → ((p && not a) || rest) ≡ false
    by true true b rest h k more = absurd (cc h)
    by true false true rest h k more = absurd (cc h)
    by true false false rest h k more = absurd (cc k)
    by false a b rest h k more = more

-- what none of some entries passes, this one does not pass
abbrev IsOneOf : IndexEntry → List IndexEntry → Type 0
IsOneOf e entries = (p : IndexEntry → Bool) → list_any p entries ≡ false → p e ≡ false

one-last : (e : IndexEntry) (front : List IndexEntry) → IsOneOf e (front ++ e ∷ [])
one-last e front = λ p none. (or-none (p e) false (or-none (list_any p front) (list_any p (e ∷ [])) (sym (list_any-append p front (e ∷ [])) ∙ none)).1).0

one-more : (e x : IndexEntry) (entries : List IndexEntry) → IsOneOf e entries → IsOneOf e (entries ++ x ∷ [])
one-more e x entries one = λ p none. one p (or-none (list_any p entries) (list_any p (x ∷ [])) (sym (list_any-append p entries (x ∷ [])) ∙ none)).0

apart : (e x : IndexEntry) → (e.stage == 0) ≡ true → has_stage_zero_conflict x e ≡ false → bytes_eq x.path e.path ≡ false
apart e x zero clash = by (bytes_eq x.path e.path) refl
  where
    never : (a b c : Bool) → a ≡ true → b ≡ true → (a && (b || c)) ≡ false → ⊥
    never true true c h k f = cc f
    never true false c h k f = cc k
    never false b c h k f = cc h

    by : (b : Bool) → bytes_eq x.path e.path ≡ b → b ≡ false
    by false is = refl
    by true is =
        let same : x.path ≡ e.path = (bytes_eq-Decides x.path e.path).0 is in
        let turned : bytes_eq e.path x.path ≡ true = ap (λ (p : List ℕ). bytes_eq p x.path) (sym same) ∙ ap (λ (p : List ℕ). bytes_eq x.path p) same ∙ is in
        absurd (never (bytes_eq e.path x.path) (e.stage == 0) (x.stage == 0) turned zero clash)

none-behind : (e : IndexEntry) (earlier back : List IndexEntry) → (e.stage == 0) ≡ true → IsOneOf e earlier → first_index_error_in_entries earlier back ≡ None → has_conflicted_entry back e.path ≡ false
none-behind e earlier [] zero one none = refl
none-behind e earlier (x ∷ back) zero one none =
    let parts = both-none (index_error_of_next_entry earlier x) (first_index_error_in_entries (earlier ++ x ∷ []) back) none in
    by (bytes_eq x.path e.path) (is_unmerged_entry x) (has_conflicted_entry back e.path) (apart e x zero (one (has_stage_zero_conflict x) (no-clash earlier x parts.0)))
    (none-behind e (earlier ++ x ∷ []) back zero (one-more e x earlier one) parts.1)
  where
    by : (p a rest : Bool) → p ≡ false → rest ≡ false → ((p && a) || rest) ≡ false
    by true a rest h more = absurd (cc h)
    by false a rest h more = more

conflicted-at : (front back : List IndexEntry) (e : IndexEntry) → AreValidIndexEntries (front ++ e ∷ back) → has_conflicted_entry (front ++ e ∷ back) e.path ≡ is_unmerged_entry e
conflicted-at front back e is =
    let here = left-none [] front (e ∷ back) is in
    let parts = both-none (index_error_of_next_entry front e) (first_index_error_in_entries (front ++ e ∷ []) back) here in
    list_any-append (λ (x : IndexEntry). bytes_eq x.path e.path && is_unmerged_entry x) front (e ∷ back)
    ∙ by (has_conflicted_entry front e.path) (bytes_eq e.path e.path) (has_conflicted_entry back e.path) (e.stage == 0) ((bytes_eq-Decides e.path e.path).1 refl)
    (λ zero. none-before e front zero (no-clash front e parts.0))
    (λ zero. none-behind e (front ++ e ∷ []) back zero (one-last e front) parts.1)
  where
    by : (f s b z : Bool) → s ≡ true → (z ≡ true → f ≡ false) → (z ≡ true → b ≡ false) → (f || ((s && not z) || b)) ≡ not z
    by f true b true is g h = rw (g refl, h refl) refl
    by true true b false is g h = refl
    by false true b false is g h = refl
    by f false b z is g h = absurd (cc is)

-- ---- rows

not-conflicted : (a b c : Bool) (s : PathState) → MatchBool a (s ≡ states.Skipped) ((s ≡ states.Deleted) ⊎ MatchBool b (MayBeStateWithoutReading s) (MatchBool c (MayBeStateWithoutReading s) (MayBeStateOfReadFile s))) → s ≡ states.Conflicted → ⊥
not-conflicted true b c s h k = cc (h, k)
not-conflicted false b c s (inl h) k = cc (h, k)
not-conflicted false true c s (inr (inl h)) k = cc (h, k)
not-conflicted false true c s (inr (inr (inl h))) k = cc (h, k)
not-conflicted false true c s (inr (inr (inr h))) k = cc (h, k)
not-conflicted false false true s (inr (inl h)) k = cc (h, k)
not-conflicted false false true s (inr (inr (inl h))) k = cc (h, k)
not-conflicted false false true s (inr (inr (inr h))) k = cc (h, k)
not-conflicted false false false s (inr (inl h)) k = cc (h, k)
not-conflicted false false false s (inr (inr (inl h))) k = cc (h, k)
not-conflicted false false false s (inr (inr (inr (inl h)))) k = cc (h, k)
not-conflicted false false false s (inr (inr (inr (inr h)))) k = cc (h, k)

conflicted-row : (entries : List IndexEntry) (e : IndexEntry) (s : PathState) → has_conflicted_entry entries e.path ≡ is_unmerged_entry e → IsPossibleStateOfEntry e s
    → (s ≡ states.Conflicted) ↔ (has_conflicted_entry entries e.path ≡ true)
conflicted-row entries e s is may = by (is_unmerged_entry e) refl may
  where
    by : (b : Bool) → is_unmerged_entry e ≡ b
        → MatchBool b (s ≡ states.Conflicted) (MatchBool (is_skipped_assumed_or_sparse e) (s ≡ states.Skipped) (IsDeletedOrStateOfPresent e s))
        → (s ≡ states.Conflicted) ↔ (has_conflicted_entry entries e.path ≡ true)
    by true other h = (λ k. is ∙ other, λ k. h)
    by false zero h = (
      λ k. absurd (not-conflicted (is_skipped_assumed_or_sparse e) (mode_bits e.mode == gitlink_mode) (is_symlink_mode e.mode) s h k),
      λ k. absurd (true≢false (sym k ∙ is ∙ zero)),
    )

conflicted-after : (entries front left : List IndexEntry) (before : Option (List ℕ)) (made : List PathAndState) → AreValidIndexEntries entries → entries ≡ front ++ left
    → AreEntriesPairedWithRows IsPossibleStateOfEntry (first_entries_of_paths_after before left) made → AreConflictedExactlyWhereUnmerged entries made
conflicted-after entries front [] before made is whole are = subst (AreConflictedExactlyWhereUnmerged entries) (sym are) tt
conflicted-after entries front (e ∷ left) before made is whole are =
    let further : entries ≡ (front ++ e ∷ []) ++ left = whole ∙ sym (append_assoc front (e ∷ []) left) in
    by (is_some_equal_path before e.path) made (λ other rows paired. conflicted-after entries (front ++ e ∷ []) left other rows is further paired) are
  where
    here : has_conflicted_entry entries e.path ≡ is_unmerged_entry e
    here =
        ap (λ (l : List IndexEntry). has_conflicted_entry l e.path) whole
        ∙ conflicted-at front left e (subst AreValidIndexEntries whole is)

    by : (b : Bool) (rows : List PathAndState)
        → ((other : Option (List ℕ)) (more : List PathAndState) → AreEntriesPairedWithRows IsPossibleStateOfEntry (first_entries_of_paths_after other left) more → AreConflictedExactlyWhereUnmerged entries more)
        → AreEntriesPairedWithRows IsPossibleStateOfEntry (if b then first_entries_of_paths_after before left else e ∷ first_entries_of_paths_after (Some e.path) left) rows → AreConflictedExactlyWhereUnmerged entries rows
    by true rows more paired = more before rows paired
    by false [] more paired = absurd paired
    by false (row ∷ rows) more paired = (
      subst (λ (path : List ℕ). (row.1 ≡ states.Conflicted) ↔ (has_conflicted_entry entries path ≡ true)) (sym paired.0) (conflicted-row entries e row.1 here paired.1),
      more (Some e.path) rows paired.2,
    )

pub conflicted-rows : (entries : List IndexEntry) (made : List PathAndState) → AreValidIndexEntries entries → ArePossibleRowsOfIndex entries made → AreConflictedExactlyWhereUnmerged entries made
conflicted-rows entries made is are = conflicted-after entries [] entries None made is refl are
