-- The paths of an index ascend.
use Rattle.std.proofs.Common.{◌≡◌, ℕ, List, [], ◌∷◌, ◌++◌, Bool, true, false, not, ◌&&◌, map, Option, Some, None, length, refl, sym, ap, ◌∙◌, subst}
use Rattle.std.specs.Prelude.{if◌then◌else◌}
use Rattle.std.specs.Option.{option_or}
use Rattle.std.specs.Str.{bytes_eq}
use Rattle.std.specs.List.{AllByRecursion, list_all}
use Rattle.std.specs.List.Sorted.{IsStrictlySortedBy}
use Rattle.std.specs.Cmp.Lexicographic.{slice_cmp}
use Rattle.std.specs.declared.cmp.Ordering.{Ordering}
use Rattle.std.specs.declared.cmp.Ordering.TheVariants.{Less, Equal, Greater}
use Rattle.std.specs.Ordering.{nat_cmp, is_lt, is_eq, ordering_then}
use Rattle.std.proofs.lemmas.Cmp.{nat_list_cmp_total}
use Rattle.std.proofs.lemmas.Bool.{true≢false}
use Rattle.std.proofs.lemmas.Map.Lookups.{exact_bytes}
use Rattle.std.proofs.lemmas.Map.Text.{is_eq-slice_cmp}
use Rattle.gitbase_core.specs.Index.{AreValidIndexEntries, sorts_after_earlier_entries, compare_entries_by_path_and_stage, index_error_of_next_entry, first_index_error_in_entries, trailing_slash_fits_mode, stage_fits_earlier_entries, is_valid_index_path}
use Rattle.gitbase_core.specs.declared.entry.IndexEntry.{IndexEntry}
use Rattle.gitbase_core.specs.declared.index.IndexError.{IndexError}
use Rattle.gitbase_core.specs.declared.index.IndexError.TheVariants.{Path, ModePath, NotAscending, Stage}
use Rattle.index_status.specs.declared.path_state.PathState.{PathState}
use Rattle.index_status.specs.Rows.{AreEntriesPairedWithRows, PathsAscendStrictly, PathAndState, first_entries_of_paths, first_entries_of_paths_after, path_of_row}

abbrev entry_path : IndexEntry → List ℕ
entry_path e = e.path

pub both-none : (a b : Option IndexError) → option_or a b ≡ None → (a ≡ None) × (b ≡ None)
both-none None b e = (refl, e)
both-none (Some x) b e = absurd (cc e)

-- an entry of an index stands behind all earlier ones
stands-behind : (earlier : List IndexEntry) (e : IndexEntry) → index_error_of_next_entry earlier e ≡ None → sorts_after_earlier_entries earlier e ≡ true
stands-behind earlier e none = by (not (is_valid_index_path e.path)) (not (trailing_slash_fits_mode e)) (sorts_after_earlier_entries earlier e) (not (stage_fits_earlier_entries earlier e)) none
  where
    by : (a b c d : Bool)
        → (if a then Some (Path (length earlier)) else if b then Some (ModePath (length earlier)) else if not c then Some (NotAscending (length earlier)) else if d then Some (Stage (length earlier)) else None) ≡ None
        → c ≡ true
    by true b c d f = absurd (cc f)
    by false true c d f = absurd (cc f)
    by false false true d f = refl
    by false false false d f = absurd (cc f)

last-of-all : (p : IndexEntry → Bool) (front : List IndexEntry) (x : IndexEntry) → list_all p (front ++ x ∷ []) ≡ true → p x ≡ true
last-of-all p [] x all = by (p x) all
  where
    by : (b : Bool) → (b && true) ≡ true → b ≡ true
    by true e = refl
    by false e = absurd (cc e)
last-of-all p (y ∷ front) x all = last-of-all p front x (by (p y) all)
  where
    by : (b : Bool) → (b && list_all p (front ++ x ∷ [])) ≡ true → list_all p (front ++ x ∷ []) ≡ true
    by true e = e
    by false e = absurd (cc e)

-- entries of two paths stand in the order of these
path-before : (p e : IndexEntry) → is_lt (compare_entries_by_path_and_stage p e) ≡ true → bytes_eq p.path e.path ≡ false → slice_cmp nat_cmp p.path e.path ≡ Less
path-before p e before differ = by (slice_cmp nat_cmp p.path e.path) refl before
  where
    by : (o : Ordering) → slice_cmp nat_cmp p.path e.path ≡ o → is_lt (ordering_then o (nat_cmp p.stage e.stage)) ≡ true → slice_cmp nat_cmp p.path e.path ≡ Less
    by Less is lt = is
    by Equal is lt = absurd (true≢false (sym (ap is_eq is) ∙ is_eq-slice_cmp p.path e.path ∙ differ))
    by Greater is lt = absurd (cc lt)

same-path : (p q : List ℕ) → bytes_eq p q ≡ true → p ≡ q
same-path p q same = by (slice_cmp nat_cmp p q) refl
  where
    by : (o : Ordering) → slice_cmp nat_cmp p q ≡ o → p ≡ q
    by Equal is = exact_bytes p q is
    by Less is = absurd (true≢false (sym same ∙ sym (is_eq-slice_cmp p q) ∙ ap is_eq is))
    by Greater is = absurd (true≢false (sym same ∙ sym (is_eq-slice_cmp p q) ∙ ap is_eq is))

-- each path stands before the next
abbrev Chain : List ℕ → List (List ℕ) → Type 0
Chain path [] = Unit {0}
Chain path (next ∷ paths) = (slice_cmp nat_cmp path next ≡ Less) × Chain next paths

chain : (front : List IndexEntry) (p : IndexEntry) (entries : List IndexEntry) → first_index_error_in_entries (front ++ p ∷ []) entries ≡ None → Chain p.path (map entry_path (first_entries_of_paths_after (Some p.path) entries))
chain front p [] none = tt
chain front p (e ∷ entries) none =
    let parts = both-none (index_error_of_next_entry (front ++ p ∷ []) e) (first_index_error_in_entries ((front ++ p ∷ []) ++ e ∷ []) entries) none in
    let behind = last-of-all (λ before. is_lt (compare_entries_by_path_and_stage before e)) front p (stands-behind (front ++ p ∷ []) e parts.0) in
    by (bytes_eq p.path e.path) refl behind (chain (front ++ p ∷ []) e entries parts.1)
  where
    by : (same : Bool) → bytes_eq p.path e.path ≡ same → is_lt (compare_entries_by_path_and_stage p e) ≡ true → Chain e.path (map entry_path (first_entries_of_paths_after (Some e.path) entries))
        → Chain p.path (map entry_path (if same then first_entries_of_paths_after (Some p.path) entries else e ∷ first_entries_of_paths_after (Some e.path) entries))
    by true same before more =
        subst (λ (q : List ℕ). Chain q (map entry_path (first_entries_of_paths_after (Some q) entries))) (sym (same-path p.path e.path same)) more
    by false differ before more = (path-before p e before differ, more)

all-above : (p q : List ℕ) (paths : List (List ℕ)) → slice_cmp nat_cmp p q ≡ Less → AllByRecursion (λ y. slice_cmp nat_cmp q y ≡ Less) paths → AllByRecursion (λ y. slice_cmp nat_cmp p y ≡ Less) paths
all-above p q [] before all = tt
all-above p q (y ∷ paths) before all = (nat_list_cmp_total.trans p q y before all.0, all-above p q paths before all.1)

above : (path : List ℕ) (paths : List (List ℕ)) → Chain path paths → AllByRecursion (λ y. slice_cmp nat_cmp path y ≡ Less) paths
above path [] linked = tt
above path (next ∷ paths) linked = (linked.0, all-above path next paths linked.0 (above next paths linked.1))

sorted : (path : List ℕ) (paths : List (List ℕ)) → Chain path paths → IsStrictlySortedBy (slice_cmp nat_cmp) (path ∷ paths)
unfolding IsStrictlySortedBy
sorted path [] linked = (tt, tt)
sorted path (next ∷ paths) linked = (above path (next ∷ paths) linked, sorted next paths linked.1)

sorted-firsts : (entries : List IndexEntry) → AreValidIndexEntries entries → IsStrictlySortedBy (slice_cmp nat_cmp) (map entry_path (first_entries_of_paths entries))
unfolding IsStrictlySortedBy
sorted-firsts [] is = tt
sorted-firsts (e ∷ entries) is =
    sorted e.path (map entry_path (first_entries_of_paths_after (Some e.path) entries)) (chain [] e entries (both-none (index_error_of_next_entry [] e) (first_index_error_in_entries (e ∷ []) entries) is).1)

paired-paths : (Has : IndexEntry → PathState → Type 0) (entries : List IndexEntry) (made : List PathAndState) → AreEntriesPairedWithRows Has entries made → map path_of_row made ≡ map entry_path entries
paired-paths Has [] made are = ap (map path_of_row) are
paired-paths Has (e ∷ entries) [] are = absurd are
paired-paths Has (e ∷ entries) (row ∷ made) are =
    ap (λ (p : List ℕ). p ∷ map path_of_row made) are.0 ∙ ap (λ (l : List (List ℕ)). e.path ∷ l) (paired-paths Has entries made are.2)

pub ascending-rows : (Has : IndexEntry → PathState → Type 0) (entries : List IndexEntry) (made : List PathAndState) → AreValidIndexEntries entries → AreEntriesPairedWithRows Has (first_entries_of_paths entries) made → PathsAscendStrictly made
ascending-rows Has entries made is are =
    subst (IsStrictlySortedBy (slice_cmp nat_cmp)) (sym (paired-paths Has (first_entries_of_paths entries) made are)) (sorted-firsts entries is)
