-- What is found among the entries beneath a directory, and what is found among all.
use Rattle.std.proofs.Common.{◌≡◌, ℕ, suc, ◌+◌, ◌-◌, ◌<◌, ◌≤◌, Bool, true, false, ◌&&◌, ◌==◌, List, [], ◌∷◌, ◌++◌, length, take, drop, cond, get_or, Option, Some, None, refl, sym, ap, ◌∙◌, arith, inl, inr}
use Rattle.std.specs.Prelude.{filter, find, nat_eq}
use Rattle.std.specs.List.{starts_with, slice_range}
use Rattle.std.specs.Ordering.{is_le}
use Rattle.std.specs.Str.{bytes_eq}
use Rattle.std.proofs.lemmas.List.{get_or-take, get_or-drop, length-take-le, length-drop, length-append, append_assoc, drop-drop}
use Rattle.std.proofs.lemmas.Bool.{cases_lt}
use Rattle.std.proofs.lemmas.Bool.Decides.{nat_tests}
use Rattle.gitbase_core.specs.Index.{compare_path_bytes, entry_path_begins_with, key_begins_with_prefix, entry_path_after_skipped_bytes, first_entry_at_path, IsExactRangeOfMatches, IsSortedByPathKey}
use Rattle.gitbase_core.specs.Kinds.{entries_beneath_path, kinds_from_entry_or_entries_beneath, kinds}
use Rattle.gitbase_core.specs.Path.{is_empty, path_joined_with_slash, path_with_trailing_slash}
use Rattle.gitbase_core.specs.View.{DirectoryEntriesView, IsViewOfEntriesBeneath, index_kinds_of_name_in_view}
use Rattle.gitbase_core.specs.declared.entry.IndexEntry.{IndexEntry}
use Rattle.gitbase_core.proofs.RunLists.{filter-run}
use Rattle.gitbase_core.proofs.DirectoryPrefix.{begins-append, equals-append, front-and-rest, cmp-front, joined-front, front-joined}

-- ---- lists that are filtered twice

module _ {X : Type 0} (f p q : X → Bool) (both : (x : X) → p x ≡ (f x && q x)) where
  pub find-filter : (xs : List X) → find p xs ≡ find q (filter f xs)
  find-filter [] = refl
  find-filter (x ∷ xs) = by_test (f x) refl (find-filter xs)
    where
      by_test : (t : Bool) → f x ≡ t → find p xs ≡ find q (filter f xs)
          → cond (p x) (Some x) (find p xs) ≡ find q (cond t (x ∷ filter f xs) (filter f xs))
      by_test true e more = rw (both x, e) (ap (λ (r : Option X). cond (q x) (Some x) r) more)
      by_test false e more = rw (both x, e) more

  pub filter-filter : (xs : List X) → filter p xs ≡ filter q (filter f xs)
  filter-filter [] = refl
  filter-filter (x ∷ xs) = by_test (f x) refl (filter-filter xs)
    where
      by_test : (t : Bool) → f x ≡ t → filter p xs ≡ filter q (filter f xs)
          → cond (p x) (x ∷ filter p xs) (filter p xs) ≡ filter q (cond t (x ∷ filter f xs) (filter f xs))
      by_test true e more = rw (both x, e) (ap (λ (r : List X). cond (q x) (x ∷ r) r) more)
      by_test false e more = rw (both x, e) more

-- ---- what the entries beneath a directory say

not_zero : (n : ℕ) → (suc n == 0) ≡ false
not_zero n = grind (arith, nat_tests)

kinds-front : (index : List IndexEntry) (front name : List ℕ)
    → kinds_from_entry_or_entries_beneath (find (λ e. bytes_eq (drop (length front) e.path) name) (filter (entry_path_begins_with front) index))
    (cond ((length front == 0) && is_empty name) [] (filter (λ e. starts_with nat_eq (drop (length front) e.path) (name ++ 47 ∷ [])) (filter (entry_path_begins_with front) index)))
    ≡ kinds index (front ++ name)
kinds-front index front name =
    ap (λ at. kinds_from_entry_or_entries_beneath at (cond ((length front == 0) && is_empty name) [] (filter (λ e. starts_with nat_eq (drop (length front) e.path) (name ++ 47 ∷ [])) (filter (entry_path_begins_with front) index))))
    (sym (find-filter (entry_path_begins_with front) (λ e. bytes_eq e.path (front ++ name)) (λ e. bytes_eq (drop (length front) e.path) name)
    (λ e. equals-append front name e.path) index))
    ∙ ap (kinds_from_entry_or_entries_beneath (first_entry_at_path (front ++ name) index)) (beneath front)
  where
    beneath : (front : List ℕ) → cond ((length front == 0) && is_empty name) [] (filter (λ e. starts_with nat_eq (drop (length front) e.path) (name ++ 47 ∷ [])) (filter (entry_path_begins_with front) index))
        ≡ entries_beneath_path (front ++ name) index
    beneath [] = by_name name
      where
        by_name : (name : List ℕ) → cond (is_empty name) [] (filter (λ e. starts_with nat_eq e.path (name ++ 47 ∷ [])) (filter (entry_path_begins_with []) index))
            ≡ entries_beneath_path name index
        by_name [] = refl
        by_name (b ∷ name) = sym (filter-filter (entry_path_begins_with []) (entry_path_begins_with (b ∷ name ++ 47 ∷ [])) (entry_path_begins_with (b ∷ name ++ 47 ∷ [])) (λ e. refl) index)
    beneath (f ∷ front) =
        ap (λ (t : Bool). cond (t && is_empty name) [] (filter (λ e. starts_with nat_eq (drop (length (f ∷ front)) e.path) (name ++ 47 ∷ [])) (filter (entry_path_begins_with (f ∷ front)) index)))
        (not_zero (length front))
        ∙ sym (filter-filter (entry_path_begins_with (f ∷ front)) (entry_path_begins_with ((f ∷ front ++ name) ++ 47 ∷ []))
        (λ e. starts_with nat_eq (drop (length (f ∷ front)) e.path) (name ++ 47 ∷ []))
        (λ e. ap (λ (p : List ℕ). starts_with nat_eq e.path p) (append_assoc (f ∷ front) name (47 ∷ []))
        ∙ begins-append (f ∷ front) (name ++ 47 ∷ []) e.path) index)

kinds-empty : (skip : ℕ) (index : List IndexEntry) (front name : List ℕ) → filter (entry_path_begins_with front) index ≡ []
    → index_kinds_of_name_in_view (record { entries = []; skip = skip }) name ≡ kinds index (front ++ name)
kinds-empty skip index front name none =
    by_test ((skip == 0) && is_empty name) ((length front == 0) && is_empty name)
    ∙ ap (λ (run : List IndexEntry). kinds_from_entry_or_entries_beneath (find (λ e. bytes_eq (drop (length front) e.path) name) run)
    (cond ((length front == 0) && is_empty name) [] (filter (λ e. starts_with nat_eq (drop (length front) e.path) (name ++ 47 ∷ [])) run))) (sym none)
    ∙ kinds-front index front name
  where
    by_test : (t u : Bool) → kinds_from_entry_or_entries_beneath None (cond t [] []) ≡ kinds_from_entry_or_entries_beneath None (cond u [] [])
    by_test true true = refl
    by_test true false = refl
    by_test false true = refl
    by_test false false = refl

kinds-some : (skip : ℕ) (index : List IndexEntry) (front name : List ℕ) (run : List IndexEntry) → run ≡ filter (entry_path_begins_with front) index
    → skip ≡ length front → index_kinds_of_name_in_view (record { entries = run; skip = skip }) name ≡ kinds index (front ++ name)
kinds-some skip index front name run same skips = rw (same, skips) (kinds-front index front name)

-- what is said of a name beneath a directory is what the index says of the path
pub kinds-beneath : (index : List IndexEntry) (directory : List ℕ) (under : DirectoryEntriesView) (name : List ℕ) → IsViewOfEntriesBeneath index directory under
    → index_kinds_of_name_in_view under name ≡ kinds index (path_joined_with_slash directory name)
kinds-beneath index directory under name is =
    by_run under.entries is.same is.skips ∙ ap (kinds index) (sym (joined-front directory name))
  where
    by_run : (run : List IndexEntry) → run ≡ filter (entry_path_begins_with (path_with_trailing_slash directory)) index
        → (0 < length run → under.skip ≡ length (path_with_trailing_slash directory))
        → index_kinds_of_name_in_view (record { entries = run; skip = under.skip }) name ≡ kinds index (path_with_trailing_slash directory ++ name)
    by_run [] same skips = kinds-empty under.skip index (path_with_trailing_slash directory) name (sym same)
    by_run (e ∷ run) same skips = kinds-some under.skip index (path_with_trailing_slash directory) name (e ∷ run) same (skips (omega arith))

-- ---- a run within a run

module _ {X : Type 0} (key : X → List ℕ) (more : List ℕ) (xs : List X) (never : IsSortedByPathKey key xs)
    (start end : ℕ) (run : IsExactRangeOfMatches (key_begins_with_prefix key more) xs start end) where
  -- behind a front that all of a run have, the keys do not fall either
  pub never-narrowed : IsSortedByPathKey (λ x. drop (length more) (key x)) (slice_range xs start end)
  never-narrowed = record {
    at = λ i j d low high.
        let order = run.order in
        let fits = run.fits in
        let behind = length-drop start xs in
        let size = length-take-le (end - start) (drop start xs) (omega arith) in
        let at_i = get_or-take (end - start) (drop start xs) i d (omega arith) ∙ get_or-drop start xs i d in
        let at_j = get_or-take (end - start) (drop start xs) j d (omega arith) ∙ get_or-drop start xs j d in
        let a : List ℕ = key (get_or xs (start + i) d) in
        let b : List ℕ = key (get_or xs (start + j) d) in
        let front_a : more ++ drop (length more) a ≡ a = front-and-rest more a (run.inside (start + i) d (omega arith) (omega arith)) in
        let front_b : more ++ drop (length more) b ≡ b = front-and-rest more b (run.inside (start + j) d (omega arith) (omega arith)) in
        rw (at_i, at_j)
        (ap is_le (sym (cmp-front more (drop (length more) a) (drop (length more) b)))
        ∙ ap (λ (p : List ℕ). is_le (compare_path_bytes p (more ++ drop (length more) b))) front_a
        ∙ ap (λ (p : List ℕ). is_le (compare_path_bytes a p)) front_b
        ∙ never.at (start + i) (start + j) d (omega arith) (omega arith));
  }

-- paths behind a longer front
pub never-longer : (skip : ℕ) (more : List ℕ) (entries : List IndexEntry) (longer : ℕ) → longer ≡ skip + length more
    → IsSortedByPathKey (λ e. drop (length more) (entry_path_after_skipped_bytes skip e)) entries → IsSortedByPathKey (entry_path_after_skipped_bytes longer) entries
never-longer skip more entries longer is never = record {
  at = λ i j d low high.
      rw (is, ← drop-drop (length more) skip (get_or entries i d).path, ← drop-drop (length more) skip (get_or entries j d).path)
      (never.at i j d low high);
}

-- the run of a directory within that of its parent is its run within the index
pub beneath-run : (index : List IndexEntry) (directory name : List ℕ) (under : DirectoryEntriesView) → IsViewOfEntriesBeneath index directory under
    → filter (key_begins_with_prefix (entry_path_after_skipped_bytes under.skip) (path_with_trailing_slash name)) under.entries ≡ filter (entry_path_begins_with (path_with_trailing_slash (path_joined_with_slash directory name))) index
beneath-run index directory name under is =
    by_run under.entries is.same is.skips ∙ ap (λ (p : List ℕ). filter (entry_path_begins_with p) index) (sym (front-joined directory name))
  where
    whole : filter (key_begins_with_prefix (entry_path_after_skipped_bytes (length (path_with_trailing_slash directory))) (path_with_trailing_slash name)) (filter (entry_path_begins_with (path_with_trailing_slash directory)) index)
        ≡ filter (entry_path_begins_with (path_with_trailing_slash directory ++ path_with_trailing_slash name)) index
    whole = sym (filter-filter (entry_path_begins_with (path_with_trailing_slash directory)) (entry_path_begins_with (path_with_trailing_slash directory ++ path_with_trailing_slash name))
        (key_begins_with_prefix (entry_path_after_skipped_bytes (length (path_with_trailing_slash directory))) (path_with_trailing_slash name)) (λ e. begins-append (path_with_trailing_slash directory) (path_with_trailing_slash name) e.path) index)

    some : (skip : ℕ) (run : List IndexEntry) → run ≡ filter (entry_path_begins_with (path_with_trailing_slash directory)) index → skip ≡ length (path_with_trailing_slash directory)
        → filter (key_begins_with_prefix (entry_path_after_skipped_bytes skip) (path_with_trailing_slash name)) run ≡ filter (entry_path_begins_with (path_with_trailing_slash directory ++ path_with_trailing_slash name)) index
    some skip run same skips = rw (skips) (ap (filter (key_begins_with_prefix (entry_path_after_skipped_bytes (length (path_with_trailing_slash directory))) (path_with_trailing_slash name))) same ∙ whole)

    by_run : (run : List IndexEntry) → run ≡ filter (entry_path_begins_with (path_with_trailing_slash directory)) index
        → (0 < length run → under.skip ≡ length (path_with_trailing_slash directory))
        → filter (key_begins_with_prefix (entry_path_after_skipped_bytes under.skip) (path_with_trailing_slash name)) run ≡ filter (entry_path_begins_with (path_with_trailing_slash directory ++ path_with_trailing_slash name)) index
    by_run [] same skips = ap (filter (key_begins_with_prefix (entry_path_after_skipped_bytes (length (path_with_trailing_slash directory))) (path_with_trailing_slash name))) same ∙ whole
    by_run (e ∷ run) same skips = some under.skip (e ∷ run) same (skips (omega arith))

less : (a b : ℕ) → a ≤ b → (a ≡ b → ⊥) → a < b
less a b order differs = elim (cases_lt a b) [ inl low ↦ low | inr high ↦ let same : a ≡ b = omega arith in absurd (differs same) ]

module _ (index : List IndexEntry) (directory name front : List ℕ) (entries : List IndexEntry) (skip start end : ℕ)
    (is : IsViewOfEntriesBeneath index directory (record { entries = entries; skip = skip })) (whole : front ≡ path_with_trailing_slash name)
    (run : IsExactRangeOfMatches (key_begins_with_prefix (entry_path_after_skipped_bytes skip) front) entries start end) where
  run-same : slice_range entries start end ≡ filter (entry_path_begins_with (path_with_trailing_slash (path_joined_with_slash directory name))) index
  run-same =
      sym (filter-run (key_begins_with_prefix (entry_path_after_skipped_bytes skip) front) entries start end run)
      ∙ ap (λ (more : List ℕ). filter (key_begins_with_prefix (entry_path_after_skipped_bytes skip) more) entries) whole
      ∙ beneath-run index directory name (record { entries = entries; skip = skip }) is

  pub beneath-some : (longer : ℕ) → (start ≡ end → ⊥) → longer ≡ skip + length front
      → IsViewOfEntriesBeneath index (path_joined_with_slash directory name) (record { entries = slice_range entries start end; skip = longer })
  beneath-some longer some skips = record {
    same = run-same;
    skips = λ _.
        let order = run.order in
        let fits = run.fits in
        let there : start < end = less start end run.order some in
        let before : skip ≡ length (path_with_trailing_slash directory) = is.skips (omega arith) in
        let behind : length front ≡ length (path_with_trailing_slash name) = ap length whole in
        let total = length-append (path_with_trailing_slash directory) (path_with_trailing_slash name) in
        let path : length (path_with_trailing_slash (path_joined_with_slash directory name)) ≡ length (path_with_trailing_slash directory ++ path_with_trailing_slash name) = ap length (front-joined directory name) in
        omega arith;
  }

  pub beneath-none : start ≡ end → IsViewOfEntriesBeneath index (path_joined_with_slash directory name) (record { entries = []; skip = 0 })
  beneath-none none = record {
    same = ap (λ (n : ℕ). take n (drop start entries)) (let zero : 0 ≡ end - start = omega arith in zero) ∙ run-same;
    skips = λ some. absurd (omega arith);
  }
