-- Rows entry by entry.
use Rattle.std.proofs.Common.{rules, arith, suc, ◌+◌, ◌-◌, ◌<◌, ◌≤◌, length, drop, drop-cons, get_or, ◌≡◌, ℕ, List, [], ◌∷◌, ◌++◌, Bool, true, false, map, Option, Some, refl, sym, ap, ◌∙◌, subst, append_assoc, Err}
use Rattle.std.specs.Prelude.{if◌then◌else◌, option_map, slice_get}
use Rattle.std.specs.Bool.{MatchBool}
use Rattle.std.specs.List.{Contains}
use Rattle.std.proofs.lemmas.List.{append-nil}
use Rattle.std.proofs.lemmas.List.Elements.{Contains-append_right}
use Rattle.gitbase_core.specs.declared.entry.IndexEntry.{IndexEntry}
use Rattle.gitbase_core.specs.Path.{is_some_equal_path}
use Rattle.worktree_fs.specs.Causes.{saturating_sum}
use Rattle.worktree_fs.specs.Kept.{KeepsTreeAndListCounts}
use Rattle.worktree_fs.specs.Tree.{Names}
use Rattle.worktree_fs.specs.declared.worktree.Worktree.{Ghosts as WorktreeOf}
use Rattle.index_status.specs.declared.error.StatesError.{StatesError}
use Rattle.index_status.specs.declared.error.StatesError.TheVariants as errors
use Rattle.index_status.specs.declared.path_state.PathState.{PathState}
use Rattle.index_status.specs.Rows.{AreEntriesPairedWithRows, ArePossibleRowsOfIndex, IsRowsWithOneMore, IsRowsWithEntryUnlessRepeated, KeepsLeastReadsForRows, RefusesStatesWithCause, PathAndState, least_files_read_for_rows, first_entries_of_paths, first_entries_of_paths_after, last_row_has_path, path_of_last_row, path_of_row, row_of_entry_over_tree}
use Rattle.index_status.specs.States.{least_reads_for_state, most_reads_for_entries, most_reads_for_entry, IsLookedAtForEntry, IsPossibleStateOfEntry, IsStateOfEntry}
use Rattle.index_status.specs.Ways.{StopsByFaultAtSomePathOrMemory, HoldsUnlessStatesFault}

paired-snoc : (Has : IndexEntry → PathState → Type 0) (entries : List IndexEntry) (made : List PathAndState) (e : IndexEntry) (s : PathState) → AreEntriesPairedWithRows Has entries made → Has e s
    → AreEntriesPairedWithRows Has (entries ++ e ∷ []) (made ++ (e.path, s) ∷ [])
paired-snoc Has [] made e s are has = subst (λ (l : List PathAndState). AreEntriesPairedWithRows Has (e ∷ []) (l ++ (e.path, s) ∷ [])) (sym are) (refl, has, refl)
paired-snoc Has (x ∷ entries) [] e s are has = absurd are
paired-snoc Has (x ∷ entries) (r ∷ made) e s are has = (are.0, are.1, paired-snoc Has entries made e s are.2 has)

paired-as : (P Q : IndexEntry → PathState → Type 0) (entries : List IndexEntry) (made : List PathAndState) → ((e : IndexEntry) (s : PathState) → P e s → Q e s) → AreEntriesPairedWithRows P entries made → AreEntriesPairedWithRows Q entries made
paired-as P Q [] made f are = are
paired-as P Q (x ∷ entries) [] f are = absurd are
paired-as P Q (x ∷ entries) (r ∷ made) f are = (are.0, f x r.1 are.1, paired-as P Q entries made f are.2)

last-snoc : (made : List PathAndState) (path : List ℕ) (s : PathState) → path_of_last_row (made ++ (path, s) ∷ []) ≡ Some path
last-snoc [] path s = refl
last-snoc (r ∷ []) path s = refl
last-snoc (r ∷ next ∷ made) path s = last-snoc (next ∷ made) path s

-- the rows of the first entries so far, and the entries that are left
pub record IsAlong {W : Type 0} (w : WorktreeOf W) (w0 w1 : W) (root : List ℕ) (entries left : List IndexEntry) (made : List PathAndState) : Type 0 where
  pub keeps : KeepsTreeAndListCounts w w0 w1
  pub done : List IndexEntry
  pub before : List IndexEntry
  pub all : first_entries_of_paths entries ≡ done ++ first_entries_of_paths_after (path_of_last_row made) left
  pub whole : entries ≡ before ++ left
  pub paired : AreEntriesPairedWithRows (IsStateOfEntry (w.told w0) root) done made
  pub reads : w.reads w1 + most_reads_for_entries left ≤ w.reads w0 + most_reads_for_entries entries
  pub read : saturating_sum (w.reads w0) (least_files_read_for_rows made) ≤ w.reads w1
  pub unfaulted : w.faults w1 ≡ w.faults w0

-- a row more
behind-snoc : (made : List PathAndState) (path : List ℕ) (s : PathState) → least_files_read_for_rows (made ++ (path, s) ∷ []) ≡ least_files_read_for_rows made + least_reads_for_state s
behind-snoc [] path s = omega arith
behind-snoc (r ∷ made) path s = let more = behind-snoc made path s in omega (arith, more)

-- a row is read for as its state is
pub reads-row : (before now : ℕ) (made more : List PathAndState) (path : List ℕ) (s : PathState) → saturating_sum before (least_reads_for_state s) ≤ now → IsRowsWithOneMore made path s more → KeepsLeastReadsForRows before now made more
reads-row before now made more path s read grown = λ start enough.
    let count = ap least_files_read_for_rows grown ∙ behind-snoc made path s in
    omega (arith, count, read, enough)

firsts-again : (before : Option (List ℕ)) (e : IndexEntry) (left : List IndexEntry) → is_some_equal_path before e.path ≡ true → first_entries_of_paths_after before (e ∷ left) ≡ first_entries_of_paths_after before left
firsts-again before e left again = ap (λ (b : Bool). if b then first_entries_of_paths_after before left else e ∷ first_entries_of_paths_after (Some e.path) left) again

firsts-new : (before : Option (List ℕ)) (e : IndexEntry) (left : List IndexEntry) → is_some_equal_path before e.path ≡ false → first_entries_of_paths_after before (e ∷ left) ≡ e ∷ first_entries_of_paths_after (Some e.path) left
firsts-new before e left new = ap (λ (b : Bool). if b then first_entries_of_paths_after before left else e ∷ first_entries_of_paths_after (Some e.path) left) new

module _ {W : Type 0} (w : WorktreeOf W) (w0 w1 w2 : W) (root : List ℕ) (entries left : List IndexEntry) (made : List PathAndState)
    (at : IsAlong w w0 w1 root entries left made) (e : IndexEntry) (rest : List IndexEntry) (left_is : left ≡ e ∷ rest)
    (few : w.reads w2 ≤ w.reads w1 + most_reads_for_entry e) where
  further : entries ≡ (at.before ++ e ∷ []) ++ rest
  further = at.whole ∙ ap (λ (l : List IndexEntry). at.before ++ l) left_is ∙ sym (append_assoc at.before (e ∷ []) rest)

  fewer : w.reads w2 + most_reads_for_entries rest ≤ w.reads w0 + most_reads_for_entries entries
  fewer = omega (arith, few, at.reads, ap most_reads_for_entries left_is)

  -- whatever comes of the entry
  pub along-reads : w.reads w2 ≤ w.reads w0 + most_reads_for_entries entries
  along-reads = omega (arith, fewer)

  along-again : last_row_has_path made e.path ≡ true → KeepsTreeAndListCounts w w1 w2 → w.faults w2 ≡ w.faults w1 → IsAlong w w0 w2 root entries rest made
  along-again again keeps unfaulted =
      let first = at.keeps in
      record {
        keeps = search rules;
        done = at.done;
        before = at.before ++ e ∷ [];
        all =
            at.all
            ∙ ap (λ (l : List IndexEntry). at.done ++ first_entries_of_paths_after (path_of_last_row made) l) left_is
            ∙ ap (λ (l : List IndexEntry). at.done ++ l) (firsts-again (path_of_last_row made) e rest again);
        whole = further;
        paired = at.paired;
        reads = fewer;
        read = let before = at.read in let later = keeps.reads in omega (arith, before, later);
        unfaulted = unfaulted ∙ at.unfaulted;
      }

  along-new : (s : PathState) (more : List PathAndState) → last_row_has_path made e.path ≡ false → KeepsTreeAndListCounts w w1 w2 → IsStateOfEntry (w.told w1) root e s → IsRowsWithOneMore made e.path s more
      → KeepsLeastReadsForRows (w.reads w1) (w.reads w2) made more → w.faults w2 ≡ w.faults w1 → IsAlong w w0 w2 root entries rest more
  along-new s more new keeps is grown read unfaulted =
      let first = at.keeps in
      subst (λ (l : List PathAndState). IsAlong w w0 w2 root entries rest l) (sym grown)
      (record {
        keeps = search rules;
        done = at.done ++ e ∷ [];
        before = at.before ++ e ∷ [];
        all =
            at.all
            ∙ ap (λ (l : List IndexEntry). at.done ++ first_entries_of_paths_after (path_of_last_row made) l) left_is
            ∙ ap (λ (l : List IndexEntry). at.done ++ l) (firsts-new (path_of_last_row made) e rest new)
            ∙ ap (λ (p : Option (List ℕ)). at.done ++ e ∷ first_entries_of_paths_after p rest) (sym (last-snoc made e.path s))
            ∙ sym (append_assoc at.done (e ∷ []) (first_entries_of_paths_after (path_of_last_row (made ++ (e.path, s) ∷ [])) rest));
        whole = further;
        paired =
            paired-snoc (IsStateOfEntry (w.told w0) root) at.done made e s at.paired
            (subst (λ (told : Option Names). IsStateOfEntry told root e s) at.keeps.tree is);
        reads = fewer;
        read = subst (λ (l : List PathAndState). saturating_sum (w.reads w0) (least_files_read_for_rows l) ≤ w.reads w2) grown (read (w.reads w0) at.read);
        unfaulted = unfaulted ∙ at.unfaulted;
      })

  pub along-entry : (more : List PathAndState) → KeepsTreeAndListCounts w w1 w2 → IsRowsWithEntryUnlessRepeated (w.told w1) root e made more → KeepsLeastReadsForRows (w.reads w1) (w.reads w2) made more
      → w.faults w2 ≡ w.faults w1 → IsAlong w w0 w2 root entries rest more
  along-entry more keeps with read unfaulted = by (last_row_has_path made e.path) refl with
    where
      by : (b : Bool) → last_row_has_path made e.path ≡ b → MatchBool b (more ≡ made) ((s : PathState) × IsStateOfEntry (w.told w1) root e s × IsRowsWithOneMore made e.path s more)
          → IsAlong w w0 w2 root entries rest more
      by true again same = subst (λ (l : List PathAndState). IsAlong w w0 w2 root entries rest l) (sym same) (along-again again keeps unfaulted)
      by false new grown = along-new grown.0 more new keeps grown.1 grown.2 read unfaulted

  contained : (before : List IndexEntry) → Contains (before ++ e ∷ rest) e
  contained before = Contains-append_right before (e ∷ rest) e (0, omega arith, refl)

  pub along-stops : (Failed Failed' : Type 0) (error : StatesError) → (Failed → Failed') → StopsByFaultAtSomePathOrMemory (IsLookedAtForEntry (w.told w1) root e) Failed error → RefusesStatesWithCause (w.told w0) root entries Failed' error
  along-stops Failed Failed' (errors.Fault path) more h = (
    more h.0,
    record {
      entry = e;
      is_entry = subst (λ (l : List IndexEntry). Contains l e) (sym (at.whole ∙ ap (λ (l : List IndexEntry). at.before ++ l) left_is)) (contained at.before);
      asks = subst (λ (told : Option Names). IsLookedAtForEntry told root e path) at.keeps.tree h.1;
    },
  )
  along-stops Failed Failed' errors.OutOfMemory more h = tt

-- what want of memory says, it says later too
pub unless-later : (Then Later : Type 0) (error : StatesError) → (Then → Later) → HoldsUnlessStatesFault {T = ℕ} (Err error) Then → HoldsUnlessStatesFault {T = ℕ} (Err error) Later
unless-later Then Later (errors.Fault path) more h = tt
unless-later Then Later errors.OutOfMemory more h = more h

module _ (told : Option Names) (root : List ℕ) (entries : List IndexEntry) (made : List PathAndState) (paired : AreEntriesPairedWithRows (IsStateOfEntry told root) (first_entries_of_paths entries) made) where
  pub possible-rows : ArePossibleRowsOfIndex entries made
  possible-rows = paired-as (IsStateOfEntry told root) IsPossibleStateOfEntry (first_entries_of_paths entries) made (λ e s is. is.possible) paired

pub paired-told : (told : Option Names) (t : Names) (root : List ℕ) (entries : List IndexEntry) (made : List PathAndState) → told ≡ Some t → AreEntriesPairedWithRows (IsStateOfEntry told root) entries made → made ≡ map (row_of_entry_over_tree t root) entries
paired-told told t root [] made tells are = are
paired-told told t root (e ∷ entries) [] tells are = absurd are
paired-told told t root (e ∷ entries) ((path, s) ∷ made) tells are =
    ap (λ (p : List ℕ). (p, s) ∷ made) are.0
    ∙ ap (λ (x : PathState). (e.path, x) ∷ made) (are.1.exact t tells)
    ∙ ap (λ (l : List PathAndState). row_of_entry_over_tree t root e ∷ l) (paired-told told t root entries made tells are.2)

pub along-done : {W : Type 0} (w : WorktreeOf W) (w0 w1 : W) (root : List ℕ) (entries left : List IndexEntry) (made : List PathAndState) → IsAlong w w0 w1 root entries left made → left ≡ []
    → AreEntriesPairedWithRows (IsStateOfEntry (w.told w0) root) (first_entries_of_paths entries) made
along-done w w0 w1 root entries left made at none =
    subst (λ (l : List IndexEntry). AreEntriesPairedWithRows (IsStateOfEntry (w.told w0) root) l made)
    (sym (at.all ∙ ap (λ (l : List IndexEntry). at.done ++ first_entries_of_paths_after (path_of_last_row made) l) none ∙ append-nil at.done)) at.paired

-- the last row stands at the end
pub last-is : (made : List PathAndState) → path_of_last_row made ≡ option_map path_of_row (slice_get made (length made - 1))
last-is [] = refl
last-is (r ∷ []) = refl
last-is (r ∷ next ∷ made) =
    let here : length (r ∷ next ∷ made) - 1 ≡ suc (length made) = omega arith in
    let there : length (next ∷ made) - 1 ≡ length made = omega arith in
    last-is (next ∷ made)
    ∙ ap (λ (k : ℕ). option_map path_of_row (slice_get (next ∷ made) k)) there
    ∙ sym (ap (λ (k : ℕ). option_map path_of_row (slice_get (r ∷ next ∷ made) k)) here)

asks-nothing : {W : Type 0} (w : WorktreeOf W) (w0 : W) → KeepsTreeAndListCounts w w0 w0
asks-nothing w w0 = search rules

pub along-start : {W : Type 0} (w : WorktreeOf W) (w0 : W) (root : List ℕ) (entries left : List IndexEntry) (made : List PathAndState) → left ≡ entries → made ≡ [] → IsAlong w w0 w0 root entries left made
along-start w w0 root entries left made whole none =
    subst (λ (l : List PathAndState). IsAlong w w0 w0 root entries left l) (sym none)
    (record {
      keeps = asks-nothing w w0;
      done = [];
      before = [];
      all = ap first_entries_of_paths (sym whole);
      whole = sym whole;
      paired = refl;
      reads = omega (arith, ap most_reads_for_entries whole);
      read = omega arith;
      unfaulted = refl;
    })

-- the first of what is left of a list
pub next-left : (entries : List IndexEntry) (i : ℕ) (e : IndexEntry) → i < length entries → e ≡ get_or entries i e → drop i entries ≡ e ∷ drop (i + 1) entries
next-left entries i e lt is =
    let one : suc i ≡ i + 1 = omega arith in
    drop-cons entries i e lt
    ∙ ap (λ (x : IndexEntry). x ∷ drop (suc i) entries) (sym is)
    ∙ ap (λ (k : ℕ). e ∷ drop k entries) one
