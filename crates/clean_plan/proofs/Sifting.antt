-- What is known of the entries of a report, one entry after another.
use Rattle.std.proofs.Common.{◌≡◌, ◌⊎◌, inl, inr, ℕ, ◌+◌, ◌<◌, ◌≤◌, min, max, List, [], ◌∷◌, ◌++◌, Bool, true, false, Result, Ok, Err, IfOk, OnOk, cond, not, ◌||◌, ◌&&◌, length, take, get_or, map, filter, refl, sym, ap, subst, ◌∙◌}
use Rattle.std.specs.Prelude.{nat_lt}
use Rattle.std.specs.List.{list_any}
use Rattle.std.proofs.lemmas.Bool.{cases_lt, lt-ltb, ltb-true, true≢false}
use Rattle.std.proofs.lemmas.List.{map-append, take_more}
use Rattle.gitbase_core.specs.Path.{is_beneath_directory}
use Rattle.dir_classify.specs.declared.entry.Entry.{Entry}
use Rattle.worktree_report.specs.declared.report.ReportEntry.{ReportEntry}
use Rattle.clean_plan.specs.Above.{length_past_longest_passing_ancestor}
use Rattle.clean_plan.specs.Asked.{CleanPlanInputs}
use Rattle.clean_plan.specs.Kept.{specs_exclude_directory}
use Rattle.clean_plan.specs.Paths.{is_text_in_list}
use Rattle.clean_plan.specs.Plans.{entries_of_report_entries, entry_of_report_entry, rela_path_of_entry, paths_of_removable_entries}
use Rattle.clean_plan.specs.Removable.{is_entry_removable_by_itself}
use Rattle.clean_plan.specs.declared.what.OtherNodes.{OtherNodes}
use Rattle.clean_plan.specs.Staying.{ArePathsOfKeptUntrackables, has_kept_untrackable_at_path, is_kept_untrackable_at_path}
use Rattle.clean_plan.specs.Sifted.{AreRemovableAndBlockedPaths, KnowsBlockedAncestorsOfPath, paths_with_entry_if_removable}
use Rattle.clean_plan.specs.Whole.{specs_exclude_directory_between, blocks_whole_removal}
use Rattle.clean_plan.proofs.Directories.{above-shorter}
use Rattle.clean_plan.proofs.Jointly.{shared-above}
use Rattle.clean_plan.proofs.Reached.{reach-is}
use Rattle.std.proofs.Common.{arith}

-- ---- one entry

spoils-by : (removable beneath less out : Bool) → (beneath ≡ true → less ≡ (not removable || out)) → (beneath && less) ≡ (beneath && (not removable || out))
spoils-by removable true less out h = h refl
spoils-by removable false less out h = refl

pub spoils-removable : (asked : CleanPlanInputs) (e : Entry) (d : List ℕ) → is_entry_removable_by_itself asked e ≡ true
    → (is_beneath_directory d e.rela_path && nat_lt (length d) (length_past_longest_passing_ancestor (specs_exclude_directory asked.specs) (length e.rela_path) e.rela_path)) ≡ blocks_whole_removal asked d e
spoils-removable asked e d may =
    spoils-by (is_entry_removable_by_itself asked e) (is_beneath_directory d e.rela_path) (nat_lt (length d) (length_past_longest_passing_ancestor (specs_exclude_directory asked.specs) (length e.rela_path) e.rela_path)) (specs_exclude_directory_between asked d e.rela_path)
    (λ above. reach-is (specs_exclude_directory asked.specs) (length e.rela_path) e.rela_path d (omega arith) above ∙ sym (ap (λ (b : Bool). not b || specs_exclude_directory_between asked d e.rela_path) may))

pub spoils-other : (asked : CleanPlanInputs) (e : Entry) (d : List ℕ) → is_entry_removable_by_itself asked e ≡ false
    → (is_beneath_directory d e.rela_path && nat_lt (length d) (length e.rela_path)) ≡ blocks_whole_removal asked d e
spoils-other asked e d may =
    spoils-by (is_entry_removable_by_itself asked e) (is_beneath_directory d e.rela_path) (nat_lt (length d) (length e.rela_path)) (specs_exclude_directory_between asked d e.rela_path)
    (λ above. lt-ltb (length d) (length e.rela_path) (above-shorter d e.rela_path above) ∙ sym (ap (λ (b : Bool). not b || specs_exclude_directory_between asked d e.rela_path) may))

-- ---- what is known of the last path

module _ (out : List ℕ → Bool) (spoiled : List (List ℕ)) (last path : List ℕ) (added : ℕ) (is : KnowsBlockedAncestorsOfPath out spoiled last added)
    (shared : ℕ) (in_last : shared ≤ length last) (in_path : shared ≤ length path) (same : take shared last ≡ take shared path) (begin : ℕ) (least : begin ≡ min added shared) where
  pub begun-spoiled : (d : List ℕ) → is_beneath_directory d path ≡ true → length d < begin → is_text_in_list d spoiled ≡ true
  begun-spoiled d above short =
      is.spoiled_below d (shared-above shared last path in_last in_path same d above (omega (arith, least, short))) (omega (arith, least, short))

  pub begun-out : (d : List ℕ) → is_beneath_directory d path ≡ true → begin ≤ length d → length d < shared → out d ≡ false
  begun-out d above long short =
      is.none_out d (shared-above shared last path in_last in_path same d above short) (omega (arith, least, long, short))

-- what it spoils is spoiled, where the directories with fewer bytes were spoiled before
spoiled-cases : (above less less_now old : Bool) → (above ≡ true → (less ≡ less_now) ⊎ (old ≡ true)) → ((above && less) || old) ≡ ((above && less_now) || old)
spoiled-cases false less less_now old h = refl
spoiled-cases true less less_now old h = go (h refl)
  where
    or_true : (b : Bool) → (b || true) ≡ true
    or_true true = refl
    or_true false = refl

    go : (less ≡ less_now) ⊎ (old ≡ true) → (less || old) ≡ (less_now || old)
    go (inl e) = ap (λ (b : Bool). b || old) e
    go (inr e) = rw e (or_true less ∙ sym (or_true less_now))

same-less : (a b c : ℕ) → b ≤ a → nat_lt a (max b c) ≡ nat_lt a c
same-less a b c h = go (nat_lt a (max b c)) (nat_lt a c) refl refl
  where
    go : (x y : Bool) → nat_lt a (max b c) ≡ x → nat_lt a c ≡ y → x ≡ y
    go true true e f = refl
    go false false e f = refl
    go true false e f = let less = ltb-true a (max b c) e in absurd (true≢false (sym (lt-ltb a c (omega (arith, less, h))) ∙ f))
    go false true e f = let less = ltb-true a c f in absurd (true≢false (sym (lt-ltb a (max b c) (omega (arith, less))) ∙ e))

pub begun-reach : (spoiled : List (List ℕ)) (path : List ℕ) (begin reached : ℕ) → ((d : List ℕ) → is_beneath_directory d path ≡ true → length d < begin → is_text_in_list d spoiled ≡ true)
    → (d : List ℕ) → ((is_beneath_directory d path && nat_lt (length d) (max begin reached)) || is_text_in_list d spoiled) ≡ ((is_beneath_directory d path && nat_lt (length d) reached) || is_text_in_list d spoiled)
begun-reach spoiled path begin reached before d =
    spoiled-cases (is_beneath_directory d path) (nat_lt (length d) (max begin reached)) (nat_lt (length d) reached) (is_text_in_list d spoiled) (λ above. by above (cases_lt (length d) begin))
  where
    by : is_beneath_directory d path ≡ true → (length d < begin) ⊎ (begin ≤ length d) → (nat_lt (length d) (max begin reached) ≡ nat_lt (length d) reached) ⊎ (is_text_in_list d spoiled ≡ true)
    by above (inl less) = inr (before d above less)
    by above (inr least) = inl (same-less (length d) begin reached least)

-- what is known of this path, once it was looked at
pub looked-now : (out : List ℕ → Bool) (old now : List (List ℕ)) (path : List ℕ) (reach : ℕ) → reach ≤ length path
    → ((d : List ℕ) → is_text_in_list d now ≡ ((is_beneath_directory d path && nat_lt (length d) reach) || is_text_in_list d old))
    → ((d : List ℕ) → is_beneath_directory d path ≡ true → reach ≤ length d → out d ≡ false) → KnowsBlockedAncestorsOfPath out now path reach
looked-now out old now path reach within spoiled none =
    record {
      within = within;
      spoiled_below = λ d above short. spoiled d ∙ ap (λ (b : Bool). (b && nat_lt (length d) reach) || is_text_in_list d old) above ∙ ap (λ (b : Bool). b || is_text_in_list d old) (lt-ltb (length d) reach short);
      none_out = none;
    }

-- the same of what is answered
pub looked-ok : {X E : Type 0} (path_of : X → List ℕ) (added_of : X → ℕ) (out : List ℕ → Bool) (old now : List (List ℕ)) (path : List ℕ) (reach : ℕ) (result : Result X E) → reach ≤ length path
    → ((d : List ℕ) → OnOk result (is_text_in_list d now ≡ ((is_beneath_directory d path && nat_lt (length d) reach) || is_text_in_list d old)))
    → IfOk result (λ x. path_of x ≡ path) → IfOk result (λ x. added_of x ≡ reach)
    → ((d : List ℕ) → is_beneath_directory d path ≡ true → reach ≤ length d → out d ≡ false) → IfOk result (λ x. KnowsBlockedAncestorsOfPath out now (path_of x) (added_of x))
looked-ok path_of added_of out old now path reach (Ok x) within spoiled at added none =
    subst (λ (p : List ℕ). KnowsBlockedAncestorsOfPath out now p (added_of x)) (sym at) (subst (λ (n : ℕ). KnowsBlockedAncestorsOfPath out now path n) (sym added) (looked-now out old now path reach within spoiled none))
looked-ok path_of added_of out old now path reach (Err e) within spoiled at added none = tt

pub looked-first : (out : List ℕ → Bool) (spoiled : List (List ℕ)) → KnowsBlockedAncestorsOfPath out spoiled [] 0
looked-first out spoiled = record { within = omega arith; spoiled_below = λ d above short. absurd (omega (arith, short)); none_out = λ d above long. absurd (let short = above-shorter d [] above in omega (arith, short)) }

-- ---- one entry more

or_swap : (a b c : Bool) → (a || (b || c)) ≡ (b || (a || c))
or_swap true true c = refl
or_swap true false c = refl
or_swap false b c = refl

pub any-more : {X : Type 0} (test : X → Bool) (xs : List X) (x : X) → list_any test (xs ++ x ∷ []) ≡ (test x || list_any test xs)
any-more test [] x = refl
any-more test (y ∷ xs) x = ap (λ (b : Bool). test y || b) (any-more test xs x) ∙ or_swap (test y) (test x) (list_any test xs)

paths-more : (asked : CleanPlanInputs) (entries : List Entry) (e : Entry) → paths_with_entry_if_removable asked e (paths_of_removable_entries asked entries) ≡ paths_of_removable_entries asked (entries ++ e ∷ [])
paths-more asked [] e = go (is_entry_removable_by_itself asked e)
  where
    go : (b : Bool) → cond b ([] ++ e.rela_path ∷ []) [] ≡ map rela_path_of_entry (cond b (e ∷ []) [])
    go true = refl
    go false = refl
paths-more asked (x ∷ entries) e = go (is_entry_removable_by_itself asked x) (is_entry_removable_by_itself asked e) (paths_of_removable_entries asked entries) (filter (is_entry_removable_by_itself asked) entries) (filter (is_entry_removable_by_itself asked) (entries ++ e ∷ [])) refl (paths-more asked entries e)
  where
    go : (a b : Bool) (paths : List (List ℕ)) (fs gs : List Entry) → paths ≡ map rela_path_of_entry fs → cond b (paths ++ e.rela_path ∷ []) paths ≡ map rela_path_of_entry gs
        → cond b (map rela_path_of_entry (cond a (x ∷ fs) fs) ++ e.rela_path ∷ []) (map rela_path_of_entry (cond a (x ∷ fs) fs)) ≡ map rela_path_of_entry (cond a (x ∷ gs) gs)
    go true true paths fs gs is more = ap (λ (ps : List (List ℕ)). x.rela_path ∷ (ps ++ e.rela_path ∷ [])) (sym is) ∙ ap (λ (ps : List (List ℕ)). x.rela_path ∷ ps) more
    go true false paths fs gs is more = ap (λ (ps : List (List ℕ)). x.rela_path ∷ ps) (sym is ∙ more)
    go false true paths fs gs is more = ap (λ (ps : List (List ℕ)). ps ++ e.rela_path ∷ []) (sym is) ∙ more
    go false false paths fs gs is more = sym is ∙ more

sifted-more : (asked : CleanPlanInputs) (entries : List Entry) (e : Entry) (paths spoiled more now : List (List ℕ)) → AreRemovableAndBlockedPaths asked entries paths spoiled → more ≡ paths_with_entry_if_removable asked e paths
    → ((d : List ℕ) → is_text_in_list d now ≡ (blocks_whole_removal asked d e || is_text_in_list d spoiled)) → AreRemovableAndBlockedPaths asked (entries ++ e ∷ []) more now
sifted-more asked entries e paths spoiled more now so removable spoils_now =
    record {
      paths_are = removable ∙ ap (paths_with_entry_if_removable asked e) so.paths_are ∙ paths-more asked entries e;
      spoiled_are = λ d. spoils_now d ∙ ap (λ (b : Bool). blocks_whole_removal asked d e || b) (so.spoiled_are d) ∙ sym (any-more (blocks_whole_removal asked d) entries e);
    }

-- of the entries of a report, one more
one-more : (entries : List ReportEntry) (at : ℕ) (e : ReportEntry) → at < length entries → e ≡ get_or entries at e
    → entries_of_report_entries (take (at + 1) entries) ≡ entries_of_report_entries (take at entries) ++ entry_of_report_entry e ∷ []
one-more entries at e short is =
    ap entries_of_report_entries (take_more entries at e short) ∙ map-append entry_of_report_entry (take at entries) (get_or entries at e ∷ []) ∙ ap (λ (x : ReportEntry). entries_of_report_entries (take at entries) ++ entry_of_report_entry x ∷ []) (sym is)

pub sifted-next : (asked : CleanPlanInputs) (entries : List ReportEntry) (at : ℕ) (e : ReportEntry) (paths spoiled more now : List (List ℕ)) → at < length entries
    → e ≡ get_or entries at e → AreRemovableAndBlockedPaths asked (entries_of_report_entries (take at entries)) paths spoiled → more ≡ paths_with_entry_if_removable asked (entry_of_report_entry e) paths
    → ((x : List ℕ) → is_text_in_list x now ≡ (blocks_whole_removal asked x (entry_of_report_entry e) || is_text_in_list x spoiled)) → AreRemovableAndBlockedPaths asked (entries_of_report_entries (take (at + 1) entries)) more now
sifted-next asked entries at e paths spoiled more now short is so removable spoils_now =
    subst (λ (es : List Entry). AreRemovableAndBlockedPaths asked es more now) (sym (one-more entries at e short is))
    (sifted-more asked (entries_of_report_entries (take at entries)) (entry_of_report_entry e) paths spoiled more now so removable spoils_now)

pub staying-next : (others : OtherNodes) (entries : List ReportEntry) (at : ℕ) (e : ReportEntry) (paths now : List (List ℕ)) → at < length entries → e ≡ get_or entries at e
    → ArePathsOfKeptUntrackables others (entries_of_report_entries (take at entries)) paths → ((x : List ℕ) → is_text_in_list x now ≡ (is_kept_untrackable_at_path others x (entry_of_report_entry e) || is_text_in_list x paths))
    → ArePathsOfKeptUntrackables others (entries_of_report_entries (take (at + 1) entries)) now
staying-next others entries at e paths now short is so stays_now = λ x.
    stays_now x ∙ ap (λ (b : Bool). is_kept_untrackable_at_path others x (entry_of_report_entry e) || b) (so x) ∙ sym (any-more (is_kept_untrackable_at_path others x) (entries_of_report_entries (take at entries)) (entry_of_report_entry e))
    ∙ ap (λ (es : List Entry). has_kept_untrackable_at_path others es x) (sym (one-more entries at e short is))
