-- The paths that are planned for the paths of entries that may go, one after another.
use Rattle.std.proofs.Common.{◌≡◌, ◌⊎◌, inl, inr, ℕ, ◌<◌, ◌≤◌, List, [], ◌∷◌, ◌++◌, Bool, true, false, cond, not, ◌||◌, ◌&&◌, bytes_eq, length, take, get_or, ◌+◌, Bor, Result, Ok, Err, map, filter, refl, sym, ap, subst, ◌∙◌, arith}
use Rattle.std.specs.Prelude.{IfOk}
use Rattle.std.specs.List.{list_any}
use Rattle.std.proofs.lemmas.List.{map-append, take_more}
use Rattle.std.specs.Cmp.Lexicographic.{same_text}
use Rattle.std.proofs.lemmas.Bool.{true≢false, cases_lt}
use Rattle.std.proofs.lemmas.Cmp.{nat_list_eq_equiv}
use Rattle.gitbase_core.specs.Path.{is_prefix_by_whole_components, is_beneath_directory}
use Rattle.dir_classify.specs.declared.entry.Entry.{Entry}
use Rattle.clean_plan.specs.declared.sift.Sifted.{Sifted}
use Rattle.clean_plan.specs.Above.{IsFirstPassingAncestorOrSelf, any_ancestor_passes}
use Rattle.clean_plan.specs.Asked.{CleanPlanInputs}
use Rattle.clean_plan.specs.Kept.{is_nonroot_path_protected_from_clean}
use Rattle.clean_plan.specs.Paths.{AscendsStrictly, is_text_in_list, is_path_not_among, borrowed_bytes, borrowed_byte_strings, paths_without_others}
use Rattle.clean_plan.specs.Plans.{IsOrderedRemovalPlan, is_planned_for_removal, is_outermost_removable_path, rela_path_of_entry, paths_of_removable_entries}
use Rattle.clean_plan.specs.Removable.{is_entry_removable_by_itself}
use Rattle.clean_plan.specs.Sifted.{AreBlockedDirectories, HoldsRemovableAndBlockedPaths}
use Rattle.clean_plan.specs.Staying.{ArePathsOfKeptUntrackables, has_kept_untrackable_at_path}
use Rattle.clean_plan.specs.Targets.{AreOutermostTargetsOfPaths, HasOutermostTargetAmong, IsOutermostTargetOfSomePath}
use Rattle.clean_plan.specs.Whole.{may_remove_whole_directory, is_directory_unblocked_and_removable, entry_lies_beneath_directory, blocks_whole_removal}
use Rattle.clean_plan.proofs.Directories.{above-longer, above-same, above-then, and_both, none-above, none-front}
use Rattle.clean_plan.proofs.Sifting.{any-more}

-- ---- which are among them

or_cases : (a b : Bool) → (a || b) ≡ true → (a ≡ true) ⊎ (b ≡ true)
or_cases true b h = inl refl
or_cases false b h = inr h

or_first : (a b : Bool) → a ≡ true → (a || b) ≡ true
or_first true b e = refl
or_first false b e = absurd (cc e)

or_second : (a b : Bool) → b ≡ true → (a || b) ≡ true
or_second true b e = refl
or_second false b e = e

same-from_eq : (a b : List ℕ) → bytes_eq a b ≡ true → a ≡ b
same-from_eq a b e = same_text a b (sym e)

pub planned-more : (test : List ℕ → Bool) (done targets now : List (List ℕ)) (path target : List ℕ) → AreOutermostTargetsOfPaths test done targets → IsFirstPassingAncestorOrSelf test path target
    → ((other : List ℕ) → is_text_in_list other now ≡ (bytes_eq other target || is_text_in_list other targets)) → AreOutermostTargetsOfPaths test (done ++ path ∷ []) now
planned-more test done targets now path target so is grown =
    record { from = from; each = each }
  where
    further : (other : List ℕ) → is_text_in_list other done ≡ true → is_text_in_list other (done ++ path ∷ []) ≡ true
    further other e = any-more (bytes_eq other) done path ∙ or_second (bytes_eq other path) (is_text_in_list other done) e

    last : is_text_in_list path (done ++ path ∷ []) ≡ true
    last = any-more (bytes_eq path) done path ∙ or_first (bytes_eq path path) (is_text_in_list path done) (nat_list_eq_equiv.refl path)

    from : (other : List ℕ) → is_text_in_list other now ≡ true → IsOutermostTargetOfSomePath test (done ++ path ∷ []) other
    from other there = go (or_cases (bytes_eq other target) (is_text_in_list other targets) (sym (grown other) ∙ there))
      where
        go : (bytes_eq other target ≡ true) ⊎ (is_text_in_list other targets ≡ true) → IsOutermostTargetOfSomePath test (done ++ path ∷ []) other
        go (inl e) = record { path = path; is_done = last; is_target = subst (IsFirstPassingAncestorOrSelf test path) (sym (same-from_eq other target e)) is }
        go (inr e) = let old : IsOutermostTargetOfSomePath test done other = so.from other e in record { path = old.path; is_done = further old.path old.is_done; is_target = old.is_target }

    each : (other : List ℕ) → is_text_in_list other (done ++ path ∷ []) ≡ true → HasOutermostTargetAmong test other now
    each other there = go (or_cases (bytes_eq other path) (is_text_in_list other done) (sym (any-more (bytes_eq other) done path) ∙ there))
      where
        go : (bytes_eq other path ≡ true) ⊎ (is_text_in_list other done ≡ true) → HasOutermostTargetAmong test other now
        go (inl e) =
            record {
              target = target;
              is_there = grown target ∙ or_first (bytes_eq target target) (is_text_in_list target targets) (nat_list_eq_equiv.refl target);
              is_target = subst (λ (p : List ℕ). IsFirstPassingAncestorOrSelf test p target) (sym (same-from_eq other path e)) is;
            }
        go (inr e) =
            let old : HasOutermostTargetAmong test other targets = so.each other e in
            record { target = old.target; is_there = grown old.target ∙ or_second (bytes_eq old.target target) (is_text_in_list old.target targets) old.is_there; is_target = old.is_target }

-- ---- entries

abbrev pub IsIn : Entry → List Entry → Type 0
IsIn e [] = ⊥
IsIn e (x ∷ entries) = (e ≡ x) ⊎ IsIn e entries

pub any-in : (test : Entry → Bool) (entries : List Entry) (e : Entry) → IsIn e entries → test e ≡ true → list_any test entries ≡ true
any-in test [] e here h = absurd here
any-in test (x ∷ entries) e (inl same) h = or_first (test x) (list_any test entries) (ap test (sym same) ∙ h)
any-in test (x ∷ entries) e (inr later) h = or_second (test x) (list_any test entries) (any-in test entries e later h)

pub none-in : (test : Entry → Bool) (entries : List Entry) (e : Entry) → IsIn e entries → list_any test entries ≡ false → test e ≡ false
none-in test entries e here h = go (test e) refl
  where
    go : (b : Bool) → test e ≡ b → test e ≡ false
    go true k = absurd (true≢false (sym (any-in test entries e here k) ∙ h))
    go false k = k

pub record FoundEntry (test : Entry → Bool) (entries : List Entry) : Type 0 where
  pub entry : Entry
  pub is_in : IsIn entry entries
  pub passes : test entry ≡ true

pub found-entry : (test : Entry → Bool) (entries : List Entry) → list_any test entries ≡ true → FoundEntry test entries
found-entry test [] h = absurd (cc h)
found-entry test (x ∷ entries) h = go (or_cases (test x) (list_any test entries) h) (found-entry test entries)
  where
    go : (test x ≡ true) ⊎ (list_any test entries ≡ true) → (list_any test entries ≡ true → FoundEntry test entries) → FoundEntry test (x ∷ entries)
    go (inl e) more = record { entry = x; is_in = inl refl; passes = e }
    go (inr e) more = let found : FoundEntry test entries = more e in record { entry = found.entry; is_in = inr found.is_in; passes = found.passes }

-- the entry of the path of one that may go
pub record RemovableAt (asked : CleanPlanInputs) (entries : List Entry) (path : List ℕ) : Type 0 where
  pub entry : Entry
  pub is_in : IsIn entry entries
  pub may : is_entry_removable_by_itself asked entry ≡ true
  pub path_is : path ≡ entry.rela_path

pub removable-at : (asked : CleanPlanInputs) (entries : List Entry) (path : List ℕ) → is_text_in_list path (paths_of_removable_entries asked entries) ≡ true → RemovableAt asked entries path
removable-at asked [] path h = absurd (cc h)
removable-at asked (x ∷ entries) path h = go (is_entry_removable_by_itself asked x) refl h (removable-at asked entries path)
  where
    later : RemovableAt asked entries path → RemovableAt asked (x ∷ entries) path
    later found = record { entry = found.entry; is_in = inr found.is_in; may = found.may; path_is = found.path_is }

    go : (b : Bool) → is_entry_removable_by_itself asked x ≡ b → is_text_in_list path (map rela_path_of_entry (cond b (x ∷ filter (is_entry_removable_by_itself asked) entries) (filter (is_entry_removable_by_itself asked) entries))) ≡ true
        → (is_text_in_list path (paths_of_removable_entries asked entries) ≡ true → RemovableAt asked entries path) → RemovableAt asked (x ∷ entries) path
    go false e there more = later (more there)
    go true e there more = by (or_cases (bytes_eq path x.rela_path) (is_text_in_list path (paths_of_removable_entries asked entries)) there)
      where
        by : (bytes_eq path x.rela_path ≡ true) ⊎ (is_text_in_list path (paths_of_removable_entries asked entries) ≡ true) → RemovableAt asked (x ∷ entries) path
        by (inl k) = record { entry = x; is_in = inl refl; may = e; path_is = same-from_eq path x.rela_path k }
        by (inr k) = later (more k)

pub among-removable : (asked : CleanPlanInputs) (entries : List Entry) (e : Entry) → IsIn e entries → is_entry_removable_by_itself asked e ≡ true → is_text_in_list e.rela_path (paths_of_removable_entries asked entries) ≡ true
among-removable asked [] e here may = absurd here
among-removable asked (x ∷ entries) e (inl same) may = go (is_entry_removable_by_itself asked x) (ap (is_entry_removable_by_itself asked) (sym same) ∙ may)
  where
    go : (b : Bool) → b ≡ true → is_text_in_list e.rela_path (map rela_path_of_entry (cond b (x ∷ filter (is_entry_removable_by_itself asked) entries) (filter (is_entry_removable_by_itself asked) entries))) ≡ true
    go true k = or_first (bytes_eq e.rela_path x.rela_path) (is_text_in_list e.rela_path (paths_of_removable_entries asked entries)) (ap (λ (y : Entry). bytes_eq e.rela_path y.rela_path) (sym same) ∙ nat_list_eq_equiv.refl e.rela_path)
    go false k = absurd (cc k)
among-removable asked (x ∷ entries) e (inr later) may = go (is_entry_removable_by_itself asked x) (among-removable asked entries e later may)
  where
    go : (b : Bool) → is_text_in_list e.rela_path (paths_of_removable_entries asked entries) ≡ true → is_text_in_list e.rela_path (map rela_path_of_entry (cond b (x ∷ filter (is_entry_removable_by_itself asked) entries) (filter (is_entry_removable_by_itself asked) entries))) ≡ true
    go true k = or_second (bytes_eq e.rela_path x.rela_path) (is_text_in_list e.rela_path (paths_of_removable_entries asked entries)) k
    go false k = k

-- ---- the plan

module _ (asked : CleanPlanInputs) (entries : List Entry) (spoiled : List (List ℕ)) (are : AreBlockedDirectories asked entries spoiled) where
  agreeing : (s p k b : Bool) → b ≡ true → (not s && (p && not k)) ≡ (p && (not k && (b && not s)))
  agreeing true true true b e = refl
  agreeing true true false true e = refl
  agreeing true true false false e = absurd (cc e)
  agreeing true false k b e = refl
  agreeing false true true b e = refl
  agreeing false true false true e = refl
  agreeing false true false false e = absurd (cc e)
  agreeing false false k b e = refl

  -- of a directory above an entry both tests say the same
  whole-same : (d : List ℕ) → list_any (entry_lies_beneath_directory d) entries ≡ true → is_directory_unblocked_and_removable asked spoiled d ≡ may_remove_whole_directory asked entries d
  whole-same d some =
      ap (λ (s : Bool). not s && (is_prefix_by_whole_components asked.start d && not (is_nonroot_path_protected_from_clean asked d))) (are d)
      ∙ agreeing (list_any (blocks_whole_removal asked d) entries) (is_prefix_by_whole_components asked.start d) (is_nonroot_path_protected_from_clean asked d) (list_any (entry_lies_beneath_directory d) entries) some

  above-entry : (e : Entry) (d : List ℕ) → IsIn e entries → is_beneath_directory d e.rela_path ≡ true → list_any (entry_lies_beneath_directory d) entries ≡ true
  above-entry e d here above = any-in (entry_lies_beneath_directory d) entries e here above

  -- so the target of an entry's path is that by the definition
  target-whole : (e : Entry) (target : List ℕ) → IsIn e entries → IsFirstPassingAncestorOrSelf (is_directory_unblocked_and_removable asked spoiled) e.rela_path target → IsFirstPassingAncestorOrSelf (may_remove_whole_directory asked entries) e.rela_path target
  target-whole e target here is = go is.which
    where
      up : (d : List ℕ) → ((target ≡ e.rela_path) ⊎ (is_beneath_directory target e.rela_path ≡ true)) → is_beneath_directory d target ≡ true → is_beneath_directory d e.rela_path ≡ true
      up d (inl same) above = ap (is_beneath_directory d) (sym same) ∙ above
      up d (inr h) above = above-then d target e.rela_path above h

      none : ((target ≡ e.rela_path) ⊎ (is_beneath_directory target e.rela_path ≡ true)) → any_ancestor_passes (may_remove_whole_directory asked entries) target ≡ false
      none at = none-front (may_remove_whole_directory asked entries) (length target) target (λ d above.
          sym (whole-same d (above-entry e d here (up d at above))) ∙ none-above (is_directory_unblocked_and_removable asked spoiled) target d is.none_above above)

      go : (target ≡ e.rela_path) ⊎ ((is_beneath_directory target e.rela_path ≡ true) × (is_directory_unblocked_and_removable asked spoiled target ≡ true)) → IsFirstPassingAncestorOrSelf (may_remove_whole_directory asked entries) e.rela_path target
      go (inl same) = record { which = inl same; none_above = none (inl same) }
      go (inr h) = record { which = inr (h.0, sym (whole-same target (above-entry e target here h.0)) ∙ h.1); none_above = none (inr h.0) }

-- what is said of a directory that may go as a whole
pub record WholeSays (asked : CleanPlanInputs) (entries : List Entry) (d : List ℕ) : Type 0 where
  pub within : is_prefix_by_whole_components asked.start d ≡ true
  pub left : is_nonroot_path_protected_from_clean asked d ≡ false
  pub some : list_any (entry_lies_beneath_directory d) entries ≡ true
  pub free : list_any (blocks_whole_removal asked d) entries ≡ false

not_true : (b : Bool) → not b ≡ true → b ≡ false
not_true true e = absurd (cc e)
not_true false e = refl

pub whole-says : (asked : CleanPlanInputs) (entries : List Entry) (d : List ℕ) → may_remove_whole_directory asked entries d ≡ true → WholeSays asked entries d
whole-says asked entries d h =
    let one = and_both (is_prefix_by_whole_components asked.start d) _ h in
    let two = and_both (not (is_nonroot_path_protected_from_clean asked d)) _ one.1 in
    let three = and_both (list_any (entry_lies_beneath_directory d) entries) (not (list_any (blocks_whole_removal asked d) entries)) two.1 in
    record { within = one.0; left = not_true (is_nonroot_path_protected_from_clean asked d) two.0; some = three.0; free = not_true (list_any (blocks_whole_removal asked d) entries) three.1 }

-- an entry beneath such a directory may go
pub whole-removes : (asked : CleanPlanInputs) (entries : List Entry) (d : List ℕ) (e : Entry) → may_remove_whole_directory asked entries d ≡ true → IsIn e entries → is_beneath_directory d e.rela_path ≡ true → is_entry_removable_by_itself asked e ≡ true
whole-removes asked entries d e whole here above =
    by (is_beneath_directory d e.rela_path) (is_entry_removable_by_itself asked e) _ above (none-in (blocks_whole_removal asked d) entries e here (whole-says asked entries d whole).free)
  where
    by : (a b k : Bool) → a ≡ true → (a && (not b || k)) ≡ false → b ≡ true
    by true true k e h = refl
    by true false k e h = absurd (cc h)
    by false b k e h = absurd (cc e)

-- what is planned for the path of an entry is the same where some directory above it is planned
pub target-only : (test : List ℕ → Bool) (path a b : List ℕ) → IsFirstPassingAncestorOrSelf test path a → is_beneath_directory b path ≡ true → test b ≡ true → any_ancestor_passes test b ≡ false → a ≡ b
target-only test path a b is above passes none = go is.which
  where
    never : (x : List ℕ) → test x ≡ true → test x ≡ false → a ≡ b
    never x e f = absurd (true≢false (sym e ∙ f))

    by : is_beneath_directory a path ≡ true → test a ≡ true → (length a < length b) ⊎ (length b ≤ length a) → a ≡ b
    by h t (inl less) = never a t (none-above test b a none (above-longer a b path h above less))
    by h t (inr most) = then (cases_lt (length b) (length a))
      where
        then : (length b < length a) ⊎ (length a ≤ length b) → a ≡ b
        then (inl less) = never b passes (none-above test a b is.none_above (above-longer b a path above h less))
        then (inr least) = above-same a b path h above (omega (arith, most, least))

    go : (a ≡ path) ⊎ ((is_beneath_directory a path ≡ true) × (test a ≡ true)) → a ≡ b
    go (inl same) = never b passes (none-above test a b is.none_above (ap (is_beneath_directory b) same ∙ above))
    go (inr h) = by h.0 h.1 (cases_lt (length a) (length b))

module _ (asked : CleanPlanInputs) (entries : List Entry) (spoiled targets : List (List ℕ)) (are : AreBlockedDirectories asked entries spoiled) (so : AreOutermostTargetsOfPaths (is_directory_unblocked_and_removable asked spoiled) (paths_of_removable_entries asked entries) targets) where
  abbrev whole : List ℕ → Bool
  whole d = may_remove_whole_directory asked entries d

  target-of : (e : Entry) (target : List ℕ) → IsIn e entries → IsFirstPassingAncestorOrSelf (is_directory_unblocked_and_removable asked spoiled) e.rela_path target → IsFirstPassingAncestorOrSelf whole e.rela_path target
  target-of e target here is = target-whole asked entries spoiled are e target here is

  planned-is : (path : List ℕ) → is_text_in_list path targets ≡ true → is_outermost_removable_path asked entries path ≡ true
  planned-is path there =
      let from : IsOutermostTargetOfSomePath (is_directory_unblocked_and_removable asked spoiled) (paths_of_removable_entries asked entries) path = so.from path there in
      let at : RemovableAt asked entries from.path = removable-at asked entries from.path from.is_done in
      let is : IsFirstPassingAncestorOrSelf whole at.entry.rela_path path =
      target-of at.entry path at.is_in (subst (λ (p : List ℕ). IsFirstPassingAncestorOrSelf (is_directory_unblocked_and_removable asked spoiled) p path) at.path_is from.is_target) in
      by (whole path) (is_text_in_list path (paths_of_removable_entries asked entries)) (any_ancestor_passes whole path) is.none_above (go at is.which)
    where
      by : (a b k : Bool) → k ≡ false → (a ≡ true) ⊎ (b ≡ true) → ((a || b) && not k) ≡ true
      by true b false e h = refl
      by false true false e h = refl
      by false false k e (inl h) = absurd (cc h)
      by false false k e (inr h) = absurd (cc h)
      by a b true e h = absurd (cc e)

      go : {p : List ℕ} (at : RemovableAt asked entries p) → (path ≡ at.entry.rela_path) ⊎ ((is_beneath_directory path at.entry.rela_path ≡ true) × (whole path ≡ true))
          → (whole path ≡ true) ⊎ (is_text_in_list path (paths_of_removable_entries asked entries) ≡ true)
      go at (inl same) = inr (ap (λ (p : List ℕ). is_text_in_list p (paths_of_removable_entries asked entries)) same ∙ among-removable asked entries at.entry at.is_in at.may)
      go at (inr h) = inl h.1

  planned-there : (path : List ℕ) → is_outermost_removable_path asked entries path ≡ true → is_text_in_list path targets ≡ true
  planned-there path planned = go (or_cases (whole path) (is_text_in_list path (paths_of_removable_entries asked entries)) both.0)
    where
      both : ((whole path || is_text_in_list path (paths_of_removable_entries asked entries)) ≡ true) × (not (any_ancestor_passes whole path) ≡ true)
      both = and_both (whole path || is_text_in_list path (paths_of_removable_entries asked entries)) (not (any_ancestor_passes whole path)) planned

      none : any_ancestor_passes whole path ≡ false
      none = not_true (any_ancestor_passes whole path) both.1

      as_target : {p : List ℕ} (at : RemovableAt asked entries p) (t : List ℕ) → IsFirstPassingAncestorOrSelf (is_directory_unblocked_and_removable asked spoiled) p t → IsFirstPassingAncestorOrSelf whole p t
      as_target {p} at t is =
          subst (λ (q : List ℕ). IsFirstPassingAncestorOrSelf whole q t) (sym at.path_is)
          (target-of at.entry t at.is_in (subst (λ (q : List ℕ). IsFirstPassingAncestorOrSelf (is_directory_unblocked_and_removable asked spoiled) q t) at.path_is is))

      go : (whole path ≡ true) ⊎ (is_text_in_list path (paths_of_removable_entries asked entries) ≡ true) → is_text_in_list path targets ≡ true
      go (inl is_whole_path) =
          let found : FoundEntry (entry_lies_beneath_directory path) entries = found-entry (entry_lies_beneath_directory path) entries (whole-says asked entries path is_whole_path).some in
          let may = whole-removes asked entries path found.entry is_whole_path found.is_in found.passes in
          let has : HasOutermostTargetAmong (is_directory_unblocked_and_removable asked spoiled) found.entry.rela_path targets = so.each found.entry.rela_path (among-removable asked entries found.entry found.is_in may) in
          let same : has.target ≡ path = target-only whole found.entry.rela_path has.target path (target-of found.entry has.target found.is_in has.is_target) found.passes is_whole_path none in
          subst (λ (q : List ℕ). is_text_in_list q targets ≡ true) same has.is_there
      go (inr here) =
          let has : HasOutermostTargetAmong (is_directory_unblocked_and_removable asked spoiled) path targets = so.each path here in
          let is : IsFirstPassingAncestorOrSelf whole path has.target = as_target (removable-at asked entries path here) has.target has.is_target in
          let same : has.target ≡ path = by has.target is.which in
          subst (λ (q : List ℕ). is_text_in_list q targets ≡ true) same has.is_there
        where
          by : (t : List ℕ) → (t ≡ path) ⊎ ((is_beneath_directory t path ≡ true) × (whole t ≡ true)) → t ≡ path
          by t (inl same) = same
          by t (inr h) = absurd (true≢false (sym h.1 ∙ none-above whole path t none h.0))

  -- The paths that are planned for the entries are those that may be planned.
  pub planned-same : (path : List ℕ) → is_text_in_list path targets ≡ is_outermost_removable_path asked entries path
  planned-same path = go (is_text_in_list path targets) (is_outermost_removable_path asked entries path) refl refl
    where
      go : (a b : Bool) → is_text_in_list path targets ≡ a → is_outermost_removable_path asked entries path ≡ b → a ≡ b
      go true true e f = refl
      go false false e f = refl
      go true false e f = absurd (true≢false (sym (planned-is path e) ∙ f))
      go false true e f = absurd (true≢false (sym (planned-there path f) ∙ e))

-- of some paths, one more
pub next-target : (test : List ℕ → Bool) (removable : List (Bor (List ℕ))) (at : ℕ) (d : Bor (List ℕ)) (targets now : List (List ℕ)) (target : List ℕ) → at < length removable
    → AreOutermostTargetsOfPaths test (borrowed_byte_strings (take at removable)) targets → IsFirstPassingAncestorOrSelf test (get_or removable at d).now target
    → ((other : List ℕ) → is_text_in_list other now ≡ (bytes_eq other target || is_text_in_list other targets)) → AreOutermostTargetsOfPaths test (borrowed_byte_strings (take (at + 1) removable)) now
next-target test removable at d targets now target short so is grown =
    subst (λ (paths : List (List ℕ)). AreOutermostTargetsOfPaths test paths now)
    (sym (ap borrowed_byte_strings (take_more removable at d short) ∙ map-append borrowed_bytes (take at removable) (get_or removable at d ∷ [])))
    (planned-more test (borrowed_byte_strings (take at removable)) targets now (get_or removable at d).now target so is grown)

-- a path is among some without others where it is one of these and none of those
among-without : (others paths : List (List ℕ)) (path : List ℕ) → is_text_in_list path (paths_without_others others paths) ≡ (is_text_in_list path paths && is_path_not_among others path)
among-without others [] path = refl
among-without others (x ∷ paths) path = go (bytes_eq path x) (is_path_not_among others x) refl refl (among-without others paths path)
  where
    go : (same left : Bool) → bytes_eq path x ≡ same → is_path_not_among others x ≡ left → is_text_in_list path (paths_without_others others paths) ≡ (is_text_in_list path paths && is_path_not_among others path)
        → is_text_in_list path (cond left (x ∷ paths_without_others others paths) (paths_without_others others paths)) ≡ ((same || is_text_in_list path paths) && is_path_not_among others path)
    go true true e f more = rw e (sym f ∙ ap (is_path_not_among others) (sym (same-from_eq path x e)))
    go true false e f more = more ∙ none (is_text_in_list path paths) (ap (is_path_not_among others) (same-from_eq path x e) ∙ f)
      where
        none : (b : Bool) → is_path_not_among others path ≡ false → (b && is_path_not_among others path) ≡ is_path_not_among others path
        none true h = refl
        none false h = sym h
    go false true e f more = rw e more
    go false false e f more = more

-- and in their order, without those at which a node stays, they are the plan
pub plan-texts : (asked : CleanPlanInputs) (entries : List Entry) (sifted : Sifted) (removable : List (Bor (List ℕ))) (targets staying : List (List ℕ)) → HoldsRemovableAndBlockedPaths asked entries sifted → removable ≡ sifted.removable.items
    → AreOutermostTargetsOfPaths (is_directory_unblocked_and_removable asked sifted.spoiled) (borrowed_byte_strings removable) targets → ArePathsOfKeptUntrackables asked.others entries staying
    → {T E : Type 0} (items : T → List (List ℕ)) (result : Result T E) → IfOk result (λ t. items t ≡ paths_without_others staying targets) → IfOk result (λ t. AscendsStrictly (items t)) → IfOk result (λ t. IsOrderedRemovalPlan asked entries (items t))
plan-texts asked entries sifted removable targets staying is same so stay items (Ok t) texts ascends =
    record {
      ascends = ascends;
      are = λ path. ap (is_text_in_list path) texts ∙ among-without staying targets path ∙ ap (λ (b : Bool). is_text_in_list path targets && not b) (stay path)
          ∙ ap (λ (b : Bool). b && not (has_kept_untrackable_at_path asked.others entries path)) (planned-same asked entries sifted.spoiled targets is.spoiled_are
          (subst (λ (paths : List (List ℕ)). AreOutermostTargetsOfPaths (is_directory_unblocked_and_removable asked sifted.spoiled) paths targets) (ap borrowed_byte_strings same ∙ is.paths_are) so) path);
    }
plan-texts asked entries sifted removable targets staying is same so stay items (Err e) texts ascends = tt
