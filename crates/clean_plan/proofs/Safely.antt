-- That a plan is safe to act on.
use Rattle.std.proofs.Common.{◌≡◌, ◌⊎◌, inl, inr, ℕ, zero, suc, ◌≤◌, List, [], ◌∷◌, Bool, true, false, not, ◌||◌, ◌&&◌, bytes_eq, length, take, Option, Some, None, refl, sym, ap, subst, ◌∙◌, arith}
use Rattle.std.specs.List.{list_any}
use Rattle.std.specs.Cmp.Lexicographic.{same_text}
use Rattle.std.proofs.lemmas.Bool.{true≢false}
use Rattle.gitbase_core.specs.Path.{is_prefix_by_whole_components, is_empty_or_root_path, is_beneath_directory}
use Rattle.glob_rules.specs.declared.ignore.Kind.TheVariants.{Expendable, Precious}
use Rattle.dir_classify.specs.declared.entry.Entry.{Entry}
use Rattle.dir_classify.specs.declared.entry.Kind.{Kind}
use Rattle.dir_classify.specs.declared.entry.Status.{Status}
use Rattle.dir_classify.specs.declared.entry.Status.TheVariants.{Pruned, Tracked, Ignored, Untracked}
use Rattle.dir_classify.specs.Enters.{is_pruned_status}
use Rattle.dir_classify.specs.Kinds.{is_repository_kind}
use Rattle.dir_walk.specs.Emissions.{is_tracked_status}
use Rattle.dir_walk.specs.Fold.{is_precious_status}
use Rattle.clean_plan.specs.declared.what.OtherNodes.{OtherNodes}
use Rattle.clean_plan.specs.declared.what.OtherNodes.TheVariants.{Go}
use Rattle.clean_plan.specs.declared.what.What.{What}
use Rattle.clean_plan.specs.Above.{IsFirstPassingAncestorOrSelf, prefixes_shorter_than_length, any_ancestor_passes, any_ancestor_below_length_passes}
use Rattle.clean_plan.specs.Asked.{CleanPlanInputs}
use Rattle.clean_plan.specs.Closed.{stays_in_spec_excluded_directory}
use Rattle.clean_plan.specs.Kept.{has_dot_git_component, is_current_dir_at_or_beneath, has_index_entry_at_or_below_path, is_nonroot_path_protected_from_clean}
use Rattle.clean_plan.specs.Paths.{is_text_in_list}
use Rattle.clean_plan.specs.Plans.{IsOrderedRemovalPlan, is_planned_for_removal, is_outermost_removable_path, paths_of_removable_entries}
use Rattle.clean_plan.specs.Removable.{exists_and_is_no_repository, is_entry_removable_by_itself, is_status_requested_for_removal, passes_status_kind_and_specs}
use Rattle.clean_plan.specs.Staying.{has_kept_untrackable_at_path, keeps_untrackable_kind, is_kept_untrackable_at_path}
use Rattle.clean_plan.specs.Safe.{NoPathLiesBeneathAnother, RemovesSafelyAndCompletely, AscendOutsideGitAndIndex, IsCoveredByExactlyOnePath, IsSafeToRemove, IsPathOutsideGitAndIndex, is_untrackable_left_in_place, is_pruned_precious_tracked_or_repository}
use Rattle.clean_plan.specs.Whole.{may_remove_whole_directory, entry_lies_beneath_directory}
use Rattle.clean_plan.proofs.Directories.{above-then, and_both, none-above}
use Rattle.clean_plan.proofs.Planning.{FoundEntry, IsIn, RemovableAt, found-entry, removable-at, target-only, whole-removes, whole-says}
use Rattle.clean_plan.proofs.Reached.{prefix-beneath, prefix-self, target-here}

-- no entry lies beneath another, and no path stands twice
pub record AreFlat (entries : List Entry) : Type 0 where
  pub none_beneath : (x y : Entry) → IsIn x entries → IsIn y entries → is_beneath_directory x.rela_path y.rela_path ≡ false
  pub once : (x y : Entry) → IsIn x entries → IsIn y entries → x.rela_path ≡ y.rela_path → x ≡ y

-- ---- one entry

or_none : (a b : Bool) → (a || b) ≡ false → (a ≡ false) × (b ≡ false)
or_none true b h = absurd (cc h)
or_none false b h = (refl, h)

not_true : (b : Bool) → not b ≡ true → b ≡ false
not_true true e = absurd (cc e)
not_true false e = refl

taken-unguarded : (what : What) (s : Status) (kind : Option Kind) → is_status_requested_for_removal what s ≡ true → exists_and_is_no_repository kind ≡ true
    → (is_pruned_status s || (is_precious_status s || (is_tracked_status s || is_repository_kind kind))) ≡ false
taken-unguarded what Pruned kind e f = absurd (cc e)
taken-unguarded what Tracked kind e f = absurd (cc e)
taken-unguarded what (Ignored Precious) kind e f = absurd (cc e)
taken-unguarded what (Ignored Expendable) None e f = refl
taken-unguarded what (Ignored Expendable) (Some k) e f = not_true (is_repository_kind (Some k)) f
taken-unguarded what Untracked None e f = refl
taken-unguarded what Untracked (Some k) e f = not_true (is_repository_kind (Some k)) f

pub removable-unguarded : (asked : CleanPlanInputs) (e : Entry) → is_entry_removable_by_itself asked e ≡ true → is_pruned_precious_tracked_or_repository e ≡ false
removable-unguarded asked e h =
    let one = and_both (passes_status_kind_and_specs asked e) _ h in
    let two = and_both (is_status_requested_for_removal asked.what e.status) _ one.0 in
    let three = and_both (exists_and_is_no_repository e.disk_kind) _ two.1 in
    taken-unguarded asked.what e.status e.disk_kind two.0 three.0

-- and it does not stay with a directory that the path specs take out, nor is its path kept
pub removable-says : (asked : CleanPlanInputs) (e : Entry) → is_entry_removable_by_itself asked e ≡ true → (stays_in_spec_excluded_directory asked.taken_out asked.specs e ≡ false) × (is_nonroot_path_protected_from_clean asked e.rela_path ≡ false)
removable-says asked e h =
    let one = and_both (passes_status_kind_and_specs asked e) _ h in
    let two = and_both (not (stays_in_spec_excluded_directory asked.taken_out asked.specs e)) (not (is_nonroot_path_protected_from_clean asked e.rela_path)) one.1 in
    (not_true (stays_in_spec_excluded_directory asked.taken_out asked.specs e) two.0, not_true (is_nonroot_path_protected_from_clean asked e.rela_path) two.1)

-- ---- one path

-- what is said of a path that is not kept
pub record LeftOut (asked : CleanPlanInputs) (path : List ℕ) : Type 0 where
  pub spared : IsPathOutsideGitAndIndex asked.fold asked.index path
  pub elsewhere : is_current_dir_at_or_beneath asked.current path ≡ false

left-out : (asked : CleanPlanInputs) (path : List ℕ) → is_nonroot_path_protected_from_clean asked path ≡ false → LeftOut asked path
left-out asked path h =
    let one = or_none (is_empty_or_root_path path) _ h in
    let two = or_none (has_dot_git_component path) _ one.1 in
    let three = or_none (is_current_dir_at_or_beneath asked.current path) (has_index_entry_at_or_below_path asked.fold asked.index path) two.1 in
    record { spared = record { below = one.0; no_git = two.0; unindexed = three.1 }; elsewhere = three.0 }

-- a planned path is that of a directory that may go as a whole, or of an entry that may go
pub record Planned (asked : CleanPlanInputs) (entries : List Entry) (path : List ℕ) : Type 0 where
  pub which : (may_remove_whole_directory asked entries path ≡ true) ⊎ RemovableAt asked entries path
  pub none_above : any_ancestor_passes (may_remove_whole_directory asked entries) path ≡ false

or_cases : (a b : Bool) → (a || b) ≡ true → (a ≡ true) ⊎ (b ≡ true)
or_cases true b h = inl refl
or_cases false b h = inr h

pub planned-which : (asked : CleanPlanInputs) (entries : List Entry) (path : List ℕ) → is_planned_for_removal asked entries path ≡ true → Planned asked entries path
planned-which asked entries path h =
    let may = and_both (is_outermost_removable_path asked entries path) (not (has_kept_untrackable_at_path asked.others entries path)) h in
    let both = and_both (may_remove_whole_directory asked entries path || is_text_in_list path (paths_of_removable_entries asked entries)) (not (any_ancestor_passes (may_remove_whole_directory asked entries) path)) may.0 in
    record {
      which = go (or_cases (may_remove_whole_directory asked entries path) (is_text_in_list path (paths_of_removable_entries asked entries)) both.0);
      none_above = not_true (any_ancestor_passes (may_remove_whole_directory asked entries) path) both.1;
    }
  where
    go : (may_remove_whole_directory asked entries path ≡ true) ⊎ (is_text_in_list path (paths_of_removable_entries asked entries) ≡ true) → (may_remove_whole_directory asked entries path ≡ true) ⊎ RemovableAt asked entries path
    go (inl e) = inl e
    go (inr e) = inr (removable-at asked entries path e)

planned-left : (asked : CleanPlanInputs) (entries : List Entry) (path : List ℕ) → (may_remove_whole_directory asked entries path ≡ true) ⊎ RemovableAt asked entries path → is_nonroot_path_protected_from_clean asked path ≡ false
planned-left asked entries path (inl e) = (whole-says asked entries path e).left
planned-left asked entries path (inr at) =
    ap (is_nonroot_path_protected_from_clean asked) at.path_is ∙ (removable-says asked at.entry at.may).1

-- a prefix of a path is empty, is that path, or lies above it
pub prefix-cases : (d path : List ℕ) → is_prefix_by_whole_components d path ≡ true → (is_empty_or_root_path d ≡ true) ⊎ ((d ≡ path) ⊎ (is_beneath_directory d path ≡ true))
prefix-cases [] path h = inl refl
prefix-cases (b ∷ d) path h = inr (go (bytes_eq (b ∷ d) path) refl h)
  where
    go : (same : Bool) → bytes_eq (b ∷ d) path ≡ same → (same || is_beneath_directory (b ∷ d) path) ≡ true → ((b ∷ d) ≡ path) ⊎ (is_beneath_directory (b ∷ d) path ≡ true)
    go true e h = inl (same_text (b ∷ d) path (sym e))
    go false e h = inr h

none-any : (test : Entry → Bool) (entries : List Entry) → ((e : Entry) → IsIn e entries → test e ≡ false) → list_any test entries ≡ false
none-any test [] h = refl
none-any test (x ∷ entries) h = by (test x) (list_any test entries) (h x (inl refl)) (none-any test entries (λ e here. h e (inr here)))
  where
    by : (a b : Bool) → a ≡ false → b ≡ false → (a || b) ≡ false
    by true b e f = absurd (cc e)
    by false b e f = f

-- where other nodes go too none is left
none-left : (asked : CleanPlanInputs) (entries : List Entry) → asked.others ≡ Go → (path : List ℕ) → is_untrackable_left_in_place asked entries path ≡ false
none-left asked entries all path = ap (λ (b : Bool). b && not (any_ancestor_passes (may_remove_whole_directory asked entries) path)) none
  where
    none : has_kept_untrackable_at_path asked.others entries path ≡ false
    none = none-any (is_kept_untrackable_at_path asked.others path) entries (λ e here. ap (λ (others : OtherNodes). is_kept_untrackable_at_path others path e) all)

module _ (asked : CleanPlanInputs) (entries : List Entry) (flat : AreFlat entries) where
  -- an entry at or beneath a planned path may go
  planned-takes : (path : List ℕ) (e : Entry) → is_empty_or_root_path path ≡ false → (may_remove_whole_directory asked entries path ≡ true) ⊎ RemovableAt asked entries path → IsIn e entries → is_prefix_by_whole_components path e.rela_path ≡ true
      → is_entry_removable_by_itself asked e ≡ true
  planned-takes path e low which here over = go which (prefix-cases path e.rela_path over)
    where
      never : is_empty_or_root_path path ≡ true → is_entry_removable_by_itself asked e ≡ true
      never t = absurd (true≢false (sym t ∙ low))

      go : (may_remove_whole_directory asked entries path ≡ true) ⊎ RemovableAt asked entries path → (is_empty_or_root_path path ≡ true) ⊎ ((path ≡ e.rela_path) ⊎ (is_beneath_directory path e.rela_path ≡ true)) → is_entry_removable_by_itself asked e ≡ true
      go which (inl t) = never t
      go (inl whole) (inr (inl same)) =
          let found : FoundEntry (entry_lies_beneath_directory path) entries = found-entry (entry_lies_beneath_directory path) entries (whole-says asked entries path whole).some in
          absurd (true≢false (sym found.passes ∙ ap (λ (p : List ℕ). is_beneath_directory p found.entry.rela_path) same ∙ flat.none_beneath e found.entry here found.is_in))
      go (inl whole) (inr (inr above)) = whole-removes asked entries path e whole here above
      go (inr at) (inr (inl same)) = ap (is_entry_removable_by_itself asked) (flat.once e at.entry here at.is_in (sym same ∙ at.path_is)) ∙ at.may
      go (inr at) (inr (inr above)) =
          absurd (true≢false (sym above ∙ ap (λ (p : List ℕ). is_beneath_directory p e.rela_path) at.path_is ∙ flat.none_beneath at.entry e at.is_in here))

  planned-safe : (path : List ℕ) → is_planned_for_removal asked entries path ≡ true → IsSafeToRemove asked entries path
  planned-safe path h =
      let planned : Planned asked entries path = planned-which asked entries path h in
      let left : LeftOut asked path = left-out asked path (planned-left asked entries path planned.which) in
      record {
        spared = left.spared;
        elsewhere = left.elsewhere;
        unguarded = none-any (λ (e : Entry). is_prefix_by_whole_components path e.rela_path && is_pruned_precious_tracked_or_repository e) entries
            (λ e here. by (is_prefix_by_whole_components path e.rela_path) (is_pruned_precious_tracked_or_repository e) (λ over. removable-unguarded asked e (planned-takes path e left.spared.below planned.which here over)));
        unclosed = none-any (λ (e : Entry). is_prefix_by_whole_components path e.rela_path && stays_in_spec_excluded_directory asked.taken_out asked.specs e) entries
            (λ e here. by (is_prefix_by_whole_components path e.rela_path) (stays_in_spec_excluded_directory asked.taken_out asked.specs e) (λ over. (removable-says asked e (planned-takes path e left.spared.below planned.which here over)).0));
      }
    where
      by : (a b : Bool) → (a ≡ true → b ≡ false) → (a && b) ≡ false
      by true b f = f refl
      by false b f = refl

  -- ---- each entry that may go

  abbrev whole : List ℕ → Bool
  whole d = may_remove_whole_directory asked entries d

  pub record FirstAbove (path : List ℕ) : Type 0 where
    pub target : List ℕ
    pub is_target : IsFirstPassingAncestorOrSelf whole path target
    pub is_above : is_beneath_directory target path ≡ true
    pub passes : whole target ≡ true

  first-above : (n : ℕ) (path : List ℕ) → n ≤ length path → any_ancestor_below_length_passes whole n path ≡ true → FirstAbove path
  unfolding prefixes_shorter_than_length
  first-above zero path short h = absurd (cc h)
  first-above (suc n) path short h = go (any_ancestor_below_length_passes whole n path) refl (or_cases (is_beneath_directory (take n path) path && whole (take n path)) (any_ancestor_below_length_passes whole n path) h) (first-above n path (omega (arith, short)))
    where
      go : (b : Bool) → any_ancestor_below_length_passes whole n path ≡ b → ((is_beneath_directory (take n path) path && whole (take n path)) ≡ true) ⊎ (any_ancestor_below_length_passes whole n path ≡ true) → (any_ancestor_below_length_passes whole n path ≡ true → FirstAbove path) → FirstAbove path
      go true e k more = more e
      go false e (inr k) more = more k
      go false e (inl k) more =
          let both = and_both (is_beneath_directory (take n path) path) (whole (take n path)) k in
          record { target = take n path; is_target = target-here whole n path (omega (arith, short)) k e; is_above = both.0; passes = both.1 }

  module _ (paths : List (List ℕ)) (plan : IsOrderedRemovalPlan asked entries paths) where
    planned-path : (path : List ℕ) → is_text_in_list path paths ≡ true → Planned asked entries path
    planned-path path h = planned-which asked entries path (sym (plan.are path) ∙ h)

    -- it is not the top
    below-top : (path : List ℕ) → is_text_in_list path paths ≡ true → is_empty_or_root_path path ≡ false
    below-top path h = (left-out asked path (planned-left asked entries path (planned-path path h).which)).spared.below

    -- a planned path above the path of an entry is that of a directory that goes as a whole
    above-whole : (at : Entry) (other : List ℕ) → IsIn at entries → is_text_in_list other paths ≡ true → is_beneath_directory other at.rela_path ≡ true → whole other ≡ true
    above-whole at other here h above = go (planned-path other h).which
      where
        go : (may_remove_whole_directory asked entries other ≡ true) ⊎ RemovableAt asked entries other → whole other ≡ true
        go (inl e) = e
        go (inr e) = absurd (true≢false (sym above ∙ ap (λ (p : List ℕ). is_beneath_directory p at.rela_path) e.path_is ∙ flat.none_beneath e.entry at e.is_in here))

    -- no node stays where an entry lies beneath
    none-staying : (at : Entry) (d : List ℕ) → IsIn at entries → is_beneath_directory d at.rela_path ≡ true → has_kept_untrackable_at_path asked.others entries d ≡ false
    none-staying at d here above = none-any (is_kept_untrackable_at_path asked.others d) entries (λ e there. by (keeps_untrackable_kind asked.others e.disk_kind) (bytes_eq d e.rela_path)
        (λ same. absurd (true≢false (sym above ∙ ap (λ (p : List ℕ). is_beneath_directory p at.rela_path) (same_text d e.rela_path (sym same)) ∙ flat.none_beneath e at there here))))
      where
        by : (a b : Bool) → (b ≡ true → b ≡ false) → (a && b) ≡ false
        by true true f = f refl
        by true false f = refl
        by false b f = refl

    covered : (at : Entry) → IsIn at entries → is_text_in_list at.rela_path (paths_of_removable_entries asked entries) ≡ true → is_untrackable_left_in_place asked entries at.rela_path ≡ false → IsCoveredByExactlyOnePath paths at.rela_path
    covered at here among gone = go (any_ancestor_passes whole at.rela_path) refl
      where
        path : List ℕ
        path = at.rela_path

        pick : (a b k s : Bool) → ((a ≡ true) ⊎ (b ≡ true)) → k ≡ false → s ≡ false → (((a || b) && not k) && not s) ≡ true
        pick true b false false e h f = refl
        pick false true false false e h f = refl
        pick false false k s (inl e) h f = absurd (cc e)
        pick false false k s (inr e) h f = absurd (cc e)
        pick a b true s e h f = absurd (cc h)
        pick a b k true e h f = absurd (cc f)

        goes : (s k : Bool) → (s && not k) ≡ false → k ≡ false → s ≡ false
        goes true true h e = absurd (cc e)
        goes true false h e = absurd (cc h)
        goes false k h e = refl

        go : (b : Bool) → any_ancestor_passes whole at.rela_path ≡ b → IsCoveredByExactlyOnePath paths at.rela_path
        go true e =
            let first : FirstAbove at.rela_path = first-above (length at.rela_path) at.rela_path (omega arith) e in
            record {
              over = first.target;
              is_planned = plan.are first.target ∙ pick (whole first.target) (is_text_in_list first.target (paths_of_removable_entries asked entries)) (any_ancestor_passes whole first.target) (has_kept_untrackable_at_path asked.others entries first.target) (inl first.passes) first.is_target.none_above (none-staying at first.target here first.is_above);
              covers = prefix-beneath first.target at.rela_path first.is_above;
              only = λ other h over. by first other h (prefix-cases other at.rela_path over);
            }
          where
            by : (first : FirstAbove at.rela_path) (other : List ℕ) → is_text_in_list other paths ≡ true → (is_empty_or_root_path other ≡ true) ⊎ ((other ≡ at.rela_path) ⊎ (is_beneath_directory other at.rela_path ≡ true)) → other ≡ first.target
            by first other h (inl t) = absurd (true≢false (sym t ∙ below-top other h))
            by first other h (inr (inl same)) =
                absurd (true≢false (sym first.passes ∙ none-above whole other first.target (planned-path other h).none_above (ap (is_beneath_directory first.target) same ∙ first.is_above)))
            by first other h (inr (inr above)) =
                sym (target-only whole at.rela_path first.target other first.is_target above (above-whole at other here h above) (planned-path other h).none_above)
        go false e =
            record {
              over = at.rela_path;
              is_planned = plan.are at.rela_path ∙ pick (whole at.rela_path) (is_text_in_list at.rela_path (paths_of_removable_entries asked entries)) (any_ancestor_passes whole at.rela_path) (has_kept_untrackable_at_path asked.others entries at.rela_path) (inr among) e
                  (goes (has_kept_untrackable_at_path asked.others entries at.rela_path) (any_ancestor_passes whole at.rela_path) gone e);
              covers = prefix-self at.rela_path;
              only = λ other h over. by other h (prefix-cases other at.rela_path over);
            }
          where
            by : (other : List ℕ) → is_text_in_list other paths ≡ true → (is_empty_or_root_path other ≡ true) ⊎ ((other ≡ at.rela_path) ⊎ (is_beneath_directory other at.rela_path ≡ true)) → other ≡ at.rela_path
            by other h (inl t) = absurd (true≢false (sym t ∙ below-top other h))
            by other h (inr (inl same)) = same
            by other h (inr (inr above)) = absurd (true≢false (sym (above-whole at other here h above) ∙ none-above whole at.rela_path other e above))

    -- what lies beneath a planned path is not planned
    pub plan-apart : NoPathLiesBeneathAnother paths
    plan-apart above path h k = go (is_beneath_directory above path) refl
      where
        over : is_beneath_directory above path ≡ true → (may_remove_whole_directory asked entries path ≡ true) ⊎ RemovableAt asked entries path → may_remove_whole_directory asked entries above ≡ true
        over beneath (inl e) =
            let found : FoundEntry (entry_lies_beneath_directory path) entries = found-entry (entry_lies_beneath_directory path) entries (whole-says asked entries path e).some in
            above-whole found.entry above found.is_in h (above-then above path found.entry.rela_path beneath found.passes)
        over beneath (inr at) = above-whole at.entry above at.is_in h (ap (is_beneath_directory above) (sym at.path_is) ∙ beneath)

        go : (b : Bool) → is_beneath_directory above path ≡ b → is_beneath_directory above path ≡ false
        go false e = e
        go true e = absurd (true≢false (sym (over e (planned-path path k).which) ∙ none-above whole path above (planned-path path k).none_above e))

    -- what may go and is not left lies at or beneath one of them
    plan-covers : (path : List ℕ) → is_text_in_list path (paths_of_removable_entries asked entries) ≡ true → is_untrackable_left_in_place asked entries path ≡ false → IsCoveredByExactlyOnePath paths path
    plan-covers path h gone = by (removable-at asked entries path h)
      where
        by : RemovableAt asked entries path → IsCoveredByExactlyOnePath paths path
        by at =
            subst (IsCoveredByExactlyOnePath paths) (sym at.path_is)
            (covered at.entry at.is_in (ap (λ (p : List ℕ). is_text_in_list p (paths_of_removable_entries asked entries)) (sym at.path_is) ∙ h) (ap (is_untrackable_left_in_place asked entries) (sym at.path_is) ∙ gone))

    -- what is left lies at or beneath none
    plan-leaves : (path : List ℕ) → is_untrackable_left_in_place asked entries path ≡ true → (other : List ℕ) → is_text_in_list other paths ≡ true → is_prefix_by_whole_components other path ≡ false
    plan-leaves path h other k = go (is_prefix_by_whole_components other path) refl
      where
        left : (has_kept_untrackable_at_path asked.others entries path ≡ true) × (not (any_ancestor_passes whole path) ≡ true)
        left = and_both (has_kept_untrackable_at_path asked.others entries path) (not (any_ancestor_passes whole path)) h

        never : (is_empty_or_root_path other ≡ true) ⊎ ((other ≡ path) ⊎ (is_beneath_directory other path ≡ true)) → ⊥
        never (inl t) = true≢false (sym t ∙ below-top other k)
        never (inr (inl same)) =
            true≢false (sym left.0 ∙ ap (has_kept_untrackable_at_path asked.others entries) (sym same)
            ∙ not_true (has_kept_untrackable_at_path asked.others entries other) (and_both (is_outermost_removable_path asked entries other) (not (has_kept_untrackable_at_path asked.others entries other)) (sym (plan.are other) ∙ k)).1)
        never (inr (inr above)) = by (found-entry (is_kept_untrackable_at_path asked.others path) entries left.0)
          where
            by : FoundEntry (is_kept_untrackable_at_path asked.others path) entries → ⊥
            by found =
                let same = same_text path found.entry.rela_path (sym (and_both (keeps_untrackable_kind asked.others found.entry.disk_kind) (bytes_eq path found.entry.rela_path) found.passes).1) in
                true≢false (sym (above-whole found.entry other found.is_in k (ap (is_beneath_directory other) (sym same) ∙ above)) ∙ none-above whole path other (not_true (any_ancestor_passes whole path) left.1) above)

        go : (b : Bool) → is_prefix_by_whole_components other path ≡ b → is_prefix_by_whole_components other path ≡ false
        go false e = e
        go true e = absurd (never (prefix-cases other path e))

    -- The plan by a flat report is safe.
    pub plan-safe : RemovesSafelyAndCompletely asked entries paths (paths_of_removable_entries asked entries)
    plan-safe =
        record {
          each = λ path h. planned-safe path (sym (plan.are path) ∙ h);
          covers_all = λ all path h. plan-covers path h (none-left asked entries all path);
          covers = plan-covers;
          leaves = plan-leaves;
        }

-- Over any report a plan spares what the index has.
pub plan-spared : (asked : CleanPlanInputs) (entries : List Entry) (paths : List (List ℕ)) → IsOrderedRemovalPlan asked entries paths → AscendOutsideGitAndIndex asked.fold asked.index paths
plan-spared asked entries paths plan =
    record {
      ascends = plan.ascends;
      each = λ path h. (left-out asked path (planned-left asked entries path (planned-which asked entries path (sym (plan.are path) ∙ h)).which)).spared;
    }
