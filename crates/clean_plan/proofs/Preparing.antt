-- Options are prepared for a plan just where preparing them changes nothing.
use Rattle.std.proofs.Common.{◌≡◌, ◌↔◌, Bool, true, false, not, ◌&&◌, Option, Some, None, refl, sym, ◌∙◌, subst}
use Rattle.std.specs.Prelude.{is_none}
use Rattle.dir_classify.specs.declared.options.CollapsedEntriesEmissionMode.{CollapsedEntriesEmissionMode}
use Rattle.dir_classify.specs.declared.options.EmissionMode.{EmissionMode}
use Rattle.dir_classify.specs.declared.options.EmissionMode.TheVariants.{Matching, CollapseDirectory}
use Rattle.dir_classify.specs.declared.options.ForDeletionMode.{ForDeletionMode}
use Rattle.dir_classify.specs.declared.options.ForDeletionMode.TheVariants.{IgnoredDirectoriesCanHideNestedRepositories, FindNonBareRepositoriesInIgnoredDirectories, FindRepositoriesInIgnoredDirectories}
use Rattle.worktree_report.specs.declared.setup.SetupOptions.{SetupOptions}
use Rattle.clean_plan.specs.declared.what.Finding.{Finding}
use Rattle.clean_plan.specs.declared.what.Finding.TheVariants.{NonBare, All}
use Rattle.clean_plan.specs.Prepared.{for_deletion_mode_of_finding, finds_bare_repositories, bare_option_fits_finding, for_deletion_mode_matches_finding, has_deletion_options_of_finding, is_matching_emission_mode, is_some_matching_emission_mode, emits_pruned_tracked_and_empty, are_options_prepared_for_plan, omits_submodules_and_origins, emits_each_path_uncollapsed, options_prepared_for_plan}
use Rattle.clean_plan.proofs.Directories.{and_both}

-- ---- what a test of an option says

is-not : (a : Bool) → not a ≡ true → a ≡ false
is-not true h = absurd (cc h)
is-not false h = refl

is-none : (mode : Option CollapsedEntriesEmissionMode) → is_none mode ≡ true → mode ≡ None
is-none None h = refl
is-none (Some mode) h = absurd (cc h)

is-matching : (mode : EmissionMode) → is_matching_emission_mode mode ≡ true → mode ≡ Matching
is-matching Matching h = refl
is-matching CollapseDirectory h = absurd (cc h)

is-matching-if : (mode : Option EmissionMode) → is_some_matching_emission_mode mode ≡ true → mode ≡ Some Matching
is-matching-if None h = absurd (cc h)
is-matching-if (Some Matching) h = refl
is-matching-if (Some CollapseDirectory) h = absurd (cc h)

is-deletion : (finding : Finding) (mode : Option ForDeletionMode) → for_deletion_mode_matches_finding finding mode ≡ true → mode ≡ Some (for_deletion_mode_of_finding finding)
is-deletion finding None h = absurd (cc h)
is-deletion finding (Some IgnoredDirectoriesCanHideNestedRepositories) h = absurd (cc h)
is-deletion NonBare (Some FindNonBareRepositoriesInIgnoredDirectories) h = refl
is-deletion NonBare (Some FindRepositoriesInIgnoredDirectories) h = absurd (cc h)
is-deletion All (Some FindNonBareRepositoriesInIgnoredDirectories) h = absurd (cc h)
is-deletion All (Some FindRepositoriesInIgnoredDirectories) h = refl

is-bare : (finding : Finding) (bare : Bool) → bare_option_fits_finding finding bare ≡ true → bare ≡ finds_bare_repositories finding
is-bare NonBare true h = absurd (cc h)
is-bare NonBare false h = refl
is-bare All bare h = h

-- ---- all of them

with-same : (o : SetupOptions) (deletion : Option ForDeletionMode) (bare recurse submodules origins : Bool) (untracked : EmissionMode) (ignored : Option EmissionMode)
    (collapsed : Option CollapsedEntriesEmissionMode) (pruned tracked empty : Bool)
    → o.for_deletion ≡ deletion → o.classify_untracked_bare_repositories ≡ bare → o.recurse_repositories ≡ recurse → o.submodules ≡ submodules → o.origins ≡ origins
    → o.emit_untracked ≡ untracked → o.emit_ignored ≡ ignored → o.emit_collapsed ≡ collapsed
    → o.emit_pruned ≡ pruned → o.emit_tracked ≡ tracked → o.emit_empty_directories ≡ empty
    → ◌≡◌ {A = SetupOptions} (record o {
      for_deletion = deletion;
      classify_untracked_bare_repositories = bare;
      recurse_repositories = recurse;
      submodules = submodules;
      origins = origins;
      emit_untracked = untracked;
      emit_ignored = ignored;
      emit_collapsed = collapsed;
      emit_pruned = pruned;
      emit_tracked = tracked;
      emit_empty_directories = empty;
    }) o
with-same o deletion bare recurse submodules origins untracked ignored collapsed pruned tracked empty a b c d e f g h i j k =
    rw (sym a, sym b, sym c, sym d, sym e, sym f, sym g, sym h, sym i, sym j, sym k) refl

prepared-same : (finding : Finding) (o : SetupOptions) → are_options_prepared_for_plan finding o ≡ true → options_prepared_for_plan finding o ≡ o
prepared-same finding o is =
    let parts = and_both (emits_each_path_uncollapsed o) (emits_pruned_tracked_and_empty o && (has_deletion_options_of_finding finding o && omits_submodules_and_origins o)) is in
    let more = and_both (emits_pruned_tracked_and_empty o) (has_deletion_options_of_finding finding o && omits_submodules_and_origins o) parts.1 in
    let last = and_both (has_deletion_options_of_finding finding o) (omits_submodules_and_origins o) more.1 in
    let unfolded = and_both (is_matching_emission_mode o.emit_untracked) (is_some_matching_emission_mode o.emit_ignored && is_none o.emit_collapsed) parts.0 in
    let folds = and_both (is_some_matching_emission_mode o.emit_ignored) (is_none o.emit_collapsed) unfolded.1 in
    let opened = and_both o.emit_pruned (o.emit_tracked && o.emit_empty_directories) more.0 in
    let shown = and_both o.emit_tracked o.emit_empty_directories opened.1 in
    let deletion = and_both (for_deletion_mode_matches_finding finding o.for_deletion) (bare_option_fits_finding finding o.classify_untracked_bare_repositories && not o.recurse_repositories) last.0 in
    let found = and_both (bare_option_fits_finding finding o.classify_untracked_bare_repositories) (not o.recurse_repositories) deletion.1 in
    let short = and_both (not o.submodules) (not o.origins) last.1 in
    with-same o (Some (for_deletion_mode_of_finding finding)) (finds_bare_repositories finding) false false false Matching (Some Matching) None true true true
    (is-deletion finding o.for_deletion deletion.0) (is-bare finding o.classify_untracked_bare_repositories found.0) (is-not o.recurse_repositories found.1)
    (is-not o.submodules short.0) (is-not o.origins short.1) (is-matching o.emit_untracked unfolded.0) (is-matching-if o.emit_ignored folds.0)
    (is-none o.emit_collapsed folds.1) opened.0 shown.0 shown.1

is-prepared : (finding : Finding) (o : SetupOptions) → are_options_prepared_for_plan finding (options_prepared_for_plan finding o) ≡ true
is-prepared NonBare o = refl
is-prepared All o = refl

pub is_same : (finding : Finding) (o : SetupOptions) (answer : Bool) → answer ≡ are_options_prepared_for_plan finding o → (answer ≡ true) ↔ (options_prepared_for_plan finding o ≡ o)
is_same finding o answer is = (
  λ h. prepared-same finding o (sym is ∙ h),
  λ h. is ∙ subst (λ (x : SetupOptions). are_options_prepared_for_plan finding x ≡ true) h (is-prepared finding o),
)
