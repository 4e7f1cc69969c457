-- The options by which a plan is made.
use Rattle.std.specs.Prelude.{Bool, true, false, not, ◌&&◌, Option, Some, None, is_none}
use Rattle.dir_classify.specs.declared.options.EmissionMode.{EmissionMode}
use Rattle.dir_classify.specs.declared.options.EmissionMode.TheVariants.{Matching, CollapseDirectory}
use Rattle.dir_classify.specs.declared.options.ForDeletionMode.{ForDeletionMode}
use Rattle.dir_classify.specs.declared.options.ForDeletionMode.TheVariants.{IgnoredDirectoriesCanHideNestedRepositories, FindNonBareRepositoriesInIgnoredDirectories, FindRepositoriesInIgnoredDirectories}
use Rattle.worktree_report.specs.declared.setup.SetupOptions.{SetupOptions}
use Rattle.clean_plan.specs.declared.what.Finding.{Finding}
use Rattle.clean_plan.specs.declared.what.Finding.TheVariants.{NonBare, All}

-- how the walk looks for repositories in ignored directories
abbrev pub for_deletion_mode_of_finding : Finding → ForDeletionMode
for_deletion_mode_of_finding NonBare = FindNonBareRepositoriesInIgnoredDirectories
for_deletion_mode_of_finding All = FindRepositoriesInIgnoredDirectories

-- bare repositories are looked for too
abbrev pub finds_bare_repositories : Finding → Bool
finds_bare_repositories NonBare = false
finds_bare_repositories All = true

-- Options with those set that a plan needs: for deletion, with repositories found as asked, nothing folded and nothing hidden,
-- no submodules and no origins. All others stay.
abbrev pub options_prepared_for_plan : Finding → SetupOptions → SetupOptions
options_prepared_for_plan finding options =
    record options {
      for_deletion = Some (for_deletion_mode_of_finding finding);
      classify_untracked_bare_repositories = finds_bare_repositories finding;
      recurse_repositories = false;
      submodules = false;
      origins = false;
      emit_untracked = Matching;
      emit_ignored = Some Matching;
      emit_collapsed = None;
      emit_pruned = true;
      emit_tracked = true;
      emit_empty_directories = true;
    }

-- repositories are found so in ignored directories
abbrev pub for_deletion_mode_matches_finding : Finding → Option ForDeletionMode → Bool
for_deletion_mode_matches_finding finding None = false
for_deletion_mode_matches_finding finding (Some IgnoredDirectoriesCanHideNestedRepositories) = false
for_deletion_mode_matches_finding finding (Some FindNonBareRepositoriesInIgnoredDirectories) = not (finds_bare_repositories finding)
for_deletion_mode_matches_finding finding (Some FindRepositoriesInIgnoredDirectories) = finds_bare_repositories finding

-- bare repositories are looked for just where they are to be found
abbrev pub bare_option_fits_finding : Finding → Bool → Bool
bare_option_fits_finding NonBare bare = not bare
bare_option_fits_finding All bare = bare

-- paths are reported one by one
abbrev pub is_matching_emission_mode : EmissionMode → Bool
is_matching_emission_mode Matching = true
is_matching_emission_mode CollapseDirectory = false

-- the same, where paths are reported at all
abbrev pub is_some_matching_emission_mode : Option EmissionMode → Bool
is_some_matching_emission_mode None = false
is_some_matching_emission_mode (Some mode) = is_matching_emission_mode mode

-- untracked and ignored paths are reported each by itself
abbrev pub emits_each_path_uncollapsed : SetupOptions → Bool
emits_each_path_uncollapsed options = is_matching_emission_mode options.emit_untracked && (is_some_matching_emission_mode options.emit_ignored && is_none options.emit_collapsed)

-- nothing is hidden
abbrev pub emits_pruned_tracked_and_empty : SetupOptions → Bool
emits_pruned_tracked_and_empty options = options.emit_pruned && (options.emit_tracked && options.emit_empty_directories)

-- paths are to be deleted, with repositories found as asked and not looked into
abbrev pub has_deletion_options_of_finding : Finding → SetupOptions → Bool
has_deletion_options_of_finding finding options =
    for_deletion_mode_matches_finding finding options.for_deletion
    && (bare_option_fits_finding finding options.classify_untracked_bare_repositories && not options.recurse_repositories)

-- nothing is told of submodules and of the rules that decided
abbrev pub omits_submodules_and_origins : SetupOptions → Bool
omits_submodules_and_origins options = not options.submodules && not options.origins

-- Options are prepared for a plan.
abbrev pub are_options_prepared_for_plan : Finding → SetupOptions → Bool
are_options_prepared_for_plan finding options = emits_each_path_uncollapsed options && (emits_pruned_tracked_and_empty options && (has_deletion_options_of_finding finding options && omits_submodules_and_origins options))
