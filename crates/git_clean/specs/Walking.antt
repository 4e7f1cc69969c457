-- What the walk is asked for.
use Rattle.std.specs.Prelude.{true, false, not, Some, None, if◌then◌else◌}
use Rattle.dir_classify.specs.declared.options.EmissionMode.TheVariants.{Matching}
use Rattle.dir_classify.specs.declared.options.ForDeletionMode.{ForDeletionMode}
use Rattle.dir_classify.specs.declared.options.ForDeletionMode.TheVariants.{FindNonBareRepositoriesInIgnoredDirectories, IgnoredDirectoriesCanHideNestedRepositories}
use Rattle.worktree_report.specs.declared.setup.SetupOptions.{SetupOptions}
use Rattle.git_clean.specs.declared.options.Cleaning.{Cleaning}

-- What lies in an ignored directory is asked for where that may go.
abbrev pub for_deletion_mode_of_cleaning : Cleaning → ForDeletionMode
for_deletion_mode_of_cleaning c = if c.ignored_only then FindNonBareRepositoriesInIgnoredDirectories else IgnoredDirectoriesCanHideNestedRepositories

-- Options with those set that a cleaning needs: for deletion, each path by itself and none folded or hidden but what is tracked, "-x: Don't
-- use the standard ignore rules", and git's rule that what an ignored directory holds is ignored. All others stay.
abbrev pub walk_options_for_cleaning : Cleaning → SetupOptions → SetupOptions
walk_options_for_cleaning c options =
    record options {
      excludes = not c.ignored_too;
      strict_parents = true;
      precious = false;
      recurse_repositories = false;
      symlinks_to_directories_are_ignored_like_directories = false;
      classify_untracked_bare_repositories = false;
      for_deletion = Some (for_deletion_mode_of_cleaning c);
      emit_pruned = true;
      emit_tracked = false;
      emit_untracked = Matching;
      emit_ignored = Some Matching;
      emit_collapsed = None;
      emit_empty_directories = true;
      submodules = false;
      origins = false;
    }
