-- What the walk is asked for.
use Rattle.std.specs.Prelude.{Bool, true, false, not, ◌&&◌, ◌||◌, Option, Some, None, if◌then◌else◌}
use Rattle.dir_classify.specs.declared.options.EmissionMode.{EmissionMode}
use Rattle.dir_classify.specs.declared.options.EmissionMode.TheVariants.{Matching}
use Rattle.dir_classify.specs.declared.options.ForDeletionMode.{ForDeletionMode}
use Rattle.dir_classify.specs.declared.options.ForDeletionMode.TheVariants.{FindNonBareRepositoriesInIgnoredDirectories}
use Rattle.worktree_report.specs.declared.setup.SetupOptions.{SetupOptions}
use Rattle.ls_files.specs.declared.options.Listing.{Listing}
use Rattle.ls_files.specs.Choices.{uses_per_directory_ignore_rules}
use Rattle.ls_files.specs.Others.{lists_empty_directories}

-- ignored paths are asked for, by rules of the walk
abbrev pub asks_ignored_by_rules : Listing → Bool
asks_ignored_by_rules l = l.ignored && uses_per_directory_ignore_rules l

-- ignored paths are asked for themselves, or since a directory is not empty where they lie in it
abbrev pub ignored_emission_mode : Listing → Option EmissionMode
ignored_emission_mode l = if asks_ignored_by_rules l || lists_empty_directories l then Some Matching else None

-- what lies in ignored directories is asked for: each file, or whether there is one
abbrev pub needs_ignored_contents : Listing → Bool
needs_ignored_contents l = asks_ignored_by_rules l && not (lists_empty_directories l)

-- Ignored directories are walked, as for a deletion, where that is asked for.
abbrev pub deletion_mode_for_contents : Listing → Option ForDeletionMode
deletion_mode_for_contents l = if needs_ignored_contents l then Some FindNonBareRepositoriesInIgnoredDirectories else None

-- Options with those set that a listing needs: each path by itself and none folded; what is left out, as path specs are asked here
-- about directories; directories without names, where these are shown; and git's rule that what an ignored directory holds is ignored. All others stay.
abbrev pub walk_options_for_listing : Listing → SetupOptions → SetupOptions
walk_options_for_listing l options =
    record options {
      excludes = uses_per_directory_ignore_rules l;
      strict_parents = true;
      precious = false;
      recurse_repositories = false;
      symlinks_to_directories_are_ignored_like_directories = false;
      classify_untracked_bare_repositories = false;
      for_deletion = deletion_mode_for_contents l;
      emit_pruned = true;
      emit_tracked = false;
      emit_untracked = Matching;
      emit_ignored = ignored_emission_mode l;
      emit_collapsed = None;
      emit_empty_directories = lists_empty_directories l;
      submodules = false;
      origins = false;
    }
