-- The options of a walk as definitions see them: with the borrowed set as the list of its paths.
use Rattle.std.specs.Prelude.{ℕ, Bool, true, false, ◌||◌, List, [], Option, Some, None, option_map}
use Rattle.dir_classify.specs.declared.options.Options.{Options}
use Rattle.dir_classify.specs.declared.options.EmissionMode.{EmissionMode}
use Rattle.dir_classify.specs.declared.options.EmissionMode.TheVariants.{Matching, CollapseDirectory}
use Rattle.dir_classify.specs.declared.options.CollapsedEntriesEmissionMode.{CollapsedEntriesEmissionMode}
use Rattle.dir_classify.specs.declared.options.ForDeletionMode.{ForDeletionMode}
use Rattle.dir_classify.specs.declared.options.ForDeletionMode.TheVariants.{IgnoredDirectoriesCanHideNestedRepositories, FindNonBareRepositoriesInIgnoredDirectories, FindRepositoriesInIgnoredDirectories}

-- the fields of `Options`, with the worktree set as a list of paths, empty where none is given
pub record WalkOptions : Type 0 where
  pub precompose_unicode : Bool
  pub ignore_case : Bool
  pub recurse_repositories : Bool
  pub emit_pruned : Bool
  pub emit_ignored : Option EmissionMode
  pub for_deletion : Option ForDeletionMode
  pub classify_untracked_bare_repositories : Bool
  pub emit_tracked : Bool
  pub emit_untracked : EmissionMode
  pub emit_empty_directories : Bool
  pub emit_collapsed : Option CollapsedEntriesEmissionMode
  pub symlinks_to_directories_are_ignored_like_directories : Bool
  -- the paths of the worktree set; none where no set is given
  pub worktrees : List (List ℕ)

-- the paths of a set that may not be given
abbrev pub paths_of_optional_set : Option (List (List ℕ)) → List (List ℕ)
paths_of_optional_set None = []
paths_of_optional_set (Some paths) = paths

-- every field is taken over; a worktree set that is not given reads as an empty list
unfoldable pub walk_options_of : Options → WalkOptions
walk_options_of o =
    record {
      precompose_unicode = o.precompose_unicode;
      ignore_case = o.ignore_case;
      recurse_repositories = o.recurse_repositories;
      emit_pruned = o.emit_pruned;
      emit_ignored = o.emit_ignored;
      for_deletion = o.for_deletion;
      classify_untracked_bare_repositories = o.classify_untracked_bare_repositories;
      emit_tracked = o.emit_tracked;
      emit_untracked = o.emit_untracked;
      emit_empty_directories = o.emit_empty_directories;
      emit_collapsed = o.emit_collapsed;
      symlinks_to_directories_are_ignored_like_directories = o.symlinks_to_directories_are_ignored_like_directories;
      worktrees = paths_of_optional_set (option_map (λ set. set.now.keys) o.worktree_relative_worktree_dirs);
    }

-- ---- modes

-- a directory may be emitted in place of what lies in it
abbrev pub is_collapsing_mode : EmissionMode → Bool
is_collapsing_mode Matching = false
is_collapsing_mode CollapseDirectory = true

-- the mode folds directories; with no mode given, none is folded
abbrev pub collapses_directories_if_some : Option EmissionMode → Bool
collapses_directories_if_some None = false
collapses_directories_if_some (Some mode) = is_collapsing_mode mode

-- directories are folded, if they can be: untracked ones, or ignored ones
abbrev pub folds_untracked_or_ignored : WalkOptions → Bool
folds_untracked_or_ignored o = is_collapsing_mode o.emit_untracked || collapses_directories_if_some o.emit_ignored

-- deletion looks for repositories in ignored directories
abbrev pub finds_repositories_in_ignored : Option ForDeletionMode → Bool
finds_repositories_in_ignored None = false
finds_repositories_in_ignored (Some IgnoredDirectoriesCanHideNestedRepositories) = false
finds_repositories_in_ignored (Some FindNonBareRepositoriesInIgnoredDirectories) = true
finds_repositories_in_ignored (Some FindRepositoriesInIgnoredDirectories) = true

-- and for bare ones too
abbrev pub finds_bare_repositories_in_ignored : Option ForDeletionMode → Bool
finds_bare_repositories_in_ignored None = false
finds_bare_repositories_in_ignored (Some IgnoredDirectoriesCanHideNestedRepositories) = false
finds_bare_repositories_in_ignored (Some FindNonBareRepositoriesInIgnoredDirectories) = false
finds_bare_repositories_in_ignored (Some FindRepositoriesInIgnoredDirectories) = true

-- deletion does not look into ignored directories, which may hide repositories
abbrev pub deletion_skips_search_of_ignored_directories : Option ForDeletionMode → Bool
deletion_skips_search_of_ignored_directories None = false
deletion_skips_search_of_ignored_directories (Some IgnoredDirectoriesCanHideNestedRepositories) = true
deletion_skips_search_of_ignored_directories (Some FindNonBareRepositoriesInIgnoredDirectories) = false
deletion_skips_search_of_ignored_directories (Some FindRepositoriesInIgnoredDirectories) = false
