-- What the lines of a setup mean together.
use Rattle.std.specs.Prelude.{ℕ, List, [], ◌∷◌, not, codes, Option, Some, None, option_map, option_and_then, if◌then◌else◌}
use Rattle.std.specs.BTreeSet.{insert_key}
use Rattle.std.specs.FinMap.{empty}
use Rattle.std.specs.Cmp.Lexicographic.{slice_cmp}
use Rattle.std.specs.Ordering.{nat_cmp}
use Rattle.dir_classify.specs.declared.options.EmissionMode.{EmissionMode}
use Rattle.dir_classify.specs.declared.options.EmissionMode.TheVariants.{Matching, CollapseDirectory}
use Rattle.dir_classify.specs.declared.options.CollapsedEntriesEmissionMode.{CollapsedEntriesEmissionMode}
use Rattle.dir_classify.specs.declared.options.CollapsedEntriesEmissionMode.TheVariants.{OnStatusMismatch, All}
use Rattle.dir_classify.specs.declared.options.ForDeletionMode.{ForDeletionMode}
use Rattle.dir_classify.specs.declared.options.ForDeletionMode.TheVariants.{IgnoredDirectoriesCanHideNestedRepositories, FindNonBareRepositoriesInIgnoredDirectories, FindRepositoriesInIgnoredDirectories}
use Rattle.worktree_stack.specs.declared.ignore_source.Source.{Source as IgnoreSource}
use Rattle.worktree_stack.specs.declared.ignore_source.Source.TheVariants as ignore_sources
use Rattle.worktree_report.specs.declared.permissions.Permissions.{Permissions}
use Rattle.dir_walk.specs.declared.strategy.Strategy.{Strategy}
use Rattle.dir_walk.specs.declared.strategy.Strategy.TheVariants.{Held, AtOnce}
use Rattle.worktree_report.specs.declared.setup.option.SetupOption.{SetupOption}
use Rattle.worktree_report.specs.declared.setup.SetupOptions.{SetupOptions}
use Rattle.worktree_report.specs.declared.setup.Setup.{Setup}
use Rattle.worktree_report.specs.declared.setup.meant.Looking.{Looking}
use Rattle.worktree_report.specs.declared.setup.meant.Reporting.{Reporting}
use Rattle.worktree_report.specs.Permissions.{all_permissions, isolated_permissions}
use Rattle.worktree_report.specs.SetupDepth.{parse_depth_limit}
use Rattle.worktree_report.specs.SetupFiles.{objects_with_blobs_added}
use Rattle.worktree_report.specs.SetupOptions.{is_option_set_to, first_option_of_name}
use Rattle.worktree_report.specs.SetupSaid.{SetupDraft}
use Rattle.worktree_report.specs.SetupSpecs.{parse_valid_specs}

-- ---- the options, each with its default where no line sets it

-- how untracked paths are reported
abbrev pub emit_untracked_from_options : List SetupOption → EmissionMode
emit_untracked_from_options options = if is_option_set_to (codes "emit_untracked") (codes "collapse") options then CollapseDirectory else Matching

-- whether and how ignored paths are
abbrev pub emit_ignored_from_options : List SetupOption → Option EmissionMode
emit_ignored_from_options options =
    if is_option_set_to (codes "emit_ignored") (codes "matching") options then Some Matching
    else if is_option_set_to (codes "emit_ignored") (codes "collapse") options then Some CollapseDirectory
    else None

-- which paths are besides the directory that was folded over them
abbrev pub emit_collapsed_from_options : List SetupOption → Option CollapsedEntriesEmissionMode
emit_collapsed_from_options options =
    if is_option_set_to (codes "emit_collapsed") (codes "mismatch") options then Some OnStatusMismatch
    else if is_option_set_to (codes "emit_collapsed") (codes "all") options then Some All
    else None

-- whether the paths are to be deleted, and how ignored directories are looked into
abbrev pub for_deletion_from_options : List SetupOption → Option ForDeletionMode
for_deletion_from_options options =
    if is_option_set_to (codes "for_deletion") (codes "hide") options then Some IgnoredDirectoriesCanHideNestedRepositories
    else if is_option_set_to (codes "for_deletion") (codes "nonbare") options then Some FindNonBareRepositoriesInIgnoredDirectories
    else if is_option_set_to (codes "for_deletion") (codes "all") options then Some FindRepositoriesInIgnoredDirectories
    else None

-- where rules files are read
abbrev pub ignore_source_from_options : List SetupOption → IgnoreSource
ignore_source_from_options options =
    if is_option_set_to (codes "ignore_source") (codes "mapping") options then ignore_sources.IdMapping
    else ignore_sources.WorktreeThenIdMappingIfNotSkipped

-- which configurations are read; what is safe in a repository of anybody is all, since nothing that is read is run
abbrev pub permissions_from_options : List SetupOption → Permissions
permissions_from_options options = if is_option_set_to (codes "permissions") (codes "isolated") options then isolated_permissions else all_permissions

-- how the walk goes
abbrev pub walk_strategy_of_setup_options : List SetupOption → Strategy
walk_strategy_of_setup_options options = if is_option_set_to (codes "strategy") (codes "at_once") options then AtOnce else Held

-- those that say how paths are looked at
unfoldable pub classification_options : List SetupOption → Looking
classification_options options =
    record {
      ignore_case = is_option_set_to (codes "ignore_case") (codes "yes") options;
      recurse_repositories = is_option_set_to (codes "recurse_repositories") (codes "yes") options;
      classify_untracked_bare_repositories = is_option_set_to (codes "classify_untracked_bare_repositories") (codes "yes") options;
      symlinks_to_directories_are_ignored_like_directories = is_option_set_to (codes "symlinks_to_directories_are_ignored_like_directories") (codes "yes") options;
      excludes = not (is_option_set_to (codes "excludes") (codes "no") options);
      precious = is_option_set_to (codes "precious") (codes "yes") options;
      strict_parents = is_option_set_to (codes "strict_parents") (codes "yes") options;
      for_deletion = for_deletion_from_options options;
      ignore_source = ignore_source_from_options options;
      strategy = walk_strategy_of_setup_options options;
    }

-- and those that say what is reported
unfoldable pub reporting_options : List SetupOption → Reporting
reporting_options options =
    record {
      emit_pruned = is_option_set_to (codes "emit_pruned") (codes "yes") options;
      emit_tracked = is_option_set_to (codes "emit_tracked") (codes "yes") options;
      emit_untracked = emit_untracked_from_options options;
      emit_ignored = emit_ignored_from_options options;
      emit_collapsed = emit_collapsed_from_options options;
      emit_empty_directories = is_option_set_to (codes "emit_empty_directories") (codes "yes") options;
      origins = is_option_set_to (codes "origins") (codes "yes") options;
      submodules = is_option_set_to (codes "submodules") (codes "yes") options;
      permissions = permissions_from_options options;
      print_outcome = is_option_set_to (codes "print_outcome") (codes "yes") options;
    }

-- all options as one record: each stands in one group alone
abbrev pub merge_option_groups : Looking → Reporting → SetupOptions
merge_option_groups l r =
    record {
      ignore_case = l.ignore_case;
      recurse_repositories = l.recurse_repositories;
      emit_pruned = r.emit_pruned;
      emit_tracked = r.emit_tracked;
      emit_untracked = r.emit_untracked;
      emit_ignored = r.emit_ignored;
      emit_collapsed = r.emit_collapsed;
      emit_empty_directories = r.emit_empty_directories;
      for_deletion = l.for_deletion;
      classify_untracked_bare_repositories = l.classify_untracked_bare_repositories;
      symlinks_to_directories_are_ignored_like_directories = l.symlinks_to_directories_are_ignored_like_directories;
      excludes = l.excludes;
      precious = l.precious;
      strict_parents = l.strict_parents;
      origins = r.origins;
      print_outcome = r.print_outcome;
      submodules = r.submodules;
      ignore_source = l.ignore_source;
      permissions = r.permissions;
      strategy = l.strategy;
    }

-- what the option lines set, and the default of each option that no line sets
unfoldable pub setup_options_from_lines : List SetupOption → SetupOptions
setup_options_from_lines options = merge_option_groups (classification_options options) (reporting_options options)

-- ---- the rest

-- what stands once, by its keyword
unfoldable pub value_of_named_option : List ℕ → List SetupOption → Option (List ℕ)
value_of_named_option name options = option_map (λ (o : SetupOption). o.value) (first_option_of_name name options)

-- the depth limit, and its default
abbrev pub depth_limit_or_default : Option ℕ → ℕ
depth_limit_or_default None = 256
depth_limit_or_default (Some depth) = depth

-- the number behind the keyword `depth`, or 256 where no line gives it
unfoldable pub depth_limit_from_options : List SetupOption → ℕ
depth_limit_from_options options = depth_limit_or_default (option_and_then parse_depth_limit (value_of_named_option (codes "depth") options))

-- paths in the order of their bytes, each once, with some more in their places
abbrev pub insert_paths_in_order : List (List ℕ) → List (List ℕ) → List (List ℕ)
insert_paths_in_order paths [] = paths
insert_paths_in_order paths (path ∷ more) = insert_paths_in_order (insert_key (slice_cmp nat_cmp) paths path) more

-- the setup that is meant by what the lines say
abbrev pub setup_from_draft : SetupDraft → Setup
setup_from_draft all =
    record {
      git_dir = value_of_named_option (codes "git_dir") all.options;
      current_dir = value_of_named_option (codes "current_dir") all.options;
      root = value_of_named_option (codes "root") all.options;
      depth = depth_limit_from_options all.options;
      index = all.index;
      blobs = objects_with_blobs_added empty all.blobs;
      overrides = all.overrides;
      globals = all.globals;
      specs = parse_valid_specs (setup_options_from_lines all.options).ignore_case all.specs;
      worktrees = record { keys = insert_paths_in_order [] all.worktrees };
      configs = all.configs;
      options = setup_options_from_lines all.options;
    }
