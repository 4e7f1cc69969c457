-- What the options of a command say together.
use Rattle.std.specs.Prelude.{ℕ, Bool, true, false, Option, None, if◌then◌else◌}
use Rattle.clean_plan.specs.declared.what.Finding.{Finding}
use Rattle.clean_plan.specs.declared.what.Finding.TheVariants as findings
use Rattle.clean_plan.specs.declared.what.What.{What}
use Rattle.clean_plan.specs.declared.what.What.TheVariants as whats
use Rattle.dir_classify.specs.declared.options.CollapsedEntriesEmissionMode.{CollapsedEntriesEmissionMode}
use Rattle.dir_classify.specs.declared.options.EmissionMode.{EmissionMode}
use Rattle.dir_classify.specs.declared.options.EmissionMode.TheVariants.{Matching}
use Rattle.dir_classify.specs.declared.options.ForDeletionMode.{ForDeletionMode}
use Rattle.dir_walk.specs.declared.strategy.Strategy.{Strategy}
use Rattle.dir_walk.specs.declared.strategy.Strategy.TheVariants.{Held}
use Rattle.worktree_report.specs.Permissions.{all_permissions, isolated_permissions}
use Rattle.worktree_report.specs.declared.permissions.Permissions.{Permissions}
use Rattle.worktree_report.specs.declared.setup.SetupOptions.{SetupOptions}
use Rattle.worktree_stack.specs.declared.ignore_source.Source.TheVariants as sources
use Rattle.git_clean.specs.declared.options.Cleaning.{Cleaning}
use Rattle.ls_files.specs.declared.options.Listing.{Listing}
use Rattle.command_line.specs.declared.choice.Choice.{Choice}
use Rattle.command_line.specs.declared.choice.Choice.TheVariants as choices
use Rattle.command_line.specs.declared.clean_options.CleanChoice.{CleanChoice}
use Rattle.command_line.specs.declared.clean_options.CleanChoice.TheVariants as cleans
use Rattle.command_line.specs.declared.clean_options.Force.TheVariants as forces
use Rattle.command_line.specs.declared.draft.Draft.{Draft}
use Rattle.command_line.specs.declared.form.Color.{Color}
use Rattle.command_line.specs.declared.form.Color.TheVariants.{Auto}
use Rattle.command_line.specs.declared.form.Form.{Form}
use Rattle.command_line.specs.declared.form.LineEnd.{LineEnd}
use Rattle.command_line.specs.declared.form.LineEnd.TheVariants.{Feed}
use Rattle.command_line.specs.declared.form.Wording.{Wording}
use Rattle.command_line.specs.declared.form.Wording.TheVariants.{Words}
use Rattle.command_line.specs.declared.opt.Switch.{Switch}
use Rattle.command_line.specs.declared.opt.Switch.TheVariants as switches
use Rattle.command_line.specs.ChangeWords.{no_deleted_modified_flags, deleted_modified_flags_with_choice}
use Rattle.command_line.specs.Checkings.{default_check_ignore_request, check_request_with_choice}
use Rattle.command_line.specs.Cleanings.{with_force_or_no_force}
use Rattle.command_line.specs.Comparings.{default_diff_files_request, diff_files_request_with_choice}
use Rattle.command_line.specs.declared.check_options.CheckChoice.{CheckChoice}
use Rattle.command_line.specs.declared.compare_options.CompareChoice.{CompareChoice}

-- Each untracked path by itself and nothing else, by the rules that git asks: what lies in an excluded directory stays excluded.
-- Whether letters compare without regard to their case is left to the configuration.
abbrev pub default_report_options : SetupOptions
default_report_options =
    record {
      ignore_case = false;
      recurse_repositories = false;
      emit_pruned = false;
      emit_tracked = false;
      emit_untracked = Matching;
      emit_ignored = None;
      emit_collapsed = None;
      emit_empty_directories = false;
      for_deletion = None;
      classify_untracked_bare_repositories = false;
      symlinks_to_directories_are_ignored_like_directories = false;
      excludes = true;
      precious = false;
      strict_parents = true;
      origins = false;
      print_outcome = false;
      submodules = false;
      ignore_source = sources.WorktreeThenIdMappingIfNotSkipped;
      permissions = all_permissions;
      strategy = Held;
    }

-- how an answer is written where no word says it
abbrev pub default_output_form : Form
default_output_form = record { wording = Words; end = Feed; color = Auto }

-- What the index has, each path by itself and from the current directory. How bytes above 0x7f are written is left to the configuration.
abbrev pub default_ls_files_options : Listing
default_ls_files_options =
    record {
      cached = false;
      stages = false;
      unmerged = false;
      others = false;
      killed = false;
      ignored = false;
      directories = false;
      empty_directories = true;
      excludes_standard = false;
      excludes_directories = false;
      patterns = false;
      error_unmatch = false;
      tags = false;
      valid = false;
      ends_in_nul = false;
      deduplicates = false;
      full_names = false;
      quote_path = true;
    }

-- What is asked of `clean` where no word says anything. Whether repositories go is left to `-f`.
abbrev pub default_clean_request : Cleaning
default_clean_request =
    record {
      dry_run = false;
      directories = false;
      ignored_too = false;
      ignored_only = false;
      patterns = false;
      repositories = false;
      quiet = false;
      quote_path = true;
    }

-- what no words say: untracked paths may be removed, and no repository, bare ones neither
abbrev pub default_draft : Draft
default_draft =
    record {
      options = default_report_options;
      what = whats.Untracked;
      finding = findings.All;
      depth = 256;
      form = default_output_form;
      listing = default_ls_files_options;
      changes = no_deleted_modified_flags;
      cleaning = default_clean_request;
      comparing = default_diff_files_request;
      checking = default_check_ignore_request;
      force = forces.Unsaid;
      by_stat = false;
      is_help = false;
    }

-- options with one of them turned on or off
abbrev pub with_switch_turned : Switch → Bool → SetupOptions → SetupOptions
with_switch_turned switches.Tracked on options = record options { emit_tracked = on }
with_switch_turned switches.Pruned on options = record options { emit_pruned = on }
with_switch_turned switches.EmptyDirectories on options = record options { emit_empty_directories = on }
with_switch_turned switches.Origins on options = record options { origins = on }
with_switch_turned switches.Submodules on options = record options { submodules = on }
with_switch_turned switches.Outcome on options = record options { print_outcome = on }
with_switch_turned switches.Excludes on options = record options { excludes = on }
with_switch_turned switches.Precious on options = record options { precious = on }
with_switch_turned switches.StrictParents on options = record options { strict_parents = on }
with_switch_turned switches.RecurseRepositories on options = record options { recurse_repositories = on }
with_switch_turned switches.BareRepositories on options = record options { classify_untracked_bare_repositories = on }
with_switch_turned switches.LinksAsDirectories on options = record options { symlinks_to_directories_are_ignored_like_directories = on }

-- a listing with one choice made or dropped; what changed is told beside it
abbrev pub ls_files_options_with_choice : Choice → Bool → Listing → Listing
ls_files_options_with_choice choices.Cached on listing = record listing { cached = on }
ls_files_options_with_choice choices.Stages on listing = record listing { stages = on }
ls_files_options_with_choice choices.Unmerged on listing = record listing { unmerged = on }
ls_files_options_with_choice choices.Others on listing = record listing { others = on }
ls_files_options_with_choice choices.Killed on listing = record listing { killed = on }
ls_files_options_with_choice choices.Deleted on listing = listing
ls_files_options_with_choice choices.Modified on listing = listing
ls_files_options_with_choice choices.Ignored on listing = record listing { ignored = on }
ls_files_options_with_choice choices.Directories on listing = record listing { directories = on }
ls_files_options_with_choice choices.EmptyDirectories on listing = record listing { empty_directories = on }
ls_files_options_with_choice choices.ExcludesStandard on listing = record listing { excludes_standard = on }
ls_files_options_with_choice choices.ExcludesDirectories on listing = record listing { excludes_directories = on }
ls_files_options_with_choice choices.ErrorUnmatch on listing = record listing { error_unmatch = on }
ls_files_options_with_choice choices.Tags on listing = record listing { tags = on }
ls_files_options_with_choice choices.Valid on listing = record listing { valid = on }
ls_files_options_with_choice choices.Nul on listing = record listing { ends_in_nul = on }
ls_files_options_with_choice choices.Deduplicates on listing = record listing { deduplicates = on }
ls_files_options_with_choice choices.FullNames on listing = record listing { full_names = on }

-- what is asked of `clean` with one choice made or dropped
abbrev pub clean_request_with_choice : CleanChoice → Bool → Cleaning → Cleaning
clean_request_with_choice cleans.DryRun on cleaning = record cleaning { dry_run = on }
clean_request_with_choice cleans.Directories on cleaning = record cleaning { directories = on }
clean_request_with_choice cleans.IgnoredToo on cleaning = record cleaning { ignored_too = on }
clean_request_with_choice cleans.IgnoredAlone on cleaning = record cleaning { ignored_only = on }
clean_request_with_choice cleans.Quiet on cleaning = record cleaning { quiet = on }

-- the configurations that may be read
abbrev pub permissions_isolated_or_all : Bool → Permissions
permissions_isolated_or_all is_isolated = if is_isolated then isolated_permissions else all_permissions

-- ---- a draft with one more thing said; what was said of it before is forgotten

-- the draft with other options of the report
abbrev pub with_setup_options : SetupOptions → Draft → Draft
with_setup_options options draft = record draft { options = options }

-- the draft with another form of the answer
abbrev pub with_output_form : Form → Draft → Draft
with_output_form form draft = record draft { form = form }

-- one of what is reported is turned on or off
abbrev pub with_report_switch : Switch → Bool → Draft → Draft
with_report_switch switch on draft = with_setup_options (with_switch_turned switch on draft.options) draft

-- untracked paths are reported in this mode
abbrev pub with_untracked_emission_mode : EmissionMode → Draft → Draft
with_untracked_emission_mode mode draft = with_setup_options (record draft.options { emit_untracked = mode }) draft

-- ignored paths are reported in this mode, or not at all
abbrev pub with_ignored_emission_mode : Option EmissionMode → Draft → Draft
with_ignored_emission_mode mode draft = with_setup_options (record draft.options { emit_ignored = mode }) draft

-- what a folded directory covers is reported in this mode, or not at all
abbrev pub with_collapsed_emission_mode : Option CollapsedEntriesEmissionMode → Draft → Draft
with_collapsed_emission_mode mode draft = with_setup_options (record draft.options { emit_collapsed = mode }) draft

-- the walk looks in this mode for what must not be deleted, or not at all
abbrev pub with_for_deletion_mode : Option ForDeletionMode → Draft → Draft
with_for_deletion_mode mode draft = with_setup_options (record draft.options { for_deletion = mode }) draft

-- the configurations of an isolated work tree are read, or all
abbrev pub with_config_permissions : Bool → Draft → Draft
with_config_permissions is_isolated draft = with_setup_options (record draft.options { permissions = permissions_isolated_or_all is_isolated }) draft

-- subtrees are walked by this strategy
abbrev pub with_walk_strategy : Strategy → Draft → Draft
with_walk_strategy strategy draft = with_setup_options (record draft.options { strategy = strategy }) draft

-- lines are written in words or in letters
abbrev pub with_line_wording : Wording → Draft → Draft
with_line_wording wording draft = with_output_form (record draft.form { wording = wording }) draft

-- lines end so
abbrev pub with_line_end : LineEnd → Draft → Draft
with_line_end end draft = with_output_form (record draft.form { end = end }) draft

-- colours are used so
abbrev pub with_color_choice : Color → Draft → Draft
with_color_choice color draft = with_output_form (record draft.form { color = color }) draft

-- these paths may go
abbrev pub with_removal_scope : What → Draft → Draft
with_removal_scope what draft = record draft { what = what }

-- repositories are looked for so
abbrev pub with_repository_finding : Finding → Draft → Draft
with_repository_finding finding draft = record draft { finding = finding }

-- so many components may a directory have that is entered
abbrev pub with_walk_depth : ℕ → Draft → Draft
with_walk_depth depth draft = record draft { depth = depth }

-- one choice of `ls-files` is made or dropped
abbrev pub with_ls_files_choice : Choice → Bool → Draft → Draft
with_ls_files_choice choice on draft = record draft { listing = ls_files_options_with_choice choice on draft.listing; changes = deleted_modified_flags_with_choice choice on draft.changes }

-- one choice of `clean` is made or dropped
abbrev pub with_clean_choice : CleanChoice → Bool → Draft → Draft
with_clean_choice choice on draft = record draft { cleaning = clean_request_with_choice choice on draft.cleaning }

-- force is asked for once more, or no more
abbrev pub with_force_added_or_dropped : Bool → Draft → Draft
with_force_added_or_dropped on draft = record draft { force = with_force_or_no_force on draft.force }

-- one choice of `diff-files` is made or dropped
abbrev pub with_diff_files_choice : CompareChoice → Bool → Draft → Draft
with_diff_files_choice choice on draft = record draft { comparing = diff_files_request_with_choice choice on draft.comparing }

-- one choice of `check-ignore` is made or dropped
abbrev pub with_check_ignore_choice : CheckChoice → Bool → Draft → Draft
with_check_ignore_choice choice on draft = record draft { checking = check_request_with_choice choice on draft.checking }

-- the stat fields of files tell what changed
abbrev pub with_stat_comparison : Draft → Draft
with_stat_comparison draft = record draft { by_stat = true }

-- the help text is asked for
abbrev pub with_help_requested : Draft → Draft
with_help_requested draft = record draft { is_help = true }
