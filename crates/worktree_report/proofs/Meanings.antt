-- What the options of a setup mean, and a line that names a configuration.
use Rattle.std.proofs.Common.{◌≡◌, ℕ, List, [], ◌∷◌, ◌++◌, Bool, Option, Some, codes, refl, sym, ap, ◌∙◌, append-nil}
use Rattle.std.specs.FinMap.{empty}
use Rattle.gitbase_core.specs.Objects.{ObjectsById}
use Rattle.gitbase_core.specs.declared.entry.IndexEntry.{IndexEntry}
use Rattle.glob_rules.specs.PathSpec.{PathSpec}
use Rattle.dir_classify.specs.declared.options.EmissionMode.{EmissionMode}
use Rattle.dir_classify.specs.declared.options.CollapsedEntriesEmissionMode.{CollapsedEntriesEmissionMode}
use Rattle.worktree_report.specs.declared.permissions.Permissions.{Permissions}
use Rattle.worktree_report.specs.declared.setup.SetupOptions.{SetupOptions}
use Rattle.worktree_report.specs.declared.setup.line.SetupLine.{SetupLine}
use Rattle.worktree_report.specs.declared.setup.line.SetupLine.TheVariants.{Configures}
use Rattle.worktree_report.specs.declared.setup.option.SetupOption.{SetupOption}
use Rattle.worktree_report.specs.ConfigFiles.{ConfigFile}
use Rattle.worktree_report.specs.SetupFiles.{objects_with_blobs_added}
use Rattle.worktree_report.specs.SetupMeant.{depth_limit_from_options, emit_untracked_from_options, emit_ignored_from_options, emit_collapsed_from_options, setup_from_draft, setup_options_from_lines, insert_paths_in_order, permissions_from_options, reporting_options, value_of_named_option}
use Rattle.worktree_report.specs.SetupSpecs.{parse_valid_specs}
use Rattle.worktree_report.specs.SetupOptions.{is_option_set_to}
use Rattle.worktree_report.specs.SetupSaid.{SetupDraft}
use Rattle.worktree_report.specs.SetupText.{add_setup_line}

pub reporting-is : (options : List SetupOption) (pruned tracked empty origins submodules outcome : Bool) (untracked : EmissionMode) (ignored : Option EmissionMode)
    (collapsed : Option CollapsedEntriesEmissionMode) (permissions : Permissions)
    → pruned ≡ is_option_set_to (codes "emit_pruned") (codes "yes") options → tracked ≡ is_option_set_to (codes "emit_tracked") (codes "yes") options
    → untracked ≡ emit_untracked_from_options options → ignored ≡ emit_ignored_from_options options → collapsed ≡ emit_collapsed_from_options options
    → empty ≡ is_option_set_to (codes "emit_empty_directories") (codes "yes") options → origins ≡ is_option_set_to (codes "origins") (codes "yes") options
    → submodules ≡ is_option_set_to (codes "submodules") (codes "yes") options → permissions ≡ permissions_from_options options
    → outcome ≡ is_option_set_to (codes "print_outcome") (codes "yes") options
    → record {
      emit_pruned = pruned;
      emit_tracked = tracked;
      emit_untracked = untracked;
      emit_ignored = ignored;
      emit_collapsed = collapsed;
      emit_empty_directories = empty;
      origins = origins;
      submodules = submodules;
      permissions = permissions;
      print_outcome = outcome;
    } ≡ reporting_options options
unfolding reporting_options
reporting-is options pruned tracked empty origins submodules outcome untracked ignored collapsed permissions a b c d e f g h i j = rw (a, b, c, d, e, f, g, h, i, j) refl

configures : (draft : SetupDraft) (configs : List ConfigFile) (config : ConfigFile) → configs ≡ draft.configs ++ config ∷ [] → Some (record draft { configs = configs }) ≡ add_setup_line draft (Some (Configures config))
configures draft configs config e =
    rw (e, append-nil draft.options, append-nil draft.index, append-nil draft.blobs, append-nil draft.overrides, append-nil draft.globals, append-nil draft.specs, append-nil draft.worktrees) refl

pub taken-configures : {view draft : SetupDraft} (line : Option SetupLine) (configs : List ConfigFile) (config : ConfigFile) → view ≡ draft → line ≡ Some (Configures config) → configs ≡ view.configs ++ config ∷ []
    → Some (record view { configs = configs }) ≡ add_setup_line draft line
taken-configures {view = view} {draft = draft} line configs config same is e =
    configures view configs config e ∙ ap (λ (d : SetupDraft). add_setup_line d (Some (Configures config))) same ∙ ap (add_setup_line draft) (sym is)

pub meant-is : (d : SetupDraft) (git_dir current_dir root : Option (List ℕ)) (depth : ℕ) (index : List IndexEntry) (blobs : ObjectsById) (overrides globals : List ℕ) (specs : List PathSpec) (keys : List (List ℕ))
    (configs : List ConfigFile) (options : SetupOptions)
    → git_dir ≡ value_of_named_option (codes "git_dir") d.options → current_dir ≡ value_of_named_option (codes "current_dir") d.options → root ≡ value_of_named_option (codes "root") d.options → depth ≡ depth_limit_from_options d.options
    → index ≡ d.index → blobs ≡ objects_with_blobs_added empty d.blobs → overrides ≡ d.overrides → globals ≡ d.globals → options ≡ setup_options_from_lines d.options → specs ≡ parse_valid_specs options.ignore_case d.specs
    → keys ≡ insert_paths_in_order [] d.worktrees → configs ≡ d.configs
    → record {
      git_dir = git_dir;
      current_dir = current_dir;
      root = root;
      depth = depth;
      index = index;
      blobs = blobs;
      overrides = overrides;
      globals = globals;
      specs = specs;
      worktrees = record { keys = keys };
      configs = configs;
      options = options;
    } ≡ setup_from_draft d
meant-is d git_dir current_dir root depth index blobs overrides globals specs keys configs options a b c e f g h i j k l m = rw (a, b, c, e, f, g, h, i, k, j, l, m) refl
