-- The report of a work tree that a setup asks for.
use Rattle.std.specs.Prelude.{◌≡◌, ◌⊎◌, ◌≤◌, ◌-◌, ◌^◌, min, ℕ, List, [], Bool, codes, length, Option, Some, None, option_map, true, false, ◌+◌, Result, Ok, Err, IfOk}
use Rattle.gitbase_core.specs.declared.entry.IndexEntry.{IndexEntry}
use Rattle.gitbase_core.specs.Objects.{ObjectsById}
use Rattle.gitbase_core.specs.Path.{components, path_joined_with_slash}
use Rattle.glob_rules.specs.PathSpec.{PathSpec}
use Rattle.glob_rules.specs.PathSpecs.{can_match, match_of_path_by_specs, covers, common_directory_of_specs}
use Rattle.worktree_fs.specs.Causes.{saturating_sum}
use Rattle.worktree_fs.specs.Paths.{root_joined_with_relative}
use Rattle.worktree_fs.specs.Tree.{Names}
use Rattle.worktree_stack.specs.Reading.{TreeAndObjects}
use Rattle.dir_classify.specs.declared.error.Error.{Error}
use Rattle.dir_classify.specs.Chosen.{WalkOptions}
use Rattle.dir_classify.specs.Layers.{WalkSetting}
use Rattle.dir_walk.specs.declared.strategy.Strategy.TheVariants.{Held}
use Rattle.dir_walk.specs.declared.report.Report.{Report as WalkReport}
use Rattle.dir_walk.specs.Opens.{CountsListingsByStrategy, reads_files_for_rules_only}
use Rattle.dir_walk.specs.Report.{report}
use Rattle.dir_walk.specs.Reports.{IsSafeReport}
use Rattle.dir_walk.specs.WalkRefused.{default_without_refusals, IsUnenteredNonDirectoryRoot, HoldsIfRootIsFileError, IsWholeWalkErrorByInput, IsWholeWalkErrorByTree, IsWholeWalkErrorBySources}
use Rattle.dir_walk.specs.Rooting.{IsNormalizedRoot}
use Rattle.dir_walk.specs.Root.{rooted, find_traversal_root, walk_over_sources}
use Rattle.dir_walk.specs.Walkable.{HasReportOrIsWalkable}
use Rattle.dir_walk.specs.Walks.{most_opened_in_walk}
use Rattle.worktree_report.specs.declared.known.Known.{Known}
use Rattle.worktree_report.specs.declared.report.Report.{Report}
use Rattle.worktree_report.specs.declared.refusal.Misread.{Misread}
use Rattle.worktree_report.specs.declared.error.ReportError.{ReportError}
use Rattle.worktree_report.specs.declared.setup.Setup.{Setup}
use Rattle.worktree_report.specs.declared.refusal.WalkWord.{WalkWord}
use Rattle.worktree_report.specs.declared.refusal.Refusal.TheVariants as refusals
use Rattle.worktree_report.specs.Excluding.{stack_setup_if_excludes_option}
use Rattle.worktree_report.specs.Lines.{text_of_report}
use Rattle.worktree_report.specs.Loading.{count_files_if_submodules_asked, known_submodules_in_tree, IsKnownWithoutMisread}
use Rattle.worktree_report.specs.Submodules.{report_with_submodules}
use Rattle.worktree_report.specs.Converted.{refusal_of_walk_error}

-- the options of a walk over a worktree that composes names or not
abbrev pub walk_options_of_setup : Bool → Setup → WalkOptions
walk_options_of_setup composes setup =
    record {
      precompose_unicode = composes;
      ignore_case = setup.options.ignore_case;
      recurse_repositories = setup.options.recurse_repositories;
      emit_pruned = setup.options.emit_pruned;
      emit_ignored = setup.options.emit_ignored;
      for_deletion = setup.options.for_deletion;
      classify_untracked_bare_repositories = setup.options.classify_untracked_bare_repositories;
      emit_tracked = setup.options.emit_tracked;
      emit_untracked = setup.options.emit_untracked;
      emit_empty_directories = setup.options.emit_empty_directories;
      emit_collapsed = setup.options.emit_collapsed;
      symlinks_to_directories_are_ignored_like_directories = setup.options.symlinks_to_directories_are_ignored_like_directories;
      worktrees = setup.worktrees.keys;
    }

-- `.git` in the worktree root, where no git directory is given
abbrev pub git_dir_or_default : List ℕ → Option (List ℕ) → List ℕ
git_dir_or_default root None = path_joined_with_slash root (codes ".git")
git_dir_or_default root (Some path) = path

-- the worktree root, where no current directory is given
abbrev pub current_dir_or_root : List ℕ → Option (List ℕ) → List ℕ
current_dir_or_root root None = root
current_dir_or_root root (Some path) = path

-- what a walk is given by these path specs, with these options, this index, a folded look-up or none, and these directories
abbrev pub walk_setting_of_parts : List PathSpec → List ℕ → WalkOptions → List IndexEntry → Bool → List ℕ → List ℕ → WalkSetting
walk_setting_of_parts specs root options index has_lookup git_dir current_dir =
    record {
      root = root;
      options = options;
      index = index;
      has_lookup = has_lookup;
      can_match = λ path is_dir. can_match specs path;
      matched = match_of_path_by_specs specs;
      covers = λ path. covers specs path false;
      common = common_directory_of_specs specs;
      git_dir = git_dir;
      current_dir = current_dir;
    }

-- what the walk of the work tree at `root` is given, where the worktree composes names or not; there is a folded look-up
-- where letters compare without their case
abbrev pub walk_setting_of_setup : Bool → List ℕ → Setup → WalkSetting
walk_setting_of_setup composes root setup =
    walk_setting_of_parts setup.specs root (walk_options_of_setup composes setup) setup.index setup.options.ignore_case (git_dir_or_default root setup.git_dir) (current_dir_or_root root setup.current_dir)

-- where rules are read: in a tree, and in the blobs of the setup
abbrev pub sources_of_tree_and_setup : Names → Setup → TreeAndObjects
sources_of_tree_and_setup t setup = record { tree = t; objects = setup.blobs }

-- what a walk of the work tree at `root` gives over a tree and a store; none where there is no such report
abbrev pub walk_report_of_setup : Bool → TreeAndObjects → List ℕ → Setup → Option WalkReport
walk_report_of_setup composes s root setup = report (walk_setting_of_setup composes root setup) (stack_setup_if_excludes_option root setup) s setup.root setup.depth

-- what the walk gave, with the submodules in it; none where the walk gave none or what tells of submodules is misread
abbrev pub report_unless_misread : Result (Option Known) Misread → Option WalkReport → Option Report
report_unless_misread (Ok known) walked = option_map (report_with_submodules known) walked
report_unless_misread (Err why) walked = None

-- the report: that with the submodules, where they are asked for; none where what tells of them is outside its grammar
abbrev pub report_of : Bool → TreeAndObjects → List ℕ → Setup → Option Report
report_of composes s root setup = report_unless_misread (known_submodules_in_tree s.tree root setup) (walk_report_of_setup composes s root setup)

-- What tells of submodules is in its grammar, where it is asked for; and there is such a walk, or all is as a walk needs it, item by
-- item.
pub record IsSetupValidAtRoot (composes : Bool) (s : TreeAndObjects) (root : List ℕ) (setup : Setup) : Type 0 where
  pub known : Option Known
  pub known_is : known_submodules_in_tree s.tree root setup ≡ Ok known
  pub walkable : HasReportOrIsWalkable (walk_setting_of_setup composes root setup) (stack_setup_if_excludes_option root setup) s setup.root setup.depth

-- its text
abbrev pub report_text_of_setup : Bool → Names → List ℕ → Setup → Option (List ℕ)
report_text_of_setup composes t root setup = option_map (text_of_report setup.options) (report_of composes (sources_of_tree_and_setup t setup) root setup)

-- This is what the walk gives, and safe to act on: its entries ascend strictly by path, so that none stands twice; beneath no path of one
-- lies a leaf that the walk met and that is tracked or a repository, unless it is pruned; and it covers what the same walk
-- without folding shows.
abbrev pub IsWalkReportOfSetup : Bool → TreeAndObjects → List ℕ → Setup → WalkReport → Type 0
IsWalkReportOfSetup composes s root setup walked = IsSafeReport (walk_setting_of_setup composes root setup) (stack_setup_if_excludes_option root setup) s setup.root setup.depth walked

-- this is the report: such a walk, with the submodules
pub record IsReportOfSetup (composes : Bool) (s : TreeAndObjects) (root : List ℕ) (setup : Setup) (r : Report) : Type 0 where
  pub walked : WalkReport
  pub known : Option Known
  pub walk_is : IsWalkReportOfSetup composes s root setup walked
  pub known_is : known_submodules_in_tree s.tree root setup ≡ Ok known
  pub same : r ≡ report_with_submodules known walked

-- the report over a tree is safe to act on
pub record HasSafeReportAtRoot (composes : Bool) (t : Names) (root : List ℕ) (setup : Setup) : Type 0 where
  pub made : Report
  pub is : IsReportOfSetup composes (sources_of_tree_and_setup t setup) root setup made

-- The worktree is not read any more, or no more often than a walk reads it from its traversal root on, which the report names, if
-- there is one: at most once for each directory that was opened, of which there are `opened`, and for each component of that root.
-- A refusal may come with `spare` more.
abbrev pub ReadsAtMostAsWalk : {E : Type 0} → Bool → List ℕ → Setup → Result Report E → ℕ → ℕ → ℕ → ℕ → Type 0
ReadsAtMostAsWalk composes root setup result before now opened spare =
    (now ≡ before)
    ⊎ ((start : List ℕ) × IsNormalizedRoot (walk_setting_of_setup composes root setup) setup.root start × IfOk result (λ r. r.root ≡ root_joined_with_relative root start)
    × (now ≤ before + opened + length (components start) + spare))

-- The worktree is read no more often than a walk reads it, and once for each file that tells of submodules before.
pub record ReadsAtMostAsWalkAndModules {E : Type 0} (composes : Bool) (root : List ℕ) (setup : Setup) (result : Result Report E) (before now opened spare : ℕ) : Type 0 where
  pub between : ℕ
  pub loaded : between ≤ before + count_files_if_submodules_asked setup
  pub walked : ReadsAtMostAsWalk composes root setup result between now opened spare

-- Of the report over a tree: the interrupt was asked at least as often as directories are counted, or stands at its last value;
-- and where files are read for their rules alone, and all over the worktree itself, it was read at most once for each directory that
-- the walk enters and once for each component of the traversal root, besides what tells of submodules.
pub record AsksAndReadsForReport (composes : Bool) (t : Names) (root : List ℕ) (setup : Setup) (questions0 questions1 reads0 reads1 : ℕ) : Type 0 where
  pub made : Report
  pub is : report_of composes (sources_of_tree_and_setup t setup) root setup ≡ Some made
  pub asked : saturating_sum questions0 made.outcome.read_dir_calls ≤ questions1
  pub reads : setup.options.strategy ≡ Held → reads_files_for_rules_only (walk_options_of_setup composes setup) ≡ true
      → ReadsAtMostAsWalkAndModules {E = ReportError} composes root setup (Ok made) reads0 reads1
      (most_opened_in_walk setup.depth (walk_over_sources (walk_setting_of_setup composes root setup) (stack_setup_if_excludes_option root setup) (sources_of_tree_and_setup t setup) setup.root) 0) 0

-- Of the report over a tree: so many directories were listed over the worktree, no more than the walk enters within its depth,
-- and as many as the report counts. Where subtrees are walked at once, over forks, the worktree counts one of them at most.
pub record ListsDirectoriesOfReport (composes : Bool) (t : Names) (root : List ℕ) (setup : Setup) (lists0 lists1 : ℕ) : Type 0 where
  pub opened : ℕ
  pub within : opened ≤ most_opened_in_walk setup.depth (walk_over_sources (walk_setting_of_setup composes root setup) (stack_setup_if_excludes_option root setup) (sources_of_tree_and_setup t setup) setup.root) 0
  pub listed : CountsListingsByStrategy setup.options.strategy lists0 lists1 opened
  pub counted : (r : Report) → report_of composes (sources_of_tree_and_setup t setup) root setup ≡ Some r → r.outcome.read_dir_calls ≡ min opened (2 ^ 32 - 1)

-- ---- refusals

-- what the refusal of a walk says of the tree and the rules, unless the store failed
abbrev pub IsWalkErrorOfSetup : Bool → TreeAndObjects → List ℕ → Setup → Type 0 → Error → Type 0
IsWalkErrorOfSetup composes s root setup StoreFailed error = IsWholeWalkErrorBySources (walk_setting_of_setup composes root setup) (stack_setup_if_excludes_option root setup) s setup.root setup.depth StoreFailed error

-- the same of a told tree alone, and, where the store holds these objects, of the rules, whatever failed
abbrev pub IsWalkErrorFoundInTree : Bool → List ℕ → Setup → Option ObjectsById → TreeAndObjects → Error → Type 0
IsWalkErrorFoundInTree composes root setup holds s error = IsWholeWalkErrorByTree (walk_setting_of_setup composes root setup) (stack_setup_if_excludes_option root setup) setup.root holds s error

-- that the worktree root is the traversal root, is not entered and is no directory, where it is refused, without a fault
abbrev pub IsErrorOfUnenteredRoot : Bool → Names → List ℕ → Setup → Error → Type 0
IsErrorOfUnenteredRoot composes t root setup error =
    HoldsIfRootIsFileError
    ((find_traversal_root (walk_setting_of_setup composes root setup) t setup.root ≡ rooted [])
    × IsUnenteredNonDirectoryRoot (walk_setting_of_setup composes root setup) (stack_setup_if_excludes_option root setup) (sources_of_tree_and_setup t setup) default_without_refusals)
    error

-- and of what was handed in
abbrev pub IsWalkErrorAboutInput : Bool → List ℕ → Setup → Error → Type 0
IsWalkErrorAboutInput composes root setup error = IsWholeWalkErrorByInput (walk_setting_of_setup composes root setup) (stack_setup_if_excludes_option root setup) setup.root setup.depth error

-- The walk of the work tree at `root` is refused with a word and a path: all that tells of submodules is in its grammar, and the
-- error that they stand for is about what was handed in, and has its cause in the tree.
pub record RefusesWalkWithWordAndPath (composes : Bool) (t : Names) (root : List ℕ) (setup : Setup) (word : WalkWord) (path : List ℕ) : Type 0 where
  pub error : Error
  pub is : refusal_of_walk_error error ≡ refusals.Walk word path
  pub about : IsWalkErrorAboutInput composes root setup error
  pub cause : IsWalkErrorOfSetup composes (sources_of_tree_and_setup t setup) root setup ⊥ error
  pub known : IsKnownWithoutMisread (known_submodules_in_tree t root setup)

-- The word and the path of a refused walk are about the root, the rules and the limit that were handed in, told tree or not.
-- Where a tree is told all that tells of submodules is in its grammar, and the error is found in the tree, whatever failed.
pub record IsWordAndPathAboutInput (composes : Bool) (told : Option Names) (root : List ℕ) (setup : Setup) (word : WalkWord) (path : List ℕ) : Type 0 where
  pub error : Error
  pub is : refusal_of_walk_error error ≡ refusals.Walk word path
  pub about : IsWalkErrorAboutInput composes root setup error
  pub known : (t : Names) → told ≡ Some t → IsKnownWithoutMisread (known_submodules_in_tree t root setup)
  pub found : (t : Names) → told ≡ Some t → IsWalkErrorFoundInTree composes root setup (Some setup.blobs) (sources_of_tree_and_setup t setup) error
