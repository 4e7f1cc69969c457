-- Where what tells of submodules is outside its grammar or is not read, by what the setup asks for, whether or not the tree is told.
use Rattle.std.specs.Prelude.{◌≡◌, ◌≤◌, ◌+◌, ℕ, List, Bool, true, take, Some, Ok, Err}
use Rattle.std.specs.List.{slice_get}
use Rattle.git_config_lite.specs.Grammar.{parse_text_sections}
use Rattle.git_config_lite.specs.Sections.{Configuration}
use Rattle.submodule.specs.Overrides.{parse_gitmodules_with_overrides}
use Rattle.worktree_fs.specs.declared.worktree.Worktree.{Ghosts as WorktreeOf}
use Rattle.worktree_fs.specs.Tree.{Names}
use Rattle.worktree_report.specs.declared.error.ReportError.{ReportError}
use Rattle.worktree_report.specs.declared.error.ReportError.TheVariants as errors
use Rattle.worktree_report.specs.declared.modules.Modules.{Modules}
use Rattle.worktree_report.specs.declared.permissions.Permissions.{Permissions}
use Rattle.worktree_report.specs.declared.refusal.Misread.{Misread}
use Rattle.worktree_report.specs.declared.refusal.Misread.TheVariants as misread
use Rattle.worktree_report.specs.declared.setup.Setup.{Setup}
use Rattle.worktree_report.specs.ConfigFiles.{ConfigFile}
use Rattle.worktree_report.specs.Loading.{count_admitted_configs, count_files_if_submodules_asked, count_files_for_submodules, metadata_of_config_file, gitmodules_path, empty_configuration, append_admitted_configs, known_submodules_with_active_specs}
use Rattle.worktree_report.specs.Loads.{ReadsFilesAtMost}
use Rattle.worktree_report.specs.Permissions.{admits}

-- ---- a place outside its grammar

-- A text of a configuration that is admitted has this first line outside the grammar.
pub record IsConfigLineMisread (permissions : Permissions) (named : ConfigFile) (line : ℕ) : Type 0 where
  pub admitted : admits permissions named.0 ≡ true
  pub text : List ℕ
  pub outside : parse_text_sections (metadata_of_config_file named) text ≡ Err line

-- So has one of the setup, by its number among them, counted from 1.
pub record IsSetupConfigMisread (setup : Setup) (at line : ℕ) : Type 0 where
  pub before : ℕ
  pub named : ConfigFile
  pub at_is : at ≡ before + 1
  pub named_is : slice_get setup.configs before ≡ Some named
  pub text : IsConfigLineMisread setup.options.permissions named line

-- A text in the place of `.gitmodules` has it, beside some configuration.
pub record IsGitmodulesLineMisread (root : List ℕ) (line : ℕ) : Type 0 where
  pub text : List ℕ
  pub config : Configuration
  pub outside : parse_gitmodules_with_overrides (Some (gitmodules_path root)) text config ≡ Err line

-- A value of `submodule.active` is refused, by its number in some configuration.
pub record IsActiveSpecMisread (folds : Bool) (which : Misread) : Type 0 where
  pub modules : Modules
  pub outside : known_submodules_with_active_specs folds modules ≡ Err which

-- what is outside its grammar is a configuration of the setup that is admitted, `.gitmodules`, or a value of `submodule.active`
abbrev pub IsMisreadOfSetup : List ℕ → Setup → Misread → Type 0
IsMisreadOfSetup root setup (misread.Config at line) = IsSetupConfigMisread setup at line
IsMisreadOfSetup root setup (misread.Modules line) = IsGitmodulesLineMisread root line
IsMisreadOfSetup root setup (misread.ActiveSpec at) = IsActiveSpecMisread setup.options.ignore_case (misread.ActiveSpec at)

-- and it is asked for
pub record IsMisreadAskedBySetup (root : List ℕ) (setup : Setup) (which : Misread) : Type 0 where
  pub asked : setup.options.submodules ≡ true
  pub outside : IsMisreadOfSetup root setup which

-- ---- one part of it alone

-- it is this configuration, by this number
abbrev pub IsMisreadOfNumberedConfig : Permissions → ℕ → ConfigFile → Misread → Type 0
IsMisreadOfNumberedConfig permissions at named (misread.Config number line) = (number ≡ at) × IsConfigLineMisread permissions named line
IsMisreadOfNumberedConfig permissions at named (misread.Modules line) = ⊥
IsMisreadOfNumberedConfig permissions at named (misread.ActiveSpec value) = ⊥

-- it is some configuration of the setup
abbrev pub IsMisreadOfSomeConfig : Setup → Misread → Type 0
IsMisreadOfSomeConfig setup (misread.Config at line) = IsSetupConfigMisread setup at line
IsMisreadOfSomeConfig setup (misread.Modules line) = ⊥
IsMisreadOfSomeConfig setup (misread.ActiveSpec value) = ⊥

-- it is `.gitmodules`
abbrev pub IsMisreadOfGitmodules : List ℕ → Misread → Type 0
IsMisreadOfGitmodules root (misread.Config at line) = ⊥
IsMisreadOfGitmodules root (misread.Modules line) = IsGitmodulesLineMisread root line
IsMisreadOfGitmodules root (misread.ActiveSpec value) = ⊥

-- it is a value of `submodule.active`
abbrev pub IsMisreadOfActiveSpec : Bool → Misread → Type 0
IsMisreadOfActiveSpec folds (misread.Config at line) = ⊥
IsMisreadOfActiveSpec folds (misread.Modules line) = ⊥
IsMisreadOfActiveSpec folds (misread.ActiveSpec value) = IsActiveSpecMisread folds (misread.ActiveSpec value)

-- ---- of the refusals of a report

-- what holds of what a refusal says to be outside its grammar
abbrev pub HoldsOfMisread : (Misread → Type 0) → ReportError → Type 0
HoldsOfMisread Holds (errors.Config at line) = Holds (misread.Config at line)
HoldsOfMisread Holds (errors.Modules line) = Holds (misread.Modules line)
HoldsOfMisread Holds (errors.ActiveSpec at) = Holds (misread.ActiveSpec at)
HoldsOfMisread Holds errors.ReadFault = Unit {0}
HoldsOfMisread Holds (errors.Walk e) = Unit {0}
HoldsOfMisread Holds errors.OutOfMemory = Unit {0}

-- what holds where a refusal came while it was read what tells of submodules
abbrev pub HoldsIfReadingError : Type 0 → ReportError → Type 0
HoldsIfReadingError Holds (errors.Config at line) = Holds
HoldsIfReadingError Holds (errors.Modules line) = Holds
HoldsIfReadingError Holds (errors.ActiveSpec at) = Holds
HoldsIfReadingError Holds errors.ReadFault = Holds
HoldsIfReadingError Holds (errors.Walk e) = Unit {0}
HoldsIfReadingError Holds errors.OutOfMemory = Unit {0}

-- ---- how far files are read

-- how many are read at most where this is outside its grammar: none behind the configuration that it names
abbrev pub count_files_read_to_misread : Setup → Misread → ℕ
count_files_read_to_misread setup (misread.Config at line) = count_admitted_configs setup.options.permissions (take at setup.configs)
count_files_read_to_misread setup (misread.Modules line) = count_files_for_submodules setup
count_files_read_to_misread setup (misread.ActiveSpec at) = count_files_for_submodules setup

-- A file was not read: the configurations before it are in their grammar, and none behind it was read. Behind all configurations
-- it is `.gitmodules`.
pub record StopsAtUnreadFile (t : Names) (setup : Setup) (reads0 reads1 : ℕ) : Type 0 where
  pub before : ℕ
  pub config : Configuration
  pub read : append_admitted_configs t setup.options.permissions 1 (take before setup.configs) empty_configuration ≡ Ok config
  pub reads : reads1 ≤ reads0 + count_admitted_configs setup.options.permissions (take before setup.configs) + 1

-- The files are read in order, and none behind the one for which there is a refusal.
abbrev pub StopsReadingAtError : {W : Type 0} → WorktreeOf W → W → W → Setup → ReportError → Type 0
StopsReadingAtError w w0 w1 setup (errors.Config at line) = w.reads w1 ≤ w.reads w0 + count_files_read_to_misread setup (misread.Config at line)
StopsReadingAtError w w0 w1 setup (errors.Modules line) = w.reads w1 ≤ w.reads w0 + count_files_read_to_misread setup (misread.Modules line)
StopsReadingAtError w w0 w1 setup (errors.ActiveSpec at) = w.reads w1 ≤ w.reads w0 + count_files_read_to_misread setup (misread.ActiveSpec at)
StopsReadingAtError w w0 w1 setup errors.ReadFault = (t : Names) → w.told w0 ≡ Some t → StopsAtUnreadFile t setup (w.reads w0) (w.reads w1)
StopsReadingAtError w w0 w1 setup (errors.Walk e) = Unit {0}
StopsReadingAtError w w0 w1 setup errors.OutOfMemory = Unit {0}

-- ---- nothing else is asked

-- What tells of submodules is asked for and was read, and nothing else was asked: so many files were read at most, nothing was
-- listed, and store and interrupt are as they were. So a fault that was counted was one of reading these files.
pub record ReadsOnlySubmoduleFiles {W F I : Type 0} (w : WorktreeOf W) (w0 w1 : W) (o0 o1 : F) (i0 i1 : I) (setup : Setup) : Type 0 where
  pub asked : setup.options.submodules ≡ true
  pub loads : ReadsFilesAtMost w w0 w1 (count_files_if_submodules_asked setup)
  pub store : o1 ≡ o0
  pub interrupt : i1 ≡ i0

-- The same of the text of a report, where something is outside its grammar: it is about what the setup asks for, and came of
-- reading that alone, in order.
pub record MisreadsBeforeWalk {W I : Type 0} (w : WorktreeOf W) (w0 w1 : W) (i0 i1 : I) (root : List ℕ) (setup : Setup) (which : Misread) : Type 0 where
  pub about : IsMisreadAskedBySetup root setup which
  pub loads : ReadsFilesAtMost w w0 w1 (count_files_read_to_misread setup which)
  pub interrupt : i1 ≡ i0

-- And where a file was not read: nothing was listed, and none behind it was read.
pub record FailsReadingBeforeWalk {W I : Type 0} (w : WorktreeOf W) (w0 w1 : W) (i0 i1 : I) (setup : Setup) : Type 0 where
  pub asked : setup.options.submodules ≡ true
  pub lists : w.lists w1 ≡ w.lists w0
  pub interrupt : i1 ≡ i0
  pub stops : (t : Names) → w.told w0 ≡ Some t → StopsAtUnreadFile t setup (w.reads w0) (w.reads w1)
