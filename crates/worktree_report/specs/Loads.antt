-- What reading files of configuration leaves, and answers.
use Rattle.std.specs.Prelude.{◌≡◌, ◌≤◌, ◌+◌, ℕ, List, Result, Ok, Err}
use Rattle.git_config_lite.specs.Sections.{Section, Configuration}
use Rattle.worktree_fs.specs.declared.worktree.Worktree.{Ghosts as WorktreeOf}
use Rattle.worktree_fs.specs.Causes.{saturating_sum}
use Rattle.dir_classify.specs.declared.error.Error.{Error}
use Rattle.dir_classify.specs.declared.error.Error.TheVariants as walk
use Rattle.worktree_fs.specs.declared.answers.ReadError.{ReadError}
use Rattle.worktree_fs.specs.declared.answers.ReadError.TheVariants as read
use Rattle.worktree_report.specs.declared.error.ReportError.{ReportError}
use Rattle.worktree_report.specs.declared.error.ReportError.TheVariants as errors
use Rattle.worktree_report.specs.declared.refusal.Misread.{Misread}
use Rattle.worktree_report.specs.declared.refusal.Misread.TheVariants as misread

-- why a file was not read
abbrev pub report_error_of_read_error : ReadError → ReportError
report_error_of_read_error read.Fault = errors.ReadFault
report_error_of_read_error read.OutOfMemory = errors.OutOfMemory

-- Why there is no report, where the walk was refused: for want of memory, or by the walk itself.
abbrev pub report_error_of_walk_error : Error → ReportError
report_error_of_walk_error walk.OutOfMemory = errors.OutOfMemory
report_error_of_walk_error walk.Interrupted = errors.Walk walk.Interrupted
report_error_of_walk_error (walk.WorktreeRootIsFile root) = errors.Walk (walk.WorktreeRootIsFile root)
report_error_of_walk_error (walk.NormalizeRoot root) = errors.Walk (walk.NormalizeRoot root)
report_error_of_walk_error (walk.SymlinkInRoot root worktree_root index) = errors.Walk (walk.SymlinkInRoot root worktree_root index)
report_error_of_walk_error (walk.SymlinkMetadata path why) = errors.Walk (walk.SymlinkMetadata path why)
report_error_of_walk_error (walk.ExcludesAccess refused) = errors.Walk (walk.ExcludesAccess refused)
report_error_of_walk_error (walk.ReadDir path why) = errors.Walk (walk.ReadDir path why)
report_error_of_walk_error (walk.DirEntry path) = errors.Walk (walk.DirEntry path)
report_error_of_walk_error (walk.TooDeep path) = errors.Walk (walk.TooDeep path)

-- So many files were read at most, and nothing else was asked of the worktree.
pub record ReadsFilesAtMost {W : Type 0} (w : WorktreeOf W) (before now : W) (most : ℕ) : Type 0 where
  pub tree : w.told now ≡ w.told before
  pub faults : w.faults before ≤ w.faults now
  pub list_faults : w.list_faults now ≡ w.list_faults before
  pub lists : w.lists now ≡ w.lists before
  pub precomposes : w.precomposes now ≡ w.precomposes before
  pub reads : w.reads now ≤ w.reads before + most
  pub reads_kept : w.reads before ≤ w.reads now

-- So many files were read, each once, and none of these readings failed.
pub record ReadsFilesWithoutFault {W : Type 0} (w : WorktreeOf W) (before now : W) (files : ℕ) : Type 0 where
  pub loads : ReadsFilesAtMost w before now files
  pub read : saturating_sum (w.reads before) files ≤ w.reads now
  pub unfaulted : w.faults now ≡ w.faults before

-- A configuration is what its text says; a refusal names its number.
abbrev pub IsConfigParseResult : Result Configuration ReportError → ℕ → Result (List Section) ℕ → Type 0
IsConfigParseResult (Ok file) at given = given ≡ Ok file.sections
IsConfigParseResult (Err (errors.Config number line)) at given = (number ≡ at) × (given ≡ Err line)
IsConfigParseResult (Err (errors.Modules line)) at given = ⊥
IsConfigParseResult (Err (errors.ActiveSpec value)) at given = ⊥
IsConfigParseResult (Err errors.ReadFault) at given = ⊥
IsConfigParseResult (Err (errors.Walk error)) at given = ⊥
IsConfigParseResult (Err errors.OutOfMemory) at given = Unit {0}

-- The answer is the one that the texts give. Want of memory is free, and a fault has its cause elsewhere.
abbrev pub IsResultUnlessFault : {A : Type 0} → Result A ReportError → Result A Misread → Type 0
IsResultUnlessFault (Ok answer) given = given ≡ Ok answer
IsResultUnlessFault (Err (errors.Config at line)) given = given ≡ Err (misread.Config at line)
IsResultUnlessFault (Err (errors.Modules line)) given = given ≡ Err (misread.Modules line)
IsResultUnlessFault (Err (errors.ActiveSpec at)) given = given ≡ Err (misread.ActiveSpec at)
IsResultUnlessFault (Err errors.ReadFault) given = Unit {0}
IsResultUnlessFault (Err (errors.Walk error)) given = ⊥
IsResultUnlessFault (Err errors.OutOfMemory) given = Unit {0}

-- a refusal of reading a configuration; a fault where the worktree failed
abbrev pub IsErrorOfReadingConfig : Type 0 → ReportError → Type 0
IsErrorOfReadingConfig Failed (errors.Config at line) = Unit {0}
IsErrorOfReadingConfig Failed (errors.Modules line) = ⊥
IsErrorOfReadingConfig Failed (errors.ActiveSpec at) = ⊥
IsErrorOfReadingConfig Failed errors.ReadFault = Failed
IsErrorOfReadingConfig Failed (errors.Walk error) = ⊥
IsErrorOfReadingConfig Failed errors.OutOfMemory = Unit {0}

-- and `.gitmodules` too
abbrev pub IsErrorOfReadingModules : Type 0 → ReportError → Type 0
IsErrorOfReadingModules Failed (errors.Config at line) = Unit {0}
IsErrorOfReadingModules Failed (errors.Modules line) = Unit {0}
IsErrorOfReadingModules Failed (errors.ActiveSpec at) = ⊥
IsErrorOfReadingModules Failed errors.ReadFault = Failed
IsErrorOfReadingModules Failed (errors.Walk error) = ⊥
IsErrorOfReadingModules Failed errors.OutOfMemory = Unit {0}

-- and which are active
abbrev pub IsErrorOfLoadingKnown : Type 0 → ReportError → Type 0
IsErrorOfLoadingKnown Failed (errors.Config at line) = Unit {0}
IsErrorOfLoadingKnown Failed (errors.Modules line) = Unit {0}
IsErrorOfLoadingKnown Failed (errors.ActiveSpec at) = Unit {0}
IsErrorOfLoadingKnown Failed errors.ReadFault = Failed
IsErrorOfLoadingKnown Failed (errors.Walk error) = ⊥
IsErrorOfLoadingKnown Failed errors.OutOfMemory = Unit {0}
