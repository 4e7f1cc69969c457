-- The refusal of the program that stands for one of a part of it.
use Rattle.std.specs.Prelude.{ℕ, List, [], length, drop}
use Rattle.gitbase_core.specs.Path.{components}
use Rattle.hex.specs.Hex.{encode_lower}
use Rattle.worktree_fs.specs.declared.answers.ReadError.{ReadError}
use Rattle.worktree_fs.specs.declared.answers.ReadError.TheVariants as read
use Rattle.worktree_stack.specs.declared.error.AtPathError.{AtPathError}
use Rattle.worktree_stack.specs.declared.error.AtPathError.TheVariants as inner
use Rattle.worktree_stack.specs.declared.error.BlobWhy.TheVariants as blobs
use Rattle.worktree_stack.specs.declared.error.RulesWhy.TheVariants as rules
use Rattle.dir_classify.specs.declared.error.Error.{Error}
use Rattle.dir_classify.specs.declared.error.Error.TheVariants as walk
use Rattle.dir_classify.specs.declared.error.MetadataWhy.TheVariants as metadata
use Rattle.dir_classify.specs.declared.error.ReadWhy.TheVariants as why
use Rattle.worktree_report.specs.Below.{join_components_through}
use Rattle.worktree_report.specs.declared.error.ReportError.{ReportError}
use Rattle.worktree_report.specs.declared.error.ReportError.TheVariants as errors
use Rattle.worktree_report.specs.declared.refusal.Misread.TheVariants as misread
use Rattle.worktree_report.specs.declared.setup.SetupError.{SetupError}
use Rattle.worktree_report.specs.declared.setup.SetupError.TheVariants as setup
use Rattle.worktree_report.specs.declared.refusal.Refusal.{Refusal}
use Rattle.worktree_report.specs.declared.refusal.Refusal.TheVariants as refusals
use Rattle.worktree_report.specs.declared.refusal.WalkWord.TheVariants as words

-- reading the setup failed: a fault of the worktree, or want of memory
abbrev pub refusal_of_read_error : ReadError → Refusal
refusal_of_read_error read.Fault = refusals.Fault
refusal_of_read_error read.OutOfMemory = refusals.OutOfMemory

-- a setup text is refused by the number of its first line outside the grammar, or for want of memory
abbrev pub refusal_of_setup_error : SetupError → Refusal
refusal_of_setup_error (setup.Line line) = refusals.Setup line
refusal_of_setup_error setup.OutOfMemory = refusals.OutOfMemory

-- The rules were not asked. Only what a rules file or its blob is and a fault come in a walk; in the place of the path of a blob stands
-- its id.
abbrev pub refusal_of_lookup_error : AtPathError → Refusal
refusal_of_lookup_error inner.NotNormal = refusals.Walk words.Lookup []
refusal_of_lookup_error (inner.Component why) = refusals.Walk words.Lookup []
refusal_of_lookup_error (inner.Collision path) = refusals.Walk words.Lookup path
refusal_of_lookup_error (inner.Directory path why) = refusals.Walk words.Lookup path
refusal_of_lookup_error (inner.RulesFile path rules.Link) = refusals.Walk words.RulesFile path
refusal_of_lookup_error (inner.RulesFile path rules.LinkLimit) = refusals.Walk words.RulesFile path
refusal_of_lookup_error (inner.RulesFile path rules.Special) = refusals.Walk words.RulesFile path
refusal_of_lookup_error (inner.RulesFile path rules.Fault) = refusals.Fault
refusal_of_lookup_error (inner.Blob id blobs.Missing) = refusals.Walk words.Blob (encode_lower id)
refusal_of_lookup_error (inner.Blob id blobs.NotABlob) = refusals.Walk words.Blob (encode_lower id)
refusal_of_lookup_error (inner.Blob id blobs.Fault) = refusals.Fault
refusal_of_lookup_error inner.OutOfMemory = refusals.OutOfMemory

-- the whole path of the component with a number, from 0, of a traversal root, by the whole path of that and the worktree root
abbrev pub path_of_root_component : List ℕ → List ℕ → ℕ → List ℕ
path_of_root_component whole worktree_root number = join_components_through worktree_root number (components (drop (length worktree_root) whole))

-- why the walk was refused
abbrev pub refusal_of_walk_error : Error → Refusal
refusal_of_walk_error walk.Interrupted = refusals.Interrupted
refusal_of_walk_error (walk.NormalizeRoot root) = refusals.Walk words.OutsideRoot root
refusal_of_walk_error (walk.SymlinkInRoot root worktree_root index) = refusals.Walk words.SymlinkInRoot (path_of_root_component root worktree_root index)
refusal_of_walk_error (walk.SymlinkMetadata path metadata.Absent) = refusals.Walk words.MissingRoot path
refusal_of_walk_error (walk.SymlinkMetadata path metadata.Fault) = refusals.Fault
refusal_of_walk_error (walk.WorktreeRootIsFile root) = refusals.Walk words.RootIsFile root
refusal_of_walk_error (walk.ExcludesAccess refused) = refusal_of_lookup_error refused
refusal_of_walk_error (walk.ReadDir path why.Absent) = refusals.Walk words.AbsentDirectory path
refusal_of_walk_error (walk.ReadDir path why.NotADirectory) = refusals.Walk words.NotADirectory path
refusal_of_walk_error (walk.ReadDir path why.Fault) = refusals.Fault
refusal_of_walk_error (walk.DirEntry path) = refusals.Fault
refusal_of_walk_error (walk.TooDeep path) = refusals.Walk words.TooDeep path
refusal_of_walk_error walk.OutOfMemory = refusals.OutOfMemory

-- why there is no report
abbrev pub refusal_of_report_error : ReportError → Refusal
refusal_of_report_error (errors.Config at line) = refusals.Misread (misread.Config at line)
refusal_of_report_error (errors.Modules line) = refusals.Misread (misread.Modules line)
refusal_of_report_error (errors.ActiveSpec at) = refusals.Misread (misread.ActiveSpec at)
refusal_of_report_error errors.ReadFault = refusals.Fault
refusal_of_report_error (errors.Walk e) = refusal_of_walk_error e
refusal_of_report_error errors.OutOfMemory = refusals.OutOfMemory

-- a refusal that reading a setup may answer
abbrev pub MayComeFromReadingSetup : Refusal → Type 0
MayComeFromReadingSetup refusals.Interrupted = ⊥
MayComeFromReadingSetup refusals.Usage = ⊥
MayComeFromReadingSetup (refusals.Setup line) = Unit {0}
MayComeFromReadingSetup (refusals.Misread which) = ⊥
MayComeFromReadingSetup (refusals.Walk word path) = ⊥
MayComeFromReadingSetup refusals.Fault = Unit {0}
MayComeFromReadingSetup refusals.Output = ⊥
MayComeFromReadingSetup refusals.OutOfMemory = Unit {0}

-- a refusal that making a report may answer
abbrev pub IsRefusalOfMakingReport : Refusal → Type 0
IsRefusalOfMakingReport refusals.Interrupted = Unit {0}
IsRefusalOfMakingReport refusals.Usage = ⊥
IsRefusalOfMakingReport (refusals.Setup line) = ⊥
IsRefusalOfMakingReport (refusals.Misread which) = Unit {0}
IsRefusalOfMakingReport (refusals.Walk word path) = Unit {0}
IsRefusalOfMakingReport refusals.Fault = Unit {0}
IsRefusalOfMakingReport refusals.Output = ⊥
IsRefusalOfMakingReport refusals.OutOfMemory = Unit {0}
