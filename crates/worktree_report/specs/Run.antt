-- What the top call gives, and why it gives nothing.
use Rattle.std.specs.Prelude.{◌≡◌, ◌⊎◌, ◌≤◌, ◌+◌, ℕ, List, Bool, true, codes, Option, Some, None, Ok, Err, Result, IfOk, IfErr, OnOk, IsErrOf}
use Rattle.std.specs.Result.{result_ok}
use Rattle.worktree_fs.specs.declared.interrupt.Interrupt.{Ghosts as InterruptOf}
use Rattle.worktree_fs.specs.declared.worktree.Worktree.{Ghosts as WorktreeOf}
use Rattle.worktree_fs.specs.Causes.{CountNotIncreased, CountIncreasedOrSaturated, saturating_increment, saturating_sum}
use Rattle.worktree_fs.specs.Tree.{Names, look}
use Rattle.dir_walk.specs.declared.strategy.Strategy.TheVariants.{AtOnce}
use Rattle.worktree_report.specs.declared.setup.Setup.{Setup}
use Rattle.worktree_report.specs.declared.refusal.Misread.{Misread}
use Rattle.worktree_report.specs.declared.refusal.Refusal.{Refusal}
use Rattle.worktree_report.specs.declared.refusal.Refusal.TheVariants as refusals
use Rattle.worktree_report.specs.declared.refusal.WalkWord.{WalkWord}
use Rattle.gitbase_core.specs.Steps.{◌>>=◌}
use Rattle.worktree_report.specs.Words.{Command, RootAndSetupPaths, report, generate, parse_command_words}
use Rattle.worktree_report.specs.SetupAt.{setup_of_file_looked_at}
use Rattle.worktree_report.specs.Loading.{known_submodules_in_tree, IsKnownWithoutMisread}
use Rattle.worktree_report.specs.Orderly.{IsTextOfReportInOrder}
use Rattle.worktree_report.specs.Outside.{count_files_read_to_misread, IsMisreadAskedBySetup, StopsAtUnreadFile}
use Rattle.worktree_report.specs.Asked.{sources_of_tree_and_setup, report_text_of_setup, HasSafeReportAtRoot, IsSetupValidAtRoot, ListsDirectoriesOfReport, AsksAndReadsForReport, RefusesWalkWithWordAndPath, IsWordAndPathAboutInput}
use Rattle.worktree_report.specs.Behind.{AnswersBehindReadSetup}
use Rattle.worktree_report.specs.Reported.{MakesTextBySetup}
use Rattle.worktree_report.specs.Generate.{text_of_generated_report, IsGeneratedTextWithQuestions, IsRefusalOfGenerating}

-- the line for words that ask for nothing
abbrev pub usage : List ℕ
usage = codes "usage: report ROOT SETUP or generate N\n"

-- ---- why a command over a work tree is refused; a command may make another setup of the one that it reads

-- the setup is no file, and the line is 0; or this is its first line outside the grammar
abbrev pub RefusesSetupAtLine : Names → RootAndSetupPaths → ℕ → Type 0
RefusesSetupAtLine t places line = setup_of_file_looked_at (look t places.setup true) ≡ Err line

-- what tells of submodules is outside its grammar
pub record MisreadsSubmoduleFiles (made : Setup → Setup) (t : Names) (places : RootAndSetupPaths) (which : Misread) : Type 0 where
  pub setup : Setup
  pub read : setup_of_file_looked_at (look t places.setup true) ≡ Ok setup
  pub misread : known_submodules_in_tree t places.root (made setup) ≡ Err which

-- It is about what the setup asks for: a configuration of it that is admitted, `.gitmodules` or a value of `submodule.active`. Where
-- the tree is told the setup is the one that was read in it.
pub record IsMisreadOfCommandSetup (made : Setup → Setup) (told : Option Names) (places : RootAndSetupPaths) (which : Misread) : Type 0 where
  pub setup : Setup
  pub read : (t : Names) → told ≡ Some t → setup_of_file_looked_at (look t places.setup true) ≡ Ok setup
  pub about : IsMisreadAskedBySetup places.root (made setup) which

-- No file behind the place that is outside its grammar was read, by the setup. Where the tree is told that is the one that was read
-- in it.
pub record ReadsFilesUpToMisread (made : Setup → Setup) (told : Option Names) (places : RootAndSetupPaths) (which : Misread) (reads0 reads1 : ℕ) : Type 0 where
  pub setup : Setup
  pub read : (t : Names) → told ≡ Some t → setup_of_file_looked_at (look t places.setup true) ≡ Ok setup
  pub reads : reads1 ≤ saturating_increment reads0 + count_files_read_to_misread (made setup) which

-- A file that tells of submodules was not read, as far as the setup asks for these, and no file behind it was.
pub record StopsAtUnreadSubmoduleFile (made : Setup → Setup) (t : Names) (places : RootAndSetupPaths) (reads0 reads1 : ℕ) : Type 0 where
  pub setup : Setup
  pub read : setup_of_file_looked_at (look t places.setup true) ≡ Ok setup
  pub asked : (made setup).options.submodules ≡ true
  pub stops : StopsAtUnreadFile t (made setup) (saturating_increment reads0) reads1

-- Nothing was walked yet: over a told tree no file behind the setup was read, or one that tells of submodules was not read.
pub record FailsBeforeWalk {W I : Type 0} (w : WorktreeOf W) (w0 w1 : W) (i0 i1 : I) (made : Setup → Setup) (places : RootAndSetupPaths) : Type 0 where
  pub lists : w.lists w1 ≡ w.lists w0
  pub interrupt : i1 ≡ i0
  pub reads : (t : Names) → w.told w0 ≡ Some t → (w.reads w1 ≤ saturating_increment (w.reads w0)) ⊎ StopsAtUnreadSubmoduleFile made t places (w.reads w0) (w.reads w1)

-- all that tells of submodules is in its grammar: the walk comes after that is read
pub record AreSubmodulesKnownAtPlaces (made : Setup → Setup) (t : Names) (places : RootAndSetupPaths) : Type 0 where
  pub setup : Setup
  pub read : setup_of_file_looked_at (look t places.setup true) ≡ Ok setup
  pub known : IsKnownWithoutMisread (known_submodules_in_tree t places.root (made setup))

-- the walk is refused with a word and a path
pub record RefusesWalkAtPlaces (made : Setup → Setup) (composes : Bool) (t : Names) (places : RootAndSetupPaths) (word : WalkWord) (path : List ℕ) : Type 0 where
  pub setup : Setup
  pub read : setup_of_file_looked_at (look t places.setup true) ≡ Ok setup
  pub refused : RefusesWalkWithWordAndPath composes t places.root (made setup) word path

-- The word and the path are about what is handed in. Where the tree is told the setup is the one that was read in it, so
-- that the traversal root, the rules and the limit are its own.
pub record IsWalkRefusalAboutInputAtPlaces (made : Setup → Setup) (composes : Bool) (told : Option Names) (places : RootAndSetupPaths) (word : WalkWord) (path : List ℕ) : Type 0 where
  pub setup : Setup
  pub read : (t : Names) → told ≡ Some t → setup_of_file_looked_at (look t places.setup true) ≡ Ok setup
  pub about : IsWordAndPathAboutInput composes told places.root (made setup) word path

-- the setup is a file in its grammar, so is what tells of submodules where that is asked for, and the work tree can be walked
pub record IsReadyForReportAt (made : Setup → Setup) (composes : Bool) (t : Names) (places : RootAndSetupPaths) : Type 0 where
  pub setup : Setup
  pub read : setup_of_file_looked_at (look t places.setup true) ≡ Ok setup
  pub valid : IsSetupValidAtRoot composes (sources_of_tree_and_setup t (made setup)) places.root (made setup)

-- which directories are listed for the report that a command makes at some places
pub record ListsDirectoriesAtPlaces (made : Setup → Setup) (composes : Bool) (t : Names) (places : RootAndSetupPaths) (lists0 lists1 : ℕ) : Type 0 where
  pub setup : Setup
  pub read : setup_of_file_looked_at (look t places.setup true) ≡ Ok setup
  pub lists : ListsDirectoriesOfReport composes t places.root (made setup) lists0 lists1

-- What an answer says of the report that a command makes at some places: each refusal has its cause, and for valid input, where nothing
-- failed or was raised, only memory may be wanted. A worktree was `w0` and is `w1`, and an interrupt was `i0` and is `i1`.
pub record RefusesOnlyWithCauses {W I : Type 0} (w : WorktreeOf W) (i : InterruptOf I) (w0 w1 : W) (i0 i1 : I) (made : Setup → Setup) (places : RootAndSetupPaths) (answer : Result (List ℕ) Refusal) : Type 0 where
  pub no_usage : ¬ IsErrOf answer refusals.Usage
  pub setup : (t : Names) → w.told w0 ≡ Some t → (line : ℕ) → IsErrOf answer (refusals.Setup line) → RefusesSetupAtLine t places line
  pub setup_unasked : (line : ℕ) → IsErrOf answer (refusals.Setup line)
      → (w.lists w1 ≡ w.lists w0) × (i1 ≡ i0) × (w.reads w1 ≤ saturating_increment (w.reads w0))
  pub misread : (t : Names) → w.told w0 ≡ Some t → (which : Misread) → IsErrOf answer (refusals.Misread which) → MisreadsSubmoduleFiles made t places which
  pub misread_about : (which : Misread) → IsErrOf answer (refusals.Misread which) → IsMisreadOfCommandSetup made (w.told w0) places which
  pub misread_unasked : (which : Misread) → IsErrOf answer (refusals.Misread which) → (w.lists w1 ≡ w.lists w0) × (i1 ≡ i0)
  pub misread_reads : (which : Misread) → IsErrOf answer (refusals.Misread which) → ReadsFilesUpToMisread made (w.told w0) places which (w.reads w0) (w.reads w1)
  pub walk : (t : Names) → w.told w0 ≡ Some t → CountNotIncreased (w.faults w0) (w.faults w1)
      → (word : WalkWord) (path : List ℕ) → IsErrOf answer (refusals.Walk word path) → RefusesWalkAtPlaces made (w.precomposes w0) t places word path
  pub about : (word : WalkWord) (path : List ℕ) → IsErrOf answer (refusals.Walk word path)
      → IsWalkRefusalAboutInputAtPlaces made (w.precomposes w0) (w.told w0) places word path
  pub cause : IsErrOf answer refusals.Fault → CountIncreasedOrSaturated (w.faults w0) (w.faults w1)
  -- Nothing was walked yet, or all that tells of submodules is in its grammar.
  pub fault_late : IsErrOf answer refusals.Fault → FailsBeforeWalk w w0 w1 i0 i1 made places ⊎ ((t : Names) → w.told w0 ≡ Some t → AreSubmodulesKnownAtPlaces made t places)
  pub interrupted : IsErrOf answer refusals.Interrupted → CountIncreasedOrSaturated (i.raised i0) (i.raised i1)
  pub interrupted_late : (t : Names) → w.told w0 ≡ Some t → IsErrOf answer refusals.Interrupted → AreSubmodulesKnownAtPlaces made t places
  pub no_output : ¬ IsErrOf answer refusals.Output
  pub complete : (t : Names) → w.told w0 ≡ Some t → CountNotIncreased (w.faults w0) (w.faults w1) → CountNotIncreased (i.raised i0) (i.raised i1)
      → IsReadyForReportAt made (w.precomposes w0) t places → IfErr answer (λ refusal. refusal ≡ refusals.OutOfMemory)

-- what stays of a worktree and an interrupt, whatever is answered
pub record KeepsWorktreeAndInterrupt {W I : Type 0} (w : WorktreeOf W) (i : InterruptOf I) (w0 w1 : W) (i0 i1 : I) (answer : Result (List ℕ) Refusal) : Type 0 where
  pub tree : w.told w1 ≡ w.told w0
  pub faults : w.faults w0 ≤ w.faults w1
  pub list_faults : w.list_faults w0 ≤ w.list_faults w1
  pub list_faults_kept : OnOk answer (w.list_faults w1 ≡ w.list_faults w0)
  pub lists : w.lists w0 ≤ w.lists w1
  pub precomposes : w.precomposes w1 ≡ w.precomposes w0
  pub questions : saturating_sum (i.questions i0) 0 ≤ i.questions i1
  pub raised : i.raised i0 ≤ i.raised i1
  pub calm : OnOk answer (i.raised i1 ≡ i.raised i0)

-- a command whose words ask for nothing has asked nothing
pub record RefusesUsageAskingNothing {W I : Type 0} (w0 w1 : W) (i0 i1 : I) (answer : Result (List ℕ) Refusal) : Type 0 where
  pub usage : IsErrOf answer refusals.Usage
  pub worktree : w1 ≡ w0
  pub interrupt : i1 ≡ i0

-- what an answer says of what the words ask for, where they ask for something
abbrev pub AnswersIfCommand : {W I A : Type 0} → (A → Result (List ℕ) Refusal → Type 0) → W → W → I → I → Option A → Result (List ℕ) Refusal → Type 0
AnswersIfCommand Holds w0 w1 i0 i1 None answer = RefusesUsageAskingNothing w0 w1 i0 i1 answer
AnswersIfCommand Holds w0 w1 i0 i1 (Some asked) answer = Holds asked answer

-- ---- the report of a work tree, where the worktree composes names or not

-- the setup as it is read
abbrev pub setup_unchanged : Setup → Setup
setup_unchanged setup = setup

-- Its bytes over the tree `t`. None where the setup is no file or has a line outside the grammar, and where there is no
-- report of that work tree.
unfoldable pub report_text_at_places : Bool → Names → RootAndSetupPaths → Option (List ℕ)
report_text_at_places composes t places = do
  setup ← result_ok (setup_of_file_looked_at (look t places.setup true))
  report_text_of_setup composes t places.root setup

-- it is safe to act on
pub record HasSafeReportAtPlaces (composes : Bool) (t : Names) (places : RootAndSetupPaths) : Type 0 where
  pub setup : Setup
  pub read : setup_of_file_looked_at (look t places.setup true) ≡ Ok setup
  pub safe : HasSafeReportAtRoot composes t places.root setup

-- It is in order, whatever the worktree tells: the text of a report of which the entries ascend strictly by path, are counted, are from
-- a traversal root that was asked for, and have the submodules that are known. Where the tree is told the setup is the one that was
-- read in it.
pub record IsTextInOrderAtPlaces (composes : Bool) (told : Option Names) (places : RootAndSetupPaths) (text : List ℕ) : Type 0 where
  pub setup : Setup
  pub read : (t : Names) → told ≡ Some t → setup_of_file_looked_at (look t places.setup true) ≡ Ok setup
  pub orderly : IsTextOfReportInOrder composes told places.root setup text

-- what making it takes: the setup is read once, and the rest is as said of the report
pub record AsksAndReadsAtPlaces (composes : Bool) (t : Names) (questions0 questions1 reads0 reads1 : ℕ) (places : RootAndSetupPaths) : Type 0 where
  pub setup : Setup
  pub read : setup_of_file_looked_at (look t places.setup true) ≡ Ok setup
  pub works : AsksAndReadsForReport composes t places.root setup questions0 questions1 (saturating_increment reads0) reads1

-- where subtrees are walked at once, over forks, the worktree counts one directory as listed at most
abbrev pub ListsOneDirectoryIfAtOnce : Names → RootAndSetupPaths → ℕ → ℕ → Type 0
ListsOneDirectoryIfAtOnce t places lists0 lists1 =
    (setup : Setup) → setup_of_file_looked_at (look t places.setup true) ≡ Ok setup → setup.options.strategy ≡ AtOnce → lists1 ≤ lists0 + 1

-- The text of the report at some places, or why there is none.
pub record AnswersReportCommand {W I : Type 0} (w : WorktreeOf W) (i : InterruptOf I) (w0 w1 : W) (i0 i1 : I) (places : RootAndSetupPaths) (answer : Result (List ℕ) Refusal) : Type 0 where
  -- Over a told tree and with no fault counted it is exactly the one that the setup asks for.
  pub gives : (t : Names) → w.told w0 ≡ Some t → CountNotIncreased (w.faults w0) (w.faults w1) → IfOk answer (λ text. report_text_at_places (w.precomposes w0) t places ≡ Some text)
  pub orderly : IfOk answer (IsTextInOrderAtPlaces (w.precomposes w0) (w.told w0) places)
  pub safe : (t : Names) → w.told w0 ≡ Some t → CountNotIncreased (w.faults w0) (w.faults w1) → OnOk answer (HasSafeReportAtPlaces (w.precomposes w0) t places)
  pub works : (t : Names) → w.told w0 ≡ Some t → CountNotIncreased (w.faults w0) (w.faults w1)
      → OnOk answer (AsksAndReadsAtPlaces (w.precomposes w0) t (i.questions i0) (i.questions i1) (w.reads w0) (w.reads w1) places)
  pub opens : (t : Names) → w.told w0 ≡ Some t → CountNotIncreased (w.faults w0) (w.faults w1)
      → OnOk answer (ListsDirectoriesAtPlaces setup_unchanged (w.precomposes w0) t places (w.lists w0) (w.lists w1))
  pub lists : (t : Names) → w.told w0 ≡ Some t → ListsOneDirectoryIfAtOnce t places (w.lists w0) (w.lists w1)
  pub causes : RefusesOnlyWithCauses w i w0 w1 i0 i1 setup_unchanged places answer
  -- It comes by the setup, which was read once and without a fault, and behind that as the report is made; or as that was not read.
  pub in_order : AnswersBehindReadSetup w w0 w1 i0 i1 places (λ setup loaded. MakesTextBySetup w i (w.precomposes w0) loaded w1 i0 i1 places.root setup answer) answer
  pub keeps : KeepsWorktreeAndInterrupt w i w0 w1 i0 i1 answer

-- ---- a tree of files in memory

-- The text for so many files, whatever the worktree tells, which is not asked; want of memory alone may be answered where the interrupt
-- was not raised.
pub record AnswersGenerateCommand {W I : Type 0} (i : InterruptOf I) (w0 w1 : W) (i0 i1 : I) (n : ℕ) (answer : Result (List ℕ) Refusal) : Type 0 where
  pub gives : IfOk answer (IsGeneratedTextWithQuestions n (i.questions i0) (i.questions i1))
  pub refused : IfErr answer IsRefusalOfGenerating
  pub interrupted : IsErrOf answer refusals.Interrupted → CountIncreasedOrSaturated (i.raised i0) (i.raised i1)
  pub worktree : w1 ≡ w0
  pub questions : saturating_sum (i.questions i0) 0 ≤ i.questions i1
  pub raised : i.raised i0 ≤ i.raised i1
  pub calm : OnOk answer (i.raised i1 ≡ i.raised i0)

-- ---- what the words ask for

-- the text that a command asks for, or why there is none
abbrev pub AnswersGivenCommand : {W I : Type 0} → WorktreeOf W → InterruptOf I → W → W → I → I → Command → Result (List ℕ) Refusal → Type 0
AnswersGivenCommand w i w0 w1 i0 i1 (report places) answer = AnswersReportCommand w i w0 w1 i0 i1 places answer
AnswersGivenCommand w i w0 w1 i0 i1 (generate n) answer = AnswersGenerateCommand i w0 w1 i0 i1 n answer

-- the same of what the words ask for
abbrev pub AnswersParsedCommand : {W I : Type 0} → WorktreeOf W → InterruptOf I → W → W → I → I → Option Command → Result (List ℕ) Refusal → Type 0
AnswersParsedCommand w i w0 w1 i0 i1 asked answer = AnswersIfCommand (AnswersGivenCommand w i w0 w1 i0 i1) w0 w1 i0 i1 asked answer

-- the bytes that are asked for, over the tree `t`; for a tree of files in memory that is no matter
abbrev pub text_of_command : Bool → Names → Option Command → Option (List ℕ)
text_of_command composes t None = None
text_of_command composes t (Some (report places)) = report_text_at_places composes t places
text_of_command composes t (Some (generate n)) = text_of_generated_report n

-- The bytes that the words ask for, over the tree `t`. None where they ask for nothing, where the setup they name is no
-- file or has a line outside the grammar, and where there is no report of the worktree they name.
abbrev pub text_of_command_words : Bool → Names → List (List ℕ) → Option (List ℕ)
text_of_command_words composes t words = text_of_command composes t (parse_command_words composes words)

-- what is asked for can be had: there is a report
abbrev pub CanCommandBeAnswered : Bool → Names → Option Command → Type 0
CanCommandBeAnswered composes t None = ⊥
CanCommandBeAnswered composes t (Some (report places)) = IsReadyForReportAt setup_unchanged composes t places
CanCommandBeAnswered composes t (Some (generate n)) = Unit {0}

-- The words, the setup and the worktree are as they should be: the words are in the grammar, and, where they ask for a report, the
-- setup is a file in its grammar, so is what tells of submodules where the setup asks for it, and the work tree has a report.
abbrev pub AreWordsValidInTree : Bool → Names → List (List ℕ) → Type 0
AreWordsValidInTree composes t words = CanCommandBeAnswered composes t (parse_command_words composes words)
