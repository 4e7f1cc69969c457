-- What the top call gives, and why it gives nothing.
use Rattle.std.specs.Prelude.{◌≡◌, ◌≤◌, ◌+◌, ◌++◌, ℕ, List, Bool, true, codes, Option, Some, None, option_and_then, option_map, Result, Ok, IfOk, IfErr, OnOk}
use Rattle.std.specs.Result.{result_ok}
use Rattle.worktree_fs.specs.declared.interrupt.Interrupt.{Ghosts as InterruptOf}
use Rattle.worktree_fs.specs.declared.worktree.Worktree.{Ghosts as WorktreeOf}
use Rattle.worktree_fs.specs.Causes.{CountNotIncreased, saturating_increment, saturating_sum}
use Rattle.worktree_fs.specs.Tree.{Names, look}
use Rattle.dir_walk.specs.declared.strategy.Strategy.TheVariants.{AtOnce}
use Rattle.dir_walk.specs.Kept.{AsksInterruptPerRaise, KeepsWorktree}
use Rattle.worktree_report.specs.declared.refusal.Refusal.{Refusal}
use Rattle.worktree_report.specs.declared.refusal.Refusal.TheVariants as refusals
use Rattle.worktree_report.specs.declared.setup.Setup.{Setup}
use Rattle.worktree_report.specs.Asked.{HasSafeReportAtRoot, report_text_of_setup, ListsDirectoriesOfReport, AsksAndReadsForReport}
use Rattle.worktree_report.specs.Behind.{AnswersBehindReadSetup, MakesReportTextFirst, RefusesTextWithCause}
use Rattle.worktree_report.specs.Converted as converted
use Rattle.worktree_report.specs.Orderly.{IsTextOfReportInOrder}
use Rattle.worktree_report.specs.Run.{setup_unchanged, AnswersIfCommand, RefusesOnlyWithCauses, IsReadyForReportAt, HasSafeReportAtPlaces, KeepsWorktreeAndInterrupt, ListsOneDirectoryIfAtOnce, ListsDirectoriesAtPlaces}
use Rattle.worktree_report.specs.SetupAt.{setup_of_file_looked_at}
use Rattle.gitbase_core.specs.Steps.{◌>>=◌}
use Rattle.worktree_report.specs.Words.{RootAndSetupPaths, parse_places_of_command}
use Rattle.index_status.specs.declared.error.StatusError.{StatusError}
use Rattle.index_status.specs.declared.error.StatusError.TheVariants as errors
use Rattle.index_status.specs.Lines.{lines_of_states_not_same}
use Rattle.index_status.specs.Rows.{ArePossibleRowsOfIndex, PathsAscendStrictly, PathAndState, least_files_read_for_rows, rows_of_index_over_tree}
use Rattle.index_status.specs.States.{most_reads_for_entries}

-- the line for words that ask for nothing
abbrev pub usage : List ℕ
usage = codes "usage: status ROOT SETUP\n"

-- The places that are asked for: the words are `status ROOT SETUP`, with `composed` before them exactly where the worktree composes
-- names. Any other words ask for nothing.
abbrev pub root_and_setup_of_status_words : Bool → List (List ℕ) → Option RootAndSetupPaths
root_and_setup_of_status_words composes words = parse_places_of_command (codes "status") composes words

-- ---- the text

-- the states of the index paths over a tree, and behind them the report; none where there is no report
abbrev pub status_text_over_tree : Bool → Names → List ℕ → Setup → Option (List ℕ)
status_text_over_tree composes t root setup =
    option_map (λ (report : List ℕ). lines_of_states_not_same (rows_of_index_over_tree t root setup.index) ++ report) (report_text_of_setup composes t root setup)

-- The bytes over the tree `t`. None where the setup is no file or has a line outside the grammar, and where there is no report of
-- that work tree.
unfoldable pub status_text_by_setup_in_tree : Bool → Names → RootAndSetupPaths → Option (List ℕ)
status_text_by_setup_in_tree composes t places = do
  setup ← result_ok (setup_of_file_looked_at (look t places.setup true))
  status_text_over_tree composes t places.root setup

-- the bytes that the words ask for; none where they ask for nothing too
abbrev pub status_text_of_words : Bool → Names → List (List ℕ) → Option (List ℕ)
status_text_of_words composes t words = option_and_then (status_text_by_setup_in_tree composes t) (root_and_setup_of_status_words composes words)

-- It is in order, whatever the worktree tells: each path of the index stands once, in ascending order, with a state that it may have,
-- and behind them the text of a report that is in order. Over a told tree the states are exact, whatever failed. `Reads` says of a number of
-- files that so many were read at least: each that is the same or modified was.
pub record IsOrderlyStatusText (composes : Bool) (told : Option Names) (root : List ℕ) (setup : Setup) (Reads : ℕ → Type 0) (text : List ℕ) : Type 0 where
  pub states : List PathAndState
  pub report : List ℕ
  pub text_is : text ≡ lines_of_states_not_same states ++ report
  pub exact : (t : Names) → told ≡ Some t → states ≡ rows_of_index_over_tree t root setup.index
  pub possible : ArePossibleRowsOfIndex setup.index states
  pub ascends : PathsAscendStrictly states
  pub read : Reads (least_files_read_for_rows states)
  pub orderly : IsTextOfReportInOrder composes told root setup report

-- The same at some places. Where the tree is told the setup is the one that was read in it.
pub record IsOrderlyTextByReadSetup (composes : Bool) (told : Option Names) (places : RootAndSetupPaths) (Reads : ℕ → Type 0) (text : List ℕ) : Type 0 where
  pub setup : Setup
  pub read : (t : Names) → told ≡ Some t → setup_of_file_looked_at (look t places.setup true) ≡ Ok setup
  pub orderly : IsOrderlyStatusText composes told places.root setup Reads text

-- what making it takes: the report is made, and then each file that is compared is read once at most
pub record CountsStatusQuestionsAndReads (composes : Bool) (t : Names) (root : List ℕ) (setup : Setup) (questions0 questions1 reads0 reads1 : ℕ) : Type 0 where
  pub between : ℕ
  pub report : AsksAndReadsForReport composes t root setup questions0 questions1 reads0 between
  pub states : reads1 ≤ between + most_reads_for_entries setup.index

-- the same at some places, where the setup is read once before
pub record CountsStatusWorkAtPlaces (composes : Bool) (t : Names) (questions0 questions1 reads0 reads1 : ℕ) (places : RootAndSetupPaths) : Type 0 where
  pub setup : Setup
  pub read : setup_of_file_looked_at (look t places.setup true) ≡ Ok setup
  pub works : CountsStatusQuestionsAndReads composes t places.root setup questions0 questions1 (saturating_increment reads0) reads1

-- ---- refusals

-- the refusal that stands for that of a status
abbrev pub refusal_of_status_error : StatusError → Refusal
refusal_of_status_error (errors.Report e) = converted.refusal_of_report_error e
refusal_of_status_error (errors.Fault path) = refusals.Fault
refusal_of_status_error errors.OutOfMemory = refusals.OutOfMemory

-- The text of the states and the report, or why there is none, where a worktree was `w0` and is `w1`, and an interrupt was `i0` and
-- is `i1`. `composes` says whether the worktree composes names.
pub record AnswersStatusTextOrRefusal {W I : Type 0} (w : WorktreeOf W) (i : InterruptOf I) (composes : Bool) (w0 w1 : W) (i0 i1 : I) (root : List ℕ) (setup : Setup) (answer : Result (List ℕ) Refusal) : Type 0 where
  pub gives : (t : Names) → w.told w0 ≡ Some t → IfOk answer (λ text. status_text_over_tree composes t root setup ≡ Some text)
  pub orderly : IfOk answer (IsOrderlyStatusText composes (w.told w0) root setup (λ files. saturating_sum (w.reads w0) files ≤ w.reads w1))
  -- no fault was counted, one that the walk swallows among them
  pub unfaulted : OnOk answer (CountNotIncreased (w.faults w0) (w.faults w1))
  -- one report was made, and then the index paths were looked at
  pub made : OnOk answer (MakesReportTextFirst w i composes w0 w1 i0 i1 root setup (most_reads_for_entries setup.index))
  pub safe : (t : Names) → w.told w0 ≡ Some t → OnOk answer (HasSafeReportAtRoot composes t root setup)
  pub works : (t : Names) → w.told w0 ≡ Some t
      → OnOk answer (CountsStatusQuestionsAndReads composes t root setup (i.questions i0) (i.questions i1) (w.reads w0) (w.reads w1))
  -- directories are listed for the report alone
  pub opens : (t : Names) → w.told w0 ≡ Some t → OnOk answer (ListsDirectoriesOfReport composes t root setup (w.lists w0) (w.lists w1))
  pub lists : setup.options.strategy ≡ AtOnce → w.lists w1 ≤ w.lists w0 + 1
  pub refused : IfErr answer (RefusesTextWithCause w i composes w0 w1 i0 i1 root setup (most_reads_for_entries setup.index))
  pub worktree : KeepsWorktree w w0 w1
  pub interrupt : AsksInterruptPerRaise i i0 i1
  pub listed : OnOk answer (w.list_faults w1 ≡ w.list_faults w0)
  pub calm : OnOk answer (i.raised i1 ≡ i.raised i0)

-- ---- the call

-- The text at some places, or why there is none.
pub record AnswersStatusAtPlaces {W I : Type 0} (w : WorktreeOf W) (i : InterruptOf I) (w0 w1 : W) (i0 i1 : I) (places : RootAndSetupPaths) (answer : Result (List ℕ) Refusal) : Type 0 where
  -- Over a told tree it is exactly the one that the setup asks for, and the report is safe to act on.
  pub gives : (t : Names) → w.told w0 ≡ Some t → IfOk answer (λ text. status_text_by_setup_in_tree (w.precomposes w0) t places ≡ Some text)
  -- Over any worktree no fault was counted where there is a text, and the count does not stand at its last value.
  pub unfaulted : OnOk answer (CountNotIncreased (w.faults w0) (w.faults w1))
  -- Over any worktree it is in order. The setup was read, and behind it at least as many files as are the same or modified, those for the report among them.
  pub orderly : IfOk answer (IsOrderlyTextByReadSetup (w.precomposes w0) (w.told w0) places (λ files. saturating_sum (saturating_increment (w.reads w0)) files ≤ w.reads w1))
  pub safe : (t : Names) → w.told w0 ≡ Some t → OnOk answer (HasSafeReportAtPlaces (w.precomposes w0) t places)
  pub works : (t : Names) → w.told w0 ≡ Some t
      → OnOk answer (CountsStatusWorkAtPlaces (w.precomposes w0) t (i.questions i0) (i.questions i1) (w.reads w0) (w.reads w1) places)
  -- Directories are listed for the report alone; where subtrees are walked at once, one is counted at most, whatever is answered.
  pub opens : (t : Names) → w.told w0 ≡ Some t
      → OnOk answer (ListsDirectoriesAtPlaces setup_unchanged (w.precomposes w0) t places (w.lists w0) (w.lists w1))
  pub lists : (t : Names) → w.told w0 ≡ Some t → ListsOneDirectoryIfAtOnce t places (w.lists w0) (w.lists w1)
  pub causes : RefusesOnlyWithCauses w i w0 w1 i0 i1 setup_unchanged places answer
  -- It comes by the setup, which was read once and without a fault; or as that was not read. By the setup a refusal, but for want of
  -- memory, comes as the report is made, or as the index paths are looked at behind that, each file being read once at most.
  pub in_order : AnswersBehindReadSetup w w0 w1 i0 i1 places (λ setup loaded. AnswersStatusTextOrRefusal w i (w.precomposes w0) loaded w1 i0 i1 places.root setup answer) answer
  pub keeps : KeepsWorktreeAndInterrupt w i w0 w1 i0 i1 answer

-- the text that is asked for, or why there is none
abbrev pub AnswersOptionalStatusRequest : {W I : Type 0} → WorktreeOf W → InterruptOf I → W → W → I → I → Option RootAndSetupPaths → Result (List ℕ) Refusal → Type 0
AnswersOptionalStatusRequest w i w0 w1 i0 i1 asked answer = AnswersIfCommand (AnswersStatusAtPlaces w i w0 w1 i0 i1) w0 w1 i0 i1 asked answer

-- what is asked for can be had
abbrev pub AreStatusPlacesReady : Bool → Names → Option RootAndSetupPaths → Type 0
AreStatusPlacesReady composes t None = ⊥
AreStatusPlacesReady composes t (Some places) = IsReadyForReportAt setup_unchanged composes t places

-- The words, the setup and the worktree are as they should be.
abbrev pub AreValidStatusWords : Bool → Names → List (List ℕ) → Type 0
AreValidStatusWords composes t words = AreStatusPlacesReady composes t (root_and_setup_of_status_words composes words)
