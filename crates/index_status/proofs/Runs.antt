-- The parts of the top call, put together.
use Rattle.std.proofs.Common.{◌≡◌, ◌≤◌, ℕ, List, Bool, true, Option, Some, None, Result, Ok, Err, IfOk, IfErr, OnOk, IsErrOf, refl, ◌∙◌, subst, option_and_then, arith}
use Rattle.worktree_fs.specs.declared.interrupt.Interrupt.{Ghosts as InterruptOf}
use Rattle.worktree_fs.specs.declared.worktree.Worktree.{Ghosts as WorktreeOf}
use Rattle.worktree_fs.specs.Causes.{CountIncreasedOrSaturated, CountIncrementedOrSaturated, CountNotIncreased, saturating_increment, saturating_sum}
use Rattle.worktree_fs.specs.Tree.{Names, look}
use Rattle.worktree_report.specs.declared.refusal.Refusal.{Refusal}
use Rattle.worktree_report.specs.declared.refusal.Refusal.TheVariants as refusals
use Rattle.worktree_report.specs.declared.setup.Setup.{Setup}
use Rattle.worktree_report.specs.Asked.{HasSafeReportAtRoot}
use Rattle.worktree_report.specs.Converted.{MayComeFromReadingSetup}
use Rattle.worktree_report.specs.Run.{setup_unchanged, HasSafeReportAtPlaces, RefusesSetupAtLine}
use Rattle.worktree_report.specs.SetupAt.{setup_of_file_looked_at}
use Rattle.worktree_report.specs.Words.{RootAndSetupPaths}
use Rattle.worktree_report.proofs.Refusing.{InOrder-made, InOrder-unread}
use Rattle.worktree_report.proofs.Runs.{HasCauses-refused, HasCauses-unread, Keeps-made, Keeps-unread, lists-walked, opens-walked}
use Rattle.index_status.specs.Run as top
use Rattle.index_status.specs.States.{most_reads_for_entries}

-- ---- the text at some places

output-is : (composes : Bool) (t : Names) (places : RootAndSetupPaths) (setup : Setup) (text : List ℕ) → setup_of_file_looked_at (look t places.setup true) ≡ Ok setup
    → top.status_text_over_tree composes t places.root setup ≡ Some text → top.status_text_by_setup_in_tree composes t places ≡ Some text
unfolding top.status_text_by_setup_in_tree
output-is composes t places setup text read is = rw read is

output-made : (composes : Bool) (t : Names) (places : RootAndSetupPaths) (setup : Setup) (answer : Result (List ℕ) Refusal) → setup_of_file_looked_at (look t places.setup true) ≡ Ok setup
    → IfOk answer (λ text. top.status_text_over_tree composes t places.root setup ≡ Some text) → IfOk answer (λ text. top.status_text_by_setup_in_tree composes t places ≡ Some text)
output-made composes t places setup (Ok text) read is = output-is composes t places setup text read is
output-made composes t places setup (Err refusal) read is = tt

safe-made : (composes : Bool) (t : Names) (places : RootAndSetupPaths) (setup : Setup) (answer : Result (List ℕ) Refusal) → setup_of_file_looked_at (look t places.setup true) ≡ Ok setup
    → OnOk answer (HasSafeReportAtRoot composes t places.root setup) → OnOk answer (HasSafeReportAtPlaces composes t places)
safe-made composes t places setup (Ok text) read safe = record { setup = setup; read = read; safe = safe }
safe-made composes t places setup (Err refusal) read safe = tt

-- what the status takes is what is asked for, with the setup
works-made : (composes : Bool) (t : Names) (places : RootAndSetupPaths) (setup : Setup) (answer : Result (List ℕ) Refusal) (questions0 questions1 reads0 reads reads1 : ℕ)
    → setup_of_file_looked_at (look t places.setup true) ≡ Ok setup → CountIncrementedOrSaturated reads0 reads
    → OnOk answer (top.CountsStatusQuestionsAndReads composes t places.root setup questions0 questions1 reads reads1) → OnOk answer (top.CountsStatusWorkAtPlaces composes t questions0 questions1 reads0 reads1 places)
works-made composes t places setup (Ok text) questions0 questions1 reads0 reads reads1 read once works =
    record { setup = setup; read = read; works = subst (λ (n : ℕ). top.CountsStatusQuestionsAndReads composes t places.root setup questions0 questions1 n reads1) once works }
works-made composes t places setup (Err refusal) questions0 questions1 reads0 reads reads1 read once works = tt

orderly-made : (composes : Bool) (told told_now : Option Names) (places : RootAndSetupPaths) (setup : Setup) (answer : Result (List ℕ) Refusal) (reads0 reads reads1 : ℕ)
    → ((t : Names) → told ≡ Some t → setup_of_file_looked_at (look t places.setup true) ≡ Ok setup) → told_now ≡ told → CountIncrementedOrSaturated reads0 reads
    → IfOk answer (top.IsOrderlyStatusText composes told_now places.root setup (λ files. saturating_sum reads files ≤ reads1))
    → IfOk answer (top.IsOrderlyTextByReadSetup composes told places (λ files. saturating_sum (saturating_increment reads0) files ≤ reads1))
orderly-made composes told told_now places setup (Ok text) reads0 reads reads1 read same once is =
    record {
      setup = setup;
      read = read;
      orderly =
          subst (λ (n : ℕ). top.IsOrderlyStatusText composes told places.root setup (λ files. saturating_sum n files ≤ reads1) text) once
          (subst (λ (x : Option Names). top.IsOrderlyStatusText composes x places.root setup (λ files. saturating_sum reads files ≤ reads1) text) same is);
    }
orderly-made composes told told_now places setup (Err refusal) reads0 reads reads1 read same once is = tt

module _ {W I : Type 0} {w : WorktreeOf W} {i : InterruptOf I} {w0 w1 : W} {i0 : I} {places : RootAndSetupPaths} where
  -- the setup is not read
  pub AnswersStatus-unread : (refusal : Refusal) → MayComeFromReadingSetup refusal
      → ((t : Names) → w.told w0 ≡ Some t → (line : ℕ) → refusal ≡ refusals.Setup line → RefusesSetupAtLine t places line)
      → (refusal ≡ refusals.Fault → CountIncreasedOrSaturated (w.faults w0) (w.faults w1))
      → w.told w1 ≡ w.told w0 → w.faults w0 ≤ w.faults w1 → w.list_faults w1 ≡ w.list_faults w0 → CountIncrementedOrSaturated (w.reads w0) (w.reads w1) → w.lists w1 ≡ w.lists w0
      → w.precomposes w1 ≡ w.precomposes w0 → top.AnswersStatusAtPlaces w i w0 w1 i0 i0 places (Err refusal)
  AnswersStatus-unread refusal of outside fault tree faults listed once lists composes =
      record {
        gives = λ t told. tt;
        unfaulted = tt;
        orderly = tt;
        safe = λ t told. tt;
        works = λ t told. tt;
        opens = λ t told. tt;
        lists = λ t told setup read at_once. omega (arith, lists);
        causes = HasCauses-unread w i w0 w1 i0 i0 setup_unchanged places refusal of outside fault once lists refl;
        in_order = InOrder-unread refusal _ of tree faults listed once lists composes;
        keeps = Keeps-unread refusal tree faults listed lists composes;
      }

module _ {W I : Type 0} {w : WorktreeOf W} {i : InterruptOf I} {w0 w1 w2 : W} {i0 i1 : I} {places : RootAndSetupPaths} where
  -- the status is made by the setup that was read
  pub AnswersStatus-made : (setup : Setup) (answer : Result (List ℕ) Refusal)
      → ((t : Names) → w.told w0 ≡ Some t → setup_of_file_looked_at (look t places.setup true) ≡ Ok setup)
      → w.told w1 ≡ w.told w0 → w.faults w0 ≤ w.faults w1 → w.faults w1 ≡ w.faults w0 → w.list_faults w1 ≡ w.list_faults w0 → CountIncrementedOrSaturated (w.reads w0) (w.reads w1) → w.lists w1 ≡ w.lists w0
      → w.precomposes w1 ≡ w.precomposes w0 → top.AnswersStatusTextOrRefusal w i (w.precomposes w1) w1 w2 i0 i1 places.root setup answer → top.AnswersStatusAtPlaces w i w0 w2 i0 i1 places answer
  AnswersStatus-made setup answer read tree faults unfaulted listed once lists composes told_of =
      let texts : top.AnswersStatusTextOrRefusal w i (w.precomposes w0) w1 w2 i0 i1 places.root setup answer = subst (λ b. top.AnswersStatusTextOrRefusal w i b w1 w2 i0 i1 places.root setup answer) composes told_of in
      record {
        gives = λ t told. output-made _ t places setup answer (read t told) (texts.gives t (tree ∙ told));
        unfaulted = subst (λ (n : ℕ). OnOk answer (CountNotIncreased n (w.faults w2))) unfaulted texts.unfaulted;
        orderly = orderly-made _ (w.told w0) (w.told w1) places setup answer (w.reads w0) (w.reads w1) (w.reads w2) read tree once texts.orderly;
        safe = λ t told. safe-made _ t places setup answer (read t told) (texts.safe t (tree ∙ told));
        works = λ t told. works-made _ t places setup answer _ _ _ _ _ (read t told) once (texts.works t (tree ∙ told));
        opens = λ t told. opens-walked setup_unchanged _ t places setup answer _ _ _ (read t told) lists (texts.opens t (tree ∙ told));
        lists = λ t told. lists-walked t places setup _ _ _ (read t told) lists texts.lists;
        causes = HasCauses-refused w i w0 w1 w2 i0 i1 setup_unchanged places setup (most_reads_for_entries setup.index) answer read tree faults once lists texts.refused;
        in_order = InOrder-made w w0 w1 w2 i0 i1 places setup answer _ read tree faults unfaulted listed once lists composes texts;
        keeps = Keeps-made answer tree faults listed lists composes texts.worktree texts.interrupt texts.listed texts.calm;
      }

-- ---- what follows from the status

module _ {W I : Type 0} (w : WorktreeOf W) (i : InterruptOf I) (w0 w1 : W) (i0 i1 : I) where
  -- a text is the one that is asked for
  pub text_asked-is : (asked : Option RootAndSetupPaths) (text : List ℕ) → top.AnswersOptionalStatusRequest w i w0 w1 i0 i1 asked (Ok text)
      → (t : Names) → w.told w0 ≡ Some t → option_and_then (top.status_text_by_setup_in_tree (w.precomposes w0) t) asked ≡ Some text
  text_asked-is None text answers t told = absurd (let is = answers.usage in cc)
  text_asked-is (Some places) text answers t told = answers.gives t told

  -- and no fault was counted
  pub text_asked-unfaulted : (asked : Option RootAndSetupPaths) (text : List ℕ) → top.AnswersOptionalStatusRequest w i w0 w1 i0 i1 asked (Ok text)
      → (w.faults w1 ≡ w.faults w0) × CountNotIncreased (w.faults w0) (w.faults w1)
  text_asked-unfaulted None text answers = absurd (let is = answers.usage in cc)
  text_asked-unfaulted (Some places) text answers = let quiet = answers.unfaulted in let faults = answers.keeps.faults in (omega (arith, quiet, faults), quiet)

  -- a status is not refused for its words
  pub no_usage : (places : RootAndSetupPaths) (answer : Result (List ℕ) Refusal) → top.AnswersStatusAtPlaces w i w0 w1 i0 i1 places answer → ¬ IsErrOf answer refusals.Usage
  no_usage places answer answers = answers.causes.no_usage

  -- for what can be had, where nothing failed or was raised, only memory may be wanted
  pub wants_memory_alone : (asked : Option RootAndSetupPaths) (answer : Result (List ℕ) Refusal) → top.AnswersOptionalStatusRequest w i w0 w1 i0 i1 asked answer
      → (t : Names) → w.told w0 ≡ Some t → CountNotIncreased (w.faults w0) (w.faults w1) → CountNotIncreased (i.raised i0) (i.raised i1) → top.AreStatusPlacesReady (w.precomposes w0) t asked
      → IfErr answer (λ refusal. refusal ≡ refusals.OutOfMemory)
  wants_memory_alone None answer answers t told quiet calm valid = absurd valid
  wants_memory_alone (Some places) answer answers t told quiet calm valid = answers.causes.complete t told quiet calm valid
