-- The parts of a top call, put together.
use Rattle.std.proofs.Common.{◌≡◌, ◌⊎◌, ◌↔◌, ◌≤◌, ◌+◌, ℕ, List, Bool, true, inl, inr, Option, Some, None, Result, Ok, Err, IfOk, IfErr, OnOk, IsErrOf, ap, refl, sym, ◌∙◌, subst, arith}
use Rattle.std.specs.Prelude.{option_map}
use Rattle.worktree_fs.specs.declared.interrupt.Interrupt.{Ghosts as InterruptOf}
use Rattle.worktree_fs.specs.declared.sink.Sink.{Ghosts as SinkOf}
use Rattle.worktree_fs.specs.declared.worktree.Worktree.{Ghosts as WorktreeOf}
use Rattle.worktree_fs.specs.Tree.{Names, look}
use Rattle.worktree_fs.specs.Causes.{CountIncreasedOrSaturated, CountIncrementedOrSaturated, CountNotIncreased}
use Rattle.dir_walk.specs.declared.strategy.Strategy.TheVariants.{AtOnce}
use Rattle.dir_walk.specs.Kept.{AsksInterruptPerRaise, KeepsWorktree}
use Rattle.worktree_report.specs.declared.setup.Setup.{Setup}
use Rattle.worktree_report.specs.declared.refusal.Refusal.{Refusal}
use Rattle.worktree_report.specs.declared.refusal.Refusal.TheVariants as refusals
use Rattle.worktree_report.specs.Words.{Command, RootAndSetupPaths, report, generate}
use Rattle.worktree_report.specs.SetupAt.{setup_of_file_looked_at}
use Rattle.worktree_report.specs.Asked.{sources_of_tree_and_setup, report_text_of_setup, IsWordAndPathAboutInput, HasSafeReportAtRoot, IsSetupValidAtRoot, ListsDirectoriesOfReport, AsksAndReadsForReport}
use Rattle.worktree_report.specs.Behind.{RefusesTextWithCause}
use Rattle.worktree_report.specs.Converted.{MayComeFromReadingSetup, IsRefusalOfMakingReport}
use Rattle.worktree_report.specs.Orderly.{IsTextOfReportInOrder}
use Rattle.worktree_report.specs.Outside.{count_files_read_to_misread, StopsAtUnreadFile}
use Rattle.worktree_report.specs.Reported.{MakesTextBySetup}
use Rattle.worktree_report.specs.Refusals.{status_of}
use Rattle.worktree_report.specs.Written.{AppendsWholeBytes}
use Rattle.worktree_report.specs.Generate.{IsGeneratedTextWithQuestions, IsRefusalOfGenerating, lines_of_generated_report, text_of_generated_report}
use Rattle.worktree_report.specs.Ends.{TopCallEnds}
use Rattle.worktree_report.specs.Run as top
use Rattle.worktree_report.proofs.Refusing.{InOrder-made, InOrder-unread}

-- a count that rose from later on rose from before
pub Increased-before : (before later now : ℕ) → before ≤ later → CountIncreasedOrSaturated later now → CountIncreasedOrSaturated before now
Increased-before before later now older rose = omega arith

pub Quiet-later : (before later now : ℕ) → before ≤ later → CountNotIncreased before now → CountNotIncreased later now
Quiet-later before later now older quiet = omega arith

-- which refusal is answered
which : {T : Type 0} {from to : Refusal} → IsErrOf {T = T} (Err from) to → from ≡ to
which is = cc

same_setup : {a b : Setup} (r : Result Setup ℕ) → r ≡ Ok a → r ≡ Ok b → a ≡ b
same_setup r e f = cc

is_read : {a : Setup} {line : ℕ} → Ok a ≡ Err line → ⊥
is_read e = absurd cc

-- ---- causes, for any command over a work tree

module _ {W I : Type 0} (w : WorktreeOf W) (i : InterruptOf I) (w0 w1 : W) (i0 i1 : I) (made : Setup → Setup) (places : RootAndSetupPaths) where
  -- there is a text
  pub HasCauses-given : (text : List ℕ) → top.RefusesOnlyWithCauses w i w0 w1 i0 i1 made places (Ok text)
  HasCauses-given text =
      record {
        no_usage = λ is. absurd cc;
        setup = λ t told line is. absurd cc;
        setup_unasked = λ line is. absurd cc;
        misread = λ t told misread is. absurd cc;
        misread_about = λ misread is. absurd cc;
        misread_unasked = λ misread is. absurd cc;
        misread_reads = λ misread is. absurd cc;
        walk = λ t told quiet word p is. absurd cc;
        about = λ word p is. absurd cc;
        cause = λ is. absurd cc;
        fault_late = λ is. absurd cc;
        interrupted = λ is. absurd cc;
        interrupted_late = λ t told is. absurd cc;
        no_output = λ is. absurd cc;
        complete = λ t told quiet calm valid. tt;
      }

  -- memory is wanted
  pub HasCauses-memory : top.RefusesOnlyWithCauses w i w0 w1 i0 i1 made places (Err refusals.OutOfMemory)
  HasCauses-memory =
      record {
        no_usage = λ is. absurd cc;
        setup = λ t told line is. absurd cc;
        setup_unasked = λ line is. absurd cc;
        misread = λ t told misread is. absurd cc;
        misread_about = λ misread is. absurd cc;
        misread_unasked = λ misread is. absurd cc;
        misread_reads = λ misread is. absurd cc;
        walk = λ t told quiet word p is. absurd cc;
        about = λ word p is. absurd cc;
        cause = λ is. absurd cc;
        fault_late = λ is. absurd cc;
        interrupted = λ is. absurd cc;
        interrupted_late = λ t told is. absurd cc;
        no_output = λ is. absurd cc;
        complete = λ t told quiet calm valid. refl;
      }

  -- the worktree failed
  pub HasCauses-fault : CountIncreasedOrSaturated (w.faults w0) (w.faults w1)
      → top.FailsBeforeWalk w w0 w1 i0 i1 made places ⊎ ((t : Names) → w.told w0 ≡ Some t → top.AreSubmodulesKnownAtPlaces made t places)
      → top.RefusesOnlyWithCauses w i w0 w1 i0 i1 made places (Err refusals.Fault)
  HasCauses-fault rose late =
      record {
        no_usage = λ is. absurd cc;
        setup = λ t told line is. absurd cc;
        setup_unasked = λ line is. absurd cc;
        misread = λ t told misread is. absurd cc;
        misread_about = λ misread is. absurd cc;
        misread_unasked = λ misread is. absurd cc;
        misread_reads = λ misread is. absurd cc;
        walk = λ t told quiet word p is. absurd cc;
        about = λ word p is. absurd cc;
        cause = λ is. rose;
        fault_late = λ is. late;
        interrupted = λ is. absurd cc;
        interrupted_late = λ t told is. absurd cc;
        no_output = λ is. absurd cc;
        complete = λ t told quiet calm valid. absurd (omega (arith, rose, quiet));
      }

  wants_memory : (refusal : Refusal) → MayComeFromReadingSetup refusal
      → ((t : Names) → w.told w0 ≡ Some t → (line : ℕ) → refusal ≡ refusals.Setup line → top.RefusesSetupAtLine t places line)
      → (refusal ≡ refusals.Fault → CountIncreasedOrSaturated (w.faults w0) (w.faults w1))
      → (t : Names) → w.told w0 ≡ Some t → CountNotIncreased (w.faults w0) (w.faults w1) → top.IsReadyForReportAt made (w.precomposes w0) t places → refusal ≡ refusals.OutOfMemory
  wants_memory refusals.Interrupted of outside fault t told quiet valid = absurd of
  wants_memory refusals.Usage of outside fault t told quiet valid = absurd of
  wants_memory (refusals.Setup line) of outside fault t told quiet valid = absurd (is_read (sym valid.read ∙ outside t told line refl))
  wants_memory (refusals.Misread misread) of outside fault t told quiet valid = absurd of
  wants_memory (refusals.Walk word p) of outside fault t told quiet valid = absurd of
  wants_memory refusals.Fault of outside fault t told quiet valid = absurd (omega (arith, fault refl, quiet))
  wants_memory refusals.Output of outside fault t told quiet valid = absurd of
  wants_memory refusals.OutOfMemory of outside fault t told quiet valid = refl

  -- the setup is not read
  pub HasCauses-unread : (refusal : Refusal) → MayComeFromReadingSetup refusal
      → ((t : Names) → w.told w0 ≡ Some t → (line : ℕ) → refusal ≡ refusals.Setup line → top.RefusesSetupAtLine t places line)
      → (refusal ≡ refusals.Fault → CountIncreasedOrSaturated (w.faults w0) (w.faults w1)) → CountIncrementedOrSaturated (w.reads w0) (w.reads w1) → w.lists w1 ≡ w.lists w0 → i1 ≡ i0
      → top.RefusesOnlyWithCauses w i w0 w1 i0 i1 made places (Err refusal)
  HasCauses-unread refusal of outside fault once listed unasked =
      record {
        no_usage = λ is. absurd (subst MayComeFromReadingSetup (which is) of);
        setup = λ t told line is. outside t told line (which is);
        setup_unasked = λ line is. (listed, unasked, omega (arith, once));
        misread = λ t told misread is. absurd (subst MayComeFromReadingSetup (which is) of);
        misread_about = λ misread is. absurd (subst MayComeFromReadingSetup (which is) of);
        misread_unasked = λ misread is. absurd (subst MayComeFromReadingSetup (which is) of);
        misread_reads = λ misread is. absurd (subst MayComeFromReadingSetup (which is) of);
        walk = λ t told quiet word p is. absurd (subst MayComeFromReadingSetup (which is) of);
        about = λ word p is. absurd (subst MayComeFromReadingSetup (which is) of);
        cause = λ is. fault (which is);
        fault_late = λ is. inl (record { lists = listed; interrupt = unasked; reads = λ t told. inl (omega (arith, once)) });
        interrupted = λ is. absurd (subst MayComeFromReadingSetup (which is) of);
        interrupted_late = λ t told is. absurd (subst MayComeFromReadingSetup (which is) of);
        no_output = λ is. subst MayComeFromReadingSetup (which is) of;
        complete = λ t told quiet calm valid. wants_memory refusal of outside fault t told quiet valid;
      }

module _ {W I : Type 0} (w : WorktreeOf W) (i : InterruptOf I) (w0 w1 w2 : W) (i0 i1 : I) (made : Setup → Setup) (places : RootAndSetupPaths) where
  -- the report is made by the setup that was read
  pub HasCauses-walked : (setup : Setup) (answer : Result (List ℕ) Refusal)
      → ((t : Names) → w.told w0 ≡ Some t → setup_of_file_looked_at (look t places.setup true) ≡ Ok setup)
      → w.told w1 ≡ w.told w0 → w.faults w0 ≤ w.faults w1 → CountIncrementedOrSaturated (w.reads w0) (w.reads w1) → w.lists w1 ≡ w.lists w0
      → MakesTextBySetup w i (w.precomposes w0) w1 w2 i0 i1 places.root (made setup) answer → top.RefusesOnlyWithCauses w i w0 w2 i0 i1 made places answer
  HasCauses-walked setup answer read tree faults once listed texts =
      let unless : (refusal : Refusal) → IsErrOf answer refusal → IsRefusalOfMakingReport refusal = λ refusal is. subst (λ r. IfErr r IsRefusalOfMakingReport) is texts.answers in
      record {
        no_usage = λ is. unless refusals.Usage is;
        setup = λ t told line is. absurd (unless (refusals.Setup line) is);
        setup_unasked = λ line is. absurd (unless (refusals.Setup line) is);
        misread = λ t told misread is. record { setup = setup; read = read t told; misread = texts.misread t (tree ∙ told) misread is };
        misread_about = λ misread is. record { setup = setup; read = read; about = (texts.outside misread is).about };
        misread_unasked = λ misread is. let only = texts.outside misread is in (only.loads.lists ∙ listed, only.interrupt);
        misread_reads = λ misread is.
            record {
              setup = setup;
              read = read;
              reads = subst (λ (n : ℕ). w.reads w2 ≤ n + count_files_read_to_misread (made setup) misread) once (texts.outside misread is).loads.reads;
            };
        walk = λ t told quiet word p is. record { setup = setup; read = read t told; refused = texts.refused t (tree ∙ told) (Quiet-later _ _ _ faults quiet) word p is };
        about = λ word p is. record { setup = setup; read = read; about = subst (λ (told : Option Names). IsWordAndPathAboutInput (w.precomposes w0) told places.root (made setup) word p) tree (texts.about word p is) };
        cause = λ is. Increased-before _ _ _ faults (texts.cause is);
        fault_late = λ is.
            elim (texts.fault_late is) [
              | inl early ↦ inl (record {
                lists = early.lists ∙ listed;
                interrupt = early.interrupt;
                reads = λ t told. inr (record {
                  setup = setup;
                  read = read t told;
                  asked = early.asked;
                  stops = subst (λ (n : ℕ). StopsAtUnreadFile t (made setup) n (w.reads w2)) once (early.stops t (tree ∙ told));
                });
              })
              | inr known ↦ inr (λ t told. record { setup = setup; read = read t told; known = known t (tree ∙ told) })
            ];
        interrupted = texts.interrupted;
        interrupted_late = λ t told is. record { setup = setup; read = read t told; known = texts.interrupted_late t (tree ∙ told) is };
        no_output = λ is. unless refusals.Output is;
        complete = λ t told quiet calm valid.
            texts.complete t (tree ∙ told) (Quiet-later _ _ _ faults quiet) calm
            (subst (λ (s : Setup). IsSetupValidAtRoot (w.precomposes w0) (sources_of_tree_and_setup t (made s)) places.root (made s)) (same_setup _ valid.read (read t told)) valid.valid);
      }

  -- a command that makes a report is refused by the setup that was read
  pub HasCauses-refused : (setup : Setup) (most : ℕ) (answer : Result (List ℕ) Refusal)
      → ((t : Names) → w.told w0 ≡ Some t → setup_of_file_looked_at (look t places.setup true) ≡ Ok setup)
      → w.told w1 ≡ w.told w0 → w.faults w0 ≤ w.faults w1 → CountIncrementedOrSaturated (w.reads w0) (w.reads w1) → w.lists w1 ≡ w.lists w0
      → IfErr answer (RefusesTextWithCause w i (w.precomposes w0) w1 w2 i0 i1 places.root (made setup) most) → top.RefusesOnlyWithCauses w i w0 w2 i0 i1 made places answer
  HasCauses-refused setup most (Ok text) read tree faults once listed refused = HasCauses-given w i w0 w2 i0 i1 made places text
  HasCauses-refused setup most (Err refusal) read tree faults once listed refused =
      elim refused [
        | inl memory ↦ subst (λ (r : Refusal). top.RefusesOnlyWithCauses w i w0 w2 i0 i1 made places (Err r)) (sym memory) (HasCauses-memory w i w0 w2 i0 i1 made places)
        | inr other ↦ elim other [
          | inl failed ↦ subst (λ (r : Refusal). top.RefusesOnlyWithCauses w i w0 w2 i0 i1 made places (Err r)) (sym failed.0)
              (let known = failed.1.first.made.orderly.orderly in
              HasCauses-fault w i w0 w2 i0 i1 made places (Increased-before _ _ _ faults failed.1.rose)
              (inr (λ t told. record { setup = setup; read = read t told; known = (known.known, known.known_is t (tree ∙ told)) })))
          | inr none ↦ HasCauses-walked setup (Err refusal) read tree faults once listed none
        ]
      ]

-- ---- what stays

module _ {W I : Type 0} {w : WorktreeOf W} {i : InterruptOf I} {w0 w1 : W} {i0 : I} where
  -- the setup is not read
  pub Keeps-unread : (refusal : Refusal) → w.told w1 ≡ w.told w0 → w.faults w0 ≤ w.faults w1 → w.list_faults w1 ≡ w.list_faults w0 → w.lists w1 ≡ w.lists w0
      → w.precomposes w1 ≡ w.precomposes w0 → top.KeepsWorktreeAndInterrupt w i w0 w1 i0 i0 (Err refusal)
  Keeps-unread refusal tree faults listed none_listed composes =
      record { tree = tree; faults = faults; list_faults = omega (arith, listed); list_faults_kept = tt; lists = omega (arith, none_listed); precomposes = composes; questions = omega arith; raised = omega arith; calm = tt }

module _ {W I : Type 0} {w : WorktreeOf W} {i : InterruptOf I} {w0 w1 w2 : W} {i0 i1 : I} where
  -- an answer is made once the setup is read
  pub Keeps-made : (answer : Result (List ℕ) Refusal) → w.told w1 ≡ w.told w0 → w.faults w0 ≤ w.faults w1 → w.list_faults w1 ≡ w.list_faults w0 → w.lists w1 ≡ w.lists w0
      → w.precomposes w1 ≡ w.precomposes w0 → KeepsWorktree w w1 w2 → AsksInterruptPerRaise i i0 i1 → OnOk answer (w.list_faults w2 ≡ w.list_faults w1) → OnOk answer (i.raised i1 ≡ i.raised i0)
      → top.KeepsWorktreeAndInterrupt w i w0 w2 i0 i1 answer
  Keeps-made answer tree faults listed none_listed composes worktree interrupt kept calm =
      record {
        tree = worktree.tree ∙ tree;
        faults = omega (arith, faults, worktree.faults);
        list_faults = omega (arith, listed, worktree.list_faults);
        list_faults_kept = subst (λ (n : ℕ). OnOk answer (w.list_faults w2 ≡ n)) listed kept;
        lists = omega (arith, none_listed, worktree.lists);
        precomposes = worktree.precomposes ∙ composes;
        questions = omega (arith, interrupt.questions);
        raised = interrupt.raised;
        calm = calm;
      }

-- ---- the report of a work tree

output_is : (composes : Bool) (t : Names) (places : RootAndSetupPaths) (setup : Setup) (text : List ℕ)
    → setup_of_file_looked_at (look t places.setup true) ≡ Ok setup → report_text_of_setup composes t places.root setup ≡ Some text → top.report_text_at_places composes t places ≡ Some text
unfolding top.report_text_at_places
output_is composes t places setup text read walked = rw read walked

-- a text of the report by the setup that was read is the one that is asked for
output_at-walked : (composes : Bool) (t : Names) (places : RootAndSetupPaths) (setup : Setup) (answer : Result (List ℕ) Refusal)
    → setup_of_file_looked_at (look t places.setup true) ≡ Ok setup → IfOk answer (λ text. report_text_of_setup composes t places.root setup ≡ Some text)
    → IfOk answer (λ text. top.report_text_at_places composes t places ≡ Some text)
output_at-walked composes t places setup (Ok text) read walked = output_is composes t places setup text read walked
output_at-walked composes t places setup (Err refusal) read walked = tt

-- a safe report by that setup is safe
safe-walked : (composes : Bool) (t : Names) (places : RootAndSetupPaths) (setup : Setup) (answer : Result (List ℕ) Refusal)
    → setup_of_file_looked_at (look t places.setup true) ≡ Ok setup → OnOk answer (HasSafeReportAtRoot composes t places.root setup) → OnOk answer (top.HasSafeReportAtPlaces composes t places)
safe-walked composes t places setup (Ok text) read safe = record { setup = setup; read = read; safe = safe }
safe-walked composes t places setup (Err refusal) read safe = tt

-- a report in order by that setup is in order
orderly-walked : (composes : Bool) (told told_now : Option Names) (places : RootAndSetupPaths) (setup : Setup) (answer : Result (List ℕ) Refusal)
    → ((t : Names) → told ≡ Some t → setup_of_file_looked_at (look t places.setup true) ≡ Ok setup) → told_now ≡ told
    → IfOk answer (IsTextOfReportInOrder composes told_now places.root setup) → IfOk answer (top.IsTextInOrderAtPlaces composes told places)
orderly-walked composes told told_now places setup (Ok text) read same is =
    record { setup = setup; read = read; orderly = subst (λ (x : Option Names). IsTextOfReportInOrder composes x places.root setup text) same is }
orderly-walked composes told told_now places setup (Err refusal) read same is = tt

-- what the report takes is what is asked for, with the setup
works-walked : (composes : Bool) (t : Names) (places : RootAndSetupPaths) (setup : Setup) (answer : Result (List ℕ) Refusal) (questions0 questions1 reads0 reads reads1 : ℕ)
    → setup_of_file_looked_at (look t places.setup true) ≡ Ok setup → CountIncrementedOrSaturated reads0 reads
    → OnOk answer (AsksAndReadsForReport composes t places.root setup questions0 questions1 reads reads1) → OnOk answer (top.AsksAndReadsAtPlaces composes t questions0 questions1 reads0 reads1 places)
works-walked composes t places setup (Ok text) questions0 questions1 reads0 reads reads1 read once works =
    record { setup = setup; read = read; works = subst (λ (n : ℕ). AsksAndReadsForReport composes t places.root setup questions0 questions1 n reads1) once works }
works-walked composes t places setup (Err refusal) questions0 questions1 reads0 reads reads1 read once works = tt

-- the directories that are listed for it
pub opens-walked : (made : Setup → Setup) (composes : Bool) (t : Names) (places : RootAndSetupPaths) (setup : Setup) (answer : Result (List ℕ) Refusal) (lists0 lists lists1 : ℕ)
    → setup_of_file_looked_at (look t places.setup true) ≡ Ok setup → lists ≡ lists0
    → OnOk answer (ListsDirectoriesOfReport composes t places.root (made setup) lists lists1) → OnOk answer (top.ListsDirectoriesAtPlaces made composes t places lists0 lists1)
opens-walked made composes t places setup (Ok text) lists0 lists lists1 read same at =
    record { setup = setup; read = read; lists = subst (λ (n : ℕ). ListsDirectoriesOfReport composes t places.root (made setup) n lists1) same at }
opens-walked made composes t places setup (Err refusal) lists0 lists lists1 read same at = tt

-- the one directory that is listed at most
pub lists-walked : (t : Names) (places : RootAndSetupPaths) (setup : Setup) (lists0 lists lists1 : ℕ)
    → setup_of_file_looked_at (look t places.setup true) ≡ Ok setup → lists ≡ lists0 → (setup.options.strategy ≡ AtOnce → lists1 ≤ lists + 1) → top.ListsOneDirectoryIfAtOnce t places lists0 lists1
lists-walked t places setup lists0 lists lists1 read same once =
    λ other read_so at_once. let most = once (ap (λ (s : Setup). s.options.strategy) (same_setup _ read read_so) ∙ at_once) in omega (arith, same, most)

module _ {W I : Type 0} {w : WorktreeOf W} {i : InterruptOf I} {w0 w1 : W} {i0 : I} {places : RootAndSetupPaths} where
  -- the setup is not read
  pub AnswersReport-unread : (refusal : Refusal) → MayComeFromReadingSetup refusal
      → ((t : Names) → w.told w0 ≡ Some t → (line : ℕ) → refusal ≡ refusals.Setup line → top.RefusesSetupAtLine t places line)
      → (refusal ≡ refusals.Fault → CountIncreasedOrSaturated (w.faults w0) (w.faults w1)) → CountIncrementedOrSaturated (w.reads w0) (w.reads w1) → w.lists w1 ≡ w.lists w0
      → w.told w1 ≡ w.told w0 → w.faults w0 ≤ w.faults w1 → w.list_faults w1 ≡ w.list_faults w0 → w.precomposes w1 ≡ w.precomposes w0
      → top.AnswersReportCommand w i w0 w1 i0 i0 places (Err refusal)
  AnswersReport-unread refusal of outside fault once none_listed tree faults listed composes =
      record {
        gives = λ t told quiet. tt;
        orderly = tt;
        safe = λ t told quiet. tt;
        works = λ t told quiet. tt;
        opens = λ t told quiet. tt;
        lists = λ t told setup read at_once. omega (arith, none_listed);
        causes = HasCauses-unread w i w0 w1 i0 i0 top.setup_unchanged places refusal of outside fault once none_listed refl;
        in_order = InOrder-unread refusal _ of tree faults listed once none_listed composes;
        keeps = Keeps-unread refusal tree faults listed none_listed composes;
      }

module _ {W I : Type 0} {w : WorktreeOf W} {i : InterruptOf I} {w0 w1 w2 : W} {i0 i1 : I} {places : RootAndSetupPaths} where
  -- the work tree is walked by the setup that was read
  pub AnswersReport-walked : (setup : Setup) (answer : Result (List ℕ) Refusal)
      → ((t : Names) → w.told w0 ≡ Some t → setup_of_file_looked_at (look t places.setup true) ≡ Ok setup) → CountIncrementedOrSaturated (w.reads w0) (w.reads w1) → w.lists w1 ≡ w.lists w0
      → w.told w1 ≡ w.told w0 → w.faults w0 ≤ w.faults w1 → w.faults w1 ≡ w.faults w0 → w.list_faults w1 ≡ w.list_faults w0 → w.precomposes w1 ≡ w.precomposes w0
      → MakesTextBySetup w i (w.precomposes w1) w1 w2 i0 i1 places.root setup answer → top.AnswersReportCommand w i w0 w2 i0 i1 places answer
  AnswersReport-walked setup answer read once none_listed tree faults unfaulted listed composes told_of =
      let texts : MakesTextBySetup w i (w.precomposes w0) w1 w2 i0 i1 places.root setup answer = subst (λ b. MakesTextBySetup w i b w1 w2 i0 i1 places.root setup answer) composes told_of in
      record {
        gives = λ t told quiet. output_at-walked _ t places setup answer (read t told) (texts.gives t (tree ∙ told) (Quiet-later _ _ _ faults quiet));
        orderly = orderly-walked _ (w.told w0) (w.told w1) places setup answer read tree texts.orderly;
        safe = λ t told quiet. safe-walked _ t places setup answer (read t told) (texts.safe t (tree ∙ told) (Quiet-later _ _ _ faults quiet));
        works = λ t told quiet. works-walked _ t places setup answer _ _ _ _ _ (read t told) once (texts.works t (tree ∙ told) (Quiet-later _ _ _ faults quiet));
        opens = λ t told quiet. opens-walked top.setup_unchanged _ t places setup answer _ _ _ (read t told) none_listed (texts.opens t (tree ∙ told) (Quiet-later _ _ _ faults quiet));
        lists = λ t told. lists-walked t places setup _ _ _ (read t told) none_listed texts.lists;
        causes = HasCauses-walked w i w0 w1 w2 i0 i1 top.setup_unchanged places setup answer read tree faults once none_listed texts;
        in_order = InOrder-made w w0 w1 w2 i0 i1 places setup answer _ read tree faults unfaulted listed once none_listed composes texts;
        keeps = Keeps-made answer tree faults listed none_listed composes texts.worktree texts.interrupt texts.listed texts.calm;
      }

-- ---- what the words ask for, of any command

-- the same of what is asked for by another name
pub Answers-named : {W I A : Type 0} (Holds : A → Result (List ℕ) Refusal → Type 0) (w0 w1 : W) (i0 i1 : I) (answer : Result (List ℕ) Refusal) {found asked : Option A}
    → found ≡ asked → top.AnswersIfCommand Holds w0 w1 i0 i1 found answer → top.AnswersIfCommand Holds w0 w1 i0 i1 asked answer
Answers-named {A = A} Holds w0 w1 i0 i1 answer e answers = subst (λ (x : Option A). top.AnswersIfCommand Holds w0 w1 i0 i1 x answer) e answers

-- what is asked for, where it is known what was found
pub asked-is : {C R : Type 0} (f : C → R) (asked_by : Bool → Option R) (before now : Bool) (found asked : Option C) → option_map f found ≡ asked_by now → now ≡ before → found ≡ asked
    → option_map f asked ≡ asked_by before
asked-is f asked_by before now found asked e same is = ap (option_map f) (sym is) ∙ e ∙ ap asked_by same

-- ---- what follows from the status

text_is : (n questions0 questions1 : ℕ) (text : List ℕ) → IsGeneratedTextWithQuestions n questions0 questions1 text → text_of_generated_report n ≡ Some text
text_is n questions0 questions1 text made = ap (option_map (lines_of_generated_report n)) made.is ∙ ap (λ (x : List ℕ). Some x) (sym made.text_is)

no_zero : (refusal : Refusal) → status_of refusal ≡ 0 → ⊥
no_zero refusals.Interrupted is = omega arith
no_zero refusals.Usage is = omega arith
no_zero (refusals.Setup line) is = omega arith
no_zero (refusals.Walk word path) is = omega arith
no_zero (refusals.Misread misread) is = omega arith
no_zero refusals.Fault is = omega arith
no_zero refusals.Output is = omega arith
no_zero refusals.OutOfMemory is = omega arith

-- two is the status of words that ask for nothing alone
two_is : (refusal : Refusal) → status_of refusal ≡ 2 → refusal ≡ refusals.Usage
two_is refusals.Interrupted is = absurd (omega arith)
two_is refusals.Usage is = refl
two_is (refusals.Setup line) is = absurd (omega arith)
two_is (refusals.Walk word path) is = absurd (omega arith)
two_is (refusals.Misread misread) is = absurd (omega arith)
two_is refusals.Fault is = absurd (omega arith)
two_is refusals.Output is = absurd (omega arith)
two_is refusals.OutOfMemory is = absurd (omega arith)

module _ {S E : Type 0} (s : SinkOf S) (e : SinkOf E) (s0 s1 : S) (e0 e1 : E) (usage : List ℕ) (status : ℕ) where
  -- with 0 there is a text, and it is written
  pub ends_in_zero : (answer : Result (List ℕ) Refusal) → TopCallEnds s e s0 s1 e0 e1 usage answer status → status ≡ 0
      → (text : List ℕ) × (answer ≡ Ok text) × AppendsWholeBytes (s.written s0) (s.written s1) text
  ends_in_zero (Ok text) ends zero = elim ends.by [ inl whole ↦ (text, refl, whole.written) | inr cut ↦ absurd (let is = cut.status_is in omega (arith, is, zero)) ]
  ends_in_zero (Err refusal) ends zero =
      elim ends.by.1 [
        | inl told ↦ absurd (no_zero refusal (sym told.status_is ∙ zero))
        | inr untold ↦ absurd (let is = untold.wants.status_is in omega (arith, is, zero))
      ]

  -- with 2 the words ask for nothing
  pub ends_in_two : (answer : Result (List ℕ) Refusal) → TopCallEnds s e s0 s1 e0 e1 usage answer status → status ≡ 2 → IsErrOf answer refusals.Usage
  ends_in_two (Ok text) ends two =
      elim ends.by [ inl whole ↦ absurd (let is = whole.status_is in omega (arith, is, two)) | inr cut ↦ absurd (let is = cut.status_is in omega (arith, is, two)) ]
  ends_in_two (Err refusal) ends two =
      elim ends.by.1 [
        | inl told ↦ ap Err (two_is refusal (sym told.status_is ∙ two))
        | inr untold ↦ absurd (let is = untold.wants.status_is in omega (arith, is, two))
      ]

  -- where they do it ends with 2
  pub ends_of_usage : TopCallEnds s e s0 s1 e0 e1 usage (Err refusals.Usage) status → status ≡ 2
  ends_of_usage ends = elim ends.by.1 [ inl told ↦ told.status_is | inr untold ↦ absurd (let made = untold.made in cc) ]

  -- where only memory may be wanted and the output takes all it ends with 0 or 8
  pub ends_well : (answer : Result (List ℕ) Refusal) → TopCallEnds s e s0 s1 e0 e1 usage answer status → CountNotIncreased (s.refusals s0) (s.refusals s1)
      → IfErr answer (λ refusal. refusal ≡ refusals.OutOfMemory) → (status ≡ 0) ⊎ (status ≡ 8)
  ends_well (Ok text) ends quiet memory = elim ends.by [ inl whole ↦ inl whole.status_is | inr cut ↦ absurd (let cause = cut.cause in omega (arith, cause, quiet)) ]
  ends_well (Err refusal) ends quiet memory = elim ends.by.1 [ inl told ↦ inr (told.status_is ∙ ap status_of memory) | inr untold ↦ inr untold.wants.status_is ]

  -- what is written with 0 is a text of which all holds that holds of such an answer
  pub run_text : (Holds : Result (List ℕ) Refusal → Type 0) (Is : List ℕ → Type 0) → ((text : List ℕ) → Holds (Ok text) → Is text)
      → (answer : Result (List ℕ) Refusal) → Holds answer → TopCallEnds s e s0 s1 e0 e1 usage answer status → status ≡ 0
      → (text : List ℕ) × Is text × AppendsWholeBytes (s.written s0) (s.written s1) text
  run_text Holds Is is answer answers ends zero =
      let wrote = ends_in_zero answer ends zero in
      (wrote.0, is wrote.0 (subst Holds wrote.1 answers), wrote.2)

  -- the status is 2 exactly where the words ask for nothing
  pub run_usage : {W I A : Type 0} (Holds : A → Result (List ℕ) Refusal → Type 0) (w0 w1 : W) (i0 i1 : I)
      → ((a : A) (answer : Result (List ℕ) Refusal) → Holds a answer → ¬ IsErrOf answer refusals.Usage)
      → (asked : Option A) (answer : Result (List ℕ) Refusal) → top.AnswersIfCommand Holds w0 w1 i0 i1 asked answer → TopCallEnds s e s0 s1 e0 e1 usage answer status
      → (status ≡ 2) ↔ (asked ≡ None)
  run_usage Holds w0 w1 i0 i1 no_usage None answer answers ends = (λ two. refl, λ none. ends_in_usage answer (nothing_is answers) ends)
    where
      nothing_is : top.RefusesUsageAskingNothing w0 w1 i0 i1 answer → answer ≡ Err refusals.Usage
      nothing_is nothing = nothing.usage

      ends_in_usage : (answer : Result (List ℕ) Refusal) → answer ≡ Err refusals.Usage → TopCallEnds s e s0 s1 e0 e1 usage answer status → status ≡ 2
      ends_in_usage answer is ends = ends_of_usage (subst (λ a. TopCallEnds s e s0 s1 e0 e1 usage a status) is ends)
  run_usage Holds w0 w1 i0 i1 no_usage (Some a) answer answers ends = (λ two. absurd (no_usage a answer answers (ends_in_two answer ends two)), λ none. absurd cc)

only_memory : (refusal : Refusal) → IsRefusalOfGenerating refusal → ¬ (refusal ≡ refusals.Interrupted) → refusal ≡ refusals.OutOfMemory
only_memory refusals.Interrupted of calm = absurd (calm refl)
only_memory refusals.Usage of calm = absurd of
only_memory (refusals.Setup line) of calm = absurd of
only_memory (refusals.Misread misread) of calm = absurd of
only_memory (refusals.Walk word p) of calm = absurd of
only_memory refusals.Fault of calm = absurd of
only_memory refusals.Output of calm = absurd of
only_memory refusals.OutOfMemory of calm = refl

module _ {W I : Type 0} (w : WorktreeOf W) (i : InterruptOf I) (w0 w1 : W) (i0 i1 : I) where
  -- a text is the one that is asked for
  pub text_asked-is : (command : Option Command) (text : List ℕ) → top.AnswersParsedCommand w i w0 w1 i0 i1 command (Ok text)
      → (t : Names) → w.told w0 ≡ Some t → CountNotIncreased (w.faults w0) (w.faults w1) → top.text_of_command (w.precomposes w0) t command ≡ Some text
  text_asked-is None text answers t told quiet = absurd (let is = answers.usage in cc)
  text_asked-is (Some (report places)) text answers t told quiet = answers.gives t told quiet
  text_asked-is (Some (generate n)) text answers t told quiet = text_is n _ _ text answers.gives

  -- a command is not refused for its words
  pub no_usage : (command : Command) (answer : Result (List ℕ) Refusal) → top.AnswersGivenCommand w i w0 w1 i0 i1 command answer → ¬ IsErrOf answer refusals.Usage
  no_usage (report places) answer answers is = answers.causes.no_usage is
  no_usage (generate n) answer answers is = subst (λ r. IfErr r IsRefusalOfGenerating) is answers.refused

  -- for what can be had, where nothing failed or was raised, only memory may be wanted
  pub wants_memory_alone : (command : Option Command) (answer : Result (List ℕ) Refusal) → top.AnswersParsedCommand w i w0 w1 i0 i1 command answer
      → (t : Names) → w.told w0 ≡ Some t → CountNotIncreased (w.faults w0) (w.faults w1) → CountNotIncreased (i.raised i0) (i.raised i1)
      → top.CanCommandBeAnswered (w.precomposes w0) t command → IfErr answer (λ refusal. refusal ≡ refusals.OutOfMemory)
  wants_memory_alone None answer answers t told quiet calm valid = absurd valid
  wants_memory_alone (Some (report places)) answer answers t told quiet calm valid = answers.causes.complete t told quiet calm valid
  wants_memory_alone (Some (generate n)) (Ok text) answers t told quiet calm valid = tt
  wants_memory_alone (Some (generate n)) (Err refusal) answers t told quiet calm valid =
      only_memory refusal answers.refused (λ is. omega (arith, answers.interrupted (ap Err is), calm))
