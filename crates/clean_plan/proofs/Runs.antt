-- The parts of the top call, put together.
use Rattle.std.proofs.Common.{◌≡◌, ◌≤◌, ℕ, List, Bool, true, Option, Some, None, Result, Ok, Err, IfOk, IfErr, OnOk, IsErrOf, refl, ◌∙◌, subst, arith}
use Rattle.worktree_fs.specs.declared.interrupt.Interrupt.{Ghosts as InterruptOf}
use Rattle.worktree_fs.specs.declared.worktree.Worktree.{Ghosts as WorktreeOf}
use Rattle.worktree_fs.specs.Causes.{CountIncreasedOrSaturated, CountIncrementedOrSaturated, CountNotIncreased}
use Rattle.worktree_fs.specs.Tree.{Names, look}
use Rattle.worktree_report.specs.declared.refusal.Refusal.{Refusal}
use Rattle.worktree_report.specs.declared.refusal.Refusal.TheVariants as refusals
use Rattle.worktree_report.specs.declared.setup.Setup.{Setup}
use Rattle.worktree_report.specs.declared.setup.SetupOptions.{SetupOptions}
use Rattle.worktree_report.specs.Converted.{MayComeFromReadingSetup}
use Rattle.worktree_report.specs.Asked.{AsksAndReadsForReport}
use Rattle.worktree_report.specs.Run.{RefusesSetupAtLine}
use Rattle.worktree_report.specs.SetupAt.{setup_of_file_looked_at}
use Rattle.clean_plan.specs.declared.what.Wanted.{Wanted}
use Rattle.clean_plan.specs.Words.{Request}
use Rattle.worktree_report.proofs.Refusing.{InOrder-made, InOrder-unread}
use Rattle.worktree_report.proofs.Runs.{HasCauses-refused, HasCauses-unread, Keeps-made, Keeps-unread, lists-walked, opens-walked}
use Rattle.clean_plan.specs.Prepared.{options_prepared_for_plan}
use Rattle.clean_plan.specs.Safe.{IsPathOutsideGitAndIndex}
use Rattle.clean_plan.specs.Wanted.{allowing_special_and_spec_excluded}
use Rattle.clean_plan.specs.Run as top

-- ---- the text of a request

output-made : (composes : Bool) (t : Names) (request : Request) (setup : Setup) (answer : Result (List ℕ) Refusal) → setup_of_file_looked_at (look t request.places.setup true) ≡ Ok setup
    → IfOk answer (top.IsPlanTextBySetup composes t request.places.root (top.setup_prepared_for_plan request.finding setup) (allowing_special_and_spec_excluded request.what)) → IfOk answer (top.IsPlanTextOfRequest composes t request)
output-made composes t request setup (Ok text) read is = record { setup = setup; read = read; text_is = is }
output-made composes t request setup (Err refusal) read is = tt

by-report-made : (composes : Bool) (told : Option Names) (request : Request) (setup : Setup) (answer : Result (List ℕ) Refusal)
    → ((t : Names) → told ≡ Some t → setup_of_file_looked_at (look t request.places.setup true) ≡ Ok setup)
    → IfOk answer (top.IsPlanTextBySomeReport composes told request.places.root (top.setup_prepared_for_plan request.finding setup) (allowing_special_and_spec_excluded request.what)) → IfOk answer (top.IsRequestTextBySomeReport composes told request)
by-report-made composes told request setup (Ok text) read is = record { setup = setup; read = read; text_is = is }
by-report-made composes told request setup (Err refusal) read is = tt

outside-git : (composes : Bool) (told : Option Names) (root : List ℕ) (setup : Setup) (wanted : Wanted) (answer : Result (List ℕ) Refusal)
    → IfOk answer (top.IsPlanTextBySomeReport composes told root setup wanted) → IfOk answer top.IsTextOfPathsOutsideDotGit
outside-git composes told root setup wanted (Ok text) is =
    record {
      paths = is.plan.paths.items;
      ascends = is.spared.ascends;
      each = λ path among. let one : IsPathOutsideGitAndIndex setup.options.ignore_case setup.index path = is.spared.each path among in record { below = one.below; no_git = one.no_git };
      text_is = is.text_is;
    }
outside-git composes told root setup wanted (Err refusal) is = tt

-- what the plan takes is what is asked for, with the setup
works-made : (composes : Bool) (t : Names) (request : Request) (setup : Setup) (answer : Result (List ℕ) Refusal) (questions0 questions1 reads0 reads reads1 : ℕ)
    → setup_of_file_looked_at (look t request.places.setup true) ≡ Ok setup → CountIncrementedOrSaturated reads0 reads
    → OnOk answer (AsksAndReadsForReport composes t request.places.root (top.setup_prepared_for_plan request.finding setup) questions0 questions1 reads reads1)
    → OnOk answer (top.CountsPlanQuestionsAndReads composes t questions0 questions1 reads0 reads1 request)
works-made composes t request setup (Ok text) questions0 questions1 reads0 reads reads1 read once works =
    record {
      setup = setup;
      read = read;
      works = subst (λ (n : ℕ). AsksAndReadsForReport composes t request.places.root (top.setup_prepared_for_plan request.finding setup) questions0 questions1 n reads1) once works;
    }
works-made composes t request setup (Err refusal) questions0 questions1 reads0 reads reads1 read once works = tt

module _ {W I : Type 0} {w : WorktreeOf W} {i : InterruptOf I} {w0 w1 : W} {i0 : I} {request : Request} where
  -- the setup is not read
  pub AnswersClean-unread : (refusal : Refusal) → MayComeFromReadingSetup refusal
      → ((t : Names) → w.told w0 ≡ Some t → (line : ℕ) → refusal ≡ refusals.Setup line → RefusesSetupAtLine t request.places line)
      → (refusal ≡ refusals.Fault → CountIncreasedOrSaturated (w.faults w0) (w.faults w1))
      → w.told w1 ≡ w.told w0 → w.faults w0 ≤ w.faults w1 → w.list_faults w1 ≡ w.list_faults w0 → CountIncrementedOrSaturated (w.reads w0) (w.reads w1) → w.lists w1 ≡ w.lists w0
      → w.precomposes w1 ≡ w.precomposes w0 → top.AnswersCleanRequest w i w0 w1 i0 i0 request (Err refusal)
  AnswersClean-unread refusal of outside fault tree faults listed once lists composes =
      record {
        gives = λ t told. tt;
        unfaulted = tt;
        by_report = tt;
        outside_git = tt;
        works = λ t told. tt;
        opens = λ t told. tt;
        lists = λ t told setup read at_once. omega (arith, lists);
        causes = HasCauses-unread w i w0 w1 i0 i0 (top.setup_prepared_for_plan request.finding) request.places refusal of outside fault once lists refl;
        in_order = InOrder-unread refusal _ of tree faults listed once lists composes;
        keeps = Keeps-unread refusal tree faults listed lists composes;
      }

module _ {W I : Type 0} {w : WorktreeOf W} {i : InterruptOf I} {w0 w1 w2 : W} {i0 i1 : I} {request : Request} where
  -- the plan is made by the setup that was read, prepared
  pub AnswersClean-made : (setup : Setup) (options : SetupOptions) (answer : Result (List ℕ) Refusal) → options ≡ options_prepared_for_plan request.finding setup.options
      → ((t : Names) → w.told w0 ≡ Some t → setup_of_file_looked_at (look t request.places.setup true) ≡ Ok setup)
      → w.told w1 ≡ w.told w0 → w.faults w0 ≤ w.faults w1 → w.faults w1 ≡ w.faults w0 → w.list_faults w1 ≡ w.list_faults w0 → CountIncrementedOrSaturated (w.reads w0) (w.reads w1) → w.lists w1 ≡ w.lists w0
      → w.precomposes w1 ≡ w.precomposes w0 → top.AnswersPlanTextOrRefusal w i (w.precomposes w1) w1 w2 i0 i1 request.places.root (record setup { options = options }) (allowing_special_and_spec_excluded request.what) answer
      → top.AnswersCleanRequest w i w0 w2 i0 i1 request answer
  AnswersClean-made setup options answer set read tree faults unfaulted listed once lists composes told_of =
      let same : top.AnswersPlanTextOrRefusal w i (w.precomposes w1) w1 w2 i0 i1 request.places.root (top.setup_prepared_for_plan request.finding setup) (allowing_special_and_spec_excluded request.what) answer =
      subst (λ (o : SetupOptions). top.AnswersPlanTextOrRefusal w i (w.precomposes w1) w1 w2 i0 i1 request.places.root (record setup { options = o }) (allowing_special_and_spec_excluded request.what) answer) set told_of in
      let texts : top.AnswersPlanTextOrRefusal w i (w.precomposes w0) w1 w2 i0 i1 request.places.root (top.setup_prepared_for_plan request.finding setup) (allowing_special_and_spec_excluded request.what) answer =
      subst (λ b. top.AnswersPlanTextOrRefusal w i b w1 w2 i0 i1 request.places.root (top.setup_prepared_for_plan request.finding setup) (allowing_special_and_spec_excluded request.what) answer) composes same in
      record {
        gives = λ t told. output-made _ t request setup answer (read t told) (texts.gives t (tree ∙ told));
        unfaulted = subst (λ (n : ℕ). OnOk answer (CountNotIncreased n (w.faults w2))) unfaulted texts.unfaulted;
        by_report = by-report-made _ _ request setup answer read (subst (λ (told : Option Names). IfOk answer (top.IsPlanTextBySomeReport (w.precomposes w0) told request.places.root (top.setup_prepared_for_plan request.finding setup) (allowing_special_and_spec_excluded request.what))) tree texts.by_report);
        outside_git = outside-git _ _ _ (top.setup_prepared_for_plan request.finding setup) _ answer texts.by_report;
        works = λ t told. works-made _ t request setup answer _ _ _ _ _ (read t told) once (texts.works t (tree ∙ told));
        opens = λ t told. opens-walked (top.setup_prepared_for_plan request.finding) _ t request.places setup answer _ _ _ (read t told) lists (texts.opens t (tree ∙ told));
        lists = λ t told. lists-walked t request.places setup _ _ _ (read t told) lists texts.lists;
        causes = HasCauses-refused w i w0 w1 w2 i0 i1 (top.setup_prepared_for_plan request.finding) request.places setup 0 answer read tree faults once lists texts.refused;
        in_order = InOrder-made w w0 w1 w2 i0 i1 request.places setup answer _ read tree faults unfaulted listed once lists composes texts;
        keeps = Keeps-made answer tree faults listed lists composes texts.worktree texts.interrupt texts.listed texts.calm;
      }

-- ---- what follows from the status

module _ {W I : Type 0} (w : WorktreeOf W) (i : InterruptOf I) (w0 w1 : W) (i0 i1 : I) where
  -- a text is the one that is asked for
  pub text_asked-is : (asked : Option Request) (text : List ℕ) → top.AnswersOptionalCleanRequest w i w0 w1 i0 i1 asked (Ok text)
      → (t : Names) → w.told w0 ≡ Some t → top.IsTextOfOptionalRequest (w.precomposes w0) t asked text
  text_asked-is None text answers t told = absurd (let is = answers.usage in cc)
  text_asked-is (Some request) text answers t told = answers.gives t told

  -- and no fault was counted
  pub text_asked-unfaulted : (asked : Option Request) (text : List ℕ) → top.AnswersOptionalCleanRequest w i w0 w1 i0 i1 asked (Ok text)
      → (w.faults w1 ≡ w.faults w0) × CountNotIncreased (w.faults w0) (w.faults w1)
  text_asked-unfaulted None text answers = absurd (let is = answers.usage in cc)
  text_asked-unfaulted (Some request) text answers = let quiet = answers.unfaulted in let faults = answers.keeps.faults in (omega (arith, quiet, faults), quiet)

  -- a request is not refused for its words
  pub no_usage : (request : Request) (answer : Result (List ℕ) Refusal) → top.AnswersCleanRequest w i w0 w1 i0 i1 request answer → ¬ IsErrOf answer refusals.Usage
  no_usage request answer answers = answers.causes.no_usage

  -- for what can be had, where nothing failed or was raised, only memory may be wanted
  pub wants_memory_alone : (asked : Option Request) (answer : Result (List ℕ) Refusal) → top.AnswersOptionalCleanRequest w i w0 w1 i0 i1 asked answer
      → (t : Names) → w.told w0 ≡ Some t → CountNotIncreased (w.faults w0) (w.faults w1) → CountNotIncreased (i.raised i0) (i.raised i1) → top.IsTreeReadyForRequest (w.precomposes w0) t asked
      → IfErr answer (λ refusal. refusal ≡ refusals.OutOfMemory)
  wants_memory_alone None answer answers t told quiet calm valid = absurd valid
  wants_memory_alone (Some request) answer answers t told quiet calm valid = answers.causes.complete t told quiet calm valid
