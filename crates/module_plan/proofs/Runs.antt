-- The parts of the top call, put together.
use Rattle.std.proofs.Common.{◌≡◌, ◌⊎◌, inl, inr, ◌+◌, ◌≤◌, ℕ, List, true, Option, Some, None, Result, Ok, Err, IfOk, IfErr, OnOk, IsErrOf, ap, refl, sym, ◌∙◌, subst, option_and_then, arith}
use Rattle.std.specs.Result.{result_ok}
use Rattle.worktree_fs.specs.declared.worktree.Worktree.{Ghosts as WorktreeOf}
use Rattle.worktree_fs.specs.Causes.{CountIncreasedOrSaturated, CountIncrementedOrSaturated, CountNotIncreased}
use Rattle.worktree_fs.specs.Kept.{KeepsTreeAndListCounts}
use Rattle.worktree_fs.specs.Tree.{Names, look}
use Rattle.worktree_report.specs.declared.known.Known.{Known}
use Rattle.worktree_report.specs.declared.modules.Modules.{Modules}
use Rattle.worktree_report.specs.declared.refusal.Misread.{Misread}
use Rattle.worktree_report.specs.declared.refusal.Refusal.{Refusal}
use Rattle.worktree_report.specs.declared.refusal.Refusal.TheVariants as refusals
use Rattle.worktree_report.specs.declared.setup.Setup.{Setup}
use Rattle.worktree_report.specs.Converted.{MayComeFromReadingSetup}
use Rattle.worktree_report.specs.Loading.{count_files_for_submodules, known_submodules_in_tree, modules_of_setup_in_tree, known_submodules_with_active_specs, AreModulesOfSomeText, IsKnownWithoutMisread}
use Rattle.worktree_report.specs.Loads.{ReadsFilesAtMost}
use Rattle.worktree_report.specs.Outside.{count_files_read_to_misread, IsMisreadOfSetup, StopsAtUnreadFile}
use Rattle.worktree_report.specs.Run.{RefusesSetupAtLine}
use Rattle.worktree_report.specs.SetupAt.{setup_of_file_looked_at}
use Rattle.worktree_report.specs.Words.{RootAndSetupPaths}
use Rattle.worktree_report.proofs.Runs.{Increased-before}
use Rattle.module_plan.specs.Run as top
use Rattle.module_plan.proofs.Loaded.{files-asking, known-loaded, known-misread, known-refused, outside-asking, outside-specs, reads-specs, stops-asking, which}

-- a fault of a part is one of the whole
pub planning-weaker : (Failed Broken : Type 0) → (Failed → Broken) → (refusal : Refusal) → top.MayComeFromPlanning Failed refusal → top.MayComeFromPlanning Broken refusal
planning-weaker Failed Broken weaker refusals.Interrupted of = of
planning-weaker Failed Broken weaker refusals.Usage of = of
planning-weaker Failed Broken weaker (refusals.Setup line) of = of
planning-weaker Failed Broken weaker (refusals.Misread misread) of = of
planning-weaker Failed Broken weaker (refusals.Walk word path) of = of
planning-weaker Failed Broken weaker refusals.Fault of = weaker of
planning-weaker Failed Broken weaker refusals.Output of = of
planning-weaker Failed Broken weaker refusals.OutOfMemory of = of

-- ---- the plan by a setup

module _ {W : Type 0} {w : WorktreeOf W} {w0 w1 : W} {root : List ℕ} {setup : Setup} where
  -- what tells of submodules was not read
  pub PlansText-unloaded : (refusal : Refusal)
      → ((t : Names) → w.told w0 ≡ Some t → (m : Misread) → IsErrOf {T = Modules} (Err refusal) (refusals.Misread m) → modules_of_setup_in_tree t root setup ≡ Err m)
      → ((m : Misread) → IsErrOf {T = Modules} (Err refusal) (refusals.Misread m) → IsMisreadOfSetup root setup m)
      → ((m : Misread) → IsErrOf {T = Modules} (Err refusal) (refusals.Misread m) → w.reads w1 ≤ w.reads w0 + count_files_read_to_misread setup m)
      → top.MayComeFromPlanning (CountIncreasedOrSaturated (w.faults w0) (w.faults w1)) refusal
      → ((t : Names) → w.told w0 ≡ Some t → IsErrOf {T = Modules} (Err refusal) refusals.Fault → StopsAtUnreadFile t setup (w.reads w0) (w.reads w1))
      → ReadsFilesAtMost w w0 w1 (count_files_for_submodules setup) → top.MakesPlanText w w0 w1 root setup (Err refusal)
  PlansText-unloaded refusal outside about files of stops loads =
      record {
        gives = λ t told. tt;
        safe = λ t told. tt;
        orderly = tt;
        misread = λ t told m is. known-misread t root setup m (outside t told m (ap Err (which is)));
        about = λ m is. record { asked = refl; outside = outside-asking root setup m (about m (ap Err (which is))) };
        misread_reads = λ m is. files m (ap Err (which is));
        refused = of;
        fault_late = λ is t told. inl (stops t told (ap Err (which is)));
        unfaulted = tt;
        reads = loads.reads;
        tree = loads.tree;
        faults = loads.faults;
        list_faults = loads.list_faults;
        lists = loads.lists;
        precomposes = loads.precomposes;
      }

text-loaded : (t : Names) (root : List ℕ) (setup : Setup) (modules : Modules) (answer : Result (List ℕ) Refusal) → modules_of_setup_in_tree t root setup ≡ Ok modules
    → IfOk answer (λ text. top.plan_text_of_modules t root setup.options.ignore_case modules ≡ Some text) → IfOk answer (λ text. top.plan_text_by_setup t root setup ≡ Some text)
text-loaded t root setup modules (Ok text) read is = ap (λ r. option_and_then (top.plan_text_of_modules t root setup.options.ignore_case) (result_ok r)) read ∙ is
text-loaded t root setup modules (Err refusal) read is = tt

safe-loaded : (t : Names) (root : List ℕ) (setup : Setup) (modules : Modules) (answer : Result (List ℕ) Refusal) → modules_of_setup_in_tree t root setup ≡ Ok modules
    → OnOk answer (top.HasSafeUnobstructedPlan t root setup.options.ignore_case modules) → OnOk answer (top.HasSafePlanBySetup t root setup)
safe-loaded t root setup modules (Ok text) read safe = record { modules = modules; read = read; safe = safe }
safe-loaded t root setup modules (Err refusal) read safe = tt

orderly-loaded : (told : Option Names) (root : List ℕ) (setup : Setup) (modules : Modules) (answer : Result (List ℕ) Refusal) → AreModulesOfSomeText root modules
    → IfOk answer (λ text. AreModulesOfSomeText root modules → top.IsTextOfSafePlan told root setup.options.ignore_case text) → IfOk answer (top.IsTextOfSafePlan told root setup.options.ignore_case)
orderly-loaded told root setup modules (Ok text) tells orderly = orderly tells
orderly-loaded told root setup modules (Err refusal) tells orderly = tt

refused-later : (answer : Result (List ℕ) Refusal) (Failed Broken : Type 0) → (Failed → Broken) → IfErr answer (top.MayComeFromPlanning Failed) → IfErr answer (top.MayComeFromPlanning Broken)
refused-later (Ok text) Failed Broken weaker of = tt
refused-later (Err refusal) Failed Broken weaker of = planning-weaker Failed Broken weaker refusal of

-- nothing failed before, nor after
unfaulted-later : (answer : Result (List ℕ) Refusal) (before middle now : ℕ) → middle ≡ before → OnOk answer (now ≡ middle) → OnOk answer (now ≡ before)
unfaulted-later (Ok text) before middle now first later = later ∙ first
unfaulted-later (Err refusal) before middle now first later = tt

module _ {W : Type 0} {w : WorktreeOf W} {w0 w1 w2 : W} {root : List ℕ} {setup : Setup} where
  -- the plan is made of what was read
  pub PlansText-loaded : (modules : Modules) (answer : Result (List ℕ) Refusal) → ((t : Names) → w.told w0 ≡ Some t → modules_of_setup_in_tree t root setup ≡ Ok modules) → ReadsFilesAtMost w w0 w1 (count_files_for_submodules setup)
      → ((t : Names) → w.told w1 ≡ Some t → IfOk answer (λ text. top.plan_text_of_modules t root setup.options.ignore_case modules ≡ Some text))
      → ((t : Names) → w.told w1 ≡ Some t → OnOk answer (top.HasSafeUnobstructedPlan t root setup.options.ignore_case modules))
      → AreModulesOfSomeText root modules → IfOk answer (λ text. AreModulesOfSomeText root modules → top.IsTextOfSafePlan (w.told w1) root setup.options.ignore_case text)
      → ((m : Misread) → IsErrOf answer (refusals.Misread m) → known_submodules_with_active_specs setup.options.ignore_case modules ≡ Err m)
      → IfErr answer (top.MayComeFromPlanning (CountIncreasedOrSaturated (w.faults w1) (w.faults w2)))
      → (IsErrOf answer refusals.Fault → IsKnownWithoutMisread (known_submodules_with_active_specs setup.options.ignore_case modules)) → KeepsTreeAndListCounts w w1 w2 → w.reads w2 ≡ w.reads w1
      → w.faults w1 ≡ w.faults w0 → OnOk answer (w.faults w2 ≡ w.faults w1) → top.MakesPlanText w w0 w2 root setup answer
  PlansText-loaded modules answer read loads gives safe tells orderly outside of late asks unread unfaulted later =
      record {
        gives = λ t told. text-loaded t root setup modules answer (read t told) (gives t (loads.tree ∙ told));
        safe = λ t told. safe-loaded t root setup modules answer (read t told) (safe t (loads.tree ∙ told));
        orderly =
            subst (λ (told : Option Names). IfOk answer (top.IsTextOfSafePlan told root setup.options.ignore_case)) loads.tree
            (orderly-loaded (w.told w1) root setup modules answer tells orderly);
        misread = λ t told m is. known-refused t root setup modules m (read t told) (outside m is);
        about = λ m is. record { asked = refl; outside = outside-specs root setup modules m (outside m is) };
        misread_reads = λ m is. reads-specs setup modules m (w.reads w0) (w.reads w2) (outside m is) (omega (arith, loads.reads, unread));
        refused = refused-later answer _ _ (Increased-before _ _ _ loads.faults) of;
        fault_late = λ is t told. inr (known-loaded t root setup modules (read t told) (late is));
        unfaulted = unfaulted-later answer _ _ _ unfaulted later;
        reads = omega (arith, loads.reads, unread);
        tree = asks.tree ∙ loads.tree;
        faults = omega (arith, loads.faults, asks.faults);
        list_faults = asks.list_faults ∙ loads.list_faults;
        lists = asks.lists ∙ loads.lists;
        precomposes = asks.precomposes ∙ loads.precomposes;
      }

-- ---- the plan at some places

is_read : {a : Setup} {line : ℕ} → Ok a ≡ Err line → ⊥
is_read e = absurd cc

is_known : {known : Option Known} {m : Misread} → Ok known ≡ Err m → ⊥
is_known e = absurd cc

same_setup : {a b : Setup} (r : Result Setup ℕ) → r ≡ Ok a → r ≡ Ok b → a ≡ b
same_setup r e f = cc

call-read : (Failed : Type 0) (refusal : Refusal) → MayComeFromReadingSetup refusal → (refusal ≡ refusals.Fault → Failed) → top.MayComeFromModulesCommand Failed refusal
call-read Failed refusals.Interrupted of fault = of
call-read Failed refusals.Usage of fault = of
call-read Failed (refusals.Setup line) of fault = tt
call-read Failed (refusals.Misread m) of fault = tt
call-read Failed (refusals.Walk word path) of fault = of
call-read Failed refusals.Fault of fault = fault refl
call-read Failed refusals.Output of fault = of
call-read Failed refusals.OutOfMemory of fault = tt

call-planned : (Failed Broken : Type 0) → (Failed → Broken) → (answer : Result (List ℕ) Refusal) → IfErr answer (top.MayComeFromPlanning Failed) → IfErr answer (top.MayComeFromModulesCommand Broken)
call-planned Failed Broken weaker (Ok text) of = tt
call-planned Failed Broken weaker (Err refusals.Interrupted) of = of
call-planned Failed Broken weaker (Err refusals.Usage) of = of
call-planned Failed Broken weaker (Err (refusals.Setup line)) of = tt
call-planned Failed Broken weaker (Err (refusals.Misread m)) of = tt
call-planned Failed Broken weaker (Err (refusals.Walk word path)) of = of
call-planned Failed Broken weaker (Err refusals.Fault) of = weaker of
call-planned Failed Broken weaker (Err refusals.Output) of = of
call-planned Failed Broken weaker (Err refusals.OutOfMemory) of = tt

output-is : (t : Names) (places : RootAndSetupPaths) (setup : Setup) (text : List ℕ) → setup_of_file_looked_at (look t places.setup true) ≡ Ok setup → top.plan_text_by_setup t places.root setup ≡ Some text → top.read_setup_and_make_plan_text t places ≡ Some text
unfolding top.read_setup_and_make_plan_text
output-is t places setup text read is = rw read is

output-planned : (t : Names) (places : RootAndSetupPaths) (setup : Setup) (answer : Result (List ℕ) Refusal) → setup_of_file_looked_at (look t places.setup true) ≡ Ok setup
    → IfOk answer (λ text. top.plan_text_by_setup t places.root setup ≡ Some text) → IfOk answer (λ text. top.read_setup_and_make_plan_text t places ≡ Some text)
output-planned t places setup (Ok text) read is = output-is t places setup text read is
output-planned t places setup (Err refusal) read is = tt

safe-planned : (t : Names) (places : RootAndSetupPaths) (setup : Setup) (answer : Result (List ℕ) Refusal) → setup_of_file_looked_at (look t places.setup true) ≡ Ok setup
    → OnOk answer (top.HasSafePlanBySetup t places.root setup) → OnOk answer (top.HasSafePlanBySetupFile t places)
safe-planned t places setup (Ok text) read safe = record { setup = setup; read = read; safe = safe }
safe-planned t places setup (Err refusal) read safe = tt

orderly-planned : (told told_now : Option Names) (places : RootAndSetupPaths) (setup : Setup) (answer : Result (List ℕ) Refusal)
    → ((t : Names) → told ≡ Some t → setup_of_file_looked_at (look t places.setup true) ≡ Ok setup) → told_now ≡ told
    → IfOk answer (top.IsTextOfSafePlan told_now places.root setup.options.ignore_case) → IfOk answer (top.IsSafePlanTextBySetup told places)
orderly-planned told told_now places setup (Ok text) read same is =
    record { setup = setup; read = read; is = subst (λ (x : Option Names). top.IsTextOfSafePlan x places.root setup.options.ignore_case text) same is }
orderly-planned told told_now places setup (Err refusal) read same is = tt

module _ {W : Type 0} (w : WorktreeOf W) (w0 w1 : W) (places : RootAndSetupPaths) where
  no_setup : (refusal : Refusal) → MayComeFromReadingSetup refusal
      → ((t : Names) → w.told w0 ≡ Some t → (line : ℕ) → refusal ≡ refusals.Setup line → RefusesSetupAtLine t places line)
      → (refusal ≡ refusals.Fault → CountIncreasedOrSaturated (w.faults w0) (w.faults w1))
      → (t : Names) → w.told w0 ≡ Some t → CountNotIncreased (w.faults w0) (w.faults w1) → top.AreSetupAndModulesReadable t places → refusal ≡ refusals.OutOfMemory
  no_setup refusals.Interrupted of outside fault t told quiet ready = absurd of
  no_setup refusals.Usage of outside fault t told quiet ready = absurd of
  no_setup (refusals.Setup line) of outside fault t told quiet ready = absurd (is_read (sym ready.read ∙ outside t told line refl))
  no_setup (refusals.Misread m) of outside fault t told quiet ready = absurd of
  no_setup (refusals.Walk word path) of outside fault t told quiet ready = absurd of
  no_setup refusals.Fault of outside fault t told quiet ready = absurd (omega (arith, fault refl, quiet))
  no_setup refusals.Output of outside fault t told quiet ready = absurd of
  no_setup refusals.OutOfMemory of outside fault t told quiet ready = refl

module _ {W : Type 0} {w : WorktreeOf W} {w0 w1 : W} {places : RootAndSetupPaths} where
  -- the setup is not read
  pub AnswersPlan-unread : (refusal : Refusal) → MayComeFromReadingSetup refusal
      → ((t : Names) → w.told w0 ≡ Some t → (line : ℕ) → refusal ≡ refusals.Setup line → RefusesSetupAtLine t places line)
      → (refusal ≡ refusals.Fault → CountIncreasedOrSaturated (w.faults w0) (w.faults w1))
      → CountIncrementedOrSaturated (w.reads w0) (w.reads w1)
      → w.told w1 ≡ w.told w0 → w.faults w0 ≤ w.faults w1 → w.list_faults w1 ≡ w.list_faults w0 → w.lists w1 ≡ w.lists w0 → w.precomposes w1 ≡ w.precomposes w0
      → top.AnswersPlanAtPlaces w w0 w1 places (Err refusal)
  AnswersPlan-unread refusal of outside fault once tree faults list_faults lists composes =
      record {
        gives = λ t told. tt;
        safe = λ t told. tt;
        orderly = tt;
        refused = call-read _ refusal of fault;
        fault_late = λ is t told. inl (omega (arith, once));
        unfaulted = tt;
        reads = λ t told. inl (omega (arith, once));
        setup = λ t told line is. outside t told line (which is);
        misread = λ t told m is. absurd (subst MayComeFromReadingSetup (which is) of);
        misread_about = λ m is. absurd (subst MayComeFromReadingSetup (which is) of);
        setup_reads = λ line is. omega (arith, once);
        misread_reads = λ m is. absurd (subst MayComeFromReadingSetup (which is) of);
        complete = λ t told quiet ready. no_setup w w0 w1 places refusal of outside fault t told quiet ready;
        tree = tree;
        faults = faults;
        list_faults = list_faults;
        lists = lists;
        precomposes = composes;
      }

on-time : (t : Names) (places : RootAndSetupPaths) (setup : Setup) (reads0 reads1 reads2 : ℕ) → setup_of_file_looked_at (look t places.setup true) ≡ Ok setup → CountIncrementedOrSaturated reads0 reads1
    → StopsAtUnreadFile t setup reads1 reads2 ⊎ IsKnownWithoutMisread (known_submodules_in_tree t places.root (top.setup_with_submodules_option setup)) → top.FailsReadingInOrder t places reads0 reads2
on-time t places setup reads0 reads1 reads2 read once (inl stops) =
    inr (inl (record { setup = setup; read = read; asked = refl; stops = stops-asking t setup _ _ (subst (λ (n : ℕ). StopsAtUnreadFile t setup n reads2) once stops) }))
on-time t places setup reads0 reads1 reads2 read once (inr known) = inr (inr (record { setup = setup; read = read; known = known }))

module _ {W : Type 0} {w : WorktreeOf W} {w0 w1 w2 : W} {places : RootAndSetupPaths} (setup : Setup) (read : (t : Names) → w.told w0 ≡ Some t → setup_of_file_looked_at (look t places.setup true) ≡ Ok setup)
    (tree : w.told w1 ≡ w.told w0) (faults : w.faults w0 ≤ w.faults w1) (once : CountIncrementedOrSaturated (w.reads w0) (w.reads w1)) where
  no_plan : (answer : Result (List ℕ) Refusal) → top.MakesPlanText w w1 w2 places.root setup answer
      → (t : Names) → w.told w0 ≡ Some t → CountNotIncreased (w.faults w0) (w.faults w2) → top.AreSetupAndModulesReadable t places → IfErr answer (λ refusal. refusal ≡ refusals.OutOfMemory)
  no_plan (Ok text) plans t told quiet ready = tt
  no_plan (Err refusals.Interrupted) plans t told quiet ready = absurd plans.refused
  no_plan (Err refusals.Usage) plans t told quiet ready = absurd plans.refused
  no_plan (Err (refusals.Setup line)) plans t told quiet ready = absurd plans.refused
  no_plan (Err (refusals.Misread m)) plans t told quiet ready =
      absurd (is_known (sym (subst (λ (s : Setup). known_submodules_in_tree t places.root (top.setup_with_submodules_option s) ≡ Ok ready.known) (same_setup _ ready.read (read t told)) ready.known_is) ∙ plans.misread t (tree ∙ told) m refl))
  no_plan (Err (refusals.Walk word path)) plans t told quiet ready = absurd plans.refused
  no_plan (Err refusals.Fault) plans t told quiet ready = absurd (omega (arith, faults, plans.refused, quiet))
  no_plan (Err refusals.Output) plans t told quiet ready = absurd plans.refused
  no_plan (Err refusals.OutOfMemory) plans t told quiet ready = refl

  -- the plan is made by the setup that was read
  pub AnswersPlan-planned : (answer : Result (List ℕ) Refusal) → w.faults w1 ≡ w.faults w0 → w.list_faults w1 ≡ w.list_faults w0 → w.lists w1 ≡ w.lists w0 → w.precomposes w1 ≡ w.precomposes w0
      → top.MakesPlanText w w1 w2 places.root setup answer → top.AnswersPlanAtPlaces w w0 w2 places answer
  AnswersPlan-planned answer unfaulted list_faults lists composes plans =
      record {
        gives = λ t told. output-planned t places setup answer (read t told) (plans.gives t (tree ∙ told));
        safe = λ t told. safe-planned t places setup answer (read t told) (plans.safe t (tree ∙ told));
        orderly = orderly-planned (w.told w0) (w.told w1) places setup answer read tree plans.orderly;
        refused = call-planned _ _ (Increased-before _ _ _ faults) answer plans.refused;
        fault_late = λ is t told. on-time t places setup _ _ _ (read t told) once (plans.fault_late is t (tree ∙ told));
        unfaulted = unfaulted-later answer _ _ _ unfaulted plans.unfaulted;
        reads = λ t told. inr (setup, read t told, subst (λ (n : ℕ). w.reads w2 ≤ n + count_files_for_submodules setup) once plans.reads);
        setup = λ t told line is. absurd (subst (λ r. IfErr r (top.MayComeFromPlanning (CountIncreasedOrSaturated (w.faults w1) (w.faults w2)))) is plans.refused);
        misread = λ t told m is. record { setup = setup; read = read t told; misread = plans.misread t (tree ∙ told) m is };
        misread_about = λ m is. record { setup = setup; read = read; about = plans.about m is };
        setup_reads = λ line is. absurd (subst (λ r. IfErr r (top.MayComeFromPlanning (CountIncreasedOrSaturated (w.faults w1) (w.faults w2)))) is plans.refused);
        misread_reads = λ m is.
            record {
              setup = setup;
              read = read;
              reads = subst (λ (n : ℕ). w.reads w2 ≤ n + count_files_read_to_misread (top.setup_with_submodules_option setup) m) once
                  (subst (λ (n : ℕ). w.reads w2 ≤ w.reads w1 + n) (files-asking setup m) (plans.misread_reads m is));
            };
        complete = λ t told quiet ready. no_plan answer plans t told quiet ready;
        tree = plans.tree ∙ tree;
        faults = omega (arith, faults, plans.faults);
        list_faults = plans.list_faults ∙ list_faults;
        lists = plans.lists ∙ lists;
        precomposes = plans.precomposes ∙ composes;
      }

-- ---- what follows from the status

module _ {W : Type 0} (w : WorktreeOf W) (w0 w1 : W) where
  -- a text is the one that is asked for
  pub text_asked-is : (asked : Option RootAndSetupPaths) (text : List ℕ) → top.AnswersPlanCommand w w0 w1 asked (Ok text)
      → (t : Names) → w.told w0 ≡ Some t → option_and_then (top.read_setup_and_make_plan_text t) asked ≡ Some text
  text_asked-is None text answers t told = absurd (let is = answers.usage in cc)
  text_asked-is (Some places) text answers t told = answers.gives t told

  -- and no fault was counted
  pub text_asked-unfaulted : (asked : Option RootAndSetupPaths) (text : List ℕ) → top.AnswersPlanCommand w w0 w1 asked (Ok text) → w.faults w1 ≡ w.faults w0
  text_asked-unfaulted None text answers = absurd (let is = answers.usage in cc)
  text_asked-unfaulted (Some places) text answers = answers.unfaulted

  -- a plan is not refused for its words
  pub no_usage : (places : RootAndSetupPaths) (answer : Result (List ℕ) Refusal) → top.AnswersPlanAtPlaces w w0 w1 places answer → ¬ IsErrOf answer refusals.Usage
  no_usage places answer answers is = subst (λ r. IfErr r (top.MayComeFromModulesCommand (CountIncreasedOrSaturated (w.faults w0) (w.faults w1)))) is answers.refused

  -- for what can be had, where nothing failed, only memory may be wanted
  pub wants_memory_alone : (asked : Option RootAndSetupPaths) (answer : Result (List ℕ) Refusal) → top.AnswersPlanCommand w w0 w1 asked answer
      → (t : Names) → w.told w0 ≡ Some t → CountNotIncreased (w.faults w0) (w.faults w1) → top.CanPlanBeAnswered t asked → IfErr answer (λ refusal. refusal ≡ refusals.OutOfMemory)
  wants_memory_alone None answer answers t told quiet valid = absurd valid
  wants_memory_alone (Some places) answer answers t told quiet valid = answers.complete t told quiet valid
