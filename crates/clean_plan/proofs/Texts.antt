-- The text of a plan, or the refusal of the program that stands for that of a plan.
use Rattle.std.proofs.Common.{◌≡◌, ℕ, ◌≤◌, ◌+◌, List, inl, inr, Result, Ok, Err, IsErrOf, Option, Some, ap, refl, sym, ◌∙◌, subst, arith}
use Rattle.gitbase_core.specs.declared.find.Find.{Ghosts as FindOf}
use Rattle.worktree_fs.specs.declared.interrupt.Interrupt.{Ghosts as InterruptOf}
use Rattle.worktree_fs.specs.declared.worktree.Worktree.{Ghosts as WorktreeOf}
use Rattle.worktree_fs.specs.Causes.{CountIncreasedOrSaturated, CountNotIncreased}
use Rattle.worktree_fs.specs.Tree.{Names}
use Rattle.dir_walk.specs.declared.strategy.Strategy.{Strategy}
use Rattle.dir_walk.specs.declared.strategy.Strategy.TheVariants.{AtOnce}
use Rattle.dir_walk.specs.Opens.{CountsListingsByStrategy}
use Rattle.worktree_report.specs.declared.refusal.Refusal.{Refusal}
use Rattle.worktree_report.specs.declared.refusal.Refusal.TheVariants as refusals
use Rattle.worktree_report.specs.declared.setup.Setup.{Setup}
use Rattle.worktree_report.specs.declared.error.ReportError.{ReportError}
use Rattle.worktree_report.specs.declared.error.ReportError.TheVariants as reports
use Rattle.worktree_report.specs.declared.report.Report.{Report}
use Rattle.worktree_report.specs.Asked.{sources_of_tree_and_setup, ListsDirectoriesOfReport, AsksAndReadsForReport}
use Rattle.worktree_report.specs.Behind.{MakesReportTextFirst, RefusesTextWithCause}
use Rattle.worktree_report.specs.Converted as converted
use Rattle.worktree_report.specs.Lines.{text_of_report}
use Rattle.worktree_report.specs.Reported.{MakesReportBySetup, MakesTextBySetup}
use Rattle.worktree_report.proofs.Answered.{told-blobs, Texts-ok, Texts-refused}
use Rattle.worktree_report.proofs.Refusing.{FailsMeanwhile-behind, MakesFirst-is}
use Rattle.clean_plan.specs.declared.error.CleanError.{CleanError}
use Rattle.clean_plan.specs.declared.error.CleanError.TheVariants as errors
use Rattle.clean_plan.specs.declared.outcome.Plan.{Plan}
use Rattle.clean_plan.specs.declared.what.Wanted.{Wanted}
use Rattle.clean_plan.specs.Planned.{PlansOrRefusesAfterReport, IsPlanByReport, MakesReportAndPlan}
use Rattle.clean_plan.specs.Refusals.{clean_error_of_report_error}
use Rattle.clean_plan.specs.Run as top

module _ {W F I : Type 0} {w : WorktreeOf W} {f : FindOf F} {i : InterruptOf I} {w0 : W} {o0 o1 : F} {i0 i1 : I} {root : List ℕ} {setup : Setup} where
  -- the text is that of a plan by the report that was made
  by-report : (wanted : Wanted) (made : Result Report ReportError) (between w1 : W) (plan : Plan) (text : List ℕ) → MakesReportBySetup w f i w0 between o0 o1 i0 i1 root setup made
      → PlansOrRefusesAfterReport w between w1 root setup wanted made (Ok plan) → text ≡ top.lines_of_plan_paths plan.paths.items
      → top.IsPlanTextBySomeReport (w.precomposes w0) (w.told w0) root setup wanted text
  by-report wanted (Ok r) between w1 plan text reported ends lines =
      record {
        report = r;
        orderly = reported.orderly;
        plan = plan;
        plan_is = subst (λ (told : Option Names). IsPlanByReport told root setup wanted r plan) reported.worktree.tree ends.by_report;
        spared = ends.spares;
        text_is = lines;
      }
  by-report wanted (Err e) between w1 plan text reported ends lines = absurd (let is = ends.0 in cc)

-- what did not rise later on did not rise before
quiet_before : (before middle now : ℕ) → middle ≤ now → CountNotIncreased before now → CountNotIncreased before middle
quiet_before before middle now later quiet = omega arith

module _ {W F I : Type 0} {w : WorktreeOf W} {f : FindOf F} {i : InterruptOf I} {w0 : W} {o0 o1 : F} {i0 i1 : I} {root : List ℕ} {setup : Setup} where
  -- a plan takes what its report takes
  works-by : (wanted : Wanted) (made : Result Report ReportError) (between w1 : W) (plan : Plan) → MakesReportBySetup w f i w0 between o0 o1 i0 i1 root setup made
      → PlansOrRefusesAfterReport w between w1 root setup wanted made (Ok plan) → f.holds o0 ≡ Some setup.blobs → (t : Names) → w.told w0 ≡ Some t → CountNotIncreased (w.faults w0) (w.faults w1)
      → AsksAndReadsForReport (w.precomposes w0) t root setup (i.questions i0) (i.questions i1) (w.reads w0) (w.reads w1)
  works-by wanted (Ok r) between w1 plan reported ends held t told quiet =
      let texts : MakesTextBySetup w i (w.precomposes w0) w0 between i0 i1 root setup (Ok (text_of_report setup.options r)) = Texts-ok r (text_of_report setup.options r) reported held refl in
      subst (λ (n : ℕ). AsksAndReadsForReport (w.precomposes w0) t root setup (i.questions i0) (i.questions i1) (w.reads w0) n) (sym ends.reads)
      (texts.works t told (quiet_before _ _ _ ends.asks.faults quiet))
  works-by wanted (Err e) between w1 plan reported ends held t told quiet = absurd (let is = ends.0 in cc)

  -- and lists what it lists
  opens-by : (wanted : Wanted) (made : Result Report ReportError) (between w1 : W) (plan : Plan) → MakesReportBySetup w f i w0 between o0 o1 i0 i1 root setup made
      → PlansOrRefusesAfterReport w between w1 root setup wanted made (Ok plan) → f.holds o0 ≡ Some setup.blobs → (t : Names) → w.told w0 ≡ Some t → CountNotIncreased (w.faults w0) (w.faults w1)
      → ListsDirectoriesOfReport (w.precomposes w0) t root setup (w.lists w0) (w.lists w1)
  opens-by wanted (Ok r) between w1 plan reported ends held t told quiet =
      let texts : MakesTextBySetup w i (w.precomposes w0) w0 between i0 i1 root setup (Ok (text_of_report setup.options r)) = Texts-ok r (text_of_report setup.options r) reported held refl in
      subst (λ (n : ℕ). ListsDirectoriesOfReport (w.precomposes w0) t root setup (w.lists w0) n) (sym ends.asks.lists) (texts.opens t told (quiet_before _ _ _ ends.asks.faults quiet))
  opens-by wanted (Err e) between w1 plan reported ends held t told quiet = absurd (let is = ends.0 in cc)

  -- the report comes first
  first-by : (wanted : Wanted) (made : Result Report ReportError) (between w1 : W) (plan : Plan) → MakesReportBySetup w f i w0 between o0 o1 i0 i1 root setup made
      → PlansOrRefusesAfterReport w between w1 root setup wanted made (Ok plan) → f.holds o0 ≡ Some setup.blobs → MakesReportTextFirst w i (w.precomposes w0) w0 w1 i0 i1 root setup 0
  first-by wanted (Ok r) between w1 plan reported ends held = MakesFirst-is 0 r reported held ends.asks (omega (arith, ends.reads))
  first-by wanted (Err e) between w1 plan reported ends held = absurd (let is = ends.0 in cc)

  -- one directory at most is counted as listed where subtrees are walked at once
  lists-by : (wanted : Wanted) (made : Result Report ReportError) (between w1 : W) (result : Result Plan CleanError) → MakesReportBySetup w f i w0 between o0 o1 i0 i1 root setup made
      → PlansOrRefusesAfterReport w between w1 root setup wanted made result → setup.options.strategy ≡ AtOnce → w.lists w1 ≤ w.lists w0 + 1
  lists-by wanted (Ok r) between w1 result reported ends at_once =
      let once : w.lists between ≤ w.lists w0 + 1 =
      subst (λ (strategy : Strategy). CountsListingsByStrategy strategy (w.lists w0) (w.lists between) reported.opens.opened) at_once reported.opens.listed in
      let same = ends.asks.lists in
      omega (arith, once, same)
  lists-by wanted (Err e) between w1 result reported ends at_once =
      let once : w.lists between ≤ w.lists w0 + 1 =
      subst (λ (strategy : Strategy). CountsListingsByStrategy strategy (w.lists w0) (w.lists between) reported.opens.opened) at_once reported.opens.listed in
      subst (λ (x : W). w.lists x ≤ w.lists w0 + 1) (sym ends.1) once

-- a refused report is refused alike, with a plan or without
same_refusal : (e : ReportError) → top.refusal_of_clean_error (clean_error_of_report_error e) ≡ converted.refusal_of_report_error e
same_refusal (reports.Config at line) = refl
same_refusal (reports.Modules line) = refl
same_refusal (reports.ActiveSpec at) = refl
same_refusal reports.ReadFault = refl
same_refusal (reports.Walk walk) = refl
same_refusal reports.OutOfMemory = refl

which : {T : Type 0} {from to : CleanError} → IsErrOf {T = T} (Err from) to → from ≡ to
which is = cc

module _ {W F I : Type 0} {w : WorktreeOf W} {f : FindOf F} {i : InterruptOf I} {w0 w1 : W} {o0 o1 : F} {i0 i1 : I} {root : List ℕ} {setup : Setup} where
  -- why there is no text, by the report that was made or refused
  refused-text : (wanted : Wanted) (made : Result Report ReportError) (between : W) (e : CleanError) (refusal : Refusal) → MakesReportBySetup w f i w0 between o0 o1 i0 i1 root setup made
      → PlansOrRefusesAfterReport w between w1 root setup wanted made (Err e) → f.holds o0 ≡ Some setup.blobs → CountNotIncreased (f.faults o0) (f.faults o1) → refusal ≡ top.refusal_of_clean_error e
      → RefusesTextWithCause w i (w.precomposes w0) w0 w1 i0 i1 root setup 0 refusal
  refused-text wanted (Ok r) between (errors.Report e) refusal reported ends held kept same = absurd ends.refused
  refused-text wanted (Ok r) between errors.Fault refusal reported ends held kept same = inr (inl (same, FailsMeanwhile-behind 0 r reported held ends.asks (omega (arith, ends.reads)) ends.refused))
  refused-text wanted (Ok r) between errors.OutOfMemory refusal reported ends held kept same = inl same
  refused-text wanted (Err e2) between e refusal reported ends held kept same =
      inr (inr (subst (λ (x : W). MakesTextBySetup w i (w.precomposes w0) w0 x i0 i1 root setup (Err refusal)) (sym ends.1)
      (Texts-refused e2 refusal reported held kept (same ∙ ap top.refusal_of_clean_error (which (ends.0)) ∙ same_refusal e2))))

module _ {W F I : Type 0} {w : WorktreeOf W} {f : FindOf F} {i : InterruptOf I} {w0 w1 : W} {o0 o1 : F} {i0 i1 : I} {root : List ℕ} {setup : Setup} {wanted : Wanted} where
  -- the text of a plan, where nothing failed
  pub PlanTexts-ok : (plan : Plan) (text : List ℕ) → MakesReportAndPlan w f i w0 w1 o0 o1 i0 i1 root setup wanted (Ok plan) → f.holds o0 ≡ Some setup.blobs → text ≡ top.lines_of_plan_paths plan.paths.items
      → CountNotIncreased (w.faults w0) (w.faults w1) → top.AnswersPlanTextOrRefusal w i (w.precomposes w0) w0 w1 i0 i1 root setup wanted (Ok text)
  PlanTexts-ok plan text made held lines quiet =
      record {
        gives = λ t told. record { plan = plan; plan_is = made.gives (sources_of_tree_and_setup t setup) (told-blobs setup held told) quiet; text_is = lines };
        by_report = by-report wanted made.made made.between w1 plan text made.reported made.ends lines;
        unfaulted = quiet;
        made = first-by wanted made.made made.between w1 plan made.reported made.ends held;
        works = λ t told. works-by wanted made.made made.between w1 plan made.reported made.ends held t told quiet;
        opens = λ t told. opens-by wanted made.made made.between w1 plan made.reported made.ends held t told quiet;
        lists = lists-by wanted made.made made.between w1 (Ok plan) made.reported made.ends;
        refused = tt;
        worktree = made.worktree;
        interrupt = made.interrupt;
        listed = made.listed;
        calm = made.calm;
      }

  -- there is a plan, and the worktree failed while it was made
  pub PlanTexts-failed : (plan : Plan) → MakesReportAndPlan w f i w0 w1 o0 o1 i0 i1 root setup wanted (Ok plan) → f.holds o0 ≡ Some setup.blobs → CountIncreasedOrSaturated (w.faults w0) (w.faults w1)
      → top.AnswersPlanTextOrRefusal w i (w.precomposes w0) w0 w1 i0 i1 root setup wanted (Err refusals.Fault)
  PlanTexts-failed plan made held rose =
      record {
        gives = λ t told. tt;
        by_report = tt;
        unfaulted = tt;
        made = tt;
        works = λ t told. tt;
        opens = λ t told. tt;
        lists = lists-by wanted made.made made.between w1 (Ok plan) made.reported made.ends;
        refused = inr (inl (refl, record { first = first-by wanted made.made made.between w1 plan made.reported made.ends held; rose = rose }));
        worktree = made.worktree;
        interrupt = made.interrupt;
        listed = tt;
        calm = tt;
      }

  -- no memory for the text, or for what the refusal says
  pub PlanTexts-memory : {result : Result Plan CleanError} → MakesReportAndPlan w f i w0 w1 o0 o1 i0 i1 root setup wanted result → top.AnswersPlanTextOrRefusal w i (w.precomposes w0) w0 w1 i0 i1 root setup wanted (Err refusals.OutOfMemory)
  PlanTexts-memory {result} made =
      record {
        gives = λ t told. tt;
        by_report = tt;
        unfaulted = tt;
        made = tt;
        works = λ t told. tt;
        opens = λ t told. tt;
        lists = lists-by wanted made.made made.between w1 result made.reported made.ends;
        refused = inl refl;
        worktree = made.worktree;
        interrupt = made.interrupt;
        listed = tt;
        calm = tt;
      }

  -- the refusal that stands for that of a plan
  pub PlanTexts-refused : (e : CleanError) (refusal : Refusal) → MakesReportAndPlan w f i w0 w1 o0 o1 i0 i1 root setup wanted (Err e) → f.holds o0 ≡ Some setup.blobs → CountNotIncreased (f.faults o0) (f.faults o1)
      → refusal ≡ top.refusal_of_clean_error e → top.AnswersPlanTextOrRefusal w i (w.precomposes w0) w0 w1 i0 i1 root setup wanted (Err refusal)
  PlanTexts-refused e refusal made held kept same =
      record {
        gives = λ t told. tt;
        by_report = tt;
        unfaulted = tt;
        made = tt;
        works = λ t told. tt;
        opens = λ t told. tt;
        lists = lists-by wanted made.made made.between w1 (Err e) made.reported made.ends;
        refused = refused-text wanted made.made made.between e refusal made.reported made.ends held kept same;
        worktree = made.worktree;
        interrupt = made.interrupt;
        listed = tt;
        calm = tt;
      }
