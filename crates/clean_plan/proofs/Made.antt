-- What making a plan says at each of its ends.
use Rattle.std.proofs.Common.{◌≡◌, ℕ, List, [], ◌∷◌, Bool, true, false, ◌||◌, Option, Some, None, Result, Ok, Err, map, refl, sym, ap, subst, ◌∙◌, inl, inr, arith}
use Rattle.std.specs.Prelude.{is_none}
use Rattle.gitbase_core.specs.Path.{is_beneath_directory}
use Rattle.gitbase_core.specs.declared.find.Find.{Ghosts as FindOf}
use Rattle.worktree_fs.specs.declared.interrupt.Interrupt.{Ghosts as InterruptOf}
use Rattle.worktree_fs.specs.declared.worktree.Worktree.{Ghosts as WorktreeOf}
use Rattle.worktree_fs.specs.Kept.{KeepsTreeAndListCounts}
use Rattle.worktree_fs.specs.Tree.{Names}
use Rattle.worktree_stack.specs.Reading.{TreeAndObjects}
use Rattle.dir_classify.specs.declared.entry.Entry.{Entry}
use Rattle.dir_classify.specs.declared.options.EmissionMode.{EmissionMode}
use Rattle.dir_classify.specs.declared.options.EmissionMode.TheVariants.{Matching, CollapseDirectory}
use Rattle.dir_classify.specs.Chosen.{is_collapsing_mode, collapses_directories_if_some}
use Rattle.dir_walk.specs.Covered.{IsListElement as IsEmitted}
use Rattle.dir_walk.specs.Distinct.{IsWithoutNestedPaths as IsFlat}
use Rattle.dir_walk.specs.Emissions.{Emission, path_of_emission}
use Rattle.dir_walk.specs.Kept.{KeepsWorktree}
use Rattle.worktree_report.specs.declared.error.ReportError.{ReportError}
use Rattle.worktree_report.specs.declared.known.Known.{Known}
use Rattle.worktree_report.specs.declared.report.Report.{Report}
use Rattle.worktree_report.specs.declared.setup.Setup.{Setup}
use Rattle.worktree_report.specs.declared.setup.SetupOptions.{SetupOptions}
use Rattle.worktree_report.specs.Asked.{IsReportOfSetup, report_unless_misread, report_of, walk_report_of_setup}
use Rattle.worktree_report.specs.Reported.{MakesReportBySetup}
use Rattle.worktree_report.specs.Submodules.{report_entry_with_submodule}
use Rattle.clean_plan.specs.declared.error.CleanError.{CleanError}
use Rattle.clean_plan.specs.declared.error.CleanError.TheVariants as errors
use Rattle.clean_plan.specs.declared.outcome.Plan.{Plan}
use Rattle.clean_plan.specs.declared.what.Finding.{Finding}
use Rattle.clean_plan.specs.declared.what.Wanted.{Wanted}
use Rattle.clean_plan.specs.Plans.{IsOrderedRemovalPlan, entries_of_report_entries}
use Rattle.clean_plan.specs.Planned.{PlansByMadeReport, IsPlanByReport, MakesReportAndPlan, plan_inputs_over_tree}
use Rattle.clean_plan.specs.Prepared.{is_matching_emission_mode, is_some_matching_emission_mode, are_options_prepared_for_plan, emits_each_path_uncollapsed}
use Rattle.clean_plan.specs.Refusals.{HasFaultOrMemoryCause, clean_error_of_report_error}
use Rattle.clean_plan.specs.Setups.{plan_inputs_of_setup, traversal_root_relative_to_work_tree}
use Rattle.clean_plan.proofs.Directories.{and_both}
use Rattle.clean_plan.proofs.Flat.{flat-in, once-in}
use Rattle.clean_plan.proofs.Planning.{IsIn}
use Rattle.clean_plan.proofs.Safely.{AreFlat, plan-apart, plan-safe}

-- ---- the report

-- an entry of a report is that of an emission
pub record EmittedAs (all : List Emission) (e : Entry) : Type 0 where
  pub emission : Emission
  pub is_in : IsEmitted emission all
  pub entry_is : e ≡ emission.0

in-described : (known : Option Known) (all : List Emission) (e : Entry) → IsIn e (entries_of_report_entries (map (report_entry_with_submodule known) all)) → EmittedAs all e
in-described known [] e here = absurd here
in-described known (x ∷ all) e (inl same) = record { emission = x; is_in = inl refl; entry_is = same }
in-described known (x ∷ all) e (inr later) = let more : EmittedAs all e = in-described known all e later in record { emission = more.emission; is_in = inr more.is_in; entry_is = more.entry_is }

unfolded : (finding : Finding) (options : SetupOptions) → are_options_prepared_for_plan finding options ≡ true → (is_collapsing_mode options.emit_untracked || collapses_directories_if_some options.emit_ignored) ≡ false
unfolded finding options prepared =
    let one = and_both (emits_each_path_uncollapsed options) _ prepared in
    let two = and_both (is_matching_emission_mode options.emit_untracked) _ one.0 in
    let three = and_both (is_some_matching_emission_mode options.emit_ignored) (is_none options.emit_collapsed) two.1 in
    by options.emit_untracked options.emit_ignored two.0 three.0
  where
    by : (mode : EmissionMode) (ignored : Option EmissionMode) → is_matching_emission_mode mode ≡ true → is_some_matching_emission_mode ignored ≡ true → (is_collapsing_mode mode || collapses_directories_if_some ignored) ≡ false
    by Matching (Some Matching) e f = refl
    by Matching (Some CollapseDirectory) e f = absurd (cc f)
    by Matching None e f = absurd (cc f)
    by CollapseDirectory ignored e f = absurd (cc e)

module _ (composes : Bool) (s : TreeAndObjects) (root : List ℕ) (setup : Setup) (r : Report) (is : IsReportOfSetup composes s root setup r) where
  report-is : report_of composes s root setup ≡ Some r
  report-is =
      ap (λ k. report_unless_misread k (walk_report_of_setup composes s root setup)) is.known_is
      ∙ ap (report_unless_misread (Ok is.known)) is.walk_is.is
      ∙ ap (λ (x : Report). Some x) (sym is.same)

  -- the report of a prepared setup is flat
  report-flat : (finding : Finding) → are_options_prepared_for_plan finding setup.options ≡ true → AreFlat (entries_of_report_entries r.entries)
  report-flat finding prepared =
      subst (λ (x : Report). AreFlat (entries_of_report_entries x.entries)) (sym is.same) (record {
        none_beneath = λ x y here there.
            let a : EmittedAs all x = in-described is.known all x here in
            let b : EmittedAs all y = in-described is.known all y there in
            ap (λ (e : Entry). is_beneath_directory e.rela_path y.rela_path) a.entry_is
            ∙ ap (λ (e : Entry). is_beneath_directory (path_of_emission a.emission) e.rela_path) b.entry_is
            ∙ flat-in all a.emission b.emission flat a.is_in b.is_in;
        once = λ x y here there same.
            let a : EmittedAs all x = in-described is.known all x here in
            let b : EmittedAs all y = in-described is.known all y there in
            let one : a.emission ≡ b.emission =
            once-in all a.emission b.emission is.walk_is.ascends a.is_in b.is_in
            (sym (ap (λ (e : Entry). e.rela_path) a.entry_is) ∙ same ∙ ap (λ (e : Entry). e.rela_path) b.entry_is) in
            a.entry_is ∙ ap (λ (e : Emission). e.0) one ∙ sym b.entry_is;
      })
    where
      all : List Emission
      all = is.walked.entries

      flat : IsFlat is.walked.entries
      flat = is.walk_is.flat (unfolded finding setup.options prepared)

-- ---- refusals

memory-alone : (Failed : Type 0) (e : CleanError) → (Failed → ⊥) → HasFaultOrMemoryCause Failed e → e ≡ errors.OutOfMemory
memory-alone Failed (errors.Report r) f h = absurd h
memory-alone Failed errors.Fault f h = absurd (f h)
memory-alone Failed errors.OutOfMemory f h = refl

module _ {W F I : Type 0} (w : WorktreeOf W) (f : FindOf F) (i : InterruptOf I) (w0 wm w1 : W) (o0 o1 : F) (i0 i1 : I) (root : List ℕ) (setup : Setup) (wanted : Wanted) where
  -- there is no report
  pub plan-refused : (e : ReportError) → MakesReportBySetup w f i w0 w1 o0 o1 i0 i1 root setup (Err e) → MakesReportAndPlan w f i w0 w1 o0 o1 i0 i1 root setup wanted (Err (clean_error_of_report_error e))
  plan-refused e made =
      record {
        gives = λ s tells quiet. tt;
        made = Err e;
        between = w1;
        reported = made;
        ends = (refl, refl);
        complete = λ s tells quiet store_quiet calm valid. ap clean_error_of_report_error (made.complete s tells quiet store_quiet calm valid);
        worktree = made.worktree;
        store = made.store;
        interrupt = made.interrupt;
        listed = tt;
        calm = tt;
      }

  keeps-then : KeepsWorktree w w0 wm → KeepsTreeAndListCounts w wm w1 → KeepsWorktree w w0 w1
  keeps-then keeps asks =
      record {
        tree = asks.tree ∙ keeps.tree;
        faults = omega (arith, keeps.faults, asks.faults);
        list_faults = omega (arith, keeps.list_faults, asks.list_faults);
        reads = omega (arith, keeps.reads, asks.reads);
        lists = omega (arith, keeps.lists, asks.lists);
        precomposes = asks.precomposes ∙ keeps.precomposes;
      }

  module _ (r : Report) (made : MakesReportBySetup w f i w0 wm o0 o1 i0 i1 root setup (Ok r)) where
    -- the real path is not known, or memory was refused
    plan-stopped : (e : CleanError) → PlansByMadeReport w wm w1 root setup wanted r (Err e) → MakesReportAndPlan w f i w0 w1 o0 o1 i0 i1 root setup wanted (Err e)
    plan-stopped e after =
        record {
          gives = λ s tells quiet. tt;
          made = Ok r;
          between = wm;
          reported = made;
          ends = after;
          complete = λ s tells quiet store_quiet calm valid. memory-alone _ e (λ rose. absurd (omega (arith, rose, quiet, made.worktree.faults))) after.refused;
          worktree = keeps-then made.worktree after.asks;
          store = made.store;
          interrupt = made.interrupt;
          listed = tt;
          calm = tt;
        }

    -- there is a plan
    plan-made : (finding : Finding) → are_options_prepared_for_plan finding setup.options ≡ true → (plan : Plan) → PlansByMadeReport w wm w1 root setup wanted r (Ok plan) → MakesReportAndPlan w f i w0 w1 o0 o1 i0 i1 root setup wanted (Ok plan)
    plan-made finding prepared plan after =
        let by : IsPlanByReport (w.told wm) root setup wanted r plan = after.by_report in
        let asks : KeepsTreeAndListCounts w wm w1 = after.asks in
        let in_tree : (t : Names) → w.told wm ≡ Some t → IsOrderedRemovalPlan (plan_inputs_over_tree wanted t root setup r) (entries_of_report_entries r.entries) plan.paths.items =
        λ t told. subst (λ (c : Option (List ℕ)). IsOrderedRemovalPlan (plan_inputs_of_setup wanted setup (traversal_root_relative_to_work_tree root r.root) c) (entries_of_report_entries r.entries) plan.paths.items) (by.current_is t told) by.plan_is in
        record {
          gives = λ s tells quiet.
              let of : IsReportOfSetup (w.precomposes w0) s root setup r = made.gives s tells (omega (arith, quiet, asks.faults)) in
              let plan_is : IsOrderedRemovalPlan (plan_inputs_over_tree wanted s.tree root setup r) (entries_of_report_entries r.entries) plan.paths.items = in_tree s.tree (made.worktree.tree ∙ tells.tree_is) in
              let flat : AreFlat (entries_of_report_entries r.entries) = report-flat (w.precomposes w0) s root setup r of finding prepared in
              record {
                report = r;
                report_is = report-is (w.precomposes w0) s root setup r of;
                plan_is = plan_is;
                apart = plan-apart (plan_inputs_over_tree wanted s.tree root setup r) (entries_of_report_entries r.entries) flat plan.paths.items plan_is;
                safe = plan-safe (plan_inputs_over_tree wanted s.tree root setup r) (entries_of_report_entries r.entries) flat plan.paths.items plan_is;
              };
          made = Ok r;
          between = wm;
          reported = made;
          ends = after;
          complete = λ s tells quiet store_quiet calm valid. tt;
          worktree = keeps-then made.worktree asks;
          store = made.store;
          interrupt = made.interrupt;
          listed = asks.list_faults ∙ made.listed;
          calm = made.calm;
        }

    -- there is a report, and it is planned by it
    pub plan-by : (finding : Finding) → are_options_prepared_for_plan finding setup.options ≡ true → (result : Result Plan CleanError) → PlansByMadeReport w wm w1 root setup wanted r result → MakesReportAndPlan w f i w0 w1 o0 o1 i0 i1 root setup wanted result
    plan-by finding prepared (Ok plan) after = plan-made finding prepared plan after
    plan-by finding prepared (Err e) after = plan-stopped e after
