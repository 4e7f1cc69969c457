-- What files tell of submodules, or why it is not known; and the text of their plan.
use Rattle.std.proofs.Common.{◌≡◌, ◌≤◌, ◌+◌, ℕ, List, ◌++◌, Bool, Option, Some, None, Result, Ok, Err, IsErrOf, refl, ap, sym, subst, ◌∙◌}
use Rattle.std.specs.List.{flat_map}
use Rattle.glob_rules.specs.PathSpec.{PathSpec}
use Rattle.submodule.specs.Active.{active_specs_or_error_of_config}
use Rattle.submodule.specs.declared.is_active_platform.Error.{Error as ActiveError}
use Rattle.submodule.specs.declared.is_active_platform.Error.TheVariants as active_errors
use Rattle.worktree_fs.specs.Tree.{Names}
use Rattle.worktree_report.specs.declared.modules.Modules.{Modules}
use Rattle.worktree_report.specs.declared.refusal.Misread.{Misread}
use Rattle.worktree_report.specs.declared.refusal.Misread.TheVariants as misread
use Rattle.worktree_report.specs.declared.refusal.Refusal.{Refusal}
use Rattle.worktree_report.specs.declared.setup.Setup.{Setup}
use Rattle.worktree_fs.specs.declared.worktree.Worktree.{Ghosts as WorktreeOf}
use Rattle.worktree_report.specs.declared.error.ReportError.{ReportError}
use Rattle.worktree_report.specs.declared.error.ReportError.TheVariants as reports
use Rattle.worktree_report.specs.declared.refusal.Refusal.TheVariants as refusals
use Rattle.worktree_report.specs.Converted.{refusal_of_report_error}
use Rattle.worktree_report.specs.Loading.{continue_unless_misread, count_files_for_submodules, known_of_active_specs, known_submodules_in_tree, modules_of_setup_in_tree, known_submodules_with_active_specs, IsKnownWithoutMisread}
use Rattle.worktree_report.specs.Loads.{IsErrorOfReadingModules}
use Rattle.worktree_report.specs.Outside.{count_files_read_to_misread, IsMisreadOfSetup, StopsReadingAtError, StopsAtUnreadFile}
use Rattle.module_plan.specs.declared.step.ModulePlan.{ModulePlan}
use Rattle.module_plan.specs.declared.step.Step.{Step}
use Rattle.module_plan.specs.declared.step.Skipped.{Skipped}
use Rattle.module_plan.specs.declared.step.Verdict.{Verdict}
use Rattle.module_plan.specs.Lines.{text_of_plan, line_of_skipped, line_of_step}
use Rattle.module_plan.specs.declared.error.ModuleError.{ModuleError}
use Rattle.module_plan.specs.declared.error.ModuleError.TheVariants as errors
use Rattle.module_plan.specs.Plans.{IsStrictlySortedByPath, IsSortedPlanOfVerdicts, RefusesPlanWithCause, index_of_refused_active_value}
use Rattle.module_plan.specs.Wanted.{PlanInput}
use Rattle.module_plan.specs.Run.{setup_with_submodules_option, refusal_of_module_error, plan_text_of_verdicts, text_unless_value_refused}
use Rattle.module_plan.proofs.Lined.{lines-by_path}

-- which refusal is answered
pub which : {T : Type 0} {from to : Refusal} → IsErrOf {T = T} (Err from) to → from ≡ to
which is = cc

-- ---- reading the files

-- where the files are outside their grammar it is not known what they tell
pub known-misread : (t : Names) (root : List ℕ) (setup : Setup) (which : Misread) → modules_of_setup_in_tree t root setup ≡ Err which → known_submodules_in_tree t root (setup_with_submodules_option setup) ≡ Err which
unfolding known_submodules_in_tree modules_of_setup_in_tree
known-misread t root setup which e = ap (continue_unless_misread (known_submodules_with_active_specs setup.options.ignore_case)) e

-- nor where a value of `submodule.active` is refused
pub known-refused : (t : Names) (root : List ℕ) (setup : Setup) (modules : Modules) (which : Misread) → modules_of_setup_in_tree t root setup ≡ Ok modules
    → known_submodules_with_active_specs setup.options.ignore_case modules ≡ Err which → known_submodules_in_tree t root (setup_with_submodules_option setup) ≡ Err which
unfolding known_submodules_in_tree modules_of_setup_in_tree
known-refused t root setup modules which read e = ap (continue_unless_misread (known_submodules_with_active_specs setup.options.ignore_case)) read ∙ e

-- where no value is refused, it is known what they tell
pub known-loaded : (t : Names) (root : List ℕ) (setup : Setup) (modules : Modules) → modules_of_setup_in_tree t root setup ≡ Ok modules
    → IsKnownWithoutMisread (known_submodules_with_active_specs setup.options.ignore_case modules) → IsKnownWithoutMisread (known_submodules_in_tree t root (setup_with_submodules_option setup))
unfolding known_submodules_in_tree modules_of_setup_in_tree
known-loaded t root setup modules read known = (known.0, ap (continue_unless_misread (known_submodules_with_active_specs setup.options.ignore_case)) read ∙ known.1)

known-by : (modules : Modules) (found : Result (Option (List PathSpec)) ActiveError) → index_of_refused_active_value found ≡ None → IsKnownWithoutMisread (known_of_active_specs modules found)
known-by modules (Ok specs) none = (Some (record { modules = modules; platform = specs }), refl)
known-by modules (Err (active_errors.ParsePattern value at)) none = absurd cc
known-by modules (Err (active_errors.NormalizePattern value)) none = absurd cc
known-by modules (Err active_errors.OutOfMemory) none = (None, refl)

-- a fault that ends a plan comes where no value is refused
pub known-late : (told : Option Names) (root : List ℕ) (asked : PlanInput) (Failed : Type 0) (fold : Bool) (modules : Modules) (e : ModuleError)
    → RefusesPlanWithCause told root asked (index_of_refused_active_value (active_specs_or_error_of_config fold modules.config.sections)) Failed e → refusal_of_module_error e ≡ refusals.Fault → IsKnownWithoutMisread (known_submodules_with_active_specs fold modules)
known-late told root asked Failed fold modules (errors.ActiveSpec value) refused is = absurd cc
known-late told root asked Failed fold modules (errors.Fault path) refused is = known-by modules (active_specs_or_error_of_config fold modules.config.sections) refused.0
known-late told root asked Failed fold modules errors.OutOfMemory refused is = absurd cc

-- the same of a file that was not read, where submodules are asked for
pub stops-asking : (t : Names) (setup : Setup) (reads0 reads1 : ℕ) → StopsAtUnreadFile t setup reads0 reads1 → StopsAtUnreadFile t (setup_with_submodules_option setup) reads0 reads1
stops-asking t setup reads0 reads1 at = record { before = at.before; config = at.config; read = at.read; reads = at.reads }

-- a fault of reading is that of a file that was not read
pub stops-loading : {W : Type 0} (w : WorktreeOf W) (w0 w1 : W) (setup : Setup) (e : ReportError) (Failed : Type 0) → IsErrorOfReadingModules Failed e → StopsReadingAtError w w0 w1 setup e
    → refusal_of_report_error e ≡ refusals.Fault → (t : Names) → w.told w0 ≡ Some t → StopsAtUnreadFile t setup (w.reads w0) (w.reads w1)
stops-loading w w0 w1 setup (reports.Config at line) Failed of stops is = absurd cc
stops-loading w w0 w1 setup (reports.Modules line) Failed of stops is = absurd cc
stops-loading w w0 w1 setup (reports.ActiveSpec at) Failed of stops is = absurd cc
stops-loading w w0 w1 setup reports.ReadFault Failed of stops is = stops
stops-loading w w0 w1 setup (reports.Walk error) Failed of stops is = absurd of
stops-loading w w0 w1 setup reports.OutOfMemory Failed of stops is = absurd cc

same-misread : {a b : Misread} → refusals.Misread a ≡ refusals.Misread b → a ≡ b
same-misread is = cc

-- no file behind the one that is outside its grammar was read
pub reads-loading : {W : Type 0} (w : WorktreeOf W) (w0 w1 : W) (setup : Setup) (e : ReportError) (Failed : Type 0) (m : Misread) → IsErrorOfReadingModules Failed e → StopsReadingAtError w w0 w1 setup e
    → refusal_of_report_error e ≡ refusals.Misread m → w.reads w1 ≤ w.reads w0 + count_files_read_to_misread setup m
reads-loading w w0 w1 setup (reports.Config at line) Failed m of stops is = subst (λ (x : Misread). w.reads w1 ≤ w.reads w0 + count_files_read_to_misread setup x) (same-misread is) stops
reads-loading w w0 w1 setup (reports.Modules line) Failed m of stops is = subst (λ (x : Misread). w.reads w1 ≤ w.reads w0 + count_files_read_to_misread setup x) (same-misread is) stops
reads-loading w w0 w1 setup (reports.ActiveSpec at) Failed m of stops is = subst (λ (x : Misread). w.reads w1 ≤ w.reads w0 + count_files_read_to_misread setup x) (same-misread is) stops
reads-loading w w0 w1 setup reports.ReadFault Failed m of stops is = absurd cc
reads-loading w w0 w1 setup (reports.Walk error) Failed m of stops is = absurd of
reads-loading w w0 w1 setup reports.OutOfMemory Failed m of stops is = absurd cc

-- so many files are read up to one, whether or not a setup asks for submodules
pub files-asking : (setup : Setup) (m : Misread) → count_files_read_to_misread setup m ≡ count_files_read_to_misread (setup_with_submodules_option setup) m
files-asking setup (misread.Config at line) = refl
files-asking setup (misread.Modules line) = refl
files-asking setup (misread.ActiveSpec at) = refl

-- ---- what is outside its grammar

-- the same where submodules are asked for
pub outside-asking : (root : List ℕ) (setup : Setup) (m : Misread) → IsMisreadOfSetup root setup m → IsMisreadOfSetup root (setup_with_submodules_option setup) m
outside-asking root setup (misread.Config at line) is = record { before = is.before; named = is.named; at_is = is.at_is; named_is = is.named_is; text = is.text }
outside-asking root setup (misread.Modules line) is = is
outside-asking root setup (misread.ActiveSpec at) is = is

refused-spec : (modules : Modules) (found : Result (Option (List PathSpec)) ActiveError) (m : Misread) → known_of_active_specs modules found ≡ Err m → (at : ℕ) × (m ≡ misread.ActiveSpec at)
refused-spec modules (Ok specs) m is = absurd cc
refused-spec modules (Err (active_errors.ParsePattern value at)) m is = (value, cc)
refused-spec modules (Err (active_errors.NormalizePattern value)) m is = (value, cc)
refused-spec modules (Err active_errors.OutOfMemory) m is = absurd cc

-- a value of `submodule.active` that is refused is
pub outside-specs : (root : List ℕ) (setup : Setup) (modules : Modules) (m : Misread) → known_submodules_with_active_specs setup.options.ignore_case modules ≡ Err m → IsMisreadOfSetup root (setup_with_submodules_option setup) m
outside-specs root setup modules m is =
    let spec = refused-spec modules (active_specs_or_error_of_config setup.options.ignore_case modules.config.sections) m is in
    subst (λ (x : Misread). IsMisreadOfSetup root (setup_with_submodules_option setup) x) (sym spec.1) (record { modules = modules; outside = is ∙ ap (λ (x : Misread). Err x) spec.1 })

-- it is told by all files
pub reads-specs : (setup : Setup) (modules : Modules) (m : Misread) (reads0 reads1 : ℕ) → known_submodules_with_active_specs setup.options.ignore_case modules ≡ Err m
    → reads1 ≤ reads0 + count_files_for_submodules setup → reads1 ≤ reads0 + count_files_read_to_misread setup m
reads-specs setup modules m reads0 reads1 is fits =
    let spec = refused-spec modules (active_specs_or_error_of_config setup.options.ignore_case modules.config.sections) m is in
    subst (λ (x : Misread). reads1 ≤ reads0 + count_files_read_to_misread setup x) (sym spec.1) fits

-- ---- the text

lines-are : (steps more : List Step) (skipped left : List Skipped) → flat_map line_of_step steps ≡ flat_map line_of_step more → skipped ≡ left → text_of_plan steps skipped ≡ text_of_plan more left
lines-are steps more skipped left e f = ap (λ (l : List ℕ). l ++ flat_map line_of_skipped skipped) e ∙ ap (λ (s : List Skipped). flat_map line_of_step more ++ flat_map line_of_skipped s) f

text-is : (vs : List Verdict) (made : ModulePlan) (text : List ℕ) → IsSortedPlanOfVerdicts vs made → IsStrictlySortedByPath made.steps.items → text ≡ text_of_plan made.steps.items made.skipped.items → text ≡ plan_text_of_verdicts vs
text-is vs made text is ascends same = same ∙ lines-are made.steps.items _ made.skipped.items _ (lines-by_path _ made.steps.items is.steps ascends) is.skipped

-- no value of `submodule.active` is refused, and this is the text of the plan
pub text-given : (refused : Option ℕ) (vs : List Verdict) (made : ModulePlan) (text : List ℕ) → refused ≡ None → IsSortedPlanOfVerdicts vs made → IsStrictlySortedByPath made.steps.items
    → text ≡ text_of_plan made.steps.items made.skipped.items → text_unless_value_refused refused (plan_text_of_verdicts vs) ≡ Some text
text-given refused vs made text none is ascends same =
    ap (λ (r : Option ℕ). text_unless_value_refused r (plan_text_of_verdicts vs)) none ∙ ap (λ (l : List ℕ). Some l) (sym (text-is vs made text is ascends same))
