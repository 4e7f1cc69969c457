-- A report is made: what tells of submodules is read, and the work tree is walked.
use Rattle.std.proofs.Common.{◌≡◌, ◌≤◌, ◌^◌, ◌-◌, min, ℕ, List, [], ◌∷◌, map, length, Bool, true, false, Option, Some, None, Result, Ok, Err, IfOk, inl, inr, refl, sym, ap, ◌∙◌, subst, option_map, arith}
use Rattle.std.specs.Prelude.{if◌then◌else◌, is_some}
use Rattle.std.specs.List.{AllByRecursion}
use Rattle.std.proofs.lemmas.List.{length-map}
use Rattle.gitbase_core.specs.declared.find.Find.{Ghosts as FindOf}
use Rattle.worktree_fs.specs.declared.interrupt.Interrupt.{Ghosts as InterruptOf}
use Rattle.worktree_fs.specs.declared.worktree.Worktree.{Ghosts as WorktreeOf}
use Rattle.worktree_fs.specs.Causes.{CountNotIncreased, CountIncreasedOrSaturated}
use Rattle.worktree_fs.specs.Paths.{root_joined_with_relative}
use Rattle.worktree_fs.specs.Tree.{Names}
use Rattle.worktree_stack.specs.Lookups.{one_if_refused}
use Rattle.worktree_stack.specs.Reading.{TreeAndObjects}
use Rattle.worktree_stack.specs.Setup.{StackSetup}
use Rattle.dir_classify.specs.declared.error.Error.{Error}
use Rattle.dir_classify.specs.Excludes.{has_attributes_if_given, TellsTreeAndObjects}
use Rattle.dir_walk.specs.declared.report.Report.{Report as WalkReport}
use Rattle.dir_walk.specs.Distinct.{IsStrictlyAscendingByPath}
use Rattle.dir_walk.specs.Emissions.{Emission}
use Rattle.dir_walk.specs.Kept.{KeepsWorktree, HoldsIfListingFault}
use Rattle.dir_walk.specs.Opens.{CountsListingsByStrategy, reads_files_for_rules_only}
use Rattle.dir_walk.specs.Puts.{count_hidden_emissions}
use Rattle.dir_walk.specs.Reports.{IsReportFromNormalizedRoot}
use Rattle.dir_walk.specs.Root.{Walk, walk_over_sources}
use Rattle.dir_walk.specs.Unopened.{count_too_deep_in_answer, count_unlisted_in_answer}
use Rattle.dir_walk.specs.Walkable.{HasReportOrIsWalkable}
use Rattle.dir_walk.specs.Walks.{AddsPathsFromRootOnce, most_opened_in_walk, CountsOpenedInWholeWalk, ReadsAtMostPerDirectory}
use Rattle.worktree_report.specs.declared.error.ReportError.{ReportError}
use Rattle.worktree_report.specs.declared.error.ReportError.TheVariants as errors
use Rattle.worktree_report.specs.declared.known.Known.{Known}
use Rattle.worktree_report.specs.declared.refusal.Misread.{Misread}
use Rattle.worktree_report.specs.declared.refusal.Misread.TheVariants as misread
use Rattle.worktree_report.specs.declared.report.Report.{Report}
use Rattle.worktree_report.specs.declared.report.ReportEntry.{ReportEntry}
use Rattle.worktree_report.specs.declared.setup.Setup.{Setup}
use Rattle.worktree_report.specs.Asked.{IsWalkErrorAboutInput, IsWalkErrorFoundInTree, IsReportOfSetup, IsWalkReportOfSetup, IsErrorOfUnenteredRoot, ReadsAtMostAsWalk, IsWalkErrorOfSetup, walk_setting_of_setup, walk_options_of_setup, report_unless_misread, report_of, walk_report_of_setup}
use Rattle.worktree_report.specs.Excluding.{stack_setup_if_excludes_option, stack_setup_of_setup}
use Rattle.worktree_report.specs.Loading.{count_files_if_submodules_asked, known_submodules_in_tree}
use Rattle.worktree_report.specs.Loads.{IsResultUnlessFault, ReadsFilesWithoutFault, ReadsFilesAtMost, IsErrorOfLoadingKnown, report_error_of_walk_error}
use Rattle.worktree_report.specs.Orderly.{IsReportInOrder}
use Rattle.worktree_report.specs.Outside.{IsMisreadOfSetup, ReadsOnlySubmoduleFiles, HoldsOfMisread, HoldsIfReadingError, StopsReadingAtError}
use Rattle.worktree_report.specs.Reported.{IsReportOfWalkResult, OpensAtMostAsWalkEnters, IsTraversalRootPath, CountsOpenedForReport, ReadsSubmoduleFilesFirst, MakesReportBySetup, MisreadsExactlyWhereSaid, HoldsIfReportFault, HoldsOfWalkError, WalksBySetup}
use Rattle.worktree_report.specs.Submodules.{report_with_submodules, emission_of_report_entry, report_entry_with_submodule, submodule_facts_if_known}
use Rattle.worktree_report.specs.Unopened.{count_too_deep_in_report, count_unlisted_in_report}
use Rattle.worktree_report.proofs.Walks.{unlisted_so}
use Rattle.worktree_report.proofs.WalkRefused.{on_walk, unlisted_so_too, deep_so_too, failed_walk, walk_is_later, walk_is_inside, walk_is_no_reading, walk_stops_nothing}

-- a walk with the submodules is the report
pub report_is : {composes : Bool} {s : TreeAndObjects} {root : List ℕ} {setup : Setup} {r : Report} → IsReportOfSetup composes s root setup r → report_of composes s root setup ≡ Some r
report_is {composes = composes} {s = s} {root = root} {setup = setup} is =
    ap (λ (x : Result (Option Known) Misread). report_unless_misread x (walk_report_of_setup composes s root setup)) is.known_is
    ∙ ap (option_map (report_with_submodules is.known)) is.walk_is.is ∙ ap (λ (x : Report). Some x) (sym is.same)

-- ---- what tells of submodules is refused

misreads_given : (e : ReportError) (given : Result (Option Known) Misread) → IsResultUnlessFault (Err e) given → MisreadsExactlyWhereSaid given e
misreads_given (errors.Config at line) given h = h
misreads_given (errors.Modules line) given h = h
misreads_given (errors.ActiveSpec at) given h = h
misreads_given errors.ReadFault given h = tt
misreads_given (errors.Walk error) given h = absurd h
misreads_given errors.OutOfMemory given h = tt

-- what holds of each refusal of reading
on_reading : (Holds Kept : Type 0) (e : ReportError) → (Holds → Kept) → HoldsIfReadingError Holds e → HoldsIfReadingError Kept e
on_reading Holds Kept (errors.Config at line) more h = more h
on_reading Holds Kept (errors.Modules line) more h = more h
on_reading Holds Kept (errors.ActiveSpec at) more h = more h
on_reading Holds Kept errors.ReadFault more h = more h
on_reading Holds Kept (errors.Walk error) more h = tt
on_reading Holds Kept errors.OutOfMemory more h = tt

no_walk : (Failed : Type 0) (Holds : Error → Type 0) (e : ReportError) → IsErrorOfLoadingKnown Failed e → HoldsOfWalkError Holds e
no_walk Failed Holds (errors.Config at line) h = tt
no_walk Failed Holds (errors.Modules line) h = tt
no_walk Failed Holds (errors.ActiveSpec at) h = tt
no_walk Failed Holds errors.ReadFault h = tt
no_walk Failed Holds (errors.Walk error) h = absurd h
no_walk Failed Holds errors.OutOfMemory h = tt

failed : (Failed Stored : Type 0) (e : ReportError) → IsErrorOfLoadingKnown Failed e → HoldsIfReportFault Failed Stored e
failed Failed Stored (errors.Config at line) h = tt
failed Failed Stored (errors.Modules line) h = tt
failed Failed Stored (errors.ActiveSpec at) h = tt
failed Failed Stored errors.ReadFault h = h
failed Failed Stored (errors.Walk error) h = absurd h
failed Failed Stored errors.OutOfMemory h = tt

in_grammar : {X : Type 0} (given : Result (Option Known) Misread) (known : Option Known) (which : Misread) → given ≡ Ok known → given ≡ Err which → X
in_grammar given known which is misread_is = absurd (let e : Ok known ≡ Err which = sym is ∙ misread_is in cc e)

only_memory : (Failed : Type 0) (e : ReportError) (given : Result (Option Known) Misread) (known : Option Known)
    → IsResultUnlessFault (Err e) given → IsErrorOfLoadingKnown Failed e → (Failed → ⊥) → given ≡ Ok known → e ≡ errors.OutOfMemory
only_memory Failed (errors.Config at line) given known is of_it none known_is = in_grammar given known (misread.Config at line) known_is is
only_memory Failed (errors.Modules line) given known is of_it none known_is = in_grammar given known (misread.Modules line) known_is is
only_memory Failed (errors.ActiveSpec at) given known is of_it none known_is = in_grammar given known (misread.ActiveSpec at) known_is is
only_memory Failed errors.ReadFault given known is of_it none known_is = absurd (none of_it)
only_memory Failed (errors.Walk error) given known is of_it none known_is = absurd of_it
only_memory Failed errors.OutOfMemory given known is of_it none known_is = refl

not_deep : (Failed : Type 0) (e : ReportError) → IsErrorOfLoadingKnown Failed e → count_too_deep_in_report {T = Report} (Err e) ≡ 0
not_deep Failed (errors.Config at line) h = refl
not_deep Failed (errors.Modules line) h = refl
not_deep Failed (errors.ActiveSpec at) h = refl
not_deep Failed errors.ReadFault h = refl
not_deep Failed (errors.Walk error) h = absurd h
not_deep Failed errors.OutOfMemory h = refl

-- a count that did not rise did not rise
not_both : (before now : ℕ) → CountNotIncreased before now → CountIncreasedOrSaturated before now → ⊥
not_both before now quiet rose = omega arith

module _ {W F I : Type 0} {w : WorktreeOf W} {f : FindOf F} {i : InterruptOf I} {w0 w1 : W} {o : F} {i0 : I} {root : List ℕ} {setup : Setup} where
  pub MakesReport-misread : (e : ReportError) → ReadsFilesAtMost w w0 w1 (count_files_if_submodules_asked setup) → ((t : Names) → w.told w0 ≡ Some t → IsResultUnlessFault (Err e) (known_submodules_in_tree t root setup))
      → IsErrorOfLoadingKnown (CountIncreasedOrSaturated (w.faults w0) (w.faults w1)) e → HoldsOfMisread (IsMisreadOfSetup root setup) e → HoldsIfReadingError (setup.options.submodules ≡ true) e → StopsReadingAtError w w0 w1 setup e
      → MakesReportBySetup w f i w0 w1 o o i0 i0 root setup (Err e)
  MakesReport-misread e loads gives of_it outside asked stops =
      record {
        gives = λ s told quiet. tt;
        orderly = tt;
        named = λ t told quiet. tt;
        misread = λ t told. misreads_given e _ (gives t told);
        outside = outside;
        alone = on_reading _ _ e (λ is. record { asked = is; loads = loads; store = refl; interrupt = refl }) asked;
        stops = stops;
        loaded = tt;
        loaded_walk = no_walk _ _ e of_it;
        about = no_walk _ _ e of_it;
        found = λ s told. no_walk _ _ e of_it;
        cause = failed _ _ e of_it;
        interrupted = no_walk _ _ e of_it;
        listing = no_walk _ _ e of_it;
        no_root = λ t told quiet. no_walk _ _ e of_it;
        refused = λ s told quiet. no_walk _ _ e of_it;
        complete = λ s told quiet stored calm valid. only_memory _ e (known_submodules_in_tree s.tree root setup) valid.known (gives s.tree told.tree_is) of_it (not_both _ _ quiet) valid.known_is;
        worktree = record { tree = loads.tree; faults = loads.faults; list_faults = let same = loads.list_faults in omega (arith, same); reads = loads.reads_kept; lists = let same = loads.lists in omega (arith, same); precomposes = loads.precomposes };
        store = record { holds = refl; faults = omega arith };
        interrupt = record { questions = omega arith; raised = omega arith };
        listed = tt;
        calm = tt;
        opens =
            record {
              opened = 0;
              within = λ s told quiet. omega arith;
              listed = unlisted_so setup.options.strategy (w.lists w0) (w.lists w1) loads.lists;
              asked = omega (arith, not_deep _ e of_it);
              counted = tt;
              reads = λ over_itself rules_alone. record { between = w.reads w1; loaded = loads.reads; walked = inl refl };
            };
      }

-- ---- the entries, with the submodules

emissions-described : (known : Option Known) (xs : List Emission) → map emission_of_report_entry (map (report_entry_with_submodule known) xs) ≡ xs
emissions-described known [] = refl
emissions-described known (x ∷ xs) = ap (λ (ys : List Emission). x ∷ ys) (emissions-described known xs)

facts-described : (known : Option Known) (xs : List Emission) → AllByRecursion (λ (entry : ReportEntry). entry.facts ≡ submodule_facts_if_known known entry.entry.rela_path) (map (report_entry_with_submodule known) xs)
facts-described known [] = tt
facts-described known (x ∷ xs) = (refl, facts-described known xs)

described-orderly : (composes : Bool) (told : Option Names) (root : List ℕ) (setup : Setup) (known : Option Known) (walked : WalkReport)
    → ((t : Names) → told ≡ Some t → known_submodules_in_tree t root setup ≡ Ok known) → (setup.options.submodules ≡ true → is_some known ≡ true) → (setup.options.submodules ≡ false → known ≡ None)
    → IsStrictlyAscendingByPath walked.entries → count_hidden_emissions (walk_options_of_setup composes setup) walked.entries ≡ 0 → walked.outcome.returned_entries ≡ min (length walked.entries) (2 ^ 64 - 1) → min walked.outcome.returned_entries (2 ^ 32 - 1) ≤ walked.outcome.seen_entries
    → IsReportFromNormalizedRoot (walk_setting_of_setup composes root setup) setup.root walked → IsReportInOrder composes told root setup (report_with_submodules known walked)
described-orderly composes told root setup known walked known_is asked_for unasked ordered filtered counted seen once =
    record {
      ascends = subst IsStrictlyAscendingByPath (sym (emissions-described known walked.entries)) ordered;
      filtered = ap {B = ℕ} (count_hidden_emissions (walk_options_of_setup composes setup)) (emissions-described known walked.entries) ∙ filtered;
      counted = counted ∙ ap (λ (n : ℕ). min n (2 ^ 64 - 1)) (sym (length-map walked.entries (report_entry_with_submodule known)));
      seen = seen;
      start = once.root;
      asked = once.asked;
      named = once.named;
      once = subst (λ (xs : List Emission). AddsPathsFromRootOnce once.root (Some []) (Some xs)) (sym (emissions-described known walked.entries)) once.once;
      known = known;
      known_is = known_is;
      asked_for = asked_for;
      unasked = unasked;
      facts = facts-described known walked.entries;
    }

-- ---- the walk, once what tells of submodules is known

quiet_later : (before later now : ℕ) → before ≤ later → CountNotIncreased before now → CountNotIncreased later now
quiet_later before later now older quiet = omega arith

rose_before : (before later now : ℕ) → before ≤ later → CountIncreasedOrSaturated later now → CountIncreasedOrSaturated before now
rose_before before later now older rose = omega arith

-- the path that an answer of the walk names is named by the report that is made of it, if there is one
abbrev Names_too : List ℕ → Result WalkReport Error → Result Report ReportError → Type 0
Names_too root walked result = (start : List ℕ) → IfOk walked (λ x. x.root ≡ root_joined_with_relative root start) → IfOk result (λ r. r.root ≡ root_joined_with_relative root start)

-- what a walk reads is read for the report that is made of it, or for why there is none
reads_of : (composes : Bool) (root : List ℕ) (setup : Setup) (before now opened : ℕ) (walked : Result WalkReport Error) (result : Result Report ReportError)
    → Names_too root walked result → one_if_refused walked ≤ one_if_refused result
    → ReadsAtMostPerDirectory (walk_setting_of_setup composes root setup) setup.root (λ (x : WalkReport). x.root) walked before now opened → ReadsAtMostAsWalk composes root setup result before now opened (one_if_refused result)
reads_of composes root setup before now opened walked result names le reads =
    elim reads [ inl same ↦ inl same | inr found ↦ inr (found.0, found.1.normalized, names found.0 found.1.named, let few = found.2 in omega (arith, few, le)) ]

-- what is read over a worktree that composes names or not, as another did
reads_later : (composed composes : Bool) (root : List ℕ) (setup : Setup) (before now opened : ℕ) (walked : Result WalkReport Error) → composed ≡ composes → reads_files_for_rules_only (walk_options_of_setup composes setup) ≡ true
    → (reads_files_for_rules_only (walk_options_of_setup composed setup) ≡ true → ReadsAtMostPerDirectory (walk_setting_of_setup composed root setup) setup.root (λ (x : WalkReport). x.root) walked before now opened)
    → ReadsAtMostPerDirectory (walk_setting_of_setup composes root setup) setup.root (λ (x : WalkReport). x.root) walked before now opened
reads_later composed composes root setup before now opened walked same alone reads =
    subst (λ (b : Bool). reads_files_for_rules_only (walk_options_of_setup b setup) ≡ true → ReadsAtMostPerDirectory (walk_setting_of_setup b root setup) setup.root (λ (x : WalkReport). x.root) walked before now opened) same reads alone

kept_later : {W : Type 0} (w : WorktreeOf W) (w0 wl w1 : W) (most : ℕ) → ReadsFilesAtMost w w0 wl most → KeepsWorktree w wl w1 → KeepsWorktree w w0 w1
kept_later w w0 wl w1 most loads kept =
    record {
      tree = kept.tree ∙ loads.tree;
      faults = let a = loads.faults in let b = kept.faults in omega (arith, a, b);
      list_faults = let a = loads.list_faults in let b = kept.list_faults in omega (arith, a, b);
      reads = let a = loads.reads_kept in let b = kept.reads in omega (arith, a, b);
      lists = let a = loads.lists in let b = kept.lists in omega (arith, a, b);
      precomposes = kept.precomposes ∙ loads.precomposes;
    }

-- the rules of a setup are ignore rules alone
no_attributes : (root : List ℕ) (setup : Setup) → has_attributes_if_given (stack_setup_if_excludes_option root setup) ≡ false
no_attributes root setup = go setup.options.excludes
  where
    go : (b : Bool) → has_attributes_if_given (if b then Some (stack_setup_of_setup root setup) else None) ≡ false
    go true = refl
    go false = refl

most_more : (limit : ℕ) (walk : Option Walk) (less more : ℕ) → less ≤ more → most_opened_in_walk limit walk less ≤ most_opened_in_walk limit walk more
most_more limit None less more fits = omega arith
most_more limit (Some walk) less more fits = omega (arith, fits)

opened_later : {W F I : Type 0} (w : WorktreeOf W) (f : FindOf F) (i : InterruptOf I) (w0 wl w1 : W) (o0 : F) (i0 i1 : I) (root : List ℕ) (setup : Setup) (walked : Result WalkReport Error) (result : Result Report ReportError)
    → ReadsFilesAtMost w w0 wl (count_files_if_submodules_asked setup) → w.faults wl ≤ w.faults w1
    → (opens : CountsOpenedInWholeWalk w i wl w1 i0 i1 setup.options.strategy (walk_setting_of_setup (w.precomposes wl) root setup) (stack_setup_if_excludes_option root setup) setup.root (λ (r : WalkReport). r.outcome) (λ (r : WalkReport). r.root) walked
    (OpensAtMostAsWalkEnters w f wl w1 o0 root setup (count_unlisted_in_answer walked)))
    → IfOk result (λ r. r.outcome.read_dir_calls ≡ min opens.opened (2 ^ 32 - 1)) → Names_too root walked result → one_if_refused walked ≤ one_if_refused result
    → count_unlisted_in_answer walked ≤ count_unlisted_in_report result → count_too_deep_in_report result ≤ count_too_deep_in_answer walked → CountsOpenedForReport w i (w.precomposes w0) w0 w1 i0 i1 root setup result (OpensAtMostAsWalkEnters w f w0 w1 o0 root setup (count_unlisted_in_report result))
opened_later w f i w0 wl w1 o0 i0 i1 root setup walked result loads more opens counted names spare unlisted deep =
    record {
      opened = opens.opened;
      within = λ s told quiet.
          let first = loads.faults in
          let second : CountNotIncreased (w.faults wl) (w.faults w1) = omega (arith, quiet, first, more) in
          let most = opens.within s (record { tree_is = loads.tree ∙ told.tree_is; objects_are = told.objects_are }) second in
          let same = ap {B = ℕ} (λ (b : Bool). most_opened_in_walk setup.depth (walk_over_sources (walk_setting_of_setup b root setup) (stack_setup_if_excludes_option root setup) s setup.root) (count_unlisted_in_answer walked)) loads.precomposes in
          let fits = most_more setup.depth (walk_over_sources (walk_setting_of_setup (w.precomposes w0) root setup) (stack_setup_if_excludes_option root setup) s setup.root) (count_unlisted_in_answer walked) (count_unlisted_in_report result) unlisted in
          omega (arith, most, same, fits);
      listed = subst (λ (n : ℕ). CountsListingsByStrategy setup.options.strategy n (w.lists w1) opens.opened) loads.lists opens.listed;
      asked = let asks = opens.asked in omega (arith, asks, deep);
      counted = counted;
      reads = λ over_itself rules_alone.
          record {
            between = w.reads wl;
            loaded = loads.reads;
            walked = reads_of (w.precomposes w0) root setup (w.reads wl) (w.reads w1) opens.opened walked result names spare
                (reads_later (w.precomposes wl) (w.precomposes w0) root setup (w.reads wl) (w.reads w1) opens.opened walked loads.precomposes rules_alone (λ alone. opens.reads over_itself alone (no_attributes root setup)));
          };
    }

told_later : {W F : Type 0} (w : WorktreeOf W) (f : FindOf F) (w0 wl : W) (o0 : F) (most : ℕ) (made : Option StackSetup) (s : TreeAndObjects) → ReadsFilesAtMost w w0 wl most
    → TellsTreeAndObjects (w.told w0) (f.holds o0) made s → TellsTreeAndObjects (w.told wl) (f.holds o0) made s
told_later w f w0 wl o0 most made s loads told = record { tree_is = loads.tree ∙ told.tree_is; objects_are = told.objects_are }

module _ {W F I : Type 0} {w : WorktreeOf W} {f : FindOf F} {i : InterruptOf I} {w0 wl w1 : W} {o0 o1 : F} {i0 i1 : I} {root : List ℕ} {setup : Setup} (has : ReadsFilesWithoutFault w w0 wl (count_files_if_submodules_asked setup)) where
  module _ (known : Option Known) (known_is : (t : Names) → w.told w0 ≡ Some t → known_submodules_in_tree t root setup ≡ Ok known)
      (asked_for : setup.options.submodules ≡ true → is_some known ≡ true) (unasked : setup.options.submodules ≡ false → known ≡ None) where
    -- the walk gave something, and that is described
    MakesReport-walked : (walked : WalkReport) (r : Report) → WalksBySetup w f i wl w1 o0 o1 i0 i1 root setup (Ok walked) → r ≡ report_with_submodules known walked
        → MakesReportBySetup w f i w0 w1 o0 o1 i0 i1 root setup (Ok r)
    MakesReport-walked walked r reports same =
        record {
          gives = λ s told quiet.
              record {
                walked = walked;
                known = known;
                walk_is = subst (λ (b : Bool). IsWalkReportOfSetup b s root setup walked) has.loads.precomposes (reports.gives s (told_later w f w0 wl o0 _ _ s has.loads told) (quiet_later _ _ _ has.loads.faults quiet));
                known_is = known_is s.tree told.tree_is;
                same = same;
              };
          orderly = subst (IsReportInOrder (w.precomposes w0) (w.told w0) root setup) (sym same)
              (described-orderly (w.precomposes w0) (w.told w0) root setup known walked known_is asked_for unasked reports.ordered
              (subst (λ (b : Bool). count_hidden_emissions (walk_options_of_setup b setup) walked.entries ≡ 0) has.loads.precomposes reports.filtered) reports.counted reports.seen
              (subst (λ (b : Bool). IsReportFromNormalizedRoot (walk_setting_of_setup b root setup) setup.root walked) has.loads.precomposes reports.once));
          named = λ t told quiet.
              subst (λ (x : Report). IsTraversalRootPath (w.precomposes w0) t root setup x.root) (sym same)
              (subst (λ (b : Bool). IsTraversalRootPath b t root setup walked.root) has.loads.precomposes (reports.named t (has.loads.tree ∙ told) (quiet_later _ _ _ has.loads.faults quiet)));
          misread = λ t told. tt;
          outside = tt;
          alone = tt;
          stops = tt;
          loaded = record { loaded = wl; has = has; behind = reports.worktree };
          loaded_walk = tt;
          about = tt;
          found = λ s told. tt;
          cause = tt;
          interrupted = tt;
          listing = tt;
          no_root = λ t told quiet. tt;
          refused = λ s told quiet. tt;
          complete = λ s told quiet stored calm valid. tt;
          worktree = kept_later w w0 wl w1 _ has.loads reports.worktree;
          store = reports.store;
          interrupt = reports.interrupt;
          listed = reports.listed ∙ has.loads.list_faults;
          calm = reports.calm;
          opens = opened_later w f i w0 wl w1 o0 i0 i1 root setup (Ok walked) (Ok r) has.loads reports.worktree.faults reports.opens (ap (λ (x : Report). x.outcome.read_dir_calls) same ∙ reports.opens.counted) (λ start named. ap (λ (x : Report). x.root) same ∙ named) (omega arith) (omega arith) (omega arith);
        }

    -- there is no memory to describe it
    MakesReport-memory : (walked : WalkReport) → WalksBySetup w f i wl w1 o0 o1 i0 i1 root setup (Ok walked)
        → MakesReportBySetup w f i w0 w1 o0 o1 i0 i1 root setup (Err errors.OutOfMemory)
    MakesReport-memory walked reports =
        record {
          gives = λ s told quiet. tt;
          orderly = tt;
          named = λ t told quiet. tt;
          misread = λ t told. tt;
          outside = tt;
          alone = tt;
          stops = tt;
          loaded = tt;
          loaded_walk = tt;
          about = tt;
          found = λ s told. tt;
          cause = tt;
          interrupted = tt;
          listing = tt;
          no_root = λ t told quiet. tt;
          refused = λ s told quiet. tt;
          complete = λ s told quiet stored calm valid. refl;
          worktree = kept_later w w0 wl w1 _ has.loads reports.worktree;
          store = reports.store;
          interrupt = reports.interrupt;
          listed = tt;
          calm = tt;
          opens = opened_later w f i w0 wl w1 o0 i0 i1 root setup (Ok walked) (Err errors.OutOfMemory) has.loads reports.worktree.faults reports.opens tt (λ start named. tt) (omega arith) (omega arith) (omega arith);
        }

    -- the walk was refused
    MakesReport-refused : (e : Error) → WalksBySetup w f i wl w1 o0 o1 i0 i1 root setup (Err e)
        → MakesReportBySetup w f i w0 w1 o0 o1 i0 i1 root setup (Err (report_error_of_walk_error e))
    MakesReport-refused e reports =
        record {
          gives = λ s told quiet. tt;
          orderly = tt;
          named = λ t told quiet. tt;
          misread = λ t told. walk_is_later _ known (known_is t told) e;
          outside = walk_is_inside (IsMisreadOfSetup root setup) e;
          alone = walk_is_no_reading (ReadsOnlySubmoduleFiles w w0 w1 o0 o1 i0 i1 setup) e;
          stops = walk_stops_nothing w w0 w1 setup e;
          loaded = tt;
          loaded_walk = on_walk (λ x. ReadsSubmoduleFilesFirst w w0 w1 (count_files_if_submodules_asked setup)) e (record { loaded = wl; has = has; behind = reports.worktree });
          about = on_walk _ e (subst (λ (b : Bool). IsWalkErrorAboutInput b root setup e) has.loads.precomposes reports.about);
          found = λ s told. on_walk _ e (subst (λ (b : Bool). IsWalkErrorFoundInTree b root setup (f.holds o0) s e) has.loads.precomposes (reports.found s (has.loads.tree ∙ told)));
          cause = failed_walk _ _ _ e (rose_before _ _ _ has.loads.faults) reports.cause;
          interrupted = on_walk _ e reports.interrupted;
          listing = on_walk _ e (subst (λ (n : ℕ). HoldsIfListingFault (CountIncreasedOrSaturated n (w.list_faults w1)) e) has.loads.list_faults reports.listing);
          no_root = λ t told quiet. on_walk _ e (subst (λ (b : Bool). IsErrorOfUnenteredRoot b t root setup e) has.loads.precomposes (reports.no_root t (has.loads.tree ∙ told) (quiet_later _ _ _ has.loads.faults quiet)));
          refused = λ s told quiet.
              on_walk _ e
              (subst (λ (b : Bool). IsWalkErrorOfSetup b s root setup (CountIncreasedOrSaturated (f.faults o0) (f.faults o1)) e) has.loads.precomposes
              (reports.refused s (told_later w f w0 wl o0 _ _ s has.loads told) (quiet_later _ _ _ has.loads.faults quiet)));
          complete = λ s told quiet stored calm valid.
              ap report_error_of_walk_error
              (reports.complete s (told_later w f w0 wl o0 _ _ s has.loads told) (quiet_later _ _ _ has.loads.faults quiet) stored calm
              (subst (λ (b : Bool). HasReportOrIsWalkable (walk_setting_of_setup b root setup) (stack_setup_if_excludes_option root setup) s setup.root setup.depth) (sym has.loads.precomposes) valid.walkable));
          worktree = kept_later w w0 wl w1 _ has.loads reports.worktree;
          store = reports.store;
          interrupt = reports.interrupt;
          listed = tt;
          calm = tt;
          opens = opened_later w f i w0 wl w1 o0 i0 i1 root setup (Err e) (Err (report_error_of_walk_error e)) has.loads reports.worktree.faults reports.opens tt (λ start named. tt) (omega arith) (unlisted_so_too e) (deep_so_too e);
        }

    pub MakesReport-described : (walked : Result WalkReport Error) (result : Result Report ReportError) → WalksBySetup w f i wl w1 o0 o1 i0 i1 root setup walked → IsReportOfWalkResult result known walked
        → MakesReportBySetup w f i w0 w1 o0 o1 i0 i1 root setup result
    MakesReport-described (Ok walked) (Ok r) reports is = MakesReport-walked walked r reports is
    MakesReport-described (Ok walked) (Err error) reports is = rw is (MakesReport-memory walked reports)
    MakesReport-described (Err e) (Ok r) reports is = absurd is
    MakesReport-described (Err e) (Err error) reports is = rw is (MakesReport-refused e reports)
