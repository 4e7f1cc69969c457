-- The text of a report, or the refusal of the program that stands for that of a report.
use Rattle.std.proofs.Common.{◌≡◌, ◌⊎◌, ◌≤◌, ◌+◌, ◌-◌, ◌^◌, min, inl, inr, ℕ, List, Option, Bool, Some, Result, Ok, Err, IsErrOf, refl, sym, ap, ◌∙◌, subst, option_map, arith}
use Rattle.std.proofs.lemmas.Option.{same_Some}
use Rattle.gitbase_core.specs.Objects.{ObjectsById}
use Rattle.gitbase_core.specs.declared.find.Find.{Ghosts as FindOf}
use Rattle.worktree_fs.specs.declared.interrupt.Interrupt.{Ghosts as InterruptOf}
use Rattle.worktree_fs.specs.declared.worktree.Worktree.{Ghosts as WorktreeOf}
use Rattle.worktree_fs.specs.Causes.{CountNotIncreased}
use Rattle.worktree_fs.specs.Tree.{Names}
use Rattle.worktree_stack.specs.declared.error.AtPathError.{AtPathError}
use Rattle.worktree_stack.specs.declared.error.AtPathError.TheVariants as inner
use Rattle.worktree_stack.specs.declared.error.BlobWhy.TheVariants as blobs
use Rattle.worktree_stack.specs.declared.error.RulesWhy.TheVariants as rules
use Rattle.worktree_stack.specs.Refused as lookups
use Rattle.worktree_stack.specs.Setup.{StackSetup}
use Rattle.dir_classify.specs.declared.error.Error.{Error}
use Rattle.dir_classify.specs.declared.error.Error.TheVariants as walk
use Rattle.dir_classify.specs.declared.error.MetadataWhy.TheVariants as metadata
use Rattle.dir_classify.specs.declared.error.ReadWhy.TheVariants as why
use Rattle.dir_classify.specs.Excludes.{TellsTreeAndObjects}
use Rattle.dir_classify.specs.Refused.{HoldsIfFaultError}
use Rattle.dir_walk.specs.declared.strategy.Strategy.{Strategy}
use Rattle.dir_walk.specs.Opens.{CountsListingsByStrategy}
use Rattle.dir_walk.specs.Kept.{HoldsIfInterrupted}
use Rattle.dir_walk.specs.Root.{walk_over_sources}
use Rattle.dir_walk.specs.Walks.{most_opened_in_walk}
use Rattle.dir_walk.proofs.Refused.Weaker.{WalkRefuses-weaker}
use Rattle.worktree_report.specs.declared.error.ReportError.{ReportError}
use Rattle.worktree_report.specs.declared.error.ReportError.TheVariants as errors
use Rattle.worktree_report.specs.declared.known.Known.{Known}
use Rattle.worktree_report.specs.declared.refusal.Misread.{Misread}
use Rattle.worktree_report.specs.declared.refusal.WalkWord.{WalkWord}
use Rattle.worktree_report.specs.declared.report.Report.{Report}
use Rattle.worktree_report.specs.declared.setup.Setup.{Setup}
use Rattle.worktree_report.specs.declared.refusal.Refusal.{Refusal}
use Rattle.worktree_report.specs.declared.refusal.Refusal.TheVariants as refusals
use Rattle.worktree_report.specs.Asked.{walk_setting_of_setup, sources_of_tree_and_setup, report_of, IsWalkErrorAboutInput, IsWalkErrorFoundInTree, IsWordAndPathAboutInput, ListsDirectoriesOfReport, ReadsAtMostAsWalkAndModules, IsWalkErrorOfSetup, RefusesWalkWithWordAndPath}
use Rattle.worktree_report.specs.Excluding.{stack_setup_if_excludes_option}
use Rattle.worktree_report.specs.Converted.{refusal_of_lookup_error, refusal_of_report_error, refusal_of_walk_error, IsRefusalOfMakingReport}
use Rattle.worktree_report.specs.Loading.{count_files_if_submodules_asked, known_submodules_in_tree, IsKnownWithoutMisread}
use Rattle.worktree_report.specs.Outside.{count_files_read_to_misread, FailsReadingBeforeWalk, IsMisreadOfSetup, ReadsOnlySubmoduleFiles, MisreadsBeforeWalk, HoldsOfMisread, HoldsIfReadingError, StopsReadingAtError}
use Rattle.worktree_report.specs.Lines.{text_of_report}
use Rattle.worktree_report.specs.Reported.{ReadsSubmoduleFilesFirst, MakesReportBySetup, MisreadsExactlyWhereSaid, HoldsIfReportFault, HoldsOfWalkError, HoldsIfWalkRefusal, MakesTextBySetup}
use Rattle.worktree_report.proofs.ReportMade.{report_is}

-- ---- refusals

fault-of_lookup : (Failed Stored : Type 0) → (Stored → ⊥) → (e : AtPathError) → lookups.HoldsOnFaultError Failed Stored e → refusal_of_lookup_error e ≡ refusals.Fault → Failed
fault-of_lookup Failed Stored never inner.NotNormal h is = absurd cc
fault-of_lookup Failed Stored never (inner.Component c) h is = absurd cc
fault-of_lookup Failed Stored never (inner.Collision path) h is = absurd cc
fault-of_lookup Failed Stored never (inner.Directory path c) h is = absurd cc
fault-of_lookup Failed Stored never (inner.RulesFile path rules.Link) h is = absurd cc
fault-of_lookup Failed Stored never (inner.RulesFile path rules.LinkLimit) h is = absurd cc
fault-of_lookup Failed Stored never (inner.RulesFile path rules.Special) h is = absurd cc
fault-of_lookup Failed Stored never (inner.RulesFile path rules.Fault) h is = h
fault-of_lookup Failed Stored never (inner.Blob id blobs.Missing) h is = absurd cc
fault-of_lookup Failed Stored never (inner.Blob id blobs.NotABlob) h is = absurd cc
fault-of_lookup Failed Stored never (inner.Blob id blobs.Fault) h is = absurd (never h)
fault-of_lookup Failed Stored never inner.OutOfMemory h is = absurd cc

-- a fault is told where the worktree failed, as the store never does
fault-of_walk : (Failed Stored : Type 0) → (Stored → ⊥) → (e : Error) → HoldsIfFaultError Failed Stored e → refusal_of_walk_error e ≡ refusals.Fault → Failed
fault-of_walk Failed Stored never walk.Interrupted h is = absurd cc
fault-of_walk Failed Stored never (walk.NormalizeRoot root) h is = absurd cc
fault-of_walk Failed Stored never (walk.SymlinkInRoot root worktree_root index) h is = absurd cc
fault-of_walk Failed Stored never (walk.SymlinkMetadata path metadata.Absent) h is = absurd cc
fault-of_walk Failed Stored never (walk.SymlinkMetadata path metadata.Fault) h is = h
fault-of_walk Failed Stored never (walk.WorktreeRootIsFile root) h is = absurd cc
fault-of_walk Failed Stored never (walk.ExcludesAccess e) h is = fault-of_lookup Failed Stored never e h is
fault-of_walk Failed Stored never (walk.ReadDir path why.Absent) h is = absurd cc
fault-of_walk Failed Stored never (walk.ReadDir path why.NotADirectory) h is = absurd cc
fault-of_walk Failed Stored never (walk.ReadDir path why.Fault) h is = h
fault-of_walk Failed Stored never (walk.DirEntry path) h is = h
fault-of_walk Failed Stored never (walk.TooDeep path) h is = absurd cc
fault-of_walk Failed Stored never walk.OutOfMemory h is = absurd cc

is_no_interrupt : (e : AtPathError) → refusal_of_lookup_error e ≡ refusals.Interrupted → ⊥
is_no_interrupt inner.NotNormal is = absurd cc
is_no_interrupt (inner.Component c) is = absurd cc
is_no_interrupt (inner.Collision path) is = absurd cc
is_no_interrupt (inner.Directory path c) is = absurd cc
is_no_interrupt (inner.RulesFile path rules.Link) is = absurd cc
is_no_interrupt (inner.RulesFile path rules.LinkLimit) is = absurd cc
is_no_interrupt (inner.RulesFile path rules.Special) is = absurd cc
is_no_interrupt (inner.RulesFile path rules.Fault) is = absurd cc
is_no_interrupt (inner.Blob id blobs.Missing) is = absurd cc
is_no_interrupt (inner.Blob id blobs.NotABlob) is = absurd cc
is_no_interrupt (inner.Blob id blobs.Fault) is = absurd cc
is_no_interrupt inner.OutOfMemory is = absurd cc

-- and an interrupt where that was raised
interrupt-of_walk : (Raised : Type 0) (e : Error) → HoldsIfInterrupted Raised e → refusal_of_walk_error e ≡ refusals.Interrupted → Raised
interrupt-of_walk Raised walk.Interrupted h is = h
interrupt-of_walk Raised (walk.NormalizeRoot root) h is = absurd cc
interrupt-of_walk Raised (walk.SymlinkInRoot root worktree_root index) h is = absurd cc
interrupt-of_walk Raised (walk.SymlinkMetadata path metadata.Absent) h is = absurd cc
interrupt-of_walk Raised (walk.SymlinkMetadata path metadata.Fault) h is = absurd cc
interrupt-of_walk Raised (walk.WorktreeRootIsFile root) h is = absurd cc
interrupt-of_walk Raised (walk.ExcludesAccess e) h is = absurd (is_no_interrupt e is)
interrupt-of_walk Raised (walk.ReadDir path why.Absent) h is = absurd cc
interrupt-of_walk Raised (walk.ReadDir path why.NotADirectory) h is = absurd cc
interrupt-of_walk Raised (walk.ReadDir path why.Fault) h is = absurd cc
interrupt-of_walk Raised (walk.DirEntry path) h is = absurd cc
interrupt-of_walk Raised (walk.TooDeep path) h is = absurd cc
interrupt-of_walk Raised walk.OutOfMemory h is = absurd cc

lookup_no_misread : (which : Misread) (e : AtPathError) → refusal_of_lookup_error e ≡ refusals.Misread which → ⊥
lookup_no_misread which inner.NotNormal is = absurd cc
lookup_no_misread which (inner.Component c) is = absurd cc
lookup_no_misread which (inner.Collision path) is = absurd cc
lookup_no_misread which (inner.Directory path c) is = absurd cc
lookup_no_misread which (inner.RulesFile path rules.Link) is = absurd cc
lookup_no_misread which (inner.RulesFile path rules.LinkLimit) is = absurd cc
lookup_no_misread which (inner.RulesFile path rules.Special) is = absurd cc
lookup_no_misread which (inner.RulesFile path rules.Fault) is = absurd cc
lookup_no_misread which (inner.Blob id blobs.Missing) is = absurd cc
lookup_no_misread which (inner.Blob id blobs.NotABlob) is = absurd cc
lookup_no_misread which (inner.Blob id blobs.Fault) is = absurd cc
lookup_no_misread which inner.OutOfMemory is = absurd cc

-- no walk says that a text is outside its grammar
is_no_misread : (which : Misread) (e : Error) → refusal_of_walk_error e ≡ refusals.Misread which → ⊥
is_no_misread which walk.Interrupted is = absurd cc
is_no_misread which (walk.NormalizeRoot root) is = absurd cc
is_no_misread which (walk.SymlinkInRoot root worktree_root index) is = absurd cc
is_no_misread which (walk.SymlinkMetadata path metadata.Absent) is = absurd cc
is_no_misread which (walk.SymlinkMetadata path metadata.Fault) is = absurd cc
is_no_misread which (walk.WorktreeRootIsFile root) is = absurd cc
is_no_misread which (walk.ExcludesAccess e) is = lookup_no_misread which e is
is_no_misread which (walk.ReadDir path why.Absent) is = absurd cc
is_no_misread which (walk.ReadDir path why.NotADirectory) is = absurd cc
is_no_misread which (walk.ReadDir path why.Fault) is = absurd cc
is_no_misread which (walk.DirEntry path) is = absurd cc
is_no_misread which (walk.TooDeep path) is = absurd cc
is_no_misread which walk.OutOfMemory is = absurd cc

lookup_of_walking : (e : AtPathError) → IsRefusalOfMakingReport (refusal_of_lookup_error e)
lookup_of_walking inner.NotNormal = tt
lookup_of_walking (inner.Component c) = tt
lookup_of_walking (inner.Collision path) = tt
lookup_of_walking (inner.Directory path c) = tt
lookup_of_walking (inner.RulesFile path rules.Link) = tt
lookup_of_walking (inner.RulesFile path rules.LinkLimit) = tt
lookup_of_walking (inner.RulesFile path rules.Special) = tt
lookup_of_walking (inner.RulesFile path rules.Fault) = tt
lookup_of_walking (inner.Blob id blobs.Missing) = tt
lookup_of_walking (inner.Blob id blobs.NotABlob) = tt
lookup_of_walking (inner.Blob id blobs.Fault) = tt
lookup_of_walking inner.OutOfMemory = tt

of_walking : (e : Error) → IsRefusalOfMakingReport (refusal_of_walk_error e)
of_walking walk.Interrupted = tt
of_walking (walk.NormalizeRoot root) = tt
of_walking (walk.SymlinkInRoot root worktree_root index) = tt
of_walking (walk.SymlinkMetadata path metadata.Absent) = tt
of_walking (walk.SymlinkMetadata path metadata.Fault) = tt
of_walking (walk.WorktreeRootIsFile root) = tt
of_walking (walk.ExcludesAccess e) = lookup_of_walking e
of_walking (walk.ReadDir path why.Absent) = tt
of_walking (walk.ReadDir path why.NotADirectory) = tt
of_walking (walk.ReadDir path why.Fault) = tt
of_walking (walk.DirEntry path) = tt
of_walking (walk.TooDeep path) = tt
of_walking walk.OutOfMemory = tt

-- ---- those of a report

misreads_at : {W F I : Type 0} (w : WorktreeOf W) (w0 w1 : W) (o0 o1 : F) (i0 i1 : I) (root : List ℕ) (setup : Setup) (which from : Misread)
    → IsMisreadOfSetup root setup from → ReadsOnlySubmoduleFiles w w0 w1 o0 o1 i0 i1 setup → w.reads w1 ≤ w.reads w0 + count_files_read_to_misread setup from
    → refusals.Misread from ≡ refusals.Misread which → MisreadsBeforeWalk w w0 w1 i0 i1 root setup which
misreads_at w w0 w1 o0 o1 i0 i1 root setup which from outside alone stops is =
    let same : from ≡ which = cc is in
    let loads = alone.loads in
    record {
      about = record { asked = alone.asked; outside = subst (IsMisreadOfSetup root setup) same outside };
      loads =
          record {
            tree = loads.tree;
            faults = loads.faults;
            list_faults = loads.list_faults;
            lists = loads.lists;
            precomposes = loads.precomposes;
            reads = subst (λ (m : Misread). w.reads w1 ≤ w.reads w0 + count_files_read_to_misread setup m) same stops;
            reads_kept = loads.reads_kept;
          };
      interrupt = alone.interrupt;
    }

fault-of_report : (Failed Stored : Type 0) → (Stored → ⊥) → (e : ReportError) → HoldsIfReportFault Failed Stored e → refusal_of_report_error e ≡ refusals.Fault → Failed
fault-of_report Failed Stored never (errors.Config at line) h is = absurd cc
fault-of_report Failed Stored never (errors.Modules line) h is = absurd cc
fault-of_report Failed Stored never (errors.ActiveSpec at) h is = absurd cc
fault-of_report Failed Stored never errors.ReadFault h is = h
fault-of_report Failed Stored never (errors.Walk e) h is = fault-of_walk Failed Stored never e h is
fault-of_report Failed Stored never errors.OutOfMemory h is = absurd cc

interrupt-of_report : (Raised : Type 0) (e : ReportError) → HoldsOfWalkError (HoldsIfInterrupted Raised) e → refusal_of_report_error e ≡ refusals.Interrupted → Raised
interrupt-of_report Raised (errors.Config at line) h is = absurd cc
interrupt-of_report Raised (errors.Modules line) h is = absurd cc
interrupt-of_report Raised (errors.ActiveSpec at) h is = absurd cc
interrupt-of_report Raised errors.ReadFault h is = absurd cc
interrupt-of_report Raised (errors.Walk e) h is = interrupt-of_walk Raised e h is
interrupt-of_report Raised errors.OutOfMemory h is = absurd cc

of_reporting : (e : ReportError) → IsRefusalOfMakingReport (refusal_of_report_error e)
of_reporting (errors.Config at line) = tt
of_reporting (errors.Modules line) = tt
of_reporting (errors.ActiveSpec at) = tt
of_reporting errors.ReadFault = tt
of_reporting (errors.Walk e) = of_walking e
of_reporting errors.OutOfMemory = tt

-- what is outside its grammar is said of the same
outside-of_report : {W F I : Type 0} (w : WorktreeOf W) (w0 w1 : W) (o0 o1 : F) (i0 i1 : I) (root : List ℕ) (setup : Setup) (which : Misread) (e : ReportError)
    → HoldsOfMisread (IsMisreadOfSetup root setup) e → HoldsIfReadingError (ReadsOnlySubmoduleFiles w w0 w1 o0 o1 i0 i1 setup) e → StopsReadingAtError w w0 w1 setup e → refusal_of_report_error e ≡ refusals.Misread which → MisreadsBeforeWalk w w0 w1 i0 i1 root setup which
outside-of_report w w0 w1 o0 o1 i0 i1 root setup which (errors.Config at line) outside alone stops is = misreads_at w w0 w1 o0 o1 i0 i1 root setup which _ outside alone stops is
outside-of_report w w0 w1 o0 o1 i0 i1 root setup which (errors.Modules line) outside alone stops is = misreads_at w w0 w1 o0 o1 i0 i1 root setup which _ outside alone stops is
outside-of_report w w0 w1 o0 o1 i0 i1 root setup which (errors.ActiveSpec at) outside alone stops is = misreads_at w w0 w1 o0 o1 i0 i1 root setup which _ outside alone stops is
outside-of_report w w0 w1 o0 o1 i0 i1 root setup which errors.ReadFault outside alone stops is = absurd cc
outside-of_report w w0 w1 o0 o1 i0 i1 root setup which (errors.Walk e) outside alone stops is = absurd (is_no_misread which e is)
outside-of_report w w0 w1 o0 o1 i0 i1 root setup which errors.OutOfMemory outside alone stops is = absurd cc

-- the interrupt is asked once all that tells of submodules is known
known-of_report : (given : Result (Option Known) Misread) (e : ReportError) → MisreadsExactlyWhereSaid given e → refusal_of_report_error e ≡ refusals.Interrupted → IsKnownWithoutMisread given
known-of_report given (errors.Config at line) h is = absurd cc
known-of_report given (errors.Modules line) h is = absurd cc
known-of_report given (errors.ActiveSpec at) h is = absurd cc
known-of_report given errors.ReadFault h is = absurd cc
known-of_report given (errors.Walk e) h is = h
known-of_report given errors.OutOfMemory h is = absurd cc

misread-of_report : (given : Result (Option Known) Misread) (which : Misread) (e : ReportError) → MisreadsExactlyWhereSaid given e → refusal_of_report_error e ≡ refusals.Misread which → given ≡ Err which
misread-of_report given which (errors.Config at line) h is = cc
misread-of_report given which (errors.Modules line) h is = cc
misread-of_report given which (errors.ActiveSpec at) h is = cc
misread-of_report given which errors.ReadFault h is = absurd cc
misread-of_report given which (errors.Walk e) h is = absurd (is_no_misread which e is)
misread-of_report given which errors.OutOfMemory h is = absurd cc

refused-of_report : (Stored : Type 0) → (Stored → ⊥) → (composes : Bool) (t : Names) (root : List ℕ) (setup : Setup) (word : WalkWord) (path : List ℕ) (e : ReportError)
    → HoldsOfWalkError (IsWalkErrorAboutInput composes root setup) e → HoldsOfWalkError (IsWalkErrorOfSetup composes (sources_of_tree_and_setup t setup) root setup Stored) e → MisreadsExactlyWhereSaid (known_submodules_in_tree t root setup) e
    → refusal_of_report_error e ≡ refusals.Walk word path → RefusesWalkWithWordAndPath composes t root setup word path
refused-of_report Stored never composes t root setup word path (errors.Config at line) about cause known is = absurd cc
refused-of_report Stored never composes t root setup word path (errors.Modules line) about cause known is = absurd cc
refused-of_report Stored never composes t root setup word path (errors.ActiveSpec at) about cause known is = absurd cc
refused-of_report Stored never composes t root setup word path errors.ReadFault about cause known is = absurd cc
refused-of_report Stored never composes t root setup word path (errors.Walk e) about cause known is =
    record {
      error = e;
      is = is;
      about = about;
      cause = WalkRefuses-weaker (walk_setting_of_setup composes root setup) (stack_setup_if_excludes_option root setup) (sources_of_tree_and_setup t setup) setup.depth Stored ⊥ never setup.root e cause;
      known = known;
    }
refused-of_report Stored never composes t root setup word path errors.OutOfMemory about cause known is = absurd cc

about-of_report : (composes : Bool) (told : Option Names) (root : List ℕ) (setup : Setup) (word : WalkWord) (path : List ℕ) (e : ReportError)
    → HoldsOfWalkError (IsWalkErrorAboutInput composes root setup) e → ((t : Names) → told ≡ Some t → HoldsOfWalkError (IsWalkErrorFoundInTree composes root setup (Some setup.blobs) (sources_of_tree_and_setup t setup)) e)
    → ((t : Names) → told ≡ Some t → MisreadsExactlyWhereSaid (known_submodules_in_tree t root setup) e) → refusal_of_report_error e ≡ refusals.Walk word path → IsWordAndPathAboutInput composes told root setup word path
about-of_report composes told root setup word path (errors.Config at line) about found known is = absurd cc
about-of_report composes told root setup word path (errors.Modules line) about found known is = absurd cc
about-of_report composes told root setup word path (errors.ActiveSpec at) about found known is = absurd cc
about-of_report composes told root setup word path errors.ReadFault about found known is = absurd cc
about-of_report composes told root setup word path (errors.Walk e) about found known is = record { error = e; is = is; about = about; known = known; found = found }
about-of_report composes told root setup word path errors.OutOfMemory about found known is = absurd cc

on-walking : (Holds : Type 0) (refusal : Refusal) → Holds → HoldsIfWalkRefusal Holds refusal
on-walking Holds refusals.Interrupted h = h
on-walking Holds refusals.Usage h = tt
on-walking Holds (refusals.Setup line) h = tt
on-walking Holds (refusals.Misread which) h = tt
on-walking Holds (refusals.Walk word path) h = h
on-walking Holds refusals.Fault h = tt
on-walking Holds refusals.Output h = tt
on-walking Holds refusals.OutOfMemory h = tt

-- what holds of a refused walk holds where its refusal is told
loaded-of_report : (Holds : Type 0) (e : ReportError) → HoldsOfWalkError (λ x. Holds) e → HoldsIfWalkRefusal Holds (refusal_of_report_error e)
loaded-of_report Holds (errors.Config at line) h = tt
loaded-of_report Holds (errors.Modules line) h = tt
loaded-of_report Holds (errors.ActiveSpec at) h = tt
loaded-of_report Holds errors.ReadFault h = tt
loaded-of_report Holds (errors.Walk e) h = on-walking Holds (refusal_of_walk_error e) h
loaded-of_report Holds errors.OutOfMemory h = tt

-- a fault comes before the walk, or where all that tells of submodules is in its grammar
late-of_report : {W F I : Type 0} (w : WorktreeOf W) (w0 w1 : W) (o0 o1 : F) (i0 i1 : I) (root : List ℕ) (setup : Setup) (e : ReportError)
    → HoldsIfReadingError (ReadsOnlySubmoduleFiles w w0 w1 o0 o1 i0 i1 setup) e → StopsReadingAtError w w0 w1 setup e → ((t : Names) → w.told w0 ≡ Some t → MisreadsExactlyWhereSaid (known_submodules_in_tree t root setup) e) → refusal_of_report_error e ≡ refusals.Fault
    → FailsReadingBeforeWalk w w0 w1 i0 i1 setup ⊎ ((t : Names) → w.told w0 ≡ Some t → IsKnownWithoutMisread (known_submodules_in_tree t root setup))
late-of_report w w0 w1 o0 o1 i0 i1 root setup (errors.Config at line) alone stops known is = absurd cc
late-of_report w w0 w1 o0 o1 i0 i1 root setup (errors.Modules line) alone stops known is = absurd cc
late-of_report w w0 w1 o0 o1 i0 i1 root setup (errors.ActiveSpec at) alone stops known is = absurd cc
late-of_report w w0 w1 o0 o1 i0 i1 root setup errors.ReadFault alone stops known is =
    inl (record { asked = alone.asked; lists = alone.loads.lists; interrupt = alone.interrupt; stops = stops })
late-of_report w w0 w1 o0 o1 i0 i1 root setup (errors.Walk e) alone stops known is = inr known
late-of_report w w0 w1 o0 o1 i0 i1 root setup errors.OutOfMemory alone stops known is = absurd cc

-- ---- texts

-- which refusal is answered
answered : {from which : Refusal} → IsErrOf {T = List ℕ} (Err from) which → from ≡ which
answered is = cc

-- a worktree tells its tree, and the store of a setup what it holds
pub told-blobs : {told : Option Names} {holds : Option ObjectsById} {made : Option StackSetup} {t : Names} (setup : Setup) → holds ≡ Some setup.blobs → told ≡ Some t → TellsTreeAndObjects told holds made (sources_of_tree_and_setup t setup)
told-blobs setup held tree = record { tree_is = tree; objects_are = λ some. held }

-- what is read once for each of some directories is for more of them
reads-more : (composes : Bool) (root : List ℕ) (setup : Setup) (result : Result Report ReportError) (before now opened most : ℕ) → opened ≤ most
    → ReadsAtMostAsWalkAndModules composes root setup result before now opened 0 → ReadsAtMostAsWalkAndModules composes root setup result before now most 0
reads-more composes root setup result before now opened most fits reads =
    record {
      between = reads.between;
      loaded = reads.loaded;
      walked = elim reads.walked [ inl same ↦ inl same | inr found ↦ inr (found.0, found.1, found.2, let few = found.3 in omega (arith, few, fits)) ];
    }

-- what is listed for the one report that there is
lists-at : (composes : Bool) (t : Names) (root : List ℕ) (setup : Setup) (r : Report) (lists0 lists1 : ℕ) → report_of composes (sources_of_tree_and_setup t setup) root setup ≡ Some r
    → (opened : ℕ) → opened ≤ most_opened_in_walk setup.depth (walk_over_sources (walk_setting_of_setup composes root setup) (stack_setup_if_excludes_option root setup) (sources_of_tree_and_setup t setup) setup.root) 0
    → CountsListingsByStrategy setup.options.strategy lists0 lists1 opened → r.outcome.read_dir_calls ≡ min opened (2 ^ 32 - 1) → ListsDirectoriesOfReport composes t root setup lists0 lists1
lists-at composes t root setup r lists0 lists1 is opened within listed counted =
    record {
      opened = opened;
      within = within;
      listed = listed;
      counted = λ other is_other. subst (λ (x : Report). x.outcome.read_dir_calls ≡ min opened (2 ^ 32 - 1)) (same_Some _ _ (sym is ∙ is_other)) counted;
    }

module _ {W F I : Type 0} {w : WorktreeOf W} {f : FindOf F} {i : InterruptOf I} {w0 w1 : W} {o0 o1 : F} {i0 i1 : I} {root : List ℕ} {setup : Setup} where
  -- the text of a report
  pub Texts-ok : (r : Report) (text : List ℕ) → MakesReportBySetup w f i w0 w1 o0 o1 i0 i1 root setup (Ok r) → f.holds o0 ≡ Some setup.blobs → text ≡ text_of_report setup.options r
      → MakesTextBySetup w i (w.precomposes w0) w0 w1 i0 i1 root setup (Ok text)
  Texts-ok r text reports held lines =
      record {
        gives = λ t told quiet. ap (option_map (text_of_report setup.options)) (report_is (reports.gives (sources_of_tree_and_setup t setup) (told-blobs setup held told) quiet)) ∙ ap (λ (x : List ℕ). Some x) (sym lines);
        orderly = record { made = r; orderly = reports.orderly; text_is = lines };
        safe = λ t told quiet. record { made = r; is = reports.gives (sources_of_tree_and_setup t setup) (told-blobs setup held told) quiet };
        works = λ t told quiet.
            record {
              made = r;
              is = report_is (reports.gives (sources_of_tree_and_setup t setup) (told-blobs setup held told) quiet);
              asked = let o = reports.opens.opened in let asks = reports.opens.asked in let counts = reports.opens.counted in omega (arith, asks, counts);
              reads = λ over_itself rules_alone.
                  reads-more (w.precomposes w0) root setup (Ok r) (w.reads w0) (w.reads w1) _ _ (reports.opens.within (sources_of_tree_and_setup t setup) (told-blobs setup held told) quiet)
                  (reports.opens.reads over_itself rules_alone);
            };
        opens = λ t told quiet.
            lists-at (w.precomposes w0) t root setup r (w.lists w0) (w.lists w1) (report_is (reports.gives (sources_of_tree_and_setup t setup) (told-blobs setup held told) quiet))
            reports.opens.opened (reports.opens.within (sources_of_tree_and_setup t setup) (told-blobs setup held told) quiet) reports.opens.listed reports.opens.counted;
        refused = λ t told quiet word path is. absurd cc;
        misread = λ t told which is. absurd cc;
        outside = λ which is. absurd cc;
        about = λ word path is. absurd cc;
        cause = λ is. absurd cc;
        fault_late = λ is. absurd cc;
        interrupted = λ is. absurd cc;
        interrupted_late = λ t told is. absurd cc;
        answers = tt;
        made =
            record {
              report = r;
              text_is = lines;
              orderly = reports.orderly;
              loaded = reports.loaded;
              opens =
                  record {
                    opened = reports.opens.opened;
                    within = λ t told quiet. reports.opens.within (sources_of_tree_and_setup t setup) (told-blobs setup held told) quiet;
                    listed = reports.opens.listed;
                    asked = reports.opens.asked;
                    counted = reports.opens.counted;
                    reads = reports.opens.reads;
                  };
            };
        loaded = tt;
        making = tt;
        complete = λ t told quiet calm valid. tt;
        worktree = reports.worktree;
        interrupt = reports.interrupt;
        listed = reports.listed;
        lists = λ at_once. subst (λ (strategy : Strategy). CountsListingsByStrategy strategy (w.lists w0) (w.lists w1) reports.opens.opened) at_once reports.opens.listed;
        calm = reports.calm;
      }

  -- no memory for the text, or for what the refusal says
  pub Texts-memory : {result : Result Report ReportError} → MakesReportBySetup w f i w0 w1 o0 o1 i0 i1 root setup result → MakesTextBySetup w i (w.precomposes w0) w0 w1 i0 i1 root setup (Err refusals.OutOfMemory)
  Texts-memory reports =
      record {
        gives = λ t told quiet. tt;
        orderly = tt;
        safe = λ t told quiet. tt;
        works = λ t told quiet. tt;
        opens = λ t told quiet. tt;
        refused = λ t told quiet word path is. absurd cc;
        misread = λ t told which is. absurd cc;
        outside = λ which is. absurd cc;
        about = λ word path is. absurd cc;
        cause = λ is. absurd cc;
        fault_late = λ is. absurd cc;
        interrupted = λ is. absurd cc;
        interrupted_late = λ t told is. absurd cc;
        answers = tt;
        made = tt;
        loaded = tt;
        making = inl refl;
        complete = λ t told quiet calm valid. refl;
        worktree = reports.worktree;
        interrupt = reports.interrupt;
        listed = tt;
        lists = λ at_once. subst (λ (strategy : Strategy). CountsListingsByStrategy strategy (w.lists w0) (w.lists w1) reports.opens.opened) at_once reports.opens.listed;
        calm = tt;
      }

  -- the refusal that stands for that of a report
  pub Texts-refused : (e : ReportError) (refusal : Refusal) → MakesReportBySetup w f i w0 w1 o0 o1 i0 i1 root setup (Err e) → f.holds o0 ≡ Some setup.blobs → CountNotIncreased (f.faults o0) (f.faults o1) → refusal ≡ refusal_of_report_error e
      → MakesTextBySetup w i (w.precomposes w0) w0 w1 i0 i1 root setup (Err refusal)
  Texts-refused e refusal reports held kept same =
      rw same
      (record {
        gives = λ t told quiet. tt;
        orderly = tt;
        safe = λ t told quiet. tt;
        works = λ t told quiet. tt;
        opens = λ t told quiet. tt;
        refused = λ t told quiet word path is.
            refused-of_report _ (λ stored. omega (arith, stored, kept)) (w.precomposes w0) t root setup word path e reports.about
            (reports.refused (sources_of_tree_and_setup t setup) (told-blobs setup held told) quiet) (reports.misread t told) (answered is);
        misread = λ t told which is. misread-of_report (known_submodules_in_tree t root setup) which e (reports.misread t told) (answered is);
        outside = λ which is. outside-of_report w w0 w1 o0 o1 i0 i1 root setup which e reports.outside reports.alone reports.stops (answered is);
        about = λ word path is.
            about-of_report (w.precomposes w0) (w.told w0) root setup word path e reports.about
            (λ t told. subst (λ (holds : Option ObjectsById). HoldsOfWalkError (IsWalkErrorFoundInTree (w.precomposes w0) root setup holds (sources_of_tree_and_setup t setup)) e) held (reports.found (sources_of_tree_and_setup t setup) told)) reports.misread (answered is);
        cause = λ is. fault-of_report _ _ (λ stored. omega (arith, stored, kept)) e reports.cause (answered is);
        fault_late = λ is. late-of_report w w0 w1 o0 o1 i0 i1 root setup e reports.alone reports.stops reports.misread (answered is);
        interrupted = λ is. interrupt-of_report _ e reports.interrupted (answered is);
        interrupted_late = λ t told is. known-of_report _ e (reports.misread t told) (answered is);
        answers = of_reporting e;
        made = tt;
        loaded = loaded-of_report (ReadsSubmoduleFilesFirst w w0 w1 (count_files_if_submodules_asked setup)) e reports.loaded_walk;
        making =
            inr (record {
              error = e;
              is = refl;
              opens =
                  record {
                    opened = reports.opens.opened;
                    within = λ t told quiet. reports.opens.within (sources_of_tree_and_setup t setup) (told-blobs setup held told) quiet;
                    listed = reports.opens.listed;
                    asked = reports.opens.asked;
                    counted = tt;
                    reads = reports.opens.reads;
                  };
            });
        complete = λ t told quiet calm valid. ap refusal_of_report_error (reports.complete (sources_of_tree_and_setup t setup) (told-blobs setup held told) quiet kept calm valid);
        worktree = reports.worktree;
        interrupt = reports.interrupt;
        listed = tt;
        lists = λ at_once. subst (λ (strategy : Strategy). CountsListingsByStrategy strategy (w.lists w0) (w.lists w1) reports.opens.opened) at_once reports.opens.listed;
        calm = tt;
      })
