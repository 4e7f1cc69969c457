-- A status, once a report is made or refused, and its text.
use Rattle.std.proofs.Common.{◌≡◌, ◌≤◌, ◌+◌, ◌++◌, ℕ, List, Bool, inl, inr, Option, Some, Result, Ok, Err, IfOk, IfErr, OnOk, IsErrOf, ap, refl, sym, ◌∙◌, subst, option_map, arith}
use Rattle.gitbase_core.specs.declared.entry.IndexEntry.{IndexEntry}
use Rattle.gitbase_core.specs.declared.find.Find.{Ghosts as FindOf}
use Rattle.worktree_fs.specs.declared.interrupt.Interrupt.{Ghosts as InterruptOf}
use Rattle.worktree_fs.specs.declared.worktree.Worktree.{Ghosts as WorktreeOf}
use Rattle.worktree_fs.specs.Causes.{CountNotIncreased, CountIncreasedOrSaturated}
use Rattle.worktree_fs.specs.Kept.{KeepsTreeAndListCounts}
use Rattle.worktree_fs.specs.Tree.{Names}
use Rattle.worktree_stack.specs.Reading.{TreeAndObjects}
use Rattle.dir_walk.specs.declared.strategy.Strategy.{Strategy}
use Rattle.dir_walk.specs.Opens.{CountsListingsByStrategy}
use Rattle.worktree_report.specs.declared.error.ReportError.{ReportError}
use Rattle.worktree_report.specs.declared.error.ReportError.TheVariants as reports
use Rattle.worktree_report.specs.declared.refusal.Refusal.{Refusal}
use Rattle.worktree_report.specs.declared.refusal.Refusal.TheVariants as refusals
use Rattle.worktree_report.specs.declared.report.Report.{Report}
use Rattle.worktree_report.specs.declared.setup.Setup.{Setup}
use Rattle.worktree_report.specs.Asked.{sources_of_tree_and_setup, report_text_of_setup, IsReportOfSetup, ListsDirectoriesOfReport}
use Rattle.worktree_report.specs.Behind.{MakesReportTextFirst, RefusesTextWithCause}
use Rattle.worktree_report.specs.Lines.{text_of_report}
use Rattle.worktree_report.specs.Reported.{MakesReportBySetup, MakesTextBySetup}
use Rattle.worktree_report.proofs.Answered.{told-blobs, Texts-ok, Texts-refused}
use Rattle.worktree_report.proofs.Refusing.{FailsMeanwhile-behind, MakesFirst-is}
use Rattle.worktree_report.proofs.ReportMade.{report_is}
use Rattle.index_status.specs.declared.error.StatesError.{StatesError}
use Rattle.index_status.specs.declared.error.StatesError.TheVariants as states
use Rattle.index_status.specs.declared.error.StatusError.{StatusError}
use Rattle.index_status.specs.declared.error.StatusError.TheVariants as errors
use Rattle.index_status.specs.declared.report_beside.IndexStatus.{IndexStatus}
use Rattle.index_status.specs.Lines.{lines_of_states_not_same, states_and_report_text}
use Rattle.index_status.specs.Rows.{IsLookedAtForSomeEntry, RefusesStatesWithCause, PathAndState, rows_of_index_over_tree}
use Rattle.index_status.specs.Run as top
use Rattle.index_status.specs.States.{most_reads_for_entries}
use Rattle.index_status.specs.Status.{status_error_of_report_error, status_error_of_states_error, ComparesBesideReport, StatusComparesAfterReport, IsStatusOverTree, MakesReportAndComparesIndex, RefusesStatusWithStatesCause}

-- which error is answered
which : {T : Type 0} {from to : StatusError} → IsErrOf {T = T} (Err from) to → from ≡ to
which is = cc

-- what did not rise later on did not rise before
quiet_before : (before middle now : ℕ) → middle ≤ now → CountNotIncreased before now → CountNotIncreased before middle
quiet_before before middle now later quiet = omega arith

always : {T E P : Type 0} (result : Result T E) → P → OnOk result P
always (Ok answer) p = p
always (Err e) p = tt

-- ---- the states beside a report

refused-states : (told : Option Names) (root : List ℕ) (entries : List IndexEntry) (Failed : Type 0) (e : StatesError) → RefusesStatesWithCause told root entries Failed e → RefusesStatusWithStatesCause told root entries Failed (status_error_of_states_error e)
refused-states told root entries Failed (states.Fault path) h = h
refused-states told root entries Failed states.OutOfMemory h = tt

pub Compares-refused : {W : Type 0} {w : WorktreeOf W} {w0 w1 : W} {root : List ℕ} {entries : List IndexEntry} {report : Report} (e : StatesError)
    → RefusesStatesWithCause (w.told w0) root entries (CountIncreasedOrSaturated (w.faults w0) (w.faults w1)) e → KeepsTreeAndListCounts w w0 w1 → w.reads w1 ≤ w.reads w0 + most_reads_for_entries entries → ComparesBesideReport w w0 w1 root entries report (Err (status_error_of_states_error e))
Compares-refused {w = w} {w0} {w1} {root} {entries} e of asks few =
    record {
      gives = λ t told. tt;
      possible = tt;
      ascends = tt;
      conflicted = tt;
      beside = tt;
      reads = few;
      read = tt;
      unfaulted = tt;
      refused = refused-states (w.told w0) root entries (CountIncreasedOrSaturated (w.faults w0) (w.faults w1)) e of;
      keeps = asks;
    }

-- ---- the report, and the states if there is one

which-report : (e refused : ReportError) → status_error_of_report_error e ≡ errors.Report refused → e ≡ refused
which-report (reports.Config at line) refused is = cc
which-report (reports.Modules line) refused is = cc
which-report (reports.ActiveSpec at) refused is = cc
which-report reports.ReadFault refused is = cc
which-report (reports.Walk walk) refused is = cc
which-report reports.OutOfMemory refused is = absurd cc

no_memory : (e : ReportError) → status_error_of_report_error e ≡ errors.Report reports.OutOfMemory → ⊥
no_memory (reports.Config at line) is = absurd cc
no_memory (reports.Modules line) is = absurd cc
no_memory (reports.ActiveSpec at) is = absurd cc
no_memory reports.ReadFault is = absurd cc
no_memory (reports.Walk walk) is = absurd cc
no_memory reports.OutOfMemory is = absurd cc

no_fault : (e : ReportError) (path : List ℕ) → status_error_of_report_error e ≡ errors.Fault path → ⊥
no_fault (reports.Config at line) path is = absurd cc
no_fault (reports.Modules line) path is = absurd cc
no_fault (reports.ActiveSpec at) path is = absurd cc
no_fault reports.ReadFault path is = absurd cc
no_fault (reports.Walk walk) path is = absurd cc
no_fault reports.OutOfMemory path is = absurd cc

module _ {W F I : Type 0} {w : WorktreeOf W} {f : FindOf F} {i : InterruptOf I} {w0 w1 : W} {o0 o1 : F} {i0 i1 : I} {root : List ℕ} {setup : Setup} where
  -- there is no report
  pub MakesStatus-refused : (e : ReportError) → MakesReportBySetup w f i w0 w1 o0 o1 i0 i1 root setup (Err e) → MakesReportAndComparesIndex w f i w0 w1 o0 o1 i0 i1 root setup (Err (status_error_of_report_error e))
  MakesStatus-refused e made =
      record {
        gives = λ s told quiet. tt;
        possible = tt;
        ascends = tt;
        conflicted = tt;
        beside = tt;
        no_report = λ refused is. subst (λ (x : ReportError). MakesReportBySetup w f i w0 w1 o0 o1 i0 i1 root setup (Err x)) (which-report e refused (which is)) made;
        no_memory = λ is. no_memory e (which is);
        cause = λ path is. absurd (no_fault e path (which is));
        later = λ path is t told. absurd (no_fault e path (which is));
        at = λ path is. absurd (no_fault e path (which is));
        complete = λ s told quiet stored calm valid. ap status_error_of_report_error (made.complete s told quiet stored calm valid);
        worktree = made.worktree;
        lists = λ at_once. subst (λ (strategy : Strategy). CountsListingsByStrategy strategy (w.lists w0) (w.lists w1) made.opens.opened) at_once made.opens.listed;
        store = made.store;
        interrupt = made.interrupt;
        listed = tt;
        calm = tt;
      }

status-is : {W : Type 0} (w : WorktreeOf W) (w0 w1 w2 : W) (root : List ℕ) (setup : Setup) (s : TreeAndObjects) (r : Report) (result : Result IndexStatus StatusError)
    → ComparesBesideReport w w1 w2 root setup.index r result → w.told w1 ≡ Some s.tree → IsReportOfSetup (w.precomposes w0) s root setup r → IfOk result (IsStatusOverTree (w.precomposes w0) s root setup)
status-is w w0 w1 w2 root setup s r (Ok status) compares told is =
    record { paths = compares.gives s.tree told; report = subst (λ (x : Report). IsReportOfSetup (w.precomposes w0) s root setup x) (sym compares.beside) is }
status-is w w0 w1 w2 root setup s r (Err e) compares told is = tt

beside-is : {W F I : Type 0} (w : WorktreeOf W) (f : FindOf F) (i : InterruptOf I) (w0 w1 w2 : W) (o0 o1 : F) (i0 i1 : I) (root : List ℕ) (setup : Setup) (r : Report)
    (result : Result IndexStatus StatusError) → MakesReportBySetup w f i w0 w1 o0 o1 i0 i1 root setup (Ok r) → ComparesBesideReport w w1 w2 root setup.index r result
    → IfOk result (StatusComparesAfterReport w f i w0 w2 o0 o1 i0 i1 root setup)
beside-is w f i w0 w1 w2 o0 o1 i0 i1 root setup r (Ok status) made compares =
    record {
      between = w1;
      made = subst (λ (x : Report). MakesReportBySetup w f i w0 w1 o0 o1 i0 i1 root setup (Ok x)) (sym compares.beside) made;
      asks = compares.keeps;
      reads = compares.reads;
      read = compares.read;
      unfaulted = compares.unfaulted;
      paths = λ t told. compares.gives t (made.worktree.tree ∙ told);
    }
beside-is w f i w0 w1 w2 o0 o1 i0 i1 root setup r (Err e) made compares = tt

only_memory : {W : Type 0} (w : WorktreeOf W) (w0 w1 w2 : W) (root : List ℕ) (entries : List IndexEntry) (r : Report) (result : Result IndexStatus StatusError)
    → ComparesBesideReport w w1 w2 root entries r result → w.faults w0 ≤ w.faults w1 → CountNotIncreased (w.faults w0) (w.faults w2) → IfErr result (λ e. e ≡ errors.OutOfMemory)
only_memory w w0 w1 w2 root entries r (Ok status) compares faults quiet = tt
only_memory w w0 w1 w2 root entries r (Err (errors.Report e)) compares faults quiet = absurd compares.refused
only_memory w w0 w1 w2 root entries r (Err (errors.Fault path)) compares faults quiet = absurd (let rose = compares.refused.0 in omega (arith, faults, rose, quiet))
only_memory w w0 w1 w2 root entries r (Err errors.OutOfMemory) compares faults quiet = refl

module _ {W F I : Type 0} {w : WorktreeOf W} {f : FindOf F} {i : InterruptOf I} {w0 w1 w2 : W} {o0 o1 : F} {i0 i1 : I} {root : List ℕ} {setup : Setup} where
  -- there is one, and the index paths are looked at
  pub MakesStatus-beside : (r : Report) (result : Result IndexStatus StatusError) → MakesReportBySetup w f i w0 w1 o0 o1 i0 i1 root setup (Ok r) → ComparesBesideReport w w1 w2 root setup.index r result
      → MakesReportAndComparesIndex w f i w0 w2 o0 o1 i0 i1 root setup result
  MakesStatus-beside r result made compares =
      let unless : (e : StatusError) → IsErrOf result e → RefusesStatusWithStatesCause (w.told w1) root setup.index (CountIncreasedOrSaturated (w.faults w1) (w.faults w2)) e =
      λ e is. subst (λ x. IfErr x (RefusesStatusWithStatesCause (w.told w1) root setup.index (CountIncreasedOrSaturated (w.faults w1) (w.faults w2)))) is compares.refused in
      record {
        gives = λ s told quiet. status-is w w0 w1 w2 root setup s r result compares (made.worktree.tree ∙ told.tree_is) (made.gives s told (quiet_before _ _ _ compares.keeps.faults quiet));
        possible = compares.possible;
        ascends = compares.ascends;
        conflicted = compares.conflicted;
        beside = beside-is w f i w0 w1 w2 o0 o1 i0 i1 root setup r result made compares;
        no_report = λ e is. absurd (unless (errors.Report e) is);
        no_memory = λ is. unless (errors.Report reports.OutOfMemory) is;
        cause = λ path is. record { between = w1; report = r; made = made; asks = compares.keeps; reads = compares.reads; rose = (unless (errors.Fault path) is).0 };
        later = λ path is t told. (made.orderly.known, made.orderly.known_is t told);
        at = λ path is. subst (λ (told : Option Names). IsLookedAtForSomeEntry told root setup.index path) made.worktree.tree (unless (errors.Fault path) is).1;
        complete = λ s told quiet stored calm valid. only_memory w w0 w1 w2 root setup.index r result compares made.worktree.faults quiet;
        worktree =
            record {
              tree = compares.keeps.tree ∙ made.worktree.tree;
              faults = omega (arith, made.worktree.faults, compares.keeps.faults);
              list_faults = omega (arith, made.worktree.list_faults, compares.keeps.list_faults);
              reads = omega (arith, made.worktree.reads, compares.keeps.reads);
              lists = omega (arith, made.worktree.lists, compares.keeps.lists);
              precomposes = compares.keeps.precomposes ∙ made.worktree.precomposes;
            };
        lists = λ at_once.
            let once : w.lists w1 ≤ w.lists w0 + 1 =
            subst (λ (strategy : Strategy). CountsListingsByStrategy strategy (w.lists w0) (w.lists w1) made.opens.opened) at_once made.opens.listed in
            let same = compares.keeps.lists in
            omega (arith, once, same);
        store = made.store;
        interrupt = made.interrupt;
        listed = always result (compares.keeps.list_faults ∙ made.listed);
        calm = always result made.calm;
      }

-- ---- texts

text-of : (composes : Bool) (t : Names) (root : List ℕ) (setup : Setup) (status : IndexStatus) (text : List ℕ) → text ≡ states_and_report_text setup.options status
    → status.paths.items ≡ rows_of_index_over_tree t root setup.index → report_text_of_setup composes t root setup ≡ Some (text_of_report setup.options status.report) → top.status_text_over_tree composes t root setup ≡ Some text
text-of composes t root setup status text same paths is =
    ap (option_map (λ (report : List ℕ). lines_of_states_not_same (rows_of_index_over_tree t root setup.index) ++ report)) is
    ∙ ap (λ (l : List ℕ). Some l) (ap (λ (r : List PathAndState). lines_of_states_not_same r ++ text_of_report setup.options status.report) (sym paths)) ∙ ap (λ (l : List ℕ). Some l) (sym same)

module _ {W F I : Type 0} {w : WorktreeOf W} {f : FindOf F} {i : InterruptOf I} {w0 w1 : W} {o0 o1 : F} {i0 i1 : I} {root : List ℕ} {setup : Setup} where
  -- the report comes first
  first-by : (status : IndexStatus) → StatusComparesAfterReport w f i w0 w1 o0 o1 i0 i1 root setup status → f.holds o0 ≡ Some setup.blobs
      → MakesReportTextFirst w i (w.precomposes w0) w0 w1 i0 i1 root setup (most_reads_for_entries setup.index)
  first-by status beside held = MakesFirst-is (most_reads_for_entries setup.index) status.report beside.made held beside.asks beside.reads

  -- the text of a status, where nothing failed
  pub StatusTexts-ok : (status : IndexStatus) (text : List ℕ) → MakesReportAndComparesIndex w f i w0 w1 o0 o1 i0 i1 root setup (Ok status) → f.holds o0 ≡ Some setup.blobs → text ≡ states_and_report_text setup.options status
      → CountNotIncreased (w.faults w0) (w.faults w1) → top.AnswersStatusTextOrRefusal w i (w.precomposes w0) w0 w1 i0 i1 root setup (Ok text)
  StatusTexts-ok status text made held lines quiet =
      record {
        gives = λ t told.
            let is = made.gives (sources_of_tree_and_setup t setup) (told-blobs setup held told) quiet in
            text-of (w.precomposes w0) t root setup status text lines is.paths (ap (option_map (text_of_report setup.options)) (report_is is.report));
        orderly =
            let beside = made.beside in
            record {
              states = status.paths.items;
              report = text_of_report setup.options status.report;
              text_is = lines;
              exact = beside.paths;
              possible = made.possible;
              ascends = made.ascends;
              read = let read = beside.read in let first = beside.made.worktree.reads in omega (arith, read, first);
              orderly = record { made = status.report; orderly = beside.made.orderly; text_is = refl };
            };
        unfaulted = quiet;
        made = first-by status made.beside held;
        safe = λ t told. let is = made.gives (sources_of_tree_and_setup t setup) (told-blobs setup held told) quiet in record { made = status.report; is = is.report };
        works = λ t told.
            let beside = made.beside in
            let texts : MakesTextBySetup w i (w.precomposes w0) w0 beside.between i0 i1 root setup (Ok (text_of_report setup.options status.report)) = Texts-ok status.report (text_of_report setup.options status.report) beside.made held refl in
            record { between = w.reads beside.between; report = texts.works t told (quiet_before _ _ _ beside.asks.faults quiet); states = beside.reads };
        opens = λ t told.
            let beside = made.beside in
            let texts : MakesTextBySetup w i (w.precomposes w0) w0 beside.between i0 i1 root setup (Ok (text_of_report setup.options status.report)) = Texts-ok status.report (text_of_report setup.options status.report) beside.made held refl in
            subst (λ (n : ℕ). ListsDirectoriesOfReport (w.precomposes w0) t root setup (w.lists w0) n) (sym beside.asks.lists) (texts.opens t told (quiet_before _ _ _ beside.asks.faults quiet));
        lists = made.lists;
        refused = tt;
        worktree = made.worktree;
        interrupt = made.interrupt;
        listed = made.listed;
        calm = made.calm;
      }

  -- there is a status, and the worktree failed while it was made
  pub StatusTexts-failed : (status : IndexStatus) → MakesReportAndComparesIndex w f i w0 w1 o0 o1 i0 i1 root setup (Ok status) → f.holds o0 ≡ Some setup.blobs → CountIncreasedOrSaturated (w.faults w0) (w.faults w1)
      → top.AnswersStatusTextOrRefusal w i (w.precomposes w0) w0 w1 i0 i1 root setup (Err refusals.Fault)
  StatusTexts-failed status made held rose =
      record {
        gives = λ t told. tt;
        orderly = tt;
        unfaulted = tt;
        made = tt;
        safe = λ t told. tt;
        works = λ t told. tt;
        opens = λ t told. tt;
        lists = made.lists;
        refused = inr (inl (refl, record { first = first-by status made.beside held; rose = rose }));
        worktree = made.worktree;
        interrupt = made.interrupt;
        listed = tt;
        calm = tt;
      }

  -- no memory for the text, or for what the refusal says
  pub StatusTexts-memory : {result : Result IndexStatus StatusError} → MakesReportAndComparesIndex w f i w0 w1 o0 o1 i0 i1 root setup result → top.AnswersStatusTextOrRefusal w i (w.precomposes w0) w0 w1 i0 i1 root setup (Err refusals.OutOfMemory)
  StatusTexts-memory made =
      record {
        gives = λ t told. tt;
        orderly = tt;
        unfaulted = tt;
        made = tt;
        safe = λ t told. tt;
        works = λ t told. tt;
        opens = λ t told. tt;
        lists = made.lists;
        refused = inl refl;
        worktree = made.worktree;
        interrupt = made.interrupt;
        listed = tt;
        calm = tt;
      }

  refused-text : (e : StatusError) (refusal : Refusal) → MakesReportAndComparesIndex w f i w0 w1 o0 o1 i0 i1 root setup (Err e) → f.holds o0 ≡ Some setup.blobs → CountNotIncreased (f.faults o0) (f.faults o1)
      → refusal ≡ top.refusal_of_status_error e → RefusesTextWithCause w i (w.precomposes w0) w0 w1 i0 i1 root setup (most_reads_for_entries setup.index) refusal
  refused-text (errors.Report e) refusal made held kept same = inr (inr (Texts-refused e refusal (made.no_report e refl) held kept same))
  refused-text (errors.Fault path) refusal made held kept same =
      let fails = made.cause path refl in
      inr (inl (same, FailsMeanwhile-behind (most_reads_for_entries setup.index) fails.report fails.made held fails.asks fails.reads fails.rose))
  refused-text errors.OutOfMemory refusal made held kept same = inl same

  -- the refusal that stands for that of a status
  pub StatusTexts-refused : (e : StatusError) (refusal : Refusal) → MakesReportAndComparesIndex w f i w0 w1 o0 o1 i0 i1 root setup (Err e) → f.holds o0 ≡ Some setup.blobs → CountNotIncreased (f.faults o0) (f.faults o1)
      → refusal ≡ top.refusal_of_status_error e → top.AnswersStatusTextOrRefusal w i (w.precomposes w0) w0 w1 i0 i1 root setup (Err refusal)
  StatusTexts-refused e refusal made held kept same =
      record {
        gives = λ t told. tt;
        orderly = tt;
        unfaulted = tt;
        made = tt;
        safe = λ t told. tt;
        works = λ t told. tt;
        opens = λ t told. tt;
        lists = made.lists;
        refused = refused-text e refusal made held kept same;
        worktree = made.worktree;
        interrupt = made.interrupt;
        listed = tt;
        calm = tt;
      }
