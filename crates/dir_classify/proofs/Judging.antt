-- What a question about a path answers and leaves, put together from its steps.
use Rattle.std.proofs.Common.{◌≡◌, ◌≤◌, ◌+◌, ◌∙◌, ap, sym, ℕ, List, Bool, true, false, ◌&&◌, Option, Some, None, Ok, Err, refl, inl, inr, arith}
use Rattle.std.specs.Prelude.{if◌then◌else◌, ◌⊎◌}
use Rattle.gitbase_core.specs.declared.find.Find.{Ghosts as FindOf}
use Rattle.worktree_fs.specs.Causes.{CountIncreasedOrSaturated, CountNotIncreased}
use Rattle.worktree_fs.specs.Kept.{KeepsTreeAndListCounts}
use Rattle.worktree_fs.specs.Paths.{root_joined_with_relative}
use Rattle.worktree_fs.specs.Tree.{Names}
use Rattle.worktree_fs.specs.declared.worktree.Worktree.{Ghosts as WorktreeOf}
use Rattle.worktree_stack.specs.Reading.{TreeAndObjects}
use Rattle.worktree_stack.specs.Setup.{StackSetup}
use Rattle.worktree_stack.specs.Stacked.{StackModel}
use Rattle.dir_classify.specs.declared.classify.Outcome.{Outcome}
use Rattle.dir_classify.specs.declared.entry.Kind.{Kind}
use Rattle.dir_classify.specs.declared.error.Error.{Error}
use Rattle.dir_classify.specs.declared.index.InIndex.{InIndex}
use Rattle.dir_classify.specs.Class.{asks_nothing_of_worktree, class, outcome_without_possible_match, is_path_named_dot_git, may_have_tested_for_repository, kind_by_index_caller_or_disk, outcome_of_path_of_known_kind, asks_rules_with_known_kind, asks_nothing_with_known_kind, is_kind_known_without_disk}
use Rattle.dir_classify.specs.Classes.{AnswersClassQuestion}
use Rattle.dir_classify.specs.Evidence.{PathEvidence}
use Rattle.dir_classify.specs.Excludes.{setup_of_optional_stack, TellsTreeAndObjects}
use Rattle.dir_classify.specs.Faults.{CountsFaultsAtLeast, IsOutcomeWithRulesReadOrUnasked, IsOutcomeAsRead, kind_unless_failed, no_question_failed, count_of_flag, evidence_as_read}
use Rattle.dir_classify.specs.Kept.{LeavesRulesUnasked}
use Rattle.std.specs.Option.{option_or}
use Rattle.dir_classify.specs.Kinds.{is_dir}
use Rattle.dir_classify.specs.Layers.{WalkSetting, evidence_from_setting_and_sources, index_kinds_by_setting, kind_of_node_at, kind_on_disk_if_asked}
use Rattle.dir_classify.specs.Reads.{most_reads_to_classify_path}
use Rattle.dir_classify.specs.Question.{ClassQuestion, question_about_dot_git, question_about_known_kind, question_about_path}
use Rattle.dir_classify.proofs.AsksRulesAboutPath.{asking-later}
use Rattle.dir_classify.proofs.Classed.{asked-as, asked-kind, classed-as, classed-as-judged, classed-kind}
use Rattle.dir_classify.proofs.Fitting.{asks-dot_git, can_match-of, dot_git-case, in_index-of, kind-asks, kind-case, kind-seeks, nothing-dot_git, nothing-kind, unmatched-asks, unmatched-case}
use Rattle.dir_classify.proofs.Keeping.{asks-same, at-most-later, quiet-first, quiet-second, read-not, tells-then, unasked-later}
use Rattle.dir_classify.proofs.Refusals.{OnAccess-weaker}
use Rattle.dir_classify.proofs.Upgrades.{judged-unread, rose-or}

-- ---- the rules were not asked

none-unread : (a b : Bool) → a ≡ false → (a && b) ≡ false
none-unread true b e = absurd (cc e)
none-unread false b e = refl

pub unruled : {W F : Type 0} (w : WorktreeOf W) (f : FindOf F) (w0 w1 : W) (o0 : F) (old : Option StackModel) (given : WalkSetting) (q : ClassQuestion) (c : Outcome)
    → KeepsTreeAndListCounts w w0 w1 → w.reads w1 ≤ w.reads w0 + most_reads_to_classify_path given.options
    → ((s : TreeAndObjects) → w.told w0 ≡ Some s.tree → CountNotIncreased (w.faults w0) (w.faults w1) → c ≡ q.judge (kind_on_disk_if_asked given s.tree q.path q.ask_disk) (evidence_from_setting_and_sources given (setup_of_optional_stack old) s))
    → ((s : TreeAndObjects) → w.told w0 ≡ Some s.tree → IsOutcomeAsRead (w.faults w0) (w.faults w1) q.judge (evidence_from_setting_and_sources given (setup_of_optional_stack old) s) (kind_on_disk_if_asked given s.tree q.path q.ask_disk) c)
    → ((s : TreeAndObjects) (kind : Option Kind) → q.asks kind (evidence_from_setting_and_sources given (setup_of_optional_stack old) s) ≡ false)
    → ((s : TreeAndObjects) → q.seeks (kind_on_disk_if_asked given s.tree q.path q.ask_disk) (evidence_from_setting_and_sources given (setup_of_optional_stack old) s) ≡ false → w.reads w1 ≡ w.reads w0)
    → (may_have_tested_for_repository given.options c ≡ false → w.reads w1 ≡ w.reads w0)
    → ((s : TreeAndObjects) → q.nothing (evidence_from_setting_and_sources given (setup_of_optional_stack old) s) ≡ true → (w1 ≡ w0) × (c ≡ q.judge None (evidence_from_setting_and_sources given (setup_of_optional_stack old) s)))
    → AnswersClassQuestion w f w0 w1 o0 o0 old old given q (Ok c)
unruled w f w0 w1 o0 old given q c kept reads is judged none unsought sought same =
    let unasked : LeavesRulesUnasked (most_reads_to_classify_path given.options) (w.reads w0) (w.reads w1) o0 o0 old old = record { same = refl; store = refl; reads = reads } in
    record {
      class = λ s tells step quiet. is s tells.tree_is quiet;
      read = λ s tells step quiet. rw (none s (kind_on_disk_if_asked given s.tree q.path q.ask_disk)) refl;
      swallowed = λ s tells step. let ev = evidence_from_setting_and_sources given (setup_of_optional_stack old) s in
          classed-as-judged (w.faults w0) (w.faults w1) q ev (kind_on_disk_if_asked given s.tree q.path q.ask_disk) c (judged s tells.tree_is)
          (λ kind. none-unread (q.asks kind ev) (ev.is_unread q.path) (none s kind)) (λ kind no. unasked);
      unruled = λ s told quiet no. is s told quiet;
      asking = record {
        about = tt;
        refused = λ s tells. tt;
        stopped = tt;
        cause = tt;
        keeps = kept;
        store = record { holds = refl; faults = omega arith };
        unmapped = λ none. refl;
        rules = record { made = refl; in_step = λ s tells step. step };
        reads = inl unasked;
      };
      asked = λ s told. tt;
      unsought = λ s tells step quiet no. inl (record { same = refl; store = refl; reads = read-not 0 (unsought s no) });
      sought = λ no. inl (record { same = refl; store = refl; reads = read-not 0 (sought no) });
      early = tt;
      spared = λ s never. unasked;
      memory = λ s never. tt;
      unasked = λ s told quiet no. unasked;
      unread = λ s told quiet no none_sought. unsought s none_sought;
      untouched = λ s h. record { worktree = (same s h).0; store = refl; rules = refl };
      certain = λ s h. (same s h).1;
    }

module _ {W F : Type 0} (w : WorktreeOf W) (f : FindOf F) (w0 w1 : W) (o0 o1 : F) (old new : Option StackModel) (given : WalkSetting) (path : List ℕ) (known : Option Kind) (ask_disk : Bool)
    (is : is_path_named_dot_git given.options.ignore_case path ≡ true) where
  abbrev dot_git : ClassQuestion
  dot_git = question_about_dot_git given.options path known ask_disk

  abbrev any_path : ClassQuestion
  any_path = question_about_path given.options path known ask_disk

  same-asks : (s : TreeAndObjects) (k : Option Kind) → dot_git.asks k (evidence_from_setting_and_sources given (setup_of_optional_stack old) s) ≡ any_path.asks k (evidence_from_setting_and_sources given (setup_of_optional_stack old) s)
  same-asks s k = asks-dot_git given.options (evidence_from_setting_and_sources given (setup_of_optional_stack old) s) path known k is

  same-class : (ev : PathEvidence) (k : Option Kind) → dot_git.judge k ev ≡ any_path.judge k ev
  same-class ev k = dot_git-case given.options ev path known k is

  pub at-dot_git : (c : Outcome) → AnswersClassQuestion w f w0 w1 o0 o1 old new given (question_about_dot_git given.options path known ask_disk) (Ok c)
      → AnswersClassQuestion w f w0 w1 o0 o1 old new given (question_about_path given.options path known ask_disk) (Ok c)
  at-dot_git c j =
      record {
        class = λ s tells step quiet. j.class s tells step quiet ∙ same-class (evidence_from_setting_and_sources given (setup_of_optional_stack old) s) (kind_on_disk_if_asked given s.tree path ask_disk);
        read = λ s tells step quiet.
            ap (λ b. b && (evidence_from_setting_and_sources given (setup_of_optional_stack old) s).is_unread path) (sym (same-asks s (kind_on_disk_if_asked given s.tree path ask_disk))) ∙ j.read s tells step quiet;
        swallowed = λ s tells step. let ev = evidence_from_setting_and_sources given (setup_of_optional_stack old) s in
            classed-as (w.faults w0) (w.faults w1) dot_git any_path ev (kind_on_disk_if_asked given s.tree path ask_disk) c refl (λ k failed. same-class (evidence_as_read failed ev) k) (same-asks s) (j.swallowed s tells step);
        unruled = λ s told quiet no.
            j.unruled s told quiet (same-asks s (kind_on_disk_if_asked given s.tree path ask_disk) ∙ no) ∙ same-class (evidence_from_setting_and_sources given (setup_of_optional_stack old) s) (kind_on_disk_if_asked given s.tree path ask_disk);
        asking = j.asking;
        asked = λ s told. tt;
        unsought = λ s tells step quiet no. j.unsought s tells step quiet refl;
        sought = j.sought;
        early = tt;
        spared = λ s never. j.spared s (λ k. same-asks s (if ask_disk then k else None) ∙ never k);
        memory = λ s never. tt;
        unasked = λ s told quiet no. j.unasked s told quiet (same-asks s (kind_on_disk_if_asked given s.tree path ask_disk) ∙ no);
        unread = λ s told quiet no none_sought. j.unread s told quiet (same-asks s (kind_on_disk_if_asked given s.tree path ask_disk) ∙ no) refl;
        untouched = λ s h. j.untouched s (nothing-dot_git given.options (evidence_from_setting_and_sources given (setup_of_optional_stack old) s) path known ask_disk is h);
        certain = λ s h. let ev = evidence_from_setting_and_sources given (setup_of_optional_stack old) s in
            j.certain s (nothing-dot_git given.options ev path known ask_disk is h) ∙ same-class ev None;
      }

  pub at-dot_git-refused : (e : Error) → AnswersClassQuestion w f w0 w1 o0 o1 old new given (question_about_dot_git given.options path known ask_disk) (Err e)
      → AnswersClassQuestion w f w0 w1 o0 o1 old new given (question_about_path given.options path known ask_disk) (Err e)
  at-dot_git-refused e j =
      record {
        class = λ s tells step quiet. tt;
        read = λ s tells step quiet. tt;
        swallowed = λ s tells step. tt;
        unruled = λ s told quiet no. tt;
        asking = j.asking;
        asked = λ s told. let ev = evidence_from_setting_and_sources given (setup_of_optional_stack old) s in
            asked-as (w.faults w0) (w.faults w1) (λ k. dot_git.asks k ev) (λ k. any_path.asks k ev) (kind_on_disk_if_asked given s.tree path ask_disk) e (same-asks s) (j.asked s told);
        unsought = λ s tells step quiet no. j.unsought s tells step quiet refl;
        sought = tt;
        early = j.early;
        spared = λ s never. j.spared s (λ k. same-asks s (if ask_disk then k else None) ∙ never k);
        memory = λ s never. j.memory s (λ k. same-asks s (if ask_disk then k else None) ∙ never k);
        unasked = λ s told quiet no. j.unasked s told quiet (same-asks s (kind_on_disk_if_asked given s.tree path ask_disk) ∙ no);
        unread = λ s told quiet no none_sought. j.unread s told quiet (same-asks s (kind_on_disk_if_asked given s.tree path ask_disk) ∙ no) refl;
        untouched = λ s h. j.untouched s (nothing-dot_git given.options (evidence_from_setting_and_sources given (setup_of_optional_stack old) s) path known ask_disk is h);
        certain = λ s h. tt;
      }

pub at-unmatched : {W F : Type 0} (w : WorktreeOf W) (f : FindOf F) (w0 : W) (o0 : F) (old : Option StackModel) (given : WalkSetting) (path : List ℕ) (known : Option Kind) (ask_disk : Bool) (c : Outcome)
    → is_path_named_dot_git given.options.ignore_case path ≡ false → given.can_match path (is_dir known) ≡ false → c ≡ outcome_without_possible_match known
    → AnswersClassQuestion w f w0 w0 o0 o0 old old given (question_about_path given.options path known ask_disk) (Ok c)
at-unmatched w f w0 o0 old given path known ask_disk c none cannot is =
    let unmatched = λ (s : TreeAndObjects). can_match-of given (setup_of_optional_stack old) s path (is_dir known) ∙ cannot in
    unruled w f w0 w0 o0 old given (question_about_path given.options path known ask_disk) c (asks-same w w0) (read-not (most_reads_to_classify_path given.options) refl)
    (λ s told quiet. is ∙ unmatched-case given.options (evidence_from_setting_and_sources given (setup_of_optional_stack old) s) path known (kind_on_disk_if_asked given s.tree path ask_disk) none (unmatched s))
    (λ s told. let ev = evidence_from_setting_and_sources given (setup_of_optional_stack old) s in
    judged-unread (w.faults w0) (w.faults w0) (λ k read. class given.options read path known k) ev (kind_on_disk_if_asked given s.tree path ask_disk) c (omega arith)
    (is ∙ unmatched-case given.options (evidence_as_read no_question_failed ev) path known (kind_on_disk_if_asked given s.tree path ask_disk) none (unmatched s)))
    (λ s k. unmatched-asks given.options (evidence_from_setting_and_sources given (setup_of_optional_stack old) s) path known k none (unmatched s))
    (λ s no. refl) (λ no. refl)
    (λ s no. (refl, is ∙ unmatched-case given.options (evidence_from_setting_and_sources given (setup_of_optional_stack old) s) path known None none (unmatched s)))

-- ---- once the kind is settled

-- a kind that is known, or some other
any-kind : (ask_disk : Bool) (up_to_date known kind : Option Kind) → (is_kind_known_without_disk ask_disk up_to_date known ≡ true → kind ≡ option_or up_to_date known)
    → (seen_kind : Option Kind) × (kind ≡ option_or up_to_date (option_or known (if ask_disk then seen_kind else None)))
any-kind false (Some u) known kind is = (None, is refl)
any-kind false None (Some k) kind is = (None, is refl)
any-kind false None None kind is = (None, is refl)
any-kind true (Some u) known kind is = (None, is refl)
any-kind true None (Some k) kind is = (None, is refl)
any-kind true None None kind is = (kind, refl)

first-none : (k : Option Kind) → k ≡ option_or k None
first-none None = refl
first-none (Some k) = refl

-- nothing is asked, so the worktree was not asked for the kind, and is not asked for more
still-kind : {W : Type 0} (given : WalkSetting) (made : Option StackSetup) (s : TreeAndObjects) (path : List ℕ) (known : Option Kind) (ask_disk : Bool) (entry : InIndex) (kind : Option Kind) (w0 w1 : W)
    → entry ≡ index_kinds_by_setting given path → is_path_named_dot_git given.options.ignore_case path ≡ false → given.can_match path (is_dir known) ≡ true
    → (is_kind_known_without_disk ask_disk entry.up_to_date known ≡ true → (kind ≡ option_or entry.up_to_date known) × (w1 ≡ w0))
    → asks_nothing_of_worktree given.options (evidence_from_setting_and_sources given made s) path known ask_disk ≡ true
    → (w1 ≡ w0) × (asks_nothing_with_known_kind given.options (evidence_from_setting_and_sources given made s) path kind ≡ true) × (kind ≡ kind_by_index_caller_or_disk (evidence_from_setting_and_sources given made s) path known None)
still-kind given made s path known ask_disk entry kind w0 w1 entry_is none can untouched still =
    let ev = evidence_from_setting_and_sources given made s in
    let at : entry ≡ ev.in_index path = entry_is ∙ sym (in_index-of given made s path) in
    let parts = nothing-kind given.options ev path known ask_disk none (can_match-of given made s path (is_dir known) ∙ can) still in
    let same = untouched (ap (λ (i : InIndex). is_kind_known_without_disk ask_disk i.up_to_date known) at ∙ parts.0) in
    let kind_is : kind ≡ option_or (ev.in_index path).up_to_date known = same.0 ∙ ap (λ (i : InIndex). option_or i.up_to_date known) at in
    (same.1, ap (asks_nothing_with_known_kind given.options ev path) kind_is ∙ parts.1, kind_is ∙ ap (option_or (ev.in_index path).up_to_date) (first-none known))

module _ {W F : Type 0} (w : WorktreeOf W) (f : FindOf F) (w0 w1 w2 : W) (o0 o1 : F) (old new : Option StackModel) (given : WalkSetting) (path full : List ℕ) (known : Option Kind) (ask_disk : Bool)
    (entry : InIndex) (kind : Option Kind)
    (full_is : full ≡ root_joined_with_relative given.root path) (entry_is : entry ≡ index_kinds_by_setting given path)
    (none : is_path_named_dot_git given.options.ignore_case path ≡ false) (can : given.can_match path (is_dir known) ≡ true) (first : KeepsTreeAndListCounts w w0 w1) (unread : w.reads w1 ≡ w.reads w0)
    (exact : (t : Names) → w.told w0 ≡ Some t → CountNotIncreased (w.faults w0) (w.faults w1)
    → kind ≡ option_or entry.up_to_date (option_or known (if ask_disk then kind_of_node_at t full false else None)))
    (swallowed : (t : Names) → w.told w0 ≡ Some t → (kind ≡ option_or entry.up_to_date (option_or known (if ask_disk then kind_of_node_at t full false else None)))
    ⊎ (kind ≡ option_or entry.up_to_date (option_or known None)))
    (untouched : is_kind_known_without_disk ask_disk entry.up_to_date known ≡ true → (kind ≡ option_or entry.up_to_date known) × (w1 ≡ w0)) where
  abbrev settled_so : ClassQuestion
  settled_so = question_about_known_kind given.options path kind ask_disk

  abbrev any_so : ClassQuestion
  any_so = question_about_path given.options path known ask_disk

  abbrev seen : Names → Option Kind
  seen t = kind_on_disk_if_asked given t path ask_disk

  disk_is : (t : Names) → (if ask_disk then kind_of_node_at t full false else None) ≡ seen t
  disk_is t = ap (λ (p : List ℕ). if ask_disk then kind_of_node_at t p false else None) full_is

  settled : (s : TreeAndObjects) (k d : Option Kind) → k ≡ option_or entry.up_to_date (option_or known d) → k ≡ kind_by_index_caller_or_disk (evidence_from_setting_and_sources given (setup_of_optional_stack old) s) path known d
  settled s k d is =
      is ∙ ap (λ (e : InIndex). option_or e.up_to_date (option_or known d)) (entry_is ∙ sym (in_index-of given (setup_of_optional_stack old) s path))

  exactly-settled : (s : TreeAndObjects) → w.told w0 ≡ Some s.tree → CountNotIncreased (w.faults w0) (w.faults w1) → kind ≡ kind_by_index_caller_or_disk (evidence_from_setting_and_sources given (setup_of_optional_stack old) s) path known (seen s.tree)
  exactly-settled s told quiet =
      settled s kind (seen s.tree) (exact s.tree told quiet ∙ ap (λ (d : Option Kind). option_or entry.up_to_date (option_or known d)) (disk_is s.tree))

  can-of : (s : TreeAndObjects) → (evidence_from_setting_and_sources given (setup_of_optional_stack old) s).can_match path (is_dir known) ≡ true
  can-of s = can_match-of given (setup_of_optional_stack old) s path (is_dir known) ∙ can

  tells-now : (s : TreeAndObjects) → TellsTreeAndObjects (w.told w0) (f.holds o0) (setup_of_optional_stack old) s → TellsTreeAndObjects (w.told w1) (f.holds o0) (setup_of_optional_stack old) s
  tells-now s tells = tells-then (w.told w0) (w.told w1) (f.holds o0) (setup_of_optional_stack old) s first.tree tells

  -- what it asks, looks for and is, by the kind that it was settled by
  asks-by : (s : TreeAndObjects) (d : Option Kind) → kind ≡ kind_by_index_caller_or_disk (evidence_from_setting_and_sources given (setup_of_optional_stack old) s) path known d
      → asks_rules_with_known_kind given.options (evidence_from_setting_and_sources given (setup_of_optional_stack old) s) path kind ≡ any_so.asks d (evidence_from_setting_and_sources given (setup_of_optional_stack old) s)
  asks-by s d is = let ev = evidence_from_setting_and_sources given (setup_of_optional_stack old) s in
      ap (λ (x : Option Kind). asks_rules_with_known_kind given.options ev path x) is ∙ kind-asks given.options ev path known d none (can-of s)

  seeks-by : (s : TreeAndObjects) (d : Option Kind) → kind ≡ kind_by_index_caller_or_disk (evidence_from_setting_and_sources given (setup_of_optional_stack old) s) path known d
      → settled_so.seeks d (evidence_from_setting_and_sources given (setup_of_optional_stack old) s) ≡ any_so.seeks d (evidence_from_setting_and_sources given (setup_of_optional_stack old) s)
  seeks-by s d is = let ev = evidence_from_setting_and_sources given (setup_of_optional_stack old) s in
      ap (λ (x : Option Kind). (question_about_known_kind given.options path x ask_disk).seeks d ev) is ∙ kind-seeks given.options ev path known d none (can-of s)

  class-by : (s : TreeAndObjects) (d : Option Kind) → kind ≡ kind_by_index_caller_or_disk (evidence_from_setting_and_sources given (setup_of_optional_stack old) s) path known d
      → outcome_of_path_of_known_kind given.options (evidence_from_setting_and_sources given (setup_of_optional_stack old) s) path kind ≡ any_so.judge d (evidence_from_setting_and_sources given (setup_of_optional_stack old) s)
  class-by s d is = let ev = evidence_from_setting_and_sources given (setup_of_optional_stack old) s in
      ap (λ (x : Option Kind). outcome_of_path_of_known_kind given.options ev path x) is ∙ kind-case given.options ev path known d none (can-of s)

  -- told or not, it is settled by some kind
  seen-as : (seen_kind : Option Kind) × (kind ≡ option_or entry.up_to_date (option_or known (if ask_disk then seen_kind else None)))
  seen-as = any-kind ask_disk entry.up_to_date known kind (λ is. (untouched is).0)

  never-by : (s : TreeAndObjects) → ((k : Option Kind) → any_so.asks (if ask_disk then k else None) (evidence_from_setting_and_sources given (setup_of_optional_stack old) s) ≡ false)
      → asks_rules_with_known_kind given.options (evidence_from_setting_and_sources given (setup_of_optional_stack old) s) path kind ≡ false
  never-by s never = asks-by s (if ask_disk then seen-as.0 else None) (settled s kind (if ask_disk then seen-as.0 else None) seen-as.1) ∙ never seen-as.0

  -- by the kind that was read
  read-by : (s : TreeAndObjects) → w.told w0 ≡ Some s.tree
      → (failed : Bool) × CountsFaultsAtLeast (w.faults w0) (w.faults w1) (count_of_flag failed) × (kind ≡ kind_by_index_caller_or_disk (evidence_from_setting_and_sources given (setup_of_optional_stack old) s) path known (kind_unless_failed failed (seen s.tree)))
  read-by s told = go (swallowed s.tree told) (rose-or (w.faults w0) (w.faults w1))
    where
      Read : Type 0
      Read = (failed : Bool) × CountsFaultsAtLeast (w.faults w0) (w.faults w1) (count_of_flag failed) × (kind ≡ kind_by_index_caller_or_disk (evidence_from_setting_and_sources given (setup_of_optional_stack old) s) path known (kind_unless_failed failed (seen s.tree)))

      exactly : kind ≡ option_or entry.up_to_date (option_or known (if ask_disk then kind_of_node_at s.tree full false else None)) → Read
      exactly is = (
        false,
        (let more = first.faults in omega (arith, more)),
        settled s kind (seen s.tree) (is ∙ ap (λ (d : Option Kind). option_or entry.up_to_date (option_or known d)) (disk_is s.tree)),
      )

      go : ((kind ≡ option_or entry.up_to_date (option_or known (if ask_disk then kind_of_node_at s.tree full false else None)))
          ⊎ (kind ≡ option_or entry.up_to_date (option_or known None))) → CountNotIncreased (w.faults w0) (w.faults w1) ⊎ CountIncreasedOrSaturated (w.faults w0) (w.faults w1) → Read
      go (inl is) said = exactly is
      go (inr is) (inl quiet) = exactly (exact s.tree told quiet)
      go (inr is) (inr rose) = (true, rose, settled s kind None is)

  classed-read : (s : TreeAndObjects) (c : Outcome) → w.told w0 ≡ Some s.tree
      → IsOutcomeWithRulesReadOrUnasked (w.faults w1) (w.faults w2) settled_so (evidence_from_setting_and_sources given (setup_of_optional_stack old) s) (seen s.tree) (LeavesRulesUnasked (most_reads_to_classify_path given.options) (w.reads w1) (w.reads w2) o0 o1 old new) c
      → IsOutcomeWithRulesReadOrUnasked (w.faults w0) (w.faults w2) any_so (evidence_from_setting_and_sources given (setup_of_optional_stack old) s) (seen s.tree) (LeavesRulesUnasked (most_reads_to_classify_path given.options) (w.reads w0) (w.reads w2) o0 o1 old new) c
  classed-read s c told classed =
      let ev = evidence_from_setting_and_sources given (setup_of_optional_stack old) s in
      let by = read-by s told in
      classed-kind (w.faults w0) (w.faults w1) (w.faults w2) settled_so any_so ev (seen s.tree) (seen s.tree) by.0 c
      (unasked-later (most_reads_to_classify_path given.options) (w.reads w0) (w.reads w1) (w.reads w2) o0 o1 old new unread) by.1 refl
      (λ failed. ap (λ (x : Option Kind). outcome_of_path_of_known_kind given.options (evidence_as_read failed ev) path x) by.2
      ∙ kind-case given.options (evidence_as_read failed ev) path known (kind_unless_failed by.0 (seen s.tree)) none (can-of s))
      (λ b. asks-by s (kind_unless_failed by.0 (seen s.tree)) by.2) classed

  pub at-kind : (c : Outcome) → AnswersClassQuestion w f w1 w2 o0 o1 old new given (question_about_known_kind given.options path kind ask_disk) (Ok c)
      → AnswersClassQuestion w f w0 w2 o0 o1 old new given (question_about_path given.options path known ask_disk) (Ok c)
  at-kind c later =
      let before = λ (quiet : CountNotIncreased (w.faults w0) (w.faults w2)). quiet-first (w.faults w0) (w.faults w1) (w.faults w2) first.faults later.asking.keeps.faults quiet in
      let after = λ (quiet : CountNotIncreased (w.faults w0) (w.faults w2)). quiet-second (w.faults w0) (w.faults w1) (w.faults w2) first.faults later.asking.keeps.faults quiet in
      record {
        class = λ s tells step quiet. later.class s (tells-now s tells) step (after quiet) ∙ class-by s (seen s.tree) (exactly-settled s tells.tree_is (before quiet));
        read = λ s tells step quiet.
            ap (λ b. b && (evidence_from_setting_and_sources given (setup_of_optional_stack old) s).is_unread path) (sym (asks-by s (seen s.tree) (exactly-settled s tells.tree_is (before quiet))))
            ∙ later.read s (tells-now s tells) step (after quiet);
        swallowed = λ s tells step. classed-read s c tells.tree_is (later.swallowed s (tells-now s tells) step);
        unruled = λ s told quiet no.
            let is = exactly-settled s told (before quiet) in
            later.unruled s (first.tree ∙ told) (after quiet) (asks-by s (seen s.tree) is ∙ no) ∙ class-by s (seen s.tree) is;
        asking = asking-later w f w0 w1 w2 o0 o1 old new (most_reads_to_classify_path given.options) path (Ok c) first unread later.asking;
        asked = λ s told. tt;
        unsought = λ s tells step quiet no.
            at-most-later 0 path (w.reads w0) (w.reads w1) (w.reads w2) o0 o1 old new (Ok c) unread
            (later.unsought s (tells-now s tells) step (after quiet) (seeks-by s (seen s.tree) (exactly-settled s tells.tree_is (before quiet)) ∙ no));
        sought = λ no. at-most-later 0 path (w.reads w0) (w.reads w1) (w.reads w2) o0 o1 old new (Ok c) unread (later.sought no);
        early = tt;
        spared = λ s never.
            unasked-later (most_reads_to_classify_path given.options) (w.reads w0) (w.reads w1) (w.reads w2) o0 o1 old new unread (later.spared s (λ k. never-by s never));
        memory = λ s never. tt;
        unasked = λ s told quiet no.
            unasked-later (most_reads_to_classify_path given.options) (w.reads w0) (w.reads w1) (w.reads w2) o0 o1 old new unread
            (later.unasked s (first.tree ∙ told) (after quiet) (asks-by s (seen s.tree) (exactly-settled s told (before quiet)) ∙ no));
        unread = λ s told quiet no none_sought.
            let is = exactly-settled s told (before quiet) in
            later.unread s (first.tree ∙ told) (after quiet) (asks-by s (seen s.tree) is ∙ no) (seeks-by s (seen s.tree) is ∙ none_sought) ∙ unread;
        untouched = λ s h.
            let kept = still-kind given (setup_of_optional_stack old) s path known ask_disk entry kind w0 w1 entry_is none can untouched h in
            let same = later.untouched s kept.1 in
            record { worktree = same.worktree ∙ kept.0; store = same.store; rules = same.rules };
        certain = λ s h.
            let kept = still-kind given (setup_of_optional_stack old) s path known ask_disk entry kind w0 w1 entry_is none can untouched h in
            later.certain s kept.1 ∙ class-by s None kept.2;
      }

  pub at-kind-refused : (e : Error) → AnswersClassQuestion w f w1 w2 o0 o1 old new given (question_about_known_kind given.options path kind ask_disk) (Err e)
      → AnswersClassQuestion w f w0 w2 o0 o1 old new given (question_about_path given.options path known ask_disk) (Err e)
  at-kind-refused e later =
      let before = λ (quiet : CountNotIncreased (w.faults w0) (w.faults w2)). quiet-first (w.faults w0) (w.faults w1) (w.faults w2) first.faults later.asking.keeps.faults quiet in
      let after = λ (quiet : CountNotIncreased (w.faults w0) (w.faults w2)). quiet-second (w.faults w0) (w.faults w1) (w.faults w2) first.faults later.asking.keeps.faults quiet in
      record {
        class = λ s tells step quiet. tt;
        read = λ s tells step quiet. tt;
        swallowed = λ s tells step. tt;
        unruled = λ s told quiet no. tt;
        asking = asking-later w f w0 w1 w2 o0 o1 old new (most_reads_to_classify_path given.options) path (Err e) first unread later.asking;
        asked = λ s told.
            let ev = evidence_from_setting_and_sources given (setup_of_optional_stack old) s in
            let by = read-by s told in
            asked-kind (w.faults w0) (w.faults w1) (w.faults w2) (λ k. settled_so.asks k ev) (λ k. any_so.asks k ev) (seen s.tree) (seen s.tree) by.0 e by.1 later.asking.keeps.faults
            (λ b. asks-by s (kind_unless_failed by.0 (seen s.tree)) by.2) (later.asked s (first.tree ∙ told));
        unsought = λ s tells step quiet no.
            at-most-later 0 path (w.reads w0) (w.reads w1) (w.reads w2) o0 o1 old new (Err e) unread
            (later.unsought s (tells-now s tells) step (after quiet) (seeks-by s (seen s.tree) (exactly-settled s tells.tree_is (before quiet)) ∙ no));
        sought = tt;
        early = OnAccess-weaker _ _ e (at-most-later 0 path (w.reads w0) (w.reads w1) (w.reads w2) o0 o1 old new (Err e) unread) later.early;
        spared = λ s never.
            unasked-later (most_reads_to_classify_path given.options) (w.reads w0) (w.reads w1) (w.reads w2) o0 o1 old new unread (later.spared s (λ k. never-by s never));
        memory = λ s never. later.memory s (λ k. never-by s never);
        unasked = λ s told quiet no.
            unasked-later (most_reads_to_classify_path given.options) (w.reads w0) (w.reads w1) (w.reads w2) o0 o1 old new unread
            (later.unasked s (first.tree ∙ told) (after quiet) (asks-by s (seen s.tree) (exactly-settled s told (before quiet)) ∙ no));
        unread = λ s told quiet no none_sought.
            let is = exactly-settled s told (before quiet) in
            later.unread s (first.tree ∙ told) (after quiet) (asks-by s (seen s.tree) is ∙ no) (seeks-by s (seen s.tree) is ∙ none_sought) ∙ unread;
        untouched = λ s h.
            let kept = still-kind given (setup_of_optional_stack old) s path known ask_disk entry kind w0 w1 entry_is none can untouched h in
            let same = later.untouched s kept.1 in
            record { worktree = same.worktree ∙ kept.0; store = same.store; rules = same.rules };
        certain = λ s h. tt;
      }
