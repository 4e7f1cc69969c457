-- The class of a path on the way to a traversal root, whose kind is asked first.
use Rattle.std.proofs.Common.{◌≡◌, ◌∙◌, ap, sym, ℕ, List, Bool, true, false, Option, Some, None, Ok, Err, refl, inl, inr, arith}
use Rattle.std.specs.Prelude.{◌⊎◌, ◌&&◌}
use Rattle.gitbase_core.specs.declared.find.Find.{Ghosts as FindOf}
use Rattle.worktree_fs.specs.Causes.{CountIncreasedOrSaturated, CountNotIncreased}
use Rattle.worktree_fs.specs.Kept.{KeepsTreeAndListCounts}
use Rattle.worktree_fs.specs.Paths.{root_joined_with_relative}
use Rattle.worktree_fs.specs.Tree.{Names}
use Rattle.worktree_fs.specs.declared.worktree.Worktree.{Ghosts as WorktreeOf}
use Rattle.worktree_stack.specs.Reading.{TreeAndObjects}
use Rattle.worktree_stack.specs.Stacked.{StackModel}
use Rattle.dir_classify.specs.declared.classify.Outcome.{Outcome}
use Rattle.dir_classify.specs.declared.entry.Kind.{Kind}
use Rattle.dir_classify.specs.declared.error.Error.{Error}
use Rattle.dir_classify.specs.Class.{class, asks_ignore_rules}
use Rattle.dir_classify.specs.Classes.{AnswersClassQuestion}
use Rattle.dir_classify.specs.Evidence.{PathEvidence}
use Rattle.dir_classify.specs.Excludes.{setup_of_optional_stack, TellsTreeAndObjects}
use Rattle.dir_classify.specs.Faults.{CountsFaultsAtLeast, IsOutcomeWithRulesReadOrUnasked, kind_unless_failed, count_of_flag, evidence_as_read}
use Rattle.dir_classify.specs.Kept.{LeavesRulesUnasked}
use Rattle.dir_classify.specs.Layers.{WalkSetting, evidence_from_setting_and_sources, kind_of_node_at, kind_on_disk_if_asked}
use Rattle.dir_classify.specs.Reads.{most_reads_to_classify_path}
use Rattle.dir_classify.specs.Question.{ClassQuestion, question_about_path, question_about_path_on_way}
use Rattle.dir_classify.proofs.AsksRulesAboutPath.{asking-later}
use Rattle.dir_classify.proofs.Classed.{asked-kind, classed-kind}
use Rattle.dir_classify.proofs.Keeping.{at-most-later, quiet-first, quiet-second, tells-then, unasked-later}
use Rattle.dir_classify.proofs.Refusals.{OnAccess-weaker}
use Rattle.dir_classify.proofs.Upgrades.{rose-or}

-- nothing reads as nothing
none-read : (failed : Bool) → kind_unless_failed failed None ≡ None
none-read true = refl
none-read false = refl

module _ {W F : Type 0} (w : WorktreeOf W) (f : FindOf F) (w0 w1 w2 : W) (o0 o1 : F) (old new : Option StackModel) (given : WalkSetting) (path full : List ℕ) (kind : Option Kind)
    (full_is : full ≡ root_joined_with_relative given.root path) (first : KeepsTreeAndListCounts w w0 w1) (unread : w.reads w1 ≡ w.reads w0)
    (exact : (t : Names) → w.told w0 ≡ Some t → CountNotIncreased (w.faults w0) (w.faults w1) → kind ≡ kind_of_node_at t full false)
    (swallowed : (t : Names) → w.told w0 ≡ Some t → (kind ≡ kind_of_node_at t full false) ⊎ (kind ≡ None)) where
  abbrev first_known : ClassQuestion
  first_known = question_about_path given.options path kind false

  abbrev any_so : ClassQuestion
  any_so = question_about_path_on_way given.options path

  abbrev seen : Names → Option Kind
  seen t = kind_on_disk_if_asked given t path true

  tells-now : (s : TreeAndObjects) → TellsTreeAndObjects (w.told w0) (f.holds o0) (setup_of_optional_stack old) s → TellsTreeAndObjects (w.told w1) (f.holds o0) (setup_of_optional_stack old) s
  tells-now s tells = tells-then (w.told w0) (w.told w1) (f.holds o0) (setup_of_optional_stack old) s first.tree tells

  disk_is : (t : Names) → kind_of_node_at t full false ≡ seen t
  disk_is t = ap (λ (p : List ℕ). kind_of_node_at t p false) full_is

  exactly : (s : TreeAndObjects) → w.told w0 ≡ Some s.tree → CountNotIncreased (w.faults w0) (w.faults w1) → kind ≡ seen s.tree
  exactly s told quiet = exact s.tree told quiet ∙ disk_is s.tree

  -- what it asks and is, by the kind that was asked first
  asks-by : (s : TreeAndObjects) (d : Option Kind) → kind ≡ d → first_known.asks None (evidence_from_setting_and_sources given (setup_of_optional_stack old) s) ≡ any_so.asks d (evidence_from_setting_and_sources given (setup_of_optional_stack old) s)
  asks-by s d is = ap (λ (k : Option Kind). asks_ignore_rules given.options (evidence_from_setting_and_sources given (setup_of_optional_stack old) s) path k None) is

  seeks-by : (s : TreeAndObjects) (d : Option Kind) → kind ≡ d → first_known.seeks None (evidence_from_setting_and_sources given (setup_of_optional_stack old) s) ≡ any_so.seeks d (evidence_from_setting_and_sources given (setup_of_optional_stack old) s)
  seeks-by s d is = ap (λ (k : Option Kind). any_so.seeks k (evidence_from_setting_and_sources given (setup_of_optional_stack old) s)) is

  class-by : (ev : PathEvidence) (d : Option Kind) → kind ≡ d → first_known.judge None ev ≡ any_so.judge d ev
  class-by ev d is = ap (λ (k : Option Kind). class given.options ev path k None) is

  -- by the kind that was read
  read-by : (s : TreeAndObjects) → w.told w0 ≡ Some s.tree → (failed : Bool) × CountsFaultsAtLeast (w.faults w0) (w.faults w1) (count_of_flag failed) × (kind ≡ kind_unless_failed failed (seen s.tree))
  read-by s told = go (swallowed s.tree told) (rose-or (w.faults w0) (w.faults w1))
    where
      Read : Type 0
      Read = (failed : Bool) × CountsFaultsAtLeast (w.faults w0) (w.faults w1) (count_of_flag failed) × (kind ≡ kind_unless_failed failed (seen s.tree))

      exact_kind : kind ≡ kind_of_node_at s.tree full false → Read
      exact_kind is = (false, (let more = first.faults in omega (arith, more)), is ∙ disk_is s.tree)

      go : (kind ≡ kind_of_node_at s.tree full false) ⊎ (kind ≡ None) → CountNotIncreased (w.faults w0) (w.faults w1) ⊎ CountIncreasedOrSaturated (w.faults w0) (w.faults w1) → Read
      go (inl is) said = exact_kind is
      go (inr is) (inl quiet) = exact_kind (exact s.tree told quiet)
      go (inr is) (inr rose) = (true, rose, is)

  classed-read : (s : TreeAndObjects) (c : Outcome) → w.told w0 ≡ Some s.tree
      → IsOutcomeWithRulesReadOrUnasked (w.faults w1) (w.faults w2) first_known (evidence_from_setting_and_sources given (setup_of_optional_stack old) s) None (LeavesRulesUnasked (most_reads_to_classify_path given.options) (w.reads w1) (w.reads w2) o0 o1 old new) c
      → IsOutcomeWithRulesReadOrUnasked (w.faults w0) (w.faults w2) any_so (evidence_from_setting_and_sources given (setup_of_optional_stack old) s) (seen s.tree) (LeavesRulesUnasked (most_reads_to_classify_path given.options) (w.reads w0) (w.reads w2) o0 o1 old new) c
  classed-read s c told classed =
      let ev = evidence_from_setting_and_sources given (setup_of_optional_stack old) s in
      let by = read-by s told in
      classed-kind (w.faults w0) (w.faults w1) (w.faults w2) first_known any_so ev None (seen s.tree) by.0 c
      (unasked-later (most_reads_to_classify_path given.options) (w.reads w0) (w.reads w1) (w.reads w2) o0 o1 old new unread) by.1 refl
      (λ failed. ap (λ (d : Option Kind). first_known.judge d (evidence_as_read failed ev)) (none-read failed.kind) ∙ class-by (evidence_as_read failed ev) (kind_unless_failed by.0 (seen s.tree)) by.2)
      (λ b. ap (λ (d : Option Kind). first_known.asks d ev) (none-read b) ∙ asks-by s (kind_unless_failed by.0 (seen s.tree)) by.2) classed

  pub on-way : (c : Outcome) → AnswersClassQuestion w f w1 w2 o0 o1 old new given (question_about_path given.options path kind false) (Ok c)
      → AnswersClassQuestion w f w0 w2 o0 o1 old new given (question_about_path_on_way given.options path) (Ok c)
  on-way c later =
      let before = λ (quiet : CountNotIncreased (w.faults w0) (w.faults w2)). quiet-first (w.faults w0) (w.faults w1) (w.faults w2) first.faults later.asking.keeps.faults quiet in
      let after = λ (quiet : CountNotIncreased (w.faults w0) (w.faults w2)). quiet-second (w.faults w0) (w.faults w1) (w.faults w2) first.faults later.asking.keeps.faults quiet in
      record {
        class = λ s tells step quiet.
            later.class s (tells-now s tells) step (after quiet) ∙ class-by (evidence_from_setting_and_sources given (setup_of_optional_stack old) s) (seen s.tree) (exactly s tells.tree_is (before quiet));
        read = λ s tells step quiet.
            ap (λ b. b && (evidence_from_setting_and_sources given (setup_of_optional_stack old) s).is_unread path) (sym (asks-by s (seen s.tree) (exactly s tells.tree_is (before quiet))))
            ∙ later.read s (tells-now s tells) step (after quiet);
        swallowed = λ s tells step. classed-read s c tells.tree_is (later.swallowed s (tells-now s tells) step);
        unruled = λ s told quiet no.
            let is = exactly s told (before quiet) in
            later.unruled s (first.tree ∙ told) (after quiet) (asks-by s (seen s.tree) is ∙ no) ∙ class-by (evidence_from_setting_and_sources given (setup_of_optional_stack old) s) (seen s.tree) is;
        asking = asking-later w f w0 w1 w2 o0 o1 old new (most_reads_to_classify_path given.options) path (Ok c) first unread later.asking;
        asked = λ s told. tt;
        unsought = λ s tells step quiet no.
            at-most-later 0 path (w.reads w0) (w.reads w1) (w.reads w2) o0 o1 old new (Ok c) unread
            (later.unsought s (tells-now s tells) step (after quiet) (seeks-by s (seen s.tree) (exactly s tells.tree_is (before quiet)) ∙ no));
        sought = λ no. at-most-later 0 path (w.reads w0) (w.reads w1) (w.reads w2) o0 o1 old new (Ok c) unread (later.sought no);
        early = tt;
        spared = λ s never. unasked-later (most_reads_to_classify_path given.options) (w.reads w0) (w.reads w1) (w.reads w2) o0 o1 old new unread (later.spared s (λ k. never kind));
        memory = λ s never. tt;
        unasked = λ s told quiet no.
            unasked-later (most_reads_to_classify_path given.options) (w.reads w0) (w.reads w1) (w.reads w2) o0 o1 old new unread
            (later.unasked s (first.tree ∙ told) (after quiet) (asks-by s (seen s.tree) (exactly s told (before quiet)) ∙ no));
        unread = λ s told quiet no none_sought.
            let is = exactly s told (before quiet) in
            later.unread s (first.tree ∙ told) (after quiet) (asks-by s (seen s.tree) is ∙ no) (seeks-by s (seen s.tree) is ∙ none_sought) ∙ unread;
        untouched = λ s no. absurd (cc no);
        certain = λ s no. absurd (cc no);
      }

  pub on-way-refused : (e : Error) → AnswersClassQuestion w f w1 w2 o0 o1 old new given (question_about_path given.options path kind false) (Err e)
      → AnswersClassQuestion w f w0 w2 o0 o1 old new given (question_about_path_on_way given.options path) (Err e)
  on-way-refused e later =
      let before = λ (quiet : CountNotIncreased (w.faults w0) (w.faults w2)). quiet-first (w.faults w0) (w.faults w1) (w.faults w2) first.faults later.asking.keeps.faults quiet in
      let after = λ (quiet : CountNotIncreased (w.faults w0) (w.faults w2)). quiet-second (w.faults w0) (w.faults w1) (w.faults w2) first.faults later.asking.keeps.faults quiet in
      record {
        class = λ s tells step quiet. tt;
        read = λ s tells step quiet. tt;
        swallowed = λ s tells step. tt;
        unruled = λ s told quiet no. tt;
        asking = asking-later w f w0 w1 w2 o0 o1 old new (most_reads_to_classify_path given.options) path (Err e) first unread later.asking;
        asked = λ s told.
            let ev = evidence_from_setting_and_sources given (setup_of_optional_stack old) s in
            let by = read-by s told in
            asked-kind (w.faults w0) (w.faults w1) (w.faults w2) (λ k. first_known.asks k ev) (λ k. any_so.asks k ev) None (seen s.tree) by.0 e by.1 later.asking.keeps.faults
            (λ b. ap (λ (d : Option Kind). first_known.asks d ev) (none-read b) ∙ asks-by s (kind_unless_failed by.0 (seen s.tree)) by.2) (later.asked s (first.tree ∙ told));
        unsought = λ s tells step quiet no.
            at-most-later 0 path (w.reads w0) (w.reads w1) (w.reads w2) o0 o1 old new (Err e) unread
            (later.unsought s (tells-now s tells) step (after quiet) (seeks-by s (seen s.tree) (exactly s tells.tree_is (before quiet)) ∙ no));
        sought = tt;
        early = OnAccess-weaker _ _ e (at-most-later 0 path (w.reads w0) (w.reads w1) (w.reads w2) o0 o1 old new (Err e) unread) later.early;
        spared = λ s never. unasked-later (most_reads_to_classify_path given.options) (w.reads w0) (w.reads w1) (w.reads w2) o0 o1 old new unread (later.spared s (λ k. never kind));
        memory = λ s never. later.memory s (λ k. never kind);
        unasked = λ s told quiet no.
            unasked-later (most_reads_to_classify_path given.options) (w.reads w0) (w.reads w1) (w.reads w2) o0 o1 old new unread
            (later.unasked s (first.tree ∙ told) (after quiet) (asks-by s (seen s.tree) (exactly s told (before quiet)) ∙ no));
        unread = λ s told quiet no none_sought.
            let is = exactly s told (before quiet) in
            later.unread s (first.tree ∙ told) (after quiet) (asks-by s (seen s.tree) is ∙ no) (seeks-by s (seen s.tree) is ∙ none_sought) ∙ unread;
        untouched = λ s no. absurd (cc no);
        certain = λ s no. absurd (cc no);
      }
