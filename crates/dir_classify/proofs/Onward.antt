-- The way to a traversal root, one component after another.
use Rattle.std.proofs.Common.{◌≡◌, ◌≤◌, ◌∙◌, ap, sym, ℕ, ◌+◌, List, [], ◌∷◌, ◌++◌, Bool, true, false, not, ◌&&◌, Option, Some, None, Ok, Err, refl, subst, append_assoc, arith}
use Rattle.std.proofs.lemmas.List.{append-nil}
use Rattle.std.specs.FinMap as map
use Rattle.std.specs.Prelude.{◌⊎◌, if◌then◌else◌, is_some, IfErr, Result}
use Rattle.gitbase_core.specs.Path.{components, path_joined_with_slash}
use Rattle.gitbase_core.specs.declared.find.Find.{Ghosts as FindOf}
use Rattle.worktree_fs.specs.Causes.{CountIncreasedOrSaturated, CountNotIncreased}
use Rattle.worktree_fs.specs.Kept.{KeepsStoredObjects}
use Rattle.worktree_fs.specs.Paths.{IsSinglePathComponent, is_relative_without_dots, slash_joined_components}
use Rattle.worktree_fs.specs.Tree.{none}
use Rattle.worktree_fs.specs.declared.worktree.Worktree.{Ghosts as WorktreeOf}
use Rattle.worktree_fs.proofs.Paths.Spelled.{grown-is, grown-components}
use Rattle.worktree_stack.specs.declared.error.AtPathError.{AtPathError}
use Rattle.worktree_stack.specs.Reading.{TreeAndObjects}
use Rattle.worktree_stack.specs.Setup.{StackSetup}
use Rattle.worktree_stack.specs.Stacked.{StackModel}
use Rattle.dir_classify.specs.declared.classify.Outcome.{Outcome}
use Rattle.dir_classify.specs.Excludes.{setup_of_optional_stack, maps_rules_files_to_blobs, lookup_count_of_stack, TellsTreeAndObjects, IsStackInStepIfGiven}
use Rattle.dir_classify.specs.Kept.{AsksWorktreeForRules, KeepsRulesInStep, LeavesRulesUnasked}
use Rattle.dir_classify.specs.Layers.{WalkSetting, evidence_from_setting_and_sources, is_some_rules_file_unread, kind_on_disk_if_asked}
use Rattle.dir_classify.specs.declared.error.Error.{Error}
use Rattle.dir_classify.specs.declared.error.Error.TheVariants as errors
use Rattle.dir_classify.specs.Class.{class as class_of, asks_ignore_rules as asks_of, tests_path_for_repository as seeks_of, asks_rules_with_known_kind, is_path_named_dot_git, index_and_disk_agree_on_directory, is_in_worktree_set, kind_by_index_caller_or_disk}
use Rattle.dir_classify.specs.Classes.{AnswersClassQuestion}
use Rattle.dir_classify.specs.Question.{question_about_path_on_way}
use Rattle.dir_classify.specs.Faults.{IsRefusedByKindAsRead}
use Rattle.dir_classify.specs.Reads.{most_reads_on_way, most_reads_to_classify_path}
use Rattle.dir_classify.specs.Refused.{IsClassErrorAboutPath, IsErrorOfUnreadableRules, HoldsIfExcludesError, StopsAtRefusedDirectoryIfGiven}
use Rattle.dir_classify.specs.Rooted.{AsksRulesOnWayOrNot, IsRefusedForRulesOfPath, IsPathOnWayToRoot, ClassifiesWayToRoot, end_of_way_to_root}
use Rattle.dir_classify.proofs.Most.{most-further}
use Rattle.dir_classify.proofs.NormalPaths.{normal-front}
use Rattle.dir_classify.proofs.Keeping.{asks-then, increased-later, quiet-first, quiet-second, read-not, unmapped-then}
use Rattle.dir_classify.proofs.Classed.{OnLookup-beside, OnLookup-weaker, asked-quiet}
use Rattle.dir_classify.proofs.Stopped.{stopped-later}
use Rattle.dir_classify.proofs.Refusals.{OnAccess-both, OnFault-weaker, unread-refused}
use Rattle.gitbase_core.proofs.Names.{AreNames-components}
use Rattle.dir_classify.proofs.WayLeads.{leads-next}
use Rattle.dir_classify.proofs.WayReached.{reached-grown}
use Rattle.dir_classify.proofs.WayUnread.{either-unread, quiet-not, unread-step, unread-way, yes-no}
use Rattle.dir_classify.proofs.Asking.{asked-needed, needed-further, needed-root}
use Rattle.dir_classify.proofs.WayAsked.{leads-further, nothing-more, stands-above, unasked-root, way-answered, way-asked, way-refused, way-root}
use Rattle.dir_classify.specs.declared.entry.Kind.{Kind}
use Rattle.dir_classify.specs.Chosen.{WalkOptions}
use Rattle.dir_classify.specs.Evidence.{PathEvidence}
use Rattle.dir_classify.specs.Kinds.{is_dir, is_repository_kind}
use Rattle.dir_classify.specs.Way.{EndsWayFromPathAsRead, IsOutcomeOnWayAsRead, EndsWayFromRootAsRead, EndOfWayToRoot, count_asking_rules_behind_path, way_continues_beneath, end_of_way_through_components, end_of_way_from_worktree_root, end_of_way_at_path, end_of_way_at_worktree_root, end_of_way_with_rules_read, outcome_of_path_on_way, asks_unreadable_rules_on_way}

-- The way stands at a path, and from there leads where it leads from the worktree root.
pub record IsOnward {W F : Type 0} (w : WorktreeOf W) (f : FindOf F) (w0 w1 : W) (o0 o1 : F) (old new : Option StackModel) (given : WalkSetting)
    (root path : List ℕ) (class : Outcome) (in_repository : Bool) (rest : List ℕ) : Type 0 where
  pub keeps : AsksWorktreeForRules w w0 w1
  pub store : KeepsStoredObjects f o0 o1
  pub unmapped : maps_rules_files_to_blobs (setup_of_optional_stack old) ≡ false → o1 ≡ o0
  pub rules : KeepsRulesInStep w f w0 o0 old new
  pub spelled_is : path ≡ slash_joined_components (components path)
  pub split : components root ≡ components path ++ components rest
  pub leads : (s : TreeAndObjects) → TellsTreeAndObjects (w.told w0) (f.holds o0) (setup_of_optional_stack old) s → IsStackInStepIfGiven s old → CountNotIncreased (w.faults w0) (w.faults w1)
      → end_of_way_through_components given.options (evidence_from_setting_and_sources given (setup_of_optional_stack old) s) (λ p. kind_on_disk_if_asked given s.tree p true) (end_of_way_with_rules_read path class in_repository true) (components rest)
      ≡ end_of_way_to_root given (setup_of_optional_stack old) s root
  pub top : components root ≡ [] → (s : TreeAndObjects) → w.told w0 ≡ Some s.tree → CountNotIncreased (w.faults w0) (w.faults w1)
      → end_of_way_with_rules_read path class in_repository true ≡ end_of_way_at_worktree_root given.options (evidence_from_setting_and_sources given (setup_of_optional_stack old) s) (λ p. kind_on_disk_if_asked given s.tree p true)
  pub ends : (s : TreeAndObjects) → TellsTreeAndObjects (w.told w0) (f.holds o0) (setup_of_optional_stack old) s → IsStackInStepIfGiven s old → (now : ℕ) (r : EndOfWayToRoot)
      → EndsWayFromPathAsRead (w.faults w1) now given.options (evidence_from_setting_and_sources given (setup_of_optional_stack old) s) (λ p. kind_on_disk_if_asked given s.tree p true) path class in_repository (components rest) r
      → EndsWayFromRootAsRead (w.faults w0) now given.options (evidence_from_setting_and_sources given (setup_of_optional_stack old) s) (λ p. kind_on_disk_if_asked given s.tree p true) (components root) r
  pub stands : (s : TreeAndObjects) → TellsTreeAndObjects (w.told w0) (f.holds o0) (setup_of_optional_stack old) s → IsStackInStepIfGiven s old
      → EndsWayFromRootAsRead (w.faults w0) (w.faults w1) given.options (evidence_from_setting_and_sources given (setup_of_optional_stack old) s) (λ p. kind_on_disk_if_asked given s.tree p true) (components path) (end_of_way_with_rules_read path class in_repository true)
  pub reads : AsksRulesOnWayOrNot {T = Unit {0}} {E = Error} (most_reads_to_classify_path given.options) path (w.reads w0) (w.reads w1) o0 o1 old new (Ok tt)
  pub unsought : (s : TreeAndObjects) → TellsTreeAndObjects (w.told w0) (f.holds o0) (setup_of_optional_stack old) s → IsStackInStepIfGiven s old → CountNotIncreased (w.faults w0) (w.faults w1)
      → ((p : List ℕ) → IsPathOnWayToRoot path p → seeks_of given.options (evidence_from_setting_and_sources given (setup_of_optional_stack old) s) p (kind_on_disk_if_asked given s.tree p true) None ≡ false)
      → AsksRulesOnWayOrNot {T = Unit {0}} {E = Error} 0 path (w.reads w0) (w.reads w1) o0 o1 old new (Ok tt)
  pub needed : (s : TreeAndObjects) → w.told w0 ≡ Some s.tree → CountNotIncreased (w.faults w0) (w.faults w1)
      → lookup_count_of_stack new ≤ lookup_count_of_stack old + count_asking_rules_behind_path given.options (evidence_from_setting_and_sources given (setup_of_optional_stack old) s) (λ p. kind_on_disk_if_asked given s.tree p true) [] (components path)
  pub spared : (s : TreeAndObjects) → ((p : List ℕ) → IsPathOnWayToRoot path p → (kind : Option Kind) → asks_of given.options (evidence_from_setting_and_sources given (setup_of_optional_stack old) s) p kind None ≡ false)
      → LeavesRulesUnasked (most_reads_on_way (most_reads_to_classify_path given.options) (components path)) (w.reads w0) (w.reads w1) o0 o1 old new
  pub unasked : (s : TreeAndObjects) → w.told w0 ≡ Some s.tree → CountNotIncreased (w.faults w0) (w.faults w1)
      → ((p : List ℕ) → IsPathOnWayToRoot path p → asks_of given.options (evidence_from_setting_and_sources given (setup_of_optional_stack old) s) p (kind_on_disk_if_asked given s.tree p true) None ≡ false)
      → LeavesRulesUnasked (most_reads_on_way (most_reads_to_classify_path given.options) (components path)) (w.reads w0) (w.reads w1) o0 o1 old new

-- ---- at the worktree root

pub top-init : (o : WalkOptions) (ev : PathEvidence) (kinds : List ℕ → Option Kind) (path : List ℕ) (c : Outcome) (in_repository : Bool) → path ≡ []
    → c ≡ outcome_of_path_on_way o ev kinds [] → asks_unreadable_rules_on_way o ev kinds [] ≡ false → in_repository ≡ is_repository_kind c.disk_kind
    → end_of_way_with_rules_read path c in_repository true ≡ end_of_way_at_worktree_root o ev kinds
top-init o ev kinds path c in_repository path_is c_is read in_is =
    ap (λ (p : List ℕ). end_of_way_with_rules_read p c in_repository true) path_is
    ∙ ap (λ (b : Bool). end_of_way_with_rules_read [] c b true) in_is
    ∙ ap (λ (x : Outcome). end_of_way_with_rules_read [] x (is_repository_kind x.disk_kind) true) c_is
    ∙ ap (λ (b : Bool). record (end_of_way_with_rules_read [] (outcome_of_path_on_way o ev kinds []) (is_repository_kind (outcome_of_path_on_way o ev kinds []).disk_kind) true) { is_unread = b }) (sym read)

pub way-init : (given : WalkSetting) (made : Option StackSetup) (s : TreeAndObjects) (root : List ℕ) (c : Outcome) (in_repository : Bool)
    → c ≡ outcome_of_path_on_way given.options (evidence_from_setting_and_sources given made s) (λ p. kind_on_disk_if_asked given s.tree p true) []
    → asks_unreadable_rules_on_way given.options (evidence_from_setting_and_sources given made s) (λ p. kind_on_disk_if_asked given s.tree p true) [] ≡ false
    → in_repository ≡ is_repository_kind c.disk_kind
    → end_of_way_through_components given.options (evidence_from_setting_and_sources given made s) (λ p. kind_on_disk_if_asked given s.tree p true) (end_of_way_with_rules_read [] c in_repository true) (components root) ≡ end_of_way_to_root given made s root
unfolding end_of_way_from_worktree_root
way-init given made s root c in_repository c_is read in_is =
    let ev = evidence_from_setting_and_sources given made s in
    let at = λ (p : List ℕ). kind_on_disk_if_asked given s.tree p true in
    let go : EndOfWayToRoot → EndOfWayToRoot = λ r. end_of_way_through_components given.options ev at r (components root) in
    ap (λ (b : Bool). go (end_of_way_with_rules_read [] c b true)) in_is
    ∙ ap (λ (x : Outcome). go (end_of_way_with_rules_read [] x (is_repository_kind x.disk_kind) true)) c_is
    ∙ ap (λ (b : Bool). go (record (end_of_way_with_rules_read [] (outcome_of_path_on_way given.options ev at []) (is_repository_kind (outcome_of_path_on_way given.options ev at []).disk_kind) true) { is_unread = b })) (sym read)

-- by what was read
pub ends-init : (before then_ now : ℕ) (o : WalkOptions) (ev : PathEvidence) (kinds : List ℕ → Option Kind) (names : List (List ℕ)) (path : List ℕ) (c : Outcome) (in_repository : Bool) (r : EndOfWayToRoot)
    → path ≡ [] → in_repository ≡ is_repository_kind c.disk_kind → IsOutcomeOnWayAsRead before then_ o ev kinds [] c → EndsWayFromPathAsRead then_ now o ev kinds path c in_repository names r
    → EndsWayFromRootAsRead before now o ev kinds names r
ends-init before then_ now o ev kinds names path c in_repository r path_is in_is judged end =
    (c, then_, judged, subst (λ (b : Bool). EndsWayFromPathAsRead then_ now o ev kinds [] c b names r) in_is (subst (λ (p : List ℕ). EndsWayFromPathAsRead then_ now o ev kinds p c in_repository names r) path_is end))

-- the rules are not asked of the worktree root
pub no-dot_git : (ignore_case : Bool) → is_path_named_dot_git ignore_case [] ≡ false
no-dot_git true = refl
no-dot_git false = refl

and-no : (b : Bool) → (b && false) ≡ false
and-no true = refl
and-no false = refl

none-of : (a b c : Bool) → (a && b && c && false) ≡ false
none-of false b c = refl
none-of true false c = refl
none-of true true c = and-no c

not-first : (dot can : Bool) (first rest : Bool) → dot ≡ false → rest ≡ false → (if dot then first else can && rest) ≡ false
not-first true can first rest e f = absurd (cc e)
not-first false true first rest e f = f
not-first false false first rest e f = refl

asks-no-root : (o : WalkOptions) (ev : PathEvidence) (kind : Option Kind) → asks_rules_with_known_kind o ev [] kind ≡ false
asks-no-root o ev kind = none-of (not (is_in_worktree_set o [])) (not (index_and_disk_agree_on_directory (ev.in_index []) kind)) ev.is_ruled

pub never-asked : (o : WalkOptions) (ev : PathEvidence) (known kind : Option Kind) → asks_of o ev [] known kind ≡ false
unfolding asks_of
never-asked o ev known kind =
    not-first (is_path_named_dot_git o.ignore_case []) (ev.can_match [] (is_dir known)) (is_some o.for_deletion && ev.is_ruled) (asks_rules_with_known_kind o ev [] (kind_by_index_caller_or_disk ev [] known kind)) (no-dot_git o.ignore_case)
    (asks-no-root o ev (kind_by_index_caller_or_disk ev [] known kind))

pub never-unread : (o : WalkOptions) (ev : PathEvidence) (kinds : List ℕ → Option Kind) → asks_unreadable_rules_on_way o ev kinds [] ≡ false
never-unread o ev kinds = ap (λ b. b && ev.is_unread []) (never-asked o ev (kinds []) None)

some-sources : TreeAndObjects
some-sources = record { tree = none; objects = map.empty }

-- so they are as they were, and it is refused for want of memory alone
module _ {W F : Type 0} {w : WorktreeOf W} {f : FindOf F} {w0 w1 : W} {o0 o1 : F} {old new : Option StackModel} {given : WalkSetting} {result : Result Outcome Error}
    (step : AnswersClassQuestion w f w0 w1 o0 o1 old new given (question_about_path_on_way given.options []) result) where
  never-there : (kind : Option Kind) → asks_of given.options (evidence_from_setting_and_sources given (setup_of_optional_stack old) some-sources) [] kind None ≡ false
  never-there kind = never-asked given.options (evidence_from_setting_and_sources given (setup_of_optional_stack old) some-sources) kind None

  pub root-unasked : LeavesRulesUnasked (most_reads_to_classify_path given.options) (w.reads w0) (w.reads w1) o0 o1 old new
  root-unasked = step.spared some-sources never-there

  pub root-unread : (s : TreeAndObjects) → w.told w0 ≡ Some s.tree → CountNotIncreased (w.faults w0) (w.faults w1)
      → seeks_of given.options (evidence_from_setting_and_sources given (setup_of_optional_stack old) s) [] (kind_on_disk_if_asked given s.tree [] true) None ≡ false → LeavesRulesUnasked 0 (w.reads w0) (w.reads w1) o0 o1 old new
  root-unread s told quiet none_sought =
      record {
        same = root-unasked.same;
        store = root-unasked.store;
        reads = read-not 0 (step.unread s told quiet (never-asked given.options (evidence_from_setting_and_sources given (setup_of_optional_stack old) s) (kind_on_disk_if_asked given s.tree [] true) None) none_sought);
      }

  pub root-memory : IfErr result (HoldsIfExcludesError ⊥)
  root-memory = step.memory some-sources never-there

pub unasked-then : {F : Type 0} {most : ℕ} (all names : List (List ℕ)) (name : List ℕ) {r0 r1 r2 : ℕ} {o0 o1 o2 : F} {old now new : Option StackModel} → all ≡ names ++ name ∷ []
    → LeavesRulesUnasked (most_reads_on_way most names) r0 r1 o0 o1 old now → LeavesRulesUnasked most r1 r2 o1 o2 now new → LeavesRulesUnasked (most_reads_on_way most all) r0 r2 o0 o2 old new
unasked-then {most = most} all names name grown a b =
    let more : most_reads_on_way most all ≡ most_reads_on_way most names + most = ap (most_reads_on_way most) grown ∙ most-further most names name in
    record { same = b.same ∙ a.same; store = b.store ∙ a.store; reads = omega (arith, a.reads, b.reads, more) }

-- ---- one component further

pub way-step : (o : WalkOptions) (ev : PathEvidence) (kinds : List ℕ → Option Kind) (path name : List ℕ) (names : List (List ℕ)) (c next : Outcome) (in_repository : Bool)
    → way_continues_beneath o path c in_repository ≡ true → next ≡ outcome_of_path_on_way o ev kinds (path_joined_with_slash path name) → asks_unreadable_rules_on_way o ev kinds (path_joined_with_slash path name) ≡ false
    → end_of_way_through_components o ev kinds (end_of_way_with_rules_read (path_joined_with_slash path name) next in_repository true) names ≡ end_of_way_through_components o ev kinds (end_of_way_with_rules_read path c in_repository true) (name ∷ names)
way-step o ev kinds path name names c next in_repository goes next_is read =
    let go : EndOfWayToRoot → EndOfWayToRoot = λ r. end_of_way_through_components o ev kinds r names in
    ap (λ (x : Outcome). go (end_of_way_with_rules_read (path_joined_with_slash path name) x in_repository true)) next_is
    ∙ ap (λ (b : Bool). go (record (end_of_way_with_rules_read (path_joined_with_slash path name) (outcome_of_path_on_way o ev kinds (path_joined_with_slash path name)) in_repository true) { is_unread = b })) (sym read)
    ∙ sym (open-way (way_continues_beneath o path c in_repository) goes)
  where
    open-way : (b : Bool) → b ≡ true
        → (if b then end_of_way_through_components o ev kinds (end_of_way_at_path o ev kinds in_repository false (path_joined_with_slash path name)) names else record (end_of_way_with_rules_read path c in_repository true) { whole = false })
        ≡ end_of_way_through_components o ev kinds (end_of_way_at_path o ev kinds in_repository false (path_joined_with_slash path name)) names
    open-way true e = refl
    open-way false e = absurd (cc e)

-- ---- what stays, and what is told, after a step

tells-after : {W F : Type 0} (w : WorktreeOf W) (f : FindOf F) (w0 w1 : W) (o0 o1 : F) (old now : Option StackModel) (s : TreeAndObjects) → AsksWorktreeForRules w w0 w1 → KeepsStoredObjects f o0 o1 → setup_of_optional_stack now ≡ setup_of_optional_stack old
    → TellsTreeAndObjects (w.told w0) (f.holds o0) (setup_of_optional_stack old) s → TellsTreeAndObjects (w.told w1) (f.holds o1) (setup_of_optional_stack now) s
tells-after w f w0 w1 o0 o1 old now s keeps store same tells =
    record {
      tree_is = keeps.tree ∙ tells.tree_is;
      objects_are = λ some. store.holds ∙ tells.objects_are (ap (λ (m : Option StackSetup). is_some m) (sym same) ∙ some);
    }

module _ {W F : Type 0} (w : WorktreeOf W) (f : FindOf F) (w0 w1 w2 : W) (o0 o1 o2 : F) (old now new : Option StackModel) (given : WalkSetting)
    (root path name rest left : List ℕ) (c : Outcome) (in_repository : Bool)
    (at : IsOnward w f w0 w1 o0 o1 old now given root path c in_repository rest)
    (rest_is : components rest ≡ name ∷ components left) (component : IsSinglePathComponent name) where
  pub grown-spelled : path_joined_with_slash path name ≡ slash_joined_components (components (path_joined_with_slash path name))
  grown-spelled = grown-is path name at.spelled_is component ∙ ap slash_joined_components (sym (grown-components path name at.spelled_is component))

  pub grown-split : components root ≡ components (path_joined_with_slash path name) ++ components left
  grown-split =
      at.split
      ∙ ap (λ (l : List (List ℕ)). components path ++ l) rest_is
      ∙ sym (append_assoc (components path) (name ∷ []) (components left))
      ∙ ap (λ (l : List (List ℕ)). l ++ components left) (sym (grown-components path name at.spelled_is component))

  pub grown-normal : is_relative_without_dots root ≡ true → is_relative_without_dots (path_joined_with_slash path name) ≡ true
  grown-normal normal = normal-front root (path_joined_with_slash path name) (components left) normal grown-split grown-spelled

  pub tells-here : (s : TreeAndObjects) → TellsTreeAndObjects (w.told w0) (f.holds o0) (setup_of_optional_stack old) s → TellsTreeAndObjects (w.told w1) (f.holds o1) (setup_of_optional_stack now) s
  tells-here s tells = tells-after w f w0 w1 o0 o1 old now s at.keeps at.store at.rules.made tells

  grown-itself : IsPathOnWayToRoot (path_joined_with_slash path name) (path_joined_with_slash path name)
  grown-itself = record { spelled_is = grown-spelled; rest = []; components_are = sym (append-nil (components (path_joined_with_slash path name))) }

  leads-grown : (p : List ℕ) → IsPathOnWayToRoot path p → IsPathOnWayToRoot (path_joined_with_slash path name) p
  leads-grown p = leads-further (path_joined_with_slash path name) path p (name ∷ []) (grown-components path name at.spelled_is component)

  -- what holds of a step where the rules are not asked holds of the way up to there
  module _ (result : Result Outcome Error)
      (step : AnswersClassQuestion w f w1 w2 o1 o2 now new given (question_about_path_on_way given.options (path_joined_with_slash path name)) result) where
    never-now : (s : TreeAndObjects) → ((p : List ℕ) → IsPathOnWayToRoot (path_joined_with_slash path name) p → (kind : Option Kind) → asks_of given.options (evidence_from_setting_and_sources given (setup_of_optional_stack old) s) p kind None ≡ false)
        → (kind : Option Kind) → asks_of given.options (evidence_from_setting_and_sources given (setup_of_optional_stack now) s) (path_joined_with_slash path name) kind None ≡ false
    never-now s never kind = ap (λ (m : Option StackSetup). asks_of given.options (evidence_from_setting_and_sources given m s) (path_joined_with_slash path name) kind None) at.rules.made ∙ never (path_joined_with_slash path name) grown-itself kind

    grown-spared : (s : TreeAndObjects) → ((p : List ℕ) → IsPathOnWayToRoot (path_joined_with_slash path name) p → (kind : Option Kind) → asks_of given.options (evidence_from_setting_and_sources given (setup_of_optional_stack old) s) p kind None ≡ false)
        → LeavesRulesUnasked (most_reads_on_way (most_reads_to_classify_path given.options) (components (path_joined_with_slash path name))) (w.reads w0) (w.reads w2) o0 o2 old new
    grown-spared s never = unasked-then (components (path_joined_with_slash path name)) (components path) name (grown-components path name at.spelled_is component) (at.spared s (λ p leads. never p (leads-grown p leads))) (step.spared s (never-now s never))

    grown-memory : (s : TreeAndObjects) → ((p : List ℕ) → IsPathOnWayToRoot (path_joined_with_slash path name) p → (kind : Option Kind) → asks_of given.options (evidence_from_setting_and_sources given (setup_of_optional_stack old) s) p kind None ≡ false)
        → IfErr result (HoldsIfExcludesError ⊥)
    grown-memory s never = step.memory s (never-now s never)

    grown-unsought : (s : TreeAndObjects) → TellsTreeAndObjects (w.told w0) (f.holds o0) (setup_of_optional_stack old) s → IsStackInStepIfGiven s old → CountNotIncreased (w.faults w0) (w.faults w2)
        → ((p : List ℕ) → IsPathOnWayToRoot (path_joined_with_slash path name) p → seeks_of given.options (evidence_from_setting_and_sources given (setup_of_optional_stack old) s) p (kind_on_disk_if_asked given s.tree p true) None ≡ false)
        → AsksRulesOnWayOrNot 0 (path_joined_with_slash path name) (w.reads w0) (w.reads w2) o0 o2 old new result
    grown-unsought s tells stepped quiet never =
        way-asked 0 path name (path_joined_with_slash path name) (w.reads w0) (w.reads w1) (w.reads w2) o0 o1 o2 old now new result
        at.rules.made (grown-components path name at.spelled_is component) grown-spelled
        (at.unsought s tells stepped (quiet-first (w.faults w0) (w.faults w1) (w.faults w2) at.keeps.faults step.asking.keeps.faults quiet) (λ p leads. never p (leads-grown p leads)))
        (step.unsought s (tells-here s tells) (at.rules.in_step s tells stepped) (quiet-second (w.faults w0) (w.faults w1) (w.faults w2) at.keeps.faults step.asking.keeps.faults quiet)
        (ap (λ (m : Option StackSetup). seeks_of given.options (evidence_from_setting_and_sources given m s) (path_joined_with_slash path name) (kind_on_disk_if_asked given s.tree (path_joined_with_slash path name) true) None) at.rules.made
        ∙ never (path_joined_with_slash path name) grown-itself))

    grown-needed : (s : TreeAndObjects) → w.told w0 ≡ Some s.tree → CountNotIncreased (w.faults w0) (w.faults w2)
        → lookup_count_of_stack new ≤ lookup_count_of_stack old + count_asking_rules_behind_path given.options (evidence_from_setting_and_sources given (setup_of_optional_stack old) s) (λ p. kind_on_disk_if_asked given s.tree p true) [] (components (path_joined_with_slash path name))
    grown-needed s told quiet =
        let ev = evidence_from_setting_and_sources given (setup_of_optional_stack old) s in
        let kinds : List ℕ → Option Kind = λ p. kind_on_disk_if_asked given s.tree p true in
        needed-further given.options ev kinds (components path) name (path_joined_with_slash path name) (components (path_joined_with_slash path name)) (lookup_count_of_stack old) (lookup_count_of_stack now) (lookup_count_of_stack new)
        (grown-is path name at.spelled_is component) (grown-components path name at.spelled_is component)
        (at.needed s told (quiet-first (w.faults w0) (w.faults w1) (w.faults w2) at.keeps.faults step.asking.keeps.faults quiet))
        (asked-needed given.options ev kinds (most_reads_to_classify_path given.options) (path_joined_with_slash path name) (w.reads w1) (w.reads w2) o1 o2 now new result
        (λ none. step.unasked s (at.keeps.tree ∙ told) (quiet-second (w.faults w0) (w.faults w1) (w.faults w2) at.keeps.faults step.asking.keeps.faults quiet)
        (ap (λ (m : Option StackSetup). asks_of given.options (evidence_from_setting_and_sources given m s) (path_joined_with_slash path name) (kind_on_disk_if_asked given s.tree (path_joined_with_slash path name) true) None) at.rules.made ∙ none))
        step.asking.reads)

    grown-unasked : (s : TreeAndObjects) → w.told w0 ≡ Some s.tree → CountNotIncreased (w.faults w0) (w.faults w2)
        → ((p : List ℕ) → IsPathOnWayToRoot (path_joined_with_slash path name) p → asks_of given.options (evidence_from_setting_and_sources given (setup_of_optional_stack old) s) p (kind_on_disk_if_asked given s.tree p true) None ≡ false)
        → LeavesRulesUnasked (most_reads_on_way (most_reads_to_classify_path given.options) (components (path_joined_with_slash path name))) (w.reads w0) (w.reads w2) o0 o2 old new
    grown-unasked s told quiet never =
        unasked-then (components (path_joined_with_slash path name)) (components path) name (grown-components path name at.spelled_is component)
        (at.unasked s told (quiet-first (w.faults w0) (w.faults w1) (w.faults w2) at.keeps.faults step.asking.keeps.faults quiet) (λ p leads. never p (leads-grown p leads)))
        (step.unasked s (at.keeps.tree ∙ told) (quiet-second (w.faults w0) (w.faults w1) (w.faults w2) at.keeps.faults step.asking.keeps.faults quiet)
        (ap (λ (m : Option StackSetup). asks_of given.options (evidence_from_setting_and_sources given m s) (path_joined_with_slash path name) (kind_on_disk_if_asked given s.tree (path_joined_with_slash path name) true) None) at.rules.made
        ∙ never (path_joined_with_slash path name) grown-itself))

  module _ (next : Outcome) (goes : way_continues_beneath given.options path c in_repository ≡ true)
      (step : AnswersClassQuestion w f w1 w2 o1 o2 now new given (question_about_path_on_way given.options (path_joined_with_slash path name)) (Ok next)) where
    class-here : (s : TreeAndObjects) → TellsTreeAndObjects (w.told w0) (f.holds o0) (setup_of_optional_stack old) s → IsStackInStepIfGiven s old
        → IsOutcomeOnWayAsRead (w.faults w1) (w.faults w2) given.options (evidence_from_setting_and_sources given (setup_of_optional_stack old) s) (λ p. kind_on_disk_if_asked given s.tree p true) (path_joined_with_slash path name) next
    class-here s tells stepped =
        subst (λ (m : Option StackSetup). IsOutcomeOnWayAsRead (w.faults w1) (w.faults w2) given.options (evidence_from_setting_and_sources given m s) (λ p. kind_on_disk_if_asked given s.tree p true) (path_joined_with_slash path name) next) at.rules.made
        (step.swallowed s (tells-here s tells) (at.rules.in_step s tells stepped)).0

    pub onward-grown : IsOnward w f w0 w2 o0 o2 old new given root (path_joined_with_slash path name) next in_repository left
    onward-grown =
        record {
          keeps = asks-then w w0 w1 w2 at.keeps step.asking.keeps;
          store = record { holds = step.asking.store.holds ∙ at.store.holds; faults = omega (arith, at.store.faults, step.asking.store.faults) };
          unmapped = unmapped-then old now at.rules.made at.unmapped step.asking.unmapped;
          rules = record {
            made = step.asking.rules.made ∙ at.rules.made;
            in_step = λ s tells stepped. step.asking.rules.in_step s (tells-here s tells) (at.rules.in_step s tells stepped);
          };
          spelled_is = grown-spelled;
          split = grown-split;
          leads = λ s tells stepped quiet.
              let ev = evidence_from_setting_and_sources given (setup_of_optional_stack old) s in
              let kinds = λ (p : List ℕ). kind_on_disk_if_asked given s.tree p true in
              let quiet_now = quiet-second (w.faults w0) (w.faults w1) (w.faults w2) at.keeps.faults step.asking.keeps.faults quiet in
              way-step given.options ev kinds path name (components left) c next in_repository goes
              (step.class s (tells-here s tells) (at.rules.in_step s tells stepped) quiet_now
              ∙ ap (λ (m : Option StackSetup). class_of given.options (evidence_from_setting_and_sources given m s) (path_joined_with_slash path name) (kinds (path_joined_with_slash path name)) None) at.rules.made)
              (ap (λ (m : Option StackSetup). asks_of given.options (evidence_from_setting_and_sources given m s) (path_joined_with_slash path name) (kinds (path_joined_with_slash path name)) None && (evidence_from_setting_and_sources given m s).is_unread (path_joined_with_slash path name)) (sym at.rules.made)
              ∙ step.read s (tells-here s tells) (at.rules.in_step s tells stepped) quiet_now)
              ∙ ap (λ (l : List (List ℕ)). end_of_way_through_components given.options ev kinds (end_of_way_with_rules_read path c in_repository true) l) (sym rest_is)
              ∙ at.leads s tells stepped (quiet-first (w.faults w0) (w.faults w1) (w.faults w2) at.keeps.faults step.asking.keeps.faults quiet);
          top = λ is s told quiet. absurd (nothing-more (components path) (components left) name (sym is ∙ at.split ∙ ap (λ (l : List (List ℕ)). components path ++ l) rest_is));
          ends = λ s tells stepped now_faults r end.
              let kinds = λ (p : List ℕ). kind_on_disk_if_asked given s.tree p true in
              at.ends s tells stepped now_faults r
              (subst (λ (l : List (List ℕ)). EndsWayFromPathAsRead (w.faults w1) now_faults given.options (evidence_from_setting_and_sources given (setup_of_optional_stack old) s) kinds path c in_repository l r) (sym rest_is)
              ((λ yes. (next, w.faults w2, class-here s tells stepped, end), λ no. absurd (yes-no (way_continues_beneath given.options path c in_repository) goes no))));
          stands = λ s tells stepped.
              let ev = evidence_from_setting_and_sources given (setup_of_optional_stack old) s in
              let kinds = λ (p : List ℕ). kind_on_disk_if_asked given s.tree p true in
              subst (λ (l : List (List ℕ)). EndsWayFromRootAsRead (w.faults w0) (w.faults w2) given.options ev kinds l (end_of_way_with_rules_read (path_joined_with_slash path name) next in_repository true))
              (sym (grown-components path name at.spelled_is component))
              (reached-grown (w.faults w0) (w.faults w1) (w.faults w2) given.options ev kinds path name c next in_repository (components path) goes (class-here s tells stepped)
              (at.stands s tells stepped));
          reads =
              way-answered (most_reads_to_classify_path given.options) (path_joined_with_slash path name) (w.reads w0) (w.reads w2) o0 o2 old new next tt
              (way-asked (most_reads_to_classify_path given.options) path name (path_joined_with_slash path name) (w.reads w0) (w.reads w1) (w.reads w2) o0 o1 o2 old now new (Ok next)
              at.rules.made (grown-components path name at.spelled_is component) grown-spelled at.reads step.asking.reads);
          unsought = λ s tells stepped quiet never.
              way-answered 0 (path_joined_with_slash path name) (w.reads w0) (w.reads w2) o0 o2 old new next tt (grown-unsought (Ok next) step s tells stepped quiet never);
          needed = grown-needed (Ok next) step;
          spared = grown-spared (Ok next) step;
          unasked = grown-unasked (Ok next) step;
        }

  pub Reaches-refused : (e : Error)
      → way_continues_beneath given.options path c in_repository ≡ true
      → AnswersClassQuestion w f w1 w2 o1 o2 now new given (question_about_path_on_way given.options (path_joined_with_slash path name)) (Err e)
      → ClassifiesWayToRoot w f w0 w2 o0 o2 old new given root (Err e)
  Reaches-refused e goes step =
      let leads : IsPathOnWayToRoot root (path_joined_with_slash path name) = record { spelled_is = grown-spelled; rest = components left; components_are = grown-split } in
      let refused-here : (s : TreeAndObjects) → TellsTreeAndObjects (w.told w0) (f.holds o0) (setup_of_optional_stack old) s → IsRefusedForRulesOfPath s (setup_of_optional_stack old) (path_joined_with_slash path name) e =
      λ s tells. (
        subst (λ (m : Option StackSetup). IsClassErrorAboutPath m (path_joined_with_slash path name) e) at.rules.made step.asking.about,
        subst (λ (m : Option StackSetup). IsErrorOfUnreadableRules s m (path_joined_with_slash path name) e) at.rules.made (step.asking.refused s (tells-here s tells)),
      ) in
      record {
        reached = λ s tells stepped quiet. tt;
        top = λ is s told quiet. tt;
        swallowed = λ s tells stepped. tt;
        prefix = tt;
        whole = tt;
        ended = tt;
        about = (path_joined_with_slash path name, leads, subst (λ (m : Option StackSetup). IsClassErrorAboutPath m (path_joined_with_slash path name) e) at.rules.made step.asking.about);
        refused = λ s tells.
            (path_joined_with_slash path name, leads, refused-here s tells);
        met = λ s tells stepped quiet.
            let ev = evidence_from_setting_and_sources given (setup_of_optional_stack old) s in
            let kinds = λ (p : List ℕ). kind_on_disk_if_asked given s.tree p true in
            let way = ap (λ (l : List (List ℕ)). end_of_way_through_components given.options ev kinds (end_of_way_with_rules_read path c in_repository true) l) (sym rest_is)
            ∙ at.leads s tells stepped (quiet-first (w.faults w0) (w.faults w1) (w.faults w2) at.keeps.faults step.asking.keeps.faults quiet) in (
              path_joined_with_slash path name,
              subst (λ (r : EndOfWayToRoot). IsPathOnWayToRoot r.path (path_joined_with_slash path name)) way
                  (leads-next given.options ev kinds path name (components left) c in_repository goes at.spelled_is component (AreNames-components left)),
              refused-here s tells,
            );
        asked = λ s tells stepped quiet.
            let ev = evidence_from_setting_and_sources given (setup_of_optional_stack old) s in
            let kinds = λ (p : List ℕ). kind_on_disk_if_asked given s.tree p true in
            let quiet_now = quiet-second (w.faults w0) (w.faults w1) (w.faults w2) at.keeps.faults step.asking.keeps.faults quiet in
            OnAccess-both (asks_of given.options (evidence_from_setting_and_sources given (setup_of_optional_stack now) s) (path_joined_with_slash path name) (kinds (path_joined_with_slash path name)) None ≡ true)
            ((is_some_rules_file_unread (setup_of_optional_stack now) s (path_joined_with_slash path name) ≡ true) ⊎ CountIncreasedOrSaturated (f.faults o1) (f.faults o2))
            (((end_of_way_to_root given (setup_of_optional_stack old) s root).is_unread ≡ true) ⊎ CountIncreasedOrSaturated (f.faults o0) (f.faults o2)) e
            (λ asks unread. either-unread (is_some_rules_file_unread (setup_of_optional_stack now) s (path_joined_with_slash path name) ≡ true) (CountIncreasedOrSaturated (f.faults o1) (f.faults o2)) ((end_of_way_to_root given (setup_of_optional_stack old) s root).is_unread ≡ true)
            (CountIncreasedOrSaturated (f.faults o0) (f.faults o2))
            (λ unread_is.
            ap (λ (r : EndOfWayToRoot). r.is_unread)
            (sym (ap (λ (l : List (List ℕ)). end_of_way_through_components given.options ev kinds (end_of_way_with_rules_read path c in_repository true) l) (sym rest_is)
            ∙ at.leads s tells stepped (quiet-first (w.faults w0) (w.faults w1) (w.faults w2) at.keeps.faults step.asking.keeps.faults quiet)))
            ∙ unread-step given.options ev kinds path name (components left) c in_repository goes
            (unread-way given (setup_of_optional_stack now) (setup_of_optional_stack old) s (path_joined_with_slash path name) at.rules.made asks unread_is))
            (increased-later (f.faults o0) (f.faults o1) (f.faults o2) at.store.faults) unread)
            (asked-quiet (w.faults w1) (w.faults w2) (λ k. asks_of given.options (evidence_from_setting_and_sources given (setup_of_optional_stack now) s) (path_joined_with_slash path name) k None) (kinds (path_joined_with_slash path name)) e quiet_now
            (step.asked s (at.keeps.tree ∙ tells.tree_is)))
            (unread-refused s (setup_of_optional_stack now) (path_joined_with_slash path name) (CountIncreasedOrSaturated (w.faults w1) (w.faults w2)) (CountIncreasedOrSaturated (f.faults o1) (f.faults o2)) e (quiet-not (w.faults w1) (w.faults w2) quiet_now)
            step.asking.about (step.asking.refused s (tells-here s tells)) step.asking.cause);
        asked_so = λ s tells stepped.
            let kind = kind_on_disk_if_asked given s.tree (path_joined_with_slash path name) true in
            let Asked : AtPathError → Type 0 = IsRefusedByKindAsRead (w.faults w1) (w.faults w2) (λ k. asks_of given.options (evidence_from_setting_and_sources given (setup_of_optional_stack now) s) (path_joined_with_slash path name) k None) kind in
            OnLookup-weaker (λ a. Asked a × IsRefusedForRulesOfPath s (setup_of_optional_stack old) (path_joined_with_slash path name) (errors.ExcludesAccess a)) _ e
            (λ a is. (
              record {
                first = components path;
                name = name;
                left = components left;
                names_are = at.split ∙ ap (λ (l : List (List ℕ)). components path ++ l) rest_is;
                above = end_of_way_with_rules_read path c in_repository true;
                then_ = w.faults w1;
                reaches = at.stands s tells stepped;
                whole = refl;
                goes = goes;
                asked = subst (λ (m : Option StackSetup). IsRefusedByKindAsRead (w.faults w1) (w.faults w2) (λ k. asks_of given.options (evidence_from_setting_and_sources given m s) (path_joined_with_slash path name) k None) kind a) at.rules.made is.0;
              },
              is.1,
            ))
            (OnLookup-beside Asked (IsRefusedForRulesOfPath s (setup_of_optional_stack old) (path_joined_with_slash path name)) e (refused-here s tells) (step.asked s (at.keeps.tree ∙ tells.tree_is)));
        stopped =
            let since = stands-above (most_reads_to_classify_path given.options) path name (path_joined_with_slash path name) (w.reads w0) (w.reads w1) o0 o1 old now (grown-components path name at.spelled_is component) at.reads in
            OnLookup-weaker (StopsAtRefusedDirectoryIfGiven (w.told w0) (f.holds o0) (CountIncreasedOrSaturated (w.faults w0) (w.faults w2)) (CountIncreasedOrSaturated (f.faults o0) (f.faults o2)) (path_joined_with_slash path name) now new) _ e
            (λ a stops. (path_joined_with_slash path name, leads, record { before = now; since = since; made = at.rules.made; in_step = at.rules.in_step; stops = stops }))
            (stopped-later (w.told w0) (w.told w1) (f.holds o0) (f.holds o1) (w.faults w0) (w.faults w1) (w.faults w2) (f.faults o0) (f.faults o1) (f.faults o2) (path_joined_with_slash path name) now new e
            at.keeps.tree at.store.holds at.keeps.faults at.store.faults step.asking.stopped);
        cause =
            OnFault-weaker (CountIncreasedOrSaturated (w.faults w1) (w.faults w2)) (CountIncreasedOrSaturated (f.faults o1) (f.faults o2)) (CountIncreasedOrSaturated (w.faults w0) (w.faults w2)) (CountIncreasedOrSaturated (f.faults o0) (f.faults o2)) e
            (increased-later (w.faults w0) (w.faults w1) (w.faults w2) at.keeps.faults) (increased-later (f.faults o0) (f.faults o1) (f.faults o2) at.store.faults) step.asking.cause;
        keeps = asks-then w w0 w1 w2 at.keeps step.asking.keeps;
        store = record { holds = step.asking.store.holds ∙ at.store.holds; faults = omega (arith, at.store.faults, step.asking.store.faults) };
        unmapped = unmapped-then old now at.rules.made at.unmapped step.asking.unmapped;
        rules = record {
          made = step.asking.rules.made ∙ at.rules.made;
          in_step = λ s tells stepped. step.asking.rules.in_step s (tells-here s tells) (at.rules.in_step s tells stepped);
        };
        reads = way-root (most_reads_to_classify_path given.options) root (path_joined_with_slash path name) (components left) (w.reads w0) (w.reads w2) o0 o2 old new (Err e) grown-split
            (way-refused (most_reads_to_classify_path given.options) (path_joined_with_slash path name) (w.reads w0) (w.reads w2) o0 o2 old new e
            (way-asked (most_reads_to_classify_path given.options) path name (path_joined_with_slash path name) (w.reads w0) (w.reads w1) (w.reads w2) o0 o1 o2 old now new (Err e)
            at.rules.made (grown-components path name at.spelled_is component) grown-spelled at.reads step.asking.reads));
        unsought = λ s tells stepped quiet never.
            way-root 0 root (path_joined_with_slash path name) (components left) (w.reads w0) (w.reads w2) o0 o2 old new (Err e) grown-split
            (way-refused 0 (path_joined_with_slash path name) (w.reads w0) (w.reads w2) o0 o2 old new e
            (grown-unsought (Err e) step s tells stepped quiet (λ p on. never p (leads-further root (path_joined_with_slash path name) p (components left) grown-split on))));
        needed = λ s told quiet.
            needed-root given.options (evidence_from_setting_and_sources given (setup_of_optional_stack old) s) (λ p. kind_on_disk_if_asked given s.tree p true) (components (path_joined_with_slash path name)) (components left) (components root) (lookup_count_of_stack old) (lookup_count_of_stack new) grown-split
            (grown-needed (Err e) step s told quiet);
        spared = λ s never.
            let grown : (p : List ℕ) → IsPathOnWayToRoot (path_joined_with_slash path name) p → (kind : Option Kind) → asks_of given.options (evidence_from_setting_and_sources given (setup_of_optional_stack old) s) p kind None ≡ false =
            λ p on. never p (leads-further root (path_joined_with_slash path name) p (components left) grown-split on) in
            (unasked-root (most_reads_to_classify_path given.options) (components root) (components (path_joined_with_slash path name)) (components left) grown-split (grown-spared (Err e) step s grown), grown-memory (Err e) step s grown);
        unasked = λ s told quiet never.
            unasked-root (most_reads_to_classify_path given.options) (components root) (components (path_joined_with_slash path name)) (components left) grown-split
            (grown-unasked (Err e) step s told quiet (λ p on. never p (leads-further root (path_joined_with_slash path name) p (components left) grown-split on)));
      }
