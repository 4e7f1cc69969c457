-- Where the way to a traversal root ends, answered or refused.
use Rattle.std.proofs.Common.{◌≡◌, ◌≤◌, ◌∙◌, ap, sym, ℕ, ◌+◌, List, [], ◌∷◌, ◌++◌, Bool, true, false, Option, None, Ok, Err, refl, inl, subst, arith}
use Rattle.std.proofs.lemmas.List.{append-nil}
use Rattle.std.specs.Prelude.{◌⊎◌, if◌then◌else◌}
use Rattle.gitbase_core.specs.Path.{components, path_joined_with_slash}
use Rattle.gitbase_core.specs.declared.find.Find.{Ghosts as FindOf}
use Rattle.worktree_fs.specs.Causes.{CountIncreasedOrSaturated}
use Rattle.worktree_fs.specs.Paths.{is_nil, slash_joined_components}
use Rattle.worktree_fs.specs.declared.worktree.Worktree.{Ghosts as WorktreeOf}
use Rattle.std.proofs.lemmas.Slice.Eq.{bytes_eq-Decides}
use Rattle.std.specs.Str.{bytes_eq}
use Rattle.worktree_fs.proofs.Trees.Grown.{same_name}
use Rattle.worktree_stack.specs.Reading.{TreeAndObjects}
use Rattle.worktree_stack.specs.Setup.{StackSetup}
use Rattle.worktree_stack.specs.Stacked.{StackModel}
use Rattle.dir_classify.specs.declared.classify.Outcome.{Outcome}
use Rattle.dir_classify.specs.declared.classify.RootOutcome.{RootOutcome}
use Rattle.dir_classify.specs.Excludes.{setup_of_optional_stack, lookup_count_of_stack}
use Rattle.dir_classify.specs.Layers.{WalkSetting, evidence_from_setting_and_sources, is_some_rules_file_unread, kind_on_disk_if_asked}
use Rattle.dir_classify.specs.declared.error.Error.{Error}
use Rattle.dir_classify.specs.declared.error.Error.TheVariants as errors
use Rattle.dir_classify.specs.Class.{asks_ignore_rules as asks_of}
use Rattle.dir_classify.specs.Classes.{AnswersClassQuestion}
use Rattle.dir_classify.specs.Question.{question_about_path_on_way}
use Rattle.dir_classify.specs.Kept.{LeavesRulesUnasked}
use Rattle.dir_classify.specs.Reads.{most_reads_on_way, most_reads_to_classify_path}
use Rattle.dir_classify.specs.Refused.{StopsAtRefusedDirectoryIfGiven}
use Rattle.dir_classify.specs.Rooted.{AsksRulesOnWayOrNot, IsPathOnWayToRoot, ClassifiesWayToRoot, reached_of_root_outcome, end_of_way_to_root}
use Rattle.dir_classify.proofs.Classed.{OnLookup-weaker, asked-quiet}
use Rattle.dir_classify.proofs.Refusals.{OnAccess-both, unread-refused}
use Rattle.dir_classify.proofs.WayUnread.{either-unread, quiet-not, unread-onward, unread-way, yes-no}
use Rattle.dir_classify.proofs.Asking.{needed-root, unasked-needed}
use Rattle.dir_classify.proofs.WayAsked.{leads-further, unasked-first, unasked-root, way-answered, way-root, way-stopped}
use Rattle.dir_classify.specs.declared.entry.Kind.{Kind}
use Rattle.dir_classify.specs.Chosen.{WalkOptions}
use Rattle.dir_classify.specs.Evidence.{PathEvidence}
use Rattle.dir_classify.specs.Way.{EndsWayFromPathAsRead, EndOfWayToRoot, count_asking_rules_behind_path, way_continues_beneath, end_of_way_through_components, end_of_way_from_worktree_root, end_of_way_at_path, end_of_way_at_worktree_root, end_of_way_with_rules_read}
use Rattle.gitbase_core.proofs.Names.{AreNames-components}
use Rattle.dir_classify.proofs.WayLeads.{leads-onward}
use Rattle.dir_classify.proofs.Onward.{IsOnward, root-memory, root-unasked, root-unread}

nothing-left : (front rest : List (List ℕ)) → [] ≡ front ++ rest → rest ≡ []
nothing-left [] rest e = sym e
nothing-left (name ∷ front) rest e = absurd (cc e)

longer : (front rest : List (List ℕ)) (name : List ℕ) → front ≡ front ++ name ∷ rest → ⊥
longer [] rest name e = cc e
longer (x ∷ front) rest name e = longer front rest name (tail-is e)
  where
    tail-is : {xs ys : List (List ℕ)} → x ∷ xs ≡ x ∷ ys → xs ≡ ys
    tail-is e = cc e

-- no component is left exactly where the path is the whole one
whole-path : (root path : List ℕ) (rest : List (List ℕ)) → root ≡ slash_joined_components (components root) → path ≡ slash_joined_components (components path) → components root ≡ components path ++ rest
    → is_nil rest ≡ bytes_eq path root
whole-path root path [] root_is spelled_is split =
    sym (same_name path root (spelled_is ∙ ap slash_joined_components (sym (append-nil (components path)) ∙ sym split) ∙ sym root_is))
whole-path root path (name ∷ rest) root_is spelled_is split =
    go (bytes_eq path root) refl
  where
    go : (b : Bool) → bytes_eq path root ≡ b → false ≡ b
    go true e = absurd (longer (components path) rest name (ap components ((bytes_eq-Decides path root).0 e) ∙ split))
    go false e = refl

-- at the worktree root, where no component leads further
way-top : (given : WalkSetting) (made : Option StackSetup) (s : TreeAndObjects) (root : List ℕ) → components root ≡ []
    → end_of_way_at_worktree_root given.options (evidence_from_setting_and_sources given made s) (λ p. kind_on_disk_if_asked given s.tree p true) ≡ end_of_way_to_root given made s root
unfolding end_of_way_from_worktree_root
way-top given made s root bare = ap (λ (l : List (List ℕ)). end_of_way_from_worktree_root given.options (evidence_from_setting_and_sources given made s) (λ p. kind_on_disk_if_asked given s.tree p true) l) (sym bare)

module _ {W F : Type 0} (w : WorktreeOf W) (f : FindOf F) (w0 w1 : W) (o0 o1 : F) (old new : Option StackModel) (given : WalkSetting)
    (root path rest : List ℕ) (c : Outcome) (in_repository : Bool) (at : IsOnward w f w0 w1 o0 o1 old new given root path c in_repository rest)
    (root_is : root ≡ slash_joined_components (components root)) (r : RootOutcome) (whole : Bool) (r_is : reached_of_root_outcome r false ≡ end_of_way_with_rules_read path c in_repository whole)
    (whole_is : whole ≡ is_nil (components rest)) (stays : whole ≡ false → way_continues_beneath given.options path c in_repository ≡ false)
    (onward_is : (s : TreeAndObjects) → end_of_way_through_components given.options (evidence_from_setting_and_sources given (setup_of_optional_stack old) s) (λ p. kind_on_disk_if_asked given s.tree p true) (end_of_way_with_rules_read path c in_repository true) (components rest)
    ≡ end_of_way_with_rules_read path c in_repository whole)
    (ends_at : (s : TreeAndObjects) → EndsWayFromPathAsRead (w.faults w1) (w.faults w1) given.options (evidence_from_setting_and_sources given (setup_of_optional_stack old) s) (λ p. kind_on_disk_if_asked given s.tree p true) path c in_repository (components rest) (end_of_way_with_rules_read path c in_repository whole)) where
  path_is : r.path ≡ path
  path_is = ap (λ (x : EndOfWayToRoot). x.path) r_is

  unasked-there : LeavesRulesUnasked (most_reads_on_way (most_reads_to_classify_path given.options) (components path)) (w.reads w0) (w.reads w1) o0 o1 old new
      → LeavesRulesUnasked (most_reads_on_way (most_reads_to_classify_path given.options) (components r.path)) (w.reads w0) (w.reads w1) o0 o1 old new
  unasked-there = subst (λ (p : List ℕ). LeavesRulesUnasked (most_reads_on_way (most_reads_to_classify_path given.options) (components p)) (w.reads w0) (w.reads w1) o0 o1 old new) (sym path_is)

  pub Reaches-ended : ClassifiesWayToRoot w f w0 w1 o0 o1 old new given root (Ok r)
  Reaches-ended =
      record {
        reached = λ s tells stepped quiet. r_is ∙ sym (onward_is s) ∙ at.leads s tells stepped quiet;
        top = λ is s told quiet.
            let ev = evidence_from_setting_and_sources given (setup_of_optional_stack old) s in
            let kinds = λ (p : List ℕ). kind_on_disk_if_asked given s.tree p true in
            let bare : components root ≡ [] = ap components is in
            r_is
            ∙ sym (onward_is s)
            ∙ ap (λ (l : List (List ℕ)). end_of_way_through_components given.options ev kinds (end_of_way_with_rules_read path c in_repository true) l) (nothing-left (components path) (components rest) (sym bare ∙ at.split))
            ∙ at.top bare s told quiet
            ∙ way-top given (setup_of_optional_stack old) s root bare;
        swallowed = λ s tells stepped. at.ends s tells stepped (w.faults w1) (reached_of_root_outcome r false)
            (subst (λ (x : EndOfWayToRoot). EndsWayFromPathAsRead (w.faults w1) (w.faults w1) given.options (evidence_from_setting_and_sources given (setup_of_optional_stack old) s) (λ p. kind_on_disk_if_asked given s.tree p true) path c in_repository (components rest) x) (sym r_is) (ends_at s));
        prefix = subst (IsPathOnWayToRoot root) (sym path_is) (record { spelled_is = at.spelled_is; rest = components rest; components_are = at.split });
        whole =
            ap (λ (x : EndOfWayToRoot). x.whole) r_is
            ∙ whole_is
            ∙ whole-path root path (components rest) root_is at.spelled_is at.split
            ∙ ap (λ (p : List ℕ). bytes_eq p root) (sym path_is);
        ended = λ part. ap (λ (x : EndOfWayToRoot). way_continues_beneath given.options x.path x.class x.in_repository) r_is ∙ stays (ap (λ (x : EndOfWayToRoot). x.whole) (sym r_is) ∙ part);
        about = tt;
        refused = λ s tells. tt;
        met = λ s tells stepped quiet. tt;
        asked = λ s tells stepped quiet. tt;
        asked_so = λ s tells stepped. tt;
        stopped = tt;
        cause = tt;
        keeps = at.keeps;
        store = at.store;
        unmapped = at.unmapped;
        rules = at.rules;
        reads =
            subst (λ (p : List ℕ). AsksRulesOnWayOrNot {E = Error} (most_reads_to_classify_path given.options) p (w.reads w0) (w.reads w1) o0 o1 old new (Ok r)) (sym path_is)
            (way-answered (most_reads_to_classify_path given.options) path (w.reads w0) (w.reads w1) o0 o1 old new tt r at.reads);
        unsought = λ s tells stepped quiet never.
            subst (λ (p : List ℕ). AsksRulesOnWayOrNot {E = Error} 0 p (w.reads w0) (w.reads w1) o0 o1 old new (Ok r)) (sym path_is)
            (way-answered 0 path (w.reads w0) (w.reads w1) o0 o1 old new tt r
            (at.unsought s tells stepped quiet (λ p leads. never p (subst (λ (x : List ℕ). IsPathOnWayToRoot x p) (sym path_is) leads))));
        needed = λ s told quiet.
            subst (λ (p : List ℕ). lookup_count_of_stack new ≤ lookup_count_of_stack old + count_asking_rules_behind_path given.options (evidence_from_setting_and_sources given (setup_of_optional_stack old) s) (λ q. kind_on_disk_if_asked given s.tree q true) [] (components p)) (sym path_is)
            (at.needed s told quiet);
        spared = λ s never. (unasked-there (at.spared s (λ p leads. never p (subst (λ (x : List ℕ). IsPathOnWayToRoot x p) (sym path_is) leads))), tt);
        unasked = λ s told quiet never. unasked-there (at.unasked s told quiet (λ p leads. never p (subst (λ (x : List ℕ). IsPathOnWayToRoot x p) (sym path_is) leads)));
      }

-- no component is left
pub ended-whole : (now : ℕ) (o : WalkOptions) (ev : PathEvidence) (kinds : List ℕ → Option Kind) (path : List ℕ) (c : Outcome) (in_repository : Bool) (names : List (List ℕ)) → names ≡ []
    → (end_of_way_through_components o ev kinds (end_of_way_with_rules_read path c in_repository true) names ≡ end_of_way_with_rules_read path c in_repository true) × EndsWayFromPathAsRead now now o ev kinds path c in_repository names (end_of_way_with_rules_read path c in_repository true)
ended-whole now o ev kinds path c in_repository [] e = (refl, (omega arith, refl))
ended-whole now o ev kinds path c in_repository (name ∷ names) e = absurd (cc e)

-- the way does not go on
pub ended-short : (now : ℕ) (o : WalkOptions) (ev : PathEvidence) (kinds : List ℕ → Option Kind) (path name : List ℕ) (c : Outcome) (in_repository : Bool) (names left : List (List ℕ)) → names ≡ name ∷ left
    → way_continues_beneath o path c in_repository ≡ false
    → (end_of_way_through_components o ev kinds (end_of_way_with_rules_read path c in_repository true) names ≡ end_of_way_with_rules_read path c in_repository false) × EndsWayFromPathAsRead now now o ev kinds path c in_repository names (end_of_way_with_rules_read path c in_repository false)
ended-short now o ev kinds path name c in_repository [] left e stays = absurd (cc e)
ended-short now o ev kinds path name c in_repository (n ∷ names) left e stays =
    (shut (way_continues_beneath o path c in_repository) stays, (λ goes. absurd (yes-no (way_continues_beneath o path c in_repository) goes stays), λ stay. (omega arith, refl)))
  where
    shut : (b : Bool) → b ≡ false
        → (if b then end_of_way_through_components o ev kinds (end_of_way_at_path o ev kinds in_repository false (path_joined_with_slash path n)) names else record (end_of_way_with_rules_read path c in_repository true) { whole = false })
        ≡ end_of_way_with_rules_read path c in_repository false
    shut true f = absurd (cc f)
    shut false f = refl

-- memory was refused
pub Reaches-stopped : {W F : Type 0} (w : WorktreeOf W) (f : FindOf F) (w0 w1 : W) (o0 o1 : F) (old new : Option StackModel) (given : WalkSetting)
    (root path rest : List ℕ) (c : Outcome) (in_repository : Bool) → IsOnward w f w0 w1 o0 o1 old new given root path c in_repository rest
    → ClassifiesWayToRoot w f w0 w1 o0 o1 old new given root (Err errors.OutOfMemory)
Reaches-stopped w f w0 w1 o0 o1 old new given root path rest c in_repository at =
    record {
      reached = λ s tells stepped quiet. tt;
      top = λ is s told quiet. tt;
      swallowed = λ s tells stepped. tt;
      prefix = tt;
      whole = tt;
      ended = tt;
      about = (path, record { spelled_is = at.spelled_is; rest = components rest; components_are = at.split }, tt);
      refused = λ s tells. (path, record { spelled_is = at.spelled_is; rest = components rest; components_are = at.split }, (tt, tt));
      met = λ s tells stepped quiet.
          let ev = evidence_from_setting_and_sources given (setup_of_optional_stack old) s in
          let kinds = λ (p : List ℕ). kind_on_disk_if_asked given s.tree p true in (
            path,
            subst (λ (r : EndOfWayToRoot). IsPathOnWayToRoot r.path path) (at.leads s tells stepped quiet)
                (leads-onward given.options ev kinds (end_of_way_with_rules_read path c in_repository true) (components rest) at.spelled_is (AreNames-components rest)),
            (tt, tt),
          );
      asked = λ s tells stepped quiet. tt;
      asked_so = λ s tells stepped. tt;
      stopped = tt;
      cause = tt;
      keeps = at.keeps;
      store = at.store;
      unmapped = at.unmapped;
      rules = at.rules;
      reads = way-root (most_reads_to_classify_path given.options) root path (components rest) (w.reads w0) (w.reads w1) o0 o1 old new (Err errors.OutOfMemory) at.split
          (way-stopped (most_reads_to_classify_path given.options) path (w.reads w0) (w.reads w1) o0 o1 old new errors.OutOfMemory at.reads);
      unsought = λ s tells stepped quiet never.
          way-root 0 root path (components rest) (w.reads w0) (w.reads w1) o0 o1 old new (Err errors.OutOfMemory) at.split
          (way-stopped 0 path (w.reads w0) (w.reads w1) o0 o1 old new errors.OutOfMemory
          (at.unsought s tells stepped quiet (λ p leads. never p (leads-further root path p (components rest) at.split leads))));
      needed = λ s told quiet.
          needed-root given.options (evidence_from_setting_and_sources given (setup_of_optional_stack old) s) (λ p. kind_on_disk_if_asked given s.tree p true) (components path) (components rest) (components root) (lookup_count_of_stack old) (lookup_count_of_stack new) at.split
          (at.needed s told quiet);
      spared = λ s never.
          (unasked-root (most_reads_to_classify_path given.options) (components root) (components path) (components rest) at.split (at.spared s (λ p leads. never p (leads-further root path p (components rest) at.split leads))), tt);
      unasked = λ s told quiet never.
          unasked-root (most_reads_to_classify_path given.options) (components root) (components path) (components rest) at.split
          (at.unasked s told quiet (λ p leads. never p (leads-further root path p (components rest) at.split leads)));
    }

-- the class of the worktree root was refused
unread-root : (given : WalkSetting) (made : Option StackSetup) (s : TreeAndObjects) (root : List ℕ)
    → asks_of given.options (evidence_from_setting_and_sources given made s) [] (kind_on_disk_if_asked given s.tree [] true) None ≡ true → is_some_rules_file_unread made s [] ≡ true
    → (end_of_way_to_root given made s root).is_unread ≡ true
unfolding end_of_way_from_worktree_root
unread-root given made s root asks unread =
    let ev = evidence_from_setting_and_sources given made s in
    let kinds = λ (p : List ℕ). kind_on_disk_if_asked given s.tree p true in
    unread-onward given.options ev kinds (end_of_way_at_worktree_root given.options ev kinds) (components root) (unread-way given made made s [] refl asks unread)

pub Reaches-unrooted : {W F : Type 0} (w : WorktreeOf W) (f : FindOf F) (w0 w1 : W) (o0 o1 : F) (old new : Option StackModel) (given : WalkSetting) (root : List ℕ) (e : Error)
    → AnswersClassQuestion w f w0 w1 o0 o1 old new given (question_about_path_on_way given.options []) (Err e)
    → ClassifiesWayToRoot w f w0 w1 o0 o1 old new given root (Err e)
Reaches-unrooted w f w0 w1 o0 o1 old new given root e step =
    let leads : IsPathOnWayToRoot root [] = record { spelled_is = refl; rest = components root; components_are = refl } in
    record {
      reached = λ s tells stepped quiet. tt;
      top = λ is s told quiet. tt;
      swallowed = λ s tells stepped. tt;
      prefix = tt;
      whole = tt;
      ended = tt;
      about = ([], leads, step.asking.about);
      refused = λ s tells. ([], leads, (step.asking.about, step.asking.refused s tells));
      met = λ s tells stepped quiet.
          ([], record { spelled_is = refl; rest = components (end_of_way_to_root given (setup_of_optional_stack old) s root).path; components_are = refl }, (step.asking.about, step.asking.refused s tells));
      asked = λ s tells stepped quiet.
          OnAccess-both (asks_of given.options (evidence_from_setting_and_sources given (setup_of_optional_stack old) s) [] (kind_on_disk_if_asked given s.tree [] true) None ≡ true)
          ((is_some_rules_file_unread (setup_of_optional_stack old) s [] ≡ true) ⊎ CountIncreasedOrSaturated (f.faults o0) (f.faults o1))
          (((end_of_way_to_root given (setup_of_optional_stack old) s root).is_unread ≡ true) ⊎ CountIncreasedOrSaturated (f.faults o0) (f.faults o1)) e
          (λ asks unread. either-unread (is_some_rules_file_unread (setup_of_optional_stack old) s [] ≡ true) (CountIncreasedOrSaturated (f.faults o0) (f.faults o1)) ((end_of_way_to_root given (setup_of_optional_stack old) s root).is_unread ≡ true)
          (CountIncreasedOrSaturated (f.faults o0) (f.faults o1)) (unread-root given (setup_of_optional_stack old) s root asks) (λ more. more) unread)
          (asked-quiet (w.faults w0) (w.faults w1) (λ k. asks_of given.options (evidence_from_setting_and_sources given (setup_of_optional_stack old) s) [] k None) (kind_on_disk_if_asked given s.tree [] true) e quiet (step.asked s tells.tree_is))
          (unread-refused s (setup_of_optional_stack old) [] (CountIncreasedOrSaturated (w.faults w0) (w.faults w1)) (CountIncreasedOrSaturated (f.faults o0) (f.faults o1)) e (quiet-not (w.faults w0) (w.faults w1) quiet)
          step.asking.about (step.asking.refused s tells) step.asking.cause);
      asked_so = λ s tells stepped. OnLookup-weaker (λ a. ⊥) _ e (λ a never. absurd never) (root-memory step);
      stopped =
          OnLookup-weaker (StopsAtRefusedDirectoryIfGiven (w.told w0) (f.holds o0) (CountIncreasedOrSaturated (w.faults w0) (w.faults w1)) (CountIncreasedOrSaturated (f.faults o0) (f.faults o1)) [] old new) _ e
          (λ a stops. ([], leads, record { before = old; since = inl refl; made = refl; in_step = λ s tells stepped. stepped; stops = stops })) step.asking.stopped;
      cause = step.asking.cause;
      keeps = step.asking.keeps;
      store = step.asking.store;
      unmapped = step.asking.unmapped;
      rules = step.asking.rules;
      reads = inl (unasked-first (most_reads_to_classify_path given.options) (components root) (root-unasked step));
      unsought = λ s tells stepped quiet never. inl (unasked-first 0 (components root) (root-unread step s tells.tree_is quiet (never [] leads)));
      needed = λ s told quiet. unasked-needed (root-unasked step) _;
      spared = λ s never. (unasked-first (most_reads_to_classify_path given.options) (components root) (root-unasked step), root-memory step);
      unasked = λ s told quiet never. unasked-first (most_reads_to_classify_path given.options) (components root) (root-unasked step);
    }
