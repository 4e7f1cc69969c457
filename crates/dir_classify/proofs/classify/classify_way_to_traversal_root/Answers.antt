use Rattle.std.proofs.Common.{◌≡◌, ◌∙◌, ap, sym, refl, subst, true, false, ℕ, List, [], Option, None, inl, rules, arith}
use Rattle.std.proofs.lemmas.Result.{err_from_is_err_and}
use Rattle.dir_classify.specs.declared.entry.Kind.{Kind}
use Rattle.dir_classify.specs.Excludes.{setup_of_optional_stack}
use Rattle.gitbase_core.specs.Path.{components}
use Rattle.worktree_fs.specs.Paths.{is_nil}
use Rattle.worktree_stack.specs.Reading.{TreeAndObjects}
use Rattle.dir_classify.specs.Layers.{setting_of_shared, evidence_from_setting_and_sources, kind_on_disk_if_asked}
use Rattle.dir_classify.specs.Way.{EndsWayFromRootAsRead, EndOfWayToRoot, end_of_way_with_rules_read}
use Rattle.dir_classify.specs.Reads.{most_reads_to_classify_path}
use Rattle.dir_classify.proofs.Asking.{unasked-needed}
use Rattle.dir_classify.proofs.WayAsked.{unasked-first}
use Rattle.dir_classify.proofs.Onward.{way-init, top-init, never-asked, never-unread, ends-init, root-unasked, root-unread, grown-normal, grown-spelled, onward-grown, Reaches-refused}
use Rattle.dir_classify.proofs.Ended.{Reaches-ended, Reaches-stopped, Reaches-unrooted, ended-short, ended-whole}
use Rattle.dir_classify.proofs.classify.classify_way_to_traversal_root.Goals as goal

pub loop-next-init : goal.loop-next-init
loop-next-init g c =
    let first = c.in_ok-class.ensures in
    let path_is : c.in_ok-path.path ≡ [] = search rules in
    record {
      keeps = first.asking.keeps;
      store = first.asking.store;
      unmapped = first.asking.unmapped;
      rules = first.asking.rules;
      spelled_is = search rules;
      split = search rules;
      leads = λ s tells step quiet.
          let way = way-init (setting_of_shared g.M.Matcher c.args.shared.now) (setup_of_optional_stack c.args.excludes.now) s c.args.worktree_relative_root.now c.in_ok-class.class c.is_repository_kind-in_repository.result
          (first.class s tells step quiet) (first.read s tells step quiet) c.is_repository_kind-in_repository.ensures in search rules;
      top = λ bare s told quiet.
          let given = setting_of_shared g.M.Matcher c.args.shared.now in
          let ev = evidence_from_setting_and_sources given (setup_of_optional_stack c.args.excludes.now) s in
          let kinds : List ℕ → Option Kind = λ p. kind_on_disk_if_asked given s.tree p true in
          top-init given.options ev kinds c.in_ok-path.path c.in_ok-class.class c.is_repository_kind-in_repository.result path_is
          (first.unruled s told quiet (never-asked given.options ev (kinds []) None)) (never-unread given.options ev kinds) c.is_repository_kind-in_repository.ensures;
      ends = λ s tells step now r end.
          let given = setting_of_shared g.M.Matcher c.args.shared.now in
          ends-init _ _ now given.options (evidence_from_setting_and_sources given (setup_of_optional_stack c.args.excludes.now) s) (λ p. kind_on_disk_if_asked given s.tree p true) (components c.args.worktree_relative_root.now) c.in_ok-path.path c.in_ok-class.class
          c.is_repository_kind-in_repository.result r path_is c.is_repository_kind-in_repository.ensures (first.swallowed s tells step).0 end;
      stands = λ s tells step.
          let given = setting_of_shared g.M.Matcher c.args.shared.now in
          let ev = evidence_from_setting_and_sources given (setup_of_optional_stack c.args.excludes.now) s in
          let kinds : List ℕ → Option Kind = λ p. kind_on_disk_if_asked given s.tree p true in
          let now = g.W.Worktree.faults c.classify_path_asking_kind_first.new.worktree in
          let at_root : EndOfWayToRoot = end_of_way_with_rules_read c.in_ok-path.path c.in_ok-class.class c.is_repository_kind-in_repository.result true in
          subst (λ (l : List (List ℕ)). EndsWayFromRootAsRead (g.W.Worktree.faults c.args.worktree.now) now given.options ev kinds l at_root) (sym (ap components path_is))
          (ends-init (g.W.Worktree.faults c.args.worktree.now) now now given.options ev kinds [] c.in_ok-path.path c.in_ok-class.class c.is_repository_kind-in_repository.result at_root path_is c.is_repository_kind-in_repository.ensures
          (first.swallowed s tells step).0 (omega arith, refl));
      reads = inl (unasked-first (most_reads_to_classify_path (setting_of_shared g.M.Matcher c.args.shared.now).options) (components c.in_ok-path.path) (root-unasked first));
      unsought = λ s tells step quiet never.
          inl (unasked-first 0 (components c.in_ok-path.path) (root-unread first s tells.tree_is quiet (never [] (record { spelled_is = refl; rest = []; components_are = ap components path_is }))));
      needed = λ s told quiet. unasked-needed (root-unasked first) _;
      spared = λ s never. unasked-first (most_reads_to_classify_path (setting_of_shared g.M.Matcher c.args.shared.now).options) (components c.in_ok-path.path) (root-unasked first);
      unasked = λ s told quiet no. unasked-first (most_reads_to_classify_path (setting_of_shared g.M.Matcher c.args.shared.now).options) (components c.in_ok-path.path) (root-unasked first);
    }

pub classify_path_asking_kind_first-requires-in-Some-clause-normal : goal.classify_path_asking_kind_first-requires-in-Some-clause-normal
classify_path_asking_kind_first-requires-in-Some-clause-normal g c =
    rw (c.as_bytes-in-Some.ensures, c.in_ok-push_component.ensures.pushed)
    (grown-normal g.W.Worktree g.F.Find c.args.worktree.now c.loop-next.worktree c.loop-next.worktree c.args.objects.now c.loop-next.objects c.loop-next.objects c.args.excludes.now c.loop-next.excludes c.loop-next.excludes
    (setting_of_shared g.M.Matcher c.args.shared.now) c.args.worktree_relative_root.now c.loop-next.path c.in-Some.next.name.now c.loop-next.rest.now c.in-Some.next.rest.now c.loop-next.class c.is_repository_kind-in_repository.result
    c.loop-next.invariant c.in-Some.ensures.0 c.in-Some.ensures.1 c.requires.normal)

pub returns-in_err-class-2 : goal.returns-in_err-class-2
returns-in_err-class-2 g c =
    let p = err_from_is_err_and c.from_residual-in_err-class-2.result c.from_residual-in_err-class-2.ensures.1 in
    rw (p.1, p.2)
    (Reaches-refused g.W.Worktree g.F.Find c.args.worktree.now c.loop-next.worktree c.classify_path_asking_kind_first-in-Some.new.worktree c.args.objects.now c.loop-next.objects c.classify_path_asking_kind_first-in-Some.new.objects c.args.excludes.now c.loop-next.excludes c.classify_path_asking_kind_first-in-Some.new.excludes
    (setting_of_shared g.M.Matcher c.args.shared.now) c.args.worktree_relative_root.now c.loop-next.path c.in-Some.next.name.now c.loop-next.rest.now c.in-Some.next.rest.now c.loop-next.class c.is_repository_kind-in_repository.result
    c.loop-next.invariant c.in-Some.ensures.0 c.in-Some.ensures.1 c.in_err-class-2.field-0.0 (rw c.as_bytes.ensures at (sym c.way_continues_beneath.ensures ∙ c.if-not-way_continues_beneath.false))
    (rw (c.as_bytes-in-Some.ensures, c.in_ok-push_component.ensures.pushed) at c.in_err-class-2.ensures))

pub loop-next-preserved : goal.loop-next-preserved
loop-next-preserved g c =
    rw c.in_ok-push_component.ensures.pushed
    (onward-grown g.W.Worktree g.F.Find c.args.worktree.now c.loop-next.worktree c.classify_path_asking_kind_first-in-Some.new.worktree c.args.objects.now c.loop-next.objects c.classify_path_asking_kind_first-in-Some.new.objects c.args.excludes.now c.loop-next.excludes c.classify_path_asking_kind_first-in-Some.new.excludes
    (setting_of_shared g.M.Matcher c.args.shared.now) c.args.worktree_relative_root.now c.loop-next.path c.in-Some.next.name.now c.loop-next.rest.now c.in-Some.next.rest.now c.loop-next.class c.is_repository_kind-in_repository.result
    c.loop-next.invariant c.in-Some.ensures.0 c.in-Some.ensures.1 c.in_ok-class-2.class (rw c.as_bytes.ensures at (sym c.way_continues_beneath.ensures ∙ c.if-not-way_continues_beneath.false))
    (rw (c.as_bytes-in-Some.ensures, c.in_ok-push_component.ensures.pushed) at c.in_ok-class-2.ensures))

pub classify_path_asking_kind_first-requires-in-Some-clause-spelled : goal.classify_path_asking_kind_first-requires-in-Some-clause-spelled
classify_path_asking_kind_first-requires-in-Some-clause-spelled g c =
    rw (c.as_bytes-in-Some.ensures, c.in_ok-push_component.ensures.pushed)
    (grown-spelled g.W.Worktree g.F.Find c.args.worktree.now c.loop-next.worktree c.loop-next.worktree c.args.objects.now c.loop-next.objects c.loop-next.objects c.args.excludes.now c.loop-next.excludes c.loop-next.excludes
    (setting_of_shared g.M.Matcher c.args.shared.now) c.args.worktree_relative_root.now c.loop-next.path c.in-Some.next.name.now c.loop-next.rest.now c.in-Some.next.rest.now c.loop-next.class c.is_repository_kind-in_repository.result
    c.loop-next.invariant c.in-Some.ensures.0 c.in-Some.ensures.1)

pub returns-in_err-class : goal.returns-in_err-class
returns-in_err-class g c =
    let p = err_from_is_err_and c.from_residual-in_err-class.result c.from_residual-in_err-class.ensures.1 in
    rw (p.1, p.2)
    (Reaches-unrooted g.W.Worktree g.F.Find c.args.worktree.now c.classify_path_asking_kind_first.new.worktree c.args.objects.now c.classify_path_asking_kind_first.new.objects c.args.excludes.now c.classify_path_asking_kind_first.new.excludes
    (setting_of_shared g.M.Matcher c.args.shared.now) c.args.worktree_relative_root.now c.in_err-class.field-0.0 c.in_err-class.ensures)

pub returns-then-not-way_continues_beneath : goal.returns-then-not-way_continues_beneath
returns-then-not-way_continues_beneath g c =
    let given = setting_of_shared g.M.Matcher c.args.shared.now in
    let short = λ (s : TreeAndObjects). ended-short (g.W.Worktree.faults c.loop-next.worktree) given.options (evidence_from_setting_and_sources given (setup_of_optional_stack c.args.excludes.now) s) (λ p. kind_on_disk_if_asked given s.tree p true) c.loop-next.path c.in-Some.next.name.now c.loop-next.class
    c.is_repository_kind-in_repository.result (components c.loop-next.rest.now) (components c.in-Some.next.rest.now) c.in-Some.ensures.0 (rw c.as_bytes.ensures at (sym c.way_continues_beneath.ensures ∙ c.if-not-way_continues_beneath.true)) in
    Reaches-ended g.W.Worktree g.F.Find c.args.worktree.now c.loop-next.worktree c.args.objects.now c.loop-next.objects c.args.excludes.now c.loop-next.excludes given
    c.args.worktree_relative_root.now c.loop-next.path c.loop-next.rest.now c.loop-next.class c.is_repository_kind-in_repository.result c.loop-next.invariant c.requires.spelled
    c.new_root_outcome.result false c.new_root_outcome.ensures (ap is_nil (sym c.in-Some.ensures.0)) (λ part. rw c.as_bytes.ensures at (sym c.way_continues_beneath.ensures ∙ c.if-not-way_continues_beneath.true)) (λ s. (short s).0) (λ s. (short s).1)

pub returns-in_err-push_component : goal.returns-in_err-push_component
returns-in_err-push_component g c =
    let p = err_from_is_err_and c.from_residual-in_err-push_component.result c.from_residual-in_err-push_component.ensures.1 in
    rw (p.1, p.2)
    (Reaches-stopped g.W.Worktree g.F.Find c.args.worktree.now c.loop-next.worktree c.args.objects.now c.loop-next.objects c.args.excludes.now c.loop-next.excludes
    (setting_of_shared g.M.Matcher c.args.shared.now) c.args.worktree_relative_root.now c.loop-next.path c.loop-next.rest.now c.loop-next.class c.is_repository_kind-in_repository.result c.loop-next.invariant)

pub returns : goal.returns
returns g c =
    let given = setting_of_shared g.M.Matcher c.args.shared.now in
    let none : components c.loop-next.rest.now ≡ [] = search rules in
    let whole = λ (s : TreeAndObjects). ended-whole (g.W.Worktree.faults c.loop-next.worktree) given.options (evidence_from_setting_and_sources given (setup_of_optional_stack c.args.excludes.now) s) (λ p. kind_on_disk_if_asked given s.tree p true) c.loop-next.path c.loop-next.class
    c.is_repository_kind-in_repository.result (components c.loop-next.rest.now) none in
    Reaches-ended g.W.Worktree g.F.Find c.args.worktree.now c.loop-next.worktree c.args.objects.now c.loop-next.objects c.args.excludes.now c.loop-next.excludes given
    c.args.worktree_relative_root.now c.loop-next.path c.loop-next.rest.now c.loop-next.class c.is_repository_kind-in_repository.result c.loop-next.invariant c.requires.spelled
    c.new_root_outcome-2.result true c.new_root_outcome-2.ensures (ap is_nil (sym none)) (λ part. absurd (cc part)) (λ s. (whole s).0) (λ s. (whole s).1)
