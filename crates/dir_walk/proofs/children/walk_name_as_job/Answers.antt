-- A name of the traversal root, exit by exit: as a name of any directory, but what is entered is a job, which counts what it opens by itself.
use Rattle.std.proofs.Common.{◌≡◌, ◌≤◌, ◌+◌, ◌-◌, ◌&&◌, ℕ, None, ap, sym, refl, ◌∙◌, arith, true, false, subst, rules}
use Rattle.std.proofs.lemmas.Result.{IfOk-weaker, on_ok_weaker, on_err_weaker, err_from_is_err_and}
use Rattle.gitbase_core.specs.Path.{is_empty, path_joined_with_slash}
use Rattle.worktree_fs.specs.Causes.{CountNotIncreased}
use Rattle.dir_classify.specs.Chosen.{walk_options_of}
use Rattle.dir_classify.specs.Class.{class, asks_ignore_rules, enters, outcome_of_unentered_path}
use Rattle.dir_classify.specs.Excludes.{setup_of_optional_stack}
use Rattle.dir_classify.specs.Layers.{setting_of_shared, evidence_from_setting_and_sources, kind_on_disk_if_asked}
use Rattle.dir_walk.specs.Placed.{PlaceInWorktree, IsNameInPlace}
use Rattle.dir_walk.specs.Opens.{count_paths_within_depth}
use Rattle.dir_walk.specs.Report.{count_components}
use Rattle.dir_walk.specs.Told.{walk_result_of_directory_over_sources}
use Rattle.dir_walk.proofs.Walked.NameEnds.{Before-same, any-entered, any-leaf, any-memory}
use Rattle.dir_walk.proofs.Walked.CallByCall.{Before-asked, Before-classed, Before-then}
use Rattle.dir_walk.proofs.Opens.Keeping.{KeepsRules-same, KeepsRules-then, KeepsDelegate-asked, KeepsDelegate-same}
use Rattle.dir_walk.proofs.Opens.Apart.{apart-job, apart-none}
use Rattle.dir_walk.proofs.Places.JoinedPaths.{joined-some}
use Rattle.dir_walk.proofs.Places.Placed.{depth_of-joined}
use Rattle.dir_walk.proofs.Places.Standing.{OnOk-always}
use Rattle.dir_walk.proofs.Folding.Steps.{entered-directory, telling, Stands-later, Gives-leaf, Gives-put, part-leaf, part-put}
use Rattle.dir_walk.proofs.Places.Rooms.{Hands-none}
use Rattle.dir_walk.proofs.Folding.Hiding.{AddsShown-same}
use Rattle.dir_walk.proofs.Refused.Refusals.{IsAbout-class, IsAbout-deep, IsInTree-class, memory-only}
use Rattle.dir_walk.proofs.Refused.Shallow.{shallow-class, shallow-memory}
use Rattle.dir_walk.proofs.Walked.NameSteps.{told-deep, told-entered, told-unclassed}
use Rattle.dir_walk.proofs.children.walk_name_as_job.Goals as goal

pub returns-then-delegate_enters_directory-clause-rules : goal.returns-then-delegate_enters_directory-clause-rules
returns-then-delegate_enters_directory-clause-rules g c = KeepsRules-then c.classify_name_asking_disk.ensures.asking.keeps.tree c.classify_name_asking_disk.ensures.asking.store.holds c.classify_name_asking_disk.ensures.asking.rules (rw c.walk_as_job-handed.ensures.rules KeepsRules-same)

pub returns-then-delegate_enters_directory-clause-told : goal.returns-then-delegate_enters_directory-clause-told
returns-then-delegate_enters_directory-clause-told g c =
    let a = c.args in let at = ap (λ (x : PlaceInWorktree). x.path) c.in_ok-cut.ensures.pushed in
    told-entered g.W.Worktree g.F.Find g.D.Delegate
    (record { worktree = c.classify_name_asking_disk.new.worktree; objects = c.classify_name_asking_disk.new.objects; interrupt = a.parts.now.interrupt.now; delegate = c.delegate_enters_directory.new.delegate; rules = c.classify_name_asking_disk.new.excludes; outcome = a.parts.now.outcome.now })
    (setting_of_shared g.M.Matcher a.shared.now) c.push.new.self.path c.in_ok-class.class c.walk_as_job-handed.result c.requires.name at
    (omega (arith, c.if-levels-eq0.false, ap count_components at, depth_of-joined a.place.now.path a.name.now c.requires.name))
    (rw c.path-path.ensures.path at c.in_ok-class.ensures) (λ default. sym (c.delegate_enters_directory.ensures.entered default) ∙ c.if-delegate_enters_directory.true) c.delegate_enters_directory.ensures.default c.delegate_enters_directory.ensures.given
    c.walk_as_job-handed.ensures.job.walks.worktree.faults c.walk_as_job-handed.ensures.job.told

pub returns-clause-told : goal.returns-clause-told
returns-clause-told g c =
    record {
      gives = λ made s stands quiet default limit level.
          let a = c.args in let w = g.W.Worktree in let o = walk_options_of a.shared.now.options in
          let given = setting_of_shared g.M.Matcher a.shared.now in let ev = evidence_from_setting_and_sources given made s in let q = path_joined_with_slash a.place.now.path a.name.now in
          let p = c.push.new.self.path in let at = ap (λ (x : PlaceInWorktree). x.path) c.in_ok-cut.ensures.pushed in let k = c.in_ok-class.class in
          let asked : CountNotIncreased (w.faults a.parts.now.worktree.now) (w.faults c.classify_name_asking_disk.new.worktree) = omega (arith, quiet, c.outcome_of_unentered_path.ensures.worktree.faults) in
          let here : CountNotIncreased (w.faults c.classify_name_asking_disk.new.worktree) (w.faults c.outcome_of_unentered_path.new.worktree) = omega (arith, quiet, c.classify_name_asking_disk.ensures.asking.keeps.faults) in
          let is : k ≡ class o ev p None (kind_on_disk_if_asked given s.tree p true) = rw (c.path-path.ensures.path, stands.made_is) at (c.in_ok-class.ensures.class s (telling stands) stands.in_step asked) in
          let read : (asks_ignore_rules o ev p None (kind_on_disk_if_asked given s.tree p true) && ev.is_unread p) ≡ false = rw (c.path-path.ensures.path, stands.made_is) at (c.in_ok-class.ensures.read s (telling stands) stands.in_step asked) in
          let leaving : enters o k false ≡ false = sym (c.delegate_enters_directory.ensures.entered default) ∙ c.if-delegate_enters_directory.false in let z = c.in_ok-class-2.class in
          let hides : z ≡ outcome_of_unentered_path o ev p k = c.in_ok-class-2.ensures.class made s (c.classify_name_asking_disk.ensures.asking.keeps.tree ∙ stands.tree) here in
          IfOk-weaker c.hand_up_or_emit_leaf-handed.result _ _ (λ h closes. Gives-leaf given made s p k is q at _ _ limit _ _ h read leaving (Gives-put o limit ev p k z _ _ _ _ h hides closes))
          (rw (c.path-path.ensures.path, c.delegate_enters_directory.ensures.given) at c.hand_up_or_emit_leaf-handed.ensures.gives);
      part = λ made s stands quiet default.
          let a = c.args in let w = g.W.Worktree in let o = walk_options_of a.shared.now.options in let given = setting_of_shared g.M.Matcher a.shared.now in
          let ev = evidence_from_setting_and_sources given made s in let q = path_joined_with_slash a.place.now.path a.name.now in let p = c.push.new.self.path in
          let at = ap (λ (x : PlaceInWorktree). x.path) c.in_ok-cut.ensures.pushed in let k = c.in_ok-class.class in
          let asked : CountNotIncreased (w.faults a.parts.now.worktree.now) (w.faults c.classify_name_asking_disk.new.worktree) = omega (arith, quiet, c.outcome_of_unentered_path.ensures.worktree.faults) in
          let here : CountNotIncreased (w.faults c.classify_name_asking_disk.new.worktree) (w.faults c.outcome_of_unentered_path.new.worktree) = omega (arith, quiet, c.classify_name_asking_disk.ensures.asking.keeps.faults) in
          let is : k ≡ class o ev p None (kind_on_disk_if_asked given s.tree p true) = rw (c.path-path.ensures.path, stands.made_is) at (c.in_ok-class.ensures.class s (telling stands) stands.in_step asked) in
          let leaving : enters o k false ≡ false = sym (c.delegate_enters_directory.ensures.entered default) ∙ c.if-delegate_enters_directory.false in let z = c.in_ok-class-2.class in
          let hides : z ≡ outcome_of_unentered_path o ev p k = c.in_ok-class-2.ensures.class made s (c.classify_name_asking_disk.ensures.asking.keeps.tree ∙ stands.tree) here in
          on_err_weaker c.hand_up_or_emit_leaf-handed.result (λ part. part-leaf given made s p k is q at _ _ _ _ leaving (part-put o ev p k z _ _ _ _ hides part))
          (rw (c.path-path.ensures.path, c.delegate_enters_directory.ensures.given) at c.hand_up_or_emit_leaf-handed.ensures.part);
      refused = λ made s stands default limit level. memory-only c.hand_up_or_emit_leaf-handed.result _ tt c.hand_up_or_emit_leaf-handed.ensures.memory;
    }

pub returns-in_err-class-clause-walks : goal.returns-in_err-class-clause-walks
returns-in_err-class-clause-walks g c =
    record {
      about = λ limit level.
          let a = c.args in let r = err_from_is_err_and c.from_residual-in_err-class.result c.from_residual-in_err-class.ensures.1 in
          let at = ap (λ (x : PlaceInWorktree). x.path) c.in_ok-cut.ensures.pushed in
          let near : count_components c.push.new.self.path ≤ limit + 1 = omega (arith, level, ap count_components at, depth_of-joined a.place.now.path a.name.now c.requires.name) in
          rw (r.1, r.2) (IsAbout-class (setup_of_optional_stack a.parts.now.excludes.now) a.shared.now.worktree_root.now limit c.push.new.self.path _ c.path-path.ensures.normal near (rw c.path-path.ensures.path at c.in_err-class.ensures.asking.about));
      found = λ s told.
          let a = c.args in let r = err_from_is_err_and c.from_residual-in_err-class.result c.from_residual-in_err-class.ensures.1 in
          let made = setup_of_optional_stack a.parts.now.excludes.now in
          rw (r.1, r.2) (IsInTree-class a.shared.now.worktree_root.now (g.F.Find.holds a.parts.now.objects.now) s made c.push.new.self.path _ c.path-path.ensures.normal (rw c.path-path.ensures.path at c.in_err-class.ensures.asking.about)
          (λ known. rw c.path-path.ensures.path at (c.in_err-class.ensures.asking.refused s (record { tree_is = told; objects_are = λ some. known }))));
      caused = search rules;
      worktree = search rules;
      store = search rules;
      interrupt = search rules;
      hands =
          let r = err_from_is_err_and c.from_residual-in_err-class.result c.from_residual-in_err-class.ensures.1 in rw r.1 (Hands-none refl refl refl);
      delegate = KeepsDelegate-same;
      filtered = refl;
      heeds = let p = err_from_is_err_and c.from_residual-in_err-class.result c.from_residual-in_err-class.ensures.1 in rw (p.1, p.2) (record { broken = tt; stopped = tt; unbroken = refl; kept_on = tt });
    }

pub returns-in_err-class-clause-told : goal.returns-in_err-class-clause-told
returns-in_err-class-clause-told g c =
    let r = err_from_is_err_and c.from_residual-in_err-class.result c.from_residual-in_err-class.ensures.1 in
    rw (r.1, r.2)
    (told-unclassed g.W.Worktree g.F.Find g.D.Delegate (setting_of_shared g.M.Matcher c.args.shared.now) c.push.new.self.path c.in_err-class.field-0.0 c.requires.name c.path-path.ensures.normal (ap (λ (x : PlaceInWorktree). x.path) c.in_ok-cut.ensures.pushed)
    (rw c.path-path.ensures.path at c.in_err-class.ensures) refl refl)

pub returns-then-levels-eq0-clause-walks : goal.returns-then-levels-eq0-clause-walks
returns-then-levels-eq0-clause-walks g c =
    record {
      about = λ limit level.
          let a = c.args in let root = a.shared.now.worktree_root.now in let p = c.push.new.self.path in
          let at = ap (λ (x : PlaceInWorktree). x.path) c.in_ok-cut.ensures.pushed in
          let base : c.push.new.self.root ≡ root = ap (λ (x : PlaceInWorktree). x.root) c.in_ok-cut.ensures.pushed ∙ c.requires.root in
          let deep : count_components p ≡ limit + 1 = omega (arith, level, c.if-levels-eq0.true, ap count_components at, depth_of-joined a.place.now.path a.name.now c.requires.name) in
          IsAbout-deep (setup_of_optional_stack a.parts.now.excludes.now) root p limit _ _ c.path-path.ensures.normal c.path-path.ensures.spelled deep (rw base at c.too_deep_or_interrupted_error.ensures.deep);
      found = search rules;
      caused = search rules;
      worktree = search rules;
      store = search rules;
      interrupt = search rules;
      hands = Hands-none c.delegate_enters_directory.ensures.given refl refl;
      delegate = KeepsDelegate-asked c.delegate_enters_directory.ensures.default c.delegate_enters_directory.ensures.given c.delegate_enters_directory.ensures.breaks c.delegate_enters_directory.ensures.refusals;
      filtered = AddsShown-same (walk_options_of c.args.shared.now.options) c.delegate_enters_directory.ensures.given;
      heeds = search rules;
    }

pub returns-then-levels-eq0-clause-told : goal.returns-then-levels-eq0-clause-told
returns-then-levels-eq0-clause-told g c =
    let a = c.args in let at = ap (λ (x : PlaceInWorktree). x.path) c.in_ok-cut.ensures.pushed in
    let base : c.push.new.self.root ≡ a.shared.now.worktree_root.now = ap (λ (x : PlaceInWorktree). x.root) c.in_ok-cut.ensures.pushed ∙ c.requires.root in
    told-deep g.W.Worktree g.F.Find g.D.Delegate (setting_of_shared g.M.Matcher a.shared.now) c.push.new.self.path c.in_ok-class.class _ c.too_deep_or_interrupted_error.result c.requires.name at
    (omega (arith, c.if-levels-eq0.true, ap count_components at, depth_of-joined a.place.now.path a.name.now c.requires.name))
    (rw c.path-path.ensures.path at c.in_ok-class.ensures) (λ default. sym (c.delegate_enters_directory.ensures.entered default) ∙ c.if-delegate_enters_directory.true) c.delegate_enters_directory.ensures.given refl (rw base at c.too_deep_or_interrupted_error.ensures.deep)

pub returns-then-delegate_enters_directory-clause-walks : goal.returns-then-delegate_enters_directory-clause-walks
returns-then-delegate_enters_directory-clause-walks g c =
    let a = c.args in let at = ap (λ (x : PlaceInWorktree). x.path) c.in_ok-cut.ensures.pushed in
    any-entered (record { worktree = c.classify_name_asking_disk.new.worktree; objects = c.classify_name_asking_disk.new.objects; interrupt = a.parts.now.interrupt.now; delegate = c.delegate_enters_directory.new.delegate; rules = c.classify_name_asking_disk.new.excludes; outcome = a.parts.now.outcome.now })
    (Before-classed c.classify_name_asking_disk.ensures.asking.keeps c.classify_name_asking_disk.ensures.asking.store c.classify_name_asking_disk.ensures.asking.rules) c.delegate_enters_directory.ensures.default c.delegate_enters_directory.ensures.given c.delegate_enters_directory.ensures.breaks c.delegate_enters_directory.ensures.refusals at
    (omega (arith, c.if-levels-eq0.false, ap count_components at, depth_of-joined a.place.now.path a.name.now c.requires.name)) c.walk_as_job-handed.ensures.job.walks

pub returns-clause-walks : goal.returns-clause-walks
returns-clause-walks g c =
    any-leaf c.delegate_enters_directory.new.delegate c.hand_up_or_emit_leaf-handed.result (Before-then (Before-classed c.classify_name_asking_disk.ensures.asking.keeps c.classify_name_asking_disk.ensures.asking.store c.classify_name_asking_disk.ensures.asking.rules) (Before-asked c.outcome_of_unentered_path.ensures.worktree))
    c.delegate_enters_directory.ensures.default c.delegate_enters_directory.ensures.given c.delegate_enters_directory.ensures.breaks c.delegate_enters_directory.ensures.refusals c.hand_up_or_emit_leaf-handed.ensures.delegate c.hand_up_or_emit_leaf-handed.ensures.filtered c.hand_up_or_emit_leaf-handed.ensures.heeds
    (ap (λ (x : PlaceInWorktree). x.path) c.in_ok-cut.ensures.pushed) (rw c.path-path.ensures.path at c.hand_up_or_emit_leaf-handed.ensures.hands) c.hand_up_or_emit_leaf-handed.ensures.memory

pub returns-in_err-cut-clause-walks : goal.returns-in_err-cut-clause-walks
returns-in_err-cut-clause-walks g c =
    let r = err_from_is_err_and c.from_residual.result c.from_residual.ensures.1 in rw (r.1, r.2) (any-memory Before-same refl refl refl (omega arith))

pub returns-in_err-class-2-clause-walks : goal.returns-in_err-class-2-clause-walks
returns-in_err-class-2-clause-walks g c =
    let r = err_from_is_err_and c.from_residual-in_err-class-2.result c.from_residual-in_err-class-2.ensures.1 in
    rw (r.1, r.2) (any-memory (Before-then (Before-classed c.classify_name_asking_disk.ensures.asking.keeps c.classify_name_asking_disk.ensures.asking.store c.classify_name_asking_disk.ensures.asking.rules) (Before-asked c.outcome_of_unentered_path.ensures.worktree)) c.delegate_enters_directory.ensures.default c.delegate_enters_directory.ensures.given c.delegate_enters_directory.ensures.breaks c.delegate_enters_directory.ensures.refusals)

pub returns-in_err-cut-clause-opens : goal.returns-in_err-cut-clause-opens
returns-in_err-cut-clause-opens g c =
    let r = err_from_is_err_and c.from_residual.result c.from_residual.ensures.1 in rw (r.1, r.2) (apart-none (λ made s stands quiet default. omega arith) refl refl (omega arith))

pub returns-in_err-class-clause-opens : goal.returns-in_err-class-clause-opens
returns-in_err-class-clause-opens g c =
    let r = err_from_is_err_and c.from_residual-in_err-class.result c.from_residual-in_err-class.ensures.1 in
    rw (r.1, r.2) (apart-none (λ made s stands quiet default. omega arith) c.classify_name_asking_disk.ensures.asking.keeps.lists refl (omega (arith, shallow-class _ _ c.in_err-class.field-0.0 c.in_err-class.ensures.asking.about)))

pub returns-then-levels-eq0-clause-opens : goal.returns-then-levels-eq0-clause-opens
returns-then-levels-eq0-clause-opens g c = apart-none (λ made s stands quiet default. omega arith) c.classify_name_asking_disk.ensures.asking.keeps.lists refl c.too_deep_or_interrupted_error.ensures.asked

pub returns-then-delegate_enters_directory-clause-opens : goal.returns-then-delegate_enters_directory-clause-opens
returns-then-delegate_enters_directory-clause-opens g c =
    let a = c.args in let w = g.W.Worktree in let o = walk_options_of a.shared.now.options in let given = setting_of_shared g.M.Matcher a.shared.now in
    let d = a.place.now.path in let q = path_joined_with_slash d a.name.now in let p = c.push.new.self.path in let k = c.in_ok-class.class in
    let path = ap (λ (x : PlaceInWorktree). x.path) c.in_ok-cut.ensures.pushed in
    apart-job
    (λ n below made s stands quiet default.
    let asked : CountNotIncreased (w.faults a.parts.now.worktree.now) (w.faults c.classify_name_asking_disk.new.worktree) = omega (arith, quiet, c.walk_as_job-handed.ensures.job.walks.worktree.faults) in
    let here : CountNotIncreased (w.faults c.classify_name_asking_disk.new.worktree) (w.faults c.walk_as_job-handed.new.parts.worktree.now) = omega (arith, quiet, c.classify_name_asking_disk.ensures.asking.keeps.faults) in
    let is : k ≡ class o (evidence_from_setting_and_sources given made s) p None (kind_on_disk_if_asked given s.tree p true) = rw (c.path-path.ensures.path, stands.made_is) at (c.in_ok-class.ensures.class s (telling stands) stands.in_step asked) in
    let now = Stands-later given c.classify_name_asking_disk.new.excludes c.classify_name_asking_disk.ensures.asking.keeps.tree c.classify_name_asking_disk.ensures.asking.store.holds c.classify_name_asking_disk.ensures.asking.rules.made c.classify_name_asking_disk.ensures.asking.rules.in_step stands in
    let some : is_empty p ≡ false = ap is_empty path ∙ joined-some d a.name.now c.requires.name in
    let into : enters o k false ≡ true = sym (c.delegate_enters_directory.ensures.entered default) ∙ c.if-delegate_enters_directory.true in
    let most = below made s now here (c.delegate_enters_directory.ensures.default ∙ default) in
    let limit : ℕ = a.levels + count_components d in
    let deeper : (a.levels - 1) + count_components p ≡ limit = omega (arith, c.if-levels-eq0.false, ap count_components path, depth_of-joined d a.name.now c.requires.name) in
    let same = ap {B = ℕ} (λ (l : ℕ). count_paths_within_depth l (walk_result_of_directory_over_sources given made s p k).entered) deeper in
    omega (arith, most, same, entered-directory given made s p k is limit q path some into))
    c.walk_as_job-handed.ensures.job.opens (c.walk_as_job-handed.ensures.lists ∙ c.classify_name_asking_disk.ensures.asking.keeps.lists)

pub returns-in_err-class-2-clause-opens : goal.returns-in_err-class-2-clause-opens
returns-in_err-class-2-clause-opens g c =
    let r = err_from_is_err_and c.from_residual-in_err-class-2.result c.from_residual-in_err-class-2.ensures.1 in
    rw (r.1, r.2) (apart-none (λ made s stands quiet default. omega arith) (c.outcome_of_unentered_path.ensures.worktree.lists ∙ c.classify_name_asking_disk.ensures.asking.keeps.lists) refl (omega arith))

pub returns-clause-opens : goal.returns-clause-opens
returns-clause-opens g c =
    apart-none (λ made s stands quiet default. omega arith) (c.outcome_of_unentered_path.ensures.worktree.lists ∙ c.classify_name_asking_disk.ensures.asking.keeps.lists) c.hand_up_or_emit_leaf-handed.ensures.entered
    (omega (arith, shallow-memory c.hand_up_or_emit_leaf-handed.result c.hand_up_or_emit_leaf-handed.ensures.memory))

pub truncate_to_directory_if_ok-requires : goal.truncate_to_directory_if_ok-requires
truncate_to_directory_if_ok-requires g c =
    let within = c.in_ok-cut.ensures.within in
    let P : PlaceInWorktree → Type 0 = λ x. IsNameInPlace c.in_ok-cut.cut c.args.place.now x in
    (c.args.place.now, on_ok_weaker c.walk_as_job-handed.result (λ same. subst P (sym same) within) c.walk_as_job-handed.ensures.stays)

pub returns-then-delegate_enters_directory-clause-stays : goal.returns-then-delegate_enters_directory-clause-stays
returns-then-delegate_enters_directory-clause-stays g c =
    let within = c.in_ok-cut.ensures.within in
    let P : PlaceInWorktree → Type 0 = λ x. IsNameInPlace c.in_ok-cut.cut c.args.place.now x in
    c.truncate_to_directory_if_ok.ensures c.args.place.now (on_ok_weaker c.walk_as_job-handed.result (λ same. subst P (sym same) within) c.walk_as_job-handed.ensures.stays)

pub truncate_to_directory_if_ok-requires-2 : goal.truncate_to_directory_if_ok-requires-2
truncate_to_directory_if_ok-requires-2 g c = (c.args.place.now, OnOk-always c.hand_up_or_emit_leaf-handed.result c.in_ok-cut.ensures.within)

pub returns-clause-stays : goal.returns-clause-stays
returns-clause-stays g c = c.truncate_to_directory_if_ok-2.ensures c.args.place.now (OnOk-always c.hand_up_or_emit_leaf-handed.result c.in_ok-cut.ensures.within)
