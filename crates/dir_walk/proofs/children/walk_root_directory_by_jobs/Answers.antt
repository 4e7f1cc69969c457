-- The traversal root, name by name: as any directory, but of what is opened the worktree counts only itself.
use Rattle.std.proofs.Common.{◌≡◌, inl, ◌+◌, ap, sym, refl, ◌∙◌, length, arith, eqb-true, rules}
use Rattle.std.proofs.lemmas.Result.{err_from_is_err_and}
use Rattle.gitbase_core.specs.Path.{path_joined_with_slash}
use Rattle.worktree_fs.specs.Answers.{ListsDirectoryNamesInAnyOrder}
use Rattle.worktree_fs.specs.Causes.{CountNotIncreased}
use Rattle.dir_classify.specs.Chosen.{walk_options_of}
use Rattle.dir_classify.specs.Excludes.{setup_of_optional_stack}
use Rattle.dir_classify.specs.Layers.{setting_of_shared, evidence_from_setting_and_sources}
use Rattle.dir_walk.specs.Report.{count_components}
use Rattle.dir_walk.specs.Emits.{GivesAllWalkedUnrefused}
use Rattle.dir_walk.specs.Told.{look_at_entered_directory, walk_result_of_name_over_sources}
use Rattle.dir_walk.specs.Moments.{walk_state_of_parts}
use Rattle.dir_walk.proofs.Walked.DirectorySteps.{told-closed, told-empty, told-ended, told-unheld}
use Rattle.dir_walk.proofs.Walked.Ending.{Caused-later, Caused-memory}
use Rattle.dir_walk.proofs.Opens.Keeping.{Heeds-after, KeepsDelegate-same, KeepsDelegate-then, KeepsRules-same, KeepsRules-then, AsksStore-same, AsksStore-then, KeepsTree-then, AsksInterrupt-then}
use Rattle.dir_walk.proofs.Opens.Apart.{apart-end, apart-one, apart-then, apart-tried}
use Rattle.dir_walk.proofs.Opens.Entered.{enters-all, enters-last, enters-more}
use Rattle.dir_walk.proofs.Folding.Listed.{entered-empty, HasNames-listed}
use Rattle.dir_walk.proofs.Folding.Named.{SoFar-none, SoFar-more}
use Rattle.dir_walk.proofs.Folding.Steps.{Stands-later}
use Rattle.dir_walk.proofs.Places.Rooms.{Hands-none, Hands-empty, Hands-refused, Hands-closed, Puts-start, Puts-name}
use Rattle.dir_walk.proofs.Refused.Refusals.{IsInTree-open, memory-only}
use Rattle.dir_walk.specs.Unopened.{count_unlisted_error}
use Rattle.dir_walk.proofs.Refused.Shallow.{shallow-memory}
use Rattle.dir_walk.proofs.children.walk_root_directory_by_jobs.Goals as goal

pub returns-in_err-names-clause-walks : goal.returns-in_err-names-clause-walks
returns-in_err-names-clause-walks g c =
    record {
      about = λ limit level.
          let p = err_from_is_err_and c.from_residual.result c.from_residual.ensures.1 in
          rw (p.1, p.2) (rw c.requires.root at (c.in_err-names.ensures.caused.about (setup_of_optional_stack c.args.parts.now.excludes.now) limit (omega (arith, level))));
      found = λ s told.
          let a = c.args in let p = err_from_is_err_and c.from_residual.result c.from_residual.ensures.1 in
          rw (p.1, p.2) (IsInTree-open (g.F.Find.holds a.parts.now.objects.now) s (setup_of_optional_stack a.parts.now.excludes.now) a.shared.now.worktree_root.now a.place.now.path _ (rw c.requires.root at (c.in_err-names.ensures.refused s.tree told)));
      caused =
          let p = err_from_is_err_and c.from_residual.result c.from_residual.ensures.1 in let stored = g.F.Find.faults c.args.parts.now.objects.now in
          rw (p.1, p.2) (record { fault = c.in_err-names.ensures.caused.fault stored stored; interrupt = c.in_err-names.ensures.caused.raised; listing = c.in_err-names.ensures.caused.listing; listed = tt; calm = tt });
      worktree = search rules;
      store = search rules;
      interrupt = search rules;
      hands =
          let p = err_from_is_err_and c.from_residual.result c.from_residual.ensures.1 in rw p.1 (Hands-none refl c.list_directory.ensures.counts.returned c.list_directory.ensures.counts.seen);
      delegate = KeepsDelegate-same;
      filtered = search rules;
      heeds = search rules;
    }

pub returns-then-is_empty-clause-told : goal.returns-then-is_empty-clause-told
returns-then-is_empty-clause-told g c =
    let a = c.args in let names = c.in_ok-names.names in
    let bare : length names ≡ 0 = ap length (sym c.as_slice.ensures) ∙ eqb-true (length c.as_slice.result.now) 0 (sym c.is_empty.ensures ∙ c.if-is_empty.true) in
    told-empty g.W.Worktree g.F.Find g.D.Delegate (setting_of_shared g.M.Matcher a.shared.now) a.place.now.path a.class.now names c.close_empty_directory.result bare
    (λ s told. rw c.requires.root at (c.in_ok-names.ensures.lists s.tree told)) (c.in_ok-names.ensures.counts.counted (g.D.Delegate.given a.parts.now.delegate.now))
    (rw c.path-path.ensures.path at c.close_empty_directory.ensures.gives) (rw c.path-path.ensures.path at c.close_empty_directory.ensures.part) c.close_empty_directory.ensures.memory

pub loop-name-init : goal.loop-name-init
loop-name-init g c =
    let a = c.args in let told = g.D.Delegate.given in let given = setting_of_shared g.M.Matcher a.shared.now in
    record {
      same = search rules;
      worktree = let opened = c.list_directory.ensures.worktree in record { tree = opened.tree; faults = opened.faults; list_faults = opened.list_faults; reads = opened.reads; lists = opened.lists; precomposes = opened.precomposes };
      store = AsksStore-same;
      rules = KeepsRules-same;
      interrupt = c.list_directory.ensures.interrupt;
      opens = apart-end (λ n one made s stands quiet default. omega (arith, one)) (apart-one c.in_ok-names.ensures.counts.opens c.list_directory.ensures.counts.once) refl refl;
      puts = Puts-start a.place.now.path c.as_slice-name-items.result.now c.list_directory.ensures.counts.returned c.list_directory.ensures.counts.seen c.new-held.ensures.entries;
      delegate = KeepsDelegate-same;
      filtered = refl;
      listed = c.in_ok-names.ensures.caused.listed;
      calm = c.in_ok-names.ensures.caused.calm;
      kept_on = refl;
      stays = refl;
      so_far = λ made s stands quiet default limit level.
          rw (c.new-held.ensures.entries, c.new-held.ensures.blocked) (SoFar-none given made s limit a.place.now.path (told a.parts.now.delegate.now) (told a.parts.now.delegate.now) a.parts.now.outcome.now c.list_directory.new.outcome (c.in_ok-names.ensures.counts.counted (told a.parts.now.delegate.now)));
    }

pub returns-in_err-handed-clause-told : goal.returns-in_err-handed-clause-told
returns-in_err-handed-clause-told g c =
    let a = c.args in let kept = c.loop-name.invariant in let p = err_from_is_err_and c.from_residual-in_err-handed.result c.from_residual-in_err-handed.ensures.1 in
    rw (p.1, p.2)
    (told-ended (walk_state_of_parts c.loop-name.parts) a.class.now c.as_slice-name-items.result.now c.loop-name.name-index c.name-item.result
    (λ s told. HasNames-listed (setting_of_shared g.M.Matcher a.shared.now) s.tree a.place.now.path c.as_slice.ensures c.is_empty.ensures c.if-is_empty.false c.as_slice-name-items.ensures c.in_ok-names.ensures.names (rw c.requires.root at (c.in_ok-names.ensures.lists s.tree told)))
    c.path-path.ensures.plain c.loop-name-test.true c.name-item.is kept.worktree kept.store kept.rules kept.delegate kept.so_far c.walk_name_as_job.ensures.walks.worktree.faults
    c.in_err-handed.field-0.0 (rw (c.as_bytes.ensures, kept.stays) at c.in_err-handed.ensures.told))

pub returns-in_err-handed-clause-rules : goal.returns-in_err-handed-clause-rules
returns-in_err-handed-clause-rules g c = let kept = c.loop-name.invariant in KeepsRules-then kept.worktree.tree kept.store.holds kept.rules c.walk_name_as_job.ensures.rules

pub returns-in_err-handed-clause-walks : goal.returns-in_err-handed-clause-walks
returns-in_err-handed-clause-walks g c =
    record {
      about = λ limit level.
          let p = err_from_is_err_and c.from_residual-in_err-handed.result c.from_residual-in_err-handed.ensures.1 in
          rw (p.1, p.2) (rw c.loop-name.invariant.rules.made at (c.in_err-handed.ensures.walks.about limit (rw c.loop-name.invariant.stays level)));
      found = λ s told.
          let kept = c.loop-name.invariant in let p = err_from_is_err_and c.from_residual-in_err-handed.result c.from_residual-in_err-handed.ensures.1 in
          rw (p.1, p.2) (rw (kept.store.holds, kept.rules.made) at (c.in_err-handed.ensures.walks.found s (kept.worktree.tree ∙ told)));
      caused =
          let kept = c.loop-name.invariant in let p = err_from_is_err_and c.from_residual-in_err-handed.result c.from_residual-in_err-handed.ensures.1 in
          rw (p.1, p.2) (Caused-later _ kept.worktree.faults kept.store.faults kept.calm kept.listed c.in_err-handed.ensures.walks.caused);
      worktree = KeepsTree-then c.loop-name.invariant.worktree c.walk_name_as_job.ensures.walks.worktree;
      store = AsksStore-then c.loop-name.invariant.store c.walk_name_as_job.ensures.walks.store;
      interrupt = AsksInterrupt-then c.loop-name.invariant.interrupt c.walk_name_as_job.ensures.walks.interrupt;
      hands =
          let p = err_from_is_err_and c.from_residual-in_err-handed.result c.from_residual-in_err-handed.ensures.1 in
          rw p.1 (Hands-refused c.args.place.now.path c.as_slice-name-items.result.now c.loop-name.name-index c.name-item.result c.loop-name-test.true c.name-item.is c.loop-name.invariant.puts (rw (c.as_bytes.ensures, c.loop-name.invariant.stays) at c.in_err-handed.ensures.walks.hands.puts) (rw c.as_slice-name-items.ensures c.in_ok-names.ensures.names)
          c.path-path.ensures.plain);
      delegate = KeepsDelegate-then c.loop-name.invariant.delegate c.walk_name_as_job.ensures.walks.delegate;
      filtered = c.walk_name_as_job.ensures.walks.filtered ∙ c.loop-name.invariant.filtered;
      heeds =
          let p = err_from_is_err_and c.from_residual-in_err-handed.result c.from_residual-in_err-handed.ensures.1 in
          rw (p.1, p.2) (Heeds-after g.D.Delegate _ _ _ _ c.loop-name.invariant.kept_on c.in_err-handed.ensures.walks.heeds);
    }

pub returns-in_err-add_entry_handed_up-clause-told : goal.returns-in_err-add_entry_handed_up-clause-told
returns-in_err-add_entry_handed_up-clause-told g c =
    let a = c.args in let kept = c.loop-name.invariant in let p = err_from_is_err_and c.from_residual-in_err-add_entry_handed_up.result c.from_residual-in_err-add_entry_handed_up.ensures.1 in
    rw (p.1, p.2)
    (told-unheld (walk_state_of_parts c.loop-name.parts) a.class.now c.as_slice-name-items.result.now c.loop-name.name-index c.name-item.result
    (λ s told. HasNames-listed (setting_of_shared g.M.Matcher a.shared.now) s.tree a.place.now.path c.as_slice.ensures c.is_empty.ensures c.if-is_empty.false c.as_slice-name-items.ensures c.in_ok-names.ensures.names (rw c.requires.root at (c.in_ok-names.ensures.lists s.tree told)))
    c.path-path.ensures.plain c.loop-name-test.true c.name-item.is kept.worktree kept.store kept.rules kept.delegate kept.so_far c.walk_name_as_job.ensures.walks.worktree.faults
    c.in_ok-handed.handed (rw (c.as_bytes.ensures, kept.stays) at c.in_ok-handed.ensures.told))

pub returns-in_err-add_entry_handed_up-clause-rules : goal.returns-in_err-add_entry_handed_up-clause-rules
returns-in_err-add_entry_handed_up-clause-rules g c = let kept = c.loop-name.invariant in KeepsRules-then kept.worktree.tree kept.store.holds kept.rules c.walk_name_as_job.ensures.rules

pub returns-in_err-add_entry_handed_up-clause-walks : goal.returns-in_err-add_entry_handed_up-clause-walks
returns-in_err-add_entry_handed_up-clause-walks g c =
    record {
      about = λ limit level.
          let p = err_from_is_err_and c.from_residual-in_err-add_entry_handed_up.result c.from_residual-in_err-add_entry_handed_up.ensures.1 in rw (p.1, p.2) tt;
      found = λ s told.
          let p = err_from_is_err_and c.from_residual-in_err-add_entry_handed_up.result c.from_residual-in_err-add_entry_handed_up.ensures.1 in rw (p.1, p.2) tt;
      caused = let p = err_from_is_err_and c.from_residual-in_err-add_entry_handed_up.result c.from_residual-in_err-add_entry_handed_up.ensures.1 in rw (p.1, p.2) (record { fault = tt; interrupt = tt; listing = tt; listed = tt; calm = tt });
      worktree = KeepsTree-then c.loop-name.invariant.worktree c.walk_name_as_job.ensures.walks.worktree;
      store = AsksStore-then c.loop-name.invariant.store c.walk_name_as_job.ensures.walks.store;
      interrupt = AsksInterrupt-then c.loop-name.invariant.interrupt c.walk_name_as_job.ensures.walks.interrupt;
      hands =
          let p = err_from_is_err_and c.from_residual-in_err-add_entry_handed_up.result c.from_residual-in_err-add_entry_handed_up.ensures.1 in
          rw p.1 (Hands-refused c.args.place.now.path c.as_slice-name-items.result.now c.loop-name.name-index c.name-item.result c.loop-name-test.true c.name-item.is c.loop-name.invariant.puts (rw (c.as_bytes.ensures, c.loop-name.invariant.stays) at c.in_ok-handed.ensures.walks.hands.puts) (rw c.as_slice-name-items.ensures c.in_ok-names.ensures.names)
          c.path-path.ensures.plain);
      delegate = KeepsDelegate-then c.loop-name.invariant.delegate c.walk_name_as_job.ensures.walks.delegate;
      filtered = c.walk_name_as_job.ensures.walks.filtered ∙ c.loop-name.invariant.filtered;
      heeds = let p = err_from_is_err_and c.from_residual-in_err-add_entry_handed_up.result c.from_residual-in_err-add_entry_handed_up.ensures.1 in rw (p.1, p.2) (record { broken = tt; stopped = tt; unbroken = c.in_ok-handed.ensures.walks.heeds.kept_on ∙ c.loop-name.invariant.kept_on; kept_on = tt });
    }

pub loop-name-preserved : goal.loop-name-preserved
loop-name-preserved g c =
    let kept = c.loop-name.invariant in
    record {
      same = search rules;
      worktree = KeepsTree-then kept.worktree c.walk_name_as_job.ensures.walks.worktree;
      store = AsksStore-then kept.store c.walk_name_as_job.ensures.walks.store;
      rules = KeepsRules-then kept.worktree.tree kept.store.holds kept.rules c.walk_name_as_job.ensures.rules;
      interrupt = AsksInterrupt-then kept.interrupt c.walk_name_as_job.ensures.walks.interrupt;
      opens = apart-then (enters-more (setting_of_shared g.M.Matcher c.args.shared.now) c.args.blocked.now (c.args.levels + count_components c.args.place.now.path) c.args.place.now.path c.as_slice-name-items.result.now c.loop-name.name-index c.name-item.result c.loop-name-test.true c.name-item.is kept.worktree kept.store kept.rules kept.delegate c.walk_name_as_job.ensures.walks.worktree.faults) kept.opens (rw (c.as_bytes.ensures, c.loop-name.invariant.stays) at c.in_ok-handed.ensures.opens);
      puts = rw c.in_ok-add_entry_handed_up.ensures.entries (Puts-name c.args.place.now.path c.as_slice-name-items.result.now c.loop-name.name-index c.name-item.result c.loop-name-test.true c.name-item.is kept.puts (rw (c.as_bytes.ensures, c.loop-name.invariant.stays) at c.in_ok-handed.ensures.walks.hands.puts));
      delegate = KeepsDelegate-then kept.delegate c.walk_name_as_job.ensures.walks.delegate;
      filtered = c.walk_name_as_job.ensures.walks.filtered ∙ kept.filtered;
      listed = c.in_ok-handed.ensures.walks.caused.listed ∙ kept.listed;
      calm = c.in_ok-handed.ensures.walks.caused.calm ∙ kept.calm;
      kept_on = c.in_ok-handed.ensures.walks.heeds.kept_on ∙ kept.kept_on;
      stays = c.in_ok-handed.ensures.stays ∙ kept.stays;
      so_far = λ made s stands quiet default limit level.
          let a = c.args in let w = g.W.Worktree in let told = g.D.Delegate.given in let o = walk_options_of a.shared.now.options in
          let given = setting_of_shared g.M.Matcher a.shared.now in let d = a.place.now.path in let ev = evidence_from_setting_and_sources given made s in
          let now = Stands-later given c.loop-name.parts.excludes.now kept.worktree.tree kept.store.holds kept.rules.made kept.rules.in_step stands in
          let before : CountNotIncreased (w.faults a.parts.now.worktree.now) (w.faults c.loop-name.parts.worktree.now) = omega (arith, quiet, c.walk_name_as_job.ensures.walks.worktree.faults) in
          let here : CountNotIncreased (w.faults c.loop-name.parts.worktree.now) (w.faults c.walk_name_as_job.new.parts.worktree.now) = omega (arith, quiet, kept.worktree.faults) in
          let name = c.name-item.result in
          let gives : GivesAllWalkedUnrefused o limit ev (walk_result_of_name_over_sources given made s (path_joined_with_slash d name)) (told c.loop-name.parts.delegate.now) (told c.walk_name_as_job.new.parts.delegate.now) c.loop-name.parts.outcome.now c.walk_name_as_job.new.parts.outcome.now c.in_ok-handed.handed =
          rw (c.as_bytes.ensures, c.loop-name.invariant.stays) at (c.in_ok-handed.ensures.told.gives made s now here (kept.delegate.default ∙ default) limit (rw kept.stays level)) in
          SoFar-more given made s limit d c.as_slice-name-items.result.now c.loop-name.name-index name _ _ _ _ _ _ _ _ _ _ c.in_ok-handed.handed c.loop-name-test.true c.name-item.is (kept.so_far made s stands before default limit level) gives c.in_ok-add_entry_handed_up.ensures.entries c.in_ok-add_entry_handed_up.ensures.blocked;
    }

pub returns-clause-told : goal.returns-clause-told
returns-clause-told g c =
    let a = c.args in let kept = c.loop-name.invariant in let held = c.loop-name.held in
    told-closed g.W.Worktree g.F.Find g.D.Delegate (walk_state_of_parts c.loop-name.parts) (setting_of_shared g.M.Matcher a.shared.now) a.place.now.path a.class.now c.as_slice-name-items.result.now c.loop-name.name-index held.entries.items held.blocked c.fold_directory_or_emit_held.result
    (λ s told. HasNames-listed (setting_of_shared g.M.Matcher a.shared.now) s.tree a.place.now.path c.as_slice.ensures c.is_empty.ensures c.if-is_empty.false c.as_slice-name-items.ensures c.in_ok-names.ensures.names (rw c.requires.root at (c.in_ok-names.ensures.lists s.tree told)))
    c.path-path.ensures.plain c.loop-name-test.false kept.so_far (rw (c.path.ensures.path, kept.stays) at c.fold_directory_or_emit_held.ensures.gives) (rw (c.path.ensures.path, kept.stays) at c.fold_directory_or_emit_held.ensures.part) c.fold_directory_or_emit_held.ensures.memory

pub returns-clause-walks : goal.returns-clause-walks
returns-clause-walks g c =
    record {
      about = λ limit level. memory-only c.fold_directory_or_emit_held.result _ tt c.fold_directory_or_emit_held.ensures.memory;
      found = λ s told. memory-only c.fold_directory_or_emit_held.result _ tt c.fold_directory_or_emit_held.ensures.memory;
      caused =
          let kept = c.loop-name.invariant in
          Caused-later c.fold_directory_or_emit_held.result kept.worktree.faults kept.store.faults kept.calm kept.listed (Caused-memory c.fold_directory_or_emit_held.result c.fold_directory_or_emit_held.ensures.memory);
      worktree = search rules;
      store = search rules;
      interrupt = search rules;
      hands =
          Hands-closed c.args.place.now.path c.as_slice-name-items.result.now c.loop-name.name-index (rw c.as_slice-name-items.ensures c.in_ok-names.ensures.names) c.path-path.ensures.plain c.loop-name.invariant.puts (rw (c.path.ensures.path, c.loop-name.invariant.stays) at c.fold_directory_or_emit_held.ensures.hands);
      delegate = KeepsDelegate-then c.loop-name.invariant.delegate c.fold_directory_or_emit_held.ensures.delegate;
      filtered = c.fold_directory_or_emit_held.ensures.filtered ∙ c.loop-name.invariant.filtered;
      heeds = Heeds-after g.D.Delegate _ _ _ c.fold_directory_or_emit_held.result c.loop-name.invariant.kept_on c.fold_directory_or_emit_held.ensures.heeds;
    }

pub returns-in_err-names-clause-told : goal.returns-in_err-names-clause-told
returns-in_err-names-clause-told g c =
    record {
      gives = search rules;
      part = search rules;
      refused = λ made s stands default limit level.
          let p = err_from_is_err_and c.from_residual.result c.from_residual.ensures.1 in
          rw (p.1, p.2) (inl (rw c.requires.root at (c.in_err-names.ensures.refused s.tree stands.tree)));
    }

pub returns-then-is_empty-clause-walks : goal.returns-then-is_empty-clause-walks
returns-then-is_empty-clause-walks g c =
    record {
      about = λ limit level. memory-only c.close_empty_directory.result _ tt c.close_empty_directory.ensures.memory;
      found = λ s told. memory-only c.close_empty_directory.result _ tt c.close_empty_directory.ensures.memory;
      caused = search rules;
      worktree = search rules;
      store = search rules;
      interrupt = search rules;
      hands = Hands-empty c.list_directory.ensures.counts.returned c.list_directory.ensures.counts.seen (rw c.path-path.ensures.path at c.close_empty_directory.ensures.hands);
      delegate = search rules;
      filtered = search rules;
      heeds = search rules;
    }

pub returns-in_err-names-clause-opens : goal.returns-in_err-names-clause-opens
returns-in_err-names-clause-opens g c =
    let p = err_from_is_err_and c.from_residual.result c.from_residual.ensures.1 in rw (p.1, p.2) (apart-tried {opened = count_unlisted_error c.in_err-names.field-0.0} (λ made s stands quiet default. omega arith) c.in_err-names.ensures.counts.tried c.list_directory.ensures.counts.once)

pub returns-then-is_empty-clause-opens : goal.returns-then-is_empty-clause-opens
returns-then-is_empty-clause-opens g c =
    let a = c.args in let given = setting_of_shared g.M.Matcher a.shared.now in let d = a.place.now.path in let names = c.in_ok-names.names in
    let bare : length names ≡ 0 = ap length (sym c.as_slice.ensures) ∙ eqb-true (length c.as_slice.result.now) 0 (sym c.is_empty.ensures ∙ c.if-is_empty.true) in
    apart-end
    (λ n one made s stands quiet default.
    let lists : ListsDirectoryNamesInAnyOrder (look_at_entered_directory given s.tree d) names = rw c.requires.root at (c.in_ok-names.ensures.lists s.tree stands.tree) in
    let itself = entered-empty given made s d a.class.now names lists bare (a.levels + count_components d) (omega arith) in omega (arith, one, itself))
    (apart-one c.in_ok-names.ensures.counts.opens c.list_directory.ensures.counts.once) c.close_empty_directory.ensures.entered (shallow-memory c.close_empty_directory.result c.close_empty_directory.ensures.memory)

pub returns-in_err-handed-clause-opens : goal.returns-in_err-handed-clause-opens
returns-in_err-handed-clause-opens g c =
    let kept = c.loop-name.invariant in let p = err_from_is_err_and c.from_residual-in_err-handed.result c.from_residual-in_err-handed.ensures.1 in
    rw (p.1, p.2)
    (apart-then
    (enters-last (setting_of_shared g.M.Matcher c.args.shared.now) c.args.blocked.now (c.args.levels + count_components c.args.place.now.path) c.args.place.now.path c.as_slice-name-items.result.now c.loop-name.name-index c.name-item.result c.loop-name-test.true c.name-item.is kept.worktree kept.store kept.rules kept.delegate c.walk_name_as_job.ensures.walks.worktree.faults (omega arith) c.args.class.now _
    (λ s told. HasNames-listed (setting_of_shared g.M.Matcher c.args.shared.now) s.tree c.args.place.now.path c.as_slice.ensures c.is_empty.ensures c.if-is_empty.false c.as_slice-name-items.ensures c.in_ok-names.ensures.names (rw c.requires.root at (c.in_ok-names.ensures.lists s.tree told))) c.path-path.ensures.plain)
    kept.opens (rw (c.as_bytes.ensures, c.loop-name.invariant.stays) at c.in_err-handed.ensures.opens))

pub returns-in_err-add_entry_handed_up-clause-opens : goal.returns-in_err-add_entry_handed_up-clause-opens
returns-in_err-add_entry_handed_up-clause-opens g c =
    let kept = c.loop-name.invariant in let p = err_from_is_err_and c.from_residual-in_err-add_entry_handed_up.result c.from_residual-in_err-add_entry_handed_up.ensures.1 in
    let ends = (enters-last (setting_of_shared g.M.Matcher c.args.shared.now) c.args.blocked.now (c.args.levels + count_components c.args.place.now.path) c.args.place.now.path c.as_slice-name-items.result.now c.loop-name.name-index c.name-item.result c.loop-name-test.true c.name-item.is kept.worktree kept.store kept.rules kept.delegate c.walk_name_as_job.ensures.walks.worktree.faults (omega arith) c.args.class.now 0
    (λ s told. HasNames-listed (setting_of_shared g.M.Matcher c.args.shared.now) s.tree c.args.place.now.path c.as_slice.ensures c.is_empty.ensures c.if-is_empty.false c.as_slice-name-items.ensures c.in_ok-names.ensures.names (rw c.requires.root at (c.in_ok-names.ensures.lists s.tree told))) c.path-path.ensures.plain) in
    rw (p.1, p.2)
    (apart-then (λ m n so_far here made s stands quiet default. let most = ends m n so_far here made s stands quiet default in omega (arith, most))
    kept.opens (rw (c.as_bytes.ensures, c.loop-name.invariant.stays) at c.in_ok-handed.ensures.opens))

pub returns-clause-opens : goal.returns-clause-opens
returns-clause-opens g c =
    apart-end
    (enters-all g.W.Worktree g.F.Find g.D.Delegate c.args.parts.now.worktree.now c.loop-name.parts.worktree.now c.args.parts.now.objects.now c.args.parts.now.excludes.now c.args.parts.now.delegate.now (setting_of_shared g.M.Matcher c.args.shared.now) c.args.blocked.now (c.args.levels + count_components c.args.place.now.path) c.args.place.now.path c.as_slice-name-items.result.now c.loop-name.name-index (omega arith) c.loop-name-test.false c.args.class.now _
    (λ s told. HasNames-listed (setting_of_shared g.M.Matcher c.args.shared.now) s.tree c.args.place.now.path c.as_slice.ensures c.is_empty.ensures c.if-is_empty.false c.as_slice-name-items.ensures c.in_ok-names.ensures.names (rw c.requires.root at (c.in_ok-names.ensures.lists s.tree told))) c.path-path.ensures.plain)
    c.loop-name.invariant.opens c.fold_directory_or_emit_held.ensures.entered (shallow-memory c.fold_directory_or_emit_held.result c.fold_directory_or_emit_held.ensures.memory)
