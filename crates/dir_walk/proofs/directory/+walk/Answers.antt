-- A name of a directory and the directory itself, which call each other: exit by exit, what is told, what stays, and what is opened.
use Rattle.std.proofs.Common.{◌≡◌, inl, ◌≤◌, ◌+◌, ◌-◌, ◌&&◌, ℕ, None, ap, sym, refl, ◌∙◌, length, arith, eqb-true, true, false, subst, rules}
use Rattle.std.proofs.lemmas.Result.{IfOk-weaker, on_ok_weaker, on_err_weaker, err_from_is_err_and}
use Rattle.gitbase_core.specs.Path.{is_empty, path_joined_with_slash}
use Rattle.worktree_fs.specs.Answers.{ListsDirectoryNamesInAnyOrder}
use Rattle.worktree_fs.specs.Causes.{CountNotIncreased}
use Rattle.dir_classify.specs.Chosen.{walk_options_of}
use Rattle.dir_classify.specs.Class.{class, asks_ignore_rules, enters, outcome_of_unentered_path}
use Rattle.dir_classify.specs.Excludes.{setup_of_optional_stack}
use Rattle.dir_classify.specs.Layers.{setting_of_shared, evidence_from_setting_and_sources, kind_on_disk_if_asked}
use Rattle.dir_walk.specs.Placed.{PlaceInWorktree, IsNameInPlace}
use Rattle.dir_walk.specs.Opens.{count_paths_within_depth}
use Rattle.dir_walk.specs.Report.{count_components}
use Rattle.dir_walk.specs.Emits.{GivesAllWalkedUnrefused}
use Rattle.dir_walk.specs.Told.{look_at_entered_directory, walk_result_of_name_over_sources, walk_result_of_directory_over_sources}
use Rattle.dir_walk.specs.Unopened.{count_unlisted_error}
use Rattle.dir_walk.specs.Moments.{walk_state_of_parts}
use Rattle.dir_walk.proofs.Walked.NameEnds.{Before-same, any-entered, any-leaf, any-memory}
use Rattle.dir_walk.proofs.Walked.CallByCall.{Before-asked, Before-classed, Before-then}
use Rattle.dir_walk.proofs.Walked.DirectorySteps.{told-closed, told-empty, told-ended, told-unheld}
use Rattle.dir_walk.proofs.Walked.Ending.{Caused-later, Caused-memory}
use Rattle.dir_walk.proofs.Opens.Keeping.{Heeds-after, KeepsDelegate-same, KeepsDelegate-then, KeepsRules-same, KeepsRules-then, AsksStore-same, AsksStore-then, KeepsTree-then, AsksInterrupt-then, unmapped-then, KeepsDelegate-asked}
use Rattle.dir_walk.proofs.Opens.Entered.{enters-all, enters-last, enters-more}
use Rattle.dir_walk.proofs.Opens.Opening.{opens-none, opens-then, opens-still, opens-end, opens-least, opens-one, opens-refused, opens-below, opens-class, hides-none}
use Rattle.dir_walk.proofs.Folding.Listed.{entered-empty, HasNames-listed}
use Rattle.dir_walk.proofs.Folding.Named.{SoFar-none, SoFar-more}
use Rattle.dir_walk.proofs.Places.JoinedPaths.{joined-some}
use Rattle.dir_walk.proofs.Places.Placed.{depth_of-joined}
use Rattle.dir_walk.proofs.Places.Standing.{OnOk-always}
use Rattle.dir_walk.proofs.Folding.Steps.{entered-directory, telling, Stands-later, Gives-leaf, Gives-put, part-leaf, part-put}
use Rattle.dir_walk.proofs.Places.Rooms.{Hands-none, Hands-empty, Hands-refused, Hands-closed, Puts-start, Puts-name}
use Rattle.dir_walk.proofs.Folding.Hiding.{AddsShown-same}
use Rattle.dir_walk.proofs.Refused.Refusals.{IsAbout-class, IsAbout-deep, IsInTree-class, IsInTree-open, memory-only}
use Rattle.dir_walk.proofs.Refused.Shallow.{shallow-class, shallow-memory}
use Rattle.dir_walk.proofs.Walked.NameSteps.{told-deep, told-entered, told-unclassed}
use Rattle.dir_walk.proofs.directory.+walk.Goals as goal

pub walk_directory-returns-in_err-names-clause-walks : goal.walk_directory-returns-in_err-names-clause-walks
walk_directory-returns-in_err-names-clause-walks g t c =
    record {
      about = λ limit level.
          let p = err_from_is_err_and c.from_residual.result c.from_residual.ensures.1 in
          rw (p.1, p.2) (rw c.requires.root at (c.in_err-names.ensures.caused.about (setup_of_optional_stack c.args.parts.now.excludes.now) limit (omega (arith, level))));
      found = λ s told.
          let a = c.args in let p = err_from_is_err_and c.from_residual.result c.from_residual.ensures.1 in
          rw (p.1, p.2) (IsInTree-open (g.F.Find.holds a.parts.now.objects.now) s (setup_of_optional_stack a.parts.now.excludes.now) a.shared.now.worktree_root.now a.place.now.path _ (rw c.requires.root at (c.in_err-names.ensures.refused s.tree told)));
      caused =
          let p = err_from_is_err_and c.from_residual.result c.from_residual.ensures.1 in let stored = g.F.Find.faults c.args.parts.now.objects.now in
          rw (p.1, p.2) (record { fault = c.in_err-names.ensures.caused.fault stored stored; interrupt = c.in_err-names.ensures.caused.raised; listing = c.in_err-names.ensures.caused.listing; listed = tt; calm = tt });
      worktree = search rules;
      store = search rules;
      interrupt = search rules;
      hands =
          let p = err_from_is_err_and c.from_residual.result c.from_residual.ensures.1 in rw p.1 (Hands-none refl c.list_directory.ensures.counts.returned c.list_directory.ensures.counts.seen);
      delegate = KeepsDelegate-same;
      filtered = search rules;
      heeds = search rules;
    }

pub walk_directory-returns-then-is_empty-clause-told : goal.walk_directory-returns-then-is_empty-clause-told
walk_directory-returns-then-is_empty-clause-told g t c =
    let a = c.args in let names = c.in_ok-names.names in
    let bare : length names ≡ 0 = ap length (sym c.as_slice.ensures) ∙ eqb-true (length c.as_slice.result.now) 0 (sym c.is_empty.ensures ∙ c.if-is_empty.true) in
    told-empty g.W.Worktree g.F.Find g.D.Delegate (setting_of_shared g.M.Matcher a.shared.now) a.place.now.path a.class.now names c.close_empty_directory.result bare
    (λ s told. rw c.requires.root at (c.in_ok-names.ensures.lists s.tree told)) (c.in_ok-names.ensures.counts.counted (g.D.Delegate.given a.parts.now.delegate.now))
    (rw c.path-path.ensures.path at c.close_empty_directory.ensures.gives) (rw c.path-path.ensures.path at c.close_empty_directory.ensures.part) c.close_empty_directory.ensures.memory

pub walk_directory-loop-name-init : goal.walk_directory-loop-name-init
walk_directory-loop-name-init g t c =
    let a = c.args in let told = g.D.Delegate.given in let given = setting_of_shared g.M.Matcher a.shared.now in
    record {
      same = search rules;
      worktree = let opened = c.list_directory.ensures.worktree in record { tree = opened.tree; faults = opened.faults; list_faults = opened.list_faults; reads = opened.reads; lists = opened.lists; precomposes = opened.precomposes };
      store = AsksStore-same;
      unmapped = λ none. refl;
      rules = KeepsRules-same;
      interrupt = c.list_directory.ensures.interrupt;
      opens = opens-end (λ n one made s stands quiet default. omega (arith, one)) (opens-one c.in_ok-names.ensures.counts.opens c.list_directory.ensures.counts.reads) refl refl;
      puts = Puts-start a.place.now.path c.as_slice-name-items.result.now c.list_directory.ensures.counts.returned c.list_directory.ensures.counts.seen c.new-held.ensures.entries;
      delegate = KeepsDelegate-same;
      filtered = refl;
      listed = c.in_ok-names.ensures.caused.listed;
      calm = c.in_ok-names.ensures.caused.calm;
      kept_on = refl;
      stays = refl;
      so_far = λ made s stands quiet default limit level.
          rw (c.new-held.ensures.entries, c.new-held.ensures.blocked) (SoFar-none given made s limit a.place.now.path (told a.parts.now.delegate.now) (told a.parts.now.delegate.now) a.parts.now.outcome.now c.list_directory.new.outcome (c.in_ok-names.ensures.counts.counted (told a.parts.now.delegate.now)));
    }

pub walk_directory-returns-in_err-handed-clause-told : goal.walk_directory-returns-in_err-handed-clause-told
walk_directory-returns-in_err-handed-clause-told g t c =
    let a = c.args in let kept = c.loop-name.invariant in let p = err_from_is_err_and c.from_residual-in_err-handed.result c.from_residual-in_err-handed.ensures.1 in
    rw (p.1, p.2)
    (told-ended (walk_state_of_parts c.loop-name.parts) a.class.now c.as_slice-name-items.result.now c.loop-name.name-index c.name-item.result
    (λ s told. HasNames-listed (setting_of_shared g.M.Matcher a.shared.now) s.tree a.place.now.path c.as_slice.ensures c.is_empty.ensures c.if-is_empty.false c.as_slice-name-items.ensures c.in_ok-names.ensures.names (rw c.requires.root at (c.in_ok-names.ensures.lists s.tree told)))
    c.path-path.ensures.plain c.loop-name-test.true c.name-item.is kept.worktree kept.store kept.rules kept.delegate kept.so_far c.walk_name_in_directory.ensures.walks.worktree.faults
    c.in_err-handed.field-0.0 (rw (c.as_bytes.ensures, kept.stays) at c.in_err-handed.ensures.told))

pub walk_directory-returns-in_err-handed-clause-rules : goal.walk_directory-returns-in_err-handed-clause-rules
walk_directory-returns-in_err-handed-clause-rules g t c = let kept = c.loop-name.invariant in KeepsRules-then kept.worktree.tree kept.store.holds kept.rules c.walk_name_in_directory.ensures.rules

pub walk_directory-returns-in_err-handed-clause-walks : goal.walk_directory-returns-in_err-handed-clause-walks
walk_directory-returns-in_err-handed-clause-walks g t c =
    record {
      about = λ limit level.
          let p = err_from_is_err_and c.from_residual-in_err-handed.result c.from_residual-in_err-handed.ensures.1 in
          rw (p.1, p.2) (rw c.loop-name.invariant.rules.made at (c.in_err-handed.ensures.walks.about limit (rw c.loop-name.invariant.stays level)));
      found = λ s told.
          let kept = c.loop-name.invariant in let p = err_from_is_err_and c.from_residual-in_err-handed.result c.from_residual-in_err-handed.ensures.1 in
          rw (p.1, p.2) (rw (kept.store.holds, kept.rules.made) at (c.in_err-handed.ensures.walks.found s (kept.worktree.tree ∙ told)));
      caused =
          let kept = c.loop-name.invariant in let p = err_from_is_err_and c.from_residual-in_err-handed.result c.from_residual-in_err-handed.ensures.1 in
          rw (p.1, p.2) (Caused-later _ kept.worktree.faults kept.store.faults kept.calm kept.listed c.in_err-handed.ensures.walks.caused);
      worktree = KeepsTree-then c.loop-name.invariant.worktree c.walk_name_in_directory.ensures.walks.worktree;
      store = AsksStore-then c.loop-name.invariant.store c.walk_name_in_directory.ensures.walks.store;
      interrupt = AsksInterrupt-then c.loop-name.invariant.interrupt c.walk_name_in_directory.ensures.walks.interrupt;
      hands =
          let p = err_from_is_err_and c.from_residual-in_err-handed.result c.from_residual-in_err-handed.ensures.1 in
          rw p.1 (Hands-refused c.args.place.now.path c.as_slice-name-items.result.now c.loop-name.name-index c.name-item.result c.loop-name-test.true c.name-item.is c.loop-name.invariant.puts (rw (c.as_bytes.ensures, c.loop-name.invariant.stays) at c.in_err-handed.ensures.walks.hands.puts) (rw c.as_slice-name-items.ensures c.in_ok-names.ensures.names)
          c.path-path.ensures.plain);
      delegate = KeepsDelegate-then c.loop-name.invariant.delegate c.walk_name_in_directory.ensures.walks.delegate;
      filtered = c.walk_name_in_directory.ensures.walks.filtered ∙ c.loop-name.invariant.filtered;
      heeds =
          let p = err_from_is_err_and c.from_residual-in_err-handed.result c.from_residual-in_err-handed.ensures.1 in
          rw (p.1, p.2) (Heeds-after g.D.Delegate _ _ _ _ c.loop-name.invariant.kept_on c.in_err-handed.ensures.walks.heeds);
    }

pub walk_directory-returns-in_err-add_entry_handed_up-clause-told : goal.walk_directory-returns-in_err-add_entry_handed_up-clause-told
walk_directory-returns-in_err-add_entry_handed_up-clause-told g t c =
    let a = c.args in let kept = c.loop-name.invariant in let p = err_from_is_err_and c.from_residual-in_err-add_entry_handed_up.result c.from_residual-in_err-add_entry_handed_up.ensures.1 in
    rw (p.1, p.2)
    (told-unheld (walk_state_of_parts c.loop-name.parts) a.class.now c.as_slice-name-items.result.now c.loop-name.name-index c.name-item.result
    (λ s told. HasNames-listed (setting_of_shared g.M.Matcher a.shared.now) s.tree a.place.now.path c.as_slice.ensures c.is_empty.ensures c.if-is_empty.false c.as_slice-name-items.ensures c.in_ok-names.ensures.names (rw c.requires.root at (c.in_ok-names.ensures.lists s.tree told)))
    c.path-path.ensures.plain c.loop-name-test.true c.name-item.is kept.worktree kept.store kept.rules kept.delegate kept.so_far c.walk_name_in_directory.ensures.walks.worktree.faults
    c.in_ok-handed.handed (rw (c.as_bytes.ensures, kept.stays) at c.in_ok-handed.ensures.told))

pub walk_directory-returns-in_err-add_entry_handed_up-clause-rules : goal.walk_directory-returns-in_err-add_entry_handed_up-clause-rules
walk_directory-returns-in_err-add_entry_handed_up-clause-rules g t c = let kept = c.loop-name.invariant in KeepsRules-then kept.worktree.tree kept.store.holds kept.rules c.walk_name_in_directory.ensures.rules

pub walk_directory-returns-in_err-add_entry_handed_up-clause-walks : goal.walk_directory-returns-in_err-add_entry_handed_up-clause-walks
walk_directory-returns-in_err-add_entry_handed_up-clause-walks g t c =
    record {
      about = λ limit level.
          let p = err_from_is_err_and c.from_residual-in_err-add_entry_handed_up.result c.from_residual-in_err-add_entry_handed_up.ensures.1 in rw (p.1, p.2) tt;
      found = λ s told.
          let p = err_from_is_err_and c.from_residual-in_err-add_entry_handed_up.result c.from_residual-in_err-add_entry_handed_up.ensures.1 in rw (p.1, p.2) tt;
      caused = let p = err_from_is_err_and c.from_residual-in_err-add_entry_handed_up.result c.from_residual-in_err-add_entry_handed_up.ensures.1 in rw (p.1, p.2) (record { fault = tt; interrupt = tt; listing = tt; listed = tt; calm = tt });
      worktree = KeepsTree-then c.loop-name.invariant.worktree c.walk_name_in_directory.ensures.walks.worktree;
      store = AsksStore-then c.loop-name.invariant.store c.walk_name_in_directory.ensures.walks.store;
      interrupt = AsksInterrupt-then c.loop-name.invariant.interrupt c.walk_name_in_directory.ensures.walks.interrupt;
      hands =
          let p = err_from_is_err_and c.from_residual-in_err-add_entry_handed_up.result c.from_residual-in_err-add_entry_handed_up.ensures.1 in
          rw p.1 (Hands-refused c.args.place.now.path c.as_slice-name-items.result.now c.loop-name.name-index c.name-item.result c.loop-name-test.true c.name-item.is c.loop-name.invariant.puts (rw (c.as_bytes.ensures, c.loop-name.invariant.stays) at c.in_ok-handed.ensures.walks.hands.puts) (rw c.as_slice-name-items.ensures c.in_ok-names.ensures.names)
          c.path-path.ensures.plain);
      delegate = KeepsDelegate-then c.loop-name.invariant.delegate c.walk_name_in_directory.ensures.walks.delegate;
      filtered = c.walk_name_in_directory.ensures.walks.filtered ∙ c.loop-name.invariant.filtered;
      heeds = let p = err_from_is_err_and c.from_residual-in_err-add_entry_handed_up.result c.from_residual-in_err-add_entry_handed_up.ensures.1 in rw (p.1, p.2) (record { broken = tt; stopped = tt; unbroken = c.in_ok-handed.ensures.walks.heeds.kept_on ∙ c.loop-name.invariant.kept_on; kept_on = tt });
    }

pub walk_directory-loop-name-preserved : goal.walk_directory-loop-name-preserved
walk_directory-loop-name-preserved g t c =
    let kept = c.loop-name.invariant in
    record {
      same = search rules;
      worktree = KeepsTree-then kept.worktree c.walk_name_in_directory.ensures.walks.worktree;
      store = AsksStore-then kept.store c.walk_name_in_directory.ensures.walks.store;
      unmapped = unmapped-then c.args.parts.now.excludes.now c.loop-name.parts.excludes.now kept.rules.made kept.unmapped c.walk_name_in_directory.ensures.unmapped;
      rules = KeepsRules-then kept.worktree.tree kept.store.holds kept.rules c.walk_name_in_directory.ensures.rules;
      interrupt = AsksInterrupt-then kept.interrupt c.walk_name_in_directory.ensures.walks.interrupt;
      opens = opens-then (enters-more (setting_of_shared g.M.Matcher c.args.shared.now) c.args.blocked.now (c.args.levels + count_components c.args.place.now.path) c.args.place.now.path c.as_slice-name-items.result.now c.loop-name.name-index c.name-item.result c.loop-name-test.true c.name-item.is kept.worktree kept.store kept.rules kept.delegate c.walk_name_in_directory.ensures.walks.worktree.faults) kept.rules.made (omega arith) kept.opens (rw (c.as_bytes.ensures, c.loop-name.invariant.stays) at c.in_ok-handed.ensures.opens);
      puts = rw c.in_ok-add_entry_handed_up.ensures.entries (Puts-name c.args.place.now.path c.as_slice-name-items.result.now c.loop-name.name-index c.name-item.result c.loop-name-test.true c.name-item.is kept.puts (rw (c.as_bytes.ensures, c.loop-name.invariant.stays) at c.in_ok-handed.ensures.walks.hands.puts));
      delegate = KeepsDelegate-then kept.delegate c.walk_name_in_directory.ensures.walks.delegate;
      filtered = c.walk_name_in_directory.ensures.walks.filtered ∙ kept.filtered;
      listed = c.in_ok-handed.ensures.walks.caused.listed ∙ kept.listed;
      calm = c.in_ok-handed.ensures.walks.caused.calm ∙ kept.calm;
      kept_on = c.in_ok-handed.ensures.walks.heeds.kept_on ∙ kept.kept_on;
      stays = c.in_ok-handed.ensures.stays ∙ kept.stays;
      so_far = λ made s stands quiet default limit level.
          let a = c.args in let w = g.W.Worktree in let told = g.D.Delegate.given in let o = walk_options_of a.shared.now.options in
          let given = setting_of_shared g.M.Matcher a.shared.now in let d = a.place.now.path in let ev = evidence_from_setting_and_sources given made s in
          let now = Stands-later given c.loop-name.parts.excludes.now kept.worktree.tree kept.store.holds kept.rules.made kept.rules.in_step stands in
          let before : CountNotIncreased (w.faults a.parts.now.worktree.now) (w.faults c.loop-name.parts.worktree.now) = omega (arith, quiet, c.walk_name_in_directory.ensures.walks.worktree.faults) in
          let here : CountNotIncreased (w.faults c.loop-name.parts.worktree.now) (w.faults c.walk_name_in_directory.new.parts.worktree.now) = omega (arith, quiet, kept.worktree.faults) in
          let name = c.name-item.result in
          let gives : GivesAllWalkedUnrefused o limit ev (walk_result_of_name_over_sources given made s (path_joined_with_slash d name)) (told c.loop-name.parts.delegate.now) (told c.walk_name_in_directory.new.parts.delegate.now) c.loop-name.parts.outcome.now c.walk_name_in_directory.new.parts.outcome.now c.in_ok-handed.handed =
          rw (c.as_bytes.ensures, c.loop-name.invariant.stays) at (c.in_ok-handed.ensures.told.gives made s now here (kept.delegate.default ∙ default) limit (rw kept.stays level)) in
          SoFar-more given made s limit d c.as_slice-name-items.result.now c.loop-name.name-index name _ _ _ _ _ _ _ _ _ _ c.in_ok-handed.handed c.loop-name-test.true c.name-item.is (kept.so_far made s stands before default limit level) gives c.in_ok-add_entry_handed_up.ensures.entries c.in_ok-add_entry_handed_up.ensures.blocked;
    }

pub walk_directory-returns-clause-told : goal.walk_directory-returns-clause-told
walk_directory-returns-clause-told g t c =
    let a = c.args in let kept = c.loop-name.invariant in let held = c.loop-name.held in
    told-closed g.W.Worktree g.F.Find g.D.Delegate (walk_state_of_parts c.loop-name.parts) (setting_of_shared g.M.Matcher a.shared.now) a.place.now.path a.class.now c.as_slice-name-items.result.now c.loop-name.name-index held.entries.items held.blocked c.fold_directory_or_emit_held.result
    (λ s told. HasNames-listed (setting_of_shared g.M.Matcher a.shared.now) s.tree a.place.now.path c.as_slice.ensures c.is_empty.ensures c.if-is_empty.false c.as_slice-name-items.ensures c.in_ok-names.ensures.names (rw c.requires.root at (c.in_ok-names.ensures.lists s.tree told)))
    c.path-path.ensures.plain c.loop-name-test.false kept.so_far (rw (c.path.ensures.path, kept.stays) at c.fold_directory_or_emit_held.ensures.gives) (rw (c.path.ensures.path, kept.stays) at c.fold_directory_or_emit_held.ensures.part) c.fold_directory_or_emit_held.ensures.memory

pub walk_directory-returns-clause-walks : goal.walk_directory-returns-clause-walks
walk_directory-returns-clause-walks g t c =
    record {
      about = λ limit level. memory-only c.fold_directory_or_emit_held.result _ tt c.fold_directory_or_emit_held.ensures.memory;
      found = λ s told. memory-only c.fold_directory_or_emit_held.result _ tt c.fold_directory_or_emit_held.ensures.memory;
      caused =
          let kept = c.loop-name.invariant in
          Caused-later c.fold_directory_or_emit_held.result kept.worktree.faults kept.store.faults kept.calm kept.listed (Caused-memory c.fold_directory_or_emit_held.result c.fold_directory_or_emit_held.ensures.memory);
      worktree = search rules;
      store = search rules;
      interrupt = search rules;
      hands =
          Hands-closed c.args.place.now.path c.as_slice-name-items.result.now c.loop-name.name-index (rw c.as_slice-name-items.ensures c.in_ok-names.ensures.names) c.path-path.ensures.plain c.loop-name.invariant.puts (rw (c.path.ensures.path, c.loop-name.invariant.stays) at c.fold_directory_or_emit_held.ensures.hands);
      delegate = KeepsDelegate-then c.loop-name.invariant.delegate c.fold_directory_or_emit_held.ensures.delegate;
      filtered = c.fold_directory_or_emit_held.ensures.filtered ∙ c.loop-name.invariant.filtered;
      heeds = Heeds-after g.D.Delegate _ _ _ c.fold_directory_or_emit_held.result c.loop-name.invariant.kept_on c.fold_directory_or_emit_held.ensures.heeds;
    }

pub walk_name_in_directory-returns-then-delegate_enters_directory-clause-told : goal.walk_name_in_directory-returns-then-delegate_enters_directory-clause-told
walk_name_in_directory-returns-then-delegate_enters_directory-clause-told g t c =
    let a = c.args in let at = ap (λ (x : PlaceInWorktree). x.path) c.in_ok-cut.ensures.pushed in
    told-entered g.W.Worktree g.F.Find g.D.Delegate
    (record { worktree = c.classify_name_asking_disk.new.worktree; objects = c.classify_name_asking_disk.new.objects; interrupt = a.parts.now.interrupt.now; delegate = c.delegate_enters_directory.new.delegate; rules = c.classify_name_asking_disk.new.excludes; outcome = a.parts.now.outcome.now })
    (setting_of_shared g.M.Matcher a.shared.now) c.push.new.self.path c.in_ok-class.class c.walk_directory-handed.result c.requires.name at
    (omega (arith, c.if-levels-eq0.false, ap count_components at, depth_of-joined a.place.now.path a.name.now c.requires.name))
    (rw c.path-path.ensures.path at c.in_ok-class.ensures) (λ default. sym (c.delegate_enters_directory.ensures.entered default) ∙ c.if-delegate_enters_directory.true) c.delegate_enters_directory.ensures.default c.delegate_enters_directory.ensures.given
    c.walk_directory-handed.ensures.walks.worktree.faults c.walk_directory-handed.ensures.told

pub walk_name_in_directory-returns-clause-told : goal.walk_name_in_directory-returns-clause-told
walk_name_in_directory-returns-clause-told g t c =
    record {
      gives = λ made s stands quiet default limit level.
          let a = c.args in let w = g.W.Worktree in let o = walk_options_of a.shared.now.options in
          let given = setting_of_shared g.M.Matcher a.shared.now in let ev = evidence_from_setting_and_sources given made s in let q = path_joined_with_slash a.place.now.path a.name.now in
          let p = c.push.new.self.path in let at = ap (λ (x : PlaceInWorktree). x.path) c.in_ok-cut.ensures.pushed in let k = c.in_ok-class.class in
          let asked : CountNotIncreased (w.faults a.parts.now.worktree.now) (w.faults c.classify_name_asking_disk.new.worktree) = omega (arith, quiet, c.outcome_of_unentered_path.ensures.worktree.faults) in
          let here : CountNotIncreased (w.faults c.classify_name_asking_disk.new.worktree) (w.faults c.outcome_of_unentered_path.new.worktree) = omega (arith, quiet, c.classify_name_asking_disk.ensures.asking.keeps.faults) in
          let is : k ≡ class o ev p None (kind_on_disk_if_asked given s.tree p true) = rw (c.path-path.ensures.path, stands.made_is) at (c.in_ok-class.ensures.class s (telling stands) stands.in_step asked) in
          let read : (asks_ignore_rules o ev p None (kind_on_disk_if_asked given s.tree p true) && ev.is_unread p) ≡ false = rw (c.path-path.ensures.path, stands.made_is) at (c.in_ok-class.ensures.read s (telling stands) stands.in_step asked) in
          let leaving : enters o k false ≡ false = sym (c.delegate_enters_directory.ensures.entered default) ∙ c.if-delegate_enters_directory.false in let z = c.in_ok-class-2.class in
          let hides : z ≡ outcome_of_unentered_path o ev p k = c.in_ok-class-2.ensures.class made s (c.classify_name_asking_disk.ensures.asking.keeps.tree ∙ stands.tree) here in
          IfOk-weaker c.hand_up_or_emit_leaf-handed.result _ _ (λ h closes. Gives-leaf given made s p k is q at _ _ limit _ _ h read leaving (Gives-put o limit ev p k z _ _ _ _ h hides closes))
          (rw (c.path-path.ensures.path, c.delegate_enters_directory.ensures.given) at c.hand_up_or_emit_leaf-handed.ensures.gives);
      part = λ made s stands quiet default.
          let a = c.args in let w = g.W.Worktree in let o = walk_options_of a.shared.now.options in let given = setting_of_shared g.M.Matcher a.shared.now in
          let ev = evidence_from_setting_and_sources given made s in let q = path_joined_with_slash a.place.now.path a.name.now in let p = c.push.new.self.path in
          let at = ap (λ (x : PlaceInWorktree). x.path) c.in_ok-cut.ensures.pushed in let k = c.in_ok-class.class in
          let asked : CountNotIncreased (w.faults a.parts.now.worktree.now) (w.faults c.classify_name_asking_disk.new.worktree) = omega (arith, quiet, c.outcome_of_unentered_path.ensures.worktree.faults) in
          let here : CountNotIncreased (w.faults c.classify_name_asking_disk.new.worktree) (w.faults c.outcome_of_unentered_path.new.worktree) = omega (arith, quiet, c.classify_name_asking_disk.ensures.asking.keeps.faults) in
          let is : k ≡ class o ev p None (kind_on_disk_if_asked given s.tree p true) = rw (c.path-path.ensures.path, stands.made_is) at (c.in_ok-class.ensures.class s (telling stands) stands.in_step asked) in
          let leaving : enters o k false ≡ false = sym (c.delegate_enters_directory.ensures.entered default) ∙ c.if-delegate_enters_directory.false in let z = c.in_ok-class-2.class in
          let hides : z ≡ outcome_of_unentered_path o ev p k = c.in_ok-class-2.ensures.class made s (c.classify_name_asking_disk.ensures.asking.keeps.tree ∙ stands.tree) here in
          on_err_weaker c.hand_up_or_emit_leaf-handed.result (λ part. part-leaf given made s p k is q at _ _ _ _ leaving (part-put o ev p k z _ _ _ _ hides part))
          (rw (c.path-path.ensures.path, c.delegate_enters_directory.ensures.given) at c.hand_up_or_emit_leaf-handed.ensures.part);
      refused = λ made s stands default limit level. memory-only c.hand_up_or_emit_leaf-handed.result _ tt c.hand_up_or_emit_leaf-handed.ensures.memory;
    }

pub walk_directory-returns-in_err-names-clause-told : goal.walk_directory-returns-in_err-names-clause-told
walk_directory-returns-in_err-names-clause-told g t c =
    record {
      gives = search rules;
      part = search rules;
      refused = λ made s stands default limit level.
          let p = err_from_is_err_and c.from_residual.result c.from_residual.ensures.1 in
          rw (p.1, p.2) (inl (rw c.requires.root at (c.in_err-names.ensures.refused s.tree stands.tree)));
    }

pub walk_directory-returns-then-is_empty-clause-walks : goal.walk_directory-returns-then-is_empty-clause-walks
walk_directory-returns-then-is_empty-clause-walks g t c =
    record {
      about = λ limit level. memory-only c.close_empty_directory.result _ tt c.close_empty_directory.ensures.memory;
      found = λ s told. memory-only c.close_empty_directory.result _ tt c.close_empty_directory.ensures.memory;
      caused = search rules;
      worktree = search rules;
      store = search rules;
      interrupt = search rules;
      hands = Hands-empty c.list_directory.ensures.counts.returned c.list_directory.ensures.counts.seen (rw c.path-path.ensures.path at c.close_empty_directory.ensures.hands);
      delegate = search rules;
      filtered = search rules;
      heeds = search rules;
    }

pub walk_name_in_directory-returns-in_err-class-clause-walks : goal.walk_name_in_directory-returns-in_err-class-clause-walks
walk_name_in_directory-returns-in_err-class-clause-walks g t c =
    record {
      about = λ limit level.
          let a = c.args in let r = err_from_is_err_and c.from_residual-in_err-class.result c.from_residual-in_err-class.ensures.1 in
          let at = ap (λ (x : PlaceInWorktree). x.path) c.in_ok-cut.ensures.pushed in
          let near : count_components c.push.new.self.path ≤ limit + 1 = omega (arith, level, ap count_components at, depth_of-joined a.place.now.path a.name.now c.requires.name) in
          rw (r.1, r.2) (IsAbout-class (setup_of_optional_stack a.parts.now.excludes.now) a.shared.now.worktree_root.now limit c.push.new.self.path _ c.path-path.ensures.normal near (rw c.path-path.ensures.path at c.in_err-class.ensures.asking.about));
      found = λ s told.
          let a = c.args in let r = err_from_is_err_and c.from_residual-in_err-class.result c.from_residual-in_err-class.ensures.1 in
          let made = setup_of_optional_stack a.parts.now.excludes.now in
          rw (r.1, r.2) (IsInTree-class a.shared.now.worktree_root.now (g.F.Find.holds a.parts.now.objects.now) s made c.push.new.self.path _ c.path-path.ensures.normal (rw c.path-path.ensures.path at c.in_err-class.ensures.asking.about)
          (λ known. rw c.path-path.ensures.path at (c.in_err-class.ensures.asking.refused s (record { tree_is = told; objects_are = λ some. known }))));
      caused = search rules;
      worktree = search rules;
      store = search rules;
      interrupt = search rules;
      hands =
          let r = err_from_is_err_and c.from_residual-in_err-class.result c.from_residual-in_err-class.ensures.1 in rw r.1 (Hands-none refl refl refl);
      delegate = KeepsDelegate-same;
      filtered = refl;
      heeds = let p = err_from_is_err_and c.from_residual-in_err-class.result c.from_residual-in_err-class.ensures.1 in rw (p.1, p.2) (record { broken = tt; stopped = tt; unbroken = refl; kept_on = tt });
    }

pub walk_name_in_directory-returns-in_err-class-clause-told : goal.walk_name_in_directory-returns-in_err-class-clause-told
walk_name_in_directory-returns-in_err-class-clause-told g t c =
    let r = err_from_is_err_and c.from_residual-in_err-class.result c.from_residual-in_err-class.ensures.1 in
    rw (r.1, r.2)
    (told-unclassed g.W.Worktree g.F.Find g.D.Delegate (setting_of_shared g.M.Matcher c.args.shared.now) c.push.new.self.path c.in_err-class.field-0.0 c.requires.name c.path-path.ensures.normal (ap (λ (x : PlaceInWorktree). x.path) c.in_ok-cut.ensures.pushed)
    (rw c.path-path.ensures.path at c.in_err-class.ensures) refl refl)

pub walk_name_in_directory-returns-then-levels-eq0-clause-walks : goal.walk_name_in_directory-returns-then-levels-eq0-clause-walks
walk_name_in_directory-returns-then-levels-eq0-clause-walks g t c =
    record {
      about = λ limit level.
          let a = c.args in let root = a.shared.now.worktree_root.now in let p = c.push.new.self.path in
          let at = ap (λ (x : PlaceInWorktree). x.path) c.in_ok-cut.ensures.pushed in
          let base : c.push.new.self.root ≡ root = ap (λ (x : PlaceInWorktree). x.root) c.in_ok-cut.ensures.pushed ∙ c.requires.root in
          let deep : count_components p ≡ limit + 1 = omega (arith, level, c.if-levels-eq0.true, ap count_components at, depth_of-joined a.place.now.path a.name.now c.requires.name) in
          IsAbout-deep (setup_of_optional_stack a.parts.now.excludes.now) root p limit _ _ c.path-path.ensures.normal c.path-path.ensures.spelled deep (rw base at c.too_deep_or_interrupted_error.ensures.deep);
      found = search rules;
      caused = search rules;
      worktree = search rules;
      store = search rules;
      interrupt = search rules;
      hands = Hands-none c.delegate_enters_directory.ensures.given refl refl;
      delegate = KeepsDelegate-asked c.delegate_enters_directory.ensures.default c.delegate_enters_directory.ensures.given c.delegate_enters_directory.ensures.breaks c.delegate_enters_directory.ensures.refusals;
      filtered = AddsShown-same (walk_options_of c.args.shared.now.options) c.delegate_enters_directory.ensures.given;
      heeds = search rules;
    }

pub walk_name_in_directory-returns-then-levels-eq0-clause-told : goal.walk_name_in_directory-returns-then-levels-eq0-clause-told
walk_name_in_directory-returns-then-levels-eq0-clause-told g t c =
    let a = c.args in let at = ap (λ (x : PlaceInWorktree). x.path) c.in_ok-cut.ensures.pushed in
    let base : c.push.new.self.root ≡ a.shared.now.worktree_root.now = ap (λ (x : PlaceInWorktree). x.root) c.in_ok-cut.ensures.pushed ∙ c.requires.root in
    told-deep g.W.Worktree g.F.Find g.D.Delegate (setting_of_shared g.M.Matcher a.shared.now) c.push.new.self.path c.in_ok-class.class _ c.too_deep_or_interrupted_error.result c.requires.name at
    (omega (arith, c.if-levels-eq0.true, ap count_components at, depth_of-joined a.place.now.path a.name.now c.requires.name))
    (rw c.path-path.ensures.path at c.in_ok-class.ensures) (λ default. sym (c.delegate_enters_directory.ensures.entered default) ∙ c.if-delegate_enters_directory.true) c.delegate_enters_directory.ensures.given refl (rw base at c.too_deep_or_interrupted_error.ensures.deep)

pub walk_name_in_directory-returns-then-delegate_enters_directory-clause-walks : goal.walk_name_in_directory-returns-then-delegate_enters_directory-clause-walks
walk_name_in_directory-returns-then-delegate_enters_directory-clause-walks g t c =
    let a = c.args in let at = ap (λ (x : PlaceInWorktree). x.path) c.in_ok-cut.ensures.pushed in
    any-entered (record { worktree = c.classify_name_asking_disk.new.worktree; objects = c.classify_name_asking_disk.new.objects; interrupt = a.parts.now.interrupt.now; delegate = c.delegate_enters_directory.new.delegate; rules = c.classify_name_asking_disk.new.excludes; outcome = a.parts.now.outcome.now })
    (Before-classed c.classify_name_asking_disk.ensures.asking.keeps c.classify_name_asking_disk.ensures.asking.store c.classify_name_asking_disk.ensures.asking.rules) c.delegate_enters_directory.ensures.default c.delegate_enters_directory.ensures.given c.delegate_enters_directory.ensures.breaks c.delegate_enters_directory.ensures.refusals at
    (omega (arith, c.if-levels-eq0.false, ap count_components at, depth_of-joined a.place.now.path a.name.now c.requires.name)) c.walk_directory-handed.ensures.walks

pub walk_name_in_directory-returns-clause-walks : goal.walk_name_in_directory-returns-clause-walks
walk_name_in_directory-returns-clause-walks g t c =
    any-leaf c.delegate_enters_directory.new.delegate c.hand_up_or_emit_leaf-handed.result (Before-then (Before-classed c.classify_name_asking_disk.ensures.asking.keeps c.classify_name_asking_disk.ensures.asking.store c.classify_name_asking_disk.ensures.asking.rules) (Before-asked c.outcome_of_unentered_path.ensures.worktree))
    c.delegate_enters_directory.ensures.default c.delegate_enters_directory.ensures.given c.delegate_enters_directory.ensures.breaks c.delegate_enters_directory.ensures.refusals c.hand_up_or_emit_leaf-handed.ensures.delegate c.hand_up_or_emit_leaf-handed.ensures.filtered c.hand_up_or_emit_leaf-handed.ensures.heeds
    (ap (λ (x : PlaceInWorktree). x.path) c.in_ok-cut.ensures.pushed) (rw c.path-path.ensures.path at c.hand_up_or_emit_leaf-handed.ensures.hands) c.hand_up_or_emit_leaf-handed.ensures.memory

pub walk_directory-returns-in_err-names-clause-opens : goal.walk_directory-returns-in_err-names-clause-opens
walk_directory-returns-in_err-names-clause-opens g t c =
    let p = err_from_is_err_and c.from_residual.result c.from_residual.ensures.1 in rw (p.1, p.2) (opens-refused {opened = count_unlisted_error c.in_err-names.field-0.0} (λ made s stands quiet default. omega arith) c.in_err-names.ensures.counts.tried c.list_directory.ensures.counts.reads)

pub walk_directory-returns-then-is_empty-clause-opens : goal.walk_directory-returns-then-is_empty-clause-opens
walk_directory-returns-then-is_empty-clause-opens g t c =
    let a = c.args in let given = setting_of_shared g.M.Matcher a.shared.now in let d = a.place.now.path in let names = c.in_ok-names.names in
    let bare : length names ≡ 0 = ap length (sym c.as_slice.ensures) ∙ eqb-true (length c.as_slice.result.now) 0 (sym c.is_empty.ensures ∙ c.if-is_empty.true) in
    opens-end
    (λ n one made s stands quiet default.
    let lists : ListsDirectoryNamesInAnyOrder (look_at_entered_directory given s.tree d) names = rw c.requires.root at (c.in_ok-names.ensures.lists s.tree stands.tree) in
    let itself = entered-empty given made s d a.class.now names lists bare (a.levels + count_components d) (omega arith) in omega (arith, one, itself))
    (opens-one c.in_ok-names.ensures.counts.opens c.list_directory.ensures.counts.reads) c.close_empty_directory.ensures.entered (shallow-memory c.close_empty_directory.result c.close_empty_directory.ensures.memory)

pub walk_directory-returns-in_err-handed-clause-opens : goal.walk_directory-returns-in_err-handed-clause-opens
walk_directory-returns-in_err-handed-clause-opens g t c =
    let kept = c.loop-name.invariant in let p = err_from_is_err_and c.from_residual-in_err-handed.result c.from_residual-in_err-handed.ensures.1 in
    rw (p.1, p.2)
    (opens-then
    (enters-last (setting_of_shared g.M.Matcher c.args.shared.now) c.args.blocked.now (c.args.levels + count_components c.args.place.now.path) c.args.place.now.path c.as_slice-name-items.result.now c.loop-name.name-index c.name-item.result c.loop-name-test.true c.name-item.is kept.worktree kept.store kept.rules kept.delegate c.walk_name_in_directory.ensures.walks.worktree.faults (omega arith) c.args.class.now _
    (λ s told. HasNames-listed (setting_of_shared g.M.Matcher c.args.shared.now) s.tree c.args.place.now.path c.as_slice.ensures c.is_empty.ensures c.if-is_empty.false c.as_slice-name-items.ensures c.in_ok-names.ensures.names (rw c.requires.root at (c.in_ok-names.ensures.lists s.tree told))) c.path-path.ensures.plain)
    kept.rules.made (omega arith) kept.opens (rw (c.as_bytes.ensures, c.loop-name.invariant.stays) at c.in_err-handed.ensures.opens))

pub walk_directory-returns-in_err-add_entry_handed_up-clause-opens : goal.walk_directory-returns-in_err-add_entry_handed_up-clause-opens
walk_directory-returns-in_err-add_entry_handed_up-clause-opens g t c =
    let kept = c.loop-name.invariant in let p = err_from_is_err_and c.from_residual-in_err-add_entry_handed_up.result c.from_residual-in_err-add_entry_handed_up.ensures.1 in
    let ends = (enters-last (setting_of_shared g.M.Matcher c.args.shared.now) c.args.blocked.now (c.args.levels + count_components c.args.place.now.path) c.args.place.now.path c.as_slice-name-items.result.now c.loop-name.name-index c.name-item.result c.loop-name-test.true c.name-item.is kept.worktree kept.store kept.rules kept.delegate c.walk_name_in_directory.ensures.walks.worktree.faults (omega arith) c.args.class.now 0
    (λ s told. HasNames-listed (setting_of_shared g.M.Matcher c.args.shared.now) s.tree c.args.place.now.path c.as_slice.ensures c.is_empty.ensures c.if-is_empty.false c.as_slice-name-items.ensures c.in_ok-names.ensures.names (rw c.requires.root at (c.in_ok-names.ensures.lists s.tree told))) c.path-path.ensures.plain) in
    rw (p.1, p.2)
    (opens-then (λ m n so_far here made s stands quiet default. let most = ends m n so_far here made s stands quiet default in omega (arith, most))
    kept.rules.made (omega arith) kept.opens (rw (c.as_bytes.ensures, c.loop-name.invariant.stays) at c.in_ok-handed.ensures.opens))

pub walk_directory-returns-clause-opens : goal.walk_directory-returns-clause-opens
walk_directory-returns-clause-opens g t c =
    opens-end
    (enters-all g.W.Worktree g.F.Find g.D.Delegate c.args.parts.now.worktree.now c.loop-name.parts.worktree.now c.args.parts.now.objects.now c.args.parts.now.excludes.now c.args.parts.now.delegate.now (setting_of_shared g.M.Matcher c.args.shared.now) c.args.blocked.now (c.args.levels + count_components c.args.place.now.path) c.args.place.now.path c.as_slice-name-items.result.now c.loop-name.name-index (omega arith) c.loop-name-test.false c.args.class.now _
    (λ s told. HasNames-listed (setting_of_shared g.M.Matcher c.args.shared.now) s.tree c.args.place.now.path c.as_slice.ensures c.is_empty.ensures c.if-is_empty.false c.as_slice-name-items.ensures c.in_ok-names.ensures.names (rw c.requires.root at (c.in_ok-names.ensures.lists s.tree told))) c.path-path.ensures.plain)
    c.loop-name.invariant.opens c.fold_directory_or_emit_held.ensures.entered (shallow-memory c.fold_directory_or_emit_held.result c.fold_directory_or_emit_held.ensures.memory)

pub walk_name_in_directory-returns-in_err-cut-clause-opens : goal.walk_name_in_directory-returns-in_err-cut-clause-opens
walk_name_in_directory-returns-in_err-cut-clause-opens g t c =
    let r = err_from_is_err_and c.from_residual.result c.from_residual.ensures.1 in
    rw (r.1, r.2) (opens-none (λ made s stands quiet default. omega arith) refl refl (omega arith) (λ on alone. omega arith))

pub walk_name_in_directory-returns-in_err-class-clause-opens : goal.walk_name_in_directory-returns-in_err-class-clause-opens
walk_name_in_directory-returns-in_err-class-clause-opens g t c =
    let path = ap (λ (x : PlaceInWorktree). x.path) c.in_ok-cut.ensures.pushed in let r = err_from_is_err_and c.from_residual-in_err-class.result c.from_residual-in_err-class.ensures.1 in
    rw (r.1, r.2) (opens-least (λ n none made s stands quiet default. omega (arith, none)) (shallow-class _ _ c.in_err-class.field-0.0 c.in_err-class.ensures.asking.about)
    (opens-class c.args.place.now.path c.args.name.now c.requires.name c.classify_name_asking_disk.ensures.asking.keeps.lists (rw (c.path-path.ensures.path, path) at c.in_err-class.ensures.asking.reads)))

pub walk_name_in_directory-returns-then-levels-eq0-clause-opens : goal.walk_name_in_directory-returns-then-levels-eq0-clause-opens
walk_name_in_directory-returns-then-levels-eq0-clause-opens g t c =
    let path = ap (λ (x : PlaceInWorktree). x.path) c.in_ok-cut.ensures.pushed in
    opens-still (λ n none made s stands quiet default. omega (arith, none))
    (opens-class c.args.place.now.path c.args.name.now c.requires.name c.classify_name_asking_disk.ensures.asking.keeps.lists (rw (c.path-path.ensures.path, path) at c.in_ok-class.ensures.asking.reads)) refl refl c.too_deep_or_interrupted_error.ensures.asked (λ on. refl)

pub walk_name_in_directory-returns-then-delegate_enters_directory-clause-opens : goal.walk_name_in_directory-returns-then-delegate_enters_directory-clause-opens
walk_name_in_directory-returns-then-delegate_enters_directory-clause-opens g t c =
    let path = ap (λ (x : PlaceInWorktree). x.path) c.in_ok-cut.ensures.pushed in let a = c.args in let w = g.W.Worktree in let o = walk_options_of a.shared.now.options in let given = setting_of_shared g.M.Matcher a.shared.now in
    let d = a.place.now.path in let q = path_joined_with_slash d a.name.now in let p = c.push.new.self.path in let k = c.in_ok-class.class in
    opens-then
    (λ m n none below made s stands quiet default.
    let asked : CountNotIncreased (w.faults a.parts.now.worktree.now) (w.faults c.classify_name_asking_disk.new.worktree) = omega (arith, quiet, c.walk_directory-handed.ensures.walks.worktree.faults) in
    let here : CountNotIncreased (w.faults c.classify_name_asking_disk.new.worktree) (w.faults c.walk_directory-handed.new.parts.worktree.now) = omega (arith, quiet, c.classify_name_asking_disk.ensures.asking.keeps.faults) in
    let is : k ≡ class o (evidence_from_setting_and_sources given made s) p None (kind_on_disk_if_asked given s.tree p true) = rw (c.path-path.ensures.path, stands.made_is) at (c.in_ok-class.ensures.class s (telling stands) stands.in_step asked) in
    let now = Stands-later given c.classify_name_asking_disk.new.excludes c.classify_name_asking_disk.ensures.asking.keeps.tree c.classify_name_asking_disk.ensures.asking.store.holds c.classify_name_asking_disk.ensures.asking.rules.made c.classify_name_asking_disk.ensures.asking.rules.in_step stands in
    let some : is_empty p ≡ false = ap is_empty path ∙ joined-some d a.name.now c.requires.name in
    let into : enters o k false ≡ true = sym (c.delegate_enters_directory.ensures.entered default) ∙ c.if-delegate_enters_directory.true in
    let most = below made s now here (c.delegate_enters_directory.ensures.default ∙ default) in
    let limit : ℕ = a.levels + count_components d in
    let deeper : (a.levels - 1) + count_components p ≡ limit = omega (arith, c.if-levels-eq0.false, ap count_components path, depth_of-joined d a.name.now c.requires.name) in
    let same = ap {B = ℕ} (λ (l : ℕ). count_paths_within_depth l (walk_result_of_directory_over_sources given made s p k).entered) deeper in
    omega (arith, none, most, same, entered-directory given made s p k is limit q path some into))
    c.classify_name_asking_disk.ensures.asking.rules.made (omega arith)
    (opens-class d a.name.now c.requires.name c.classify_name_asking_disk.ensures.asking.keeps.lists (rw (c.path-path.ensures.path, path) at c.in_ok-class.ensures.asking.reads))
    (opens-below d a.name.now p c.requires.name path c.walk_directory-handed.ensures.opens)

pub walk_name_in_directory-returns-in_err-class-2-clause-opens : goal.walk_name_in_directory-returns-in_err-class-2-clause-opens
walk_name_in_directory-returns-in_err-class-2-clause-opens g t c =
    let path = ap (λ (x : PlaceInWorktree). x.path) c.in_ok-cut.ensures.pushed in let o = walk_options_of c.args.shared.now.options in
    let r = err_from_is_err_and c.from_residual-in_err-class-2.result c.from_residual-in_err-class-2.ensures.1 in
    rw (r.1, r.2) (opens-still (λ n none made s stands quiet default. omega (arith, none))
    (opens-class c.args.place.now.path c.args.name.now c.requires.name c.classify_name_asking_disk.ensures.asking.keeps.lists (rw (c.path-path.ensures.path, path) at c.in_ok-class.ensures.asking.reads)) c.outcome_of_unentered_path.ensures.worktree.lists refl (omega arith) (λ on. c.outcome_of_unentered_path.ensures.reads (hides-none o on)))

pub walk_name_in_directory-returns-clause-opens : goal.walk_name_in_directory-returns-clause-opens
walk_name_in_directory-returns-clause-opens g t c =
    let path = ap (λ (x : PlaceInWorktree). x.path) c.in_ok-cut.ensures.pushed in let o = walk_options_of c.args.shared.now.options in
    opens-still (λ n none made s stands quiet default. omega (arith, none))
    (opens-class c.args.place.now.path c.args.name.now c.requires.name c.classify_name_asking_disk.ensures.asking.keeps.lists (rw (c.path-path.ensures.path, path) at c.in_ok-class.ensures.asking.reads)) c.outcome_of_unentered_path.ensures.worktree.lists c.hand_up_or_emit_leaf-handed.ensures.entered (omega (arith, shallow-memory c.hand_up_or_emit_leaf-handed.result c.hand_up_or_emit_leaf-handed.ensures.memory))
    (λ on. c.outcome_of_unentered_path.ensures.reads (hides-none o on))

pub walk_name_in_directory-returns-in_err-cut-clause-walks : goal.walk_name_in_directory-returns-in_err-cut-clause-walks
walk_name_in_directory-returns-in_err-cut-clause-walks g t c =
    let r = err_from_is_err_and c.from_residual.result c.from_residual.ensures.1 in rw (r.1, r.2) (any-memory Before-same refl refl refl (omega arith))

pub walk_name_in_directory-returns-in_err-class-2-clause-walks : goal.walk_name_in_directory-returns-in_err-class-2-clause-walks
walk_name_in_directory-returns-in_err-class-2-clause-walks g t c =
    let r = err_from_is_err_and c.from_residual-in_err-class-2.result c.from_residual-in_err-class-2.ensures.1 in
    rw (r.1, r.2) (any-memory (Before-then (Before-classed c.classify_name_asking_disk.ensures.asking.keeps c.classify_name_asking_disk.ensures.asking.store c.classify_name_asking_disk.ensures.asking.rules) (Before-asked c.outcome_of_unentered_path.ensures.worktree)) c.delegate_enters_directory.ensures.default c.delegate_enters_directory.ensures.given c.delegate_enters_directory.ensures.breaks c.delegate_enters_directory.ensures.refusals)

pub walk_name_in_directory-returns-then-delegate_enters_directory-clause-rules : goal.walk_name_in_directory-returns-then-delegate_enters_directory-clause-rules
walk_name_in_directory-returns-then-delegate_enters_directory-clause-rules g t c = KeepsRules-then c.classify_name_asking_disk.ensures.asking.keeps.tree c.classify_name_asking_disk.ensures.asking.store.holds c.classify_name_asking_disk.ensures.asking.rules c.walk_directory-handed.ensures.rules

pub walk_directory-returns-in_err-handed-clause-unmapped : goal.walk_directory-returns-in_err-handed-clause-unmapped
walk_directory-returns-in_err-handed-clause-unmapped g t c = let kept = c.loop-name.invariant in unmapped-then c.args.parts.now.excludes.now c.loop-name.parts.excludes.now kept.rules.made kept.unmapped c.walk_name_in_directory.ensures.unmapped

pub walk_directory-returns-in_err-add_entry_handed_up-clause-unmapped : goal.walk_directory-returns-in_err-add_entry_handed_up-clause-unmapped
walk_directory-returns-in_err-add_entry_handed_up-clause-unmapped g t c = let kept = c.loop-name.invariant in unmapped-then c.args.parts.now.excludes.now c.loop-name.parts.excludes.now kept.rules.made kept.unmapped c.walk_name_in_directory.ensures.unmapped

pub walk_directory-returns-clause-unmapped : goal.walk_directory-returns-clause-unmapped
walk_directory-returns-clause-unmapped g t c = c.loop-name.invariant.unmapped

pub walk_name_in_directory-returns-then-delegate_enters_directory-clause-unmapped : goal.walk_name_in_directory-returns-then-delegate_enters_directory-clause-unmapped
walk_name_in_directory-returns-then-delegate_enters_directory-clause-unmapped g t c = unmapped-then c.args.parts.now.excludes.now c.classify_name_asking_disk.new.excludes c.classify_name_asking_disk.ensures.asking.rules.made c.classify_name_asking_disk.ensures.asking.unmapped c.walk_directory-handed.ensures.unmapped

pub walk_name_in_directory-returns-in_err-class-clause-unmapped : goal.walk_name_in_directory-returns-in_err-class-clause-unmapped
walk_name_in_directory-returns-in_err-class-clause-unmapped g t c = c.classify_name_asking_disk.ensures.asking.unmapped

pub walk_name_in_directory-returns-then-levels-eq0-clause-unmapped : goal.walk_name_in_directory-returns-then-levels-eq0-clause-unmapped
walk_name_in_directory-returns-then-levels-eq0-clause-unmapped g t c = c.classify_name_asking_disk.ensures.asking.unmapped

pub walk_name_in_directory-returns-in_err-class-2-clause-unmapped : goal.walk_name_in_directory-returns-in_err-class-2-clause-unmapped
walk_name_in_directory-returns-in_err-class-2-clause-unmapped g t c = c.classify_name_asking_disk.ensures.asking.unmapped

pub walk_name_in_directory-returns-clause-unmapped : goal.walk_name_in_directory-returns-clause-unmapped
walk_name_in_directory-returns-clause-unmapped g t c = c.classify_name_asking_disk.ensures.asking.unmapped

pub walk_name_in_directory-truncate_to_directory_if_ok-requires : goal.walk_name_in_directory-truncate_to_directory_if_ok-requires
walk_name_in_directory-truncate_to_directory_if_ok-requires g t c =
    let within = c.in_ok-cut.ensures.within in let P : PlaceInWorktree → Type 0 = λ x. IsNameInPlace c.in_ok-cut.cut c.args.place.now x in
    (c.args.place.now, on_ok_weaker c.walk_directory-handed.result (λ same. subst P (sym same) within) c.walk_directory-handed.ensures.stays)

pub walk_name_in_directory-returns-then-delegate_enters_directory-clause-stays : goal.walk_name_in_directory-returns-then-delegate_enters_directory-clause-stays
walk_name_in_directory-returns-then-delegate_enters_directory-clause-stays g t c =
    let within = c.in_ok-cut.ensures.within in let P : PlaceInWorktree → Type 0 = λ x. IsNameInPlace c.in_ok-cut.cut c.args.place.now x in
    c.truncate_to_directory_if_ok.ensures c.args.place.now (on_ok_weaker c.walk_directory-handed.result (λ same. subst P (sym same) within) c.walk_directory-handed.ensures.stays)

pub walk_name_in_directory-truncate_to_directory_if_ok-requires-2 : goal.walk_name_in_directory-truncate_to_directory_if_ok-requires-2
walk_name_in_directory-truncate_to_directory_if_ok-requires-2 g t c = (c.args.place.now, OnOk-always c.hand_up_or_emit_leaf-handed.result c.in_ok-cut.ensures.within)

pub walk_name_in_directory-returns-clause-stays : goal.walk_name_in_directory-returns-clause-stays
walk_name_in_directory-returns-clause-stays g t c = c.truncate_to_directory_if_ok-2.ensures c.args.place.now (OnOk-always c.hand_up_or_emit_leaf-handed.result c.in_ok-cut.ensures.within)

pub walk_directory-returns-then-is_empty-clause-stays : goal.walk_directory-returns-then-is_empty-clause-stays
walk_directory-returns-then-is_empty-clause-stays g t c = OnOk-always c.close_empty_directory.result refl

pub walk_directory-returns-clause-stays : goal.walk_directory-returns-clause-stays
walk_directory-returns-clause-stays g t c = OnOk-always c.fold_directory_or_emit_held.result c.loop-name.invariant.stays
