-- The directory that must not go is asked for, which leaves told what was told; then the root is walked, and what it hands up is put out.
use Rattle.std.proofs.Common.{arith, inl, refl, ◌∙◌, option_to_list, Err}
use Rattle.std.proofs.lemmas.Result.{err_from_is_err_and, on_err_weaker, on_ok_weaker}
use Rattle.worktree_fs.specs.Causes.{CountIncreasedOrSaturated, CountNotIncreased}
use Rattle.dir_classify.specs.Chosen.{walk_options_of}
use Rattle.dir_classify.specs.Excludes.{setup_of_optional_stack}
use Rattle.dir_classify.specs.Layers.{setting_of_shared, evidence_from_setting_and_sources}
use Rattle.dir_walk.specs.declared.handed.Handed.{Handed}
use Rattle.dir_walk.specs.Refused.{IsErrorOfEnteredDirectory}
use Rattle.dir_walk.specs.Told.{walk_result_of_directory_over_sources}
use Rattle.dir_walk.proofs.Walked.CallByCall.{Before-asked, Ends-after, Ends-err, Ends-then}
use Rattle.dir_walk.proofs.Opens.FromRoot.{Puts-out, deep-same, opens-around, opens-not, refused-same, unlisted-same}
use Rattle.dir_walk.proofs.Gives.HandedOn.{DirectoryRefuses-weaker, Stands-asked, gives-all, part-all, part-out}
use Rattle.dir_walk.proofs.Refused.Refusals.{memory-only, refused-any}
use Rattle.dir_walk.proofs.Refused.Shallow.{shallow-memory}
use Rattle.dir_walk.proofs.enter.walk_entered_traversal_root.Goals as goal

-- ---- there is no room for its place, or for the directory that must not go

pub returns-in_err-place-clause-opens : goal.returns-in_err-place-clause-opens
returns-in_err-place-clause-opens g c =
    let p = err_from_is_err_and c.from_residual.result c.from_residual.ensures.1 in
    rw (p.1, p.2) (opens-not c.args.strategy _ _ _ _ _ _ _ _ _ _ _ (λ n none s tells default quiet. omega (arith, none)) refl refl (omega arith))

pub returns-in_err-blocked-clause-opens : goal.returns-in_err-blocked-clause-opens
returns-in_err-blocked-clause-opens g c =
    let p = err_from_is_err_and c.from_residual-in_err-blocked.result c.from_residual-in_err-blocked.ensures.1 in
    rw (p.1, p.2) (opens-not c.args.strategy _ _ _ _ _ _ _ _ _ _ _ (λ n none s tells default quiet. omega (arith, none)) c.in_err-blocked.ensures.keeps.lists c.in_err-blocked.ensures.reads (omega arith))

-- ---- the walk ended there

pub returns-in_err-handed-clause-told : goal.returns-in_err-handed-clause-told
returns-in_err-handed-clause-told g c =
    record {
      gives = λ s tells quiet default. let p = err_from_is_err_and c.from_residual-in_err-handed.result c.from_residual-in_err-handed.ensures.1 in rw p.1 tt;
      part = λ s tells quiet default.
          let a = c.args in
          let w = g.W.Worktree in
          let given = setting_of_shared g.M.Matcher a.shared.now in
          let made = setup_of_optional_stack a.parts.now.excludes.now in
          let asked = c.in_ok-blocked.ensures in
          let before : CountNotIncreased (w.faults a.parts.now.worktree.now) (w.faults c.current_directory_to_protect.new.worktree) = omega (arith, quiet, c.walk_root_within_depth_limit.ensures.walks.ends.worktree.faults) in
          let here : CountNotIncreased (w.faults c.current_directory_to_protect.new.worktree) (w.faults c.walk_root_within_depth_limit.new.parts.worktree.now) = omega (arith, quiet, asked.keeps.faults) in
          let stands = Stands-asked given tells asked.keeps (asked.blocked made s tells.tells.tree_is before) in
          let p = err_from_is_err_and c.from_residual-in_err-handed.result c.from_residual-in_err-handed.ensures.1 in
          rw p.1 (part-out (walk_options_of a.shared.now.options) (walk_result_of_directory_over_sources given made s a.path.now a.class.now) _ _ _ _ (rw c.in_ok-place.ensures at (c.in_err-handed.ensures.told.part made s stands here default)));
      refused = λ s tells quiet default.
          let a = c.args in
          let w = g.W.Worktree in
          let given = setting_of_shared g.M.Matcher a.shared.now in
          let made = setup_of_optional_stack a.parts.now.excludes.now in
          let asked = c.in_ok-blocked.ensures in
          let before : CountNotIncreased (w.faults a.parts.now.worktree.now) (w.faults c.current_directory_to_protect.new.worktree) = omega (arith, quiet, c.walk_root_within_depth_limit.ensures.walks.ends.worktree.faults) in
          let Failed = CountIncreasedOrSaturated (w.faults c.current_directory_to_protect.new.worktree) (w.faults c.walk_root_within_depth_limit.new.parts.worktree.now) in
          let stands = Stands-asked given tells asked.keeps (asked.blocked made s tells.tells.tree_is before) in
          let p = err_from_is_err_and c.from_residual-in_err-handed.result c.from_residual-in_err-handed.ensures.1 in
          rw (p.1, p.2)
          (refused-any (IsErrorOfEnteredDirectory given made s a.depth_limit Failed a.path.now a.class.now) (IsErrorOfEnteredDirectory given made s a.depth_limit ⊥ a.path.now a.class.now)
          (λ e. DirectoryRefuses-weaker given made s a.depth_limit Failed ⊥ a.path.now a.class.now e (λ rose. let k = asked.keeps.faults in omega (arith, quiet, rose, k))) c.in_err-handed.field-0.0
          (rw c.in_ok-place.ensures at (c.in_err-handed.ensures.told.refused made s stands default)));
    }

pub returns-in_err-handed-clause-caused : goal.returns-in_err-handed-clause-caused
returns-in_err-handed-clause-caused g c =
    record {
      about =
          let p = err_from_is_err_and c.from_residual-in_err-handed.result c.from_residual-in_err-handed.ensures.1 in
          rw (p.1, p.2) (rw c.in_ok-place.ensures at c.in_err-handed.ensures.walks.about);
      found = λ s told.
          let p = err_from_is_err_and c.from_residual-in_err-handed.result c.from_residual-in_err-handed.ensures.1 in
          rw (p.1, p.2) (c.in_err-handed.ensures.walks.found s (c.in_ok-blocked.ensures.keeps.tree ∙ told));
    }

pub returns-in_err-handed-clause-opens : goal.returns-in_err-handed-clause-opens
returns-in_err-handed-clause-opens g c =
    let asked = c.in_ok-blocked.ensures in
    let p = err_from_is_err_and c.from_residual-in_err-handed.result c.from_residual-in_err-handed.ensures.1 in
    let a = c.args in
    let w = g.W.Worktree in
    let given = setting_of_shared g.M.Matcher a.shared.now in
    rw (p.1, p.2)
    (opens-around c.args.strategy _ _ _ _ _ _ _ _ _ _ _ _ _ _ _ _ _ _
    (λ n few s tells default quiet.
    let made = setup_of_optional_stack a.parts.now.excludes.now in
    let before : CountNotIncreased (w.faults a.parts.now.worktree.now) (w.faults c.current_directory_to_protect.new.worktree) = omega (arith, quiet, c.walk_root_within_depth_limit.ensures.walks.ends.worktree.faults) in
    let here : CountNotIncreased (w.faults c.current_directory_to_protect.new.worktree) (w.faults c.walk_root_within_depth_limit.new.parts.worktree.now) = omega (arith, quiet, asked.keeps.faults) in
    let stands = Stands-asked given tells asked.keeps (asked.blocked made s tells.tells.tree_is before) in
    let most = few made s stands here default in omega (arith, most, unlisted-same Handed (Unit {0}) c.in_err-handed.field-0.0))
    asked.keeps.lists asked.reads refl (refused-same Handed (Unit {0}) c.in_err-handed.field-0.0) (deep-same Handed (Unit {0}) c.in_err-handed.field-0.0) (rw c.in_ok-place.ensures at c.in_err-handed.ensures.opens))

pub returns-in_err-handed-clause-unmapped : goal.returns-in_err-handed-clause-unmapped
returns-in_err-handed-clause-unmapped g c = c.walk_root_within_depth_limit.ensures.unmapped

pub returns-in_err-handed-clause-leaves : goal.returns-in_err-handed-clause-leaves
returns-in_err-handed-clause-leaves g c =
    record {
      puts = rw c.in_ok-place.ensures at c.in_err-handed.ensures.walks.hands.puts;
      filtered = c.walk_root_within_depth_limit.ensures.walks.filtered;
      ends =
          let w = g.W.Worktree in
          let f = g.F.Find in
          let i = g.I.Interrupt in
          let d = g.D.Delegate in
          let p = err_from_is_err_and c.from_residual-in_err-handed.result c.from_residual-in_err-handed.ensures.1 in
          let stop = c.in_err-handed.field-0.0 in
          rw (p.1, p.2) (Ends-err w f i d stop (Ends-after w f i d (Err stop) (Before-asked c.in_ok-blocked.ensures.keeps) c.in_err-handed.ensures.walks.ends));
    }

-- ---- what is handed up is put out

pub returns-clause-told : goal.returns-clause-told
returns-clause-told g c =
    record {
      gives = λ s tells quiet default.
          let a = c.args in
          let w = g.W.Worktree in
          let given = setting_of_shared g.M.Matcher a.shared.now in
          let made = setup_of_optional_stack a.parts.now.excludes.now in
          let asked = c.in_ok-blocked.ensures in
          let before : CountNotIncreased (w.faults a.parts.now.worktree.now) (w.faults c.current_directory_to_protect.new.worktree) = omega (arith, quiet, c.walk_root_within_depth_limit.ensures.walks.ends.worktree.faults) in
          let here : CountNotIncreased (w.faults c.current_directory_to_protect.new.worktree) (w.faults c.walk_root_within_depth_limit.new.parts.worktree.now) = omega (arith, quiet, asked.keeps.faults) in
          let stands = Stands-asked given tells asked.keeps (asked.blocked made s tells.tells.tree_is before) in
          on_ok_weaker c.emit_entry_handed_up.result
          (gives-all (walk_options_of a.shared.now.options) (walk_result_of_directory_over_sources given made s a.path.now a.class.now) a.depth_limit (evidence_from_setting_and_sources given made s) c.in_ok-handed.handed _ _ _ a.parts.now.outcome.now c.walk_root_within_depth_limit.new.parts.outcome.now
          (rw c.in_ok-place.ensures at (c.in_ok-handed.ensures.told.gives made s stands here default)) c.emit_entry_handed_up.new.outcome)
          c.emit_entry_handed_up.ensures.gives;
      part = λ s tells quiet default.
          let a = c.args in
          let w = g.W.Worktree in
          let given = setting_of_shared g.M.Matcher a.shared.now in
          let made = setup_of_optional_stack a.parts.now.excludes.now in
          let asked = c.in_ok-blocked.ensures in
          let before : CountNotIncreased (w.faults a.parts.now.worktree.now) (w.faults c.current_directory_to_protect.new.worktree) = omega (arith, quiet, c.walk_root_within_depth_limit.ensures.walks.ends.worktree.faults) in
          let here : CountNotIncreased (w.faults c.current_directory_to_protect.new.worktree) (w.faults c.walk_root_within_depth_limit.new.parts.worktree.now) = omega (arith, quiet, asked.keeps.faults) in
          let stands = Stands-asked given tells asked.keeps (asked.blocked made s tells.tells.tree_is before) in
          on_err_weaker c.emit_entry_handed_up.result
          (part-all (walk_options_of a.shared.now.options) (walk_result_of_directory_over_sources given made s a.path.now a.class.now) a.depth_limit (evidence_from_setting_and_sources given made s) c.in_ok-handed.handed _ _ _ a.parts.now.outcome.now c.walk_root_within_depth_limit.new.parts.outcome.now
          (rw c.in_ok-place.ensures at (c.in_ok-handed.ensures.told.gives made s stands here default)) c.emit_entry_handed_up.new.outcome)
          c.emit_entry_handed_up.ensures.part;
      refused = λ s tells quiet default. memory-only c.emit_entry_handed_up.result _ (inl tt) c.emit_entry_handed_up.ensures.memory;
    }

pub returns-clause-caused : goal.returns-clause-caused
returns-clause-caused g c =
    record {
      about = memory-only c.emit_entry_handed_up.result _ (inl tt) c.emit_entry_handed_up.ensures.memory;
      found = λ s told. memory-only c.emit_entry_handed_up.result _ tt c.emit_entry_handed_up.ensures.memory;
    }

pub returns-clause-opens : goal.returns-clause-opens
returns-clause-opens g c =
    let asked = c.in_ok-blocked.ensures in
    let a = c.args in
    let w = g.W.Worktree in
    let given = setting_of_shared g.M.Matcher a.shared.now in
    opens-around c.args.strategy _ _ _ _ _ _ _ _ _ _ _ _ _ _ _ _ _ _
    (λ n few s tells default quiet.
    let made = setup_of_optional_stack a.parts.now.excludes.now in
    let before : CountNotIncreased (w.faults a.parts.now.worktree.now) (w.faults c.current_directory_to_protect.new.worktree) = omega (arith, quiet, c.walk_root_within_depth_limit.ensures.walks.ends.worktree.faults) in
    let here : CountNotIncreased (w.faults c.current_directory_to_protect.new.worktree) (w.faults c.walk_root_within_depth_limit.new.parts.worktree.now) = omega (arith, quiet, asked.keeps.faults) in
    let stands = Stands-asked given tells asked.keeps (asked.blocked made s tells.tells.tree_is before) in
    let most = few made s stands here default in omega (arith, most))
    asked.keeps.lists asked.reads c.emit_entry_handed_up.ensures.entered (omega arith) (omega (arith, shallow-memory c.emit_entry_handed_up.result c.emit_entry_handed_up.ensures.memory)) (rw c.in_ok-place.ensures at c.in_ok-handed.ensures.opens)

pub returns-clause-unmapped : goal.returns-clause-unmapped
returns-clause-unmapped g c = c.walk_root_within_depth_limit.ensures.unmapped

pub returns-clause-leaves : goal.returns-clause-leaves
returns-clause-leaves g c =
    record {
      puts = Puts-out (option_to_list c.in_ok-handed.handed.entry) (rw c.in_ok-place.ensures at c.in_ok-handed.ensures.walks.hands.puts) c.emit_entry_handed_up.ensures.puts;
      filtered = c.emit_entry_handed_up.ensures.filtered ∙ c.walk_root_within_depth_limit.ensures.walks.filtered;
      ends =
          let w = g.W.Worktree in
          let f = g.F.Find in
          let i = g.I.Interrupt in
          let d = g.D.Delegate in
          let told = c.emit_entry_handed_up.ensures in
          Ends-then w f i d c.in_ok-handed.handed c.emit_entry_handed_up.result (Ends-after w f i d _ (Before-asked c.in_ok-blocked.ensures.keeps) c.in_ok-handed.ensures.walks.ends) told.delegate told.heeds told.memory;
    }
