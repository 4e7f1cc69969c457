-- From the way to the traversal root on: the way is refused, or the root is entered, or one entry is put out. What was asked before
-- raises no count that an end names, and leaves told what was told.
use Rattle.std.proofs.Common.{◌≡◌, ◌∙◌, ap, inl, refl, rules, sym, arith, ℕ, List, [], Option, Bool, true, false, subst}
use Rattle.std.proofs.lemmas.Result.{IfErr-weaker, err_from_is_err_and, on_err_weaker, on_ok_weaker}
use Rattle.worktree_fs.specs.Causes.{CountIncreasedOrSaturated, CountNotIncreased}
use Rattle.dir_classify.specs.Chosen.{walk_options_of}
use Rattle.dir_classify.specs.Excludes.{setup_of_optional_stack}
use Rattle.dir_classify.specs.Layers.{setting_of_shared, evidence_from_setting_and_sources}
use Rattle.dir_classify.specs.Rooted.{reached_of_root_outcome, end_of_way_to_root}
use Rattle.dir_walk.specs.Given.{CountsRecursionRefusal, HoldsOfErrorIfRefused}
use Rattle.dir_walk.specs.Refused.{IsErrorOfEnteredDirectory, IsWalkErrorFromRoot}
use Rattle.dir_walk.specs.Root.{enters_traversal_root}
use Rattle.dir_walk.specs.Starts.{IsNonDirectoryRootError}
use Rattle.dir_walk.specs.WalkRefused.{IsUnenteredNonDirectoryRoot, HoldsIfRootIsFileError, HoldsIfNothingStarted, IsErrorFromRootBySources, default_and_refusal_counts_of_delegate}
use Rattle.dir_walk.specs.Unopened.{count_unlisted_in_walk}
use Rattle.dir_walk.specs.Walked.{WalkResult}
use Rattle.dir_walk.specs.Walks.{most_opened_in_walk_result}
use Rattle.gitbase_core.specs.Path.{is_empty}
use Rattle.dir_walk.proofs.Walked.CallByCall.{Before-asked, Before-classed, Before-then, Ends-after, Ends-asked, Tells-later}
use Rattle.dir_walk.proofs.Gives.Emitting.{Within-none}
use Rattle.dir_walk.proofs.Opens.FromRoot.{asks-from, opens-entered, opens-short}
use Rattle.dir_walk.proofs.Folding.Hiding.{AddsShown-same}
use Rattle.dir_walk.proofs.Opens.Keeping.{unmapped-then}
use Rattle.dir_walk.proofs.Refused.Refusals.{refused-any}
use Rattle.dir_walk.proofs.Roots.Started.{gives-entered, gives-put, no-node, no-root, part-entered, part-only, refuses-entered, walked-entered}
use Rattle.dir_walk.proofs.Roots.Starting.{bare}
use Rattle.dir_walk.proofs.Roots.Unstarted.{no-start-from, no-start-weaker, on-no-start}
use Rattle.dir_walk.proofs.Roots.WayRefused.{only-no_root, only-refuses, way-about, way-found, way-refuses}
use Rattle.dir_walk.proofs.Refused.Shallow.{shallow-put, shallow-way}
use Rattle.dir_walk.proofs.start.walk_from_traversal_root.Goals as goal

-- ---- the way there is refused

pub returns-in_err-reached-clause-told : goal.returns-in_err-reached-clause-told
returns-in_err-reached-clause-told g c =
    record {
      gives = λ s tells quiet default. let p = err_from_is_err_and c.from_residual.result c.from_residual.ensures.1 in rw p.1 tt;
      part = λ s tells quiet default walked walk. let p = err_from_is_err_and c.from_residual.result c.from_residual.ensures.1 in rw p.1 (Within-none _ _ _ _ _ _ refl refl);
      refused = λ s tells quiet default.
          let a = c.args in
          let f = g.F.Find in
          let p = err_from_is_err_and c.from_residual.result c.from_residual.ensures.1 in
          let way = c.in_err-reached.ensures in
          rw (p.1, p.2)
          (way-refuses (setting_of_shared g.M.Matcher a.shared.now) (setup_of_optional_stack a.parts.now.excludes.now) s a.root.now a.depth_limit (CountIncreasedOrSaturated (f.faults a.parts.now.objects.now) (f.faults c.classify_way_to_traversal_root.new.objects)) c.in_err-reached.field-0.0
          (way.refused s tells.tells) (way.asked s tells.tells tells.in_step quiet));
    }

pub returns-in_err-reached-clause-unstarted : goal.returns-in_err-reached-clause-unstarted
returns-in_err-reached-clause-unstarted g c =
    let p = err_from_is_err_and c.from_residual.result c.from_residual.ensures.1 in rw (p.1, p.2) (on-no-start (c.in_err-reached.ensures.keeps.lists, refl, refl) c.in_err-reached.field-0.0)

pub returns-in_err-reached-clause-caused : goal.returns-in_err-reached-clause-caused
returns-in_err-reached-clause-caused g c =
    record {
      about =
          let a = c.args in
          let p = err_from_is_err_and c.from_residual.result c.from_residual.ensures.1 in
          rw (p.1, p.2) (way-about (setup_of_optional_stack a.parts.now.excludes.now) a.shared.now.worktree_root.now a.root.now a.depth_limit c.in_err-reached.field-0.0 c.requires.root c.in_err-reached.ensures.about);
      found = λ s told.
          let a = c.args in
          let p = err_from_is_err_and c.from_residual.result c.from_residual.ensures.1 in
          let way = c.in_err-reached.ensures in
          rw (p.1, p.2)
          (way-found a.shared.now.worktree_root.now (g.F.Find.holds a.parts.now.objects.now) s (setup_of_optional_stack a.parts.now.excludes.now) a.root.now c.in_err-reached.field-0.0 c.requires.root way.about
          (λ some. way.refused s (record { tree_is = told; objects_are = some })));
    }

pub returns-in_err-reached-clause-opens : goal.returns-in_err-reached-clause-opens
returns-in_err-reached-clause-opens g c =
    let p = err_from_is_err_and c.from_residual.result c.from_residual.ensures.1 in
    rw (p.1, p.2) (opens-short c.classify_way_to_traversal_root.new.worktree c.args.strategy c.in_err-reached.ensures.reads (λ s tells default quiet. omega arith) _ (shallow-way (setup_of_optional_stack c.args.parts.now.excludes.now) c.args.root.now c.in_err-reached.field-0.0 c.in_err-reached.ensures.about) c.in_err-reached.ensures.keeps.lists refl refl (omega arith))

pub returns-in_err-reached-clause-unmapped : goal.returns-in_err-reached-clause-unmapped
returns-in_err-reached-clause-unmapped g c = λ held. c.in_err-reached.ensures.unmapped

-- ---- there is no room for the question whether it is entered

pub returns-in_err-enters_traversal_root-clause-told : goal.returns-in_err-enters_traversal_root-clause-told
returns-in_err-enters_traversal_root-clause-told g c =
    record {
      gives = λ s tells quiet default. let p = err_from_is_err_and c.from_residual-in_err-enters_traversal_root.result c.from_residual-in_err-enters_traversal_root.ensures.1 in rw p.1 tt;
      part = λ s tells quiet default walked walk.
          let p = err_from_is_err_and c.from_residual-in_err-enters_traversal_root.result c.from_residual-in_err-enters_traversal_root.ensures.1 in
          rw p.1 (Within-none _ _ _ _ _ _ c.in_err-enters_traversal_root.ensures.given refl);
      refused = search rules;
    }

pub returns-in_err-enters_traversal_root-clause-opens : goal.returns-in_err-enters_traversal_root-clause-opens
returns-in_err-enters_traversal_root-clause-opens g c =
    let way = c.in_ok-reached.ensures in
    let asked = c.in_err-enters_traversal_root.ensures in
    let p = err_from_is_err_and c.from_residual-in_err-enters_traversal_root.result c.from_residual-in_err-enters_traversal_root.ensures.1 in
    rw (p.1, p.2)
    (opens-short c.classify_way_to_traversal_root.new.worktree c.args.strategy (asks-from way.prefix way.reads) (λ s tells default quiet. omega arith) _ refl (asked.keeps.lists ∙ way.keeps.lists) asked.reads refl (omega arith))

pub returns-in_err-enters_traversal_root-clause-unmapped : goal.returns-in_err-enters_traversal_root-clause-unmapped
returns-in_err-enters_traversal_root-clause-unmapped g c = λ held. c.in_ok-reached.ensures.unmapped

pub returns-in_err-enters_traversal_root-clause-leaves : goal.returns-in_err-enters_traversal_root-clause-leaves
returns-in_err-enters_traversal_root-clause-leaves g c =
    record {
      puts = search rules;
      filtered = AddsShown-same (walk_options_of c.args.shared.now.options) c.in_err-enters_traversal_root.ensures.given;
      ends = search rules;
    }

-- ---- it is entered

pub returns-then-branch-clause-told : goal.returns-then-branch-clause-told
returns-then-branch-clause-told g c =
    record {
      gives = λ s tells quiet default.
          let a = c.args in
          let w = g.W.Worktree in
          let given = setting_of_shared g.M.Matcher a.shared.now in
          let made = setup_of_optional_stack a.parts.now.excludes.now in
          let way = c.in_ok-reached.ensures in
          let r = c.in_ok-reached.reached in
          let asked = c.in_ok-enters_traversal_root.ensures in
          let ends = c.walk_entered_traversal_root.ensures.leaves.ends in
          let first : CountNotIncreased (w.faults a.parts.now.worktree.now) (w.faults c.classify_way_to_traversal_root.new.worktree) = omega (arith, quiet, asked.keeps.faults, ends.worktree.faults) in
          let second : CountNotIncreased (w.faults c.classify_way_to_traversal_root.new.worktree) (w.faults c.enters_traversal_root.new.worktree) = omega (arith, quiet, way.keeps.faults, ends.worktree.faults) in
          let third : CountNotIncreased (w.faults c.enters_traversal_root.new.worktree) (w.faults c.walk_entered_traversal_root.new.parts.worktree.now) = omega (arith, quiet, way.keeps.faults, asked.keeps.faults) in
          let is = way.reached s tells.tells tells.in_step first in
          let into : enters_traversal_root given.options (evidence_from_setting_and_sources given made s) (reached_of_root_outcome r false) ≡ true = sym (asked.entered made s (way.keeps.tree ∙ tells.tells.tree_is) second default) ∙ c.if-branch.true in
          let here = Tells-later (Before-then (Before-classed way.keeps way.store way.rules) (Before-asked asked.keeps)) tells in
          on_ok_weaker c.walk_entered_traversal_root.result (gives-entered given made s a.root.now c.requires.root r is into a.depth_limit _ _ _ _)
          (rw (way.rules.made, asked.given) at (c.walk_entered_traversal_root.ensures.told.gives s here third (asked.delegate.default ∙ default)));
      part = λ s tells quiet default walked walk.
          let a = c.args in
          let w = g.W.Worktree in
          let given = setting_of_shared g.M.Matcher a.shared.now in
          let made = setup_of_optional_stack a.parts.now.excludes.now in
          let way = c.in_ok-reached.ensures in
          let r = c.in_ok-reached.reached in
          let asked = c.in_ok-enters_traversal_root.ensures in
          let ends = c.walk_entered_traversal_root.ensures.leaves.ends in
          let first : CountNotIncreased (w.faults a.parts.now.worktree.now) (w.faults c.classify_way_to_traversal_root.new.worktree) = omega (arith, quiet, asked.keeps.faults, ends.worktree.faults) in
          let second : CountNotIncreased (w.faults c.classify_way_to_traversal_root.new.worktree) (w.faults c.enters_traversal_root.new.worktree) = omega (arith, quiet, way.keeps.faults, ends.worktree.faults) in
          let third : CountNotIncreased (w.faults c.enters_traversal_root.new.worktree) (w.faults c.walk_entered_traversal_root.new.parts.worktree.now) = omega (arith, quiet, way.keeps.faults, asked.keeps.faults) in
          let is = way.reached s tells.tells tells.in_step first in
          let into : enters_traversal_root given.options (evidence_from_setting_and_sources given made s) (reached_of_root_outcome r false) ≡ true = sym (asked.entered made s (way.keeps.tree ∙ tells.tells.tree_is) second default) ∙ c.if-branch.true in
          let here = Tells-later (Before-then (Before-classed way.keeps way.store way.rules) (Before-asked asked.keeps)) tells in
          on_err_weaker c.walk_entered_traversal_root.result (part-entered given made s a.root.now c.requires.root r is into walked _ _ _ _ walk)
          (rw (way.rules.made, asked.given) at (c.walk_entered_traversal_root.ensures.told.part s here third (asked.delegate.default ∙ default)));
      refused = λ s tells quiet default.
          let a = c.args in
          let w = g.W.Worktree in
          let given = setting_of_shared g.M.Matcher a.shared.now in
          let made = setup_of_optional_stack a.parts.now.excludes.now in
          let way = c.in_ok-reached.ensures in
          let r = c.in_ok-reached.reached in
          let asked = c.in_ok-enters_traversal_root.ensures in
          let ends = c.walk_entered_traversal_root.ensures.leaves.ends in
          let first : CountNotIncreased (w.faults a.parts.now.worktree.now) (w.faults c.classify_way_to_traversal_root.new.worktree) = omega (arith, quiet, asked.keeps.faults, ends.worktree.faults) in
          let second : CountNotIncreased (w.faults c.classify_way_to_traversal_root.new.worktree) (w.faults c.enters_traversal_root.new.worktree) = omega (arith, quiet, way.keeps.faults, ends.worktree.faults) in
          let third : CountNotIncreased (w.faults c.enters_traversal_root.new.worktree) (w.faults c.walk_entered_traversal_root.new.parts.worktree.now) = omega (arith, quiet, way.keeps.faults, asked.keeps.faults) in
          let is = way.reached s tells.tells tells.in_step first in
          let into : enters_traversal_root given.options (evidence_from_setting_and_sources given made s) (reached_of_root_outcome r false) ≡ true = sym (asked.entered made s (way.keeps.tree ∙ tells.tells.tree_is) second default) ∙ c.if-branch.true in
          let here = Tells-later (Before-then (Before-classed way.keeps way.store way.rules) (Before-asked asked.keeps)) tells in
          let stored : Type 0 = CountIncreasedOrSaturated (g.F.Find.faults a.parts.now.objects.now) (g.F.Find.faults c.walk_entered_traversal_root.new.parts.objects.now) in
          IfErr-weaker c.walk_entered_traversal_root.result (HoldsOfErrorIfRefused (IsErrorOfEnteredDirectory given made s a.depth_limit ⊥ a.root.now r.outcome)) (HoldsOfErrorIfRefused (IsErrorFromRootBySources given made s a.root.now a.depth_limit stored))
          (refused-any (IsErrorOfEnteredDirectory given made s a.depth_limit ⊥ a.root.now r.outcome) (IsErrorFromRootBySources given made s a.root.now a.depth_limit stored)
          (refuses-entered given made s a.root.now c.requires.root r is into a.depth_limit stored))
          (rw way.rules.made at (c.walk_entered_traversal_root.ensures.told.refused s here third (asked.delegate.default ∙ default)));
    }

pub returns-then-branch-clause-unstarted : goal.returns-then-branch-clause-unstarted
returns-then-branch-clause-unstarted g c =
    let a = c.args in
    let way = c.in_ok-reached.ensures in
    let made = setup_of_optional_stack a.parts.now.excludes.now in
    let top = a.shared.now.worktree_root.now in
    let told = g.D.Delegate.given in
    let lists = g.W.Worktree.lists in
    let Same : Type 0 = (lists c.walk_entered_traversal_root.new.parts.worktree.now ≡ lists a.parts.now.worktree.now) × (c.walk_entered_traversal_root.new.parts.interrupt.now ≡ a.parts.now.interrupt.now) × (told c.walk_entered_traversal_root.new.parts.delegate.now ≡ told a.parts.now.delegate.now) in
    let From = IsWalkErrorFromRoot made top a.root.now a.depth_limit in
    IfErr-weaker c.walk_entered_traversal_root.result (HoldsOfErrorIfRefused From) (HoldsOfErrorIfRefused (HoldsIfNothingStarted Same)) (refused-any From (HoldsIfNothingStarted Same) (no-start-from Same made top a.root.now a.depth_limit))
    (rw way.rules.made at c.walk_entered_traversal_root.ensures.caused.about)

pub returns-then-branch-clause-opens : goal.returns-then-branch-clause-opens
returns-then-branch-clause-opens g c =
    let way = c.in_ok-reached.ensures in
    let asked = c.in_ok-enters_traversal_root.ensures in
    let a = c.args in
    let w = g.W.Worktree in
    let given = setting_of_shared g.M.Matcher a.shared.now in
    let made = setup_of_optional_stack a.parts.now.excludes.now in
    let r = c.in_ok-reached.reached in
    let ends = c.walk_entered_traversal_root.ensures.leaves.ends in
    opens-entered c.classify_way_to_traversal_root.new.worktree c.enters_traversal_root.new.worktree c.args.strategy (asks-from way.prefix way.reads) c.walk_entered_traversal_root.new.parts.excludes.now c.walk_entered_traversal_root.result
    (λ n few s tells default quiet.
    let first : CountNotIncreased (w.faults a.parts.now.worktree.now) (w.faults c.classify_way_to_traversal_root.new.worktree) = omega (arith, quiet, asked.keeps.faults, ends.worktree.faults) in
    let second : CountNotIncreased (w.faults c.classify_way_to_traversal_root.new.worktree) (w.faults c.enters_traversal_root.new.worktree) = omega (arith, quiet, way.keeps.faults, ends.worktree.faults) in
    let third : CountNotIncreased (w.faults c.enters_traversal_root.new.worktree) (w.faults c.walk_entered_traversal_root.new.parts.worktree.now) = omega (arith, quiet, way.keeps.faults, asked.keeps.faults) in
    let is = way.reached s tells.tells tells.in_step first in
    let into : enters_traversal_root given.options (evidence_from_setting_and_sources given made s) (reached_of_root_outcome r false) ≡ true = sym (asked.entered made s (way.keeps.tree ∙ tells.tells.tree_is) second default) ∙ c.if-branch.true in
    let here = Tells-later (Before-then (Before-classed way.keeps way.store way.rules) (Before-asked asked.keeps)) tells in
    let most = rw way.rules.made at (few s here (asked.delegate.default ∙ default) third) in
    let all = ap {B = ℕ} (λ (v : Option WalkResult). most_opened_in_walk_result a.depth_limit v (count_unlisted_in_walk c.walk_entered_traversal_root.result)) (walked-entered given made s a.root.now c.requires.root r is into) in
    omega (arith, most, all))
    way.rules.made (asked.keeps.lists ∙ way.keeps.lists) asked.reads refl c.walk_entered_traversal_root.ensures.opens

pub returns-then-branch-clause-unmapped : goal.returns-then-branch-clause-unmapped
returns-then-branch-clause-unmapped g c =
    λ held. let way = c.in_ok-reached.ensures in unmapped-then c.args.parts.now.excludes.now c.classify_way_to_traversal_root.new.excludes way.rules.made way.unmapped (c.walk_entered_traversal_root.ensures.unmapped held)

pub returns-then-branch-clause-leaves : goal.returns-then-branch-clause-leaves
returns-then-branch-clause-leaves g c =
    record {
      puts = inl (rw c.in_ok-enters_traversal_root.ensures.given at c.walk_entered_traversal_root.ensures.leaves.puts);
      filtered = c.walk_entered_traversal_root.ensures.leaves.filtered ∙ AddsShown-same (walk_options_of c.args.shared.now.options) c.in_ok-enters_traversal_root.ensures.given;
      ends =
          let w = g.W.Worktree in
          let f = g.F.Find in
          let i = g.I.Interrupt in
          let d = g.D.Delegate in
          let way = c.in_ok-reached.ensures in
          let asked = c.in_ok-enters_traversal_root.ensures in
          Ends-after w f i d c.walk_entered_traversal_root.result (Before-then (Before-classed way.keeps way.store way.rules) (Before-asked asked.keeps))
          (Ends-asked w f i d c.walk_entered_traversal_root.result asked.delegate asked.breaks c.walk_entered_traversal_root.ensures.leaves.ends);
    }

-- ---- nothing is entered, and its one entry is put out

pub returns-clause-told : goal.returns-clause-told
returns-clause-told g c =
    record {
      gives = λ s tells quiet default.
          let a = c.args in
          let w = g.W.Worktree in
          let given = setting_of_shared g.M.Matcher a.shared.now in
          let made = setup_of_optional_stack a.parts.now.excludes.now in
          let way = c.in_ok-reached.ensures in
          let r = c.in_ok-reached.reached in
          let asked = c.in_ok-enters_traversal_root.ensures in
          let first : CountNotIncreased (w.faults a.parts.now.worktree.now) (w.faults c.classify_way_to_traversal_root.new.worktree) = omega (arith, quiet, asked.keeps.faults) in
          let second : CountNotIncreased (w.faults c.classify_way_to_traversal_root.new.worktree) (w.faults c.enters_traversal_root.new.worktree) = omega (arith, quiet, way.keeps.faults) in
          let is = way.reached s tells.tells tells.in_step first in
          let out : enters_traversal_root given.options (evidence_from_setting_and_sources given made s) (reached_of_root_outcome r false) ≡ false = sym (asked.entered made s (way.keeps.tree ∙ tells.tells.tree_is) second default) ∙ c.if-branch.false in
          rw asked.given at
          (gives-put given made s a.root.now c.requires.root r is out g.D.Delegate a.depth_limit a.shared.now.worktree_root.now c.enters_traversal_root.new.delegate c.emit_unentered_root_entry.new.delegate a.parts.now.outcome.now c.emit_unentered_root_entry.new.outcome c.emit_unentered_root_entry.result c.emit_unentered_root_entry.ensures.puts);
      part = λ s tells quiet default walked walk.
          let a = c.args in
          let w = g.W.Worktree in
          let given = setting_of_shared g.M.Matcher a.shared.now in
          let made = setup_of_optional_stack a.parts.now.excludes.now in
          let way = c.in_ok-reached.ensures in
          let r = c.in_ok-reached.reached in
          let asked = c.in_ok-enters_traversal_root.ensures in
          let told = g.D.Delegate.given in
          let first : CountNotIncreased (w.faults a.parts.now.worktree.now) (w.faults c.classify_way_to_traversal_root.new.worktree) = omega (arith, quiet, asked.keeps.faults) in
          let second : CountNotIncreased (w.faults c.classify_way_to_traversal_root.new.worktree) (w.faults c.enters_traversal_root.new.worktree) = omega (arith, quiet, way.keeps.faults) in
          let is = way.reached s tells.tells tells.in_step first in
          let out : enters_traversal_root given.options (evidence_from_setting_and_sources given made s) (reached_of_root_outcome r false) ≡ false = sym (asked.entered made s (way.keeps.tree ∙ tells.tells.tree_is) second default) ∙ c.if-branch.false in
          rw asked.given at
          (on_err_weaker c.emit_unentered_root_entry.result (part-only given made s a.root.now c.requires.root r is out walked (told c.enters_traversal_root.new.delegate) (told c.emit_unentered_root_entry.new.delegate) a.parts.now.outcome.now c.emit_unentered_root_entry.new.outcome walk) c.emit_unentered_root_entry.ensures.puts.part);
      refused = λ s tells quiet default.
          let a = c.args in
          let w = g.W.Worktree in
          let given = setting_of_shared g.M.Matcher a.shared.now in
          let made = setup_of_optional_stack a.parts.now.excludes.now in
          let way = c.in_ok-reached.ensures in
          let r = c.in_ok-reached.reached in
          let asked = c.in_ok-enters_traversal_root.ensures in
          let top = a.shared.now.worktree_root.now in
          let first : CountNotIncreased (w.faults a.parts.now.worktree.now) (w.faults c.classify_way_to_traversal_root.new.worktree) = omega (arith, quiet, asked.keeps.faults) in
          let second : CountNotIncreased (w.faults c.classify_way_to_traversal_root.new.worktree) (w.faults c.enters_traversal_root.new.worktree) = omega (arith, quiet, way.keeps.faults) in
          let is = way.reached s tells.tells tells.in_step first in
          let out : enters_traversal_root given.options (evidence_from_setting_and_sources given made s) (reached_of_root_outcome r false) ≡ false = sym (asked.entered made s (way.keeps.tree ∙ tells.tells.tree_is) second default) ∙ c.if-branch.false in
          let stored : Type 0 = CountIncreasedOrSaturated (g.F.Find.faults a.parts.now.objects.now) (g.F.Find.faults c.classify_way_to_traversal_root.new.objects) in
          IfErr-weaker c.emit_unentered_root_entry.result (HoldsOfErrorIfRefused (IsNonDirectoryRootError top a.root.now r)) (HoldsOfErrorIfRefused (IsErrorFromRootBySources given made s a.root.now a.depth_limit stored))
          (refused-any (IsNonDirectoryRootError top a.root.now r) (IsErrorFromRootBySources given made s a.root.now a.depth_limit stored) (λ e. only-refuses given made s top a.root.now a.depth_limit stored r e (no-root given made s a.root.now c.requires.root r is out)))
          c.emit_unentered_root_entry.ensures.puts.refused;
    }

pub returns-clause-no_root : goal.returns-clause-no_root
returns-clause-no_root g c = λ s told quiet.
    let a = c.args in
    let w = g.W.Worktree in
    let given = setting_of_shared g.M.Matcher a.shared.now in
    let made = setup_of_optional_stack a.parts.now.excludes.now in
    let way = c.in_ok-reached.ensures in
    let r = c.in_ok-reached.reached in
    let top = a.shared.now.worktree_root.now in
    let first : CountNotIncreased (w.faults a.parts.now.worktree.now) (w.faults c.classify_way_to_traversal_root.new.worktree) = (let k = c.in_ok-enters_traversal_root.ensures.keeps.faults in omega (arith, quiet, k)) in
    let second : CountNotIncreased (w.faults c.classify_way_to_traversal_root.new.worktree) (w.faults c.enters_traversal_root.new.worktree) = omega (arith, quiet, way.keeps.faults) in
    let asked = c.in_ok-enters_traversal_root.ensures in
    let shape = c.requires.root in
    let none : Type 0 = IsUnenteredNonDirectoryRoot given made s (default_and_refusal_counts_of_delegate g.D.Delegate a.parts.now.delegate.now c.emit_unentered_root_entry.new.delegate) in
    let way_is : is_empty a.root.now ≡ true → enters_traversal_root given.options (evidence_from_setting_and_sources given made s) (end_of_way_to_root given made s []) ≡ enters_traversal_root given.options (evidence_from_setting_and_sources given made s) (reached_of_root_outcome r false) =
    λ empty.
    ap (λ (p : List ℕ). enters_traversal_root given.options (evidence_from_setting_and_sources given made s) (end_of_way_to_root given made s p)) (sym (bare a.root.now empty))
    ∙ ap (enters_traversal_root given.options (evidence_from_setting_and_sources given made s)) (sym (way.top (bare a.root.now empty) s told first)) in
    let unentered : is_empty a.root.now ≡ true → g.D.Delegate.is_default a.parts.now.delegate.now ≡ true → enters_traversal_root given.options (evidence_from_setting_and_sources given made s) (end_of_way_to_root given made s []) ≡ false =
    λ empty default.
    way_is empty
    ∙ sym (asked.entered made s (way.keeps.tree ∙ told) second default)
    ∙ c.if-branch.false in
    let answered : is_empty a.root.now ≡ true
    → CountsRecursionRefusal (enters_traversal_root given.options (evidence_from_setting_and_sources given made s) (end_of_way_to_root given made s [])) false (g.D.Delegate.refusals a.parts.now.delegate.now) (g.D.Delegate.refusals c.emit_unentered_root_entry.new.delegate) =
    λ empty.
    let r0 = g.D.Delegate.refusals a.parts.now.delegate.now in
    let r1 = g.D.Delegate.refusals c.enters_traversal_root.new.delegate in
    let shut = subst (λ (b : Bool). CountsRecursionRefusal (enters_traversal_root given.options (evidence_from_setting_and_sources given made s) (reached_of_root_outcome r false)) b r0 r1) c.if-branch.false (asked.answered made s (way.keeps.tree ∙ told) second) in
    subst (λ (n : ℕ). CountsRecursionRefusal (enters_traversal_root given.options (evidence_from_setting_and_sources given made s) (end_of_way_to_root given made s [])) false r0 n) (sym c.emit_unentered_root_entry.ensures.refusals)
    (subst (λ (b : Bool). CountsRecursionRefusal b false r0 r1) (sym (way_is empty)) shut) in
    IfErr-weaker c.emit_unentered_root_entry.result (HoldsOfErrorIfRefused (IsNonDirectoryRootError top a.root.now r)) (HoldsOfErrorIfRefused (HoldsIfRootIsFileError none))
    (refused-any (IsNonDirectoryRootError top a.root.now r) (HoldsIfRootIsFileError none) (λ e. only-no_root none top a.root.now r e
    (λ empty holds. record { node = no-node given made s a.root.now shape r (way.top (bare a.root.now empty) s told first) empty holds; unentered = unentered empty; answered = answered empty })))
    c.emit_unentered_root_entry.ensures.puts.refused

pub returns-clause-unstarted : goal.returns-clause-unstarted
returns-clause-unstarted g c =
    let a = c.args in
    let way = c.in_ok-reached.ensures in
    let asked = c.in_ok-enters_traversal_root.ensures in
    let told = g.D.Delegate.given in
    let lists = g.W.Worktree.lists in
    let Unfed : Type 0 = told c.emit_unentered_root_entry.new.delegate ≡ told c.enters_traversal_root.new.delegate in
    let Same : Type 0 = (lists c.enters_traversal_root.new.worktree ≡ lists a.parts.now.worktree.now) × (a.parts.now.interrupt.now ≡ a.parts.now.interrupt.now) × (told c.emit_unentered_root_entry.new.delegate ≡ told a.parts.now.delegate.now) in
    IfErr-weaker c.emit_unentered_root_entry.result (HoldsOfErrorIfRefused (HoldsIfNothingStarted Unfed)) (HoldsOfErrorIfRefused (HoldsIfNothingStarted Same)) (refused-any (HoldsIfNothingStarted Unfed) (HoldsIfNothingStarted Same) (no-start-weaker (λ unfed. (asked.keeps.lists ∙ way.keeps.lists, refl, unfed ∙ asked.given))))
    c.emit_unentered_root_entry.ensures.puts.unfed

pub returns-clause-opens : goal.returns-clause-opens
returns-clause-opens g c =
    let way = c.in_ok-reached.ensures in
    let asked = c.in_ok-enters_traversal_root.ensures in
    opens-short c.classify_way_to_traversal_root.new.worktree c.args.strategy (asks-from way.prefix way.reads) (λ s tells default quiet. omega arith) c.emit_unentered_root_entry.result (shallow-put c.args.shared.now.worktree_root.now c.args.root.now c.in_ok-reached.reached c.emit_unentered_root_entry.result c.emit_unentered_root_entry.ensures.puts.refused) (asked.keeps.lists ∙ way.keeps.lists) asked.reads c.emit_unentered_root_entry.ensures.entered (omega arith)

pub returns-clause-unmapped : goal.returns-clause-unmapped
returns-clause-unmapped g c = λ held. c.in_ok-reached.ensures.unmapped

pub returns-clause-leaves : goal.returns-clause-leaves
returns-clause-leaves g c =
    record {
      puts = search rules;
      filtered = c.emit_unentered_root_entry.ensures.filtered ∙ AddsShown-same (walk_options_of c.args.shared.now.options) c.in_ok-enters_traversal_root.ensures.given;
      ends = search rules;
    }
