use Rattle.std.proofs.Common.{◌≡◌, ◌∙◌, ap, sym, List, ℕ, ◌∷◌, [], None, subst}
use Rattle.std.proofs.lemmas.Result.{on_err_weaker, on_ok_weaker}
use Rattle.dir_classify.specs.declared.entry.Entry.{Entry}
use Rattle.dir_classify.specs.Chosen.{walk_options_of}
use Rattle.dir_classify.specs.Entries.{entry_with_outcome}
use Rattle.dir_walk.specs.Emissions.{emission_with_fold_status}
use Rattle.dir_walk.specs.Emits.{AddsEmissionsAndCounts, AddsAtMostEmissionsAndSeen, count_shown_passing}
use Rattle.dir_walk.specs.Starts.{IsNonDirectoryRootError}
use Rattle.dir_walk.specs.WalkRefused.{HoldsIfNothingStarted}
use Rattle.dir_walk.proofs.Refused.Refusals.{memory-only}
use Rattle.dir_walk.proofs.start.emit_unentered_root_entry.Goals as goal

pub returns-clause-puts : goal.returns-clause-puts
returns-clause-puts g c =
    let a = c.args in
    let o = walk_options_of a.shared.now.options in
    let told = g.D.Delegate.given in
    let there = sym c.is_worktree_root_non_directory.ensures ∙ c.if-is_worktree_root_non_directory.false in
    let same = c.entry_ref_with_outcome.ensures ∙ ap (λ (p : List ℕ). entry_with_outcome p a.reached.now.outcome) c.as_bytes.ensures in
    record {
      there = on_ok_weaker c.emit.result (λ e. there) c.emit.ensures.gives;
      gives =
          on_ok_weaker c.emit.result (λ e. subst (λ (x : Entry). AddsEmissionsAndCounts (told a.delegate.now) (told c.emit.new.delegate) a.outcome.now c.emit.new.outcome (λ p. count_shown_passing o p (emission_with_fold_status x None ∷ [])) 1 0) same e)
          c.emit.ensures.gives;
      part = on_err_weaker c.emit.result (λ e. subst (λ (x : Entry). AddsAtMostEmissionsAndSeen (told a.delegate.now) (told c.emit.new.delegate) a.outcome.now c.emit.new.outcome (λ p. count_shown_passing o p (emission_with_fold_status x None ∷ [])) 1) same e) c.emit.ensures.part;
      unfed = memory-only c.emit.result (HoldsIfNothingStarted (told c.emit.new.delegate ≡ told a.delegate.now)) tt c.emit.ensures.memory;
      refused = memory-only c.emit.result (IsNonDirectoryRootError a.shared.now.worktree_root.now a.root.now a.reached.now) tt c.emit.ensures.memory;
    }
