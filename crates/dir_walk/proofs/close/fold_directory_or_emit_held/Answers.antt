use Rattle.std.proofs.Common.{◌≡◌, Some, None, length, refl, ap, sym, subst, ◌∙◌}
use Rattle.std.proofs.lemmas.Result.{err_from_is_err_and}
use Rattle.std.specs.Prelude.{option_map}
use Rattle.dir_classify.specs.declared.entry.Entry.{Entry}
use Rattle.dir_classify.specs.Chosen.{walk_options_of}
use Rattle.dir_classify.specs.Entries.{entry_with_outcome}
use Rattle.dir_walk.specs.Emits.{AddsEmissionsAndCounts, AddsAtMostEmissionsAndSeen, folded_entry_unless_blocked, count_held_emitted_collapsed}
use Rattle.dir_walk.specs.Walked.{walk_result_holding_entries}
use Rattle.dir_walk.proofs.Folding.Closes.{closes-none, closes-some, part-none, part-some}
use Rattle.dir_walk.proofs.Places.Rooms.{Hands-put, Hands-fold}
use Rattle.dir_walk.proofs.close.fold_directory_or_emit_held.Goals as goal

pub returns-in-None-clause-gives : goal.returns-in-None-clause-gives
returns-in-None-clause-gives g c = λ ev is.
    let a = c.args in
    let o = walk_options_of a.shared.now.options in
    let none : folded_entry_unless_blocked o ev a.path.now a.class.now (walk_result_holding_entries a.held.entries.items a.held.blocked) ≡ None = sym (c.folded_outcome_unless_blocked.ensures ev is) ∙ ap (option_map (entry_with_outcome a.path.now)) c.in-None.is in
    closes-none o ev a.path.now a.class.now a.held.entries.items a.held.blocked _ _ _ _ none (rw c.deref.ensures.value at c.in_ok-emit_each_held_entry-in-None.ensures.gives)

pub returns-clause-gives : goal.returns-clause-gives
returns-clause-gives g c = λ ev is.
    let a = c.args in
    let o = walk_options_of a.shared.now.options in
    let given = g.D.Delegate.given in
    let items = a.held.entries.items in
    let f : Entry = c.in_ok-entry-in-Some.entry in
    let f-is : f ≡ entry_with_outcome a.path.now c.in-Some.class = c.in_ok-entry-in-Some.ensures ∙ c.entry_ref_with_outcome.ensures in
    let some : folded_entry_unless_blocked o ev a.path.now a.class.now (walk_result_holding_entries items a.held.blocked) ≡ Some f =
    sym (c.folded_outcome_unless_blocked.ensures ev is) ∙ ap (option_map (entry_with_outcome a.path.now)) c.in-Some.is ∙ ap (λ (e : Entry). Some e) (sym f-is) in
    let P : Entry → Type 0 = λ e. AddsEmissionsAndCounts (given a.delegate.now) (given c.emit_collapsed.new.delegate) a.outcome.now c.emit_collapsed.new.outcome (count_held_emitted_collapsed o e.status items) (length items) 0 in
    closes-some o ev a.path.now a.class.now items a.held.blocked _ _ _ _ f some (subst P (sym f-is) (rw c.deref-in-Some.ensures.value at c.in_ok-emit_collapsed-in-Some.ensures.gives))

pub returns-in_err-emit_each_held_entry-in-None-clause-hands : goal.returns-in_err-emit_each_held_entry-in-None-clause-hands
returns-in_err-emit_each_held_entry-in-None-clause-hands g c =
    let p = err_from_is_err_and c.from_residual.result c.from_residual.ensures.1 in
    rw p.1 (Hands-put c.args.path.now c.args.held.entries.items (rw c.deref.ensures.value at c.emit_each_held_entry.ensures.puts) refl)

pub returns-in-None-clause-hands : goal.returns-in-None-clause-hands
returns-in-None-clause-hands g c = Hands-put c.args.path.now c.args.held.entries.items (rw c.deref.ensures.value at c.emit_each_held_entry.ensures.puts) refl

pub returns-in_err-emit_collapsed-in-Some-clause-hands : goal.returns-in_err-emit_collapsed-in-Some-clause-hands
returns-in_err-emit_collapsed-in-Some-clause-hands g c =
    let p = err_from_is_err_and c.from_residual-in_err-emit_collapsed-in-Some.result c.from_residual-in_err-emit_collapsed-in-Some.ensures.1 in
    rw p.1 (Hands-put c.args.path.now c.args.held.entries.items (rw c.deref-in-Some.ensures.value at c.emit_collapsed.ensures.puts) refl)

pub returns-clause-hands : goal.returns-clause-hands
returns-clause-hands g c =
    let f : Entry = c.in_ok-entry-in-Some.entry in
    let path = ap (λ (e : Entry). e.rela_path) (c.in_ok-entry-in-Some.ensures ∙ c.entry_ref_with_outcome.ensures) in
    Hands-fold c.args.path.now c.args.held.entries.items (rw c.deref-in-Some.ensures.value at c.emit_collapsed.ensures.puts) f refl path

pub returns-in_err-emit_each_held_entry-in-None-clause-part : goal.returns-in_err-emit_each_held_entry-in-None-clause-part
returns-in_err-emit_each_held_entry-in-None-clause-part g c = λ ev is.
    let a = c.args in
    let o = walk_options_of a.shared.now.options in
    let none : folded_entry_unless_blocked o ev a.path.now a.class.now (walk_result_holding_entries a.held.entries.items a.held.blocked) ≡ None = sym (c.folded_outcome_unless_blocked.ensures ev is) ∙ ap (option_map (entry_with_outcome a.path.now)) c.in-None.is in
    let p = err_from_is_err_and c.from_residual.result c.from_residual.ensures.1 in
    rw p.1 (part-none o ev a.path.now a.class.now a.held.entries.items a.held.blocked _ _ _ _ none (rw c.deref.ensures.value at c.in_err-emit_each_held_entry-in-None.ensures.part))

pub returns-in_err-emit_collapsed-in-Some-clause-part : goal.returns-in_err-emit_collapsed-in-Some-clause-part
returns-in_err-emit_collapsed-in-Some-clause-part g c = λ ev is.
    let a = c.args in
    let o = walk_options_of a.shared.now.options in
    let given = g.D.Delegate.given in
    let items = a.held.entries.items in
    let f : Entry = c.in_ok-entry-in-Some.entry in
    let f-is : f ≡ entry_with_outcome a.path.now c.in-Some.class = c.in_ok-entry-in-Some.ensures ∙ c.entry_ref_with_outcome.ensures in
    let some : folded_entry_unless_blocked o ev a.path.now a.class.now (walk_result_holding_entries items a.held.blocked) ≡ Some f =
    sym (c.folded_outcome_unless_blocked.ensures ev is) ∙ ap (option_map (entry_with_outcome a.path.now)) c.in-Some.is ∙ ap (λ (e : Entry). Some e) (sym f-is) in
    let P : Entry → Type 0 = λ e. AddsAtMostEmissionsAndSeen (given a.delegate.now) (given c.emit_collapsed.new.delegate) a.outcome.now c.emit_collapsed.new.outcome (count_held_emitted_collapsed o e.status items) (length items) in
    let p = err_from_is_err_and c.from_residual-in_err-emit_collapsed-in-Some.result c.from_residual-in_err-emit_collapsed-in-Some.ensures.1 in
    rw p.1 (part-some o ev a.path.now a.class.now items a.held.blocked _ _ _ _ f some (subst P (sym f-is) (rw c.deref-in-Some.ensures.value at c.in_err-emit_collapsed-in-Some.ensures.part)))
