-- A directory of which nothing is held is not folded.
use Rattle.std.proofs.Common.{◌≡◌, ℕ, List, [], ◌∷◌, Bool, true, false, ◌&&◌, Option, Some, None, option_map, length, refl}
use Rattle.std.specs.Prelude.{◌==◌, if◌then◌else◌}
use Rattle.glob_rules.specs.declared.ignore.Kind.TheVariants.{Expendable, Precious}
use Rattle.dir_classify.specs.declared.classify.Outcome.{Outcome as Class}
use Rattle.dir_classify.specs.declared.entry.Entry.{Entry}
use Rattle.dir_classify.specs.declared.entry.Status.{Status}
use Rattle.dir_classify.specs.declared.entry.Status.TheVariants.{Ignored, Untracked}
use Rattle.dir_classify.specs.Chosen.{WalkOptions, is_collapsing_mode, collapses_directories_if_some}
use Rattle.dir_classify.specs.Evidence.{PathEvidence}
use Rattle.dir_walk.specs.Emits.{folded_entry_unless_blocked}
use Rattle.dir_walk.specs.Fold.{fold, status_of_folded_directory, entry_of_folded_directory, may_fold_as_untracked, may_fold_as_expendable, may_fold_as_precious, all_counted_untracked_or_ignored, is_foldable_by_contents, may_delete_all_at_once, tally_held_entries}
use Rattle.dir_walk.specs.Walked.{walk_result_holding_entries}

and-three : (a b : Bool) → (a && false && b) ≡ false
and-three true b = refl
and-three false b = refl

and-four : (a b c : Bool) → (a && false && b && c) ≡ false
and-four true b c = refl
and-four false b c = refl

no-status : (u e p : Bool) → u ≡ false → e ≡ false → p ≡ false → (if u then Some Untracked else if e then Some (Ignored Expendable) else if p then Some (Ignored Precious) else None) ≡ None
no-status u e p hu he hp = rw (hu, he, hp) refl

-- there is no status for nothing
status-empty : (o : WalkOptions) → status_of_folded_directory o (tally_held_entries []) ≡ None
status-empty o =
    no-status (may_fold_as_untracked o (tally_held_entries [])) (may_fold_as_expendable o (tally_held_entries [])) (may_fold_as_precious o (tally_held_entries []))
    (and-four (is_collapsing_mode o.emit_untracked) (all_counted_untracked_or_ignored (tally_held_entries [])) (may_delete_all_at_once o (tally_held_entries [])))
    (and-three (collapses_directories_if_some o.emit_ignored) ((tally_held_entries []).expendable == (tally_held_entries []).all))
    (and-three (collapses_directories_if_some o.emit_ignored) ((tally_held_entries []).precious == (tally_held_entries []).all))

no-fold : (o : WalkOptions) (d : List ℕ) (c : Class) (foldable : Bool) (s : Option Status) → s ≡ None → (if foldable then option_map (entry_of_folded_directory o d c (tally_held_entries [])) s else None) ≡ None
no-fold o d c true s e = rw e refl
no-fold o d c false s e = refl

fold-empty : (o : WalkOptions) (ev : PathEvidence) (d : List ℕ) (c : Class) → fold o ev d c (tally_held_entries []) ≡ None
unfolding fold
fold-empty o ev d c = no-fold o d c (is_foldable_by_contents ev d (tally_held_entries [])) (status_of_folded_directory o (tally_held_entries [])) (status-empty o)

pub folded-empty : (o : WalkOptions) (ev : PathEvidence) (d : List ℕ) (c : Class) (items : List Entry) (blocked : Bool) → length items ≡ 0 → folded_entry_unless_blocked o ev d c (walk_result_holding_entries items blocked) ≡ None
folded-empty o ev d c [] true e = refl
folded-empty o ev d c [] false e = fold-empty o ev d c
folded-empty o ev d c (x ∷ items) blocked e = absurd (cc e)
