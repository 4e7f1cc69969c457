-- A directory is closed as its definition says.
use Rattle.std.proofs.Common.{◌≡◌, ℕ, ◌+◌, List, ◌∷◌, Bool, true, false, cond, not, ◌&&◌, Option, Some, None, count_by, map, filter, length, refl, sym, ap, subst, ◌∙◌, arith}
use Rattle.dir_classify.specs.declared.classify.Outcome.{Outcome as Class}
use Rattle.dir_classify.specs.declared.entry.Entry.{Entry}
use Rattle.dir_classify.specs.declared.entry.Status.{Status}
use Rattle.dir_classify.specs.Chosen.{WalkOptions}
use Rattle.dir_classify.specs.Evidence.{PathEvidence}
use Rattle.dir_walk.specs.declared.outcome.Outcome.{Outcome}
use Rattle.dir_walk.specs.Emissions.{Emission, uncollapsed_emission, collapsed_emission, is_entry_shown_by_options}
use Rattle.dir_walk.specs.Emits.{AddsEmissionsAndCounts, AddsAtMostEmissionsAndSeen, AddsPartOfWalkResult, ClosesWithAllWalked, folded_entry_unless_blocked, count_shown_passing, count_elements, count_seen_entries, count_held_emitted_plainly, count_held_emitted_collapsed}
use Rattle.dir_walk.specs.Fold.{fold, emits_besides_folded_directory, tally_held_entries}
use Rattle.dir_walk.specs.Walked.{WalkResult, walk_result_of_closed_directory, walk_result_folded_if_some, walk_result_of_folded_directory, walk_result_holding_entries, walk_result_of_unfolded_directory}
use Rattle.dir_walk.proofs.Order.Counts.{count_by-append, count_by-map, count_by-map_filter, count_by-agree, count_by-parts, count_all}
use Rattle.dir_walk.proofs.Gives.Emitting.{Emits-as, Within-as}

pub closed-is : (o : WalkOptions) (ev : PathEvidence) (d : List ℕ) (c : Class) (w : WalkResult) → walk_result_of_closed_directory o ev d c w ≡ walk_result_folded_if_some o d w (folded_entry_unless_blocked o ev d c w)
unfolding walk_result_of_closed_directory
closed-is o ev d c w = go w.blocks (fold o ev d c (tally_held_entries w.up))
  where
    go : (b : Bool) (f : Option Entry) → cond b (walk_result_of_unfolded_directory d w) (walk_result_folded_if_some o d w f) ≡ walk_result_folded_if_some o d w (cond b None f)
    go true f = refl
    go false f = refl

-- a folded directory was not blocked
pub not-blocked : (o : WalkOptions) (ev : PathEvidence) (d : List ℕ) (c : Class) (w : WalkResult) (f : Entry) → folded_entry_unless_blocked o ev d c w ≡ Some f → w.blocks ≡ false
not-blocked o ev d c w f some = go w.blocks (fold o ev d c (tally_held_entries w.up)) some
  where
    go : (b : Bool) (g : Option Entry) → cond b None g ≡ Some f → b ≡ false
    go true g e = absurd (cc e)
    go false g e = refl

size-map : {X Y : Type 0} (f : X → Y) (xs : List X) → count_elements (map f xs) ≡ length xs
size-map f xs = count_by-map (λ _. true) f xs ∙ count_all xs

and_true : (b : Bool) → (b && true) ≡ b
and_true true = refl
and_true false = refl

size-within : (s : Status) (q : Entry → Bool) (held : List Entry) → count_elements (map (collapsed_emission s) (filter q held)) ≡ count_by q held
size-within s q held = count_by-map_filter (λ _. true) (collapsed_emission s) q held ∙ count_by-agree (λ x. q x && true) q held (λ x. and_true (q x))

module _ (o : WalkOptions) (ev : PathEvidence) (d : List ℕ) (c : Class) (held : List Entry) (blocked : Bool) (before after : Option (List Emission)) where
  w : WalkResult
  w = walk_result_holding_entries held blocked

  is-none : folded_entry_unless_blocked o ev d c w ≡ None → walk_result_of_closed_directory o ev d c w ≡ walk_result_of_unfolded_directory d w
  is-none none = closed-is o ev d c w ∙ ap (walk_result_folded_if_some o d w) none

  is-some : (f : Entry) → folded_entry_unless_blocked o ev d c w ≡ Some f → walk_result_of_closed_directory o ev d c w ≡ walk_result_of_folded_directory o d w f
  is-some f some = closed-is o ev d c w ∙ ap (walk_result_folded_if_some o d w) some

  pub part-none : (start stop : Outcome) → folded_entry_unless_blocked o ev d c (walk_result_holding_entries held blocked) ≡ None → AddsAtMostEmissionsAndSeen before after start stop (count_held_emitted_plainly o held) (length held) → AddsPartOfWalkResult o (walk_result_of_closed_directory o ev d c (walk_result_holding_entries held blocked)) before after start stop
  unfolding w
  part-none start stop none part =
      let P : WalkResult → Type 0 = λ v. AddsPartOfWalkResult o v before after start stop in
      subst P (sym (is-none none)) (Within-as before after start stop (count_held_emitted_plainly o held) (λ p. count_shown_passing o p (map uncollapsed_emission held)) (length held) (count_elements (map uncollapsed_emission held) + 0) part (λ p. omega arith) (omega (arith, size-map uncollapsed_emission held)))

  pub part-some : (start stop : Outcome) (f : Entry) → folded_entry_unless_blocked o ev d c (walk_result_holding_entries held blocked) ≡ Some f → AddsAtMostEmissionsAndSeen before after start stop (count_held_emitted_collapsed o f.status held) (length held) → AddsPartOfWalkResult o (walk_result_of_closed_directory o ev d c (walk_result_holding_entries held blocked)) before after start stop
  unfolding w
  part-some start stop f some part =
      let q : Entry → Bool = emits_besides_folded_directory o.emit_collapsed f.status in
      let P : WalkResult → Type 0 = λ v. AddsPartOfWalkResult o v before after start stop in
      subst P (sym (is-some f some)) (Within-as before after start stop (count_held_emitted_collapsed o f.status held) (count_held_emitted_collapsed o f.status held) (length held) (count_elements (map (collapsed_emission f.status) (filter q held)) + (0 + count_by (λ x. not (q x)) held)) part (λ p. omega arith)
      (omega (arith, size-within f.status q held, count_by-parts q held)))

  module _ (start stop : Outcome) where
    pub closes-none : folded_entry_unless_blocked o ev d c (walk_result_holding_entries held blocked) ≡ None → AddsEmissionsAndCounts before after start stop (count_held_emitted_plainly o held) (length held) 0
        → ClosesWithAllWalked o (walk_result_of_closed_directory o ev d c (walk_result_holding_entries held blocked)) before after start stop (record { entry = None; blocks = true })
    unfolding w
    closes-none none e =
        let P : WalkResult → Type 0 = λ v. ClosesWithAllWalked o v before after start stop (record { entry = None; blocks = true }) in
        subst P (sym (is-none none)) (record {
          emits = Emits-as before after start stop (count_held_emitted_plainly o held) (λ p. count_shown_passing o p (map uncollapsed_emission held)) (length held) (count_elements (map uncollapsed_emission held) + 0) 0 0 e (λ p. refl) (omega (arith, size-map uncollapsed_emission held)) refl;
          up = refl;
          blocks = refl;
        })

    pub closes-some : (f : Entry) → folded_entry_unless_blocked o ev d c (walk_result_holding_entries held blocked) ≡ Some f → AddsEmissionsAndCounts before after start stop (count_held_emitted_collapsed o f.status held) (length held) 0
        → ClosesWithAllWalked o (walk_result_of_closed_directory o ev d c (walk_result_holding_entries held blocked)) before after start stop (record { entry = Some f; blocks = false })
    unfolding w
    closes-some f some e =
        let q : Entry → Bool = emits_besides_folded_directory o.emit_collapsed f.status in
        let P : WalkResult → Type 0 = λ v. ClosesWithAllWalked o v before after start stop (record { entry = Some f; blocks = false }) in
        subst P (sym (is-some f some)) (record {
          emits = Emits-as before after start stop (count_held_emitted_collapsed o f.status held) (count_held_emitted_collapsed o f.status held) (length held) (count_elements (map (collapsed_emission f.status) (filter q held)) + (0 + count_by (λ x. not (q x)) held)) 0 0 e (λ p. refl)
              (omega (arith, size-within f.status q held, count_by-parts q held)) refl;
          up = refl;
          blocks = sym (not-blocked o ev d c (walk_result_holding_entries held blocked) f some);
        })

-- ---- what the names put out stands in front of what the closing puts out

pub record Adds (o : WalkOptions) (d : List ℕ) (w v c : WalkResult) : Type 0 where
  pub shown : (p : Emission → Bool) → count_shown_passing o p c.out ≡ count_shown_passing o p w.out + count_shown_passing o p v.out
  pub seen : count_seen_entries c ≡ count_seen_entries w + count_seen_entries v
  pub entered : c.entered ≡ d ∷ w.entered
  pub up : c.up ≡ v.up
  pub blocks : c.blocks ≡ v.blocks
  pub broken : c.broken ≡ w.broken
  pub asked : c.asked ≡ w.asked

module _ (o : WalkOptions) (ev : PathEvidence) (d : List ℕ) (c : Class) (w : WalkResult) where
  if-adds : (f : Option Entry) → Adds o d w (walk_result_folded_if_some o d (walk_result_holding_entries w.up w.blocks) f) (walk_result_folded_if_some o d w f)
  if-adds None =
      record {
        shown = λ p. count_by-append (λ x. is_entry_shown_by_options o x.0 && p x) w.out (map uncollapsed_emission w.up);
        seen = omega (arith, count_by-append (λ _. true) w.out (map uncollapsed_emission w.up));
        entered = refl;
        up = refl;
        blocks = refl;
        broken = refl;
        asked = refl;
      }
  if-adds (Some f) =
      let q : Entry → Bool = emits_besides_folded_directory o.emit_collapsed f.status in
      record {
        shown = λ p. count_by-append (λ x. is_entry_shown_by_options o x.0 && p x) w.out (map (collapsed_emission f.status) (filter q w.up));
        seen = omega (arith, count_by-append (λ _. true) w.out (map (collapsed_emission f.status) (filter q w.up)));
        entered = refl;
        up = refl;
        blocks = refl;
        broken = refl;
        asked = refl;
      }

  pub closed-adds : Adds o d w (walk_result_of_closed_directory o ev d c (walk_result_holding_entries w.up w.blocks)) (walk_result_of_closed_directory o ev d c w)
  closed-adds =
      let f : Option Entry = folded_entry_unless_blocked o ev d c w in
      let P : WalkResult → WalkResult → Type 0 = λ v x. Adds o d w v x in
      let R : WalkResult → Type 0 = λ v. P v (walk_result_of_closed_directory o ev d c w) in
      let S : WalkResult → Type 0 = λ x. P (walk_result_folded_if_some o d (walk_result_holding_entries w.up w.blocks) f) x in
      subst R (sym (closed-is o ev d c (walk_result_holding_entries w.up w.blocks))) (subst S (sym (closed-is o ev d c w)) (if-adds f))
