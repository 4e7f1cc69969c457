-- What closing a directory adds to what its names gave, by what is held alone.
use Rattle.std.proofs.Common.{◌≡◌, ℕ, ◌+◌, List, [], ◌∷◌, ◌++◌, Bool, true, false, cond, ◌&&◌, Option, Some, None, count_by, map, filter, length, refl, ◌∙◌, arith}
use Rattle.dir_classify.specs.declared.classify.Outcome.{Outcome as Class}
use Rattle.dir_classify.specs.declared.entry.Entry.{Entry}
use Rattle.dir_classify.specs.declared.entry.Status.{Status}
use Rattle.dir_classify.specs.Chosen.{WalkOptions}
use Rattle.dir_classify.specs.Evidence.{PathEvidence}
use Rattle.dir_walk.specs.Emissions.{uncollapsed_emission, collapsed_emission}
use Rattle.dir_walk.specs.Fold.{fold, emits_besides_folded_directory, tally_held_entries}
use Rattle.dir_walk.specs.Walked.{WalkResult, walk_result_of_closed_directory, walk_result_folded_if_some, walk_result_of_folded_directory, walk_result_handing_up_leaf, walk_result_holding_entries, holds_status_for_folding, walk_result_of_leaf_entry, walk_result_emitting_leaf, walk_result_of_unfolded_directory}
use Rattle.dir_walk.proofs.Order.Counts.{count_all, count_by-agree, count_by-map, count_by-map_filter, count_by-parts}

-- what a directory gives, by what its names gave, and by what is held alone
pub record Adds (d : List ℕ) (w held all : WalkResult) : Type 0 where
  pub out : all.out ≡ w.out ++ held.out
  pub up : all.up ≡ held.up
  pub blocks : all.blocks ≡ held.blocks
  pub merged : all.merged ≡ w.merged + held.merged
  pub entered : all.entered ≡ d ∷ w.entered
  pub broken : all.broken ≡ w.broken
  pub asked : all.asked ≡ w.asked
  pub met : all.met ≡ w.met
  pub folds : all.folds ≡ held.folds ++ w.folds

module _ (o : WalkOptions) (ev : PathEvidence) (d : List ℕ) (c : Class) (w : WalkResult) where
  unfolded-adds : Adds d w (walk_result_of_unfolded_directory d (walk_result_holding_entries w.up w.blocks)) (walk_result_of_unfolded_directory d w)
  unfolded-adds = record { out = refl; up = refl; blocks = refl; merged = omega arith; entered = refl; broken = refl; asked = refl; met = refl; folds = refl }

  folded-adds : (f : Entry) → Adds d w (walk_result_of_folded_directory o d (walk_result_holding_entries w.up w.blocks) f) (walk_result_of_folded_directory o d w f)
  folded-adds f = record { out = refl; up = refl; blocks = refl; merged = omega arith; entered = refl; broken = refl; asked = refl; met = refl; folds = refl }

  folded_if-adds : (f : Option Entry) → Adds d w (walk_result_folded_if_some o d (walk_result_holding_entries w.up w.blocks) f) (walk_result_folded_if_some o d w f)
  folded_if-adds None = unfolded-adds
  folded_if-adds (Some f) = folded-adds f

  pub closed-adds : Adds d w (walk_result_of_closed_directory o ev d c (walk_result_holding_entries w.up w.blocks)) (walk_result_of_closed_directory o ev d c w)
  unfolding walk_result_of_closed_directory
  closed-adds = go w.blocks
    where
      f : Option Entry
      f = fold o ev d c (tally_held_entries w.up)

      go : (b : Bool) → Adds d w (cond b (walk_result_of_unfolded_directory d (walk_result_holding_entries w.up w.blocks)) (walk_result_folded_if_some o d (walk_result_holding_entries w.up w.blocks) f)) (cond b (walk_result_of_unfolded_directory d w) (walk_result_folded_if_some o d w f))
      go true = unfolded-adds
      go false = folded_if-adds f

-- ---- what is held, in numbers

and-true : (b : Bool) → (b && true) ≡ b
and-true true = refl
and-true false = refl

size-plain : (held : List Entry) → count_by (λ _. true) (map uncollapsed_emission held) ≡ length held
size-plain held = count_by-map (λ _. true) uncollapsed_emission held ∙ count_all held

size-within : (s : Status) (q : Entry → Bool) (held : List Entry) → count_by (λ _. true) (map (collapsed_emission s) (filter q held)) ≡ count_by q held
size-within s q held = count_by-map_filter (λ _. true) (collapsed_emission s) q held ∙ count_by-agree (λ x. q x && true) q held (λ x. and-true (q x))

-- each held entry is put out or merged
pub record PutsAll (held : List Entry) (w : WalkResult) : Type 0 where
  pub all : count_by (λ _. true) w.out + w.merged ≡ length held

pub closed-puts_all : (o : WalkOptions) (ev : PathEvidence) (d : List ℕ) (c : Class) (held : List Entry) (blocked : Bool) → PutsAll held (walk_result_of_closed_directory o ev d c (walk_result_holding_entries held blocked))
unfolding walk_result_of_closed_directory
closed-puts_all o ev d c held blocked = go blocked (fold o ev d c (tally_held_entries held))
  where
    w : WalkResult
    w = walk_result_holding_entries held blocked

    unfolds : PutsAll held (walk_result_of_unfolded_directory d w)
    unfolds = record { all = omega (arith, size-plain held) }

    go : (b : Bool) (f : Option Entry) → PutsAll held (cond b (walk_result_of_unfolded_directory d w) (walk_result_folded_if_some o d w f))
    go true f = unfolds
    go false None = unfolds
    go false (Some f) =
        let q : Entry → Bool = emits_besides_folded_directory o.emit_collapsed f.status in
        record { all = omega (arith, size-within f.status q held, count_by-parts q held) }

-- ---- leaves

-- what a leaf gives besides
pub record LeafGives (e : Entry) (w : WalkResult) : Type 0 where
  pub blocks : w.blocks ≡ false
  pub merged : w.merged ≡ 0
  pub entered : w.entered ≡ []
  pub broken : w.broken ≡ []
  pub asked : w.asked ≡ []
  pub met : w.met ≡ e ∷ []
  pub folds : w.folds ≡ []

pub leaf-gives : (o : WalkOptions) (e : Entry) → LeafGives e (walk_result_of_leaf_entry o e)
unfolding walk_result_of_leaf_entry
leaf-gives o e = go (holds_status_for_folding o e.status)
  where
    go : (b : Bool) → LeafGives e (cond b (walk_result_handing_up_leaf e) (walk_result_emitting_leaf e))
    go true = record { blocks = refl; merged = refl; entered = refl; broken = refl; asked = refl; met = refl; folds = refl }
    go false = record { blocks = refl; merged = refl; entered = refl; broken = refl; asked = refl; met = refl; folds = refl }

-- a directory closed with its names meets what they meet
pub closed-met : (o : WalkOptions) (ev : PathEvidence) (d : List ℕ) (c : Class) (w : WalkResult) → (walk_result_of_closed_directory o ev d c w).met ≡ w.met
closed-met o ev d c w = (closed-adds o ev d c w).met
