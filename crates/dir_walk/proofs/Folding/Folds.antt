-- Closing a directory sees no order.
use Rattle.std.proofs.Common.{◌≡◌, ℕ, ◌+◌, List, ◌∷◌, Bool, true, false, cond, not, ◌&&◌, Option, Some, None, map, filter, refl, sym, ap, subst, ◌∙◌, arith}
use Rattle.dir_classify.specs.declared.classify.Outcome.{Outcome as Class}
use Rattle.dir_classify.specs.declared.entry.Entry.{Entry}
use Rattle.dir_classify.specs.declared.entry.PathspecMatch.TheVariants.{Always, Excluded, Prefix, WildcardMatch, Verbatim}
use Rattle.dir_classify.specs.Chosen.{WalkOptions}
use Rattle.dir_classify.specs.Evidence.{PathEvidence}
use Rattle.dir_walk.specs.Emissions.{uncollapsed_emission, collapsed_emission}
use Rattle.dir_walk.specs.Fold.{fold, is_empty_directory_entry, prevents_folding, is_ignored_expendable_entry, has_pathspec_match, is_prefix_or_wildcard_match, is_ignored_precious_entry, is_untracked_entry, emits_besides_folded_directory, tally_held_entries}
use Rattle.dir_walk.specs.Walked.{WalkResult, walk_result_of_closed_directory, walk_result_folded_if_some, walk_result_of_folded_directory, walk_result_of_unfolded_directory}
use Rattle.dir_walk.proofs.Order.Counts.{SameCounts, count_by-append, count_by-cons, count_by-map, count_by-map_filter}

pub tally_same : (xs ys : List Entry) → SameCounts xs ys → tally_held_entries xs ≡ tally_held_entries ys
tally_same xs ys same =
    cc (
      same (λ _. true),
      same is_untracked_entry,
      same is_ignored_expendable_entry,
      same is_ignored_precious_entry,
      same prevents_folding,
      same is_prefix_or_wildcard_match,
      same is_empty_directory_entry,
      same (has_pathspec_match Always),
      same (has_pathspec_match Excluded),
      same (has_pathspec_match Prefix),
      same (has_pathspec_match WildcardMatch),
      same (has_pathspec_match Verbatim),
    )

-- what paths give, up to order
pub record Alike (w v : WalkResult) : Type 0 where
  pub out : SameCounts w.out v.out
  pub up : SameCounts w.up v.up
  pub blocks : w.blocks ≡ v.blocks
  pub merged : w.merged ≡ v.merged
  pub entered : SameCounts w.entered v.entered
  pub broken : SameCounts w.broken v.broken
  pub asked : SameCounts w.asked v.asked
  pub met : SameCounts w.met v.met
  pub folds : SameCounts w.folds v.folds

pub Alike-sym : (w v : WalkResult) → Alike w v → Alike v w
Alike-sym w v same =
    record {
      out = λ p. sym (same.out p);
      up = λ p. sym (same.up p);
      blocks = sym same.blocks;
      merged = sym same.merged;
      entered = λ p. sym (same.entered p);
      broken = λ p. sym (same.broken p);
      asked = λ p. sym (same.asked p);
      met = λ p. sym (same.met p);
      folds = λ p. sym (same.folds p);
    }

one_more : {X : Type 0} (x : X) (xs ys : List X) → SameCounts xs ys → SameCounts (x ∷ xs) (x ∷ ys)
one_more x xs ys same p = count_by-cons p x xs ∙ ap (λ (n : ℕ). cond (p x) 1 0 + n) (same p) ∙ sym (count_by-cons p x ys)

module _ (o : WalkOptions) (d : List ℕ) (w v : WalkResult) (same : Alike w v) where
  unfolded_alike : Alike (walk_result_of_unfolded_directory d w) (walk_result_of_unfolded_directory d v)
  unfolded_alike =
      record {
        out = λ p. omega (
          arith,
          same.out p,
          same.up (λ e. p (uncollapsed_emission e)),
          count_by-append p w.out (map uncollapsed_emission w.up),
          count_by-append p v.out (map uncollapsed_emission v.up),
          count_by-map p uncollapsed_emission w.up,
          count_by-map p uncollapsed_emission v.up,
        );
        up = λ p. refl;
        blocks = refl;
        merged = same.merged;
        entered = one_more d w.entered v.entered same.entered;
        broken = same.broken;
        asked = same.asked;
        met = same.met;
        folds = same.folds;
      }

  folded_alike : (f : Entry) → Alike (walk_result_of_folded_directory o d w f) (walk_result_of_folded_directory o d v f)
  folded_alike f =
      let q : Entry → Bool = emits_besides_folded_directory o.emit_collapsed f.status in
      record {
        out = λ p. omega (
          arith,
          same.out p,
          same.up (λ e. q e && p (collapsed_emission f.status e)),
          count_by-append p w.out (map (collapsed_emission f.status) (filter q w.up)),
          count_by-append p v.out (map (collapsed_emission f.status) (filter q v.up)),
          count_by-map_filter p (collapsed_emission f.status) q w.up,
          count_by-map_filter p (collapsed_emission f.status) q v.up,
        );
        up = λ p. refl;
        blocks = same.blocks;
        merged = omega (arith, same.merged, same.up (λ e. not (q e)));
        entered = one_more d w.entered v.entered same.entered;
        broken = same.broken;
        asked = same.asked;
        met = same.met;
        folds = one_more f w.folds v.folds same.folds;
      }

  folded_if_alike : (f : Option Entry) → Alike (walk_result_folded_if_some o d w f) (walk_result_folded_if_some o d v f)
  folded_if_alike None = unfolded_alike
  folded_if_alike (Some f) = folded_alike f

-- whatever the order of what the names gave, the directory gives the same up to order
pub closed_alike : (o : WalkOptions) (ev : PathEvidence) (d : List ℕ) (c : Class) (w v : WalkResult) → Alike w v → Alike (walk_result_of_closed_directory o ev d c w) (walk_result_of_closed_directory o ev d c v)
unfolding walk_result_of_closed_directory
closed_alike o ev d c w v same = go w.blocks v.blocks same.blocks
  where
    f : Option Entry
    f = fold o ev d c (tally_held_entries w.up)

    g : Option Entry
    g = fold o ev d c (tally_held_entries v.up)

    put : Alike (walk_result_folded_if_some o d w f) (walk_result_folded_if_some o d v g)
    put =
        let P : Option Entry → Type 0 = λ h. Alike (walk_result_folded_if_some o d w f) (walk_result_folded_if_some o d v h) in
        subst P (ap (fold o ev d c) (tally_same w.up v.up same.up)) (folded_if_alike o d w v same f)

    go : (a b : Bool) → a ≡ b → Alike (cond a (walk_result_of_unfolded_directory d w) (walk_result_folded_if_some o d w f)) (cond b (walk_result_of_unfolded_directory d v) (walk_result_folded_if_some o d v g))
    go true true e = unfolded_alike o d w v same
    go false false e = put
    go true false e = absurd cc
    go false true e = absurd cc
