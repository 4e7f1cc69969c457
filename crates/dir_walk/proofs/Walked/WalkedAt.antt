-- A walk is what is walked from its traversal root.
use Rattle.std.proofs.Common.{◌≡◌, ◌≤◌, ◌+◌, ℕ, List, arith, Option, Some, None, refl, sym, ap, ◌∙◌}
use Rattle.std.specs.Prelude.{option_map}
use Rattle.worktree_stack.specs.Setup.{StackSetup}
use Rattle.worktree_stack.specs.Reading.{TreeAndObjects}
use Rattle.dir_classify.specs.Layers.{WalkSetting, evidence_from_setting_and_sources}
use Rattle.dir_classify.specs.Rooted.{end_of_way_to_root}
use Rattle.dir_walk.specs.Opens.{count_paths_within_depth}
use Rattle.dir_walk.specs.Root.{TraversalRootResult, Walk, missing, outside, rooted, through_link, find_traversal_root, walk_over_sources, walk_from_root_result, walk_result_from_traversal_root}
use Rattle.dir_walk.specs.Walked.{WalkResult}
use Rattle.dir_walk.specs.Walks.{most_opened_in_walk_result, most_opened_in_walk}
use Rattle.dir_walk.proofs.Order.Lists.{same_some}

pub same_root : {a b : List ℕ} → rooted a ≡ rooted b → a ≡ b
same_root e = cc

module _ (given : WalkSetting) (made : Option StackSetup) (s : TreeAndObjects) (explicit : Option (List ℕ)) where
  abbrev pub walk_made : List ℕ → WalkResult → Walk
  walk_made root w = record { root = root; is_way_unread = (end_of_way_to_root given made s root).is_unread; gives = w }

  pub walk-at : (root : List ℕ) (w : WalkResult) → find_traversal_root given s.tree explicit ≡ rooted root → walk_result_from_traversal_root given made s root ≡ Some w → walk_over_sources given made s explicit ≡ Some (walk_made root w)
  unfolding walk_over_sources
  walk-at root w r is = ap (walk_from_root_result given (evidence_from_setting_and_sources given made s) s.tree) r ∙ ap (option_map (walk_made root)) is

  pub no-walk : (root : List ℕ) → find_traversal_root given s.tree explicit ≡ rooted root → walk_result_from_traversal_root given made s root ≡ None → walk_over_sources given made s explicit ≡ None
  unfolding walk_over_sources
  no-walk root r is = ap (walk_from_root_result given (evidence_from_setting_and_sources given made s) s.tree) r ∙ ap (option_map (walk_made root)) is

  -- as many directories are entered by it as are from there on
  pub most-walked : (limit : ℕ) (root : List ℕ) (less spare : ℕ) → find_traversal_root given s.tree explicit ≡ rooted root → less ≤ spare → most_opened_in_walk_result limit (walk_result_from_traversal_root given made s root) less ≤ most_opened_in_walk limit (walk_over_sources given made s explicit) spare
  most-walked limit root less spare r fits = go (walk_result_from_traversal_root given made s root) refl
    where
      go : (v : Option WalkResult) → walk_result_from_traversal_root given made s root ≡ v → most_opened_in_walk_result limit v less ≤ most_opened_in_walk limit (walk_over_sources given made s explicit) spare
      go None is = omega arith
      go (Some w) is =
          let whole : most_opened_in_walk limit (walk_over_sources given made s explicit) spare ≡ count_paths_within_depth limit w.entered + spare = ap {B = ℕ} (λ (k : Option Walk). most_opened_in_walk limit k spare) (walk-at root w r is) in
          omega (arith, whole, fits)

  pub record IsWalkAt (walk : Walk) : Type 0 where
    pub rooted_is : find_traversal_root given s.tree explicit ≡ rooted walk.root
    pub walked_is : walk_result_from_traversal_root given made s walk.root ≡ Some walk.gives
    pub unread_is : walk.is_way_unread ≡ (end_of_way_to_root given made s walk.root).is_unread

  pub walk-split : (walk : Walk) → walk_over_sources given made s explicit ≡ Some walk → IsWalkAt walk
  unfolding walk_over_sources
  walk-split walk e = at (find_traversal_root given s.tree explicit) refl e
    where
      made-at : (root : List ℕ) (w : WalkResult) → find_traversal_root given s.tree explicit ≡ rooted root → walk_result_from_traversal_root given made s root ≡ Some w → walk_made root w ≡ walk → IsWalkAt walk
      made-at root w r is f =
          record {
            rooted_is = r ∙ ap (λ (k : Walk). rooted k.root) f;
            walked_is = ap (λ (k : Walk). walk_result_from_traversal_root given made s k.root) (sym f) ∙ is ∙ ap (λ (k : Walk). Some k.gives) f;
            unread_is = ap (λ (k : Walk). k.is_way_unread) (sym f) ∙ ap (λ (k : Walk). (end_of_way_to_root given made s k.root).is_unread) f;
          }

      found : (root : List ℕ) (o : Option WalkResult) → find_traversal_root given s.tree explicit ≡ rooted root → walk_result_from_traversal_root given made s root ≡ o → option_map (walk_made root) o ≡ Some walk → IsWalkAt walk
      found root None r is f = absurd (cc f)
      found root (Some w) r is f = made-at root w r is (same_some f)

      at : (r : TraversalRootResult) → find_traversal_root given s.tree explicit ≡ r → walk_from_root_result given (evidence_from_setting_and_sources given made s) s.tree r ≡ Some walk → IsWalkAt walk
      at (outside path) is f = absurd (cc f)
      at (missing path) is f = absurd (cc f)
      at (through_link index) is f = absurd (cc f)
      at (rooted root) is f = found root (walk_result_from_traversal_root given made s root) is refl f
