-- Where the way to a traversal root ends.
use Rattle.std.proofs.Common.{◌≡◌, ℕ, ◌-◌, List, [], ◌∷◌, Bool, true, false, cond, ◌||◌, ◌&&◌, length, Option, Some, None, refl, ap, ◌∙◌, arith}
use Rattle.std.specs.Prelude.{if◌then◌else◌}
use Rattle.gitbase_core.specs.declared.kinds.IndexKinds.{IndexKinds}
use Rattle.gitbase_core.specs.Kinds.{kinds}
use Rattle.gitbase_core.specs.Lookup.{index_kinds_of_path_icase}
use Rattle.gitbase_core.specs.Path.{components, ends_in_slash, is_empty, path_joined_with_slash}
use Rattle.gitbase_core.proofs.Names.{AreNames, AreNames-components, IsName}
use Rattle.worktree_stack.specs.Reading.{TreeAndObjects}
use Rattle.worktree_stack.specs.Setup.{StackSetup}
use Rattle.dir_classify.specs.declared.classify.Outcome.{Outcome as Class}
use Rattle.dir_classify.specs.declared.entry.Kind.{Kind}
use Rattle.dir_classify.specs.declared.entry.Property.TheVariants.{TrackedExcluded}
use Rattle.dir_classify.specs.Chosen.{WalkOptions}
use Rattle.dir_classify.specs.Class.{asks_ignore_rules, enters}
use Rattle.dir_classify.specs.Evidence.{PathEvidence}
use Rattle.dir_classify.specs.Kinds.{is_repository_kind}
use Rattle.dir_classify.specs.Layers.{WalkSetting, evidence_from_setting_and_sources, index_kinds_at_path, from_index_kinds}
use Rattle.dir_classify.specs.Way.{EndOfWayToRoot, end_of_way_through_components, end_of_way_from_worktree_root, end_of_way_at_path, end_of_way_at_worktree_root, asks_unreadable_rules_on_way}
use Rattle.dir_walk.specs.Covered.{options_without_folding}
use Rattle.dir_walk.specs.Emissions.{is_empty_directory_property}
use Rattle.dir_walk.proofs.Theorems.Induct.{NoneEmpty, class-clear}
use Rattle.dir_walk.proofs.Places.JoinedPaths.{Spelled, joined-plain_end}
use Rattle.dir_walk.proofs.Theorems.Matching.{class-same}

-- the index says of no path that it is a directory without names
pub evidence-clear : (given : WalkSetting) (made : Option StackSetup) (s : TreeAndObjects) → NoneEmpty (evidence_from_setting_and_sources given made s)
unfolding evidence_from_setting_and_sources index_kinds_at_path
evidence-clear given made s [] = refl
evidence-clear given made s (b ∷ path) = by (if given.options.ignore_case && given.has_lookup then index_kinds_of_path_icase given.index (b ∷ path) else kinds given.index (b ∷ path))
  where
    by : (k : IndexKinds) → is_empty_directory_property (from_index_kinds k).sparse ≡ false
    by k = go k.is_left_out
      where
        go : (b : Bool) → is_empty_directory_property (if b then Some TrackedExcluded else None) ≡ false
        go true = refl
        go false = refl

-- a component does not end in a slash
component-spelled : (name : List ℕ) → IsName name → Spelled name
component-spelled [] is = absurd (omega (arith, is.some))
component-spelled (b ∷ bytes) is = record { first = b; rest = bytes; spelling = refl; plain = is.plain (length (b ∷ bytes) - 1) (omega arith) }

module _ (o : WalkOptions) (ev : PathEvidence) (kind_at : List ℕ → Option Kind) where
  onward-plain : (r : EndOfWayToRoot) (names : List (List ℕ)) → AreNames names → ends_in_slash r.path ≡ false → ends_in_slash (end_of_way_through_components o ev kind_at r names).path ≡ false
  onward-plain r [] are plain = plain
  onward-plain r (name ∷ names) are plain =
      go (is_empty r.path || enters o r.class r.in_repository)
      (onward-plain (end_of_way_at_path o ev kind_at r.in_repository r.is_unread (path_joined_with_slash r.path name)) names are.1 (joined-plain_end r.path name (component-spelled name are.0)))
    where
      next : EndOfWayToRoot
      next = end_of_way_at_path o ev kind_at r.in_repository r.is_unread (path_joined_with_slash r.path name)

      go : (b : Bool) → ends_in_slash (end_of_way_through_components o ev kind_at next names).path ≡ false → ends_in_slash (cond b (end_of_way_through_components o ev kind_at next names) (record r { whole = false })).path ≡ false
      go true later = later
      go false later = plain

  onward-clear : NoneEmpty ev → (r : EndOfWayToRoot) (names : List (List ℕ)) → is_empty_directory_property r.class.property ≡ false → is_empty_directory_property (end_of_way_through_components o ev kind_at r names).class.property ≡ false
  onward-clear clear r [] own = own
  onward-clear clear r (name ∷ names) own =
      go (is_empty r.path || enters o r.class r.in_repository)
      (onward-clear clear (end_of_way_at_path o ev kind_at r.in_repository r.is_unread (path_joined_with_slash r.path name)) names (class-clear o ev clear (path_joined_with_slash r.path name) (kind_at (path_joined_with_slash r.path name)) None))
    where
      next : EndOfWayToRoot
      next = end_of_way_at_path o ev kind_at r.in_repository r.is_unread (path_joined_with_slash r.path name)

      go : (b : Bool) → is_empty_directory_property (end_of_way_through_components o ev kind_at next names).class.property ≡ false
          → is_empty_directory_property (cond b (end_of_way_through_components o ev kind_at next names) (record r { whole = false })).class.property ≡ false
      go true later = later
      go false later = own

  -- the path reached does not end in a slash
  pub reached-plain : (path : List ℕ) → ends_in_slash (end_of_way_from_worktree_root o ev kind_at (components path)).path ≡ false
  unfolding end_of_way_from_worktree_root
  reached-plain path = onward-plain (end_of_way_at_worktree_root o ev kind_at) (components path) (AreNames-components path) refl

  -- its class is not that of a directory without names
  pub reached-clear : NoneEmpty ev → (names : List (List ℕ)) → is_empty_directory_property (end_of_way_from_worktree_root o ev kind_at names).class.property ≡ false
  unfolding end_of_way_from_worktree_root
  reached-clear clear names = onward-clear clear (end_of_way_at_worktree_root o ev kind_at) names (class-clear o ev clear [] (kind_at []) None)

  -- ---- the same without folding

  reached_at-same : (b u : Bool) (path : List ℕ) → end_of_way_at_path (options_without_folding o) ev kind_at b u path ≡ end_of_way_at_path o ev kind_at b u path
  unfolding asks_ignore_rules
  reached_at-same b u path =
      ap (λ (c : Class). record { path = path; class = c; in_repository = b; whole = true; is_unread = u || asks_unreadable_rules_on_way o ev kind_at path }) (class-same o ev path (kind_at path) None)

  onward-same : (r : EndOfWayToRoot) (names : List (List ℕ)) → end_of_way_through_components (options_without_folding o) ev kind_at r names ≡ end_of_way_through_components o ev kind_at r names
  onward-same r [] = refl
  onward-same r (name ∷ names) =
      let path : List ℕ = path_joined_with_slash r.path name in
      let step : end_of_way_through_components (options_without_folding o) ev kind_at (end_of_way_at_path (options_without_folding o) ev kind_at r.in_repository r.is_unread path) names ≡ end_of_way_through_components o ev kind_at (end_of_way_at_path o ev kind_at r.in_repository r.is_unread path) names =
      ap (λ (s : EndOfWayToRoot). end_of_way_through_components (options_without_folding o) ev kind_at s names) (reached_at-same r.in_repository r.is_unread path) ∙ onward-same (end_of_way_at_path o ev kind_at r.in_repository r.is_unread path) names in
      ap (λ (s : EndOfWayToRoot). if is_empty r.path || enters o r.class r.in_repository then s else record r { whole = false }) step

  root-same : end_of_way_at_worktree_root (options_without_folding o) ev kind_at ≡ end_of_way_at_worktree_root o ev kind_at
  unfolding asks_ignore_rules
  root-same =
      ap (λ (c : Class). record { path = []; class = c; in_repository = is_repository_kind c.disk_kind; whole = true; is_unread = false || asks_unreadable_rules_on_way o ev kind_at [] }) (class-same o ev [] (kind_at []) None)

  pub reached-same : (names : List (List ℕ)) → end_of_way_from_worktree_root (options_without_folding o) ev kind_at names ≡ end_of_way_from_worktree_root o ev kind_at names
  unfolding end_of_way_from_worktree_root
  reached-same names = ap (λ (s : EndOfWayToRoot). end_of_way_through_components (options_without_folding o) ev kind_at s names) root-same ∙ onward-same (end_of_way_at_worktree_root o ev kind_at) names
