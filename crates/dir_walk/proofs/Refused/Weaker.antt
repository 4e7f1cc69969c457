-- Less of why a walk is refused.
use Rattle.std.proofs.Common.{◌≡◌, inl, inr, ℕ, List, true, Option, Some, None}
use Rattle.std.specs.Prelude.{◌⊎◌, IsSomeAnd}
use Rattle.worktree_stack.specs.Reading.{TreeAndObjects}
use Rattle.worktree_stack.specs.Setup.{StackSetup}
use Rattle.dir_classify.specs.declared.error.Error.{Error}
use Rattle.dir_classify.specs.declared.error.Error.TheVariants as errors
use Rattle.dir_classify.specs.Layers.{WalkSetting}
use Rattle.dir_classify.specs.Rooted.{end_of_way_to_root}
use Rattle.dir_walk.specs.Refused.{IsLookupErrorOfAskedPath}
use Rattle.dir_walk.specs.Root.{walk_result_from_traversal_root}
use Rattle.dir_walk.specs.WalkRefused.{IsRulesErrorOnWayToRoot, HoldsIfRootIsFileError, IsErrorFromRootBySources, IsWholeWalkErrorBySources, walk_result_or_empty}

-- of the worktree root
pub OnNoRoot-weaker : (P Q : Type 0) (e : Error) → (P → Q) → HoldsIfRootIsFileError P e → HoldsIfRootIsFileError Q e
OnNoRoot-weaker P Q errors.Interrupted f h = tt
OnNoRoot-weaker P Q (errors.WorktreeRootIsFile path) f h = f h
OnNoRoot-weaker P Q (errors.NormalizeRoot path) f h = tt
OnNoRoot-weaker P Q (errors.SymlinkInRoot path worktree_root index) f h = tt
OnNoRoot-weaker P Q (errors.SymlinkMetadata path why) f h = tt
OnNoRoot-weaker P Q (errors.ExcludesAccess x) f h = tt
OnNoRoot-weaker P Q (errors.TooDeep path) f h = tt
OnNoRoot-weaker P Q (errors.ReadDir path why) f h = tt
OnNoRoot-weaker P Q (errors.DirEntry path) f h = tt
OnNoRoot-weaker P Q errors.OutOfMemory f h = tt

module _ (given : WalkSetting) (made : Option StackSetup) (s : TreeAndObjects) (limit : ℕ) (P Q : Type 0) (f : P → Q) where
  -- of the store
  StartRefuses-weaker : (root : List ℕ) (e : Error) → IsErrorFromRootBySources given made s root limit P e → IsErrorFromRootBySources given made s root limit Q e
  StartRefuses-weaker root errors.Interrupted h = tt
  StartRefuses-weaker root (errors.WorktreeRootIsFile path) h = h
  StartRefuses-weaker root (errors.NormalizeRoot path) h = h
  StartRefuses-weaker root (errors.SymlinkInRoot path worktree_root index) h = h
  StartRefuses-weaker root (errors.SymlinkMetadata path why) h = h
  StartRefuses-weaker root (errors.ExcludesAccess x) h = go made h
    where
      or : (U : Type 0) → U ⊎ P → U ⊎ Q
      or U (inl u) = inl u
      or U (inr p) = inr (f p)

      go : (m : Option StackSetup) → IsSomeAnd m (λ rules. IsRulesErrorOnWayToRoot given made s root rules P x ⊎ IsLookupErrorOfAskedPath s rules (walk_result_or_empty (walk_result_from_traversal_root given made s root)) ⊥ x)
          → IsSomeAnd m (λ rules. IsRulesErrorOnWayToRoot given made s root rules Q x ⊎ IsLookupErrorOfAskedPath s rules (walk_result_or_empty (walk_result_from_traversal_root given made s root)) ⊥ x)
      go None k = k
      go (Some rules) (inl k) =
          inl (record { path = k.path; leads = k.leads; access = k.access; refused = k.refused; unread = or ((end_of_way_to_root given made s root).is_unread ≡ true) k.unread })
      go (Some rules) (inr k) = inr k
  StartRefuses-weaker root (errors.TooDeep path) h = h
  StartRefuses-weaker root (errors.ReadDir path why) h = h
  StartRefuses-weaker root (errors.DirEntry path) h = tt
  StartRefuses-weaker root errors.OutOfMemory h = tt

  pub WalkRefuses-weaker : (explicit : Option (List ℕ)) (e : Error) → IsWholeWalkErrorBySources given made s explicit limit P e → IsWholeWalkErrorBySources given made s explicit limit Q e
  WalkRefuses-weaker explicit e (inl h) = inl h
  WalkRefuses-weaker explicit e (inr h) = inr (h.0, h.1, StartRefuses-weaker h.0 e h.2)
