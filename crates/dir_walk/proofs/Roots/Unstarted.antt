-- What holds where there is nothing to start from.
use Rattle.std.proofs.Common.{inl, inr, ℕ, List, Option, sym, subst}
use Rattle.worktree_stack.specs.Setup.{StackSetup}
use Rattle.dir_classify.specs.declared.error.Error.{Error}
use Rattle.dir_classify.specs.declared.error.Error.TheVariants as errors
use Rattle.dir_walk.specs.Refused.{IsWalkErrorWithinLimit, IsWalkErrorFromRoot}
use Rattle.dir_walk.specs.WalkRefused.{HoldsIfNothingStarted}

pub on-no-start : {P : Type 0} → P → (e : Error) → HoldsIfNothingStarted P e
on-no-start holds errors.Interrupted = tt
on-no-start holds (errors.WorktreeRootIsFile root) = holds
on-no-start holds (errors.NormalizeRoot root) = holds
on-no-start holds (errors.SymlinkInRoot whole worktree_root index) = holds
on-no-start holds (errors.SymlinkMetadata full why) = holds
on-no-start holds (errors.ExcludesAccess x) = tt
on-no-start holds (errors.TooDeep at) = tt
on-no-start holds (errors.ReadDir at why) = tt
on-no-start holds (errors.DirEntry at) = tt
on-no-start holds errors.OutOfMemory = tt

pub no-start-weaker : {P Q : Type 0} → (P → Q) → (e : Error) → HoldsIfNothingStarted P e → HoldsIfNothingStarted Q e
no-start-weaker f errors.Interrupted h = tt
no-start-weaker f (errors.WorktreeRootIsFile root) h = f h
no-start-weaker f (errors.NormalizeRoot root) h = f h
no-start-weaker f (errors.SymlinkInRoot whole worktree_root index) h = f h
no-start-weaker f (errors.SymlinkMetadata full why) h = f h
no-start-weaker f (errors.ExcludesAccess x) h = tt
no-start-weaker f (errors.TooDeep at) h = tt
no-start-weaker f (errors.ReadDir at why) h = tt
no-start-weaker f (errors.DirEntry at) h = tt
no-start-weaker f errors.OutOfMemory h = tt

-- what is walked from a traversal root is not refused so
pub no-start-about : (P : Type 0) (made : Option StackSetup) (top : List ℕ) (limit : ℕ) (e : Error) → IsWalkErrorWithinLimit made top limit e → HoldsIfNothingStarted P e
no-start-about P made top limit errors.Interrupted about = tt
no-start-about P made top limit (errors.WorktreeRootIsFile root) about = absurd about
no-start-about P made top limit (errors.NormalizeRoot root) about = absurd about
no-start-about P made top limit (errors.SymlinkInRoot whole worktree_root index) about = absurd about
no-start-about P made top limit (errors.SymlinkMetadata full why) about = absurd about
no-start-about P made top limit (errors.ExcludesAccess x) about = tt
no-start-about P made top limit (errors.TooDeep at) about = tt
no-start-about P made top limit (errors.ReadDir at why) about = tt
no-start-about P made top limit (errors.DirEntry at) about = tt
no-start-about P made top limit errors.OutOfMemory about = tt

pub no-start-from : (P : Type 0) (made : Option StackSetup) (top root : List ℕ) (limit : ℕ) (e : Error) → IsWalkErrorFromRoot made top root limit e → HoldsIfNothingStarted P e
no-start-from P made top root limit e (inl about) = no-start-about P made top limit e about
no-start-from P made top root limit e (inr (path, is, deep)) = subst (HoldsIfNothingStarted P) (sym is) tt
