-- Refusals that are not for what lies too deep.
use Rattle.std.proofs.Common.{◌≡◌, ℕ, List, Option, Result, Ok, Err, refl, ap}
use Rattle.std.specs.Prelude.{IfErr}
use Rattle.worktree_stack.specs.Setup.{StackSetup}
use Rattle.dir_classify.specs.declared.classify.RootOutcome.{RootOutcome}
use Rattle.dir_classify.specs.declared.error.Error.{Error}
use Rattle.dir_classify.specs.declared.error.Error.TheVariants as errors
use Rattle.dir_classify.specs.Layers.{WalkSetting}
use Rattle.dir_classify.specs.Refused as classes
use Rattle.dir_classify.specs.Rooted.{HoldsOfPathOnWay}
use Rattle.dir_walk.specs.declared.handed.Stop.{Stop}
use Rattle.dir_walk.specs.declared.handed.Stop.TheVariants.{Broken, Refused}
use Rattle.dir_walk.specs.Given.{HoldsOfErrorIfRefused}
use Rattle.dir_walk.specs.Kept.{RefusesOnlyOutOfMemory}
use Rattle.dir_walk.specs.Rooting.{IsErrorOfTraversalRoot}
use Rattle.dir_walk.specs.Starts.{IsNonDirectoryRootError}
use Rattle.dir_walk.specs.Unopened.{count_too_deep_error, count_too_deep_in_walk}

-- want of memory
pub shallow-memory : {T : Type 0} (result : Result T Stop) → RefusesOnlyOutOfMemory result → count_too_deep_in_walk result ≡ 0
shallow-memory (Ok done) memory = refl
shallow-memory (Err Broken) memory = refl
shallow-memory (Err (Refused e)) memory = ap {B = ℕ} count_too_deep_error memory

-- a class
pub shallow-class : (made : Option StackSetup) (path : List ℕ) (e : Error) → classes.IsClassErrorAboutPath made path e → count_too_deep_error e ≡ 0
shallow-class made path errors.Interrupted about = refl
shallow-class made path (errors.WorktreeRootIsFile root) about = refl
shallow-class made path (errors.NormalizeRoot root) about = refl
shallow-class made path (errors.SymlinkInRoot root worktree_root index) about = refl
shallow-class made path (errors.SymlinkMetadata missing why) about = refl
shallow-class made path (errors.ExcludesAccess e) about = refl
shallow-class made path (errors.TooDeep directory) about = absurd about
shallow-class made path (errors.ReadDir directory why) about = refl
shallow-class made path (errors.DirEntry directory) about = refl
shallow-class made path errors.OutOfMemory about = refl

-- one on the way to the traversal root
pub shallow-way : (made : Option StackSetup) (root : List ℕ) (e : Error) → HoldsOfPathOnWay root (λ path. classes.IsClassErrorAboutPath made path e) → count_too_deep_error e ≡ 0
shallow-way made root e (path, leads, about) = shallow-class made path e about

-- there is no traversal root
pub shallow-outside : (given : WalkSetting) (explicit : Option (List ℕ)) (e : Error) → IsErrorOfTraversalRoot given explicit e → count_too_deep_error e ≡ 0
shallow-outside given explicit errors.Interrupted about = refl
shallow-outside given explicit (errors.WorktreeRootIsFile at) about = refl
shallow-outside given explicit (errors.NormalizeRoot root) about = refl
shallow-outside given explicit (errors.SymlinkInRoot whole worktree_root index) about = refl
shallow-outside given explicit (errors.SymlinkMetadata full why) about = refl
shallow-outside given explicit (errors.ExcludesAccess e) about = refl
shallow-outside given explicit (errors.TooDeep at) about = absurd about
shallow-outside given explicit (errors.ReadDir at why) about = refl
shallow-outside given explicit (errors.DirEntry at) about = refl
shallow-outside given explicit errors.OutOfMemory about = refl

-- or it is not entered
shallow-root : (top root : List ℕ) (reached : RootOutcome) (e : Error) → IsNonDirectoryRootError top root reached e → count_too_deep_error e ≡ 0
shallow-root top root reached errors.Interrupted only = refl
shallow-root top root reached (errors.WorktreeRootIsFile path) only = refl
shallow-root top root reached (errors.NormalizeRoot path) only = refl
shallow-root top root reached (errors.SymlinkInRoot path worktree_root index) only = refl
shallow-root top root reached (errors.SymlinkMetadata path why) only = refl
shallow-root top root reached (errors.ExcludesAccess e) only = refl
shallow-root top root reached (errors.TooDeep path) only = absurd only
shallow-root top root reached (errors.ReadDir path why) only = refl
shallow-root top root reached (errors.DirEntry path) only = refl
shallow-root top root reached errors.OutOfMemory only = refl

pub shallow-put : {T : Type 0} (top root : List ℕ) (reached : RootOutcome) (result : Result T Stop) → IfErr result (HoldsOfErrorIfRefused (IsNonDirectoryRootError top root reached)) → count_too_deep_in_walk result ≡ 0
shallow-put top root reached (Ok done) only = refl
shallow-put top root reached (Err Broken) only = refl
shallow-put top root reached (Err (Refused e)) only = shallow-root top root reached e only
