-- Where a lookup stopped, handed on.
use Rattle.std.proofs.Common.{◌≡◌, ◌≤◌, ℕ, Bool, List, Option, Some, None, subst, arith}
use Rattle.std.specs.Prelude.{Result}
use Rattle.gitbase_core.specs.Objects.{ObjectsById}
use Rattle.gitbase_core.specs.Path.{components}
use Rattle.worktree_fs.specs.Causes.{CountIncreasedOrSaturated}
use Rattle.worktree_fs.specs.PathStack.{DelegateCall, delegate_calls_of_lookup}
use Rattle.worktree_fs.specs.Tree.{Names}
use Rattle.worktree_stack.specs.declared.error.AtPathError.{AtPathError}
use Rattle.worktree_stack.specs.declared.error.AtPathError.TheVariants as inner
use Rattle.worktree_stack.specs.declared.error.BlobWhy.{BlobWhy}
use Rattle.worktree_stack.specs.declared.error.BlobWhy.TheVariants as blob_whys
use Rattle.worktree_stack.specs.declared.error.RulesWhy.{RulesWhy}
use Rattle.worktree_stack.specs.declared.error.RulesWhy.TheVariants as whys
use Rattle.worktree_stack.specs.declared.statistics.Statistics.{Statistics}
use Rattle.worktree_stack.specs.Reading.{RulesRefusal, TreeAndObjects}
use Rattle.worktree_stack.specs.Refused.{IsBlobRefusedForDirectory, ExplainsRefusedBlob, IsFileRefusedForDirectory, ExplainsRefusedFile}
use Rattle.worktree_stack.specs.Stacked.{StackModel, setup_of_stack}
use Rattle.worktree_stack.specs.Steps.{StopsAtRefusedDirectory, StopsLookupByError}
use Rattle.dir_classify.specs.declared.error.Error.{Error}
use Rattle.dir_classify.specs.Refused.{HoldsOfExcludesError, StopsAtRefusedDirectoryIfGiven, error_from_lookup_error}
use Rattle.dir_classify.proofs.Classed.{OnLookup-weaker}

file-why : {A : Type 0} (told : Option Names) (holds : Option ObjectsById) (P Q : Type 0) (read : TreeAndObjects → Result A RulesRefusal) (path : List ℕ) (follow : Bool) (why : RulesWhy) → (P → Q)
    → ExplainsRefusedFile told holds P read path follow why → ExplainsRefusedFile told holds Q read path follow why
file-why told holds P Q read path follow whys.Link f h = h
file-why told holds P Q read path follow whys.LinkLimit f h = h
file-why told holds P Q read path follow whys.Special f h = h
file-why told holds P Q read path follow whys.Fault f h = f h

blob-why : {A : Type 0} (told : Option Names) (holds : Option ObjectsById) (P Q : Type 0) (read : TreeAndObjects → Result A RulesRefusal) (id : List ℕ) (why : BlobWhy) → (P → Q)
    → ExplainsRefusedBlob told holds P read id why → ExplainsRefusedBlob told holds Q read id why
blob-why told holds P Q read id blob_whys.Missing f h = h
blob-why told holds P Q read id blob_whys.NotABlob f h = h
blob-why told holds P Q read id blob_whys.Fault f h = f h

at-weaker : (told : Option Names) (holds : Option ObjectsById) (calls : List DelegateCall) (old new : StackModel) (P Q : List ℕ → Type 0) (Counts : List ℕ → Statistics → Statistics → Type 0)
    → ((d : List ℕ) → P d → Q d) → StopsAtRefusedDirectory told holds calls old new P Counts → StopsAtRefusedDirectory told holds calls old new Q Counts
at-weaker told holds calls old new P Q Counts f at =
    record { directory = at.directory; done = at.done; before = at.before; stopped = at.stopped; read = at.read; tried = at.tried; refused = f at.directory at.refused }

stops-weaker : (told : Option Names) (holds : Option ObjectsById) (P Q P' Q' : Type 0) (calls : List DelegateCall) (old new : StackModel) (e : AtPathError) → (P → P') → (Q → Q')
    → StopsLookupByError told holds P Q calls old new e → StopsLookupByError told holds P' Q' calls old new e
stops-weaker told holds P Q P' Q' calls old new inner.NotNormal f g h = h
stops-weaker told holds P Q P' Q' calls old new (inner.Component why) f g h = h
stops-weaker told holds P Q P' Q' calls old new (inner.Collision path) f g h = h
stops-weaker told holds P Q P' Q' calls old new (inner.Directory path why) f g h = h
stops-weaker told holds P Q P' Q' calls old new (inner.RulesFile path why) f g h =
    at-weaker told holds calls old new (IsFileRefusedForDirectory told holds P (setup_of_stack old) path why) (IsFileRefusedForDirectory told holds P' (setup_of_stack old) path why) _
    (λ d r. record { follow = r.follow; place = r.place; why_is = file-why told holds P P' _ path r.follow why f r.why_is }) h
stops-weaker told holds P Q P' Q' calls old new (inner.Blob id why) f g h =
    at-weaker told holds calls old new (IsBlobRefusedForDirectory told holds Q (setup_of_stack old) id why) (IsBlobRefusedForDirectory told holds Q' (setup_of_stack old) id why) _
    (λ d r. record { path = r.path; place = r.place; why_is = blob-why told holds Q Q' _ id why g r.why_is }) h
stops-weaker told holds P Q P' Q' calls old new inner.OutOfMemory f g h = h

pub stopped-weaker : (told : Option Names) (holds : Option ObjectsById) (P Q P' Q' : Type 0) (path : List ℕ) (old new : Option StackModel) (e : AtPathError) → (P → P') → (Q → Q')
    → StopsAtRefusedDirectoryIfGiven told holds P Q path old new e → StopsAtRefusedDirectoryIfGiven told holds P' Q' path old new e
stopped-weaker told holds P Q P' Q' path None new e f g h = h
stopped-weaker told holds P Q P' Q' path (Some old) None e f g h = h
stopped-weaker told holds P Q P' Q' path (Some old) (Some new) e f g h = stops-weaker told holds P Q P' Q' (delegate_calls_of_lookup old.at (components path)) old new e f g h

-- after a step in which faults may have been counted
pub stopped-later : (told0 told1 : Option Names) (holds0 holds1 : Option ObjectsById) (n0 n1 n2 m0 m1 m2 : ℕ) (path : List ℕ) (old new : Option StackModel) (e : Error)
    → told1 ≡ told0 → holds1 ≡ holds0 → n0 ≤ n1 → m0 ≤ m1
    → HoldsOfExcludesError (StopsAtRefusedDirectoryIfGiven told1 holds1 (CountIncreasedOrSaturated n1 n2) (CountIncreasedOrSaturated m1 m2) path old new) e → HoldsOfExcludesError (StopsAtRefusedDirectoryIfGiven told0 holds0 (CountIncreasedOrSaturated n0 n2) (CountIncreasedOrSaturated m0 m2) path old new) e
stopped-later told0 told1 holds0 holds1 n0 n1 n2 m0 m1 m2 path old new e same_tree same_store n m h =
    OnLookup-weaker (StopsAtRefusedDirectoryIfGiven told0 holds0 (CountIncreasedOrSaturated n1 n2) (CountIncreasedOrSaturated m1 m2) path old new) (StopsAtRefusedDirectoryIfGiven told0 holds0 (CountIncreasedOrSaturated n0 n2) (CountIncreasedOrSaturated m0 m2) path old new) e
    (λ a. stopped-weaker told0 holds0 (CountIncreasedOrSaturated n1 n2) (CountIncreasedOrSaturated m1 m2) (CountIncreasedOrSaturated n0 n2) (CountIncreasedOrSaturated m0 m2) path old new a (λ rose. omega (arith, n, rose)) (λ rose. omega (arith, m, rose)))
    (subst (λ (t : Option Names). HoldsOfExcludesError (StopsAtRefusedDirectoryIfGiven t holds0 (CountIncreasedOrSaturated n1 n2) (CountIncreasedOrSaturated m1 m2) path old new) e) same_tree
    (subst (λ (t : Option ObjectsById). HoldsOfExcludesError (StopsAtRefusedDirectoryIfGiven told1 t (CountIncreasedOrSaturated n1 n2) (CountIncreasedOrSaturated m1 m2) path old new) e) same_store h))

-- as the refusal of a class
pub stopped-access : (P : AtPathError → Type 0) (e : AtPathError) → P e → HoldsOfExcludesError P (error_from_lookup_error e)
stopped-access P inner.OutOfMemory h = tt
stopped-access P inner.NotNormal h = h
stopped-access P (inner.Component why) h = h
stopped-access P (inner.Collision path) h = h
stopped-access P (inner.Directory path why) h = h
stopped-access P (inner.RulesFile path why) h = h
stopped-access P (inner.Blob id why) h = h
