-- What holds of refusals.
use Rattle.std.specs.Prelude.{◌≡◌, ℕ, ◌≤◌, Bool, List, Option, Result, Ok, Err, IsErrAnd}
use Rattle.std.proofs.Common.{ap, arith}
use Rattle.gitbase_core.specs.Objects.{ObjectsById}
use Rattle.worktree_fs.specs.Tree.{Names}
use Rattle.worktree_fs.specs.Causes.{CountIncreasedOrSaturated}
use Rattle.worktree_stack.specs.declared.error.AtPathError.{AtPathError}
use Rattle.worktree_stack.specs.declared.error.AtPathError.TheVariants as errors
use Rattle.worktree_stack.specs.declared.error.RulesWhy.{RulesWhy}
use Rattle.worktree_stack.specs.declared.error.RulesWhy.TheVariants as whys
use Rattle.worktree_stack.specs.declared.error.BlobWhy.{BlobWhy}
use Rattle.worktree_stack.specs.declared.error.BlobWhy.TheVariants as blob_whys
use Rattle.worktree_stack.specs.Reading.{TreeAndObjects, RulesRefusal, RulesPlace}
use Rattle.worktree_stack.specs.Refused.{HoldsByRulesError, ExplainsRefusedFile, ExplainsRefusedBlob, IsFileRefusedAmongPlaces, IsBlobRefusedAmongPlaces}

-- what is said of a refusal follows from something else that is said of it
pub on-weaker : {File File' : List ℕ → RulesWhy → Type 0} {Blob Blob' : List ℕ → BlobWhy → Type 0} {Memory Memory' : Type 0} (e : AtPathError)
    → ((path : List ℕ) (why : RulesWhy) → File path why → File' path why) → ((id : List ℕ) (why : BlobWhy) → Blob id why → Blob' id why) → (Memory → Memory')
    → HoldsByRulesError File Blob Memory e → HoldsByRulesError File' Blob' Memory' e
on-weaker errors.NotNormal f b m said = said
on-weaker (errors.Component why) f b m said = said
on-weaker (errors.Collision path) f b m said = said
on-weaker (errors.Directory path why) f b m said = said
on-weaker (errors.RulesFile path why) f b m said = f path why said
on-weaker (errors.Blob id why) f b m said = b id why said
on-weaker errors.OutOfMemory f b m said = m said

-- and from two things
pub on-both : {File File' File'' : List ℕ → RulesWhy → Type 0} {Blob Blob' Blob'' : List ℕ → BlobWhy → Type 0} {Memory Memory' Memory'' : Type 0} (e : AtPathError)
    → ((path : List ℕ) (why : RulesWhy) → File path why → File' path why → File'' path why)
    → ((id : List ℕ) (why : BlobWhy) → Blob id why → Blob' id why → Blob'' id why) → (Memory → Memory' → Memory'')
    → HoldsByRulesError File Blob Memory e → HoldsByRulesError File' Blob' Memory' e → HoldsByRulesError File'' Blob'' Memory'' e
on-both errors.NotNormal f b m said also = said
on-both (errors.Component why) f b m said also = said
on-both (errors.Collision path) f b m said also = said
on-both (errors.Directory path why) f b m said also = said
on-both (errors.RulesFile path why) f b m said also = f path why said also
on-both (errors.Blob id why) f b m said also = b id why said also
on-both errors.OutOfMemory f b m said also = m said also

-- a failure that was counted later was counted
pub rose-earlier : (a b c : ℕ) → a ≤ b → CountIncreasedOrSaturated b c → CountIncreasedOrSaturated a c
rose-earlier a b c low rose = omega (arith, low, rose)

pub rose-later : (a b c : ℕ) → CountIncreasedOrSaturated a b → b ≤ c → CountIncreasedOrSaturated a c
rose-later a b c rose low = omega (arith, low, rose)

module _ {A : Type 0} (told : Option Names) (holds : Option ObjectsById) (Failed Failed' : Type 0) (so : Failed → Failed') (places : List RulesPlace) (read : TreeAndObjects → Result A RulesRefusal) where
  file-why : (path : List ℕ) (follow : Bool) (why : RulesWhy) → ExplainsRefusedFile told holds Failed read path follow why → ExplainsRefusedFile told holds Failed' read path follow why
  file-why path follow whys.Link is = is
  file-why path follow whys.LinkLimit is = is
  file-why path follow whys.Special is = is
  file-why path follow whys.Fault is = so is

  pub file-weaker : (path : List ℕ) (why : RulesWhy) → IsFileRefusedAmongPlaces told holds Failed places read path why → IsFileRefusedAmongPlaces told holds Failed' places read path why
  file-weaker path why r = record { follow = r.follow; place = r.place; why_is = file-why path r.follow why r.why_is }

  blob-why : (id : List ℕ) (why : BlobWhy) → ExplainsRefusedBlob told holds Failed read id why → ExplainsRefusedBlob told holds Failed' read id why
  blob-why id blob_whys.Missing is = is
  blob-why id blob_whys.NotABlob is = is
  blob-why id blob_whys.Fault is = so is

  pub blob-weaker : (id : List ℕ) (why : BlobWhy) → IsBlobRefusedAmongPlaces told holds Failed places read id why → IsBlobRefusedAmongPlaces told holds Failed' places read id why
  blob-weaker id why r = record { path = r.path; place = r.place; why_is = blob-why id why r.why_is }

-- what is refused is an error
pub is_err : {T : Type 0} (r : Result T AtPathError) (e : AtPathError) → IsErrAnd r (λ x. x ≡ e) → r ≡ Err e
is_err (Ok v) e said = absurd said
is_err (Err x) e said = ap Err said
