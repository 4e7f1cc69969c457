-- A refusal, said over less that is told, or of more that failed.
use Rattle.std.proofs.Common.{ℕ, Bool, List, Option}
use Rattle.std.specs.Prelude.{Result}
use Rattle.gitbase_core.specs.Objects.{ObjectsById}
use Rattle.worktree_fs.specs.Tree.{Names}
use Rattle.worktree_stack.specs.declared.error.AtPathError.{AtPathError}
use Rattle.worktree_stack.specs.declared.error.RulesWhy.{RulesWhy}
use Rattle.worktree_stack.specs.declared.error.RulesWhy.TheVariants as whys
use Rattle.worktree_stack.specs.declared.error.BlobWhy.{BlobWhy}
use Rattle.worktree_stack.specs.declared.error.BlobWhy.TheVariants as blob_whys
use Rattle.worktree_stack.specs.Setup.{StackSetup}
use Rattle.worktree_stack.specs.Reading.{TreeAndObjects, Tells, RulesRefusal, RulesPlace, places_of_directory, rules_texts_of_directory}
use Rattle.worktree_stack.specs.Refused.{ExplainsRefusedFile, ExplainsRefusedBlob, IsFileRefusedAmongPlaces, IsBlobRefusedAmongPlaces, ExplainsLookupError}
use Rattle.worktree_stack.proofs.Refusals.{on-weaker}

module _ (told told' : Option Names) (holds holds' : Option ObjectsById) (older : (s : TreeAndObjects) → Tells told' holds' s → Tells told holds s) where
  module _ {A : Type 0} (Failed Failed' : Type 0) (so : Failed → Failed') (places : List RulesPlace) (read : TreeAndObjects → Result A RulesRefusal) where
    file-why : (path : List ℕ) (follow : Bool) (why : RulesWhy) → ExplainsRefusedFile told holds Failed read path follow why → ExplainsRefusedFile told' holds' Failed' read path follow why
    file-why path follow whys.Link is = (is.0, λ s tells. is.1 s (older s tells))
    file-why path follow whys.LinkLimit is = λ s tells. is s (older s tells)
    file-why path follow whys.Special is = λ s tells. is s (older s tells)
    file-why path follow whys.Fault is = so is

    blob-why : (id : List ℕ) (why : BlobWhy) → ExplainsRefusedBlob told holds Failed read id why → ExplainsRefusedBlob told' holds' Failed' read id why
    blob-why id blob_whys.Missing is = λ s tells. is s (older s tells)
    blob-why id blob_whys.NotABlob is = λ s tells. is s (older s tells)
    blob-why id blob_whys.Fault is = so is

    file : (path : List ℕ) (why : RulesWhy) → IsFileRefusedAmongPlaces told holds Failed places read path why → IsFileRefusedAmongPlaces told' holds' Failed' places read path why
    file path why r = record { follow = r.follow; place = r.place; why_is = file-why path r.follow why r.why_is }

    blob : (id : List ℕ) (why : BlobWhy) → IsBlobRefusedAmongPlaces told holds Failed places read id why → IsBlobRefusedAmongPlaces told' holds' Failed' places read id why
    blob id why r = record { path = r.path; place = r.place; why_is = blob-why id why r.why_is }

  -- of a lookup
  pub Refuses-weaker : (TreeFailed TreeFailed' : Type 0) → (TreeFailed → TreeFailed') → (StoreFailed StoreFailed' : Type 0) → (StoreFailed → StoreFailed') → (made : StackSetup) (names : List (List ℕ)) (e : AtPathError)
      → ExplainsLookupError told holds TreeFailed StoreFailed made names e → ExplainsLookupError told' holds' TreeFailed' StoreFailed' made names e
  Refuses-weaker T T' tree S S' store made names e refused =
      on-weaker e
      (λ path why r. record { ancestor = r.ancestor; rest = r.rest; above = r.above; holds = file T T' tree (places_of_directory made _) (λ s. rules_texts_of_directory made s _) path why r.holds })
      (λ id why r. record { ancestor = r.ancestor; rest = r.rest; above = r.above; holds = blob S S' store (places_of_directory made _) (λ s. rules_texts_of_directory made s _) id why r.holds })
      (λ m. m) refused
