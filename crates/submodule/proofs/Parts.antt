-- That a part stands in a text, as a test and as a place.
use Rattle.std.proofs.Common.{◌≡◌, ℕ, ◌+◌, Bool, List, length, refl, arith}
use Rattle.std.specs.Bool.{Decides}
use Rattle.std.proofs.lemmas.Bool.Decides.{Decides-below_or, same_from_decides}
use Rattle.bstr.specs.Find.{occurs_at, OccursAt}
use Rattle.bstr.specs.Text.{Contains}
use Rattle.memchr.proofs.lemmas.MatchLemmas.{occurs_at-true, OccursAt-true}
use Rattle.glob_rules.specs.Glob.{any_number_below_passes}
use Rattle.submodule.specs.Texts.{contains}

contains-decides : (part text : List ℕ) → Decides (contains part text) (Contains text part)
contains-decides part text =
    let some = Decides-below_or (occurs_at text part) (OccursAt text part) (any_number_below_passes (occurs_at text part)) (λ k. (OccursAt-true text part k, occurs_at-true text part k)) refl (λ _. refl) (length text + 1) in (
      λ h. let found = some.0 h in (found.0, found.2),
      λ h. some.1 (h.0, omega (arith, h.1.fits), h.1),
    )

-- the test that a search decides is this one
pub same_as_contains : (part text : List ℕ) (b : Bool) → Decides b (Contains text part) → b ≡ contains part text
same_as_contains part text b decides = same_from_decides b (contains part text) decides (contains-decides part text)
