-- What holds of a stack in each state.
use Rattle.std.specs.Prelude.{◌≡◌, ◌||◌, not, Bool, true, false, Option, Some, None, is_some}
use Rattle.std.proofs.Common.{refl, ap, ◌∙◌}
use Rattle.worktree_stack.specs.declared.state.Checkout.{Checkout}
use Rattle.worktree_stack.specs.Setup.{StackSetup, has_excludes, keeps_tree_in_lookups}

or-true : (b : Bool) → (b || true) ≡ true
or-true true = refl
or-true false = refl

-- what holds where lookups leave the tree, and where they make directories
pub in-each : (P : Type 0) (made : StackSetup) (checkout : Option Checkout) → made.checkout ≡ checkout → (keeps_tree_in_lookups made ≡ true → P)
    → ((found : Checkout) → checkout ≡ Some found → P) → P
in-each P made None is plain making = plain (ap (λ (c : Option Checkout). has_excludes made || not (is_some c)) is ∙ or-true (has_excludes made))
in-each P made (Some found) is plain making = making found refl
