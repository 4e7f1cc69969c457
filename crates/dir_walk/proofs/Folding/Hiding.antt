-- What the options hide is not given.
use Rattle.std.proofs.Common.{◌≡◌, ℕ, List, [], ◌∷◌, true, not, cond, Bool, Option, Some, None, count_by, ap, arith}
use Rattle.dir_classify.specs.Chosen.{WalkOptions}
use Rattle.dir_walk.specs.Emissions.{Emission, is_entry_shown_by_options}
use Rattle.dir_walk.specs.Given.{emissions_or_empty, append_emission_if_told}
use Rattle.dir_walk.specs.Puts.{AddsNoHiddenEmission, count_hidden_emissions}
use Rattle.dir_walk.proofs.Order.Counts.{count_by-append, count_by-cons}

pub AddsShown-same : (o : WalkOptions) {a b : Option (List Emission)} → b ≡ a → AddsNoHiddenEmission o a b
AddsShown-same o is = ap {B = ℕ} (λ (x : Option (List Emission)). count_hidden_emissions o (emissions_or_empty x)) is

-- one entry that is shown is given
pub AddsShown-one : (o : WalkOptions) (a b : Option (List Emission)) (x : Emission) → b ≡ append_emission_if_told a x → is_entry_shown_by_options o x.0 ≡ true → AddsNoHiddenEmission o a b
AddsShown-one o None b x is shown = AddsShown-same o is
AddsShown-one o (Some xs) b x is shown =
    let hides : Emission → Bool = λ y. not (is_entry_shown_by_options o y.0) in
    let none : count_by hides (x ∷ []) ≡ 0 = omega (arith, count_by-cons hides x [], ap {B = ℕ} (λ (b : Bool). cond (not b) 1 0) shown) in
    omega (arith, AddsShown-same o is, count_by-append hides xs (x ∷ []), none)
