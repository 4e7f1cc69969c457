-- What a reader gave below the bound at which it was cut off is all that it had.
use Rattle.std.proofs.Common.{◌≡◌, ◌<◌, ◌≤◌, ℕ, List, Option, Some, None, [], ◌++◌, length, take, min, ap, ◌∙◌, arith}
use Rattle.std.specs.Prelude.{IfSome, IfOk, MatchResult, Result, Ok, Err}
use Rattle.std.specs.Option.{option_map}
use Rattle.std.proofs.lemmas.List.{take_all, length-take}

pub all_given : (known : Option (List ℕ)) (bound : ℕ) (start taken : List ℕ) → start ≡ []
    → IfSome (option_map (take bound) known) (λ given. taken ≡ start ++ given) → length taken < bound → IfSome known (λ given. taken ≡ given)
all_given None bound start taken nothing e few = tt
all_given (Some given) bound start taken nothing e few =
    let is : taken ≡ take bound given = e ∙ ap (λ (l : List ℕ). l ++ take bound given) nothing in
    let cut : length taken ≡ min bound (length given) = ap (λ (l : List ℕ). length l) is ∙ length-take bound given in
    let fits : length given ≤ bound = omega (arith, cut, few) in
    is ∙ take_all bound given fits

-- what holds of each answer that a call may give holds where it answers
pub if_answered : {T E : Type 0} (r : Result T E) (May Holds : T → Type 0) (Refuses : E → Type 0) → ((x : T) → May x → Holds x) → MatchResult r May Refuses → IfOk r Holds
if_answered (Ok x) May Holds Refuses weaker m = weaker x m
if_answered (Err e) May Holds Refuses weaker m = tt
