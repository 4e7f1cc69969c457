-- What a part is refused with, the whole is refused with.
use Rattle.std.proofs.Common.{◌≡◌, inl, inr, Result, Err}
use Rattle.git_places.specs.Answers.{IsFoundOrFailed}

-- a refusal is that of the whole where one of a part is
pub passes : {A B E : Type 0} (fault memory e : E) (given : Result A E) (found : Result B E)
    → IsFoundOrFailed {A = A} fault memory (Err e) given → (given ≡ Err e → found ≡ Err e) → IsFoundOrFailed {A = B} fault memory (Err e) found
passes fault memory e given found (inl h) to = inl (to h)
passes fault memory e given found (inr h) to = inr h
