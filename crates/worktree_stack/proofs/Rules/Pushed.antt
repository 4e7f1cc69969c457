-- Which of some directories decides, with one more behind them.
use Rattle.std.specs.Option.{option_or}
use Rattle.std.specs.Prelude.{◌≡◌, ℕ, zero, suc, Bool, true, false, List, [], ◌∷◌, ◌++◌, length, reverse, slice_get, Option, Some, None, is_some, if◌then◌else◌}
use Rattle.std.proofs.Common.{refl, sym, ap, ◌∙◌}
use Rattle.std.proofs.lemmas.List.{reverse-append}
use Rattle.worktree_stack.specs.Excludes.{ExcludeDecision, is_excluding_decision, first_present_decision, first_excluding_decision}
use Rattle.worktree_stack.specs.Setup.{flatten_decision, own_match_of_numbered_directory}

-- the last one has its own match
at-last : (ms : List (Option ExcludeDecision)) (more : Option ExcludeDecision) → own_match_of_numbered_directory (ms ++ more ∷ []) (Some (length ms)) ≡ more
at-last [] more = refl
at-last (m ∷ ms) more = at-last ms more

-- one without a match changes nothing
beside-none : (ms : List (Option ExcludeDecision)) (number : Option ℕ) → own_match_of_numbered_directory (ms ++ None ∷ []) number ≡ own_match_of_numbered_directory ms number
beside-none ms None = refl
beside-none ms (Some i) = go ms i
  where
    go : (ms : List (Option ExcludeDecision)) (i : ℕ) → flatten_decision (slice_get (ms ++ None ∷ []) i) ≡ flatten_decision (slice_get ms i)
    go [] zero = refl
    go [] (suc i) = refl
    go (m ∷ ms) zero = refl
    go (m ∷ ms) (suc i) = go ms i

-- a decision that was there is there still
beside-more : (ms : List (Option ExcludeDecision)) (more : Option ExcludeDecision) (number : Option ℕ) → is_some (own_match_of_numbered_directory ms number) ≡ true
    → own_match_of_numbered_directory (ms ++ more ∷ []) number ≡ own_match_of_numbered_directory ms number
beside-more ms more None some = refl
beside-more ms more (Some i) some = go ms i some
  where
    go : (ms : List (Option ExcludeDecision)) (i : ℕ) → is_some (flatten_decision (slice_get ms i)) ≡ true → flatten_decision (slice_get (ms ++ more ∷ []) i) ≡ flatten_decision (slice_get ms i)
    go [] i some = absurd (cc some)
    go (m ∷ ms) zero some = refl
    go (m ∷ ms) (suc i) some = go ms i some

-- the last one comes first from behind
turned : (ms : List (Option ExcludeDecision)) (more : Option ExcludeDecision) → first_present_decision (reverse (ms ++ more ∷ [])) ≡ option_or more (first_present_decision (reverse ms))
turned ms more = ap first_present_decision (reverse-append ms (more ∷ []))

-- the last one excludes where none before it does
positive-last : (ms : List (Option ExcludeDecision)) (more : Option ExcludeDecision) → first_excluding_decision ms ≡ None → first_excluding_decision (ms ++ more ∷ []) ≡ (if is_excluding_decision more then more else None)
positive-last [] more none = refl
positive-last (None ∷ ms) more none = positive-last ms more none
positive-last (Some d ∷ ms) more none = go (is_excluding_decision (Some d)) (λ rest. positive-last ms more rest) none
  where
    go : (b : Bool) → (first_excluding_decision ms ≡ None → first_excluding_decision (ms ++ more ∷ []) ≡ (if is_excluding_decision more then more else None))
        → (if b then Some d else first_excluding_decision ms) ≡ None → (if b then Some d else first_excluding_decision (ms ++ more ∷ [])) ≡ (if is_excluding_decision more then more else None)
    go true last none = absurd (cc none)
    go false last none = last none

-- one that excludes does so still
positive-before : (ms : List (Option ExcludeDecision)) (more : Option ExcludeDecision) → is_some (first_excluding_decision ms) ≡ true → first_excluding_decision (ms ++ more ∷ []) ≡ first_excluding_decision ms
positive-before [] more some = absurd (cc some)
positive-before (m ∷ ms) more some = go (is_excluding_decision m) (λ rest. positive-before ms more rest) some
  where
    go : (b : Bool) → (is_some (first_excluding_decision ms) ≡ true → first_excluding_decision (ms ++ more ∷ []) ≡ first_excluding_decision ms)
        → is_some (if b then m else first_excluding_decision ms) ≡ true → (if b then m else first_excluding_decision (ms ++ more ∷ [])) ≡ (if b then m else first_excluding_decision ms)
    go true before some = refl
    go false before some = before some

none-is : (d : Option ExcludeDecision) → is_some d ≡ false → d ≡ None
none-is None e = refl
none-is (Some d) e = absurd (cc e)

-- ---- what decides then

pub nearest-more : (ms : List (Option ExcludeDecision)) (more : Option ExcludeDecision) → is_some more ≡ true
    → own_match_of_numbered_directory (ms ++ more ∷ []) (Some (length ms)) ≡ first_present_decision (reverse (ms ++ more ∷ []))
nearest-more ms None some = absurd (cc some)
nearest-more ms (Some d) some = at-last ms (Some d) ∙ sym (turned ms (Some d))

pub nearest-same : (ms : List (Option ExcludeDecision)) (more : Option ExcludeDecision) (number : Option ℕ) → is_some more ≡ false
    → own_match_of_numbered_directory ms number ≡ first_present_decision (reverse ms)
    → own_match_of_numbered_directory (ms ++ more ∷ []) number ≡ first_present_decision (reverse (ms ++ more ∷ []))
nearest-same ms (Some d) number none same = absurd (cc none)
nearest-same ms None number none same = beside-none ms number ∙ same ∙ sym (turned ms None)

pub excluding-same : (ms : List (Option ExcludeDecision)) (more : Option ExcludeDecision) (number : Option ℕ) → is_some (own_match_of_numbered_directory ms number) ≡ true
    → own_match_of_numbered_directory ms number ≡ first_excluding_decision ms → own_match_of_numbered_directory (ms ++ more ∷ []) number ≡ first_excluding_decision (ms ++ more ∷ [])
excluding-same ms more number some same =
    beside-more ms more number some ∙ same ∙ sym (positive-before ms more (sym (ap is_some same) ∙ some))

pub excluding-more : (ms : List (Option ExcludeDecision)) (more : Option ExcludeDecision) (number : Option ℕ) → is_some (own_match_of_numbered_directory ms number) ≡ false
    → own_match_of_numbered_directory ms number ≡ first_excluding_decision ms → is_excluding_decision more ≡ true
    → own_match_of_numbered_directory (ms ++ more ∷ []) (Some (length ms)) ≡ first_excluding_decision (ms ++ more ∷ [])
excluding-more ms more number none same excludes =
    at-last ms more ∙ sym (positive-last ms more (sym same ∙ none-is (own_match_of_numbered_directory ms number) none) ∙ ap (λ (b : Bool). if b then more else None) excludes)

pub excluding-none : (ms : List (Option ExcludeDecision)) (more : Option ExcludeDecision) (number : Option ℕ) → is_some (own_match_of_numbered_directory ms number) ≡ false
    → own_match_of_numbered_directory ms number ≡ first_excluding_decision ms → is_excluding_decision more ≡ false → None ≡ first_excluding_decision (ms ++ more ∷ [])
excluding-none ms more number none same excludes =
    sym (positive-last ms more (sym same ∙ none-is (own_match_of_numbered_directory ms number) none) ∙ ap (λ (b : Bool). if b then more else None) excludes)
