-- Which of some directories decides, by its number.
use Rattle.std.proofs.Common.{◌≡◌, ℕ, suc, ◌+◌, ◌-◌, ◌<◌, ◌≤◌, List, [], ◌∷◌, ◌++◌, length, take, drop, reverse, get_or, true, Option, Some, None, refl, sym, ap, ◌∙◌, arith}
use Rattle.std.specs.Prelude.{is_some}
use Rattle.std.proofs.Math.Seq.{drop-cons}
use Rattle.std.proofs.lemmas.List.{take_more, reverse-append}
use Rattle.std.proofs.lemmas.Option.{slice_get-get_or}
use Rattle.worktree_stack.specs.Excludes.{ExcludeDecision, is_excluding_decision, first_present_decision, first_excluding_decision}
use Rattle.worktree_stack.specs.Setup.{flatten_decision, own_match_of_numbered_directory}

numbered : (ms : List (Option ExcludeDecision)) (i : ℕ) (d : Option ExcludeDecision) → i < length ms → own_match_of_numbered_directory ms (Some i) ≡ get_or ms i d
numbered ms i d low = ap flatten_decision (slice_get-get_or ms i d low)

some-first : (d : Option ExcludeDecision) (more : List (Option ExcludeDecision)) → is_some d ≡ true → d ≡ first_present_decision (d ∷ more)
some-first None more e = absurd (cc)
some-first (Some d) more e = refl

positive-first : (d : Option ExcludeDecision) (more : List (Option ExcludeDecision)) → is_excluding_decision d ≡ true → d ≡ first_excluding_decision (d ∷ more)
positive-first d more e = rw e refl

-- it has a match, and none of those after it has one
pub nearest-is : (ms : List (Option ExcludeDecision)) (n : ℕ) (d : Option ExcludeDecision) → 0 < n → n ≤ length ms → is_some (get_or ms (n - 1) d) ≡ true
    → first_present_decision (reverse (take n ms)) ≡ first_present_decision (reverse ms) → own_match_of_numbered_directory ms (Some (n - 1)) ≡ first_present_decision (reverse ms)
nearest-is ms n d some low has none_later =
    let i : ℕ = n - 1 in
    let x : Option ExcludeDecision = get_or ms i d in
    let one_more : i + 1 ≡ n = omega (arith, some) in
    let split : take n ms ≡ take i ms ++ x ∷ [] = ap (λ k. take k ms) (sym one_more) ∙ take_more ms i d (omega (arith, some, low)) in
    let turned : reverse (take n ms) ≡ x ∷ reverse (take i ms) = ap reverse split ∙ reverse-append (take i ms) (x ∷ []) in
    numbered ms i d (omega (arith, some, low)) ∙ some-first x (reverse (take i ms)) has ∙ sym (ap first_present_decision turned) ∙ none_later

-- it excludes, and none of those before it does
pub first-is : (ms : List (Option ExcludeDecision)) (i : ℕ) (d : Option ExcludeDecision) → i < length ms → is_excluding_decision (get_or ms i d) ≡ true
    → first_excluding_decision (drop i ms) ≡ first_excluding_decision ms → own_match_of_numbered_directory ms (Some i) ≡ first_excluding_decision ms
first-is ms i d low excludes none_before =
    numbered ms i d low ∙ positive-first (get_or ms i d) (drop (suc i) ms) excludes ∙ sym (ap first_excluding_decision (drop-cons ms i d low)) ∙ none_before
