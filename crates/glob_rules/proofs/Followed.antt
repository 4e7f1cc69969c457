-- What a search behind stars, and one behind `**/`, tells as it goes from one start to the next.
use Rattle.std.proofs.Common.{◌≡◌, ℕ, ◌+◌, ◌-◌, ◌≤◌, ◌<◌, inl, inr, ◌↔◌, Bool, true, false, List, length, take, drop, get_or, IsTrue, refl, ap, sym, ◌∙◌, subst, arith}
use Rattle.std.proofs.lemmas.Bool.{false≢true, cases_lt}
use Rattle.std.proofs.lemmas.List.{drop-take, drop-drop, length-drop, get_or-drop, nil_from_length}
use Rattle.std.proofs.lemmas.List.Elements.{All-more, All-nil, All-drop}
use Rattle.glob_rules.specs.declared.WildMode.{WildMode}
use Rattle.glob_rules.specs.declared.glob.verdict.Outcome.{Outcome}
use Rattle.glob_rules.specs.declared.glob.verdict.Outcome.TheVariants.{Matched, Differs, Never, Directories}
use Rattle.glob_rules.specs.Glob.{RestOfPatternMatches, may_wildcard_match_byte}
use Rattle.glob_rules.specs.Step.{MatchesAfterStars, MatchesAfterDirectories}
use Rattle.glob_rules.specs.Verdict.{StarsMayTakeAllBytes, IsAllowedStartPlace, HoldsAtNoLaterReachableStart, HoldsAtNoStart, LeadsToStars, LeadsToDirectories, IsSoundOutcome, IsTextAfterFirstSlash, HasNoSlash}
use Rattle.glob_rules.proofs.Reached.{cases_zero, allowed_at, stars_absorb, directories_absorb}

-- the stars before `rest`, at `left`, stand for those before `pattern` at `text`
pub record Follows (mode : WildMode) (pattern text rest left : List ℕ) : Type 0 where
  pub back : MatchesAfterStars mode rest left → MatchesAfterStars mode pattern text
  pub absorbs : MatchesAfterStars mode pattern text → MatchesAfterStars mode rest left
  pub later : (j : ℕ) → j ≤ length text → MatchesAfterStars mode pattern (drop j text) → (i : ℕ) × (i ≤ length left) × MatchesAfterStars mode rest (drop i left)

pub follows-start : (mode : WildMode) (pattern text : List ℕ) → Follows mode pattern text pattern text
follows-start mode pattern text = record { back = λ h. h; absorbs = λ h. h; later = λ j w h. (j, w, h) }

-- stars that take nothing
pub stars_here : (mode : WildMode) (rest left : List ℕ) → RestOfPatternMatches mode false rest left → MatchesAfterStars mode rest left
stars_here mode rest left h = (0, omega arith, All-nil (λ b. IsTrue (may_wildcard_match_byte mode b)), h)

not_fresh : (left : List ℕ) (j : ℕ) → IsAllowedStartPlace false left j
not_fresh left j = λ fresh. absurd (false≢true fresh)

module _ (mode : WildMode) (pattern text rest left : List ℕ) (f : Follows mode pattern text rest left) where
  one_on : 0 < length left → (RestOfPatternMatches mode false rest left → ⊥) → MatchesAfterStars mode rest left → MatchesAfterStars mode rest (drop 1 left)
  one_on some none (k, w, front, h) = elim (cases_zero k) [
    | inl at ↦ absurd (none (subst (λ (n : ℕ). RestOfPatternMatches mode false rest (drop n left)) at h))
    | inr (m, is) ↦
        let next : k ≡ 1 + m = omega arith in
        let short : m ≤ length (drop 1 left) = omega (arith, length-drop 1 left) in (
          m,
          short,
          subst (StarsMayTakeAllBytes mode) (ap (λ (n : ℕ). drop 1 (take n left)) next ∙ drop-take 1 m left) (All-drop (λ b. IsTrue (may_wildcard_match_byte mode b)) 1 (take k left) front),
          subst (RestOfPatternMatches mode false rest) (ap (λ (n : ℕ). drop n left) next ∙ sym (drop-drop m 1 left)) h,
        )
  ]

  -- the stars take one byte more
  pub follows-next : 0 < length left → may_wildcard_match_byte mode (get_or left 0 0) ≡ true → (RestOfPatternMatches mode false rest left → ⊥) → Follows mode pattern text rest (drop 1 left)
  follows-next some allowed none = record {
    back = λ found. f.back (stars_absorb mode rest left 1 some (All-more (λ b. IsTrue (may_wildcard_match_byte mode b)) left 0 0 some (All-nil (λ b. IsTrue (may_wildcard_match_byte mode b))) allowed) found);
    absorbs = λ h. one_on some none (f.absorbs h);
    later = λ j w h. step (f.later j w h);
  }
    where
      step : ((i : ℕ) × (i ≤ length left) × MatchesAfterStars mode rest (drop i left)) → (i : ℕ) × (i ≤ length (drop 1 left)) × MatchesAfterStars mode rest (drop i (drop 1 left))
      step (i, w, found) = elim (cases_zero i) [
        | inl at ↦ (0, omega arith, one_on some none (subst (λ (n : ℕ). MatchesAfterStars mode rest (drop n left)) at found))
        | inr (m, is) ↦
            let next : i ≡ 1 + m = omega arith in
            let short : m ≤ length (drop 1 left) = omega (arith, length-drop 1 left) in
            (m, short, subst (MatchesAfterStars mode rest) (ap (λ (n : ℕ). drop n left) next ∙ sym (drop-drop m 1 left)) found)
      ]

  -- a match at a later start is one of the rest
  pub later_rest : (j : ℕ) → j ≤ length text → MatchesAfterStars mode pattern (drop j text) → (i : ℕ) × (i ≤ length left) × RestOfPatternMatches mode false rest (drop i left)
  later_rest j w h = go (f.later j w h)
    where
      go : ((i : ℕ) × (i ≤ length left) × MatchesAfterStars mode rest (drop i left)) → (i : ℕ) × (i ≤ length left) × RestOfPatternMatches mode false rest (drop i left)
      go (i, inside, (k, more, front, found)) = (i + k, omega (arith, more, length-drop i left), subst (RestOfPatternMatches mode false rest) (drop-drop k i left) found)

  -- other stars are reached, and those before are forgotten
  pub follows-stars : (after there : List ℕ) → LeadsToStars mode (λ t. RestOfPatternMatches mode false rest t) left after there → Follows mode pattern text after there
  follows-stars after there s = record {
    back = λ found. f.back (stars_here mode rest left (s.back found));
    absorbs = λ h. let m = f.absorbs h in s.absorbs m.0 m.1 m.2 m.3;
    later = λ j w h. let l = later_rest j w h in let t = s.later l.0 l.1 l.2 in (l.0, t.0, t.1);
  }

  pub follows-matched : RestOfPatternMatches mode false rest left → MatchesAfterStars mode pattern text
  follows-matched h = f.back (stars_here mode rest left h)

  pub follows-never : HoldsAtNoStart false (λ t. RestOfPatternMatches mode false rest t) left → HoldsAtNoStart false (λ t. MatchesAfterStars mode pattern t) text
  follows-never none = λ j w start h. let l = later_rest j w h in none l.0 l.1 (not_fresh left l.0) l.2

  -- at the end of the text
  pub follows-ended : length left ≡ 0 → (RestOfPatternMatches mode false rest left → ⊥) → HoldsAtNoStart false (λ t. MatchesAfterStars mode pattern t) text
  follows-ended ended none = λ j w start h.
      let l = later_rest j w h in
      none (subst (RestOfPatternMatches mode false rest) (nil_from_length (drop l.0 left) (omega (arith, length-drop l.0 left)) ∙ sym (nil_from_length left ended)) l.2)

  -- before a byte that stars do not take
  pub follows-stopped : 0 < length left → may_wildcard_match_byte mode (get_or left 0 0) ≡ false → (RestOfPatternMatches mode false rest left → ⊥) → MatchesAfterStars mode pattern text → ⊥
  follows-stopped some refused none h = go (f.absorbs h)
    where
      go : MatchesAfterStars mode rest left → ⊥
      go (k, w, front, found) = elim (cases_zero k) [
        | inl at ↦ none (subst (λ (n : ℕ). RestOfPatternMatches mode false rest (drop n left)) at found)
        | inr (m, is) ↦ false≢true (sym refused ∙ allowed_at mode left k 0 (omega arith) some front)
      ]

  pub follows-barred : HoldsAtNoLaterReachableStart mode (λ t. RestOfPatternMatches mode false rest t) left → (RestOfPatternMatches mode false rest left → ⊥) → MatchesAfterStars mode pattern text → ⊥
  follows-barred barred none h = go (f.absorbs h)
    where
      go : MatchesAfterStars mode rest left → ⊥
      go (k, w, front, found) = elim (cases_zero k) [
        | inl at ↦ none (subst (λ (n : ℕ). RestOfPatternMatches mode false rest (drop n left)) at found)
        | inr (m, is) ↦ barred k (omega arith) w front found
      ]

  pub follows-directories : (after there : List ℕ) → LeadsToDirectories mode false (λ t. RestOfPatternMatches mode false rest t) left after there → LeadsToDirectories mode false (λ t. MatchesAfterStars mode pattern t) text after there
  follows-directories after there d = record {
    back = λ found. follows-matched (d.back found);
    absorbs = λ j w start h. let l = later_rest j w h in d.absorbs l.0 l.1 (not_fresh left l.0) l.2;
  }

-- what is told behind the first stars is told of the whole
pub stars_then : (mode : WildMode) (pattern text after there : List ℕ) → LeadsToStars mode (λ t. RestOfPatternMatches mode true pattern t) text after there →
    (o : Outcome) → IsSoundOutcome mode false (λ t. MatchesAfterStars mode after t) there o → IsSoundOutcome mode true (λ t. RestOfPatternMatches mode true pattern t) text o
stars_then mode pattern text after there s Matched tells = s.back tells
stars_then mode pattern text after there s Differs tells = λ h. tells (s.absorbs 0 (omega arith) (All-nil (λ b. IsTrue (may_wildcard_match_byte mode b))) h)
stars_then mode pattern text after there s Never tells = λ j w start h. let l = s.later j w h in tells j l.0 (not_fresh there j) l.1
stars_then mode pattern text after there s (Directories rest left) tells = record {
  back = λ found. s.back (tells.back found);
  absorbs = λ j w start h. let l = s.later j w h in tells.absorbs j l.0 (not_fresh there j) l.1;
}

module _ (mode : WildMode) (rest left : List ℕ) where
  pub directories-never : HoldsAtNoStart true (λ t. RestOfPatternMatches mode true rest t) left → MatchesAfterDirectories mode rest left → ⊥
  directories-never none (inl h) = none 0 (omega arith) (λ _. inl refl) h
  directories-never none (inr (j, w, slash, h)) = none (j + 1) (omega arith) (λ _. inr (j, refl, slash)) h

  pub directories-ended : HasNoSlash left → (RestOfPatternMatches mode true rest left → ⊥) → MatchesAfterDirectories mode rest left → ⊥
  directories-ended without none (inl h) = none h
  directories-ended without none (inr (j, w, slash, h)) = without j w slash

  pub directories-next : (next : List ℕ) → IsTextAfterFirstSlash left next → (RestOfPatternMatches mode true rest left → ⊥) → MatchesAfterDirectories mode rest left ↔ MatchesAfterDirectories mode rest next
  directories-next next (i, within, slash, is, before) none = (
    λ found. elim found [
      | inl h ↦ absurd (none h)
      | inr (j, w, at, h) ↦ elim (cases_lt j i) [
        | inl early ↦ absurd (before j early at)
        | inr from ↦ elim (cases_zero (j - i)) [
          | inl same ↦ let equal : j ≡ i = omega arith in inl (subst (RestOfPatternMatches mode true rest) (ap (λ (n : ℕ). drop (n + 1) left) equal ∙ sym is) h)
          | inr (m, more) ↦
              let place : j ≡ i + 1 + m = omega arith in
              inr (
                m,
                omega (arith, ap length is, length-drop (i + 1) left),
                ap (λ (xs : List ℕ). get_or xs m 0) is ∙ get_or-drop (i + 1) left m 0 ∙ ap (λ (n : ℕ). get_or left n 0) (sym place) ∙ at,
                subst (RestOfPatternMatches mode true rest) (ap (λ (n : ℕ). drop n left) (omega arith) ∙ sym (drop-drop (m + 1) (i + 1) left) ∙ ap (drop (m + 1)) (sym is)) h,
              )
        ]
      ]
    ],
    λ found. directories_absorb mode rest left i within slash (subst (MatchesAfterDirectories mode rest) is found),
  )

  pub directories-then : (after there : List ℕ) → LeadsToDirectories mode true (λ t. RestOfPatternMatches mode true rest t) left after there → MatchesAfterDirectories mode rest left ↔ MatchesAfterDirectories mode after there
  directories-then after there d = (
    λ found. elim found [
      | inl h ↦ d.absorbs 0 (omega arith) (λ _. inl refl) h
      | inr (j, w, slash, h) ↦ d.absorbs (j + 1) (omega arith) (λ _. inr (j, refl, slash)) h
    ],
    λ found. inl (d.back found),
  )

-- what is told up to the first `**/`, with what is found behind it
pub whole : (mode : WildMode) (pattern text after there : List ℕ) (found : Bool) → LeadsToDirectories mode true (λ t. RestOfPatternMatches mode true pattern t) text after there →
    IsTrue found ↔ MatchesAfterDirectories mode after there → IsTrue found ↔ RestOfPatternMatches mode true pattern text
whole mode pattern text after there found d tells = (λ h. d.back (tells.0 h), λ h. tells.1 (d.absorbs 0 (omega arith) (λ _. inl refl) h))
