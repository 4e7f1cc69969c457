-- How often the rules are asked on the way to a traversal root.
use Rattle.std.proofs.Common.{◌≡◌, ◌≤◌, ℕ, ◌+◌, List, [], ◌∷◌, ◌++◌, Bool, true, false, Option, None, ap, refl, inl, inr, append_assoc, arith}
use Rattle.std.specs.Prelude.{Result, if◌then◌else◌}
use Rattle.std.proofs.lemmas.List.{append-nil}
use Rattle.worktree_fs.specs.Paths.{slash_joined_components}
use Rattle.worktree_stack.specs.Stacked.{StackModel}
use Rattle.dir_classify.specs.declared.entry.Kind.{Kind}
use Rattle.dir_classify.specs.Chosen.{WalkOptions}
use Rattle.dir_classify.specs.Class.{asks_ignore_rules as asks_of}
use Rattle.dir_classify.specs.Evidence.{PathEvidence}
use Rattle.dir_classify.specs.Excludes.{lookup_count_of_stack}
use Rattle.dir_classify.specs.Kept.{AsksRulesAtMostOnce, LeavesRulesUnasked}
use Rattle.dir_classify.specs.Way.{count_asking_rules_at_path, count_asking_rules_behind_path}

module _ (o : WalkOptions) (ev : PathEvidence) (kinds : List ℕ → Option Kind) where
  asking-snoc : (first names : List (List ℕ)) (name : List ℕ)
      → count_asking_rules_behind_path o ev kinds first (names ++ name ∷ []) ≡ count_asking_rules_behind_path o ev kinds first names + count_asking_rules_at_path o ev kinds (slash_joined_components ((first ++ names) ++ name ∷ []))
  asking-snoc first [] name =
      let same : count_asking_rules_at_path o ev kinds (slash_joined_components ((first ++ []) ++ name ∷ [])) ≡ count_asking_rules_at_path o ev kinds (slash_joined_components (first ++ name ∷ [])) =
      ap (λ (l : List (List ℕ)). count_asking_rules_at_path o ev kinds (slash_joined_components (l ++ name ∷ []))) (append-nil first) in
      omega (arith, same)
  asking-snoc first (n ∷ names) name =
      let same : count_asking_rules_at_path o ev kinds (slash_joined_components (((first ++ n ∷ []) ++ names) ++ name ∷ [])) ≡ count_asking_rules_at_path o ev kinds (slash_joined_components ((first ++ n ∷ names) ++ name ∷ [])) =
      ap (λ (l : List (List ℕ)). count_asking_rules_at_path o ev kinds (slash_joined_components (l ++ name ∷ []))) (append_assoc first (n ∷ []) names) in
      omega (arith, asking-snoc (first ++ n ∷ []) names name, same)

  asking-more : (first names rest : List (List ℕ)) → count_asking_rules_behind_path o ev kinds first names ≤ count_asking_rules_behind_path o ev kinds first (names ++ rest)
  asking-more first [] rest = omega arith
  asking-more first (n ∷ names) rest = omega (arith, asking-more (first ++ n ∷ []) names rest)

  -- one path further
  pub needed-further : (names : List (List ℕ)) (name next : List ℕ) (all : List (List ℕ)) (p0 p1 p2 : ℕ) → next ≡ slash_joined_components (names ++ name ∷ []) → all ≡ names ++ name ∷ []
      → p1 ≤ p0 + count_asking_rules_behind_path o ev kinds [] names → p2 ≤ p1 + count_asking_rules_at_path o ev kinds next → p2 ≤ p0 + count_asking_rules_behind_path o ev kinds [] all
  needed-further names name next all p0 p1 p2 next_is all_is first then_ =
      let whole : count_asking_rules_behind_path o ev kinds [] all ≡ count_asking_rules_behind_path o ev kinds [] (names ++ name ∷ []) = ap (λ (l : List (List ℕ)). count_asking_rules_behind_path o ev kinds [] l) all_is in
      let same : count_asking_rules_at_path o ev kinds next ≡ count_asking_rules_at_path o ev kinds (slash_joined_components (names ++ name ∷ [])) = ap (λ (p : List ℕ). count_asking_rules_at_path o ev kinds p) next_is in
      omega (arith, asking-snoc [] names name, whole, same, first, then_)

  -- the whole way
  pub needed-root : (names rest all : List (List ℕ)) (p0 p1 : ℕ) → all ≡ names ++ rest → p1 ≤ p0 + count_asking_rules_behind_path o ev kinds [] names → p1 ≤ p0 + count_asking_rules_behind_path o ev kinds [] all
  needed-root names rest all p0 p1 all_is most =
      let whole : count_asking_rules_behind_path o ev kinds [] all ≡ count_asking_rules_behind_path o ev kinds [] (names ++ rest) = ap (λ (l : List (List ℕ)). count_asking_rules_behind_path o ev kinds [] l) all_is in
      omega (arith, asking-more [] names rest, whole, most)

-- they were not asked
pub unasked-needed : {F : Type 0} {most : ℕ} {r0 r1 : ℕ} {o0 o1 : F} {old new : Option StackModel} → LeavesRulesUnasked most r0 r1 o0 o1 old new → (n : ℕ) → lookup_count_of_stack new ≤ lookup_count_of_stack old + n
unasked-needed {old = old} {new = new} a n = let same : lookup_count_of_stack new ≡ lookup_count_of_stack old = ap (λ (x : Option StackModel). lookup_count_of_stack x) a.same in omega (arith, same)

needed-if : {F T E : Type 0} (most : ℕ) (path : List ℕ) (r0 r1 : ℕ) (o0 o1 : F) (old new : Option StackModel) (result : Result T E) (asks : Bool)
    → (asks ≡ false → LeavesRulesUnasked most r0 r1 o0 o1 old new) → AsksRulesAtMostOnce most path r0 r1 o0 o1 old new result → lookup_count_of_stack new ≤ lookup_count_of_stack old + (if asks then 1 else 0)
needed-if most path r0 r1 o0 o1 old new result false none asked = unasked-needed (none refl) 0
needed-if most path r0 r1 o0 o1 old new result true none (inl a) = unasked-needed a 1
needed-if most path r0 r1 o0 o1 old new result true none (inr b) = let once = b.once in omega (arith, once)

-- or only where they are asked
pub asked-needed : {F T E : Type 0} (o : WalkOptions) (ev : PathEvidence) (kinds : List ℕ → Option Kind) (most : ℕ) (path : List ℕ) (r0 r1 : ℕ) (o0 o1 : F) (old new : Option StackModel) (result : Result T E)
    → (asks_of o ev path (kinds path) None ≡ false → LeavesRulesUnasked most r0 r1 o0 o1 old new) → AsksRulesAtMostOnce most path r0 r1 o0 o1 old new result
    → lookup_count_of_stack new ≤ lookup_count_of_stack old + count_asking_rules_at_path o ev kinds path
unfolding count_asking_rules_at_path
asked-needed o ev kinds most path r0 r1 o0 o1 old new result none asked = needed-if most path r0 r1 o0 o1 old new result (asks_of o ev path (kinds path) None) none asked
