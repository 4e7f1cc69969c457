-- The fronts that two paths have in common.
use Rattle.std.proofs.Common.{◌≡◌, ◌≢◌, ◌⊎◌, inl, inr, ℕ, zero, suc, ◌<◌, ◌≤◌, List, [], Bool, true, false, ◌||◌, ◌&&◌, length, take, get_or, eqb, refl, sym, ap, subst, ◌∙◌, arith}
use Rattle.std.proofs.lemmas.Bool.Decides.{eqb_tells}
use Rattle.std.proofs.lemmas.List.{get_or-take, take-take, take_all}
use Rattle.gitbase_core.specs.Path.{is_slash, is_empty_or_root_path, is_beneath_directory}
use Rattle.clean_plan.specs.Above.{NoAncestorButMaybeSelfPasses, IsFirstPassingAncestorOrSelf, prefixes_shorter_than_length, any_ancestor_passes, any_ancestor_below_length_passes}
use Rattle.clean_plan.proofs.Directories.{above-front, front-is}

module _ (m : ℕ) (one other : List ℕ) (in_one : m ≤ length one) (in_other : m ≤ length other) (same : take m one ≡ take m other) where
  same-front : (n : ℕ) → n ≤ m → take n one ≡ take n other
  same-front n h = sym (take-take n m one h) ∙ ap (take n) same ∙ take-take n m other h

  same-byte : (n : ℕ) → n < m → get_or one n 0 ≡ get_or other n 0
  same-byte n h = sym (get_or-take m one n 0 h) ∙ ap (λ (l : List ℕ). get_or l n 0) same ∙ get_or-take m other n 0 h

  pub same-above : (n : ℕ) → n < m → is_beneath_directory (take n one) one ≡ is_beneath_directory (take n other) other
  same-above n h =
      front-is one n (omega (arith, h, in_one))
      ∙ ap (λ (front : List ℕ). is_empty_or_root_path front || is_slash (get_or one n 0)) (same-front n (omega (arith, h)))
      ∙ ap (λ (b : ℕ). is_empty_or_root_path (take n other) || is_slash b) (same-byte n h)
      ∙ sym (front-is other n (omega (arith, h, in_other)))

  -- a directory above the one that has fewer bytes is above the other
  pub shared-above : (d : List ℕ) → is_beneath_directory d other ≡ true → length d < m → is_beneath_directory d one ≡ true
  shared-above d above short =
      ap (λ (x : List ℕ). is_beneath_directory x one) (sym (same-front (length d) (omega (arith, short)) ∙ above-front d other above))
      ∙ same-above (length d) short
      ∙ ap (λ (x : List ℕ). is_beneath_directory x other) (above-front d other above)
      ∙ above

  pub same-fronts : (test : List ℕ → Bool) (n : ℕ) → n ≤ m → any_ancestor_below_length_passes test n one ≡ any_ancestor_below_length_passes test n other
  unfolding prefixes_shorter_than_length
  same-fronts test zero h = refl
  same-fronts test (suc n) h =
      ap (λ (b : Bool). (b && test (take n one)) || any_ancestor_below_length_passes test n one) (same-above n (omega (arith, h)))
      ∙ ap (λ (front : List ℕ). (is_beneath_directory (take n other) other && test front) || any_ancestor_below_length_passes test n one) (same-front n (omega (arith, h)))
      ∙ ap (λ (b : Bool). (is_beneath_directory (take n other) other && test (take n other)) || b) (same-fronts test n (omega (arith, h)))

-- fewer fronts of a path, none of which passes
fewer-fronts : (test : List ℕ → Bool) (n m : ℕ) (path : List ℕ) → n ≤ m → any_ancestor_below_length_passes test m path ≡ false → any_ancestor_below_length_passes test n path ≡ false
unfolding prefixes_shorter_than_length
fewer-fronts test zero zero path h none = none
fewer-fronts test (suc n) zero path h none = absurd (omega (arith, h))
fewer-fronts test n (suc m) path h none = go (eqb_tells n (suc m)) (λ fewer. fewer-fronts test n m path fewer (neither (is_beneath_directory (take m path) path && test (take m path)) (any_ancestor_below_length_passes test m path) none))
  where
    neither : (a b : Bool) → (a || b) ≡ false → b ≡ false
    neither true b e = absurd (cc e)
    neither false b e = e

    go : ((eqb n (suc m) ≡ true) × (n ≡ suc m)) ⊎ ((eqb n (suc m) ≡ false) × (n ≢ suc m)) → (n ≤ m → any_ancestor_below_length_passes test n path ≡ false) → any_ancestor_below_length_passes test n path ≡ false
    go (inl e) more = subst (λ (k : ℕ). any_ancestor_below_length_passes test k path ≡ false) (sym e.1) none
    go (inr e) more = more (omega (arith, h, e.1))

module _ (test : List ℕ → Bool) (known path : List ℕ) (passes : Bool) (is : NoAncestorButMaybeSelfPasses test known passes) (m : ℕ)
    (in_known : m ≤ length known) (in_path : m ≤ length path) (same : take m known ≡ take m path) where
  -- of the directories above a path, none passes that it has in common with a known one
  pub known-fronts : any_ancestor_below_length_passes test m path ≡ false
  known-fronts = sym (same-fronts m known path in_known in_path same test m (omega arith)) ∙ fewer-fronts test m (length known) known in_known is.none_above

  -- and one that is known to pass is the first that does
  pub known-target : (passes ≡ true) × (m ≡ length known) × (is_beneath_directory (take m path) path ≡ true) → IsFirstPassingAncestorOrSelf test path (take m path)
  known-target h =
      let front : take m path ≡ known = sym same ∙ take_all m known (omega (arith, h.1)) in
      record {
        which = inr (h.2, ap test front ∙ is.passed h.0);
        none_above = ap (any_ancestor_passes test) front ∙ is.none_above;
      }

pub known-first : (test : List ℕ → Bool) → NoAncestorButMaybeSelfPasses test [] false
unfolding prefixes_shorter_than_length
known-first test = record { none_above = refl; passed = λ e. absurd (cc e) }

-- what is planned for a path is known; it passes where it has fewer bytes
pub known-next : (test : List ℕ → Bool) (path target : List ℕ) (passes : Bool) → IsFirstPassingAncestorOrSelf test path target → (passes ≡ true → length target < length path) → NoAncestorButMaybeSelfPasses test target passes
known-next test path target passes is shorter = record { none_above = is.none_above; passed = λ e. go is.which (shorter e) }
  where
    go : (target ≡ path) ⊎ ((is_beneath_directory target path ≡ true) × (test target ≡ true)) → length target < length path → test target ≡ true
    go (inl same) less = absurd (omega (arith, less, ap length same))
    go (inr both) less = both.1
