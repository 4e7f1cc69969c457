-- How far a checkout has come on the way down to its path.
use Rattle.std.specs.Prelude.{◌≡◌, ℕ, Bool, true, false, ◌||◌, List, [], ◌∷◌, ◌++◌, Option, None, Result, Ok, Err, OnOk}
use Rattle.std.specs.List.{list_any}
use Rattle.std.proofs.Common.{inr, refl, sym, ap, ◌∙◌, subst, append_assoc}
use Rattle.std.proofs.lemmas.List.{append_cancel_right}
use Rattle.gitbase_core.specs.Path.{components}
use Rattle.gitbase_core.proofs.Names as gitbase
use Rattle.worktree_fs.specs.Composed.{nfc_if_composing}
use Rattle.worktree_fs.specs.Paths.{is_dot_or_dot_dot, is_nil, root_joined_with_relative, slash_joined_components}
use Rattle.worktree_fs.specs.PathStack.{deepest_components_or_root}
use Rattle.worktree_fs.specs.Tree.{Names}
use Rattle.worktree_fs.specs.declared.worktree.Worktree.{Ghosts as WorktreeOf}
use Rattle.worktree_stack.specs.declared.error.AtPathError.{AtPathError}
use Rattle.worktree_stack.specs.declared.state.Checkout.{Checkout}
use Rattle.worktree_stack.specs.Checkout.{IsLastNameComposed, LeadsToDirectory}
use Rattle.worktree_stack.specs.ChecksOut.{AreNewNamesComposed}
use Rattle.worktree_stack.specs.GoesOn.{HoldsForLaterTree, HoldsForPresentTree, LeavesLastComponentDirectory, AreNextComponentsOfPath, PushesComponentInCheckout}
use Rattle.worktree_stack.specs.Lookups.{StandsAtPath, stack_after_pushing_component}
use Rattle.worktree_stack.specs.Making.{CheckoutLookupOptions, must_make_directory, checkout_lookup_options}
use Rattle.worktree_stack.specs.Reading.{TreeAndObjects}
use Rattle.worktree_stack.specs.Setup.{HeldAttributeLists, HeldIgnoreRules, StackSetup}
use Rattle.worktree_stack.specs.Stacked.{StackModel}
use Rattle.worktree_stack.proofs.Lookup.Descent.{IsBelow, at_last}
use Rattle.worktree_stack.proofs.CheckOut.KeptSteps.{keeps-below, told-before}

-- the way is the same behind other steps
pub way-same : (checkout : Checkout) (kind : Option Bool) (composes composes' : Bool) (root root' : List ℕ) → composes' ≡ composes → root' ≡ root → checkout_lookup_options checkout composes' root' kind ≡ checkout_lookup_options checkout composes root kind
way-same checkout kind composes composes' root root' a b = ap (λ c. checkout_lookup_options checkout c root' kind) a ∙ ap (λ r. checkout_lookup_options checkout composes r kind) b

-- a component that is kept is among those that are
keeps-at : (way : CheckoutLookupOptions) (taken more : List (List ℕ)) (name : List ℕ) → AreNewNamesComposed way (taken ++ name ∷ more) → must_make_directory way (is_nil more) ≡ true → nfc_if_composing way.composes name ≡ name
keeps-at way [] more name keeps = keeps.0
keeps-at way (n ∷ taken) more name keeps = keeps-at way taken more name keeps.1

pub keeps-left : (way : CheckoutLookupOptions) (left taken more : List (List ℕ)) (name : List ℕ) → left ≡ taken ++ name ∷ more → (is_last : Bool) → is_nil more ≡ is_last → must_make_directory way is_last ≡ true → AreNewNamesComposed way left
    → nfc_if_composing way.composes name ≡ name
keeps-left way left taken more name split is_last last made keeps = keeps-at way taken more name (subst (AreNewNamesComposed way) split keeps) (ap (must_make_directory way) last ∙ made)

module _ {W : Type 0} (w : WorktreeOf W) {w0 w1 : W} (way : CheckoutLookupOptions) (is_link protects : Bool) where
  -- the last component is reached
  pub looked-pushed : (whole : List (List ℕ)) (s s' : StackModel) (rest more : List (List ℕ)) (name : List ℕ) (r : Result (Unit {0}) AtPathError) → IsBelow whole s.at rest → rest ≡ name ∷ more → is_nil more ≡ true
      → PushesComponentInCheckout w w0 w1 way is_link protects name true s s' r → OnOk r (StandsAtPath s' whole)
  looked-pushed whole s s' rest more name (Err e) below first none p = tt
  looked-pushed whole s s' rest more name (Ok tt) below first none p =
      let x = at_last whole s (stack_after_pushing_component s name) rest more name below first none refl in
      record { at = ap (λ (y : StackModel). y.at) p.passed ∙ x.at; current = ap (λ (y : StackModel). y.current) p.passed ∙ x.current }

  pub last-there : (s s' : StackModel) (name : List ℕ) (front left taken more : List (List ℕ)) (r : Result (Unit {0}) AtPathError) → PushesComponentInCheckout w w0 w1 way is_link protects name true s s' r
      → (w.told w0 ≡ None → w.told w1 ≡ None) → is_nil more ≡ true → front ++ left ≡ deepest_components_or_root s.at ++ name ∷ more → left ≡ taken ++ name ∷ more → LeavesLastComponentDirectory w w1 way front left r
  last-there s s' name front left taken (x ∷ more) r p untold none whole split = absurd (cc none)
  last-there s s' name front left taken [] r p untold none whole split =
      record {
        last = λ t1 told1 makes path is normal keeps.
            let before = told-before (w.told w0) (w.told w1) t1 untold told1 in
            let parts : components path ≡ deepest_components_or_root s.at ++ name ∷ [] = is ∙ whole in
            let kept : IsLastNameComposed way.composes (root_joined_with_relative way.root (slash_joined_components (deepest_components_or_root s.at ++ name ∷ []))) =
            keeps-below way.composes way.root (deepest_components_or_root s.at) name (subst gitbase.AreNames parts (gitbase.AreNames-components path)) (ap (list_any is_dot_or_dot_dot) (sym parts) ∙ normal)
            (keeps-left way left taken [] name split true refl makes keeps) in
            inr (on r (λ (leads : LeadsToDirectory t1 (root_joined_with_relative way.root (slash_joined_components (deepest_components_or_root s.at ++ name ∷ [])))). subst (λ n. LeadsToDirectory t1 (root_joined_with_relative way.root (slash_joined_components n))) (sym whole) leads)
            (p.there before.0 t1 before.1 told1 makes kept));
      }
    where
      on : {P Q : Type 0} (r : Result (Unit {0}) AtPathError) → (P → Q) → OnOk r P → OnOk r Q
      on (Ok v) g p = g p
      on (Err e) g p = tt

-- what a lookup may rely on, further down
either-dots : (a b : Bool) → (a || b) ≡ false → b ≡ false
either-dots false b e = e
either-dots true b e = absurd (cc e)

pub normal-behind : (a b : List (List ℕ)) → list_any is_dot_or_dot_dot (a ++ b) ≡ false → list_any is_dot_or_dot_dot b ≡ false
normal-behind [] b e = e
normal-behind (n ∷ a) b e = normal-behind a b (either-dots (is_dot_or_dot_dot n) (list_any is_dot_or_dot_dot (a ++ b)) e)

pub may-behind : (way : CheckoutLookupOptions) (made made' : StackSetup) (at at' : Option (List (List ℕ))) (taken left : List (List ℕ)) → made' ≡ made → deepest_components_or_root at' ≡ deepest_components_or_root at ++ taken
    → AreNextComponentsOfPath way made at (taken ++ left) → AreNextComponentsOfPath way made' at' left
may-behind way made made' at at' taken left same names may =
    record {
      whole = may.whole;
      behind = may.behind;
      parts =
          may.parts ∙ ap (λ (l : List (List ℕ)). deepest_components_or_root at ++ l) (append_assoc taken left may.behind)
          ∙ sym (append_assoc (deepest_components_or_root at) taken (left ++ may.behind)) ∙ ap (λ (n : List (List ℕ)). n ++ (left ++ may.behind)) (sym names);
      normal = may.normal;
      root = ap (λ (m : StackSetup). m.root) same ∙ may.root;
      alone = ap (λ (m : StackSetup). m.ignore) same ∙ may.alone;
    }

-- nothing stands behind what is the whole
pub rest-none : (a b : List (List ℕ)) → a ++ b ≡ [] → b ≡ []
rest-none [] b e = e
rest-none (n ∷ a) b e = absurd (cc e)

-- the components of the deepest directory are those that were taken behind the first
pub taken-names : (front taken rest left : List (List ℕ)) (at : Option (List (List ℕ))) → IsBelow (front ++ left) at rest → left ≡ taken ++ rest → deepest_components_or_root at ≡ front ++ taken
taken-names front taken rest left at below parts = append_cancel_right (deepest_components_or_root at) (front ++ taken) rest (sym below.whole_is ∙ ap (λ (l : List (List ℕ)). front ++ l) parts ∙ sym (append_assoc front taken rest))

may-one : (way : CheckoutLookupOptions) (made : StackSetup) (at : Option (List (List ℕ))) (name : List ℕ) (more : List (List ℕ)) → AreNextComponentsOfPath way made at (name ∷ more) → AreNextComponentsOfPath way made at (name ∷ [])
may-one way made at name more may =
    record {
      whole = may.whole;
      behind = more ++ may.behind;
      parts = may.parts;
      normal = may.normal;
      root = may.root;
      alone = may.alone;
    }

pub may-first : (way : CheckoutLookupOptions) (made made' : StackSetup) (at at' : Option (List (List ℕ))) (taken : List (List ℕ)) (name : List ℕ) (more left : List (List ℕ)) → made' ≡ made → deepest_components_or_root at' ≡ deepest_components_or_root at ++ taken
    → left ≡ taken ++ name ∷ more → AreNextComponentsOfPath way made at left → AreNextComponentsOfPath way made' at' (name ∷ [])
may-first way made made' at at' taken name more left same names is may =
    let all : AreNextComponentsOfPath way made' at' (name ∷ more) = may-behind way made made' at at' taken (name ∷ more) same names (subst (AreNextComponentsOfPath way made at) is may) in
    may-one way made' at' name more all

pub keeping-by : {at : Option (List (List ℕ))} {attributes : Option HeldAttributeLists} {ignore : Option HeldIgnoreRules} (s0 : TreeAndObjects) (made made' : StackSetup) → made' ≡ made → (t : Names) → HoldsForLaterTree made' s0 t at attributes ignore → HoldsForLaterTree made s0 t at attributes ignore
keeping-by {at} {attributes} {ignore} s0 made made' same t k = subst (λ (m : StackSetup). HoldsForLaterTree m s0 t at attributes ignore) same k

pub kept-by : {at : Option (List (List ℕ))} {attributes : Option HeldAttributeLists} {ignore : Option HeldIgnoreRules} (s0 : TreeAndObjects) (made' made : StackSetup) → made' ≡ made → (t : Names) → HoldsForPresentTree made' s0 t at attributes ignore → HoldsForPresentTree made s0 t at attributes ignore
kept-by {at} {attributes} {ignore} s0 made' made same t k = subst (λ (m : StackSetup). HoldsForPresentTree m s0 t at attributes ignore) same k

pub nil-is : (names : List (List ℕ)) → is_nil names ≡ true → names ≡ []
nil-is [] e = refl
nil-is (n ∷ names) e = absurd (cc e)
