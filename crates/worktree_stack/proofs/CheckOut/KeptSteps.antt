-- What a step of a checkout keeps in step.
use Rattle.std.specs.Prelude.{◌≡◌, ◌⊎◌, ℕ, Bool, true, false, if◌then◌else◌, List, [], ◌∷◌, ◌++◌, Option, Some, None, is_some, Result, Ok, Err, OnOk, OnErr}
use Rattle.std.specs.List.{list_any}
use Rattle.std.proofs.Common.{inl, inr, refl, sym, ap, ◌∙◌, subst, append_assoc}
use Rattle.gitbase_core.specs.Path.{components}
use Rattle.gitbase_core.specs.declared.find.Find.{Ghosts as FindOf}
use Rattle.gitbase_core.proofs.Names as gitbase
use Rattle.worktree_fs.specs.Composed.{nfc_if_composing}
use Rattle.worktree_fs.specs.Paths.{root_joined_with_relative, is_dot_or_dot_dot, slash_joined_components}
use Rattle.worktree_fs.specs.PathStack.{deepest_components_or_root}
use Rattle.worktree_fs.specs.Tree.{Names}
use Rattle.worktree_fs.specs.declared.answers.MakeAnswer.TheVariants as makes
use Rattle.worktree_fs.specs.declared.worktree.Worktree.{Ghosts as WorktreeOf}
use Rattle.worktree_stack.specs.declared.error.AtPathError.{AtPathError}
use Rattle.worktree_stack.specs.declared.error.AtPathError.TheVariants as errors
use Rattle.worktree_stack.specs.Checkout.{EqualsDirectoryOutcome, IsTreeAfterEnsuringDirectory, IsLastNameComposed, LeadsToDirectory, DirectoryOutcome, outcome_of_ensuring_directory}
use Rattle.worktree_stack.specs.ChecksOut.{IsPathWithoutLinksOrDots, ExplainsRefusedComponent}
use Rattle.worktree_stack.specs.GoesOn.{HoldsForLaterTree, HoldsForPresentTree, StepKeepsHeldRules, AreNextComponentsOfPath, PushesComponentInCheckout, with_mkdir_count}
use Rattle.worktree_stack.specs.Lookups.{stack_after_pushing_component}
use Rattle.worktree_stack.specs.Making.{CheckoutLookupOptions, must_make_directory, mkdir_count_of_stack, outcome_before_checkout}
use Rattle.worktree_stack.specs.Reading.{TreeAndObjects, Tells}
use Rattle.worktree_stack.specs.Setup.{HeldAttributeLists, HeldIgnoreRules, StackSetup, held_attribute_lists}
use Rattle.worktree_stack.specs.Stacked.{StackModel, AppendsAttributeListsOfTree, setup_of_stack}
use Rattle.worktree_stack.proofs.CheckOut.Holding.{kept-now, kept-step, keeping-step, last-normal}
use Rattle.worktree_stack.proofs.Lookup.LastNames.{keeps-last}
use Rattle.worktree_stack.proofs.CheckOut.Plain.{components-full, front-normal}
use Rattle.worktree_stack.proofs.CheckOut.Preparing.{some-same}

front-names : (a b : List (List ℕ)) → gitbase.AreNames (a ++ b) → gitbase.AreNames a
front-names [] b are = tt
front-names (n ∷ a) b are = (are.0, front-names a b are.1)

some-names : (at : Option (List (List ℕ))) → is_some at ≡ true → at ≡ Some (deepest_components_or_root at)
some-names None e = absurd (cc e)
some-names (Some names) e = refl

-- what is told before a component is pushed behind which something is told
pub told-before : (before after : Option Names) (t : Names) → (before ≡ None → after ≡ None) → after ≡ Some t → (t0 : Names) × (before ≡ Some t0)
told-before None after t untold e = absurd (clash (untold refl) e)
  where
    clash : after ≡ None → after ≡ Some t → ⊥
    clash a b = cc
told-before (Some t0) after t untold e = (t0, refl)

-- a path below a root keeps its last name, where that is composed
pub keeps-below : (composes : Bool) (root : List ℕ) (names : List (List ℕ)) (name : List ℕ) → gitbase.AreNames (names ++ name ∷ []) → list_any is_dot_or_dot_dot (names ++ name ∷ []) ≡ false → nfc_if_composing composes name ≡ name
    → IsLastNameComposed composes (root_joined_with_relative root (slash_joined_components (names ++ name ∷ [])))
keeps-below composes root names name are normal kept =
    keeps-last composes (root_joined_with_relative root (slash_joined_components (names ++ name ∷ []))) (components root ++ names) name (last-normal names name normal)
    (components-full root (names ++ name ∷ []) are ∙ sym (append_assoc (components root) names (name ∷ []))) kept

module _ {W F : Type 0} (w : WorktreeOf W) (f : FindOf F) (way : CheckoutLookupOptions) (is_link protects : Bool) where
  -- what a component that is pushed leaves of a stack
  pub pushed-field : {X : Type 0} {w0 w1 : W} (get : StackModel → X) (old new : StackModel) (name : List ℕ) (is_last : Bool) (r : Result (Unit {0}) AtPathError)
      → ((count : ℕ) → get (with_mkdir_count (stack_after_pushing_component old name) count) ≡ get old) → get (record old { current = deepest_components_or_root old.at }) ≡ get old
      → ((count : ℕ) → get (record (with_mkdir_count (stack_after_pushing_component old name) count) { current = deepest_components_or_root old.at }) ≡ get old)
      → PushesComponentInCheckout w w0 w1 way is_link protects name is_last old new r → get new ≡ get old
  pushed-field get old new name is_last (Ok tt) passed left refused p = ap get p.passed ∙ passed (mkdir_count_of_stack new)
  pushed-field get old new name is_last (Err e) passed left refused p = elim p.refused [
    | inl (memory, same, is) ↦ ap get is ∙ left
    | inr (is, why) ↦ ap get is ∙ refused (mkdir_count_of_stack new)
  ]

  -- where no directory is to be at a component the tree stays
  pub unmade-same : {w0 w1 : W} (old new : StackModel) (name : List ℕ) (is_last : Bool) (r : Result (Unit {0}) AtPathError) → must_make_directory way is_last ≡ false → PushesComponentInCheckout w w0 w1 way is_link protects name is_last old new r
      → (t : Names) → w.told w0 ≡ Some t → w.told w1 ≡ Some t
  unmade-same {w0} {w1} old new name is_last (Ok tt) unmade p t told =
      (subst (λ (x : DirectoryOutcome). EqualsDirectoryOutcome x (w.told w1) (mkdir_count_of_stack new) makes.Made)
      (ap (λ (b : Bool). if b then outcome_of_ensuring_directory way.unlinks way.composes t (root_joined_with_relative way.root (slash_joined_components (deepest_components_or_root old.at ++ name ∷ []))) (mkdir_count_of_stack old) else outcome_before_checkout t (mkdir_count_of_stack old)) unmade)
      (p.made t told)).tree_is
  unmade-same {w0} {w1} old new name is_last (Err e) unmade p t told = elim p.refused [
    | inl (memory, same, is) ↦ ap w.told same ∙ told
    | inr (is, why) ↦ of e why
  ]
    where
      never : must_make_directory way is_last ≡ true → ⊥
      never made = clash (sym unmade ∙ made)
        where
          clash : false ≡ true → ⊥
          clash e = cc e

      of : (e : AtPathError) → ExplainsRefusedComponent w w0 w1 way is_link protects (mkdir_count_of_stack old) (mkdir_count_of_stack new) name (root_joined_with_relative way.root (slash_joined_components (deepest_components_or_root old.at ++ name ∷ []))) is_last e → w.told w1 ≡ Some t
      of errors.NotNormal why = absurd why
      of (errors.Component c) why = ap w.told why.1 ∙ told
      of (errors.Collision at) why = absurd (never why.1)
      of (errors.Directory at d) why = absurd (never why.1)
      of (errors.RulesFile at r) why = absurd why
      of (errors.Blob id b) why = absurd why
      of errors.OutOfMemory why = absurd (never why.1)

  module _ {w0 w1 : W} (old new : StackModel) (name : List ℕ) (more : List (List ℕ)) (is_last : Bool) (r : Result (Unit {0}) AtPathError) (some : is_some old.at ≡ true)
      (p : PushesComponentInCheckout w w0 w1 way is_link protects name is_last old new r) (s0 : TreeAndObjects) (t t1 : Names) (told : w.told w0 ≡ Some t) (told1 : w.told w1 ≡ Some t1)
      (may : AreNextComponentsOfPath way (setup_of_stack old) old.at (name ∷ more)) where
    are-names : gitbase.AreNames (deepest_components_or_root old.at ++ name ∷ [])
    are-names =
        front-names (deepest_components_or_root old.at ++ name ∷ []) (more ++ may.behind)
        (subst gitbase.AreNames (may.parts ∙ sym (append_assoc (deepest_components_or_root old.at) (name ∷ []) (more ++ may.behind))) (gitbase.AreNames-components may.whole))

    all-normal : list_any is_dot_or_dot_dot (deepest_components_or_root old.at ++ name ∷ []) ≡ false
    all-normal =
        front-normal (deepest_components_or_root old.at ++ name ∷ []) (more ++ may.behind)
        (ap (list_any is_dot_or_dot_dot) (append_assoc (deepest_components_or_root old.at) (name ∷ []) (more ++ may.behind) ∙ sym may.parts) ∙ may.normal)

    changed : nfc_if_composing way.composes name ≡ name → IsTreeAfterEnsuringDirectory way.unlinks (root_joined_with_relative (setup_of_stack old).root (slash_joined_components (deepest_components_or_root old.at ++ name ∷ []))) t t1
    changed kept =
        subst (λ (root : List ℕ). IsTreeAfterEnsuringDirectory way.unlinks (root_joined_with_relative root (slash_joined_components (deepest_components_or_root old.at ++ name ∷ []))) t t1) (sym may.root)
        (p.changed t t1 told told1 (keeps-below way.composes way.root (deepest_components_or_root old.at) name are-names all-normal kept))

    leads-there : must_make_directory way is_last ≡ true → nfc_if_composing way.composes name ≡ name → OnOk r (LeadsToDirectory t1 (root_joined_with_relative (setup_of_stack old).root (slash_joined_components (deepest_components_or_root old.at ++ name ∷ []))))
    leads-there made kept =
        subst (λ (root : List ℕ). OnOk r (LeadsToDirectory t1 (root_joined_with_relative root (slash_joined_components (deepest_components_or_root old.at ++ name ∷ []))))) (sym may.root)
        (p.there t t1 told told1 made (keeps-below way.composes way.root (deepest_components_or_root old.at) name are-names all-normal kept))

    plain : (way.unlinks ≡ true → IsPathWithoutLinksOrDots s0.tree way.root) → way.unlinks ≡ true → IsPathWithoutLinksOrDots s0.tree (setup_of_stack old).root
    plain is on = subst (IsPathWithoutLinksOrDots s0.tree) (sym may.root) (is on)

    at-some : {attributes : Option HeldAttributeLists} {ignore : Option HeldIgnoreRules} → HoldsForLaterTree (setup_of_stack old) s0 t old.at attributes ignore → HoldsForLaterTree (setup_of_stack old) s0 t (Some (deepest_components_or_root old.at)) attributes ignore
    at-some {attributes} {ignore} k = subst (λ at. HoldsForLaterTree (setup_of_stack old) s0 t at attributes ignore) (some-names old.at some) k

    -- answered it leads to the directory, refused no link leads to the root
    either-sure : (r : Result (Unit {0}) AtPathError) → OnOk r (LeadsToDirectory t1 (root_joined_with_relative (setup_of_stack old).root (slash_joined_components (deepest_components_or_root old.at ++ name ∷ [])))) → OnErr r (way.unlinks ≡ true → IsPathWithoutLinksOrDots s0.tree way.root)
        → (way.unlinks ≡ true → IsPathWithoutLinksOrDots s0.tree (setup_of_stack old).root) ⊎ LeadsToDirectory t1 (root_joined_with_relative (setup_of_stack old).root (slash_joined_components (deepest_components_or_root old.at ++ name ∷ [])))
    either-sure (Ok v) leads is = inr leads
    either-sure (Err e) leads is = inl (plain is)

    pub pushed-kept : (must_make_directory way is_last ≡ true → nfc_if_composing way.composes name ≡ name) → OnErr r (way.unlinks ≡ true → IsPathWithoutLinksOrDots s0.tree way.root)
        → HoldsForLaterTree (setup_of_stack old) s0 t old.at old.attributes old.ignore → HoldsForPresentTree (setup_of_stack old) s0 t1 new.at new.attributes new.ignore
    pushed-kept kept is k =
        let here : HoldsForPresentTree (setup_of_stack old) s0 t1 (Some (deepest_components_or_root old.at)) old.attributes old.ignore = on (must_make_directory way is_last) refl in
        subst (λ (h : Option HeldIgnoreRules). HoldsForPresentTree (setup_of_stack old) s0 t1 new.at new.attributes h) (sym (pushed-field (λ (s : StackModel). s.ignore) old new name is_last r (λ n. refl) refl (λ n. refl) p))
        (subst (λ (h : Option HeldAttributeLists). HoldsForPresentTree (setup_of_stack old) s0 t1 new.at h old.ignore) (sym (pushed-field (λ (s : StackModel). s.attributes) old new name is_last r (λ n. refl) refl (λ n. refl) p))
        (subst (λ (at : Option (List (List ℕ))). HoldsForPresentTree (setup_of_stack old) s0 t1 at old.attributes old.ignore) (sym (pushed-field (λ (s : StackModel). s.at) old new name is_last r (λ n. refl) refl (λ n. refl) p ∙ some-names old.at some)) here))
      where
        on : (b : Bool) → must_make_directory way is_last ≡ b → HoldsForPresentTree (setup_of_stack old) s0 t1 (Some (deepest_components_or_root old.at)) old.attributes old.ignore
        on true made =
            kept-step (setup_of_stack old) s0 may.alone way.unlinks t t1 (deepest_components_or_root old.at) name are-names all-normal (either-sure r (leads-there made (kept made)) is) old.attributes old.ignore (at-some k) (changed (kept made))
        on false made =
            subst (λ (x : Names). HoldsForPresentTree (setup_of_stack old) s0 x (Some (deepest_components_or_root old.at)) old.attributes old.ignore) (some-same (sym (unmade-same old new name is_last r made p t told) ∙ told1))
            (kept-now (setup_of_stack old) s0 may.alone t (Some (deepest_components_or_root old.at)) old.attributes old.ignore (at-some k))

  pub keeps-refused : {w0 w1 : W} (o0 : F) (old new : StackModel) (name : List ℕ) (is_last : Bool) (e : AtPathError) → is_some old.at ≡ true → PushesComponentInCheckout w w0 w1 way is_link protects name is_last old new (Err e)
      → StepKeepsHeldRules w f w0 w1 o0 way (name ∷ []) old new (Err e)
  keeps-refused o0 old new name is_last e some p =
      record {
        going = λ s0 t t1 told holds told1 may kept k. tt;
        gone = λ s0 t t1 told holds told1 may kept is k. pushed-kept old new name [] is_last (Err e) some p s0 t t1 told told1 may (λ made. kept.0) is k;
      }

  pub keeps-passed : {w0 wm w1 : W} (o0 : F) (old mid new : StackModel) (name : List ℕ) → is_some old.at ≡ true → PushesComponentInCheckout w w0 wm way is_link protects name false old mid (Ok tt) → w.told w1 ≡ w.told wm
      → (r : Result (Unit {0}) AtPathError) → setup_of_stack new ≡ setup_of_stack mid → OnOk r (new.at ≡ Some mid.current) → OnErr r (new.at ≡ mid.at) → OnErr r (new.ignore ≡ mid.ignore) → OnErr r (held_attribute_lists new.attributes ≡ held_attribute_lists mid.attributes)
      → ((s : TreeAndObjects) → Tells (w.told wm) (f.holds o0) s → OnOk r (AppendsAttributeListsOfTree (setup_of_stack mid) s mid.current mid.attributes new.attributes))
      → StepKeepsHeldRules w f w0 w1 o0 way (name ∷ []) old new r
  keeps-passed {w0} {wm} {w1} o0 old mid new name some p same (Err e) made at at_refused held held_lists lists =
      record {
        going = λ s0 t t1 told holds told1 may kept k. tt;
        gone = λ s0 t t1 told holds told1 may kept is k.
            let x = pushed-kept old mid name [] false (Ok tt) some p s0 t t1 told (sym same ∙ told1) may (λ made. kept.0) tt k in
            subst (λ (a : Option (List (List ℕ))). HoldsForPresentTree (setup_of_stack old) s0 t1 a new.attributes new.ignore) (sym at_refused)
            (subst (λ (h : Option HeldIgnoreRules). HoldsForPresentTree (setup_of_stack old) s0 t1 mid.at new.attributes h) (sym held)
            (record { holds = λ end objects is read. let h = x.holds end objects is read in record { are_read = h.are_read; lists = held_lists ∙ h.lists; rules = h.rules }; there = x.there }));
      }
  keeps-passed {w0} {wm} {w1} o0 old mid new name some p same (Ok tt) made at at_refused held held_lists lists =
      record {
        gone = λ s0 t t1 told holds told1 may kept is k. tt;
        going = λ s0 t t1 told holds told1 may kept k.
            let toldm : w.told wm ≡ Some t1 = sym same ∙ told1 in
            let now : TreeAndObjects = record { tree = t1; objects = s0.objects } in
            let current : mid.current ≡ deepest_components_or_root old.at ++ name ∷ [] = ap (λ (s : StackModel). s.current) p.passed in
            let made_is : setup_of_stack mid ≡ setup_of_stack old = ap setup_of_stack p.passed in
            let attributes : mid.attributes ≡ old.attributes = ap (λ (s : StackModel). s.attributes) p.passed in
            let pushes : AppendsAttributeListsOfTree (setup_of_stack old) now (deepest_components_or_root old.at ++ name ∷ []) old.attributes new.attributes =
            subst (λ (m : StackSetup). AppendsAttributeListsOfTree m now (deepest_components_or_root old.at ++ name ∷ []) old.attributes new.attributes) made_is
            (subst (λ (n : List (List ℕ)). AppendsAttributeListsOfTree (setup_of_stack mid) now n old.attributes new.attributes) current
            (subst (λ (h : Option HeldAttributeLists). AppendsAttributeListsOfTree (setup_of_stack mid) now mid.current h new.attributes) attributes (lists now (record { tree_is = toldm; objects_are = holds })))) in
            let leads : LeadsToDirectory t1 (root_joined_with_relative (setup_of_stack old).root (slash_joined_components (deepest_components_or_root old.at ++ name ∷ []))) = leads-there old mid name [] false (Ok tt) some p s0 t t1 told toldm may refl kept.0 in
            subst (λ (a : Option (List (List ℕ))). HoldsForLaterTree (setup_of_stack old) s0 t1 a new.attributes new.ignore) (sym (at ∙ ap Some current))
            (keeping-step (setup_of_stack old) s0 may.alone way.unlinks t t1 (deepest_components_or_root old.at) name (are-names old mid name [] false (Ok tt) some p s0 t t1 told toldm may) (all-normal old mid name [] false (Ok tt) some p s0 t t1 told toldm may)
            (inr leads) old.attributes old.ignore (at-some old mid name [] false (Ok tt) some p s0 t t1 told toldm may k)
            (changed old mid name [] false (Ok tt) some p s0 t t1 told toldm may kept.0) new.attributes new.ignore (ap (λ (m : StackSetup). m.ignore) (made ∙ made_is) ∙ may.alone) leads pushes);
      }
