-- The names that the calls of a lookup see, one after the other.
use Rattle.std.specs.Prelude.{◌≡◌, ℕ, zero, suc, Bool, true, false, List, [], ◌∷◌, ◌++◌, replicate, Option, Some, None, is_some, Result, Ok, Err, IsErrAnd}
use Rattle.std.proofs.Common.{refl, sym, ap, ◌∙◌, subst, append_assoc}
use Rattle.std.proofs.lemmas.List.{append-nil}
use Rattle.gitbase_core.specs.Objects.{ObjectsById}
use Rattle.worktree_fs.specs.Paths.{slash_joined_components}
use Rattle.worktree_fs.specs.PathStack.{DelegateCall, push_directory, push, pop_directory, delegate_calls_of_component, deepest_components_or_root, delegate_calls_to_push_root}
use Rattle.worktree_fs.specs.Tree.{Names}
use Rattle.worktree_fs.specs.declared.answers.MakeAnswer.TheVariants as makes
use Rattle.worktree_fs.specs.declared.worktree.Worktree.{Ghosts as WorktreeOf}
use Rattle.worktree_stack.specs.declared.error.AtPathError.{AtPathError}
use Rattle.worktree_stack.specs.declared.statistics.Statistics.{Statistics}
use Rattle.worktree_stack.specs.Checkout.{DirectoryOutcome, EqualsDirectoryOutcome}
use Rattle.worktree_stack.specs.HeldOut.{AreLowestLists}
use Rattle.worktree_stack.specs.Lookups.{stack_after_pushing_component}
use Rattle.worktree_stack.specs.Making.{CheckoutLookupOptions, MakesAndReadsByCalls, outcome_of_checkout_calls, outcome_of_pushed_component, outcome_before_checkout}
use Rattle.worktree_stack.specs.Reading.{TreeAndObjects, Tells}
use Rattle.worktree_stack.specs.SeenNames.{AppendsReadNamesAsSeen, attribute_names_of_directory, attribute_names_of_setup, attribute_names_read_by_calls, attribute_names_read_in_checkout}
use Rattle.worktree_stack.specs.Setup.{HeldAttributeLists, StackSetup, held_attribute_lists, seen_attribute_names}
use Rattle.worktree_stack.specs.Stacked.{StackModel, setup_of_stack}
use Rattle.worktree_stack.proofs.CheckOut.HeldOut.{same-outcome}
use Rattle.worktree_stack.proofs.Lookup.Seeing.{sees-as, sees-dropped, sees-front, sees-nothing, sees-refused, sees-then}
use Rattle.worktree_stack.proofs.CheckOut.Working.{AreUnpushed, ran, ran-checked}

-- ---- in one tree

module _ (made : StackSetup) (s : TreeAndObjects) where
  pub on-append : (a b : List DelegateCall) → attribute_names_read_by_calls made s (a ++ b) ≡ attribute_names_read_by_calls made s a ++ attribute_names_read_by_calls made s b
  on-append [] b = refl
  on-append (push_directory path ∷ a) b =
      ap (λ (l : List (List ℕ)). attribute_names_of_setup made made.attributes s path ++ l) (on-append a b)
      ∙ sym (append_assoc (attribute_names_of_setup made made.attributes s path) (attribute_names_read_by_calls made s a) (attribute_names_read_by_calls made s b))
  on-append (push path is_last ∷ a) b = on-append a b
  on-append (pop_directory ∷ a) b = on-append a b

  pub on-pops : (n : ℕ) → attribute_names_read_by_calls made s (replicate n pop_directory) ≡ []
  on-pops zero = refl
  on-pops (suc n) = on-pops n

-- calls behind others
pub on-then : (told0 told1 : Option Names) (holds0 holds1 : Option ObjectsById) (made0 made1 : StackSetup) (a b calls : List DelegateCall) (h0 h1 h2 : Option HeldAttributeLists) (r : Result (Unit {0}) AtPathError)
    → told1 ≡ told0 → holds1 ≡ holds0 → made1 ≡ made0 → calls ≡ a ++ b → AppendsReadNamesAsSeen {T = Unit {0}} told0 holds0 (λ s. attribute_names_read_by_calls made0 s a) h0 h1 (Ok tt)
    → AppendsReadNamesAsSeen told1 holds1 (λ s. attribute_names_read_by_calls made1 s b) h1 h2 r → AppendsReadNamesAsSeen told0 holds0 (λ s. attribute_names_read_by_calls made0 s calls) h0 h2 r
on-then told0 told1 holds0 holds1 made0 made1 a b calls h0 h1 h2 r same_told same_holds same_made calls_are first second =
    sees-then told0 told1 holds0 holds1 (λ s. attribute_names_read_by_calls made0 s a) (λ s. attribute_names_read_by_calls made1 s b) (λ s. attribute_names_read_by_calls made0 s calls) h0 h1 h2 r first
    (λ s tells. (
      s,
      record { tree_is = same_told ∙ tells.tree_is; objects_are = same_holds ∙ tells.objects_are },
      ap (attribute_names_read_by_calls made0 s) calls_are ∙ on-append made0 s a b ∙ ap (λ (m : StackSetup). attribute_names_read_by_calls made0 s a ++ attribute_names_read_by_calls m s b) (sym same_made),
    ))
    second

-- a refusal before more calls
pub on-front : (told : Option Names) (holds : Option ObjectsById) (made : StackSetup) (a b calls : List DelegateCall) (h0 h1 : Option HeldAttributeLists) (e : AtPathError) → calls ≡ a ++ b
    → AppendsReadNamesAsSeen {T = Unit {0}} told holds (λ s. attribute_names_read_by_calls made s a) h0 h1 (Err e) → AppendsReadNamesAsSeen {T = Unit {0}} told holds (λ s. attribute_names_read_by_calls made s calls) h0 h1 (Err e)
on-front told holds made a b calls h0 h1 e calls_are x =
    sees-front told holds (λ s. attribute_names_read_by_calls made s a) h0 h1 (λ s. attribute_names_read_by_calls made s calls) e x
    (λ s tells. (attribute_names_read_by_calls made s b, ap (attribute_names_read_by_calls made s) calls_are ∙ on-append made s a b))

-- directories were popped
pub sees-popped : (told : Option Names) (holds : Option ObjectsById) (made : StackSetup) (n : ℕ) (h0 h1 : Option HeldAttributeLists) → seen_attribute_names h1 ≡ seen_attribute_names h0 → AreLowestLists (held_attribute_lists h1) (held_attribute_lists h0)
    → AppendsReadNamesAsSeen {T = Unit {0}} told holds (λ s. attribute_names_read_by_calls made s (replicate n pop_directory)) h0 h1 (Ok tt)
sees-popped told holds made n h0 h1 same lowest =
    sees-as told holds (λ s. []) h0 h1 (λ s. attribute_names_read_by_calls made s (replicate n pop_directory)) (Ok tt) (λ s tells. on-pops made s n) (sees-dropped told holds h0 h1 same lowest)

-- one directory was pushed, or was to be
pub sees-one : (told : Option Names) (holds : Option ObjectsById) (old : StackModel) (h1 : Option HeldAttributeLists) (r : Result (Unit {0}) AtPathError) → AppendsReadNamesAsSeen told holds (λ s. attribute_names_of_directory (setup_of_stack old) s old.current) old.attributes h1 r
    → AppendsReadNamesAsSeen told holds (λ s. attribute_names_read_by_calls (setup_of_stack old) s (push_directory (slash_joined_components old.current) ∷ [])) old.attributes h1 r
sees-one told holds old h1 r x =
    sees-as told holds (λ s. attribute_names_of_directory (setup_of_stack old) s old.current) old.attributes h1 (λ s. attribute_names_read_by_calls (setup_of_stack old) s (push_directory (slash_joined_components old.current) ∷ [])) r
    (λ s tells. append-nil (attribute_names_of_directory (setup_of_stack old) s old.current)) x

-- the root is pushed already
pub sees-rooted : (told : Option Names) (holds : Option ObjectsById) (old : StackModel) → is_some old.at ≡ true → AppendsReadNamesAsSeen {T = Unit {0}} told holds (λ s. attribute_names_read_by_calls (setup_of_stack old) s (delegate_calls_to_push_root old.at)) old.attributes old.attributes (Ok tt)
sees-rooted told holds old some = go old.at some
  where
    go : (at : Option (List (List ℕ))) → is_some at ≡ true → AppendsReadNamesAsSeen {T = Unit {0}} told holds (λ s. attribute_names_read_by_calls (setup_of_stack old) s (delegate_calls_to_push_root at)) old.attributes old.attributes (Ok tt)
    go None e = absurd (cc e)
    go (Some names) e = sees-nothing told holds (λ s. []) old.attributes old.attributes (Ok tt) refl (λ s. refl)

-- and where it is not
pub sees-root : (told : Option Names) (holds : Option ObjectsById) (old mid : StackModel) (h1 : Option HeldAttributeLists) (r : Result (Unit {0}) AtPathError) → is_some old.at ≡ false → mid ≡ record old { current = deepest_components_or_root old.at }
    → AppendsReadNamesAsSeen told holds (λ s. attribute_names_of_directory (setup_of_stack mid) s mid.current) mid.attributes h1 r → AppendsReadNamesAsSeen told holds (λ s. attribute_names_read_by_calls (setup_of_stack old) s (delegate_calls_to_push_root old.at)) old.attributes h1 r
sees-root told holds old mid h1 r none left x =
    go old.at none (subst (λ (m : StackModel). AppendsReadNamesAsSeen told holds (λ s. attribute_names_of_directory (setup_of_stack m) s m.current) m.attributes h1 r) left x)
  where
    go : (at : Option (List (List ℕ))) → is_some at ≡ false → AppendsReadNamesAsSeen told holds (λ s. attribute_names_of_directory (setup_of_stack old) s (deepest_components_or_root at)) old.attributes h1 r → AppendsReadNamesAsSeen told holds (λ s. attribute_names_read_by_calls (setup_of_stack old) s (delegate_calls_to_push_root at)) old.attributes h1 r
    go None e y = sees-one told holds (record old { current = [] }) h1 r y
    go (Some names) e y = absurd (cc e)

-- one directory further down
pub sees-below : (told : Option Names) (holds : Option ObjectsById) (old mid : StackModel) (name : List ℕ) (h1 : Option HeldAttributeLists) (r : Result (Unit {0}) AtPathError) → mid ≡ stack_after_pushing_component old name
    → AppendsReadNamesAsSeen told holds (λ s. attribute_names_of_directory (setup_of_stack mid) s mid.current) mid.attributes h1 r → AppendsReadNamesAsSeen told holds (λ s. attribute_names_read_by_calls (setup_of_stack old) s (delegate_calls_of_component (deepest_components_or_root old.at) name false)) old.attributes h1 r
sees-below told holds old mid name h1 r is x =
    sees-one told holds (record old { current = deepest_components_or_root old.at ++ name ∷ [] }) h1 r (subst (λ (m : StackModel). AppendsReadNamesAsSeen told holds (λ s. attribute_names_of_directory (setup_of_stack m) s m.current) m.attributes h1 r) is x)

-- the last component is pushed
pub sees-last : (told : Option Names) (holds : Option ObjectsById) (made : StackSetup) (a calls : List DelegateCall) (path : List ℕ) (is_last : Bool) (h0 h1 h2 : Option HeldAttributeLists) → calls ≡ a ++ push path is_last ∷ [] → h2 ≡ h1
    → AppendsReadNamesAsSeen {T = Unit {0}} told holds (λ s. attribute_names_read_by_calls made s a) h0 h1 (Ok tt) → AppendsReadNamesAsSeen {T = Unit {0}} told holds (λ s. attribute_names_read_by_calls made s calls) h0 h2 (Ok tt)
sees-last told holds made a calls path is_last h0 h1 h2 calls_are same x =
    on-then told told holds holds made made a (push path is_last ∷ []) calls h0 h1 h2 (Ok tt) refl refl refl calls_are x (sees-nothing told holds (λ s. []) h1 h2 (Ok tt) same (λ s. refl))

-- no component is left
pub sees-left : (told : Option Names) (holds : Option ObjectsById) (made : StackSetup) (a calls : List DelegateCall) (h0 h1 h2 : Option HeldAttributeLists) → calls ≡ a → h2 ≡ h1
    → AppendsReadNamesAsSeen {T = Unit {0}} told holds (λ s. attribute_names_read_by_calls made s a) h0 h1 (Ok tt) → AppendsReadNamesAsSeen {T = Unit {0}} told holds (λ s. attribute_names_read_by_calls made s calls) h0 h2 (Ok tt)
sees-left told holds made a calls h0 h1 h2 calls_are same x =
    subst (λ (h : Option HeldAttributeLists). AppendsReadNamesAsSeen {T = Unit {0}} told holds (λ s. attribute_names_read_by_calls made s calls) h0 h (Ok tt)) (sym same)
    (subst (λ (c : List DelegateCall). AppendsReadNamesAsSeen {T = Unit {0}} told holds (λ s. attribute_names_read_by_calls made s c) h0 h1 (Ok tt)) (sym calls_are) x)

-- a refusal for want of memory behind other calls
pub sees-short : (told : Option Names) (holds : Option ObjectsById) (made : StackSetup) (a b calls : List DelegateCall) (h0 h1 h2 : Option HeldAttributeLists) (r : Result (Unit {0}) AtPathError) (e : AtPathError) → IsErrAnd r (λ x. x ≡ e) → calls ≡ a ++ b → h2 ≡ h1
    → AppendsReadNamesAsSeen {T = Unit {0}} told holds (λ s. attribute_names_read_by_calls made s a) h0 h1 (Ok tt) → AppendsReadNamesAsSeen told holds (λ s. attribute_names_read_by_calls made s calls) h0 h2 r
sees-short told holds made a b calls h0 h1 h2 r e said calls_are same x =
    on-then told told holds holds made made a b calls h0 h1 h2 r refl refl refl calls_are x (sees-refused told holds (λ s. attribute_names_read_by_calls made s b) h1 h2 r e said same)

-- ---- in the trees that directories are made in

module _ (made : StackSetup) (way : CheckoutLookupOptions) (objects : ObjectsById) where
  pub out-append : (p : DirectoryOutcome) (a b : List DelegateCall) → attribute_names_read_in_checkout made way objects p (a ++ b) ≡ attribute_names_read_in_checkout made way objects p a ++ attribute_names_read_in_checkout made way objects (ran way p a) b
  out-append p [] b = refl
  out-append p (push path is_last ∷ a) b = out-append (outcome_of_pushed_component way p path is_last) a b
  out-append p (push_directory path ∷ a) b =
      let own : List (List ℕ) = attribute_names_of_setup made made.attributes (record { tree = p.tree; objects = objects }) path in
      ap (λ (l : List (List ℕ)). own ++ l) (out-append p a b) ∙ sym (append_assoc own (attribute_names_read_in_checkout made way objects p a) (attribute_names_read_in_checkout made way objects (ran way p a) b))
  out-append p (pop_directory ∷ a) b = out-append p a b

  -- where no component is pushed the tree is the same
  pub out-unpushed : (p : DirectoryOutcome) (calls : List DelegateCall) → AreUnpushed calls → attribute_names_read_in_checkout made way objects p calls ≡ attribute_names_read_by_calls made (record { tree = p.tree; objects = objects }) calls
  out-unpushed p [] are = refl
  out-unpushed p (push path is_last ∷ calls) are = absurd are
  out-unpushed p (push_directory path ∷ calls) are = ap (λ (l : List (List ℕ)). attribute_names_of_setup made made.attributes (record { tree = p.tree; objects = objects }) path ++ l) (out-unpushed p calls are)
  out-unpushed p (pop_directory ∷ calls) are = out-unpushed p calls are

pub sees-unpushed : (told : Option Names) (holds : Option ObjectsById) (way : CheckoutLookupOptions) (made : StackSetup) (n : ℕ) (calls : List DelegateCall) (h0 h1 : Option HeldAttributeLists) (r : Result (Unit {0}) AtPathError) → AreUnpushed calls
    → AppendsReadNamesAsSeen told holds (λ s. attribute_names_read_by_calls made s calls) h0 h1 r → AppendsReadNamesAsSeen told holds (λ s. attribute_names_read_in_checkout made way s.objects (outcome_before_checkout s.tree n) calls) h0 h1 r
sees-unpushed told holds way made n calls h0 h1 r are x =
    sees-as told holds (λ s. attribute_names_read_by_calls made s calls) h0 h1 (λ s. attribute_names_read_in_checkout made way s.objects (outcome_before_checkout s.tree n) calls) r
    (λ s tells. out-unpushed made way s.objects (outcome_before_checkout s.tree n) calls are) x

pub out-front : (told : Option Names) (holds : Option ObjectsById) (way : CheckoutLookupOptions) (made : StackSetup) (n : ℕ) (a b : List DelegateCall) (h0 h1 : Option HeldAttributeLists) (e : AtPathError)
    → AppendsReadNamesAsSeen {T = Unit {0}} told holds (λ s. attribute_names_read_in_checkout made way s.objects (outcome_before_checkout s.tree n) a) h0 h1 (Err e)
    → AppendsReadNamesAsSeen {T = Unit {0}} told holds (λ s. attribute_names_read_in_checkout made way s.objects (outcome_before_checkout s.tree n) (a ++ b)) h0 h1 (Err e)
out-front told holds way made n a b h0 h1 e x =
    sees-front told holds (λ s. attribute_names_read_in_checkout made way s.objects (outcome_before_checkout s.tree n) a) h0 h1 (λ s. attribute_names_read_in_checkout made way s.objects (outcome_before_checkout s.tree n) (a ++ b)) e x
    (λ s tells. (attribute_names_read_in_checkout made way s.objects (ran way (outcome_before_checkout s.tree n) a) b, out-append made way s.objects (outcome_before_checkout s.tree n) a b))

-- what is seen behind a way that was gone
pub out-then : {W : Type 0} (w : WorktreeOf W) {wa wb : W} (holds0 holds1 : Option ObjectsById) (way : CheckoutLookupOptions) (made0 made1 : StackSetup) (a b : List DelegateCall) (n0 n1 : ℕ) (s0 s1 : Statistics) (h0 h1 h2 : Option HeldAttributeLists)
    (r : Result (Unit {0}) AtPathError) → holds1 ≡ holds0 → made1 ≡ made0 → MakesAndReadsByCalls w wa wb holds0 way a made0 n0 n1 s0 s1
    → AppendsReadNamesAsSeen {T = Unit {0}} (w.told wa) holds0 (λ s. attribute_names_read_in_checkout made0 way s.objects (outcome_before_checkout s.tree n0) a) h0 h1 (Ok tt)
    → AppendsReadNamesAsSeen (w.told wb) holds1 (λ s. attribute_names_read_in_checkout made1 way s.objects (outcome_before_checkout s.tree n1) b) h1 h2 r
    → AppendsReadNamesAsSeen (w.told wa) holds0 (λ s. attribute_names_read_in_checkout made0 way s.objects (outcome_before_checkout s.tree n0) (a ++ b)) h0 h2 r
out-then w {wa} {wb} holds0 holds1 way made0 made1 a b n0 n1 s0 s1 h0 h1 h2 r same_holds same_made works first second =
    sees-then (w.told wa) (w.told wb) holds0 holds1 (λ s. attribute_names_read_in_checkout made0 way s.objects (outcome_before_checkout s.tree n0) a) (λ s. attribute_names_read_in_checkout made1 way s.objects (outcome_before_checkout s.tree n1) b)
    (λ s. attribute_names_read_in_checkout made0 way s.objects (outcome_before_checkout s.tree n0) (a ++ b)) h0 h1 h2 r first
    (λ s tells. behind s tells) second
  where
    behind : (s : TreeAndObjects) → Tells (w.told wa) holds0 s
        → (after : TreeAndObjects) × Tells (w.told wb) holds1 after
        × (attribute_names_read_in_checkout made0 way s.objects (outcome_before_checkout s.tree n0) (a ++ b) ≡ attribute_names_read_in_checkout made0 way s.objects (outcome_before_checkout s.tree n0) a ++ attribute_names_read_in_checkout made1 way after.objects (outcome_before_checkout after.tree n1) b)
    behind s tells =
        let p : DirectoryOutcome = outcome_of_checkout_calls way (outcome_before_checkout s.tree n0) a in
        let x : EqualsDirectoryOutcome p (w.told wb) n1 makes.Made = works.tree s.tree tells.tree_is in
        let same : p ≡ outcome_before_checkout p.tree n1 = same-outcome p n1 x.answer_is x.calls_are in
        let front : List (List ℕ) = attribute_names_read_in_checkout made0 way s.objects (outcome_before_checkout s.tree n0) a in (
          record { tree = p.tree; objects = s.objects },
          record { tree_is = x.tree_is; objects_are = same_holds ∙ tells.objects_are },
          out-append made0 way s.objects (outcome_before_checkout s.tree n0) a b
              ∙ ap (λ (q : DirectoryOutcome). front ++ attribute_names_read_in_checkout made0 way s.objects q b) (ran-checked way (outcome_before_checkout s.tree n0) a (sym x.answer_is) ∙ same)
              ∙ ap (λ (m : StackSetup). front ++ attribute_names_read_in_checkout m way s.objects (outcome_before_checkout p.tree n1) b) (sym same_made),
        )
