-- What a stack holds of attributes on the way of a checkout.
use Rattle.std.specs.Prelude.{◌≡◌, ℕ, zero, suc, ◌-◌, List, [], ◌∷◌, ◌++◌, length, replicate, drop, true, false, Option, Some, None, is_some, Result, Ok, Err, OnOk}
use Rattle.std.proofs.Common.{refl, sym, ap, subst, ◌∙◌, append_assoc, arith}
use Rattle.std.proofs.lemmas.List.{append-nil, take-append-drop}
use Rattle.gitbase_core.specs.Objects.{ObjectsById}
use Rattle.glob_rules.specs.Attributes.{AttributeList}
use Rattle.worktree_fs.specs.PathStack.{DelegateCall, push_directory, push, pop_directory, delegate_calls_of_component, deepest_components_or_root, delegate_calls_to_push_root, number_of_directories_to_pop, shared_proper_ancestor_components}
use Rattle.worktree_fs.specs.Paths.{slash_joined_components}
use Rattle.worktree_fs.specs.declared.answers.MakeAnswer.{MakeAnswer}
use Rattle.worktree_fs.specs.declared.answers.MakeAnswer.TheVariants as makes
use Rattle.worktree_fs.specs.declared.worktree.Worktree.{Ghosts as WorktreeOf}
use Rattle.worktree_stack.specs.declared.statistics.Statistics.{Statistics}
use Rattle.worktree_stack.specs.Checkout.{DirectoryOutcome, EqualsDirectoryOutcome}
use Rattle.worktree_stack.specs.GoesOn.{with_mkdir_count}
use Rattle.worktree_stack.specs.HeldOut.{AppendsListsOfCheckout, AreLowestLists, AreAllDirectoriesReadInCheckout, KeepsLowestAppendsCheckoutLists, attribute_lists_pushed_in_checkout}
use Rattle.worktree_stack.specs.Lookups.{stack_after_pushing_component}
use Rattle.worktree_stack.specs.Making.{CheckoutLookupOptions, MakesAndReadsByCalls, outcome_of_checkout_calls, mkdir_count_of_stack, outcome_of_pushed_component, outcome_before_checkout, next_outcome_if_made}
use Rattle.worktree_stack.specs.Reading.{TreeAndObjects, Tells, attribute_lists_of_directory, attribute_lists_of_setup}
use Rattle.worktree_stack.specs.Setup.{HeldAttributeLists, StackSetup, held_attribute_lists, held_without_lists_of_directory, lists_without_last, lists_without_info_file}
use Rattle.worktree_stack.specs.Stacked.{StackModel, AppendsAttributeListsOfTree, setup_of_stack}

-- ---- what is dropped

pub lowest-all : (lists : List AttributeList) → AreLowestLists lists lists
lowest-all lists = record { above = []; all_is = sym (append-nil lists) }

pub lowest-then : (a b c : List AttributeList) → AreLowestLists a b → AreLowestLists b c → AreLowestLists a c
lowest-then a b c x y = record { above = x.above ++ y.above; all_is = y.all_is ∙ ap (λ (l : List AttributeList). l ++ y.above) x.all_is ∙ append_assoc a x.above y.above }

lowest-highest : (lists : List AttributeList) → AreLowestLists (lists_without_last lists) lists
lowest-highest lists = record { above = drop (length lists - 1) lists; all_is = sym (take-append-drop (length lists - 1) lists) }

lowest-info : (info : Option (List ℕ)) (d : List ℕ) (lists : List AttributeList) → AreLowestLists (lists_without_info_file info d lists) lists
lowest-info None d lists = lowest-all lists
lowest-info (Some path) [] lists = lowest-highest lists
lowest-info (Some path) (b ∷ bs) lists = lowest-all lists

-- those of a directory that is popped
pub lowest-popped : (d : List ℕ) (held : Option HeldAttributeLists) → AreLowestLists (held_attribute_lists (held_without_lists_of_directory d held)) (held_attribute_lists held)
lowest-popped d None = lowest-all []
lowest-popped d (Some held) =
    lowest-then (lists_without_last (lists_without_info_file held.setup.info d held.lists)) (lists_without_info_file held.setup.info d held.lists) held.lists
    (lowest-highest (lists_without_info_file held.setup.info d held.lists)) (lowest-info held.setup.info d held.lists)

-- ---- what is pushed

module _ (made : StackSetup) (way : CheckoutLookupOptions) (objects : ObjectsById) where
  lists-append : (p : DirectoryOutcome) (a b : List DelegateCall) → (outcome_of_checkout_calls way p a).answer ≡ makes.Made
      → attribute_lists_pushed_in_checkout made way objects p (a ++ b) ≡ attribute_lists_pushed_in_checkout made way objects p a ++ attribute_lists_pushed_in_checkout made way objects (outcome_of_checkout_calls way p a) b
  lists-append p [] b is = refl
  lists-append p (push path is_last ∷ a) b is =
      go (outcome_of_pushed_component way p path is_last) (outcome_of_pushed_component way p path is_last).answer refl (lists-append (outcome_of_pushed_component way p path is_last) a b) is
    where
      go : (here : DirectoryOutcome) (answer : MakeAnswer) → here.answer ≡ answer
          → ((outcome_of_checkout_calls way here a).answer ≡ makes.Made → attribute_lists_pushed_in_checkout made way objects here (a ++ b) ≡ attribute_lists_pushed_in_checkout made way objects here a ++ attribute_lists_pushed_in_checkout made way objects (outcome_of_checkout_calls way here a) b)
          → (next_outcome_if_made here (outcome_of_checkout_calls way here a) answer).answer ≡ makes.Made
          → attribute_lists_pushed_in_checkout made way objects here (a ++ b) ≡ attribute_lists_pushed_in_checkout made way objects here a ++ attribute_lists_pushed_in_checkout made way objects (next_outcome_if_made here (outcome_of_checkout_calls way here a) answer) b
      go here makes.Made e more is = more is
      go here makes.Exists e more is = absurd (cc (sym e ∙ is))
      go here makes.NoParent e more is = absurd (cc (sym e ∙ is))
  lists-append p (push_directory path ∷ a) b is =
      let own : List AttributeList = attribute_lists_of_setup made made.attributes (record { tree = p.tree; objects = objects }) path in
      ap (λ (l : List AttributeList). own ++ l) (lists-append p a b is) ∙ sym (append_assoc own (attribute_lists_pushed_in_checkout made way objects p a) (attribute_lists_pushed_in_checkout made way objects (outcome_of_checkout_calls way p a) b))
  lists-append p (pop_directory ∷ a) b is = lists-append p a b is

  lists-pops : (p : DirectoryOutcome) (n : ℕ) (calls : List DelegateCall) → attribute_lists_pushed_in_checkout made way objects p (replicate n pop_directory ++ calls) ≡ attribute_lists_pushed_in_checkout made way objects p calls
  lists-pops p zero calls = refl
  lists-pops p (suc n) calls = lists-pops p n calls

  read-append : (p : DirectoryOutcome) (a b : List DelegateCall) → (outcome_of_checkout_calls way p a).answer ≡ makes.Made
      → AreAllDirectoriesReadInCheckout made way objects p a → AreAllDirectoriesReadInCheckout made way objects (outcome_of_checkout_calls way p a) b → AreAllDirectoriesReadInCheckout made way objects p (a ++ b)
  read-append p [] b is first second = second
  read-append p (push path is_last ∷ a) b is first second =
      go (outcome_of_pushed_component way p path is_last) (outcome_of_pushed_component way p path is_last).answer refl (read-append (outcome_of_pushed_component way p path is_last) a b) is first second
    where
      go : (here : DirectoryOutcome) (answer : MakeAnswer) → here.answer ≡ answer
          → ((outcome_of_checkout_calls way here a).answer ≡ makes.Made → AreAllDirectoriesReadInCheckout made way objects here a → AreAllDirectoriesReadInCheckout made way objects (outcome_of_checkout_calls way here a) b → AreAllDirectoriesReadInCheckout made way objects here (a ++ b))
          → (next_outcome_if_made here (outcome_of_checkout_calls way here a) answer).answer ≡ makes.Made
          → AreAllDirectoriesReadInCheckout made way objects here a → AreAllDirectoriesReadInCheckout made way objects (next_outcome_if_made here (outcome_of_checkout_calls way here a) answer) b → AreAllDirectoriesReadInCheckout made way objects here (a ++ b)
      go here makes.Made e more is first second = more is first second
      go here makes.Exists e more is first second = absurd (cc (sym e ∙ is))
      go here makes.NoParent e more is first second = absurd (cc (sym e ∙ is))
  read-append p (push_directory path ∷ a) b is first second = (first.0, read-append p a b is first.1 second)
  read-append p (pop_directory ∷ a) b is first second = read-append p a b is first second

  read-pops : (p : DirectoryOutcome) (n : ℕ) (calls : List DelegateCall) → AreAllDirectoriesReadInCheckout made way objects p calls → AreAllDirectoriesReadInCheckout made way objects p (replicate n pop_directory ++ calls)
  read-pops p zero calls read = read
  read-pops p (suc n) calls read = read-pops p n calls read

pub same-outcome : (p : DirectoryOutcome) (calls : ℕ) → makes.Made ≡ p.answer → calls ≡ p.calls → p ≡ outcome_before_checkout p.tree calls
same-outcome p calls answer counted = ap (λ (a : MakeAnswer). record { answer = a; tree = p.tree; calls = p.calls }) (sym answer) ∙ ap (outcome_before_checkout p.tree) (sym counted)

-- what was pushed on a way and then on another
pub adds-then : {W : Type 0} (w : WorktreeOf W) {wa wb : W} (holds : Option ObjectsById) (way : CheckoutLookupOptions) (made : StackSetup) (a b : List DelegateCall) (n0 n1 : ℕ) (s0 s1 : Statistics) (h0 h1 h2 : Option HeldAttributeLists)
    → MakesAndReadsByCalls w wa wb holds way a made n0 n1 s0 s1 → (s : TreeAndObjects) → Tells (w.told wa) holds s → AppendsListsOfCheckout made way n0 s a h0 h1
    → ((after : TreeAndObjects) → Tells (w.told wb) holds after → AppendsListsOfCheckout made way n1 after b h1 h2) → AppendsListsOfCheckout made way n0 s (a ++ b) h0 h2
adds-then w {wa} {wb} holds way made a b n0 n1 s0 s1 h0 h1 h2 works s tells first second =
    let p : DirectoryOutcome = outcome_of_checkout_calls way (outcome_before_checkout s.tree n0) a in
    let x : EqualsDirectoryOutcome p (w.told wb) n1 makes.Made = works.tree s.tree tells.tree_is in
    let la : List AttributeList = attribute_lists_pushed_in_checkout made way s.objects (outcome_before_checkout s.tree n0) a in
    let lb : List AttributeList = attribute_lists_pushed_in_checkout made way s.objects (outcome_before_checkout p.tree n1) b in
    let same : p ≡ outcome_before_checkout p.tree n1 = same-outcome p n1 x.answer_is x.calls_are in
    let added : AppendsListsOfCheckout made way n1 (record { tree = p.tree; objects = s.objects }) b h1 h2 =
    second (record { tree = p.tree; objects = s.objects }) (record { tree_is = x.tree_is; objects_are = tells.objects_are }) in
    record {
      read =
          read-append made way s.objects (outcome_before_checkout s.tree n0) a b (sym x.answer_is) first.read
          (subst (λ (q : DirectoryOutcome). AreAllDirectoriesReadInCheckout made way s.objects q b) (sym same) added.read);
      lists =
          added.lists ∙ ap (λ (l : List AttributeList). l ++ lb) first.lists ∙ append_assoc (held_attribute_lists h0) la lb
          ∙ ap (λ (l : List AttributeList). held_attribute_lists h0 ++ l)
          (sym (lists-append made way s.objects (outcome_before_checkout s.tree n0) a b (sym x.answer_is) ∙ ap (λ (q : DirectoryOutcome). la ++ attribute_lists_pushed_in_checkout made way s.objects q b) same));
    }

-- a directory that is pushed where it was made
pub adds-step : (way : CheckoutLookupOptions) (s : TreeAndObjects) (old mid : StackModel) (new : Option HeldAttributeLists) (name : List ℕ) (count : ℕ) → mid ≡ with_mkdir_count (stack_after_pushing_component old name) count
    → AppendsAttributeListsOfTree (setup_of_stack mid) (record { tree = (outcome_of_pushed_component way (outcome_before_checkout s.tree (mkdir_count_of_stack old)) (slash_joined_components (deepest_components_or_root old.at ++ name ∷ [])) false).tree; objects = s.objects }) mid.current mid.attributes new
    → AppendsListsOfCheckout (setup_of_stack old) way (mkdir_count_of_stack old) s (delegate_calls_of_component (deepest_components_or_root old.at) name false) old.attributes new
adds-step way s old mid new name count passed pushed =
    let names : List (List ℕ) = deepest_components_or_root old.at ++ name ∷ [] in
    let after : TreeAndObjects = record { tree = (outcome_of_pushed_component way (outcome_before_checkout s.tree (mkdir_count_of_stack old)) (slash_joined_components names) false).tree; objects = s.objects } in
    let known : AppendsAttributeListsOfTree (setup_of_stack old) after names old.attributes new = subst (λ (m : StackModel). AppendsAttributeListsOfTree (setup_of_stack m) after m.current m.attributes new) passed pushed in
    record {
      read = (known.is_read, tt);
      lists = known.lists ∙ ap (λ (l : List AttributeList). held_attribute_lists old.attributes ++ l) (sym (append-nil (attribute_lists_of_directory (setup_of_stack old) after names)));
    }

-- no directory more is pushed
pub adds-same : (made : StackSetup) (way : CheckoutLookupOptions) (count : ℕ) (s : TreeAndObjects) (calls : List DelegateCall) (h0 h1 : Option HeldAttributeLists) → AreAllDirectoriesReadInCheckout made way s.objects (outcome_before_checkout s.tree count) calls
    → attribute_lists_pushed_in_checkout made way s.objects (outcome_before_checkout s.tree count) calls ≡ [] → h1 ≡ h0 → AppendsListsOfCheckout made way count s calls h0 h1
adds-same made way count s calls h0 h1 read none same =
    record { read = read; lists = ap held_attribute_lists same ∙ sym (append-nil (held_attribute_lists h0)) ∙ ap (λ (l : List AttributeList). held_attribute_lists h0 ++ l) (sym none) }

-- the root is pushed already
pub adds-rooted : (way : CheckoutLookupOptions) (s : TreeAndObjects) (old : StackModel) → is_some old.at ≡ true → AppendsListsOfCheckout (setup_of_stack old) way (mkdir_count_of_stack old) s (delegate_calls_to_push_root old.at) old.attributes old.attributes
adds-rooted way s old some = go old.at some
  where
    go : (at : Option (List (List ℕ))) → is_some at ≡ true → AppendsListsOfCheckout (setup_of_stack old) way (mkdir_count_of_stack old) s (delegate_calls_to_push_root at) old.attributes old.attributes
    go None some = absurd (cc some)
    go (Some names) some = adds-same (setup_of_stack old) way (mkdir_count_of_stack old) s [] old.attributes old.attributes tt refl refl

-- and where it is not
pub adds-root : (way : CheckoutLookupOptions) (s : TreeAndObjects) (old mid : StackModel) (new : Option HeldAttributeLists) → is_some old.at ≡ false → mid ≡ record old { current = deepest_components_or_root old.at }
    → AppendsAttributeListsOfTree (setup_of_stack mid) s mid.current mid.attributes new → AppendsListsOfCheckout (setup_of_stack old) way (mkdir_count_of_stack old) s (delegate_calls_to_push_root old.at) old.attributes new
adds-root way s old mid new none left pushed =
    go old.at none (subst (λ (m : StackModel). AppendsAttributeListsOfTree (setup_of_stack m) s m.current m.attributes new) left pushed)
  where
    go : (at : Option (List (List ℕ))) → is_some at ≡ false → AppendsAttributeListsOfTree (setup_of_stack old) s (deepest_components_or_root at) old.attributes new
        → AppendsListsOfCheckout (setup_of_stack old) way (mkdir_count_of_stack old) s (delegate_calls_to_push_root at) old.attributes new
    go None none known =
        record {
          read = (known.is_read, tt);
          lists = known.lists ∙ ap (λ (l : List AttributeList). held_attribute_lists old.attributes ++ l) (sym (append-nil (attribute_lists_of_directory (setup_of_stack old) s [])));
        }
    go (Some names) none known = absurd (cc none)

pub always : {T E P : Type 0} (r : Result T E) → P → OnOk r P
always (Ok x) p = p
always (Err e) p = tt

-- ---- a whole lookup

-- the root is pushed, then what is too deep is popped, and the rest is pushed
pub holds-whole : (made : StackSetup) (way : CheckoutLookupOptions) (count : ℕ) (s : TreeAndObjects) (at : Option (List (List ℕ))) (n : ℕ) (below : List DelegateCall) (h0 h1 h2 h3 : Option HeldAttributeLists)
    → AppendsListsOfCheckout made way count s (delegate_calls_to_push_root at) h0 h1 → AreLowestLists (held_attribute_lists h2) (held_attribute_lists h1) → (at ≡ None → held_attribute_lists h2 ≡ held_attribute_lists h1) → AppendsListsOfCheckout made way count s below h2 h3
    → KeepsLowestAppendsCheckoutLists made way count s (delegate_calls_to_push_root at ++ replicate n pop_directory ++ below) h0 h3
holds-whole made way count s None n below h0 h1 h2 h3 rooted dropped same added =
    let own : List AttributeList = attribute_lists_of_directory made s [] in
    let more : List AttributeList = attribute_lists_pushed_in_checkout made way s.objects (outcome_before_checkout s.tree count) below in
    record {
      kept = held_attribute_lists h0;
      lowest = lowest-all (held_attribute_lists h0);
      read = (rooted.read.0, read-pops made way s.objects (outcome_before_checkout s.tree count) n below added.read);
      lists =
          added.lists ∙ ap (λ (l : List AttributeList). l ++ more) (same refl ∙ rooted.lists ∙ ap (λ (l : List AttributeList). held_attribute_lists h0 ++ l) (append-nil own))
          ∙ append_assoc (held_attribute_lists h0) own more
          ∙ ap (λ (l : List AttributeList). held_attribute_lists h0 ++ (own ++ l)) (sym (lists-pops made way s.objects (outcome_before_checkout s.tree count) n below));
    }
holds-whole made way count s (Some names) n below h0 h1 h2 h3 rooted dropped same added =
    record {
      kept = held_attribute_lists h2;
      lowest = record { above = dropped.above; all_is = sym (append-nil (held_attribute_lists h0)) ∙ sym rooted.lists ∙ dropped.all_is };
      read = read-pops made way s.objects (outcome_before_checkout s.tree count) n below added.read;
      lists = added.lists ∙ ap (λ (l : List AttributeList). held_attribute_lists h2 ++ l) (sym (lists-pops made way s.objects (outcome_before_checkout s.tree count) n below));
    }

-- nothing is popped where the root was not pushed
pub none-surplus : (at at1 : Option (List (List ℕ))) (parts : List (List ℕ)) → at1 ≡ Some (deepest_components_or_root at) → at ≡ None → number_of_directories_to_pop at1 parts ≡ 0
none-surplus at at1 parts rooted none = ap (λ d. number_of_directories_to_pop d parts) (rooted ∙ ap (λ a. Some (deepest_components_or_root a)) none) ∙ nothing (length (shared_proper_ancestor_components [] parts))
  where
    nothing : (n : ℕ) → 0 - n ≡ 0
    nothing n = omega arith
