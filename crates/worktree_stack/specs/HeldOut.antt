-- What a stack holds of attributes when a checkout has come to a path: the lists of each directory, as it is read in the tree that it
-- was made in.
use Rattle.std.specs.Prelude.{◌≡◌, ◌++◌, ℕ, true, List, [], ◌∷◌, Option}
use Rattle.gitbase_core.specs.Objects.{ObjectsById}
use Rattle.glob_rules.specs.Attributes.{AttributeList}
use Rattle.worktree_fs.specs.PathStack.{DelegateCall, push_directory, push, pop_directory}
use Rattle.worktree_stack.specs.Checkout.{DirectoryOutcome}
use Rattle.worktree_stack.specs.Making.{CheckoutLookupOptions, outcome_of_pushed_component, outcome_before_checkout}
use Rattle.worktree_stack.specs.Reading.{TreeAndObjects, is_read_without_refusal, attribute_lists_of_setup, rules_texts_of_directory}
use Rattle.worktree_stack.specs.Setup.{HeldAttributeLists, StackSetup, held_attribute_lists}

-- the lists of the directories that some calls push, the lowest first, each as it is read in the tree that it was made in
abbrev pub attribute_lists_pushed_in_checkout : StackSetup → CheckoutLookupOptions → ObjectsById → DirectoryOutcome → List DelegateCall → List AttributeList
attribute_lists_pushed_in_checkout made way objects p [] = []
attribute_lists_pushed_in_checkout made way objects p (push path is_last ∷ calls) = attribute_lists_pushed_in_checkout made way objects (outcome_of_pushed_component way p path is_last) calls
attribute_lists_pushed_in_checkout made way objects p (push_directory path ∷ calls) = attribute_lists_of_setup made made.attributes (record { tree = p.tree; objects = objects }) path ++ attribute_lists_pushed_in_checkout made way objects p calls
attribute_lists_pushed_in_checkout made way objects p (pop_directory ∷ calls) = attribute_lists_pushed_in_checkout made way objects p calls

-- each directory that some calls push is read in the tree that it was made in, and none of its readings is refused there
abbrev pub AreAllDirectoriesReadInCheckout : StackSetup → CheckoutLookupOptions → ObjectsById → DirectoryOutcome → List DelegateCall → Type 0
AreAllDirectoriesReadInCheckout made way objects p [] = Unit {0}
AreAllDirectoriesReadInCheckout made way objects p (push path is_last ∷ calls) = AreAllDirectoriesReadInCheckout made way objects (outcome_of_pushed_component way p path is_last) calls
AreAllDirectoriesReadInCheckout made way objects p (push_directory path ∷ calls) = (is_read_without_refusal (rules_texts_of_directory made (record { tree = p.tree; objects = objects }) path) ≡ true) × AreAllDirectoriesReadInCheckout made way objects p calls
AreAllDirectoriesReadInCheckout made way objects p (pop_directory ∷ calls) = AreAllDirectoriesReadInCheckout made way objects p calls

-- Some lists are the lowest of others.
pub record AreLowestLists (lists all : List AttributeList) : Type 0 where
  pub above : List AttributeList
  pub all_is : all ≡ lists ++ above

-- The directories that some calls push are read, and their lists came above those that were held.
pub record AppendsListsOfCheckout (made : StackSetup) (way : CheckoutLookupOptions) (count : ℕ) (s : TreeAndObjects) (calls : List DelegateCall) (old new : Option HeldAttributeLists) : Type 0 where
  pub read : AreAllDirectoriesReadInCheckout made way s.objects (outcome_before_checkout s.tree count) calls
  pub lists : held_attribute_lists new ≡ held_attribute_lists old ++ attribute_lists_pushed_in_checkout made way s.objects (outcome_before_checkout s.tree count) calls

-- Of the lists that were held the lowest stayed, and those of the directories that a lookup pushes, which are read, came above them.
pub record KeepsLowestAppendsCheckoutLists (made : StackSetup) (way : CheckoutLookupOptions) (count : ℕ) (s : TreeAndObjects) (calls : List DelegateCall) (old new : Option HeldAttributeLists) : Type 0 where
  pub kept : List AttributeList
  pub lowest : AreLowestLists kept (held_attribute_lists old)
  pub read : AreAllDirectoriesReadInCheckout made way s.objects (outcome_before_checkout s.tree count) calls
  pub lists : held_attribute_lists new ≡ kept ++ attribute_lists_pushed_in_checkout made way s.objects (outcome_before_checkout s.tree count) calls
