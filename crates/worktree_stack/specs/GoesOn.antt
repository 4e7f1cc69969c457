-- What the steps of a lookup do that makes the directories on its way.
use Rattle.std.specs.Prelude.{◌≡◌, ◌⊎◌, ◌≤◌, ◌*◌, ℕ, ◌+◌, Bool, true, false, not, ◌||◌, if◌then◌else◌, List, [], ◌∷◌, ◌++◌, length, reverse, Option, Some, None, Result, IfErr, OnOk, OnErr}
use Rattle.std.specs.List.{list_any}
use Rattle.gitbase_core.specs.Path.{components}
use Rattle.gitbase_core.specs.declared.find.Find.{Ghosts as FindOf}
use Rattle.worktree_fs.specs.ByNames.{descendant_by_names}
use Rattle.worktree_fs.specs.Causes.{CountIncreasedOrSaturated}
use Rattle.worktree_fs.specs.Composed.{nfc_if_composing}
use Rattle.worktree_fs.specs.Kept.{KeepsStoredObjects}
use Rattle.worktree_fs.specs.Paths.{root_joined_with_relative, is_dot_or_dot_dot, slash_joined_components}
use Rattle.worktree_fs.specs.PathStack.{DelegateCall, deepest_components_or_root}
use Rattle.worktree_fs.specs.Tree.{Names, reached, directory, none, resolution_of_path}
use Rattle.worktree_fs.specs.declared.answers.MakeAnswer.TheVariants as makes
use Rattle.worktree_fs.specs.declared.worktree.Worktree.{Ghosts as WorktreeOf}
use Rattle.worktree_stack.specs.declared.error.AtPathError.{AtPathError}
use Rattle.worktree_stack.specs.declared.error.AtPathError.TheVariants as errors
use Rattle.worktree_stack.specs.Checkout.{EqualsDirectoryOutcome, KeepsListingsAndReads, IsTreeAfterEnsuringDirectory, IsLastNameComposed, LeadsToDirectory}
use Rattle.worktree_stack.specs.ChecksOut.{MayCheckOutComponents, ReadSameInDirectories, AreDirectoriesBelowRoot, StopsCheckout, IsPathWithoutLinksOrDots, IsInStepWithDirectoriesPresent, AreNewNamesComposed, MayMakeDirectories, ExplainsRefusedComponent, number_of_pushed_components}
use Rattle.worktree_stack.specs.Asked.{number_of_all_files_asked_by_calls}
use Rattle.worktree_stack.specs.Lookups.{stack_after_pushing_component}
use Rattle.worktree_stack.specs.Making.{CheckoutLookupOptions, MakesAndReadsByCalls, is_known_directory, must_make_directory, mkdir_count_of_stack, outcome_of_pushed_component, outcome_before_checkout, with_zero_mkdir_count}
use Rattle.worktree_stack.specs.Reading.{TreeAndObjects, Tells}
use Rattle.worktree_stack.specs.SeenNames.{AppendsReadNamesAsSeen, attribute_names_read_in_checkout}
use Rattle.worktree_stack.specs.Setup.{HeldAttributeLists, HeldIgnoreRules, StackSetup}
use Rattle.worktree_stack.specs.Stacked.{StackModel, HoldsRulesOfTree, HasCountsOfPushedDirectories, setup_of_stack, pushed_directories}
use Rattle.worktree_stack.specs.Steps.{CarriesOutCalls}
use Rattle.worktree_stack.specs.Validate.{component_error}

-- a directory is to be at a component, by what is known of the path
abbrev pub must_be_directory : Bool → Option Bool → Bool
must_be_directory is_last kind = not is_last || is_known_directory kind

-- so many directories were asked to be made
abbrev pub with_mkdir_count : StackModel → ℕ → StackModel
with_mkdir_count s count = record s { statistics = record s.statistics { delegate = record s.statistics.delegate { num_mkdir_calls = count } } }

-- What comes of the component at the end of the current path.
pub record ValidatesAndMakesCurrentComponent {W : Type 0} (w : WorktreeOf W) (w0 w1 : W) (way : CheckoutLookupOptions) (is_link protects : Bool) (name : List ℕ) (is_last : Bool)
    (old new : StackModel) (result : Result (Unit {0}) AtPathError) : Type 0 where
  pub same : new ≡ with_mkdir_count old (mkdir_count_of_stack new)
  pub tested : OnOk result (component_error name is_link protects ≡ None)
  pub made : (t : Names) → w.told w0 ≡ Some t → OnOk result (EqualsDirectoryOutcome (outcome_of_pushed_component way (outcome_before_checkout t (mkdir_count_of_stack old)) (slash_joined_components old.current) is_last) (w.told w1) (mkdir_count_of_stack new) makes.Made)
  pub there : (t : Names) → w.told w0 ≡ Some t → must_make_directory way is_last ≡ true → IsLastNameComposed way.composes (root_joined_with_relative way.root (slash_joined_components old.current))
      → OnOk result (LeadsToDirectory (outcome_of_pushed_component way (outcome_before_checkout t (mkdir_count_of_stack old)) (slash_joined_components old.current) is_last).tree (root_joined_with_relative way.root (slash_joined_components old.current)))
  pub refused : IfErr result (ExplainsRefusedComponent w w0 w1 way is_link protects (mkdir_count_of_stack old) (mkdir_count_of_stack new) name (root_joined_with_relative way.root (slash_joined_components old.current)) is_last)
  pub unfaulted : OnOk result (w.faults w1 ≡ w.faults w0)
  pub least : mkdir_count_of_stack old ≤ mkdir_count_of_stack new
  pub most : mkdir_count_of_stack new ≤ mkdir_count_of_stack old + 2 * (if must_make_directory way is_last then 1 else 0)
  pub changes : KeepsListingsAndReads w w0 w1
  pub changed : (t t1 : Names) → w.told w0 ≡ Some t → w.told w1 ≡ Some t1 → IsLastNameComposed way.composes (root_joined_with_relative way.root (slash_joined_components old.current))
      → IsTreeAfterEnsuringDirectory way.unlinks (root_joined_with_relative way.root (slash_joined_components old.current)) t t1

-- What comes of a component below the deepest directory. Where it is refused that directory is the current path.
pub record PushesComponentInCheckout {W : Type 0} (w : WorktreeOf W) (w0 w1 : W) (way : CheckoutLookupOptions) (is_link protects : Bool) (name : List ℕ) (is_last : Bool)
    (old new : StackModel) (result : Result (Unit {0}) AtPathError) : Type 0 where
  pub passed : OnOk result (new ≡ with_mkdir_count (stack_after_pushing_component old name) (mkdir_count_of_stack new))
  pub tested : OnOk result (component_error name is_link protects ≡ None)
  pub made : (t : Names) → w.told w0 ≡ Some t
      → OnOk result (EqualsDirectoryOutcome (outcome_of_pushed_component way (outcome_before_checkout t (mkdir_count_of_stack old)) (slash_joined_components (deepest_components_or_root old.at ++ name ∷ [])) is_last) (w.told w1) (mkdir_count_of_stack new) makes.Made)
  pub there : (t t1 : Names) → w.told w0 ≡ Some t → w.told w1 ≡ Some t1 → must_make_directory way is_last ≡ true → IsLastNameComposed way.composes (root_joined_with_relative way.root (slash_joined_components (deepest_components_or_root old.at ++ name ∷ [])))
      → OnOk result (LeadsToDirectory t1 (root_joined_with_relative way.root (slash_joined_components (deepest_components_or_root old.at ++ name ∷ []))))
  pub refused : IfErr result (λ e. ((e ≡ errors.OutOfMemory) × (w1 ≡ w0) × (new ≡ record old { current = deepest_components_or_root old.at }))
      ⊎ ((new ≡ record (with_mkdir_count (stack_after_pushing_component old name) (mkdir_count_of_stack new)) { current = deepest_components_or_root old.at })
      × ExplainsRefusedComponent w w0 w1 way is_link protects (mkdir_count_of_stack old) (mkdir_count_of_stack new) name (root_joined_with_relative way.root (slash_joined_components (deepest_components_or_root old.at ++ name ∷ []))) is_last e))
  pub unfaulted : OnOk result (w.faults w1 ≡ w.faults w0)
  pub least : mkdir_count_of_stack old ≤ mkdir_count_of_stack new
  pub most : mkdir_count_of_stack new ≤ mkdir_count_of_stack old + 2 * (if must_make_directory way is_last then 1 else 0)
  pub changes : KeepsListingsAndReads w w0 w1
  pub changed : (t t1 : Names) → w.told w0 ≡ Some t → w.told w1 ≡ Some t1 → IsLastNameComposed way.composes (root_joined_with_relative way.root (slash_joined_components (deepest_components_or_root old.at ++ name ∷ [])))
      → IsTreeAfterEnsuringDirectory way.unlinks (root_joined_with_relative way.root (slash_joined_components (deepest_components_or_root old.at ++ name ∷ []))) t t1

-- What stays of a worktree that is read too.
pub record MayAlterTreeButNotList {W : Type 0} (w : WorktreeOf W) (before now : W) : Type 0 where
  pub untold : w.told before ≡ None → w.told now ≡ None
  pub faults : w.faults before ≤ w.faults now
  pub list_faults : w.list_faults now ≡ w.list_faults before
  pub reads : w.reads before ≤ w.reads now
  pub lists : w.lists now ≡ w.lists before
  pub precomposes : w.precomposes now ≡ w.precomposes before

-- Some calls of a lookup, which push these components, go through or are refused.
pub record RunsCheckoutCalls {W F : Type 0} (w : WorktreeOf W) (f : FindOf F) (w0 w1 : W) (o0 o1 : F) (way : CheckoutLookupOptions) (is_link protects : Bool)
    (calls : List DelegateCall) (names : List (List ℕ)) (old new : StackModel) (result : Result (Unit {0}) AtPathError) : Type 0 where
  pub made : setup_of_stack new ≡ setup_of_stack old
  pub carried : OnOk result (CarriesOutCalls None None calls (with_zero_mkdir_count old) (with_zero_mkdir_count new))
  pub works : OnOk result (MakesAndReadsByCalls w w0 w1 (f.holds o0) way calls (setup_of_stack old) (mkdir_count_of_stack old) (mkdir_count_of_stack new) old.statistics new.statistics)
  pub tested : OnOk result (MayCheckOutComponents is_link protects names)
  pub many : OnOk result (number_of_pushed_components calls ≡ length names)
  pub halted : IfErr result (StopsCheckout w w0 w1 (f.holds o0) way is_link protects (CountIncreasedOrSaturated (w.faults w0) (w.faults w1)) (CountIncreasedOrSaturated (f.faults o0) (f.faults o1)) calls names old new)
  pub is_dir : new.is_dir ≡ old.is_dir
  pub answered : new.is_answered ≡ old.is_answered
  pub platforms : new.statistics.platforms ≡ old.statistics.platforms
  pub levels : HasCountsOfPushedDirectories old → HasCountsOfPushedDirectories new
  pub sees : AppendsReadNamesAsSeen (w.told w0) (f.holds o0) (λ s. attribute_names_read_in_checkout (setup_of_stack old) way s.objects (outcome_before_checkout s.tree (mkdir_count_of_stack old)) calls) old.attributes new.attributes result
  pub store_untouched : (setup_of_stack old).mappings ≡ [] → o1 ≡ o0
  pub asked : w.reads w1 ≤ w.reads w0 + number_of_all_files_asked_by_calls (setup_of_stack old) calls
  pub alters : MayAlterTreeButNotList w w0 w1
  pub leaves_store : KeepsStoredObjects f o0 o1

-- ---- in step on the way

-- Between two trees, as where directories were made: a path that led to a directory still leads to one, and what is at names where
-- nothing was is a directory.
pub record KeepsDirectoriesAndNewNodesAreDirectories (before now : Names) : Type 0 where
  pub stays : (path : List ℕ) (names : List (List ℕ)) (inner : Names) → resolution_of_path before path false ≡ reached names (directory inner)
      → (more : Names) × (resolution_of_path now path false ≡ reached names (directory more))
  pub holds : (names : List (List ℕ)) (inner : Names) → descendant_by_names (reverse names) (Some (directory before)) ≡ Some (directory inner)
      → (more : Names) × (descendant_by_names (reverse names) (Some (directory now)) ≡ Some (directory more))
  pub grows : (names : List (List ℕ)) → descendant_by_names (reverse names) (Some (directory before)) ≡ None
      → (descendant_by_names (reverse names) (Some (directory now)) ≡ None) ⊎ ((more : Names) × (descendant_by_names (reverse names) (Some (directory now)) ≡ Some (directory more)))

-- the deepest directory that is pushed lies below the root, and nothing is in it yet
abbrev pub IsDeepestDirectoryEmpty : List ℕ → Names → Option (List (List ℕ)) → Type 0
IsDeepestDirectoryEmpty root t None = ⊥
IsDeepestDirectoryEmpty root t (Some []) = ⊥
IsDeepestDirectoryEmpty root t (Some (name ∷ names)) = (trail : List (List ℕ)) × (resolution_of_path t (root_joined_with_relative root (slash_joined_components (name ∷ names))) false ≡ reached trail (directory none))

-- nothing was changed yet, or the deepest directory is new
abbrev pub IsTreeUnchangedOrDeepestEmpty : Bool → List ℕ → Names → Names → Option (List (List ℕ)) → Type 0
IsTreeUnchangedOrDeepestEmpty false root t0 t at = t ≡ t0
IsTreeUnchangedOrDeepestEmpty true root t0 t at = IsDeepestDirectoryEmpty root t at

-- What is pushed holds what the tree has that a lookup ends with, where the rules files that were read are as they were at its beginning.
pub record HoldsForLaterTree (made : StackSetup) (s0 : TreeAndObjects) (t : Names) (at : Option (List (List ℕ))) (attributes : Option HeldAttributeLists) (ignore : Option HeldIgnoreRules) : Type 0 where
  pub changed : Bool
  pub at_hand : IsTreeUnchangedOrDeepestEmpty changed made.root s0.tree t at
  pub holds : (end : TreeAndObjects) → end.objects ≡ s0.objects → (changed ≡ true → KeepsDirectoriesAndNewNodesAreDirectories t end.tree)
      → ReadSameInDirectories made s0.tree end.tree (pushed_directories at) → HoldsRulesOfTree made end (pushed_directories at) attributes ignore
  pub there : AreDirectoriesBelowRoot made.root t (pushed_directories at)

-- It holds what the tree has that is there now.
pub record HoldsForPresentTree (made : StackSetup) (s0 : TreeAndObjects) (t : Names) (at : Option (List (List ℕ))) (attributes : Option HeldAttributeLists) (ignore : Option HeldIgnoreRules) : Type 0 where
  pub holds : (end : TreeAndObjects) → end.objects ≡ s0.objects → end.tree ≡ t
      → ReadSameInDirectories made s0.tree end.tree (pushed_directories at) → HoldsRulesOfTree made end (pushed_directories at) attributes ignore
  pub there : AreDirectoriesBelowRoot made.root t (pushed_directories at)

-- these components are on the way to a path, behind the deepest directory
pub record AreNextComponentsOfPath (way : CheckoutLookupOptions) (made : StackSetup) (at : Option (List (List ℕ))) (names : List (List ℕ)) : Type 0 where
  pub whole : List ℕ
  pub behind : List (List ℕ)
  pub parts : components whole ≡ deepest_components_or_root at ++ (names ++ behind)
  pub normal : list_any is_dot_or_dot_dot (components whole) ≡ false
  pub root : made.root ≡ way.root
  pub alone : made.ignore ≡ None

-- each of these names is composed already, where names are composed when they are made
abbrev pub AreComposedNames : Bool → List (List ℕ) → Type 0
AreComposedNames composes [] = Unit {0}
AreComposedNames composes (name ∷ names) = (nfc_if_composing composes name ≡ name) × AreComposedNames composes names

-- What a step keeps of this, answered or refused, where a worktree was `w0` and is `w1`.
pub record StepKeepsHeldRules {W F : Type 0} (w : WorktreeOf W) (f : FindOf F) (w0 w1 : W) (o0 : F) (way : CheckoutLookupOptions) (names : List (List ℕ)) (old new : StackModel)
    (result : Result (Unit {0}) AtPathError) : Type 0 where
  pub going : (s0 : TreeAndObjects) (t t1 : Names) → w.told w0 ≡ Some t → f.holds o0 ≡ Some s0.objects → w.told w1 ≡ Some t1 → AreNextComponentsOfPath way (setup_of_stack old) old.at names
      → AreComposedNames way.composes names → HoldsForLaterTree (setup_of_stack old) s0 t old.at old.attributes old.ignore → OnOk result (HoldsForLaterTree (setup_of_stack old) s0 t1 new.at new.attributes new.ignore)
  pub gone : (s0 : TreeAndObjects) (t t1 : Names) → w.told w0 ≡ Some t → f.holds o0 ≡ Some s0.objects → w.told w1 ≡ Some t1 → AreNextComponentsOfPath way (setup_of_stack old) old.at names
      → AreComposedNames way.composes names → (way.unlinks ≡ true → IsPathWithoutLinksOrDots s0.tree way.root)
      → HoldsForLaterTree (setup_of_stack old) s0 t old.at old.attributes old.ignore → OnErr result (HoldsForPresentTree (setup_of_stack old) s0 t1 new.at new.attributes new.ignore)

-- the same of all that is left of a path, where what is held is asked for the tree that is there in the end
pub record LookupKeepsHeldRules {W F : Type 0} (w : WorktreeOf W) (f : FindOf F) (w0 w1 : W) (o0 : F) (way : CheckoutLookupOptions) (names : List (List ℕ)) (old new : StackModel)
    (result : Result (Unit {0}) AtPathError) : Type 0 where
  pub gone : (s0 : TreeAndObjects) (t t1 : Names) → w.told w0 ≡ Some t → f.holds o0 ≡ Some s0.objects → w.told w1 ≡ Some t1 → AreNextComponentsOfPath way (setup_of_stack old) old.at names
      → AreNewNamesComposed way names → OnErr result (way.unlinks ≡ true → IsPathWithoutLinksOrDots s0.tree way.root)
      → HoldsForLaterTree (setup_of_stack old) s0 t old.at old.attributes old.ignore → HoldsForPresentTree (setup_of_stack old) s0 t1 new.at new.attributes new.ignore

-- the last of the components that are left of a path is a directory that is there, where it is to be one
pub record LeavesLastComponentDirectory {W : Type 0} (w : WorktreeOf W) (w1 : W) (way : CheckoutLookupOptions) (front names : List (List ℕ)) (result : Result (Unit {0}) AtPathError) : Type 0 where
  pub last : (t1 : Names) → w.told w1 ≡ Some t1 → way.makes_last ≡ true → (whole : List ℕ) → components whole ≡ front ++ names → list_any is_dot_or_dot_dot (components whole) ≡ false
      → AreNewNamesComposed way names → (names ≡ []) ⊎ OnOk result (LeadsToDirectory t1 (root_joined_with_relative way.root (slash_joined_components (front ++ names))))

-- A lookup that pushes the components that are left of a path keeps a stack in step.
pub record KeepsStackInStep {W F : Type 0} (w : WorktreeOf W) (f : FindOf F) (w0 w1 : W) (o0 o1 : F) (way : CheckoutLookupOptions) (names left : List (List ℕ)) (old new : StackModel)
    (result : Result (Unit {0}) AtPathError) : Type 0 where
  pub in_step : (setup_of_stack old).ignore ≡ None → list_any is_dot_or_dot_dot names ≡ false → (s0 s1 : TreeAndObjects) → Tells (w.told w0) (f.holds o0) s0 → Tells (w.told w1) (f.holds o1) s1 → MayMakeDirectories s0.tree way left result
      → ReadSameInDirectories (setup_of_stack old) s0.tree s1.tree (pushed_directories new.at) → IsInStepWithDirectoriesPresent s0 old → IsInStepWithDirectoriesPresent s1 new
  pub there : (setup_of_stack old).ignore ≡ None → list_any is_dot_or_dot_dot names ≡ false → (s0 s1 : TreeAndObjects) → Tells (w.told w0) (f.holds o0) s0 → Tells (w.told w1) (f.holds o1) s1 → MayMakeDirectories s0.tree way left result
      → IsInStepWithDirectoriesPresent s0 old → AreDirectoriesBelowRoot new.root s1.tree (pushed_directories new.at)
  pub last_there : list_any is_dot_or_dot_dot names ≡ false → (s0 s1 : TreeAndObjects) → Tells (w.told w0) (f.holds o0) s0 → Tells (w.told w1) (f.holds o1) s1 → AreNewNamesComposed way left
      → way.makes_last ≡ true → (names ≡ []) ⊎ OnOk result (LeadsToDirectory s1.tree (root_joined_with_relative way.root (slash_joined_components names)))
