-- What a lookup does that makes directories on its way.
use Rattle.std.specs.Prelude.{◌≡◌, ◌⊎◌, ◌≤◌, ℕ, ◌+◌, Bool, true, false, List, [], ◌∷◌, ◌++◌, length, drop, Option, Some, None, Result, IfErr, OnOk, OnErr, IsErrOf}
use Rattle.std.specs.List.{list_any}
use Rattle.gitbase_core.specs.Causes.{saturating_increment as one_more}
use Rattle.gitbase_core.specs.Objects.{ObjectsById}
use Rattle.gitbase_core.specs.Path.{components}
use Rattle.gitbase_core.specs.declared.find.Find.{Ghosts as FindOf}
use Rattle.worktree_fs.specs.ByNames.{descendant_by_names}
use Rattle.worktree_fs.specs.Causes.{CountIncreasedOrSaturated}
use Rattle.worktree_fs.specs.Composed.{nfc_if_composing}
use Rattle.worktree_fs.specs.Paths.{is_relative_without_dots, is_dot_or_dot_dot, is_nil, root_joined_with_relative, slash_joined_components}
use Rattle.worktree_fs.specs.PathStack.{DelegateCall, push_directory, push, pop_directory, delegate_calls_of_lookup, shared_proper_ancestor_components, deepest_components_or_root, IsNothingOrProperAncestor}
use Rattle.worktree_fs.specs.Tree.{Names, Node, link, look, directory}
use Rattle.worktree_fs.specs.declared.worktree.Worktree.{Ghosts as WorktreeOf}
use Rattle.worktree_stack.specs.declared.error.AtPathError.{AtPathError}
use Rattle.worktree_stack.specs.declared.error.AtPathError.TheVariants as errors
use Rattle.worktree_stack.specs.declared.state.Checkout.{Checkout}
use Rattle.worktree_stack.specs.declared.statistics.Statistics.{Statistics}
use Rattle.worktree_stack.specs.Checkout.{LeadsToDirectory, ExplainsMissingDirectory}
use Rattle.worktree_stack.specs.Counted.{with_lookup_counted}
use Rattle.worktree_stack.specs.Lookups.{StandsAtPath, directories_kept_by_lookup}
use Rattle.worktree_stack.specs.Making.{CheckoutLookupOptions, checkout_lookup_options, is_known_directory, must_make_directory, mkdir_count_of_stack, outcome_before_checkout, with_zero_mkdir_count, MakesAndReadsByCalls}
use Rattle.worktree_stack.specs.Reading.{TreeAndObjects, Tells, RulesPlace, in_tree, list_bytes_of_file_lookup, places_of_directory}
use Rattle.worktree_stack.specs.Refused.{IsPlaceAmong, IsDirectoryReadingRefused}
use Rattle.worktree_stack.specs.SeenNames.{AppendsReadNamesAsSeen, attribute_names_read_in_checkout}
use Rattle.worktree_stack.specs.Setup.{StackSetup}
use Rattle.worktree_stack.specs.Stacked.{StackModel, IsInStepWithTree, HasCountsOfPushedDirectories, setup_of_stack, pushed_directories}
use Rattle.worktree_stack.specs.Steps.{CountsReadRules, CountsRefusedDirectoryReading, CarriesOutCalls, StopsAfterCalls}
use Rattle.worktree_stack.specs.Validate.{component_error}

-- ---- the components that are pushed

-- no component of these is refused
abbrev pub MayCheckOutComponents : Bool → Bool → List (List ℕ) → Type 0
MayCheckOutComponents is_link protects [] = Unit {0}
MayCheckOutComponents is_link protects (name ∷ names) = (component_error name is_link protects ≡ None) × MayCheckOutComponents is_link protects names

-- the components that a lookup pushes
abbrev pub components_pushed_by_lookup : Option (List (List ℕ)) → List (List ℕ) → List (List ℕ)
components_pushed_by_lookup at names = drop (length (shared_proper_ancestor_components (deepest_components_or_root at) names)) names

-- how many components some calls push
abbrev pub number_of_pushed_components : List DelegateCall → ℕ
number_of_pushed_components [] = 0
number_of_pushed_components (push path is_last ∷ calls) = 1 + number_of_pushed_components calls
number_of_pushed_components (push_directory path ∷ calls) = number_of_pushed_components calls
number_of_pushed_components (pop_directory ∷ calls) = number_of_pushed_components calls

-- Of these components some calls have pushed all but the last ones, which are left, and none is refused of those that were pushed.
pub record HasPushedValidComponents (is_link protects : Bool) (names : List (List ℕ)) (done : List DelegateCall) (left : List (List ℕ)) : Type 0 where
  pub passed : List (List ℕ)
  pub split : names ≡ passed ++ left
  pub tested : MayCheckOutComponents is_link protects passed
  pub many : number_of_pushed_components done ≡ length passed

-- ---- why it is refused

-- Why a component is refused that was pushed, where a worktree was `w0` and is `w1` and so many directories were counted: it may not be
-- checked out, and nothing is made for it; or it may, and no directory came to be at its path.
abbrev pub ExplainsRefusedComponent : {W : Type 0} → WorktreeOf W → W → W → CheckoutLookupOptions → Bool → Bool → ℕ → ℕ → List ℕ → List ℕ → Bool → AtPathError → Type 0
ExplainsRefusedComponent w w0 w1 way is_link protects calls0 calls1 name path is_last errors.NotNormal = ⊥
ExplainsRefusedComponent w w0 w1 way is_link protects calls0 calls1 name path is_last (errors.Component why) =
    (component_error name is_link protects ≡ Some why) × (w1 ≡ w0) × (calls1 ≡ calls0)
ExplainsRefusedComponent w w0 w1 way is_link protects calls0 calls1 name path is_last (errors.Collision at) =
    (component_error name is_link protects ≡ None) × (must_make_directory way is_last ≡ true) × ExplainsMissingDirectory w w0 w1 way.unlinks path calls0 calls1 (errors.Collision at)
ExplainsRefusedComponent w w0 w1 way is_link protects calls0 calls1 name path is_last (errors.Directory at why) =
    (component_error name is_link protects ≡ None) × (must_make_directory way is_last ≡ true) × ExplainsMissingDirectory w w0 w1 way.unlinks path calls0 calls1 (errors.Directory at why)
ExplainsRefusedComponent w w0 w1 way is_link protects calls0 calls1 name path is_last (errors.RulesFile at why) = ⊥
ExplainsRefusedComponent w w0 w1 way is_link protects calls0 calls1 name path is_last (errors.Blob id why) = ⊥
ExplainsRefusedComponent w w0 w1 way is_link protects calls0 calls1 name path is_last errors.OutOfMemory =
    (component_error name is_link protects ≡ None) × (must_make_directory way is_last ≡ true) × ExplainsMissingDirectory w w0 w1 way.unlinks path calls0 calls1 errors.OutOfMemory

-- A lookup was refused at a component, which is the next one of its path and was counted as pushed. The calls before it were carried
-- out, and left the worktree `middle` with so many directories counted. The deepest directory that is left is the current path.
pub record StopsCheckoutAtComponent {W : Type 0} (w : WorktreeOf W) (w0 w1 : W) (holds : Option ObjectsById) (way : CheckoutLookupOptions) (is_link protects : Bool)
    (calls : List DelegateCall) (names : List (List ℕ)) (old new : StackModel) (error : AtPathError) : Type 0 where
  pub directory : List (List ℕ)
  pub name : List ℕ
  pub behind : List (List ℕ)
  pub is_last : Bool
  pub done : List DelegateCall
  pub middle : W
  pub count : ℕ
  pub stopped : StopsAfterCalls calls (with_zero_mkdir_count old) (with_zero_mkdir_count new) done (Some (push (slash_joined_components (directory ++ name ∷ [])) is_last))
  pub passed : HasPushedValidComponents is_link protects names done (name ∷ behind)
  pub read : CountsReadRules None None (setup_of_stack old) done old.statistics new.statistics
  pub works : MakesAndReadsByCalls w w0 middle holds way done (setup_of_stack old) (mkdir_count_of_stack old) count old.statistics new.statistics
  pub later : w.faults w0 ≤ w.faults middle
  pub composes : w.precomposes middle ≡ w.precomposes w0
  pub refused : ExplainsRefusedComponent w middle w1 way is_link protects count (mkdir_count_of_stack new) name (root_joined_with_relative way.root (slash_joined_components (directory ++ name ∷ []))) is_last error

-- It was refused at the readings of a directory, by the tree that the lookup left; those before it were done. Of its own readings so
-- much was counted.
pub record StopsCheckoutAtReading {W : Type 0} (w : WorktreeOf W) (w0 w1 : W) (holds : Option ObjectsById) (way : CheckoutLookupOptions) (is_link protects : Bool) (TreeFailed StoreFailed : Type 0)
    (calls : List DelegateCall) (names : List (List ℕ)) (old new : StackModel) (error : AtPathError) : Type 0 where
  pub directory : List ℕ
  pub behind : List (List ℕ)
  pub done : List DelegateCall
  pub before : Statistics
  pub stopped : StopsAfterCalls calls (with_zero_mkdir_count old) (with_zero_mkdir_count new) done (Some (push_directory directory))
  pub passed : HasPushedValidComponents is_link protects names done behind
  pub read : CountsReadRules None None (setup_of_stack old) done old.statistics before
  pub works : MakesAndReadsByCalls w w0 w1 holds way done (setup_of_stack old) (mkdir_count_of_stack old) (mkdir_count_of_stack new) old.statistics before
  pub tried : CountsRefusedDirectoryReading (w.told w1) holds (setup_of_stack old) directory before new.statistics error
  pub refused : IsDirectoryReadingRefused (w.told w1) holds TreeFailed StoreFailed (setup_of_stack old) directory error

-- It stopped before a call, as no memory was left.
pub record StopsCheckoutWithoutMemory {W : Type 0} (w : WorktreeOf W) (w0 w1 : W) (holds : Option ObjectsById) (way : CheckoutLookupOptions) (is_link protects : Bool)
    (calls : List DelegateCall) (names : List (List ℕ)) (old new : StackModel) (error : AtPathError) : Type 0 where
  pub memory : error ≡ errors.OutOfMemory
  pub behind : List (List ℕ)
  pub done : List DelegateCall
  pub stopped : StopsAfterCalls calls (with_zero_mkdir_count old) (with_zero_mkdir_count new) done None
  pub passed : HasPushedValidComponents is_link protects names done behind
  pub read : CountsReadRules None None (setup_of_stack old) done old.statistics new.statistics
  pub works : MakesAndReadsByCalls w w0 w1 holds way done (setup_of_stack old) (mkdir_count_of_stack old) (mkdir_count_of_stack new) old.statistics new.statistics

-- where a lookup stopped that makes directories, and why: at a component, at the readings of a directory, or before a call
abbrev pub StopsCheckout : {W : Type 0} → WorktreeOf W → W → W → Option ObjectsById → CheckoutLookupOptions → Bool → Bool → Type 0 → Type 0 → List DelegateCall → List (List ℕ) → StackModel → StackModel → AtPathError → Type 0
StopsCheckout w w0 w1 holds way is_link protects TreeFailed StoreFailed calls names old new error =
    StopsCheckoutAtComponent w w0 w1 holds way is_link protects calls names old new error
    ⊎ (StopsCheckoutAtReading w w0 w1 holds way is_link protects TreeFailed StoreFailed calls names old new error
    ⊎ StopsCheckoutWithoutMemory w w0 w1 holds way is_link protects calls names old new error)

-- ---- what stays true of the stack

-- a directory below the root is there, a last link not followed
abbrev pub IsDirectoryBelowRoot : List ℕ → Names → List (List ℕ) → Type 0
IsDirectoryBelowRoot root t [] = Unit {0}
IsDirectoryBelowRoot root t (name ∷ names) = LeadsToDirectory t (root_joined_with_relative root (slash_joined_components (name ∷ names)))

-- and each of some
abbrev pub AreDirectoriesBelowRoot : List ℕ → Names → List (List (List ℕ)) → Type 0
AreDirectoriesBelowRoot root t [] = Unit {0}
AreDirectoriesBelowRoot root t (names ∷ directories) = IsDirectoryBelowRoot root t names × AreDirectoriesBelowRoot root t directories

-- at each of these places in the worktree the same is read in two trees
abbrev pub ReadSameAtPlaces : Names → Names → List RulesPlace → Type 0
ReadSameAtPlaces a b places = (path : List ℕ) (follow : Bool) → IsPlaceAmong places (in_tree path follow) → list_bytes_of_file_lookup path (look a path follow) ≡ list_bytes_of_file_lookup path (look b path follow)

-- and for each of some directories
abbrev pub ReadSameInDirectories : StackSetup → Names → Names → List (List (List ℕ)) → Type 0
ReadSameInDirectories made a b [] = Unit {0}
ReadSameInDirectories made a b (names ∷ directories) = ReadSameAtPlaces a b (places_of_directory made (slash_joined_components names)) × ReadSameInDirectories made a b directories

-- Where names are composed when they are made, each of these components is composed already that a directory is to be at.
abbrev pub AreNewNamesComposed : CheckoutLookupOptions → List (List ℕ) → Type 0
AreNewNamesComposed way [] = Unit {0}
AreNewNamesComposed way (name ∷ names) = (must_make_directory way (is_nil names) ≡ true → nfc_if_composing way.composes name ≡ name) × AreNewNamesComposed way names

-- no link is there
abbrev pub IsNotSymlink : Option Node → Type 0
IsNotSymlink node = (target : List ℕ) → node ≡ Some (link target) → ⊥

-- A path has no component `.` or `..`, and no link stands at it or on the way to it.
pub record IsPathWithoutLinksOrDots (t : Names) (path : List ℕ) : Type 0 where
  pub normal : list_any is_dot_or_dot_dot (components path) ≡ false
  pub no_link : (front rest : List (List ℕ)) → components path ≡ front ++ rest → IsNotSymlink (descendant_by_names front (Some (directory t)))

-- What a lookup may rely on that pushes these components: names are kept as they are, and where it is refused and removes nodes no
-- link leads to the root.
pub record MayMakeDirectories {T : Type 0} (t : Names) (way : CheckoutLookupOptions) (names : List (List ℕ)) (result : Result T AtPathError) : Type 0 where
  pub keeps : AreNewNamesComposed way names
  pub plain : OnErr result (way.unlinks ≡ true → IsPathWithoutLinksOrDots t way.root)

-- A stack is in step with a tree and a store, and the directories below the root that are pushed are there.
pub record IsInStepWithDirectoriesPresent (s : TreeAndObjects) (stack : StackModel) : Type 0 where
  pub in_step : IsInStepWithTree s stack
  pub there : AreDirectoriesBelowRoot stack.root s.tree (pushed_directories stack.at)

-- ---- a lookup

-- What a lookup of a path makes of a stack that makes the directories on its way, answered or refused, where a worktree was `w0` and is
-- `w1`, and a store of objects was `o0` and is `o1`.
pub record LooksUpMakingDirectories {W F T : Type 0} (w : WorktreeOf W) (f : FindOf F) (w0 w1 : W) (o0 o1 : F) (checkout : Checkout)
    (path : List ℕ) (kind : Option Bool) (is_link : Bool) (old new : StackModel) (result : Result T AtPathError) : Type 0 where
  -- Lists and matches stay as many as the directories that are pushed. Answered it stands at the path; refused it says nothing of a
  -- path, and what is pushed lies on the way.
  pub made : setup_of_stack new ≡ setup_of_stack old
  pub levels : HasCountsOfPushedDirectories old → HasCountsOfPushedDirectories new
  pub looked_up : OnOk result (StandsAtPath new (components path))
  pub is_dir : OnOk result (new.is_dir ≡ kind)
  pub answered : OnOk result (new.is_answered ≡ true)
  pub unanswered : OnErr result (new.is_answered ≡ false)
  pub on_way : is_relative_without_dots path ≡ true → OnErr result (IsNothingOrProperAncestor new.at (components path))
  pub normal : is_relative_without_dots path ≡ false → IsErrOf result errors.NotNormal × (new ≡ with_lookup_counted old) × (w1 ≡ w0) × (o1 ≡ o0)
  pub platforms : new.statistics.platforms ≡ one_more old.statistics.platforms
  pub stays : length (pushed_directories (directories_kept_by_lookup old.at (components path))) ≤ length (pushed_directories new.at)
  pub store_untouched : (setup_of_stack old).mappings ≡ [] → o1 ≡ o0
  -- The names that were seen stay seen, and those of the directories that it pushes come behind them, each as it is read in the tree
  -- that it was made in.
  pub sees : AppendsReadNamesAsSeen (w.told w0) (f.holds o0) (λ s. attribute_names_read_in_checkout (setup_of_stack old) (checkout_lookup_options checkout (w.precomposes w0) old.root kind) s.objects (outcome_before_checkout s.tree (mkdir_count_of_stack old)) (delegate_calls_of_lookup old.at (components path)))
      old.attributes new.attributes result
  -- What is pushed, made, read and counted, and why it is refused.
  pub tested : OnOk result (MayCheckOutComponents is_link checkout.validate.protect_windows (components_pushed_by_lookup old.at (components path)))
  pub carried : OnOk result (CarriesOutCalls None None (delegate_calls_of_lookup old.at (components path)) (with_zero_mkdir_count old) (with_zero_mkdir_count new))
  pub works : OnOk result (MakesAndReadsByCalls w w0 w1 (f.holds o0) (checkout_lookup_options checkout (w.precomposes w0) old.root kind) (delegate_calls_of_lookup old.at (components path))
      (setup_of_stack old) (mkdir_count_of_stack old) (mkdir_count_of_stack new) old.statistics new.statistics)
  pub halted : is_relative_without_dots path ≡ true
      → IfErr result (StopsCheckout w w0 w1 (f.holds o0) (checkout_lookup_options checkout (w.precomposes w0) old.root kind) is_link checkout.validate.protect_windows
      (CountIncreasedOrSaturated (w.faults w0) (w.faults w1)) (CountIncreasedOrSaturated (f.faults o0) (f.faults o1)) (delegate_calls_of_lookup old.at (components path)) (components_pushed_by_lookup old.at (components path)) old new)
  pub untold : w.told w0 ≡ None → w.told w1 ≡ None
  -- A stack that was in step with a tree and a store is in step with what the lookup left, and its directories are there.
  pub in_step : (s0 s1 : TreeAndObjects) → Tells (w.told w0) (f.holds o0) s0 → Tells (w.told w1) (f.holds o1) s1
      → MayMakeDirectories s0.tree (checkout_lookup_options checkout (w.precomposes w0) old.root kind) (components_pushed_by_lookup old.at (components path)) result
      → ReadSameInDirectories (setup_of_stack old) s0.tree s1.tree (pushed_directories new.at) → IsInStepWithDirectoriesPresent s0 old → IsInStepWithDirectoriesPresent s1 new
  pub there : (s0 s1 : TreeAndObjects) → Tells (w.told w0) (f.holds o0) s0 → Tells (w.told w1) (f.holds o1) s1
      → MayMakeDirectories s0.tree (checkout_lookup_options checkout (w.precomposes w0) old.root kind) (components_pushed_by_lookup old.at (components path)) result
      → IsInStepWithDirectoriesPresent s0 old → AreDirectoriesBelowRoot new.root s1.tree (pushed_directories new.at)
  pub last_there : (s0 s1 : TreeAndObjects) → Tells (w.told w0) (f.holds o0) s0 → Tells (w.told w1) (f.holds o1) s1
      → AreNewNamesComposed (checkout_lookup_options checkout (w.precomposes w0) old.root kind) (components_pushed_by_lookup old.at (components path))
      → is_known_directory kind ≡ true → components path ≡ [] ⊎ OnOk result (LeadsToDirectory s1.tree (root_joined_with_relative old.root (slash_joined_components (components path))))
