-- What a checkout makes on its way to a path.
--
-- Each component that is pushed is tested, and then a directory is to be at its path, unless it is the last one of a path that is
-- no directory. The calls of a lookup say which components these are, one after the other.
use Rattle.std.specs.Prelude.{◌≡◌, ◌≤◌, ℕ, ◌+◌, ◌*◌, Bool, false, not, ◌||◌, ◌==◌, List, [], ◌∷◌, Option, Some, None, if◌then◌else◌}
use Rattle.gitbase_core.specs.declared.entry.Mode.{Mode}
use Rattle.gitbase_core.specs.Entry.{mode_bits, symlink_mode}
use Rattle.gitbase_core.specs.Objects.{ObjectsById}
use Rattle.worktree_fs.specs.Paths.{root_joined_with_relative}
use Rattle.worktree_fs.specs.PathStack.{DelegateCall, push_directory, push, pop_directory}
use Rattle.worktree_fs.specs.Tree.{Names}
use Rattle.worktree_fs.specs.declared.answers.MakeAnswer.{MakeAnswer}
use Rattle.worktree_fs.specs.declared.answers.MakeAnswer.TheVariants as makes
use Rattle.worktree_fs.specs.declared.worktree.Worktree.{Ghosts as WorktreeOf}
use Rattle.worktree_stack.specs.declared.state.Checkout.{Checkout}
use Rattle.worktree_stack.specs.declared.statistics.RulesStatistics.{RulesStatistics}
use Rattle.worktree_stack.specs.declared.statistics.Statistics.{Statistics}
use Rattle.worktree_stack.specs.Checkout.{DirectoryOutcome, EqualsDirectoryOutcome, outcome_of_ensuring_directory}
use Rattle.worktree_stack.specs.Counted.{rules_counts_after_readings, rules_counts_of_kind}
use Rattle.worktree_stack.specs.Reading.{TreeAndObjects, Tells, RulesKind, readings_of_directory}
use Rattle.worktree_stack.specs.Setup.{StackSetup}
use Rattle.worktree_stack.specs.Stacked.{StackModel}

-- whether a link is to be made at a path, by its mode
abbrev pub is_symlink_by_mode : Option Mode → Bool
is_symlink_by_mode None = false
is_symlink_by_mode (Some mode) = mode_bits mode == symlink_mode

-- whether a path is known to be a directory
abbrev pub is_known_directory : Option Bool → Bool
is_known_directory None = false
is_known_directory (Some is_dir) = is_dir

-- How a checkout goes to a path: whether what is in the way is removed, whether names are composed when they are made, the worktree
-- root, and whether the path itself is to be a directory.
pub record CheckoutLookupOptions : Type 0 where
  pub unlinks : Bool
  pub composes : Bool
  pub root : List ℕ
  pub makes_last : Bool

-- the way of a stack that was made so, to a path that is a directory, is none, or of which that is not known
abbrev pub checkout_lookup_options : Checkout → Bool → List ℕ → Option Bool → CheckoutLookupOptions
checkout_lookup_options checkout composes root kind = record { unlinks = checkout.unlink_on_collision; composes = composes; root = root; makes_last = is_known_directory kind }

-- whether a directory is to be at a component, which is the last one or is not
abbrev pub must_make_directory : CheckoutLookupOptions → Bool → Bool
must_make_directory way is_last = not is_last || way.makes_last

-- the tree and the count from which a checkout begins
abbrev pub outcome_before_checkout : Names → ℕ → DirectoryOutcome
outcome_before_checkout t calls = record { answer = makes.Made; tree = t; calls = calls }

-- what comes of a component that is pushed
abbrev pub outcome_of_pushed_component : CheckoutLookupOptions → DirectoryOutcome → List ℕ → Bool → DirectoryOutcome
outcome_of_pushed_component way p path is_last = if must_make_directory way is_last then outcome_of_ensuring_directory way.unlinks way.composes p.tree (root_joined_with_relative way.root path) p.calls else p

-- where a directory was made the rest follows
abbrev pub next_outcome_if_made : DirectoryOutcome → DirectoryOutcome → MakeAnswer → DirectoryOutcome
next_outcome_if_made here next makes.Made = next
next_outcome_if_made here next makes.Exists = here
next_outcome_if_made here next makes.NoParent = here

-- what comes of the components that some calls push, one after the other
abbrev pub outcome_of_checkout_calls : CheckoutLookupOptions → DirectoryOutcome → List DelegateCall → DirectoryOutcome
outcome_of_checkout_calls way p [] = p
outcome_of_checkout_calls way p (push path is_last ∷ calls) =
    let here : DirectoryOutcome = outcome_of_pushed_component way p path is_last in next_outcome_if_made here (outcome_of_checkout_calls way here calls) here.answer
outcome_of_checkout_calls way p (push_directory path ∷ calls) = outcome_of_checkout_calls way p calls
outcome_of_checkout_calls way p (pop_directory ∷ calls) = outcome_of_checkout_calls way p calls

-- what is counted of the readings of one kind on the way: each directory is read in the tree that it was made in
abbrev pub rules_counts_after_checkout_calls : RulesKind → StackSetup → CheckoutLookupOptions → ObjectsById → DirectoryOutcome → RulesStatistics → List DelegateCall → RulesStatistics
rules_counts_after_checkout_calls kind made way objects p s [] = s
rules_counts_after_checkout_calls kind made way objects p s (push path is_last ∷ calls) = rules_counts_after_checkout_calls kind made way objects (outcome_of_pushed_component way p path is_last) s calls
rules_counts_after_checkout_calls kind made way objects p s (push_directory path ∷ calls) =
    rules_counts_after_checkout_calls kind made way objects p (rules_counts_after_readings kind (record { tree = p.tree; objects = objects }) s (readings_of_directory made path)) calls
rules_counts_after_checkout_calls kind made way objects p s (pop_directory ∷ calls) = rules_counts_after_checkout_calls kind made way objects p s calls

-- how many directories are to be there
abbrev pub number_of_directories_to_make : CheckoutLookupOptions → List DelegateCall → ℕ
number_of_directories_to_make way [] = 0
number_of_directories_to_make way (push path is_last ∷ calls) = (if must_make_directory way is_last then 1 else 0) + number_of_directories_to_make way calls
number_of_directories_to_make way (push_directory path ∷ calls) = number_of_directories_to_make way calls
number_of_directories_to_make way (pop_directory ∷ calls) = number_of_directories_to_make way calls

-- a stack with no directory counted that was asked to be made
abbrev pub with_zero_mkdir_count : StackModel → StackModel
with_zero_mkdir_count s = record s { statistics = record s.statistics { delegate = record s.statistics.delegate { num_mkdir_calls = 0 } } }

-- how often a directory was asked to be made
abbrev pub mkdir_count_of_stack : StackModel → ℕ
mkdir_count_of_stack s = s.statistics.delegate.num_mkdir_calls

-- What was made and read on a way whose calls were carried out, where a worktree was `w0` and is `w1`, and a stack was `old` and is
-- `new`. Over a told tree the tree, the count of directories and what was read are those of the definition.
pub record MakesAndReadsByCalls {W : Type 0} (w : WorktreeOf W) (w0 w1 : W) (holds : Option ObjectsById) (way : CheckoutLookupOptions) (calls : List DelegateCall) (made : StackSetup) (mkdirs0 mkdirs1 : ℕ) (old new : Statistics) : Type 0 where
  pub tree : (t : Names) → w.told w0 ≡ Some t → EqualsDirectoryOutcome (outcome_of_checkout_calls way (outcome_before_checkout t mkdirs0) calls) (w.told w1) mkdirs1 makes.Made
  pub read : (s : TreeAndObjects) → Tells (w.told w0) holds s → (kind : RulesKind) → rules_counts_of_kind kind new ≡ rules_counts_after_checkout_calls kind made way s.objects (outcome_before_checkout s.tree mkdirs0) (rules_counts_of_kind kind old) calls
  pub least : mkdirs0 ≤ mkdirs1
  pub most : mkdirs1 ≤ mkdirs0 + 2 * number_of_directories_to_make way calls
