-- What a checkout makes of a tree where a directory is to be: the nodes in its way, and how often a directory is asked to be made.
use Rattle.std.specs.Prelude.{◌≡◌, ◌⊎◌, ◌≤◌, ℕ, ◌+◌, Bool, true, false, Option, Some, None, List, [], Result, IfOk, IfErr, OnOk, OnErr, IsErrOf, if◌then◌else◌}
use Rattle.gitbase_core.specs.Causes.{saturating_increment as one_more}
use Rattle.worktree_fs.specs.Causes.{CountIncreasedOrSaturated}
use Rattle.worktree_fs.specs.declared.answers.ReadError.{ReadError}
use Rattle.worktree_fs.specs.declared.answers.ReadError.TheVariants as read_errors
use Rattle.worktree_fs.specs.declared.worktree.Worktree.{Ghosts as WorktreeOf}
use Rattle.worktree_stack.specs.declared.error.AtPathError.{AtPathError}
use Rattle.worktree_stack.specs.declared.error.AtPathError.TheVariants as errors
use Rattle.worktree_stack.specs.declared.error.DirectoryWhy.TheVariants as whys
use Rattle.worktree_fs.specs.Answers.{kind_of_lookup}
use Rattle.worktree_fs.specs.MadeAndRemoved.{DirectoryMadeAtPath, NodeRemovedAtPath}
use Rattle.worktree_fs.specs.Changes.{answer_to_make_dir, entries_after_make_dir, entries_after_remove_node, reversed_names_last_one_composed}
use Rattle.worktree_fs.specs.Tree.{Names, resolution_of_path, look, reached, missing, directory}
use Rattle.worktree_fs.specs.declared.answers.MakeAnswer.{MakeAnswer}
use Rattle.worktree_fs.specs.declared.answers.MakeAnswer.TheVariants as makes
use Rattle.worktree_fs.specs.declared.answers.NodeKind.{NodeKind}
use Rattle.worktree_fs.specs.declared.answers.NodeKind.TheVariants as kinds

-- What came of a directory that is to be at a path: it is there (`Made`), something else is (`Exists`), or there is no directory for
-- it to be in (`NoParent`); the tree then, and what was counted of the calls that make directories.
pub record DirectoryOutcome : Type 0 where
  pub answer : MakeAnswer
  pub tree : Names
  pub calls : ℕ

-- it is made, if it can be
abbrev pub outcome_of_make_dir : Bool → Names → List ℕ → ℕ → DirectoryOutcome
outcome_of_make_dir composes t path calls = record { answer = answer_to_make_dir composes t (resolution_of_path t path false); tree = entries_after_make_dir composes t (resolution_of_path t path false); calls = one_more calls }

-- what is in the way is removed, where that is asked for
abbrev pub outcome_of_unlink_then_make : Bool → Bool → Names → List ℕ → ℕ → DirectoryOutcome
outcome_of_unlink_then_make unlinks composes t path calls =
    if unlinks then outcome_of_make_dir composes (entries_after_remove_node t (resolution_of_path t path false)) path calls
    else record { answer = makes.Exists; tree = t; calls = calls }

-- something is there: a directory stays, what is gone since is no obstacle
abbrev pub outcome_by_existing_kind : Bool → Bool → Names → List ℕ → ℕ → Option NodeKind → DirectoryOutcome
outcome_by_existing_kind unlinks composes t path calls (Some kinds.Directory) = record { answer = makes.Made; tree = t; calls = calls }
outcome_by_existing_kind unlinks composes t path calls (Some kinds.File) = outcome_of_unlink_then_make unlinks composes t path calls
outcome_by_existing_kind unlinks composes t path calls (Some kinds.Symlink) = outcome_of_unlink_then_make unlinks composes t path calls
outcome_by_existing_kind unlinks composes t path calls (Some kinds.Untrackable) = outcome_of_unlink_then_make unlinks composes t path calls
outcome_by_existing_kind unlinks composes t path calls None = outcome_of_make_dir composes t path calls

-- where something was there its kind decides
abbrev pub outcome_by_make_answer : Bool → Bool → Names → List ℕ → DirectoryOutcome → MakeAnswer → DirectoryOutcome
outcome_by_make_answer unlinks composes t path made makes.Made = made
outcome_by_make_answer unlinks composes t path made makes.NoParent = made
outcome_by_make_answer unlinks composes t path made makes.Exists = outcome_by_existing_kind unlinks composes t path made.calls (kind_of_lookup (look t path false))

-- what comes of a directory that is to be at a path
abbrev pub outcome_of_ensuring_directory : Bool → Bool → Names → List ℕ → ℕ → DirectoryOutcome
outcome_of_ensuring_directory unlinks composes t path calls = let made = outcome_of_make_dir composes t path calls in outcome_by_make_answer unlinks composes t path made made.answer

-- what was told and counted is this outcome
pub record EqualsDirectoryOutcome (outcome : DirectoryOutcome) (told : Option Names) (calls : ℕ) (answer : MakeAnswer) : Type 0 where
  pub answer_is : answer ≡ outcome.answer
  pub tree_is : told ≡ Some outcome.tree
  pub calls_are : calls ≡ outcome.calls

-- A tree in which a failure or want of memory left a path: as it was, or, where that is asked for, without what was in the way. That is
-- gone only where a directory was asked to be made once more behind it, so that as many are counted as `again`.
abbrev pub IsUnchangedOrUnlinked : Bool → Names → List ℕ → ℕ → ℕ → Option Names → Type 0
IsUnchangedOrUnlinked unlinks t path calls again told = (told ≡ Some t) ⊎ ((unlinks ≡ true) × (calls ≡ again) × (told ≡ Some (entries_after_remove_node t (resolution_of_path t path false))))

-- What stays of a worktree in which directories are made and nodes removed, and what does not fall.
pub record KeepsListingsAndReads {W : Type 0} (w : WorktreeOf W) (before now : W) : Type 0 where
  pub untold : w.told before ≡ None → w.told now ≡ None
  pub faults : w.faults before ≤ w.faults now
  pub list_faults : w.list_faults now ≡ w.list_faults before
  pub reads : w.reads now ≡ w.reads before
  pub lists : w.lists now ≡ w.lists before
  pub precomposes : w.precomposes now ≡ w.precomposes before

-- a path leads to a directory, a last link not followed
abbrev pub LeadsToDirectory : Names → List ℕ → Type 0
LeadsToDirectory t path = (names : List (List ℕ)) × (inner : Names) × (resolution_of_path t path false ≡ reached names (directory inner))

-- Where names are composed when they are made, the last name of a path is composed already.
abbrev pub IsLastNameComposed : Bool → List ℕ → Type 0
IsLastNameComposed composes path = (t : Names) (names : List (List ℕ)) → resolution_of_path t path false ≡ missing names [] → reversed_names_last_one_composed composes names ≡ names

-- What a tree became in which a directory is to be at a path: it stayed; a directory was made there; or, where that is asked for, what
-- was in the way was removed, and a directory was made there or was not.
abbrev pub IsTreeAfterEnsuringDirectory : Bool → List ℕ → Names → Names → Type 0
IsTreeAfterEnsuringDirectory unlinks path t now = (now ≡ t) ⊎ (DirectoryMadeAtPath path t now ⊎ ((unlinks ≡ true) × (middle : Names) × NodeRemovedAtPath path t middle × ((now ≡ middle) ⊎ DirectoryMadeAtPath path middle now)))

-- a directory was asked to be made once, which is counted, or not
abbrev pub CountsAtMostOneMkdir : ℕ → ℕ → Type 0
CountsAtMostOneMkdir calls0 calls1 = (calls1 ≡ calls0) ⊎ (calls1 ≡ one_more calls0)

-- it was asked to be made once or twice
abbrev pub CountsOneOrTwoMkdirs : ℕ → ℕ → Type 0
CountsOneOrTwoMkdirs calls0 calls1 = (calls1 ≡ one_more calls0) ⊎ (calls1 ≡ one_more (one_more calls0))

-- What is made of a worktree that was `w0` and is `w1`, and of a count, where a directory is to be at a path. Over a told tree it is
-- the outcome that the tree gives, unless there was a failure, which comes only where it was counted, or no memory. An answer hides no
-- failure.
pub record EnsuresDirectory {W : Type 0} (w : WorktreeOf W) (w0 w1 : W) (unlinks : Bool) (path : List ℕ) (outcome : Names → DirectoryOutcome)
    (calls0 calls1 most again : ℕ) (Asked : ℕ → Type 0) (result : Result MakeAnswer ReadError) : Type 0 where
  pub done : (t : Names) → w.told w0 ≡ Some t → IfOk result (EqualsDirectoryOutcome (outcome t) (w.told w1) calls1)
  pub there : (t : Names) → w.told w0 ≡ Some t → IsLastNameComposed (w.precomposes w0) path → IfOk result (λ answer. answer ≡ makes.Made → LeadsToDirectory (outcome t).tree path)
  pub partly : (t : Names) → w.told w0 ≡ Some t → OnErr result (IsUnchangedOrUnlinked unlinks t path calls1 again (w.told w1))
  pub cause : IsErrOf result read_errors.Fault → CountIncreasedOrSaturated (w.faults w0) (w.faults w1)
  pub unfaulted : OnOk result (w.faults w1 ≡ w.faults w0)
  pub calls : calls0 ≤ calls1
  pub most_calls : calls1 ≤ most
  pub asked : Asked calls1
  pub changes : KeepsListingsAndReads w w0 w1
  pub changed : (t now : Names) → w.told w0 ≡ Some t → w.told w1 ≡ Some now → IsLastNameComposed (w.precomposes w0) path → IsTreeAfterEnsuringDirectory unlinks path t now

-- What holds of a refusal, by what it is for: a node in the way, no directory above, a failure, or want of memory. Nothing else is
-- refused where a directory is to be.
abbrev pub HoldsByDirectoryError : (List ℕ → Type 0) → (List ℕ → Type 0) → (List ℕ → Type 0) → Type 0 → AtPathError → Type 0
HoldsByDirectoryError Collision NoParent Fault Memory errors.NotNormal = ⊥
HoldsByDirectoryError Collision NoParent Fault Memory (errors.Component why) = ⊥
HoldsByDirectoryError Collision NoParent Fault Memory (errors.Collision path) = Collision path
HoldsByDirectoryError Collision NoParent Fault Memory (errors.Directory path whys.NoParent) = NoParent path
HoldsByDirectoryError Collision NoParent Fault Memory (errors.Directory path whys.Fault) = Fault path
HoldsByDirectoryError Collision NoParent Fault Memory (errors.RulesFile path why) = ⊥
HoldsByDirectoryError Collision NoParent Fault Memory (errors.Blob id why) = ⊥
HoldsByDirectoryError Collision NoParent Fault Memory errors.OutOfMemory = Memory

-- Why a directory that is to be at a path is not there, where a worktree was `w0` and is `w1`: over a told tree that is what the tree
-- gives, which hides no failure; and after a failure, which was counted, or for want of memory what was in the way may be gone, if it was asked to be made
-- twice. It was asked to be made.
abbrev pub ExplainsMissingDirectory : {W : Type 0} → WorktreeOf W → W → W → Bool → List ℕ → ℕ → ℕ → AtPathError → Type 0
ExplainsMissingDirectory w w0 w1 unlinks path calls0 calls1 error =
    CountsOneOrTwoMkdirs calls0 calls1
    × HoldsByDirectoryError
    (λ at. (at ≡ path) × (w.faults w1 ≡ w.faults w0) × ((t : Names) → w.told w0 ≡ Some t → EqualsDirectoryOutcome (outcome_of_ensuring_directory unlinks (w.precomposes w0) t path calls0) (w.told w1) calls1 makes.Exists))
    (λ at. (at ≡ path) × (w.faults w1 ≡ w.faults w0) × ((t : Names) → w.told w0 ≡ Some t → EqualsDirectoryOutcome (outcome_of_ensuring_directory unlinks (w.precomposes w0) t path calls0) (w.told w1) calls1 makes.NoParent))
    (λ at. (at ≡ path) × CountIncreasedOrSaturated (w.faults w0) (w.faults w1) × ((t : Names) → w.told w0 ≡ Some t → IsUnchangedOrUnlinked unlinks t path calls1 (one_more (one_more calls0)) (w.told w1)))
    ((t : Names) → w.told w0 ≡ Some t → IsUnchangedOrUnlinked unlinks t path calls1 (one_more (one_more calls0)) (w.told w1) ⊎ (w.told w1 ≡ Some (outcome_of_ensuring_directory unlinks (w.precomposes w0) t path calls0).tree))
    error

-- What comes of a directory that is to be at a path in a checkout: it is there, and no call failed on the way, or it is refused.
pub record CreatesLeadingDirectory {W : Type 0} (w : WorktreeOf W) (w0 w1 : W) (unlinks : Bool) (path : List ℕ) (calls0 calls1 : ℕ) (result : Result (Unit {0}) AtPathError) : Type 0 where
  pub made : (t : Names) → w.told w0 ≡ Some t → OnOk result (EqualsDirectoryOutcome (outcome_of_ensuring_directory unlinks (w.precomposes w0) t path calls0) (w.told w1) calls1 makes.Made)
  pub there : (t : Names) → w.told w0 ≡ Some t → IsLastNameComposed (w.precomposes w0) path → OnOk result (LeadsToDirectory (outcome_of_ensuring_directory unlinks (w.precomposes w0) t path calls0).tree path)
  pub refused : IfErr result (ExplainsMissingDirectory w w0 w1 unlinks path calls0 calls1)
  pub unfaulted : OnOk result (w.faults w1 ≡ w.faults w0)
  pub asked : CountsOneOrTwoMkdirs calls0 calls1
  pub calls : calls0 ≤ calls1
  pub most_calls : calls1 ≤ calls0 + 2
  pub changes : KeepsListingsAndReads w w0 w1
  pub changed : (t now : Names) → w.told w0 ≡ Some t → w.told w1 ≡ Some now → IsLastNameComposed (w.precomposes w0) path → IsTreeAfterEnsuringDirectory unlinks path t now
