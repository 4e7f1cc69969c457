-- Directories that are opened, over any worktree: what is counted of them, how often the interrupt is asked, and what is read.
use Rattle.std.specs.Prelude.{◌≡◌, ◌≤◌, ◌<◌, ◌+◌, ◌-◌, ◌^◌, ◌&&◌, min, not, nat_lt, Bool, true, false, ℕ, List, length, count_by, Option, Some, None, Result, Ok, Err}
use Rattle.gitbase_core.specs.Path.{components}
use Rattle.gitbase_core.specs.declared.find.Find.{Ghosts as FindOf}
use Rattle.worktree_fs.specs.declared.interrupt.Interrupt.{Ghosts as InterruptOf}
use Rattle.worktree_fs.specs.declared.worktree.Worktree.{Ghosts as WorktreeOf}
use Rattle.worktree_fs.specs.Causes.{CountNotIncreased, saturating_sum}
use Rattle.worktree_fs.specs.Paths.{longest_common_prefix}
use Rattle.worktree_stack.specs.Reading.{TreeAndObjects}
use Rattle.worktree_stack.specs.Setup.{StackSetup}
use Rattle.worktree_stack.specs.Stacked.{StackModel}
use Rattle.dir_classify.specs.Chosen.{WalkOptions, deletion_skips_search_of_ignored_directories}
use Rattle.dir_classify.specs.Excludes.{setup_of_optional_stack, directories_pushed_in_stack, has_attributes_if_given}
use Rattle.dir_classify.specs.Layers.{WalkSetting}
use Rattle.dir_walk.specs.declared.delegate.Delegate.{Ghosts as DelegateOf}
use Rattle.dir_walk.specs.declared.handed.Stop.{Stop}
use Rattle.dir_walk.specs.declared.handed.Stop.TheVariants.{Refused, Broken}
use Rattle.dir_walk.specs.declared.outcome.Outcome.{Outcome}
use Rattle.dir_walk.specs.declared.strategy.Strategy.{Strategy}
use Rattle.dir_walk.specs.declared.strategy.Strategy.TheVariants.{Held, AtOnce}
use Rattle.dir_walk.specs.Report.{count_components}
use Rattle.dir_walk.specs.Told.{IsWalkOverSources}
use Rattle.dir_walk.specs.Unopened.{count_too_deep_in_walk}
use Rattle.dir_walk.specs.Walked.{WalkResult}

-- So many directories were opened: they were listed, or that was refused; and so many more were found too deep and were not. The
-- worktree counted each that was opened as listed and the walk as entered, and before each of both the interrupt was asked, and once
-- more where it was raised. A count stands at its type's end.
pub record CountsOpenedAndTooDeep {W I : Type 0} (w : WorktreeOf W) (i : InterruptOf I) (w0 w1 : W) (i0 i1 : I) (start stop : Outcome) (opened deep : ℕ) : Type 0 where
  pub listed : w.lists w0 < 2 ^ 64 → w.lists w1 ≡ saturating_sum (w.lists w0) opened
  pub counted : start.read_dir_calls < 2 ^ 32 → stop.read_dir_calls ≡ min (start.read_dir_calls + opened) (2 ^ 32 - 1)
  pub asked : saturating_sum (i.questions i0) (opened + deep + (i.raised i1 - i.raised i0)) ≤ i.questions i1

-- how many of the directories on the way to one, itself and the worktree root among them, hold their rules
abbrev pub count_pushed_on_way : Option (List (List ℕ)) → List (List ℕ) → ℕ
count_pushed_on_way None names = 0
count_pushed_on_way (Some pushed) names = length (longest_common_prefix pushed names) + 1

-- Files are read for their rules alone: repositories are walked into like directories, and the mode of deletion is not the one in which
-- ignored directories can hide repositories.
abbrev pub reads_files_for_rules_only : WalkOptions → Bool
reads_files_for_rules_only o = o.recurse_repositories && not (deletion_skips_search_of_ignored_directories o.for_deletion)

-- Some directories were opened, of which `Within` says how many, and `deep` more were found too deep. Reads are bounded where files are
-- read for their rules alone, and the rules are ignore rules alone; `names` lead to the directory that the step stands in, and `own` is
-- taken off the bound, 1 where the step opened that directory itself.
pub record OpensBoundedDirectories {W I : Type 0} (w : WorktreeOf W) (i : InterruptOf I) (w0 w1 : W) (i0 i1 : I) (start stop : Outcome)
    (o : WalkOptions) (old new : Option StackModel) (names : List (List ℕ)) (own spare deep : ℕ) (Within : ℕ → Type 0) : Type 0 where
  pub opened : ℕ
  -- The worktree and the walk counted so many, and the interrupt was asked at least so often, and for what was found too deep.
  pub opens : CountsOpenedAndTooDeep w i w0 w1 i0 i1 start stop opened deep
  pub within : Within opened
  -- The reads rose by at most those opened, less `own`, the directories on the way whose rules are newly held, and `spare`.
  pub reads : reads_files_for_rules_only o ≡ true → has_attributes_if_given (setup_of_optional_stack old) ≡ false
      → w.reads w1 + count_pushed_on_way (directories_pushed_in_stack old) names + own ≤ w.reads w0 + count_pushed_on_way (directories_pushed_in_stack new) names + opened + spare

-- So many directories were opened over forks of a worktree, and `deep` more were found too deep: the walk counted each that was
-- opened as entered, and before each of both the interrupt was asked, or a fork of it. A count stands at its type's end.
pub record EntersBoundedDirectoriesOverForks {I : Type 0} (i : InterruptOf I) (i0 i1 : I) (start stop : Outcome) (deep : ℕ) (Within : ℕ → Type 0) : Type 0 where
  pub opened : ℕ
  pub counted : start.read_dir_calls < 2 ^ 32 → stop.read_dir_calls ≡ min (start.read_dir_calls + opened) (2 ^ 32 - 1)
  pub asked : saturating_sum (i.questions i0) (opened + deep + (i.raised i1 - i.raised i0)) ≤ i.questions i1
  pub within : Within opened

-- The same where the worktree counted no more than `own` of them as listed, as all others were opened over forks.
pub record OpensDirectoriesMostlyOverForks {W I : Type 0} (w : WorktreeOf W) (i : InterruptOf I) (w0 w1 : W) (i0 i1 : I) (start stop : Outcome) (own deep : ℕ) (Within : ℕ → Type 0) : Type 0 where
  pub enters : EntersBoundedDirectoriesOverForks i i0 i1 start stop deep Within
  pub listed : w.lists w1 ≤ w.lists w0 + own

-- A traversal root is opened, itself over the worktree, and what lies beneath it there too or over forks.
abbrev pub OpensTraversalRoot : {W I : Type 0} → WorktreeOf W → InterruptOf I → W → W → I → I → Outcome → Outcome → Strategy → WalkOptions → Option StackModel → Option StackModel → List (List ℕ) → ℕ → ℕ → (ℕ → Type 0) → Type 0
OpensTraversalRoot w i w0 w1 i0 i1 start stop Held o old new names spare deep Within = OpensBoundedDirectories w i w0 w1 i0 i1 start stop o old new names 1 spare deep Within
OpensTraversalRoot w i w0 w1 i0 i1 start stop AtOnce o old new names spare deep Within = OpensDirectoriesMostlyOverForks w i w0 w1 i0 i1 start stop 1 deep Within

-- one where a walk was refused, none where it was done or broken off
abbrev pub count_refused_walk : {T : Type 0} → Result T Stop → ℕ
count_refused_walk (Ok done) = 0
count_refused_walk (Err (Refused error)) = 1
count_refused_walk (Err Broken) = 0

-- How often a worktree counts as listed where so many directories were opened: each time where they were listed over it, and at
-- most once where only the traversal root was.
abbrev pub CountsListingsByStrategy : Strategy → ℕ → ℕ → ℕ → Type 0
CountsListingsByStrategy Held before now opened = before < 2 ^ 64 → now ≡ saturating_sum before opened
CountsListingsByStrategy AtOnce before now opened = now ≤ before + 1

-- What a walk opens from a traversal root on, in the same words. Where files are read for their rules alone, and
-- the rules are ignore rules alone, the worktree was read at most once for each directory opened and once for each
-- component of the traversal root; a refusal may come with one more. Where subtrees are walked over forks nothing is said of
-- what is read.
pub record OpensFromTraversalRoot {W I T : Type 0} (w : WorktreeOf W) (i : InterruptOf I) (w0 w1 : W) (i0 i1 : I) (start stop : Outcome) (strategy : Strategy) (o : WalkOptions) (made : Option StackSetup) (root : List ℕ)
    (result : Result T Stop) (Within : ℕ → Type 0) : Type 0 where
  pub opened : ℕ
  pub listed : CountsListingsByStrategy strategy (w.lists w0) (w.lists w1) opened
  pub counted : start.read_dir_calls < 2 ^ 32 → stop.read_dir_calls ≡ min (start.read_dir_calls + opened) (2 ^ 32 - 1)
  pub asked : saturating_sum (i.questions i0) (opened + count_too_deep_in_walk result + (i.raised i1 - i.raised i0)) ≤ i.questions i1
  pub within : Within opened
  pub reads : strategy ≡ Held → reads_files_for_rules_only o ≡ true → has_attributes_if_given made ≡ false
      → w.reads w1 ≤ w.reads w0 + opened + length (components root) + count_refused_walk result

-- ---- over what is told

-- how many of some paths have no more components than the limit
abbrev pub count_paths_within_depth : ℕ → List (List ℕ) → ℕ
count_paths_within_depth limit paths = count_by (λ path. not (nat_lt limit (count_components path))) paths

-- Where what is walked is told and the worktree did not fail, and a delegate recurses by default, no more directories are opened than
-- are entered in what is walked and lie within the limit; `spare` more may be, where a listing is refused.
abbrev pub OpensAtMostWalkedEntered : {W F D : Type 0} → WorktreeOf W → FindOf F → DelegateOf D → W → W → F → Option StackModel → D → WalkSetting → Option (List ℕ) → ℕ → (Option StackSetup → TreeAndObjects → WalkResult) → ℕ → ℕ → Type 0
OpensAtMostWalkedEntered w f d w0 w1 o0 rules d0 given blocked limit walked spare opened =
    (made : Option StackSetup) (s : TreeAndObjects) → IsWalkOverSources given (w.told w0) (f.holds o0) rules blocked made s → CountNotIncreased (w.faults w0) (w.faults w1) → d.is_default d0 ≡ true
    → opened ≤ count_paths_within_depth limit (walked made s).entered + spare
