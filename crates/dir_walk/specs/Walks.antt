-- What every walk of a worktree says, and what it gives to a delegate.
use Rattle.std.specs.Prelude.{◌≡◌, ◌⊎◌, ◌≤◌, ◌+◌, ◌-◌, ◌^◌, min, ℕ, true, false, List, [], ◌++◌, length, Option, Some, None, Result, IfOk, IfErr, OnOk, IsPermutation, IsSomeAnd, is_some}
use Rattle.gitbase_core.specs.Path.{components}
use Rattle.gitbase_core.specs.declared.find.Find.{Ghosts as FindOf}
use Rattle.worktree_fs.specs.declared.interrupt.Interrupt.{Ghosts as InterruptOf}
use Rattle.worktree_fs.specs.declared.worktree.Worktree.{Ghosts as WorktreeOf}
use Rattle.worktree_fs.specs.Causes.{CountNotIncreased, CountIncreasedOrSaturated, CountIncrementedOrSaturated, saturating_sum}
use Rattle.worktree_fs.specs.Kept.{KeepsStoredObjects}
use Rattle.worktree_fs.specs.Paths.{root_joined_with_relative}
use Rattle.worktree_fs.specs.Tree.{Names}
use Rattle.worktree_stack.specs.Lookups.{one_if_refused}
use Rattle.worktree_stack.specs.Reading.{TreeAndObjects}
use Rattle.worktree_stack.specs.Setup.{StackSetup}
use Rattle.worktree_stack.specs.Stacked.{StackModel}
use Rattle.dir_classify.specs.declared.error.Error.{Error}
use Rattle.dir_classify.specs.declared.error.Error.TheVariants.{OutOfMemory}
use Rattle.dir_classify.specs.Excludes.{setup_of_optional_stack, maps_rules_files_to_blobs, has_attributes_if_given, TellsTreeAndObjects, IsStackInStepIfGiven}
use Rattle.dir_classify.specs.Kept.{KeepsRulesInStep}
use Rattle.dir_classify.specs.Layers.{WalkSetting, evidence_from_setting_and_sources}
use Rattle.dir_classify.specs.Refused.{HoldsIfFaultError}
use Rattle.dir_classify.specs.Rooted.{IsPathOnWayToRoot}
use Rattle.dir_walk.specs.declared.collect.Collect.{Collect}
use Rattle.dir_walk.specs.declared.delegate.Delegate.{Ghosts as DelegateOf}
use Rattle.dir_walk.specs.declared.handed.Stop.{Stop}
use Rattle.dir_walk.specs.declared.outcome.Outcome.{Outcome}
use Rattle.dir_walk.specs.declared.strategy.Strategy.{Strategy}
use Rattle.dir_walk.specs.declared.strategy.Strategy.TheVariants.{Held}
use Rattle.dir_walk.specs.Covered.{CoversUnfoldedReport, options_without_folding, setting_without_folding}
use Rattle.dir_walk.specs.Emissions.{Emission}
use Rattle.dir_walk.specs.Emits.{AddsAmongShownEmissions}
use Rattle.dir_walk.specs.Given.{emissions_or_empty}
use Rattle.dir_walk.specs.Kept.{AsksInterruptPerRaise, CountsCausesOfRefusals, HeedsDelegateBreak, KeepsDelegateRunning, KeepsWorktree, HoldsIfInterrupted, HoldsIfListingFault}
use Rattle.dir_walk.specs.Opens.{count_paths_within_depth, CountsListingsByStrategy, reads_files_for_rules_only}
use Rattle.dir_walk.specs.Puts.{AddsAtMostPerPath, AddsNoHiddenEmission, count_hidden_emissions, one_at_path, one_at_or_beneath_path}
use Rattle.dir_walk.specs.Report.{counts, is_whole_walk_refused, emissions_with_handed_up, emissions_shown_by_options}
use Rattle.dir_walk.specs.Rooting.{IsNormalizedRoot}
use Rattle.dir_walk.specs.Root.{Walk, rooted, find_traversal_root, walk_over_sources, walk_result_from_traversal_root}
use Rattle.dir_walk.specs.Safe.{IsSafeToReport}
use Rattle.dir_walk.specs.WalkRefused.{IsUnenteredNonDirectoryRoot, HoldsIfRootIsFileError, HoldsIfNothingStarted, DelegateDefaultAndRefusalCounts, IsWholeWalkErrorByInput, IsWholeWalkErrorByTree, IsWholeWalkErrorBySources, default_and_refusal_counts_of_delegate}
use Rattle.dir_walk.specs.Unopened.{count_too_deep_in_answer, count_unlisted_in_answer}
use Rattle.dir_walk.specs.Walkable.{HasReportOrIsWalkable}
use Rattle.dir_walk.specs.Walked.{WalkResult}

-- A worktree tells a tree and a store, where there are rules, objects, and the rules are in step with them.
pub record Tells {W F : Type 0} (w : WorktreeOf W) (f : FindOf F) (w0 : W) (o0 : F) (old : Option StackModel) (s : TreeAndObjects) : Type 0 where
  pub tells : TellsTreeAndObjects (w.told w0) (f.holds o0) (setup_of_optional_stack old) s
  pub in_step : IsStackInStepIfGiven s old

-- A traversal root that was asked for, and that the answer names, if there is one; `path_of` is the whole path that an
-- answer names.
pub record IsNormalizedRootNamedByAnswer {T : Type 0} (given : WalkSetting) (explicit : Option (List ℕ)) (path_of : T → List ℕ) (result : Result T Error) (root : List ℕ) : Type 0 where
  pub normalized : IsNormalizedRoot given explicit root
  pub named : IfOk result (λ r. path_of r ≡ root_joined_with_relative given.root root)

-- The worktree is not read, or at most once for each directory that was opened and each component of its traversal root; a
-- refusal spares one.
abbrev pub ReadsAtMostPerDirectory : {T : Type 0} → WalkSetting → Option (List ℕ) → (T → List ℕ) → Result T Error → ℕ → ℕ → ℕ → Type 0
ReadsAtMostPerDirectory given explicit path_of result before now opened =
    (now ≡ before) ⊎ ((root : List ℕ) × IsNormalizedRootNamedByAnswer given explicit path_of result root × (now ≤ before + opened + length (components root) + one_if_refused result))

-- how many directories a walk enters that lie within the limit, if there is a walk; `spare` more may be opened
abbrev pub most_opened_in_walk : ℕ → Option Walk → ℕ → ℕ
most_opened_in_walk limit None spare = 0
most_opened_in_walk limit (Some walk) spare = count_paths_within_depth limit walk.gives.entered + spare

-- and of what is walked from a traversal root on
abbrev pub most_opened_in_walk_result : ℕ → Option WalkResult → ℕ → ℕ
most_opened_in_walk_result limit None spare = 0
most_opened_in_walk_result limit (Some w) spare = count_paths_within_depth limit w.entered + spare

-- Over what is told, without a fault of the worktree and where recursion is by default, no more directories are opened than the walk
-- enters within the limit, none where there is no walk. A refused listing and want of memory may come with one more; what lies too
-- deep, and the interrupt, may not.
abbrev pub OpensAtMostEnteredInWalk : {W F T : Type 0} → WorktreeOf W → FindOf F → W → W → F → Option StackModel → DelegateDefaultAndRefusalCounts → WalkSetting → Option (List ℕ) → ℕ → Result T Error → ℕ → Type 0
OpensAtMostEnteredInWalk w f w0 w1 o0 old recursion given explicit limit result opened =
    (s : TreeAndObjects) → Tells w f w0 o0 old s → recursion.is_default ≡ true → CountNotIncreased (w.faults w0) (w.faults w1)
    → opened ≤ most_opened_in_walk limit (walk_over_sources given (setup_of_optional_stack old) s explicit) (count_unlisted_in_answer result)

-- the same of what is walked
abbrev pub OpensAtMostEnteredInWalkResult : {W F D : Type 0} → WorktreeOf W → FindOf F → DelegateOf D → W → W → F → Option StackModel → D → ℕ → (TreeAndObjects → WalkResult) → ℕ → ℕ → Type 0
OpensAtMostEnteredInWalkResult w f d w0 w1 o0 old d0 limit walked spare opened =
    (s : TreeAndObjects) → Tells w f w0 o0 old s → d.is_default d0 ≡ true → CountNotIncreased (w.faults w0) (w.faults w1) → opened ≤ count_paths_within_depth limit (walked s).entered + spare

-- and from a traversal root on
abbrev pub OpensAtMostWalkedFromRoot : {W F D : Type 0} → WorktreeOf W → FindOf F → DelegateOf D → W → W → F → Option StackModel → D → WalkSetting → List ℕ → ℕ → ℕ → ℕ → Type 0
OpensAtMostWalkedFromRoot w f d w0 w1 o0 old d0 given root limit spare opened =
    (s : TreeAndObjects) → Tells w f w0 o0 old s → d.is_default d0 ≡ true → CountNotIncreased (w.faults w0) (w.faults w1) → opened ≤ most_opened_in_walk_result limit (walk_result_from_traversal_root given (setup_of_optional_stack old) s root) spare

-- So many directories were opened, of which `Within` says how many: they were listed, or that was refused. The walk counted each as
-- entered, and before each of them, and before one was found too deep, the interrupt was asked, and once more where it was raised. The
-- worktree counted each as listed, or where subtrees are walked at once, over forks, at most one. Where files are read for their
-- rules alone, the rules are ignore rules alone, and all is read over this worktree, it was read at most once for each and once for each component of the traversal root; a refusal may come with one more.
pub record CountsOpenedInWholeWalk {W I T : Type 0} (w : WorktreeOf W) (i : InterruptOf I) (w0 w1 : W) (i0 i1 : I) (strategy : Strategy) (given : WalkSetting) (made : Option StackSetup) (explicit : Option (List ℕ))
    (outcome_of : T → Outcome) (path_of : T → List ℕ) (result : Result T Error) (Within : ℕ → Type 0) : Type 0 where
  pub opened : ℕ
  pub within : Within opened
  pub listed : CountsListingsByStrategy strategy (w.lists w0) (w.lists w1) opened
  pub asked : saturating_sum (i.questions i0) (opened + count_too_deep_in_answer result + (i.raised i1 - i.raised i0)) ≤ i.questions i1
  pub counted : IfOk result (λ r. (outcome_of r).read_dir_calls ≡ min opened (2 ^ 32 - 1))
  pub reads : strategy ≡ Held → reads_files_for_rules_only given.options ≡ true → has_attributes_if_given made ≡ false → ReadsAtMostPerDirectory given explicit path_of result (w.reads w0) (w.reads w1) opened

-- Why a walk is refused, and what it leaves, where a worktree was `w0` and is `w1`, a store was `o0` and is `o1`, an
-- interrupt was `i0` and is `i1`, and the rules were `old` and are `new`. `recursion` is that of the delegate; an answer has
-- a count and a whole path of its traversal root.
pub record WalksWorktreeWithCauses {W F I T : Type 0} (w : WorktreeOf W) (f : FindOf F) (i : InterruptOf I) (w0 w1 : W) (o0 o1 : F) (i0 i1 : I) (old new : Option StackModel)
    (strategy : Strategy) (given : WalkSetting) (explicit : Option (List ℕ)) (limit : ℕ) (recursion : DelegateDefaultAndRefusalCounts) (outcome_of : T → Outcome) (path_of : T → List ℕ) (result : Result T Error) : Type 0 where
  -- Each refusal has its cause.
  pub about : IfErr result (IsWholeWalkErrorByInput given (setup_of_optional_stack old) explicit limit)
  pub cause : IfErr result (HoldsIfFaultError (CountIncreasedOrSaturated (w.faults w0) (w.faults w1)) (CountIncreasedOrSaturated (f.faults o0) (f.faults o1)))
  pub interrupted : IfErr result (HoldsIfInterrupted (CountIncreasedOrSaturated (i.raised i0) (i.raised i1)))
  pub listing : IfErr result (HoldsIfListingFault (CountIncreasedOrSaturated (w.list_faults w0) (w.list_faults w1)))
  pub found : (s : TreeAndObjects) → w.told w0 ≡ Some s.tree → IfErr result (IsWholeWalkErrorByTree given (setup_of_optional_stack old) explicit (f.holds o0) s)
  pub refused : (s : TreeAndObjects) → Tells w f w0 o0 old s → recursion.is_default ≡ true → CountNotIncreased (w.faults w0) (w.faults w1)
      → IfErr result (IsWholeWalkErrorBySources given (setup_of_optional_stack old) s explicit limit (CountIncreasedOrSaturated (f.faults o0) (f.faults o1)))
  pub no_root : (s : TreeAndObjects) → w.told w0 ≡ Some s.tree → CountNotIncreased (w.faults w0) (w.faults w1)
      → IfErr result (HoldsIfRootIsFileError ((find_traversal_root given s.tree explicit ≡ rooted []) × IsUnenteredNonDirectoryRoot given (setup_of_optional_stack old) s recursion))
  -- Where there is nothing to start from, nothing was listed before and the interrupt is as it was.
  pub unstarted : IfErr result (HoldsIfNothingStarted ((w.lists w1 ≡ w.lists w0) × (i1 ≡ i0)))
  -- For valid input, and where nothing failed or was raised, only memory may be wanted.
  pub complete : (s : TreeAndObjects) → Tells w f w0 o0 old s → recursion.is_default ≡ true
      → CountNotIncreased (w.faults w0) (w.faults w1) → CountNotIncreased (f.faults o0) (f.faults o1) → CountNotIncreased (i.raised i0) (i.raised i1)
      → HasReportOrIsWalkable given (setup_of_optional_stack old) s explicit limit → IfErr result (λ e. e ≡ OutOfMemory)
  -- An answer names the traversal root, also where the walk was broken off.
  pub named : (t : Names) → w.told w0 ≡ Some t → CountNotIncreased (w.faults w0) (w.faults w1)
      → IfOk result (λ r. (root : List ℕ) × (find_traversal_root given t explicit ≡ rooted root) × (path_of r ≡ root_joined_with_relative given.root root))
  -- With faults too: or it names the worktree root, where one was counted, as of whether the common directory is one.
  pub named_so : (t : Names) → w.told w0 ≡ Some t
      → IfOk result (λ r. (root : List ℕ) × ((find_traversal_root given t explicit ≡ rooted root) ⊎ ((root ≡ []) × CountIncreasedOrSaturated (w.faults w0) (w.faults w1))) × (path_of r ≡ root_joined_with_relative given.root root))
  -- What stays; the store is not asked where nothing is mapped and all is walked over it.
  pub worktree : KeepsWorktree w w0 w1
  pub store : KeepsStoredObjects f o0 o1
  pub unmapped : strategy ≡ Held → maps_rules_files_to_blobs (setup_of_optional_stack old) ≡ false → o1 ≡ o0
  pub rules : KeepsRulesInStep w f w0 o0 old new
  pub interrupt : AsksInterruptPerRaise i i0 i1
  pub listed : OnOk result (w.list_faults w1 ≡ w.list_faults w0)
  pub calm : OnOk result (i.raised i1 ≡ i.raised i0)
  -- What is opened and read.
  pub opens : CountsOpenedInWholeWalk w i w0 w1 i0 i1 strategy given (setup_of_optional_stack old) explicit outcome_of path_of result (OpensAtMostEnteredInWalk w f w0 w1 o0 old recursion given explicit limit result)

-- How what is walked from a traversal root ends, and what it leaves.
pub record KeepsStateAtEnd {W F I D T : Type 0} (w : WorktreeOf W) (f : FindOf F) (i : InterruptOf I) (d : DelegateOf D) (w0 w1 : W) (o0 o1 : F) (i0 i1 : I) (old new : Option StackModel) (d0 d1 : D)
    (result : Result T Stop) : Type 0 where
  pub worktree : KeepsWorktree w w0 w1
  pub store : KeepsStoredObjects f o0 o1
  pub rules : KeepsRulesInStep w f w0 o0 old new
  pub interrupt : AsksInterruptPerRaise i i0 i1
  pub delegate : KeepsDelegateRunning d d0 d1
  pub heeds : HeedsDelegateBreak d d0 d1 result
  pub caused : CountsCausesOfRefusals w f i w0 w1 o0 o1 i0 i1 result

-- ---- what is given

-- Besides what was given before, the entries of a walk that are shown, in whatever order: no path stands twice, none
-- hides what may not be lost, and they cover what the same walk without folding shows.
pub record AddsShownEntriesOfWalk (given : WalkSetting) (made : Option StackSetup) (s : TreeAndObjects) (explicit : Option (List ℕ)) (walk : Walk) (front : List Emission) (after : Option (List Emission)) : Type 0 where
  pub more : List Emission
  pub after_is : after ≡ Some (front ++ more)
  pub same : IsPermutation more (emissions_shown_by_options given.options (emissions_with_handed_up walk.gives))
  pub safe : IsSafeToReport given.options (evidence_from_setting_and_sources given made s) walk.gives more
  pub covers : IsSomeAnd (walk_over_sources (setting_without_folding given) made s explicit)
      (λ unfolded. CoversUnfoldedReport walk.gives.folds more (emissions_shown_by_options (options_without_folding given.options) (emissions_with_handed_up unfolded.gives)))

-- A whole walk: the report is defined, and this is what it says, with its counts and the whole path of its traversal root.
pub record GivesReportOfWalk (given : WalkSetting) (made : Option StackSetup) (s : TreeAndObjects) (explicit : Option (List ℕ)) (limit : ℕ) (before after : Option (List Emission)) (r : Outcome × List ℕ) : Type 0 where
  pub walk : Walk
  pub walk_is : walk_over_sources given made s explicit ≡ Some walk
  pub whole : is_whole_walk_refused limit (evidence_from_setting_and_sources given made s) walk ≡ false
  pub same : is_some after ≡ is_some before
  pub entries : (front : List Emission) → before ≡ Some front → AddsShownEntriesOfWalk given made s explicit walk front after
  pub outcome_is : r.0 ≡ counts given.options walk.gives
  pub root_is : r.1 ≡ root_joined_with_relative given.root walk.root

-- What is given from a traversal root on: each path at or beneath it at most once; or the one path on the way to it where
-- the way ended.
abbrev pub AddsPathsFromRootOnce : List ℕ → Option (List Emission) → Option (List Emission) → Type 0
AddsPathsFromRootOnce root before after = AddsAtMostPerPath (one_at_or_beneath_path root) before after ⊎ ((path : List ℕ) × IsPathOnWayToRoot root path × AddsAtMostPerPath (one_at_path path) before after)

-- A walk that is refused gives nothing; or it gives what it does from a traversal root that was asked for, and that the
-- answer names, if there is one.
abbrev pub AddsPathsFromNamedRootOnce : {T : Type 0} → WalkSetting → Option (List ℕ) → (T → List ℕ) → Result T Error → Option (List Emission) → Option (List Emission) → Type 0
AddsPathsFromNamedRootOnce given explicit path_of result before after =
    ((after ≡ before) × IfOk result (λ _. ⊥)) ⊎ ((root : List ℕ) × IsNormalizedRootNamedByAnswer given explicit path_of result root × AddsPathsFromRootOnce root before after)

-- What a delegate was given that was `d0` and is `d1`.
pub record FeedsDelegateWithReport {W F D : Type 0} (w : WorktreeOf W) (f : FindOf F) (d : DelegateOf D) (w0 w1 : W) (o0 : F) (old : Option StackModel) (d0 d1 : D)
    (given : WalkSetting) (explicit : Option (List ℕ)) (limit : ℕ) (result : Result (Outcome × List ℕ) Error) : Type 0 where
  -- The report, unless it broke the walk off.
  pub gives : (s : TreeAndObjects) → Tells w f w0 o0 old s → d.is_default d0 ≡ true → CountNotIncreased (w.faults w0) (w.faults w1) → CountNotIncreased (d.breaks d0) (d.breaks d1)
      → IfOk result (GivesReportOfWalk given (setup_of_optional_stack old) s explicit limit (d.given d0) (d.given d1))
  -- A part of it, however the walk ended, and no more is counted as seen.
  pub part : (s : TreeAndObjects) → Tells w f w0 o0 old s → d.is_default d0 ≡ true → CountNotIncreased (w.faults w0) (w.faults w1)
      → (walk : Walk) → walk_over_sources given (setup_of_optional_stack old) s explicit ≡ Some walk → AddsAmongShownEmissions given.options (emissions_with_handed_up walk.gives) (d.given d0) (d.given d1)
  pub counted_within : (s : TreeAndObjects) → Tells w f w0 o0 old s → d.is_default d0 ≡ true → CountNotIncreased (w.faults w0) (w.faults w1)
      → (walk : Walk) → walk_over_sources given (setup_of_optional_stack old) s explicit ≡ Some walk → IfOk result (λ r. r.0.seen_entries ≤ (counts given.options walk.gives).seen_entries)
  -- Nothing, where there is nothing to start from.
  pub unfed : IfErr result (HoldsIfNothingStarted (d.given d1 ≡ d.given d0))
  -- It answered Break at most once, and then it was given nothing more; and a walk that it broke off is not refused.
  pub heeded : (d.breaks d1 ≡ d.breaks d0) ⊎ (CountIncrementedOrSaturated (d.breaks d0) (d.breaks d1) × (d.is_stopped d1 ≡ true))
  pub unbroken : IfErr result (λ _. d.breaks d1 ≡ d.breaks d0)
  pub delegate : KeepsDelegateRunning d d0 d1
  -- Over any worktree nothing comes that the options hide, no path comes twice, and the counts are of what is given.
  pub filtered : AddsNoHiddenEmission given.options (d.given d0) (d.given d1)
  pub once : AddsPathsFromNamedRootOnce given explicit (λ (r : Outcome × List ℕ). r.1) result (d.given d0) (d.given d1)
  pub returned : IfOk result (λ r. is_some (d.given d0) ≡ true → r.0.returned_entries ≡ min (length (emissions_or_empty (d.given d1)) - length (emissions_or_empty (d.given d0))) (2 ^ 64 - 1))
  pub seen : IfOk result (λ r. min r.0.returned_entries (2 ^ 32 - 1) ≤ r.0.seen_entries)

-- ---- both

-- A walk over a worktree that was `w0` and is `w1`, with a store, an interrupt and rules likewise, and with a delegate that was
-- `d0` and is `d1`.
pub record WalksForDelegate {W F I D : Type 0} (w : WorktreeOf W) (f : FindOf F) (i : InterruptOf I) (d : DelegateOf D) (w0 w1 : W) (o0 o1 : F) (i0 i1 : I) (old new : Option StackModel) (d0 d1 : D)
    (strategy : Strategy) (given : WalkSetting) (explicit : Option (List ℕ)) (limit : ℕ) (result : Result (Outcome × List ℕ) Error) : Type 0 where
  -- Why it is refused, and what it leaves.
  pub walks_worktree : WalksWorktreeWithCauses w f i w0 w1 o0 o1 i0 i1 old new strategy given explicit limit (default_and_refusal_counts_of_delegate d d0 d1) (λ (r : Outcome × List ℕ). r.0) (λ (r : Outcome × List ℕ). r.1) result
  -- What the delegate was given.
  pub feeds : FeedsDelegateWithReport w f d w0 w1 o0 old d0 d1 given explicit limit result

-- ---- what is collected

-- the whole path of the traversal root in an answer that has what was collected too
abbrev pub full_root_path_of_answer : Outcome × List ℕ × Collect → List ℕ
full_root_path_of_answer r = r.1

-- A walk of which the entries are collected from none on: over a worktree that was `w0` and is `w1`, and a store that was `o0`.
pub record CollectsReportOfWalk {W F : Type 0} (w : WorktreeOf W) (f : FindOf F) (w0 w1 : W) (o0 : F) (old : Option StackModel)
    (given : WalkSetting) (explicit : Option (List ℕ)) (limit : ℕ) (result : Result (Outcome × List ℕ × Collect) Error) : Type 0 where
  -- They are those of the report.
  pub gives : (s : TreeAndObjects) → Tells w f w0 o0 old s → CountNotIncreased (w.faults w0) (w.faults w1)
      → IfOk result (λ r. GivesReportOfWalk given (setup_of_optional_stack old) s explicit limit (Some []) (Some r.2.unorded_entries) (r.0, r.1))
  -- Over any worktree nothing comes that the options hide, no path comes twice, and the counts are of what is given.
  pub filtered : IfOk result (λ r. count_hidden_emissions given.options r.2.unorded_entries ≡ 0)
  pub once : IfOk result (λ r. AddsPathsFromNamedRootOnce given explicit full_root_path_of_answer result (Some []) (Some r.2.unorded_entries))
  pub returned : IfOk result (λ r. r.0.returned_entries ≡ min (length r.2.unorded_entries) (2 ^ 64 - 1))
  pub seen : IfOk result (λ r. min r.0.returned_entries (2 ^ 32 - 1) ≤ r.0.seen_entries)
