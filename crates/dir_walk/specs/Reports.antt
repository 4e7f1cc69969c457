-- What makes a report right, and safe to act on, and what holds of each.
use Rattle.std.specs.Prelude.{◌≡◌, ◌≤◌, ◌-◌, ◌^◌, ℕ, min, length, List, [], false, Option, Some, IsSomeAnd}
use Rattle.worktree_fs.specs.Paths.{root_joined_with_relative}
use Rattle.worktree_stack.specs.Reading.{TreeAndObjects}
use Rattle.worktree_stack.specs.Setup.{StackSetup}
use Rattle.dir_classify.specs.Chosen.{folds_untracked_or_ignored}
use Rattle.dir_classify.specs.Layers.{WalkSetting, evidence_from_setting_and_sources}
use Rattle.dir_walk.specs.declared.report.Report.{Report}
use Rattle.dir_walk.specs.Covered.{CoversUnfoldedReport, options_without_folding, setting_without_folding}
use Rattle.dir_walk.specs.Distinct.{IsWithoutNestedPaths, IsStrictlyAscendingByPath}
use Rattle.dir_walk.specs.Emissions.{sort_emissions_by_path}
use Rattle.dir_walk.specs.Puts.{count_hidden_emissions}
use Rattle.dir_walk.specs.Report.{emissions_with_handed_up, report, emissions_shown_by_options}
use Rattle.dir_walk.specs.Root.{walk_over_sources}
use Rattle.dir_walk.specs.Rooting.{IsNormalizedRoot}
use Rattle.dir_walk.specs.Safe.{IsSafeToReport}
use Rattle.dir_walk.specs.Walks.{AddsPathsFromRootOnce}

-- It is the report over a tree and a store. Its paths ascend strictly, byte by byte, and without folding none lies beneath another;
-- it hides nothing that may not be lost; and the same walk without folding gives something, of which it covers what is shown.
pub record IsSafeReport (given : WalkSetting) (made : Option StackSetup) (s : TreeAndObjects) (explicit : Option (List ℕ)) (limit : ℕ) (r : Report) : Type 0 where
  pub is : report given made s explicit limit ≡ Some r
  pub ascends : IsStrictlyAscendingByPath r.entries
  pub flat : folds_untracked_or_ignored given.options ≡ false → IsWithoutNestedPaths r.entries
  pub safe : IsSomeAnd (walk_over_sources given made s explicit) (λ walk. IsSafeToReport given.options (evidence_from_setting_and_sources given made s) walk.gives r.entries)
  pub covers : IsSomeAnd (walk_over_sources given made s explicit) (λ walk. IsSomeAnd (walk_over_sources (setting_without_folding given) made s explicit)
      (λ unfolded. CoversUnfoldedReport walk.gives.folds r.entries (sort_emissions_by_path (emissions_shown_by_options (options_without_folding given.options) (emissions_with_handed_up unfolded.gives)))))

-- Over any worktree it names a traversal root that was asked for, normalised. Each of its paths is at or beneath that and stands
-- once; or there is one at most, on the way to it, where the way ended.
pub record IsReportFromNormalizedRoot (given : WalkSetting) (explicit : Option (List ℕ)) (r : Report) : Type 0 where
  pub root : List ℕ
  pub asked : IsNormalizedRoot given explicit root
  pub named : r.root ≡ root_joined_with_relative given.root root
  pub once : AddsPathsFromRootOnce root (Some []) (Some r.entries)

-- What holds of each report, whatever a worktree tells and however often it fails: its paths ascend strictly, byte by byte, and so each
-- stands once; its entries are counted, up to the ends of the counts; none is one that the options hide; and they are from the
-- traversal root on that was asked for.
pub record IsReportOverAnyWorktree (given : WalkSetting) (explicit : Option (List ℕ)) (r : Report) : Type 0 where
  pub ordered : IsStrictlyAscendingByPath r.entries
  pub counted : r.outcome.returned_entries ≡ min (length r.entries) (2 ^ 64 - 1)
  pub seen : min r.outcome.returned_entries (2 ^ 32 - 1) ≤ r.outcome.seen_entries
  pub filtered : count_hidden_emissions given.options r.entries ≡ 0
  pub once : IsReportFromNormalizedRoot given explicit r
