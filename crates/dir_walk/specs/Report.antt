-- The report of a walk: what it emits and is shown, in order, with its counts.
use Rattle.std.specs.Prelude.{ℕ, ◌+◌, ◌-◌, ◌^◌, min, Bool, true, ◌||◌, nat_lt, List, ◌++◌, map, filter, length, Option, Some, None, option_and_then, if◌then◌else◌}
use Rattle.std.specs.List.{list_any}
use Rattle.gitbase_core.specs.Path.{components}
use Rattle.worktree_fs.specs.Paths.{root_joined_with_relative}
use Rattle.worktree_stack.specs.Setup.{StackSetup}
use Rattle.worktree_stack.specs.Reading.{TreeAndObjects}
use Rattle.dir_classify.specs.Chosen.{WalkOptions}
use Rattle.dir_classify.specs.Evidence.{PathEvidence}
use Rattle.dir_classify.specs.Layers.{WalkSetting, evidence_from_setting_and_sources}
use Rattle.dir_walk.specs.declared.outcome.Outcome.{Outcome as Counts}
use Rattle.dir_walk.specs.declared.report.Report.{Report}
use Rattle.dir_walk.specs.Emissions.{Emission, uncollapsed_emission, is_entry_shown_by_options, sort_emissions_by_path}
use Rattle.dir_walk.specs.Walked.{WalkResult}
use Rattle.dir_walk.specs.Root.{Walk, walk_over_sources}

-- ---- what is not defined

-- how many components a path has below the worktree root
abbrev pub count_components : List ℕ → ℕ
count_components path = length (components path)

-- something is to be entered that is no directory, or lies deeper than the limit, or the rules of a path that asks them cannot be
-- read
abbrev pub is_walk_result_refused : ℕ → PathEvidence → WalkResult → Bool
is_walk_result_refused limit ev w = list_any (λ path. nat_lt limit (count_components path)) w.entered || list_any (λ path. true) w.broken || list_any ev.is_unread w.asked

-- the same of a whole walk, to which the paths on the way to the traversal root belong
abbrev pub is_whole_walk_refused : ℕ → PathEvidence → Walk → Bool
is_whole_walk_refused limit ev walk = walk.is_way_unread || is_walk_result_refused limit ev walk.gives

-- ---- the entries and the counts

-- all that is emitted: what is put out, and what is handed up at the end, the latter by itself
abbrev pub emissions_with_handed_up : WalkResult → List Emission
emissions_with_handed_up w = w.out ++ map uncollapsed_emission w.up

-- the entries that are shown
abbrev pub emissions_shown_by_options : WalkOptions → List Emission → List Emission
emissions_shown_by_options o out = filter (λ x. is_entry_shown_by_options o x.0) out

-- a count stands still at the last value of its type
abbrev pub counts : WalkOptions → WalkResult → Counts
counts o w =
    record {
      read_dir_calls = min (length w.entered) (2 ^ 32 - 1);
      returned_entries = min (length (emissions_shown_by_options o (emissions_with_handed_up w))) (2 ^ 64 - 1);
      seen_entries = min (length (emissions_with_handed_up w) + w.merged) (2 ^ 32 - 1);
    }

-- ---- the report

abbrev pub report_of_walk_unless_refused : WalkSetting → ℕ → PathEvidence → Walk → Option Report
report_of_walk_unless_refused given limit ev walk =
    if is_whole_walk_refused limit ev walk then None
    else Some (record { outcome = counts given.options walk.gives; root = root_joined_with_relative given.root walk.root; entries = sort_emissions_by_path (emissions_shown_by_options given.options (emissions_with_handed_up walk.gives)) })

-- The report over a tree and a store, by what the rules were made with, for the traversal root that is handed in, if one
-- is. None where there is no such root, where the worktree root is no directory and is not entered, where something is
-- to be entered that is no directory or lies deeper than the limit, or where the rules of a path that asks them cannot
-- be read.
unfoldable pub report : WalkSetting → Option StackSetup → TreeAndObjects → Option (List ℕ) → ℕ → Option Report
report given made s explicit limit = option_and_then (report_of_walk_unless_refused given limit (evidence_from_setting_and_sources given made s)) (walk_over_sources given made s explicit)
