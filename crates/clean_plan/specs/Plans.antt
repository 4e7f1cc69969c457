-- The plan: what may be removed.
use Rattle.std.specs.Prelude.{◌≡◌, ℕ, List, Bool, not, ◌&&◌, ◌||◌, map, filter}
use Rattle.dir_classify.specs.declared.entry.Entry.{Entry}
use Rattle.worktree_report.specs.declared.report.ReportEntry.{ReportEntry}
use Rattle.clean_plan.specs.Above.{any_ancestor_passes}
use Rattle.clean_plan.specs.Asked.{CleanPlanInputs}
use Rattle.clean_plan.specs.Paths.{AscendsStrictly, is_text_in_list}
use Rattle.clean_plan.specs.Removable.{is_entry_removable_by_itself}
use Rattle.clean_plan.specs.Staying.{has_kept_untrackable_at_path}
use Rattle.clean_plan.specs.Whole.{may_remove_whole_directory}

-- the entry that a line of a report is about
abbrev pub entry_of_report_entry : ReportEntry → Entry
entry_of_report_entry e = e.entry

-- the entries of a report as such
abbrev pub entries_of_report_entries : List ReportEntry → List Entry
entries_of_report_entries entries = map entry_of_report_entry entries

-- the path of an entry
abbrev pub rela_path_of_entry : Entry → List ℕ
rela_path_of_entry e = e.rela_path

-- the paths of the entries that may go by themselves
abbrev pub paths_of_removable_entries : CleanPlanInputs → List Entry → List (List ℕ)
paths_of_removable_entries asked entries = map rela_path_of_entry (filter (is_entry_removable_by_itself asked) entries)

-- A path may be planned: it is that of a directory that may go as a whole, or of an entry that may go by itself, and no directory
-- above it may go as a whole.
abbrev pub is_outermost_removable_path : CleanPlanInputs → List Entry → List ℕ → Bool
is_outermost_removable_path asked entries path =
    (may_remove_whole_directory asked entries path || is_text_in_list path (paths_of_removable_entries asked entries))
    && not (any_ancestor_passes (may_remove_whole_directory asked entries) path)

-- and it is planned, unless a node stays there
abbrev pub is_planned_for_removal : CleanPlanInputs → List Entry → List ℕ → Bool
is_planned_for_removal asked entries path = is_outermost_removable_path asked entries path && not (has_kept_untrackable_at_path asked.others entries path)

-- The plan: the planned paths, in strictly ascending order.
pub record IsOrderedRemovalPlan (asked : CleanPlanInputs) (entries : List Entry) (paths : List (List ℕ)) : Type 0 where
  pub ascends : AscendsStrictly paths
  pub are : (path : List ℕ) → is_text_in_list path paths ≡ is_planned_for_removal asked entries path
