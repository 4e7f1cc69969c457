-- Entries of a report in the order of their paths, and those beneath a directory.
use Rattle.std.specs.Prelude.{ℕ, List, Bool}
use Rattle.std.specs.List.Sorted.{IsSortedBy}
use Rattle.std.specs.Ordering.{is_lt}
use Rattle.gitbase_core.specs.Index.{key_begins_with_prefix, compare_path_bytes}
use Rattle.gitbase_core.specs.Path.{is_beneath_directory}
use Rattle.worktree_report.specs.declared.report.ReportEntry.{ReportEntry}

-- the path from the top, which is the key that the entries are in order by
abbrev pub rela_path_of_report_entry : ReportEntry → List ℕ
rela_path_of_report_entry e = e.entry.rela_path

-- the path of an entry comes before that of the other by its bytes, and is not the same
abbrev pub path_sorts_before : ReportEntry → ReportEntry → Bool
path_sorts_before e other = is_lt (compare_path_bytes (rela_path_of_report_entry e) (rela_path_of_report_entry other))

-- the paths do not fall along the entries
abbrev pub AreSortedByPath : List ReportEntry → Type 0
AreSortedByPath found = IsSortedBy path_sorts_before found

-- the path of an entry begins with some bytes
abbrev pub path_starts_with : List ℕ → ReportEntry → Bool
path_starts_with name e = key_begins_with_prefix rela_path_of_report_entry name e

-- an entry lies beneath a directory
abbrev pub entry_lies_beneath_directory : List ℕ → ReportEntry → Bool
entry_lies_beneath_directory directory e = is_beneath_directory directory (rela_path_of_report_entry e)
