-- Which entries may go by themselves.
use Rattle.std.specs.Prelude.{Bool, true, false, not, ◌&&◌, Option, Some, None}
use Rattle.glob_rules.specs.declared.ignore.Kind.TheVariants.{Expendable, Precious}
use Rattle.dir_classify.specs.declared.entry.Entry.{Entry}
use Rattle.dir_classify.specs.declared.entry.Kind.{Kind}
use Rattle.dir_classify.specs.declared.entry.Status.{Status}
use Rattle.dir_classify.specs.declared.entry.Status.TheVariants.{Pruned, Tracked, Ignored, Untracked}
use Rattle.dir_classify.specs.Kinds.{is_plain_directory_kind, is_repository_kind}
use Rattle.dir_walk.specs.Emissions.{is_unmatched_or_excluded}
use Rattle.clean_plan.specs.declared.what.What.{What}
use Rattle.clean_plan.specs.declared.what.What.TheVariants as what
use Rattle.clean_plan.specs.Asked.{CleanPlanInputs}
use Rattle.clean_plan.specs.Closed.{stays_in_spec_excluded_directory}
use Rattle.clean_plan.specs.Kept.{is_nonroot_path_protected_from_clean, specs_exclude_directory}

-- untracked paths may go
abbrev pub may_remove_untracked : What → Bool
may_remove_untracked what.Untracked = true
may_remove_untracked what.UntrackedAndIgnored = true
may_remove_untracked what.IgnoredOnly = false

-- ignored paths may go
abbrev pub may_remove_ignored : What → Bool
may_remove_ignored what.Untracked = false
may_remove_ignored what.UntrackedAndIgnored = true
may_remove_ignored what.IgnoredOnly = true

-- what is asked for may have this status: untracked, or ignored and expendable
abbrev pub is_status_requested_for_removal : What → Status → Bool
is_status_requested_for_removal what Untracked = may_remove_untracked what
is_status_requested_for_removal what (Ignored Expendable) = may_remove_ignored what
is_status_requested_for_removal what (Ignored Precious) = false
is_status_requested_for_removal what Tracked = false
is_status_requested_for_removal what Pruned = false

-- something is on disk, and no repository
abbrev pub exists_and_is_no_repository : Option Kind → Bool
exists_and_is_no_repository None = false
exists_and_is_no_repository (Some kind) = not (is_repository_kind (Some kind))

-- what is said of an entry lets it go: its status is asked for, something is there and no repository, the path specs match it
-- and, where it is a directory, do not take that out
abbrev pub passes_status_kind_and_specs : CleanPlanInputs → Entry → Bool
passes_status_kind_and_specs asked e =
    is_status_requested_for_removal asked.what e.status
    && (exists_and_is_no_repository e.disk_kind
    && (not (is_unmatched_or_excluded e.pathspec_match)
    && not (is_plain_directory_kind e.disk_kind && specs_exclude_directory asked.specs e.rela_path)))

-- An entry may go by itself: what is said of it lets it go, it does not stay with a directory that the path specs take out, and its path
-- is not kept.
abbrev pub is_entry_removable_by_itself : CleanPlanInputs → Entry → Bool
is_entry_removable_by_itself asked e = passes_status_kind_and_specs asked e && (not (stays_in_spec_excluded_directory asked.taken_out asked.specs e) && not (is_nonroot_path_protected_from_clean asked e.rela_path))
