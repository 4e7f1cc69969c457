-- What the patterns of `-e` exclude, where no other rules stand beside them: git-clean(1).
--
-- "-x: Don't use the standard ignore rules ..., but still use the ignore rules given with -e options from the command line."
-- The walk asks no rules then, so each path that the index lacks is reported as untracked. For example `-x -e '*.o'` removes what
-- `.gitignore` excludes, and leaves `a.o`.
use Rattle.std.specs.Prelude.{List, [], ◌∷◌, Bool, true, false, ◌&&◌, map, Option, Some, None, if◌then◌else◌}
use Rattle.dir_classify.specs.declared.entry.Entry.{Entry}
use Rattle.dir_classify.specs.declared.entry.Kind.{Kind}
use Rattle.dir_classify.specs.declared.entry.Kind.TheVariants as kinds
use Rattle.dir_classify.specs.declared.entry.Status.TheVariants.{Ignored}
use Rattle.glob_rules.specs.Ignore.{RulesList}
use Rattle.glob_rules.specs.declared.Case.TheVariants.{Sensitive}
use Rattle.glob_rules.specs.declared.ignore.Kind.TheVariants.{Expendable}
use Rattle.ls_files.specs.Alone.{is_excluded, is_below_excluded_directory}
use Rattle.ls_files.specs.Others.{is_untracked_status, place_of_report_entry}
use Rattle.worktree_report.specs.Excluding.{ignore_rules_of_text}
use Rattle.worktree_report.specs.declared.report.ReportEntry.{ReportEntry}
use Rattle.worktree_report.specs.declared.setup.Setup.{Setup}
use Rattle.git_clean.specs.declared.options.Cleaning.{Cleaning}

-- the patterns are the only rules
abbrev pub are_patterns_only_rules : Cleaning → Bool
are_patterns_only_rules c = c.ignored_too && c.patterns

-- a pipe, a socket or a device
abbrev pub is_untrackable_kind : Option Kind → Bool
is_untrackable_kind None = false
is_untrackable_kind (Some kinds.Untrackable) = true
is_untrackable_kind (Some kinds.File) = false
is_untrackable_kind (Some kinds.Symlink) = false
is_untrackable_kind (Some kinds.Directory) = false
is_untrackable_kind (Some kinds.Repository) = false

-- they exclude it, or a directory above it; of a pipe git asks only the directories
abbrev pub patterns_exclude_entry : List RulesList → Entry → Bool
patterns_exclude_entry rules e =
    if is_untrackable_kind e.disk_kind then is_below_excluded_directory rules Sensitive e.rela_path else is_excluded rules Sensitive (place_of_report_entry e)

-- an untracked path that they exclude
abbrev pub is_untracked_and_excluded : List RulesList → Entry → Bool
is_untracked_and_excluded rules e = is_untracked_status e.status && patterns_exclude_entry rules e

-- it is ignored, as a rule of the work tree would have it
abbrev pub entry_ignored_if_excluded : List RulesList → ReportEntry → ReportEntry
entry_ignored_if_excluded rules e = if is_untracked_and_excluded rules e.entry then record e { entry = record e.entry { status = Ignored Expendable } } else e

-- the patterns of `-e`, as the one list of rules that `-x` leaves
abbrev pub rules_of_command_patterns : Setup → List RulesList
rules_of_command_patterns setup = ignore_rules_of_text false setup.overrides ∷ []

-- the entries of a report as the patterns have them
unfoldable pub entries_ignored_by_sole_patterns : Cleaning → Setup → List ReportEntry → List ReportEntry
entries_ignored_by_sole_patterns c setup found = if are_patterns_only_rules c then map (entry_ignored_if_excluded (rules_of_command_patterns setup)) found else found
