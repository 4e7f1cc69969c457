-- Which entries may go by themselves: git-clean(1), "OPTIONS".
use Rattle.std.specs.Prelude.{Bool, true, false, not, ◌&&◌, ◌||◌, List, Option, Some, None, if◌then◌else◌}
use Rattle.glob_rules.specs.PathSpec.{PathSpec}
use Rattle.dir_classify.specs.Enters.{is_ignored_status}
use Rattle.dir_classify.specs.Kinds.{is_dot_git_property, is_repository_kind}
use Rattle.dir_classify.specs.declared.entry.Entry.{Entry}
use Rattle.dir_classify.specs.declared.entry.Kind.{Kind}
use Rattle.dir_classify.specs.declared.entry.Kind.TheVariants.{Untrackable, File, Symlink, Directory, Repository}
use Rattle.dir_classify.specs.declared.entry.Status.{Status}
use Rattle.dir_classify.specs.declared.entry.Status.TheVariants.{Pruned, Tracked, Ignored, Untracked}
use Rattle.ls_files.specs.Others.{do_specs_match_report_entry, is_untracked_status}
use Rattle.git_clean.specs.declared.options.Cleaning.{Cleaning}

-- "-X: Remove only files ignored by Git."
abbrev pub is_status_cleaned : Cleaning → Status → Bool
is_status_cleaned c Untracked = not c.ignored_only
is_status_cleaned c (Ignored kind) = c.ignored_only
is_status_cleaned c Tracked = false
is_status_cleaned c Pruned = false

-- "-d: Normally, when no <pathspec> is specified, git clean will not recurse into untracked directories to avoid removing too much. Specify
-- -d to have it recurse into such directories as well.", "-f: .. Git will not modify untracked nested git repositories (directories with a
-- .git subdirectory) unless a second -f is given."
abbrev pub is_kind_cleaned : Cleaning → Option Kind → Bool
is_kind_cleaned c None = false
is_kind_cleaned c (Some Untrackable) = false
is_kind_cleaned c (Some File) = true
is_kind_cleaned c (Some Symlink) = true
is_kind_cleaned c (Some Directory) = c.directories
is_kind_cleaned c (Some Repository) = c.directories && c.repositories

-- what is named `.git` never goes by itself
abbrev pub may_remove_if_matched : Cleaning → Entry → Bool
may_remove_if_matched c e = is_status_cleaned c e.status && (is_kind_cleaned c e.disk_kind && not (is_dot_git_property e.property))

-- it may go, and the path specs match it
abbrev pub is_entry_matched_and_removable : Cleaning → List PathSpec → Entry → Bool
is_entry_matched_and_removable c specs e = may_remove_if_matched c e && do_specs_match_report_entry specs e

-- ---- what stays

-- without a second `-f`: a repository, and what is named `.git`, whatever that holds
abbrev pub is_repository_or_dot_git_kept : Cleaning → Entry → Bool
is_repository_or_dot_git_kept c e = not c.repositories && (is_repository_kind e.disk_kind || is_dot_git_property e.property)

-- ---- what keeps the directories above an entry from going whole

-- an ignored path; with `-X` any other
abbrev pub entry_blocks_whole_removal : Cleaning → Entry → Bool
entry_blocks_whole_removal c e = if c.ignored_only then not (is_ignored_status e.status) else is_ignored_status e.status

-- a file, a link, or a directory that holds nothing
abbrev pub is_file_symlink_or_directory : Option Kind → Bool
is_file_symlink_or_directory None = false
is_file_symlink_or_directory (Some Untrackable) = false
is_file_symlink_or_directory (Some File) = true
is_file_symlink_or_directory (Some Symlink) = true
is_file_symlink_or_directory (Some Directory) = true
is_file_symlink_or_directory (Some Repository) = false

-- With `-X` and without `-d` git passes over a directory in which all is ignored. What is untracked shows that it is no such one, unless
-- it lies in a directory that holds a `.git`.
abbrev pub proves_parents_unignored : Cleaning → Entry → Bool
proves_parents_unignored c e = c.ignored_only && (is_untracked_status e.status && is_file_symlink_or_directory e.disk_kind)

-- the entries for which the directories above are marked; with `-X` and without `-d` those that lie in no directory that holds a `.git`
abbrev pub entry_marks_parents_against_removal : Cleaning → Entry → Bool
entry_marks_parents_against_removal c e = if c.directories then entry_blocks_whole_removal c e else proves_parents_unignored c e
