-- Which paths of an index `ls-files` shows by what stands in the work tree: git-ls-files(1), "-d" and "-m".
use Rattle.std.specs.Prelude.{Bool, false, Option, Some, None, if◌then◌else◌}
use Rattle.ls_files.specs.declared.standings.DeletedModifiedChoice.{DeletedModifiedChoice}
use Rattle.ls_files.specs.declared.standings.DeletedModifiedChoice.TheVariants as standings
use Rattle.command_line.specs.declared.change_words.ChangeWords.{ChangeWords}
use Rattle.command_line.specs.declared.choice.Choice.{Choice}
use Rattle.command_line.specs.declared.choice.Choice.TheVariants as choices

-- neither deleted nor modified paths are asked for
abbrev pub no_deleted_modified_flags : ChangeWords
no_deleted_modified_flags = record { deleted = false; modified = false }

-- with one choice made or dropped; the others are about something else
abbrev pub deleted_modified_flags_with_choice : Choice → Bool → ChangeWords → ChangeWords
deleted_modified_flags_with_choice choices.Cached on changes = changes
deleted_modified_flags_with_choice choices.Stages on changes = changes
deleted_modified_flags_with_choice choices.Unmerged on changes = changes
deleted_modified_flags_with_choice choices.Others on changes = changes
deleted_modified_flags_with_choice choices.Killed on changes = changes
deleted_modified_flags_with_choice choices.Deleted on changes = record changes { deleted = on }
deleted_modified_flags_with_choice choices.Modified on changes = record changes { modified = on }
deleted_modified_flags_with_choice choices.Ignored on changes = changes
deleted_modified_flags_with_choice choices.Directories on changes = changes
deleted_modified_flags_with_choice choices.EmptyDirectories on changes = changes
deleted_modified_flags_with_choice choices.ExcludesStandard on changes = changes
deleted_modified_flags_with_choice choices.ExcludesDirectories on changes = changes
deleted_modified_flags_with_choice choices.ErrorUnmatch on changes = changes
deleted_modified_flags_with_choice choices.Tags on changes = changes
deleted_modified_flags_with_choice choices.Valid on changes = changes
deleted_modified_flags_with_choice choices.Nul on changes = changes
deleted_modified_flags_with_choice choices.Deduplicates on changes = changes
deleted_modified_flags_with_choice choices.FullNames on changes = changes

-- what is shown so
abbrev pub standings_of_deleted_modified_flags : ChangeWords → Option DeletedModifiedChoice
standings_of_deleted_modified_flags changes =
    if changes.deleted then (if changes.modified then Some standings.Both else Some standings.Deleted)
    else if changes.modified then Some standings.Modified
    else None
