-- The lines of what would go, and of what would not: git-clean(1), "-n: Don't actually remove anything, just show what would be done."
use Rattle.std.specs.Prelude.{ℕ, ◌+◌, List, [], ◌∷◌, ◌++◌, Bool, ◌&&◌, codes, drop, length, if◌then◌else◌}
use Rattle.std.specs.List.{flat_map}
use Rattle.gitbase_core.specs.Among.{is_text_in_list}
use Rattle.gitbase_core.specs.Path.{ends_in_slash, without_trailing_slash}
use Rattle.git_paths.specs.QuotedNames.{path_quoted_if_needed}
use Rattle.git_paths.specs.RelativeNames.{path_relative_to_prefix}
use Rattle.worktree_report.specs.declared.report.ReportEntry.{ReportEntry}
use Rattle.git_clean.specs.declared.options.Cleaning.{Cleaning}
use Rattle.git_clean.specs.Parts.{is_skipped_repository_in, removable_parts_of_directory, refuses_current_directory}
use Rattle.git_clean.specs.Places.{names_of_removed}
use Rattle.git_clean.specs.Scenes.{CleaningInputs}

-- git's words before the name of what goes
unfoldable pub would_remove_words : List ℕ
would_remove_words = codes "Would remove "

-- git's words before a repository that stays for want of a second `-f`
unfoldable pub would_skip_repository_words : List ℕ
would_skip_repository_words = codes "Would skip repository "

-- git's line for a current directory of which all goes but itself: it has no name in it, and `-q` leaves it
unfoldable pub would_refuse_current_directory_line : List ℕ
would_refuse_current_directory_line = codes "Would refuse to remove current working directory\n"

-- "-q: Be quiet, only report errors, but not the files that are successfully removed."
abbrev pub line : Cleaning → List ℕ → List ℕ → List ℕ
line c words name = if c.quiet then [] else words ++ path_quoted_if_needed c.quote_path name ++ 10 ∷ []

-- a directory with a slash behind it, as it reads from the current directory: `../w/`, or `./` for that itself
abbrev pub relative_name_of_directory : List ℕ → List ℕ → List ℕ
relative_name_of_directory prefix directory = path_relative_to_prefix (directory ++ 47 ∷ []) prefix

-- a path in a directory, as it reads behind that directory's name
abbrev pub relative_name_of_path_in_directory : List ℕ → List ℕ → List ℕ → List ℕ
relative_name_of_path_in_directory prefix directory path = relative_name_of_directory prefix directory ++ drop (length directory + 1) path

-- a line for what lies in a directory, as git names it: the directory from here, and behind it the rest of the path
abbrev pub line_of_path_in_directory : CleaningInputs → List ℕ → List ℕ → List ℕ → List ℕ
line_of_path_in_directory s words directory path = line s.cleaning words (relative_name_of_path_in_directory s.prefix directory path)

-- a line for a repository in the directory that stays for want of a second `-f`; nothing for any other entry
abbrev pub line_if_repository_skipped : CleaningInputs → List ℕ → ReportEntry → List ℕ
line_if_repository_skipped s directory e = if is_skipped_repository_in s directory e.entry then line_of_path_in_directory s would_skip_repository_words directory e.entry.rela_path else []

-- a line for each repository that stays in the directory, in the order of the report
abbrev pub skipped_repository_lines : CleaningInputs → List ℕ → List ℕ
skipped_repository_lines s directory = flat_map (line_if_repository_skipped s directory) s.found

-- git's line, where the directory is or holds the current one and all in that goes; else nothing
abbrev pub line_if_current_directory_refused : CleaningInputs → List ℕ → List ℕ
line_if_current_directory_refused s directory = if refuses_current_directory s directory then would_refuse_current_directory_line else []

-- a line for each part that goes of a directory that stays, in the order of the bytes
abbrev pub would_remove_lines_inside : CleaningInputs → List ℕ → List ℕ
would_remove_lines_inside s directory = flat_map (line_of_path_in_directory s would_remove_words directory) (removable_parts_of_directory s directory)

-- of a directory that cannot go: what is skipped, the current directory, and what goes of it
abbrev pub lines_of_unremovable_directory : CleaningInputs → List ℕ → List ℕ
lines_of_unremovable_directory s directory = skipped_repository_lines s directory ++ line_if_current_directory_refused s directory ++ would_remove_lines_inside s directory

-- the name has a slash at its end, and is that of a directory that cannot go
abbrev pub is_name_of_unremovable_directory : CleaningInputs → List ℕ → Bool
is_name_of_unremovable_directory s name = ends_in_slash name && is_text_in_list (without_trailing_slash name) s.held

-- the line for what goes as it is, by its name from the current directory; nothing with `-q`
abbrev pub would_remove_line : CleaningInputs → List ℕ → List ℕ
would_remove_line s name = line s.cleaning would_remove_words (path_relative_to_prefix name s.prefix)

-- the line for what goes; for a directory that cannot go, the lines of what it holds in its place
abbrev pub removal_lines_of_name : CleaningInputs → List ℕ → List ℕ
removal_lines_of_name s name = if is_name_of_unremovable_directory s name then lines_of_unremovable_directory s (without_trailing_slash name) else would_remove_line s name

-- all that `git clean -n` prints, in the order of the names from the top
abbrev pub text : CleaningInputs → List ℕ
text s = flat_map (removal_lines_of_name s) (names_of_removed s)
