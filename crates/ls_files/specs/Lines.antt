-- The line of a path: git-ls-files(1), "OUTPUT".
use Rattle.std.specs.Prelude.{ℕ, ◌+◌, ◌/◌, ◌%◌, List, [], ◌∷◌, ◌++◌, Bool, ◌&&◌, ◌||◌, decimal, if◌then◌else◌}
use Rattle.hex.specs.Hex.{encode_lower}
use Rattle.gitbase_core.specs.Entry.{mode_bits, assume_valid_flag, skip_worktree_flag, is_unmerged_entry}
use Rattle.gitbase_core.specs.Kinds.{entry_has_flag}
use Rattle.gitbase_core.specs.declared.entry.IndexEntry.{IndexEntry}
use Rattle.git_paths.specs.QuotedNames.{path_quoted_if_needed}
use Rattle.git_paths.specs.RelativeNames.{path_relative_to_prefix}
use Rattle.ls_files.specs.declared.options.Listing.{Listing}
use Rattle.ls_files.specs.declared.shown.Sign.{Sign}
use Rattle.ls_files.specs.declared.shown.Sign.TheVariants as signs
use Rattle.ls_files.specs.Places.{EntryAsKeptGoneOrModified}
use Rattle.ls_files.specs.Choices.{lists_stages}

-- ---- names

-- "--full-name: When run from a subdirectory, the command usually outputs paths relative to the current directory. This option forces paths
-- to be output relative to the project top directory."
abbrev pub prefix_unless_full_names : Listing → List ℕ → List ℕ
prefix_unless_full_names l prefix = if l.full_names then [] else prefix

-- a path from the top as it reads from the directory `prefix`
abbrev pub relative_path_unless_full_names : Listing → List ℕ → List ℕ → List ℕ
relative_path_unless_full_names l prefix path = path_relative_to_prefix path (prefix_unless_full_names l prefix)

-- "-z: \0 line termination on output and do not quote filenames."
abbrev pub relative_path_line : Listing → List ℕ → List ℕ → List ℕ
relative_path_line l prefix path =
    if l.ends_in_nul then relative_path_unless_full_names l prefix path ++ 0 ∷ []
    else path_quoted_if_needed l.quote_path (relative_path_unless_full_names l prefix path) ++ 10 ∷ []

-- ---- tags

-- "-t: Show status tags together with filenames", and "-v: Similar to -t"
abbrev pub lists_tags : Listing → Bool
lists_tags l = l.tags || l.valid

-- `M` for an entry that is not merged, `S` for one that is skipped, `H` for any other
abbrev pub tag_letter_of_entry : IndexEntry → ℕ
tag_letter_of_entry e = if is_unmerged_entry e then 77 else if entry_has_flag skip_worktree_flag e then 83 else 72

-- "-v: .. use lowercase letters for files that are marked as assume unchanged"
abbrev pub is_tag_lowercase : Listing → IndexEntry → Bool
is_tag_lowercase l e = l.valid && entry_has_flag assume_valid_flag e

-- that letter, as `-v` has it
abbrev pub tag_letter_with_case : Listing → IndexEntry → ℕ
tag_letter_with_case l e = if is_tag_lowercase l e then tag_letter_of_entry e + 32 else tag_letter_of_entry e

-- a letter and a space, where they are asked for
abbrev pub tag_if_shown : Listing → ℕ → List ℕ
tag_if_shown l c = if lists_tags l then c ∷ 32 ∷ [] else []

-- ---- stages

-- the digit, in ASCII, of the last three bits of a number
abbrev pub last_octal_digit : ℕ → ℕ
last_octal_digit n = 48 + n % 8

-- six octal digits; the modes that an index file may hold have no more
abbrev pub mode_octal_digits : ℕ → List ℕ
mode_octal_digits n = last_octal_digit (n / 32768) ∷ last_octal_digit (n / 4096) ∷ last_octal_digit (n / 512) ∷ last_octal_digit (n / 64) ∷ last_octal_digit (n / 8) ∷ last_octal_digit n ∷ []

-- "-s: Show staged contents' mode bits, object name and stage number in the output."
abbrev pub mode_id_and_stage : IndexEntry → List ℕ
mode_id_and_stage e = mode_octal_digits (mode_bits e.mode) ++ 32 ∷ encode_lower e.id ++ 32 ∷ decimal e.stage ++ 9 ∷ []

-- the same with `-s` or `-u`, and no bytes without
abbrev pub mode_id_stage_if_listed : Listing → IndexEntry → List ℕ
mode_id_stage_if_listed l e = if lists_stages l then mode_id_and_stage e else []

-- ---- lines

-- "[<tag> ]<mode> <object> <stage> <file>", or the tag and the file
unfoldable pub line_of_index_entry : Listing → List ℕ → IndexEntry → List ℕ
line_of_index_entry l prefix e = tag_if_shown l (tag_letter_with_case l e) ++ mode_id_stage_if_listed l e ++ relative_path_line l prefix e.path

-- of what the index does not have: `?`, and the path
abbrev pub line_of_untracked_path : Listing → List ℕ → List ℕ → List ℕ
line_of_untracked_path l prefix path = tag_if_shown l 63 ++ relative_path_line l prefix path

-- of what lies in its way: `K`, and the path
abbrev pub line_of_killed_path : Listing → List ℕ → List ℕ → List ℕ
line_of_killed_path l prefix path = tag_if_shown l 75 ++ relative_path_line l prefix path

-- `R` for an entry of which nothing is there, `C` for one of which nothing is there or something else
abbrev pub tag_letter_of_kept_gone_modified : Sign → IndexEntry → ℕ
tag_letter_of_kept_gone_modified signs.Kept e = tag_letter_of_entry e
tag_letter_of_kept_gone_modified signs.Gone e = 82
tag_letter_of_kept_gone_modified signs.Modified e = 67

-- the letter of what is shown, with `-v` in lower case where it is assumed to be unchanged
abbrev pub tag_letter_of_shown : Listing → EntryAsKeptGoneOrModified → ℕ
tag_letter_of_shown l shown = if is_tag_lowercase l shown.entry then tag_letter_of_kept_gone_modified shown.sign shown.entry + 32 else tag_letter_of_kept_gone_modified shown.sign shown.entry

-- the line of an entry, by as what it is shown
unfoldable pub line_of_shown_entry : Listing → List ℕ → EntryAsKeptGoneOrModified → List ℕ
line_of_shown_entry l prefix shown = tag_if_shown l (tag_letter_of_shown l shown) ++ mode_id_stage_if_listed l shown.entry ++ relative_path_line l prefix shown.entry.path
