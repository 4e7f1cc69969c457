-- The lines of changes: git-diff-files(1), "RAW OUTPUT FORMAT".
use Rattle.std.specs.Prelude.{ℕ, ◌+◌, ◌/◌, ◌%◌, List, [], ◌∷◌, ◌++◌, Bool, true, false, replicate, if◌then◌else◌}
use Rattle.std.specs.List.{flat_map}
use Rattle.hex.specs.Hex.{encode_lower}
use Rattle.gitbase_core.specs.Entry.{mode_bits}
use Rattle.git_paths.specs.QuotedNames.{path_quoted_if_needed}
use Rattle.diff_files.specs.declared.change.PathChange.{PathChange}
use Rattle.diff_files.specs.declared.change.PathChange.TheVariants as changes
use Rattle.diff_files.specs.declared.comparison.Comparison.{Comparison}
use Rattle.diff_files.specs.declared.comparison.Form.{Form}
use Rattle.diff_files.specs.declared.comparison.Form.TheVariants as forms
use Rattle.diff_files.specs.Rows.{ChangeRow}

-- the last octal digit of a number
abbrev pub last_octal_digit : ℕ → ℕ
last_octal_digit number = 48 + number % 8

-- six octal digits
unfoldable pub six_octal_digits : ℕ → List ℕ
six_octal_digits n = last_octal_digit (n / 32768) ∷ last_octal_digit (n / 4096) ∷ last_octal_digit (n / 512) ∷ last_octal_digit (n / 64) ∷ last_octal_digit (n / 8) ∷ last_octal_digit n ∷ []

-- forty zeros: no object, or one that was not asked for
unfoldable pub zero_id_text : List ℕ
zero_id_text = replicate 40 48

-- "A: addition of a file", "D: deletion of a file", "M: modification of the contents or mode of a file", "T: change in the type of the
-- file", "U: file is unmerged"; what did not change is not told
abbrev pub status_letter_of_change : PathChange → ℕ
status_letter_of_change changes.Same = 88
status_letter_of_change changes.Deleted = 68
status_letter_of_change (changes.Added mode) = 65
status_letter_of_change (changes.Modified mode) = 77
status_letter_of_change (changes.TypeChanged mode) = 84
status_letter_of_change (changes.Unmerged mode) = 85

-- there is nothing that changed: "000000 if creation or unmerged"
abbrev pub is_added_or_unmerged : PathChange → Bool
is_added_or_unmerged changes.Same = false
is_added_or_unmerged changes.Deleted = false
is_added_or_unmerged (changes.Added mode) = true
is_added_or_unmerged (changes.Modified mode) = false
is_added_or_unmerged (changes.TypeChanged mode) = false
is_added_or_unmerged (changes.Unmerged mode) = true

-- "000000 if deletion"
abbrev pub worktree_mode_of_change : PathChange → ℕ
worktree_mode_of_change changes.Same = 0
worktree_mode_of_change changes.Deleted = 0
worktree_mode_of_change (changes.Added mode) = mode
worktree_mode_of_change (changes.Modified mode) = mode
worktree_mode_of_change (changes.TypeChanged mode) = mode
worktree_mode_of_change (changes.Unmerged mode) = mode

-- the mode in the index; none of what is added
abbrev pub index_mode_of_row : ChangeRow → ℕ
index_mode_of_row row = if is_added_or_unmerged row.change then 0 else mode_bits row.entry.mode

-- the id in the index; none of what is added
abbrev pub index_id_text : ChangeRow → List ℕ
index_id_text row = if is_added_or_unmerged row.change then zero_id_text else encode_lower row.entry.id

-- both modes, as a line begins with them
unfoldable pub both_modes_text : ChangeRow → List ℕ
both_modes_text row = 58 ∷ six_octal_digits (index_mode_of_row row) ++ 32 ∷ six_octal_digits (worktree_mode_of_change row.change) ++ 32 ∷ []

-- the id of the work tree is never asked for
unfoldable pub index_and_zero_ids_text : ChangeRow → List ℕ
index_and_zero_ids_text row = index_id_text row ++ 32 ∷ zero_id_text ++ 32 ∷ []

-- the modes and the ids
abbrev pub modes_and_ids_text : ChangeRow → List ℕ
modes_and_ids_text row = both_modes_text row ++ index_and_zero_ids_text row

-- what stands behind the letter: a tab, or with `-z` a NUL
abbrev pub separator_after_letter : Comparison → ℕ
separator_after_letter o = if o.ends_in_nul then 0 else 9

-- "-z: .. do not munge pathnames and use NULs as output field terminators"
abbrev pub path_with_terminator : Comparison → List ℕ → List ℕ
path_with_terminator o path = if o.ends_in_nul then path ++ 0 ∷ [] else path_quoted_if_needed o.quote_path path ++ 10 ∷ []

-- the letter of a change, and the gap before its path
abbrev pub letter_and_separator : Comparison → PathChange → List ℕ
letter_and_separator o change = status_letter_of_change change ∷ separator_after_letter o ∷ []

-- what stands before a path
abbrev pub fields_before_path : Form → Comparison → ChangeRow → List ℕ
fields_before_path forms.Raw o row = modes_and_ids_text row ++ letter_and_separator o row.change
fields_before_path forms.NameStatus o row = letter_and_separator o row.change
fields_before_path forms.NameOnly o row = []

-- the line of a change
unfoldable pub row_line : Comparison → ChangeRow → List ℕ
row_line o row = fields_before_path o.form o row ++ path_with_terminator o row.entry.path

-- the lines of all changes, in their order
abbrev pub rows_text : Comparison → List ChangeRow → List ℕ
rows_text o rows = flat_map (row_line o) rows
