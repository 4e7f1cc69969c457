-- The lines on standard error, for a person: what cannot be had, and where.
use Rattle.std.specs.Prelude.{ℕ, Option, Some, None, List, [], ◌∷◌, ◌++◌, if◌then◌else◌, codes, decimal}
use Rattle.gitbase_core.specs.Path.{is_empty}
use Rattle.worktree_fs.specs.Causes.{saturating_increment}
use Rattle.worktree_report.specs.Escapes.{path_escaped}

-- a text with a path in it, escaped
abbrev pub text_with_escaped_path : List ℕ → List ℕ → List ℕ → List ℕ
text_with_escaped_path before path after = before ++ path_escaped path ++ after

-- a text with a number in it
abbrev pub text_with_number : List ℕ → ℕ → List ℕ → List ℕ
text_with_number before n after = before ++ decimal n ++ after

-- the same of a place that is counted from 0, and is told from 1
abbrev pub text_with_number_from_one : List ℕ → ℕ → List ℕ → List ℕ
text_with_number_from_one before at after = text_with_number before (saturating_increment at) after

-- a line of a configuration outside its grammar, in git's words
abbrev pub bad_config_line : List ℕ → ℕ → List ℕ
bad_config_line path line = codes "fatal: bad config line " ++ decimal line ++ (codes " in file " ++ path_escaped path ++ 10 ∷ [])

-- the end of a line, with the file in which what it is about stands, where one is told
abbrev pub optional_in_file_ending : Option (List ℕ) → List ℕ
optional_in_file_ending None = 10 ∷ []
optional_in_file_ending (Some path) = codes " in file " ++ path_escaped path ++ 10 ∷ []

-- a text with another one in it, escaped, and the file in which that stands
abbrev pub text_with_optional_file : List ℕ → List ℕ → List ℕ → Option (List ℕ) → List ℕ
text_with_optional_file before text after path = text_with_escaped_path before text after ++ optional_in_file_ending path

-- the value of a key or of a variable cannot be read
abbrev pub bad_config_value_line : Option (List ℕ) → List ℕ → List ℕ
bad_config_value_line path key = text_with_optional_file (codes "fatal: bad config value for '") key (codes "'") path

-- a repository belongs to another user, in git's words; the path is not put into the call, which a person may copy into a shell
abbrev pub dubious_ownership_line : List ℕ → List ℕ
dubious_ownership_line path =
    text_with_escaped_path (codes "fatal: detected dubious ownership in repository at '") path (codes "'; to add an exception, call 'git config --global --add safe.directory DIRECTORY'\n")

-- a variable of the environment points git elsewhere
abbrev pub variable_not_heeded_line : List ℕ → List ℕ
variable_not_heeded_line name = text_with_escaped_path (codes "fatal: ") name (codes " is set, which is not heeded; unset it\n")

-- the worktree, the owners or the stats failed, and no path is named
abbrev pub fault_line_without_path : List ℕ
fault_line_without_path = codes "fatal: a file or directory could not be read\n"

-- the same, with the path that the worktree names as that of its first fault
abbrev pub fault_line_with_path : List ℕ → List ℕ
fault_line_with_path path =
    if is_empty path then fault_line_without_path
    else text_with_escaped_path (codes "fatal: a file or directory could not be read: '") path (codes "'\n")

-- the report's bytes were refused
abbrev pub output_refused_line : List ℕ
output_refused_line = codes "fatal: write failure on standard output\n"

-- memory was wanted, for an answer or for the line of another refusal; this line takes none to be made
abbrev pub out_of_memory_line : List ℕ
out_of_memory_line = codes "fatal: out of memory\n"
