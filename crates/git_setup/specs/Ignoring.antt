-- Whether some submodule may be left out of a comparison: gitmodules(5), git-config(1).
use Rattle.std.specs.Prelude.{ℕ, List, Bool, true, false, not, ◌&&◌, ◌||◌, ◌==◌, codes, bytes_eq, Option, Some, None, Result, Ok, Err}
use Rattle.std.specs.List.{list_any}
use Rattle.gitbase_core.specs.declared.entry.IndexEntry.{IndexEntry}
use Rattle.git_config_lite.specs.Grammar.{parse_text_sections}
use Rattle.git_config_lite.specs.Lookups.{last_value_in_section}
use Rattle.git_config_lite.specs.Sections.{Section}
use Rattle.git_config_lite.specs.declared.metadata.Metadata.{Metadata}
use Rattle.git_config_lite.specs.declared.metadata.Source.TheVariants.{Modules}
use Rattle.worktree_report.specs.Loading.{gitmodules_path}
use Rattle.worktree_fs.specs.Tree.{Names, LookupResult, found, absent, too_many_links, file, link, directory, other, look}

-- by a value of "submodule.<name>.ignore" a submodule may be left out: "none", "untracked" and "dirty" say how far its repository is
-- looked into, and none is looked into here. "diff.ignoreSubmodules" is for `git diff` alone
abbrev pub ignore_value_may_skip_submodule : List ℕ → Bool
ignore_value_may_skip_submodule value = not (bytes_eq value (codes "none") || (bytes_eq value (codes "untracked") || bytes_eq value (codes "dirty")))

-- where `ignore` is not set, no submodule is left out
abbrev pub optional_ignore_value_may_skip : Option (List ℕ) → Bool
optional_ignore_value_may_skip None = false
optional_ignore_value_may_skip (Some value) = ignore_value_may_skip_submodule value

-- in `.gitmodules` or in a configuration; such a key of any section counts
abbrev pub section_may_skip_submodule : Section → Bool
section_may_skip_submodule section = optional_ignore_value_may_skip (last_value_in_section (codes "ignore") section)

-- where values of a `.gitmodules` come from; its path is not kept
abbrev pub metadata_of_gitmodules : Metadata
metadata_of_gitmodules = record { source = Modules; path = None }

-- a section may leave its submodule out; where the text has a fault of syntax, that cannot be told, and any may be
abbrev parsed_gitmodules_may_skip : Result (List Section) ℕ → Bool
parsed_gitmodules_may_skip (Ok sections) = list_any section_may_skip_submodule sections
parsed_gitmodules_may_skip (Err line) = true

-- what the bytes of a `.gitmodules` say
abbrev pub gitmodules_bytes_may_skip : List ℕ → Bool
gitmodules_bytes_may_skip bytes = parsed_gitmodules_may_skip (parse_text_sections metadata_of_gitmodules bytes)

-- where it is no file of the work tree, git asks the index and the last commit
abbrev pub gitmodules_file_may_skip : LookupResult → Bool
gitmodules_file_may_skip (found (file bytes)) = gitmodules_bytes_may_skip bytes
gitmodules_file_may_skip (found (link target)) = true
gitmodules_file_may_skip (found (directory names)) = true
gitmodules_file_may_skip (found other) = true
gitmodules_file_may_skip absent = true
gitmodules_file_may_skip too_many_links = true

-- `.gitmodules` is in conflict: the entry has a stage above 0
abbrev pub is_unmerged_gitmodules_entry : IndexEntry → Bool
is_unmerged_gitmodules_entry e = not (e.stage == 0) && bytes_eq e.path (codes ".gitmodules")

-- by a `.gitmodules` that is not merged no submodule is known, and none is left out
abbrev pub may_ignore_submodules : Names → List ℕ → List Section → List IndexEntry → Bool
may_ignore_submodules t root sections entries =
    not (list_any is_unmerged_gitmodules_entry entries) && (list_any section_may_skip_submodule sections || gitmodules_file_may_skip (look t (gitmodules_path root) false))
