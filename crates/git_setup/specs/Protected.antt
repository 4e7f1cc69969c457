-- What a deletion leaves alone as a work tree of its own: submodules, and git directories of this one.
use Rattle.std.specs.Prelude.{ℕ, List, [], Bool, filter, find, map, Option, Some, None, Result, Ok, Err, if◌then◌else◌}
use Rattle.std.specs.BTreeSet.{insert_key}
use Rattle.std.specs.Cmp.Lexicographic.{slice_cmp}
use Rattle.std.specs.Ordering.{nat_cmp}
use Rattle.gitbase_core.specs.Entry.{is_submodule_entry}
use Rattle.gitbase_core.specs.declared.entry.IndexEntry.{IndexEntry}
use Rattle.worktree_report.specs.SetupMeant.{insert_paths_in_order}
use Rattle.git_setup.specs.declared.own_directories.OwnDirectories.{OwnDirectories}
use Rattle.git_setup.specs.declared.error.GitRefusal.{GitRefusal}
use Rattle.git_setup.specs.declared.error.GitRefusal.TheVariants as errors

-- the paths, and those of the submodules among the entries, which a deletion spares too
abbrev pub paths_with_submodules : List (List ℕ) → List IndexEntry → List (List ℕ)
paths_with_submodules paths entries = insert_paths_in_order paths (map (λ (e : IndexEntry). e.path) (filter is_submodule_entry entries))

-- the paths with one more in its place by bytes; the same where there is none
abbrev pub paths_with_optional_path : List (List ℕ) → Option (List ℕ) → List (List ℕ)
paths_with_optional_path paths None = paths
paths_with_optional_path paths (Some path) = insert_key (slice_cmp nat_cmp) paths path

-- the paths of git directories, and of the submodules of an index, in the order of their bytes and each once
abbrev pub paths_of_git_dirs_and_submodules : OwnDirectories → List IndexEntry → List (List ℕ)
paths_of_git_dirs_and_submodules own entries = paths_with_submodules (paths_with_optional_path (paths_with_optional_path [] own.git) own.common) entries

-- the paths stand, unless case does not count and there is a submodule: then its path is refused
abbrev pub refuse_submodule_if_ignoring_case : Bool → Option IndexEntry → List (List ℕ) → Result (List (List ℕ)) GitRefusal
refuse_submodule_if_ignoring_case folds None paths = Ok paths
refuse_submodule_if_ignoring_case folds (Some e) paths = if folds then Err (errors.SubmoduleCase e.path) else Ok paths

-- where the options are for deletion; and where names compare without regard to case, a directory that is called as a submodule in other
-- letters would have to be left alone too: that is not looked for, and refused where there is a submodule
abbrev pub protected_paths_if_deleting : Bool → Bool → OwnDirectories → List IndexEntry → Result (List (List ℕ)) GitRefusal
protected_paths_if_deleting deletes folds own entries =
    if deletes then refuse_submodule_if_ignoring_case folds (find is_submodule_entry entries) (paths_of_git_dirs_and_submodules own entries) else Ok []
