-- What all configurations of a work tree say.
use Rattle.std.specs.Prelude.{◌≡◌, ℕ, Bool, true, codes, bytes_eq, List, [], ◌∷◌, ◌++◌, Option, Some, None, option_and_then, unwrap_or, Result, Ok, Err, if◌then◌else◌}
use Rattle.std.specs.List.{list_any}
use Rattle.gitbase_core.specs.Among as among
use Rattle.git_config_lite.specs.declared.metadata.Source.{Source}
use Rattle.git_config_lite.specs.Sections.{Section, Configuration, metadata_of_joined_files}
use Rattle.git_places.specs.GitDirectory.{dot_git_path}
use Rattle.git_places.specs.Places.{RepositoryPlaces}
use Rattle.git_places.specs.Surroundings.{Surroundings}
use Rattle.worktree_fs.specs.Changes.{resolve_path_from_directory, real_path}
use Rattle.worktree_fs.specs.Repository.{text_after_prefix, bytes_of_file_lookup, path_unless_empty, without_trailing_line_ends}
use Rattle.worktree_fs.specs.Tree.{Names, is_empty, look}
use Rattle.git_config_files.specs.Conditions.{IncludeContext, Repository}
use Rattle.git_config_files.specs.Files.{ConfiguredFile, keys_of_files_with_includes}
use Rattle.gitbase_core.specs.Steps.{and_then}
use Rattle.git_config_files.specs.Which.{config_files_of_work_tree}
use Rattle.git_config_files.specs.declared.error.FilesError.{FilesError}
use Rattle.git_config_files.specs.declared.error.FilesError.TheVariants as errors

-- ---- by what includes are judged

-- a path without its links, taken from a directory; as it is where nothing is there
abbrev pub real_path_or_same : Names → List ℕ → List ℕ → List ℕ
real_path_or_same t path directory = unwrap_or (real_path t path directory) path

-- the branch that the text of a `HEAD` names, if it names one
abbrev pub branch_named_by_head_text : Option (List ℕ) → Option (List ℕ)
branch_named_by_head_text None = None
branch_named_by_head_text (Some text) = option_and_then path_unless_empty (text_after_prefix (codes "ref: refs/heads/") (without_trailing_line_ends text))

-- the branch that `HEAD` of this git directory names; none where it is detached, or no such file is there
abbrev pub checked_out_branch : Names → List ℕ → Option (List ℕ)
checked_out_branch t git = branch_named_by_head_text (bytes_of_file_lookup (look t (resolve_path_from_directory (codes "HEAD") git) true))

-- the git directory as git spells it: `.git` in the top of the work tree, and another one without its links
abbrev pub dot_git_of_worktree_or_real_git_directory : List ℕ → List ℕ → List ℕ → List ℕ
dot_git_of_worktree_or_real_git_directory root git real = if bytes_eq git (dot_git_path root) then git else real

-- the home as `gitdir:` patterns see it: links followed, and a relative one taken from `root`
abbrev pub home_without_links : Names → List ℕ → Option (List ℕ) → Option (List ℕ)
home_without_links t root None = None
home_without_links t root (Some home) = Some (if is_empty home then home else real_path_or_same t home root)

-- what `gitdir:` and `onbranch:` are judged by: both spellings of the git directory, and the branch
abbrev pub repository_for_conditions : Names → RepositoryPlaces → Repository
repository_for_conditions t layout =
    record {
      git = real_path_or_same t layout.git (47 ∷ []);
      spelled = dot_git_of_worktree_or_real_git_directory layout.root layout.git (real_path_or_same t layout.git (47 ∷ []));
      branch = checked_out_branch t layout.git;
    }

-- relative homes are taken from a directory; an empty one stays so
abbrev pub include_context_of_repository : Names → Option Repository → List ℕ → Option (List ℕ) → IncludeContext
include_context_of_repository t repository directory home = record { repository = repository; home = home; real_home = home_without_links t directory home }

-- conditions of includes are judged by this repository; a relative home is taken from the top of the work tree
abbrev pub include_context_of_work_tree : Names → RepositoryPlaces → Surroundings → IncludeContext
include_context_of_work_tree t layout around = include_context_of_repository t (Some (repository_for_conditions t layout)) layout.root around.home

-- ---- the files in which keys stand

-- a file has exactly this path, whatever it belongs to
abbrev pub is_path_of_some_file : List ℕ → List ConfiguredFile → Bool
is_path_of_some_file path files = list_any (λ at. bytes_eq path at.path) files

-- texts are the paths of files, in any order
abbrev pub ArePathsOfFiles : List (List ℕ) → List ConfiguredFile → Type 0
ArePathsOfFiles texts files = (path : List ℕ) → among.is_text_in_list path texts ≡ is_path_of_some_file path files

-- the path as it stands, and what is read there belongs to this source
abbrev pub file_at_path : Source → List ℕ → ConfiguredFile
file_at_path source path = record { source = source; path = path }

-- files, and another one behind them, unless it is among them
abbrev pub files_with_file_added_once : List ConfiguredFile → Source → Option (List ℕ) → List ConfiguredFile
files_with_file_added_once files source None = files
files_with_file_added_once files source (Some path) = if is_path_of_some_file path files then files else files ++ file_at_path source path ∷ []

-- files, and behind them those in which keys stand, in the order in which they first appear
abbrev pub files_in_order_of_appearance : List ConfiguredFile → List Section → List ConfiguredFile
files_in_order_of_appearance files [] = files
files_in_order_of_appearance files (key ∷ keys) = files_in_order_of_appearance (files_with_file_added_once files key.meta.source key.meta.path) keys

-- ---- all of it

-- what files of configuration say together, in the order in which git reads them, and where it stands
pub record Stack : Type 0 where
  pub file : Configuration  -- what all the files say, each key by itself, with what is included in place
  pub files : List ConfiguredFile  -- the files in which these keys stand, in the order in which they first appear

-- the keys as they stand, and each file that one of them comes from, once
abbrev pub stack_of_keys : List Section → Stack
stack_of_keys keys = record { file = record { meta = metadata_of_joined_files; sections = keys }; files = files_in_order_of_appearance [] keys }

-- the files one behind another, with what they include in place; one that is not there adds nothing
abbrev pub read_stack_of_files : Names → IncludeContext → List ConfiguredFile → Result Stack FilesError
read_stack_of_files t known files = and_then (λ keys. Ok (stack_of_keys keys)) (keys_of_files_with_includes t known files)

-- a variable that points git elsewhere is refused
abbrev pub answer_or_elsewhere_error : {A : Type 0} → Option (List ℕ) → Result A FilesError → Result A FilesError
answer_or_elsewhere_error None answer = answer
answer_or_elsewhere_error (Some name) answer = Err (errors.Elsewhere name)

-- all that git reads for this work tree; a variable as `GIT_DIR`, which points it elsewhere, is refused first
abbrev pub read_stack_of_work_tree : Names → RepositoryPlaces → Surroundings → Result Stack FilesError
read_stack_of_work_tree t layout around =
    answer_or_elsewhere_error around.elsewhere (and_then (read_stack_of_files t (include_context_of_work_tree t layout around)) (config_files_of_work_tree layout around))
