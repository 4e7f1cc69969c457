-- Whose repository is read: git-config(1), `safe.directory`.
use Rattle.std.specs.Prelude.{ℕ, Bool, true, false, ◌==◌, ◌&&◌, ◌||◌, codes, decimal, bytes_eq, List, [], ◌∷◌, Option, Some, None, option_map, Result, Ok, Err, if◌then◌else◌}
use Rattle.git_config_lite.specs.Lookups.{all_string_values}
use Rattle.git_config_lite.specs.Sections.{Section}
use Rattle.git_places.specs.GitDirectory.{dot_git_path}
use Rattle.gitbase_core.specs.Steps.{and_then}
use Rattle.git_places.specs.Surroundings.{Surroundings}
use Rattle.git_places.specs.Upward.{WorkTreeTop}
use Rattle.worktree_fs.specs.Owners.{OwnershipByPath}
use Rattle.worktree_fs.specs.Tree.{Names, is_empty}
use Rattle.worktree_fs.specs.declared.owners.ownership.Ownership.{Ownership}
use Rattle.git_config_files.specs.Stack.{Stack, include_context_of_repository, read_stack_of_files, answer_or_elsewhere_error}
use Rattle.git_config_files.specs.Targets.{path_of_config_value}
use Rattle.git_config_files.specs.Which.{config_files_outside_repository}
use Rattle.git_config_files.specs.declared.error.FilesError.{FilesError}
use Rattle.git_config_files.specs.declared.error.FilesError.TheVariants as errors

-- ---- what is the user's

-- the number of the owner, of the link itself or where it leads; none where nothing is there
abbrev pub owner_of_path : OwnershipByPath → List ℕ → Bool → Option ℕ
owner_of_path owned path follow = option_map (λ (found : Ownership). found.owner) (owned path follow)

-- the user is the owner of `/proc/self`
abbrev pub owner_of_current_process : OwnershipByPath → Option ℕ
owner_of_current_process owned = owner_of_path owned (codes "/proc/self") true

-- whether a number is the one that `SUDO_UID` names
abbrev pub is_owner_named_by_sudo_uid : Option (List ℕ) → ℕ → Bool
is_owner_named_by_sudo_uid None owner = false
is_owner_named_by_sudo_uid (Some text) owner = bytes_eq text (decimal owner)

-- the user's own, and for root what belongs to the one who called sudo
abbrev pub owner_counts_as_user : ℕ → Option (List ℕ) → ℕ → Bool
owner_counts_as_user user sudo owner = if owner == user then true else if user == 0 then is_owner_named_by_sudo_uid sudo owner else false

-- what is not there is nobody's, and where the user is not known nothing is his
abbrev pub is_owned_by_user_if_known : Option ℕ → Option (List ℕ) → Option ℕ → Bool
is_owned_by_user_if_known None sudo owner = false
is_owned_by_user_if_known (Some user) sudo None = false
is_owned_by_user_if_known (Some user) sudo (Some owner) = owner_counts_as_user user sudo owner

-- the owner is that of `/proc/self`, or for root the one that `SUDO_UID` names; what is not there is not the user's
abbrev pub is_path_owned_by_user : OwnershipByPath → Option (List ℕ) → List ℕ → Bool → Bool
is_path_owned_by_user owned sudo path follow = is_owned_by_user_if_known (owner_of_current_process owned) sudo (owner_of_path owned path follow)

-- a work tree is the user's where three nodes are: what stands at `.git`, the directory, and the git directory that a file there names
abbrev pub is_work_tree_owned_by_user : OwnershipByPath → Option (List ℕ) → WorkTreeTop → Bool
is_work_tree_owned_by_user owned sudo top =
    if is_path_owned_by_user owned sudo (dot_git_path top.directory) false
    then (if is_path_owned_by_user owned sudo top.directory false
    then (if bytes_eq top.git (dot_git_path top.directory) then true else is_path_owned_by_user owned sudo top.git true) else false) else false

-- ---- what is safe

-- whether a directory is safe after one more value: an empty one takes all back, `*` means each directory
abbrev pub is_safe_after_value : Option (List ℕ) → List ℕ → Bool → List ℕ → Result Bool FilesError
is_safe_after_value home path safe text =
    if is_empty text then Ok false
    else if bytes_eq text (codes "*") then Ok true
    else and_then (λ named. Ok (safe || bytes_eq named path)) (path_of_config_value None (codes "safe.directory") home text)

-- more values of `safe.directory`, in their order; the first that cannot be read is refused
abbrev pub is_safe_after_values : Option (List ℕ) → List ℕ → Bool → List (List ℕ) → Result Bool FilesError
is_safe_after_values home path safe [] = Ok safe
is_safe_after_values home path safe (text ∷ texts) = and_then (λ now. is_safe_after_values home path now texts) (is_safe_after_value home path safe text)

-- what all values of `safe.directory` say together of a directory; without a value it is not safe
abbrev pub is_safe_by_configuration : Option (List ℕ) → List ℕ → List Section → Result Bool FilesError
is_safe_by_configuration home path sections = is_safe_after_values home path false (all_string_values (codes "safe") None (codes "directory") sections)

-- what the configurations say that no repository has; no condition on a repository holds in them
abbrev pub read_stack_outside_repository : Names → Surroundings → Result Stack FilesError
read_stack_outside_repository t around = and_then (read_stack_of_files t (include_context_of_repository t None around.directory around.home)) (config_files_outside_repository around)

-- only the system's and the user's `safe.directory` count, so that no repository calls itself safe
abbrev pub is_safe_by_outer_configurations : Names → Surroundings → List ℕ → Result Bool FilesError
is_safe_by_outer_configurations t around path = and_then (λ (stack : Stack). is_safe_by_configuration around.home path stack.file.sections) (read_stack_outside_repository t around)

-- ---- both

-- a work tree that is another's and not safe is refused as `Foreign`, with its top
abbrev pub top_or_foreign_error : WorkTreeTop → Bool → Result WorkTreeTop FilesError
top_or_foreign_error top true = Ok top
top_or_foreign_error top false = Err (errors.Foreign top.directory)

-- a work tree passes whose top `safe.directory` names, as `*` does, whoever owns it
abbrev pub require_safe_top : Names → Surroundings → WorkTreeTop → Result WorkTreeTop FilesError
require_safe_top t around top = and_then (top_or_foreign_error top) (is_safe_by_outer_configurations t around top.directory)

-- a work tree that is the user's, or safe
abbrev pub require_owned_or_safe_top : Names → OwnershipByPath → Surroundings → WorkTreeTop → Result WorkTreeTop FilesError
require_owned_or_safe_top t owned around top = if is_work_tree_owned_by_user owned around.sudo_user top then Ok top else require_safe_top t around top

-- the same, unless a variable as `GIT_DIR` points git elsewhere: it is refused by its name, whoever owns the work tree
abbrev pub require_trusted_top : Names → OwnershipByPath → Surroundings → WorkTreeTop → Result WorkTreeTop FilesError
require_trusted_top t owned around top = answer_or_elsewhere_error around.elsewhere (require_owned_or_safe_top t owned around top)
