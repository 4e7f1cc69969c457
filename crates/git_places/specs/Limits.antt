-- Where the search for a work tree ends on its way up: at the ceilings, and at the border of the file system.
use Rattle.std.specs.Prelude.{ℕ, Bool, true, false, codes, bytes_eq, ◌==◌, List, [], ◌∷◌, Option, Some, None, option_map, Result, Ok, Err, if◌then◌else◌}
use Rattle.std.specs.List.{list_any}
use Rattle.gitbase_core.specs.Path.{path_joined_with_slash}
use Rattle.worktree_fs.specs.Owners.{OwnershipByPath}
use Rattle.worktree_fs.specs.declared.owners.ownership.Ownership.{Ownership}
use Rattle.worktree_fs.specs.Tree.{Names}
use Rattle.git_places.specs.Ceilings.{parse_ceiling_directories}
use Rattle.gitbase_core.specs.Steps.{and_then}
use Rattle.git_places.specs.Surroundings.{Surroundings}
use Rattle.git_places.specs.Truths.{boolean_of_variable_or_false}
use Rattle.git_places.specs.declared.error.PlacesError.{PlacesError}
use Rattle.git_places.specs.declared.error.PlacesError.TheVariants as errors

-- the ceilings, and the file system that is not left, where none may be
pub record SearchLimits : Type 0 where
  pub ceilings : List (List ℕ)
  pub device : Option ℕ

-- the limits of a search: its ceilings, and the file system that it does not leave
abbrev pub search_limits : List (List ℕ) → Option ℕ → SearchLimits
search_limits ceilings device = record { ceilings = ceilings; device = device }

-- a path without a slash in front, as the absolute path that it is
abbrev pub path_with_leading_slash : List ℕ → List ℕ
path_with_leading_slash path = path_joined_with_slash (47 ∷ []) path

-- ---- where the search ends

-- whether a path, without a slash in front, is one of the ceilings
abbrev pub is_ceiling : List (List ℕ) → List ℕ → Bool
is_ceiling ceilings path = list_any (λ ceiling. bytes_eq ceiling path) ceilings

-- the file system of the directory that a path leads to, if one is there
abbrev pub device_at_path : OwnershipByPath → List ℕ → Option ℕ
device_at_path owned path = option_map (λ (found : Ownership). found.device) (owned path true)

-- whether a directory lies on the file system that is not left: what is not there lies on none
abbrev pub is_same_device : ℕ → Option ℕ → Bool
is_same_device device None = false
is_same_device device (Some found) = found == device

-- none where the search may leave any file system, or the directory lies on the one that it may not leave
abbrev pub border_error_if_other_device : OwnershipByPath → List ℕ → Option ℕ → Option PlacesError
border_error_if_other_device owned path None = None
border_error_if_other_device owned path (Some device) = if is_same_device device (device_at_path owned path) then None else Some (errors.Border path)

-- why the search does not go up into a directory, whose path has no slash in front; none where it does
abbrev pub error_where_search_stops : OwnershipByPath → SearchLimits → List ℕ → Option PlacesError
error_where_search_stops owned limits path =
    if is_ceiling limits.ceilings path then Some errors.NoRepository else border_error_if_other_device owned (path_with_leading_slash path) limits.device

-- the same as an answer: yes, or the refusal
abbrev pub true_unless_error : Option PlacesError → Result Bool PlacesError
true_unless_error None = Ok true
true_unless_error (Some e) = Err e

-- ---- the limits of a search

-- the ceilings by the value of `GIT_CEILING_DIRECTORIES`; where it is not set there are none
abbrev pub ceilings_of_variable : Names → Option (List ℕ) → List (List ℕ)
ceilings_of_variable t None = []
ceilings_of_variable t (Some text) = parse_ceiling_directories t text

-- the file system of the directory in which the search begins
abbrev pub device_or_no_directory_error : List ℕ → Option ℕ → Result (Option ℕ) PlacesError
device_or_no_directory_error path None = Err (errors.NoDirectory path)
device_or_no_directory_error path (Some device) = Ok (Some device)

-- where file systems may be left there is no limit, and else that of the directory at which the search begins
abbrev pub device_limit_of_directory : OwnershipByPath → List ℕ → Bool → Result (Option ℕ) PlacesError
device_limit_of_directory owned path true = Ok None
device_limit_of_directory owned path false = device_or_no_directory_error path (device_at_path owned path)

-- it is not left, unless `GIT_DISCOVERY_ACROSS_FILESYSTEM` says so
abbrev pub device_limit_of_surroundings : OwnershipByPath → Surroundings → Result (Option ℕ) PlacesError
device_limit_of_surroundings owned around =
    and_then (device_limit_of_directory owned around.directory) (boolean_of_variable_or_false (codes "GIT_DISCOVERY_ACROSS_FILESYSTEM") around.across)

-- the limits of the search by the environment; refused where the value of a variable is no boolean,
-- or nothing is at the directory whose file system is not left
abbrev pub search_limits_of_surroundings : Names → OwnershipByPath → Surroundings → Result SearchLimits PlacesError
search_limits_of_surroundings t owned around = and_then (λ device. Ok (search_limits (ceilings_of_variable t around.ceilings) device)) (device_limit_of_surroundings owned around)
