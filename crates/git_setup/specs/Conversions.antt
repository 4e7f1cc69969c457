-- Whether the bytes of some file may be converted on their way into the index: gitattributes(5).
use Rattle.std.specs.Prelude.{ℕ, List, [], ◌∷◌, Bool, true, false, not, ◌&&◌, ◌||◌, codes, bytes_eq, Option, Some, None, Result, Ok, unwrap_or, if◌then◌else◌}
use Rattle.std.specs.List.{list_any}
use Rattle.gitbase_core.specs.Path.{basename, components, path_joined_with_slash, parent}
use Rattle.gitbase_core.specs.Steps.{and_then}
use Rattle.gitbase_core.specs.declared.entry.IndexEntry.{IndexEntry}
use Rattle.git_config_lite.specs.Sections.{Section}
use Rattle.git_places.specs.Places.{RepositoryPlaces}
use Rattle.git_places.specs.Surroundings.{Surroundings}
use Rattle.worktree_fs.specs.Tree.{Names}
use Rattle.git_setup.specs.Present.{exists_in_work_tree}
use Rattle.git_setup.specs.Settings.{may_convert_by_config}
use Rattle.git_setup.specs.declared.error.GitRefusal.{GitRefusal}

-- ---- in the work tree and in the index

-- where a directory of the work tree has no file of attributes, that of the index counts
abbrev pub is_gitattributes_entry : IndexEntry → Bool
is_gitattributes_entry e = bytes_eq (basename e.path) (codes ".gitattributes")

-- a directory of the work tree has one
unfoldable pub has_gitattributes_file : Names → List ℕ → Bool
has_gitattributes_file t directory = exists_in_work_tree t directory (codes ".gitattributes")

-- a file of attributes is in the directory at which the names end that lead there from a directory, or in one on the way
abbrev pub has_gitattributes_along_path : Names → List ℕ → List (List ℕ) → Bool
has_gitattributes_along_path t directory [] = has_gitattributes_file t directory
has_gitattributes_along_path t directory (name ∷ names) =
    has_gitattributes_file t directory || has_gitattributes_along_path t (path_joined_with_slash directory name) names

-- the directory in which an entry stands
abbrev pub parent_directory_of_entry : IndexEntry → List ℕ
parent_directory_of_entry e = unwrap_or (parent e.path) []

-- one is in a directory that leads to an entry
unfoldable pub has_attributes_above_entry : Names → List ℕ → IndexEntry → Bool
has_attributes_above_entry t root e = has_gitattributes_along_path t root (components (parent_directory_of_entry e))

-- the same of an entry behind another one to which none leads: of entries in one directory the first is asked for
abbrev pub has_attributes_above_unless_same_parent : Names → List ℕ → IndexEntry → IndexEntry → Bool
has_attributes_above_unless_same_parent t root before e = not (bytes_eq (parent_directory_of_entry before) (parent_directory_of_entry e)) && has_attributes_above_entry t root e

-- the same of some entries behind one to which none leads: one look for each run of entries in one directory
abbrev pub has_attributes_above_following_entries : Names → List ℕ → IndexEntry → List IndexEntry → Bool
has_attributes_above_following_entries t root before [] = false
has_attributes_above_following_entries t root before (e ∷ entries) = has_attributes_above_unless_same_parent t root before e || has_attributes_above_following_entries t root e entries

-- ---- elsewhere

-- something is at the path from a directory; where the directory is not known, nothing is
abbrev pub exists_below_optional_directory : Names → Option (List ℕ) → List ℕ → Bool
exists_below_optional_directory t None path = false
exists_below_optional_directory t (Some directory) path = exists_in_work_tree t directory path

-- the place in the directory of configurations, and the one in the home
unfoldable pub has_attributes_in_config_home : Names → Option (List ℕ) → Bool
has_attributes_in_config_home t directory = exists_below_optional_directory t directory (codes "git/attributes")

-- `~/.config/git/attributes` is there, whether or not git would read it
unfoldable pub has_attributes_in_home : Names → Option (List ℕ) → Bool
has_attributes_in_home t directory = exists_below_optional_directory t directory (codes ".config/git/attributes")

-- "$XDG_CONFIG_HOME/git/attributes. If $XDG_CONFIG_HOME is either not set or empty, $HOME/.config/git/attributes is used": one at either
-- place counts
abbrev pub has_user_attributes_file : Names → Surroundings → Bool
has_user_attributes_file t around =
    has_attributes_in_config_home t around.config_home || has_attributes_in_home t around.home

-- that of the repository, and that of the system
unfoldable pub has_info_attributes : Names → List ℕ → Bool
has_info_attributes t common = exists_in_work_tree t common (codes "info/attributes")

-- `/etc/gitattributes`, which counts for all users, is there
unfoldable pub has_system_attributes : Names → Bool
has_system_attributes t = exists_in_work_tree t (codes "/etc") (codes "gitattributes")

-- these, and that of the user
abbrev pub has_attributes_outside_work_tree : Names → RepositoryPlaces → Surroundings → Bool
has_attributes_outside_work_tree t places around =
    has_info_attributes t places.common || (has_system_attributes t || has_user_attributes_file t around)

-- attributes may apply to some entry: a file of them is in the index, outside the work tree, or above an entry in it
abbrev pub has_attributes_anywhere : Names → RepositoryPlaces → Surroundings → List IndexEntry → Bool
has_attributes_anywhere t places around entries =
    list_any is_gitattributes_entry entries || (has_attributes_outside_work_tree t places around || list_any (has_attributes_above_entry t places.root) entries)

-- the configuration has line ends converted, or there are attributes anywhere
abbrev pub may_convert_file_contents : Names → RepositoryPlaces → Surroundings → List Section → List IndexEntry → Result Bool GitRefusal
may_convert_file_contents t places around sections entries =
    and_then (λ (converts : Bool). if converts then Ok true else Ok (has_attributes_anywhere t places around entries)) (may_convert_by_config sections)
