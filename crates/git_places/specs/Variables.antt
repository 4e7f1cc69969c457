-- The surroundings, by the variables of the environment.
use Rattle.std.specs.Prelude.{ℕ, Bool, codes, bytes_eq, not, find, ◌||◌, ◌&&◌, List, Option, option_map}
use Rattle.git_places.specs.Surroundings.{Surroundings}

-- a variable as it is set; of two with one name the first counts
pub record EnvironmentVariable : Type 0 where
  pub name : List ℕ
  pub value : List ℕ

-- ---- variables that point git elsewhere

-- a variable that names a place of the repository
abbrev pub is_repository_place_variable : List ℕ → Bool
is_repository_place_variable name =
    bytes_eq name (codes "GIT_DIR") || (bytes_eq name (codes "GIT_WORK_TREE") || (bytes_eq name (codes "GIT_INDEX_FILE")
    || (bytes_eq name (codes "GIT_COMMON_DIR") || bytes_eq name (codes "GIT_OBJECT_DIRECTORY"))))

-- one that says how path specs are read
abbrev pub is_path_spec_variable : List ℕ → Bool
is_path_spec_variable name =
    bytes_eq name (codes "GIT_LITERAL_PATHSPECS") || (bytes_eq name (codes "GIT_GLOB_PATHSPECS")
    || (bytes_eq name (codes "GIT_NOGLOB_PATHSPECS") || bytes_eq name (codes "GIT_ICASE_PATHSPECS")))

-- one that has a configuration, or the number of those that others have
abbrev pub is_configuration_variable : EnvironmentVariable → Bool
is_configuration_variable v =
    bytes_eq v.name (codes "GIT_CONFIG") || (bytes_eq v.name (codes "GIT_CONFIG_PARAMETERS")
    || (bytes_eq v.name (codes "GIT_CONFIG_COUNT") && not (bytes_eq v.value (codes "0"))))

-- a variable that points git elsewhere; `GIT_CONFIG_COUNT` of 0 does not
abbrev pub is_place_path_spec_or_config_variable : EnvironmentVariable → Bool
is_place_path_spec_or_config_variable v = is_repository_place_variable v.name || (is_path_spec_variable v.name || is_configuration_variable v)

-- ---- all of it

-- the value of the first variable of a name
abbrev pub value_of_variable : List ℕ → List EnvironmentVariable → Option (List ℕ)
value_of_variable name variables = option_map (λ (v : EnvironmentVariable). v.value) (find (λ v. bytes_eq v.name name) variables)

-- the name of the first variable that points git elsewhere
abbrev pub name_of_first_redirecting_variable : List EnvironmentVariable → Option (List ℕ)
name_of_first_redirecting_variable variables = option_map (λ (v : EnvironmentVariable). v.name) (find is_place_path_spec_or_config_variable variables)

-- what git heeds besides the files, where it is started in a directory with these variables
abbrev pub surroundings_of_variables : List ℕ → List EnvironmentVariable → Surroundings
surroundings_of_variables directory variables =
    record {
      directory = directory;
      home = value_of_variable (codes "HOME") variables;
      config_home = value_of_variable (codes "XDG_CONFIG_HOME") variables;
      config_global = value_of_variable (codes "GIT_CONFIG_GLOBAL") variables;
      config_system = value_of_variable (codes "GIT_CONFIG_SYSTEM") variables;
      no_system = value_of_variable (codes "GIT_CONFIG_NOSYSTEM") variables;
      ceilings = value_of_variable (codes "GIT_CEILING_DIRECTORIES") variables;
      across = value_of_variable (codes "GIT_DISCOVERY_ACROSS_FILESYSTEM") variables;
      sudo_user = value_of_variable (codes "SUDO_UID") variables;
      elsewhere = name_of_first_redirecting_variable variables;
    }
