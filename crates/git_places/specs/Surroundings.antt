-- What git heeds besides the files.
use Rattle.std.specs.Prelude.{ℕ, List, Option}

-- the current directory and the variables of the environment; one that is not set is none
pub record Surroundings : Type 0 where
  pub directory : List ℕ  -- an absolute path without links
  pub home : Option (List ℕ)
  pub config_home : Option (List ℕ)  -- `XDG_CONFIG_HOME`
  pub config_global : Option (List ℕ)  -- `GIT_CONFIG_GLOBAL`
  pub config_system : Option (List ℕ)  -- `GIT_CONFIG_SYSTEM`
  pub no_system : Option (List ℕ)  -- `GIT_CONFIG_NOSYSTEM`
  pub ceilings : Option (List ℕ)  -- `GIT_CEILING_DIRECTORIES`
  pub across : Option (List ℕ)  -- `GIT_DISCOVERY_ACROSS_FILESYSTEM`
  pub sudo_user : Option (List ℕ)  -- `SUDO_UID`
  pub elsewhere : Option (List ℕ)  -- the name of the first variable that points git elsewhere
