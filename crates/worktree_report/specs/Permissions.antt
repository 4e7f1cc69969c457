-- What may be read beside the worktree: files of configuration, files of attributes, and variables of the environment.
use Rattle.std.specs.Prelude.{Bool, true, false}
use Rattle.git_config_lite.specs.declared.metadata.Source.{Source}
use Rattle.git_config_lite.specs.declared.metadata.Source.TheVariants.{GitInstallation, System, Git, User, Local, Env, Api, Modules}
use Rattle.worktree_report.specs.declared.permissions.Permission.{Permission}
use Rattle.worktree_report.specs.declared.permissions.Permission.TheVariants.{Deny, Allow}
use Rattle.worktree_report.specs.declared.permissions.Config.{Config}
use Rattle.worktree_report.specs.declared.permissions.Attributes.{Attributes}
use Rattle.worktree_report.specs.declared.permissions.Environment.{Environment}
use Rattle.worktree_report.specs.declared.permissions.Permissions.{Permissions}

-- every configuration but that of git's installation, which git itself would have to be asked for
abbrev pub all_config : Config
all_config = record { git_binary = false; system = true; git = true; user = true; env = true; includes = true }

-- those of the repository alone
abbrev pub isolated_config : Config
isolated_config = record { git_binary = false; system = false; git = false; user = false; env = false; includes = false }

-- the same of files of attributes
abbrev pub all_attributes : Attributes
all_attributes = record { git_binary = false; system = true; git = true }

-- none of the installation's, the system's or the user's files of attributes
abbrev pub isolated_attributes : Attributes
isolated_attributes = record { git_binary = false; system = false; git = false }

-- each variable with one permission
abbrev environment_with : Permission → Environment
environment_with permission =
    record {
      xdg_config_home = permission;
      home = permission;
      http_transport = permission;
      identity = permission;
      objects = permission;
      git_prefix = permission;
      ssh_prefix = permission;
    }

-- every variable may be read, those of the user's directories, identity, transport and objects too
abbrev pub all_environment : Environment
all_environment = environment_with Allow

-- no variable may be read, not even `HOME`
abbrev pub isolated_environment : Environment
isolated_environment = environment_with Deny

-- what is allowed where the repository is trusted, or nothing asks for less
abbrev pub all_permissions : Permissions
all_permissions = record { env = all_environment; config = all_config; attributes = all_attributes }

-- no file of the user, the system or git's installation may be read, and no variable; nothing is included
abbrev pub isolated_permissions : Permissions
isolated_permissions = record { env = isolated_environment; config = isolated_config; attributes = isolated_attributes }

-- Whether a configuration may be read, by what it belongs to. That of the repository and what the calling program gives always
-- may, and `.gitmodules` is none.
abbrev pub admits : Permissions → Source → Bool
admits permissions GitInstallation = permissions.config.git_binary
admits permissions System = permissions.config.system
admits permissions Git = permissions.config.git
admits permissions User = permissions.config.user
admits permissions Local = true
admits permissions Env = permissions.config.env
admits permissions Api = true
admits permissions Modules = false
