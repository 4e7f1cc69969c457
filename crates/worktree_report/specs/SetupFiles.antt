-- The lines of a setup that give blobs and name configurations.
use Rattle.std.specs.Prelude.{ℕ, List, [], ◌∷◌, codes, Option, Some, None, if◌then◌else◌}
use Rattle.std.specs.Str.{bytes_eq}
use Rattle.gitbase_core.specs.Objects.{ObjectsById, blob, objects_after_insert}
use Rattle.gitbase_core.specs.Path.{is_absolute}
use Rattle.git_config_lite.specs.declared.metadata.Source.{Source}
use Rattle.git_config_lite.specs.declared.metadata.Source.TheVariants.{GitInstallation, System, Git, User, Local, Env, Api}
use Rattle.worktree_report.specs.declared.setup.files.SetupBlob.{SetupBlob}
use Rattle.worktree_report.specs.ConfigFiles.{ConfigFile}
use Rattle.worktree_report.specs.Escapes.{unescape_path}
use Rattle.worktree_report.specs.SetupFields.{split_at_first_space}
use Rattle.worktree_report.specs.SetupIndex.{parse_id_word}
use Rattle.gitbase_core.specs.Steps.{◌>>=◌}

-- ---- blobs

-- `ID BYTES`, behind the keyword: an id as in the index, and escaped bytes
abbrev pub parse_blob_line : List ℕ → Option SetupBlob
parse_blob_line rest = do
  fields ← split_at_first_space rest
  id ← parse_id_word fields.word
  bytes ← unescape_path fields.rest
  Some (record { id = id; bytes = bytes })

-- some objects, and blobs that are put under their ids one behind another, each in the place of what was there
abbrev pub objects_with_blobs_added : ObjectsById → List SetupBlob → ObjectsById
objects_with_blobs_added objects [] = objects
objects_with_blobs_added objects (given ∷ more) = objects_with_blobs_added (objects_after_insert objects given.id (blob given.bytes)) more

-- ---- configurations

-- the word of what a configuration belongs to
abbrev pub parse_config_source : List ℕ → Option Source
parse_config_source word =
    if bytes_eq word (codes "installation") then Some GitInstallation
    else if bytes_eq word (codes "system") then Some System
    else if bytes_eq word (codes "git") then Some Git
    else if bytes_eq word (codes "user") then Some User
    else if bytes_eq word (codes "local") then Some Local
    else if bytes_eq word (codes "env") then Some Env
    else if bytes_eq word (codes "api") then Some Api
    else None

-- a configuration has to be named by an absolute path; a relative one is outside the grammar
abbrev config_file_if_absolute : Source → List ℕ → Option ConfigFile
config_file_if_absolute source path = if is_absolute path then Some (source, path) else None

-- `SOURCE PATH`, behind the keyword: that word, and an absolute path as it stands
abbrev pub parse_config_line : List ℕ → Option ConfigFile
parse_config_line rest = do
  fields ← split_at_first_space rest
  source ← parse_config_source fields.word
  config_file_if_absolute source fields.rest
