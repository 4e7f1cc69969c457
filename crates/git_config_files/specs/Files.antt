-- What several configurations say together.
use Rattle.std.specs.Prelude.{ℕ, Bool, true, false, codes, List, [], ◌∷◌, ◌++◌, Option, Some, None, Result, Ok, Err, if◌then◌else◌}
use Rattle.git_config_lite.specs.declared.metadata.Source.{Source}
use Rattle.git_config_lite.specs.declared.metadata.Source.TheVariants as sources
use Rattle.git_config_lite.specs.Sections.{Section}
use Rattle.worktree_fs.specs.Tree.{Names}
use Rattle.git_config_files.specs.Conditions.{IncludeContext}
use Rattle.git_config_files.specs.Includes.{read_keys_expanding_includes_to_depth}
use Rattle.gitbase_core.specs.Steps.{and_then}
use Rattle.git_config_files.specs.declared.error.FilesError.{FilesError}

-- a file of the stack: what it belongs to, and its path
pub record ConfiguredFile : Type 0 where
  pub source : Source
  pub path : List ℕ

-- what files say, one behind another, each with what it includes in place: it and ten included files may lie in one another
abbrev pub keys_of_files_with_includes : Names → IncludeContext → List ConfiguredFile → Result (List Section) FilesError
keys_of_files_with_includes t known [] = Ok []
keys_of_files_with_includes t known (at ∷ files) =
    and_then (λ more. and_then (λ rest. Ok (more ++ rest)) (keys_of_files_with_includes t known files)) (read_keys_expanding_includes_to_depth t known at.source 11 at.path)

-- the same file by file, behind what is done
abbrev pub keys_of_files_behind_done : Names → IncludeContext → List Section → List ConfiguredFile → Result (List Section) FilesError
keys_of_files_behind_done t known done [] = Ok done
keys_of_files_behind_done t known done (at ∷ files) = and_then (λ more. keys_of_files_behind_done t known (done ++ more) files) (read_keys_expanding_includes_to_depth t known at.source 11 at.path)
