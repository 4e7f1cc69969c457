-- Paths from the top as they read from a directory: git-ls-files(1), "`--full-name`: When run from a subdirectory, the command usually
-- outputs paths relative to the current directory."
use Rattle.std.specs.Prelude.{ℕ, List, [], ◌∷◌, ◌++◌, Option, Some, option_map, unwrap_or, codes, if◌then◌else◌}
use Rattle.std.specs.List.{flat_map}
use Rattle.std.specs.Str.{bytes_eq}
use Rattle.gitbase_core.specs.Path.{components, strip_directory_prefix}

-- what is left of a path from the directory of this name, where it is that directory or lies beneath it
abbrev pub strip_leading_directory_name : List ℕ → List ℕ → Option (List ℕ)
strip_leading_directory_name name path = if bytes_eq name path then Some [] else strip_directory_prefix name path

-- one `../` for each of some directories
abbrev pub dotdot_slash_per_component : List (List ℕ) → List ℕ
dotdot_slash_per_component names = flat_map (λ (name : List ℕ). codes "../") names

-- A path as it reads from the directory that some names lead down to: each name that leads to it is left out, and for each that is left
-- where one does not, it climbs.
unfoldable pub path_relative_to_components : List (List ℕ) → List ℕ → List ℕ
path_relative_to_components [] path = path
path_relative_to_components (name ∷ names) path =
    unwrap_or (option_map (λ (rest : List ℕ). path_relative_to_components names rest) (strip_leading_directory_name name path)) (dotdot_slash_per_component (name ∷ names) ++ path)

-- the directory itself is `./`
abbrev pub path_or_dot_slash_if_empty : List ℕ → List ℕ
path_or_dot_slash_if_empty [] = codes "./"
path_or_dot_slash_if_empty (b ∷ path) = b ∷ path

-- a path from the top as it reads from the directory `prefix`
abbrev pub path_relative_to_prefix : List ℕ → List ℕ → List ℕ
path_relative_to_prefix path prefix = path_or_dot_slash_if_empty (path_relative_to_components (components prefix) path)
