-- What stands at the path of an entry.
use Rattle.std.specs.Prelude.{◌≡◌, ℕ, List, [], ◌∷◌, Bool, true, false, ◌&&◌, codes, Option, Some, None, is_some, unwrap_or, if◌then◌else◌}
use Rattle.gitbase_core.specs.Path.{components, path_joined_with_slash, parent}
use Rattle.diff_files.specs.declared.stats.node_stat.NodeStat.{NodeStat}
use Rattle.diff_files.specs.Modes.{is_directory_mode}
use Rattle.diff_files.specs.Stats.{StatsByPath}

-- a directory; a link is none
abbrev pub is_directory_stat : Option NodeStat → Bool
is_directory_stat None = false
is_directory_stat (Some at) = is_directory_mode at.mode

-- directories alone lead along some names from a directory, the last one among them
abbrev pub leads_only_through_directories : StatsByPath → List ℕ → List (List ℕ) → Bool
leads_only_through_directories told directory [] = true
leads_only_through_directories told directory (name ∷ names) =
    is_directory_stat (told.stat_at (path_joined_with_slash directory name)) && leads_only_through_directories told (path_joined_with_slash directory name) names

-- the directory that holds a path
abbrev pub parent_directory_of_path : List ℕ → List ℕ
parent_directory_of_path path = unwrap_or (parent path) []

-- only directories lead to a path
abbrev pub has_only_directories_above : StatsByPath → List ℕ → List ℕ → Bool
has_only_directories_above told root path = leads_only_through_directories told root (components (parent_directory_of_path path))

-- what stands at a path below a root; behind a link nothing does
abbrev pub stat_unless_behind_link : StatsByPath → List ℕ → List ℕ → Option NodeStat
stat_unless_behind_link told root path = if has_only_directories_above told root path then told.stat_at (path_joined_with_slash root path) else None

-- a repository may stand in a directory: something is called `.git` there
abbrev pub has_node_named_dot_git : StatsByPath → List ℕ → Bool
has_node_named_dot_git told full = is_some (told.stat_at (path_joined_with_slash full (codes ".git")))

-- directories are known to lead along a path from a root
abbrev pub LeadsKnownPathThroughDirectories : Option StatsByPath → List ℕ → List ℕ → Type 0
LeadsKnownPathThroughDirectories told root known = (t : StatsByPath) → told ≡ Some t → leads_only_through_directories t root (components known) ≡ true
