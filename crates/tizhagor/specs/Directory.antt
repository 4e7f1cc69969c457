-- The directory in which a command works.
use Rattle.std.specs.Prelude.{ℕ, List, true, Option, Some, None, Result, Ok, Err, if◌then◌else◌}
use Rattle.gitbase_core.specs.Path.{is_empty}
use Rattle.worktree_fs.specs.declared.answers.NodeKind.{NodeKind}
use Rattle.worktree_fs.specs.declared.answers.NodeKind.TheVariants as kinds
use Rattle.worktree_fs.specs.Answers.{kind_of_lookup}
use Rattle.worktree_fs.specs.Changes.{real_path}
use Rattle.worktree_fs.specs.Tree.{Names, look}
use Rattle.tizhagor.specs.declared.refusal.CommandRefusal.{CommandRefusal}
use Rattle.tizhagor.specs.declared.refusal.CommandRefusal.TheVariants as errors

-- by what is at its path without links
abbrev pub require_directory_kind : List ℕ → List ℕ → Option NodeKind → Result (List ℕ) CommandRefusal
require_directory_kind name real None = Err (errors.Absent name)
require_directory_kind name real (Some kinds.File) = Err (errors.NotADirectory name)
require_directory_kind name real (Some kinds.Symlink) = Err (errors.NotADirectory name)
require_directory_kind name real (Some kinds.Directory) = Ok real
require_directory_kind name real (Some kinds.Untrackable) = Err (errors.NotADirectory name)

-- the path without links, if a directory is there; refused by the name as it was written, also where that leads nowhere
abbrev pub require_directory_at_optional_path : Names → List ℕ → Option (List ℕ) → Result (List ℕ) CommandRefusal
require_directory_at_optional_path t name None = Err (errors.Absent name)
require_directory_at_optional_path t name (Some real) = require_directory_kind name real (kind_of_lookup (look t real true))

-- The directory that a name leads to from the current one, without links; an empty name leads nowhere else.
abbrev pub resolve_named_directory : Names → List ℕ → List ℕ → Result (List ℕ) CommandRefusal
resolve_named_directory t current name = if is_empty name then Ok current else require_directory_at_optional_path t name (real_path t name current)
