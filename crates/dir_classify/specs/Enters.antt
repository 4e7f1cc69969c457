-- Which paths a walk looks into by default.
use Rattle.std.specs.Prelude.{Bool, true, false, ◌&&◌, ◌||◌, Option, Some, None}
use Rattle.dir_classify.specs.declared.entry.Kind.{Kind}
use Rattle.dir_classify.specs.declared.entry.Kind.TheVariants.{Untrackable, File, Symlink, Directory, Repository}
use Rattle.dir_classify.specs.declared.entry.PathspecMatch.{PathspecMatch}
use Rattle.dir_classify.specs.declared.entry.PathspecMatch.TheVariants.{Always, Excluded, Prefix, WildcardMatch, Verbatim}
use Rattle.dir_classify.specs.declared.entry.Status.{Status}
use Rattle.dir_classify.specs.declared.entry.Status.TheVariants.{Pruned, Tracked, Ignored, Untracked}
use Rattle.dir_classify.specs.declared.options.ForDeletionMode.{ForDeletionMode}
use Rattle.dir_classify.specs.Chosen.{finds_repositories_in_ignored}

-- the path was left out of the walk: neither tracked, untracked nor ignored
abbrev pub is_pruned_status : Status → Bool
is_pruned_status Pruned = true
is_pruned_status Tracked = false
is_pruned_status (Ignored kind) = false
is_pruned_status Untracked = false

-- an ignore rule excludes the path, be it expendable or precious
abbrev pub is_ignored_status : Status → Bool
is_ignored_status (Ignored kind) = true
is_ignored_status Pruned = false
is_ignored_status Tracked = false
is_ignored_status Untracked = false

-- a directory, and in a worktree root that is itself seen as a repository, a repository too
abbrev pub is_walkable_kind : Option Kind → Bool → Bool
is_walkable_kind (Some Directory) in_repository = true
is_walkable_kind (Some Repository) in_repository = in_repository
is_walkable_kind (Some Untrackable) in_repository = false
is_walkable_kind (Some File) in_repository = false
is_walkable_kind (Some Symlink) in_repository = false
is_walkable_kind None in_repository = false

-- a path spec names the path, or what lies beneath it
abbrev pub is_matched_by_specific_spec : Option PathspecMatch → Bool
is_matched_by_specific_spec (Some Prefix) = true
is_matched_by_specific_spec (Some WildcardMatch) = true
is_matched_by_specific_spec (Some Verbatim) = true
is_matched_by_specific_spec (Some Always) = false
is_matched_by_specific_spec (Some Excluded) = false
is_matched_by_specific_spec None = false

-- an ignored path is looked into where deletion looks for repositories in it, or where a spec names it
abbrev pub may_recurse_by_status : Status → Option PathspecMatch → Option ForDeletionMode → Bool
may_recurse_by_status Pruned found deletion = false
may_recurse_by_status Tracked found deletion = true
may_recurse_by_status Untracked found deletion = true
may_recurse_by_status (Ignored kind) found deletion = finds_repositories_in_ignored deletion || is_matched_by_specific_spec found

-- an open directory of a status that is looked into
abbrev pub can_recurse : Status → Option Kind → Option PathspecMatch → Option ForDeletionMode → Bool → Bool
can_recurse status kind found deletion in_repository = is_walkable_kind kind in_repository && may_recurse_by_status status found deletion
