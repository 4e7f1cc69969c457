-- Kinds of nodes.
use Rattle.std.specs.Prelude.{Bool, true, false, not, if◌then◌else◌, Option, Some, None}
use Rattle.worktree_fs.specs.declared.answers.NodeKind.{NodeKind}
use Rattle.worktree_fs.specs.declared.answers.NodeKind.TheVariants as nodes
use Rattle.gitbase_core.specs.declared.kinds.EntryKind.{EntryKind}
use Rattle.gitbase_core.specs.declared.kinds.EntryKind.TheVariants as entries
use Rattle.glob_rules.specs.declared.pathspec.Match.{Match}
use Rattle.glob_rules.specs.declared.pathspec.MatchKind.{MatchKind}
use Rattle.glob_rules.specs.declared.pathspec.MatchKind.TheVariants as specs
use Rattle.dir_classify.specs.declared.entry.Kind.{Kind}
use Rattle.dir_classify.specs.declared.entry.PathspecMatch.{PathspecMatch}
use Rattle.dir_classify.specs.declared.entry.Property.{Property}
use Rattle.dir_classify.specs.declared.entry.Property.TheVariants.{DotGit, EmptyDirectory, EmptyDirectoryAndCWD, TrackedExcluded}
use Rattle.dir_classify.specs.declared.entry.PathspecMatch.TheVariants.{Always, Excluded, Prefix, WildcardMatch, Verbatim}
use Rattle.dir_classify.specs.declared.entry.Kind.TheVariants.{Untrackable, File, Symlink, Directory, Repository}

-- whether a node of this kind holds names
abbrev pub is_directory_or_repository : Kind → Bool
is_directory_or_repository Directory = true
is_directory_or_repository Repository = true
is_directory_or_repository Untrackable = false
is_directory_or_repository File = false
is_directory_or_repository Symlink = false

-- the same of a kind that may be none: none then
abbrev pub is_dir : Option Kind → Option Bool
is_dir None = None
is_dir (Some kind) = Some (is_directory_or_repository kind)

-- whether a node that may be there holds names
abbrev pub is_some_directory_kind : Option Kind → Bool
is_some_directory_kind None = false
is_some_directory_kind (Some kind) = is_directory_or_repository kind

-- whether two such answers are the same, no answer being one too
abbrev pub equals_optional_boolean : Option Bool → Option Bool → Bool
equals_optional_boolean None None = true
equals_optional_boolean None (Some b) = false
equals_optional_boolean (Some a) None = false
equals_optional_boolean (Some true) (Some b) = b
equals_optional_boolean (Some false) (Some b) = not b

-- the kind of a node on disk, before anyone asks whether a directory is a repository
abbrev pub from_node_kind : NodeKind → Kind
from_node_kind nodes.File = File
from_node_kind nodes.Symlink = Symlink
from_node_kind nodes.Directory = Directory
from_node_kind nodes.Untrackable = Untrackable

-- the kind of an entry in the index
abbrev pub from_index_entry_kind : EntryKind → Kind
from_index_entry_kind entries.Repository = Repository
from_index_entry_kind entries.File = File
from_index_entry_kind entries.Symlink = Symlink
from_index_entry_kind entries.Directory = Directory

-- ---- one kind

-- a directory not seen as a repository; a kind that is not known is none
abbrev pub is_plain_directory_kind : Option Kind → Bool
is_plain_directory_kind (Some Directory) = true
is_plain_directory_kind (Some Repository) = false
is_plain_directory_kind (Some Untrackable) = false
is_plain_directory_kind (Some File) = false
is_plain_directory_kind (Some Symlink) = false
is_plain_directory_kind None = false

-- a repository of its own, as a submodule is; a kind that is not known is none
abbrev pub is_repository_kind : Option Kind → Bool
is_repository_kind (Some Repository) = true
is_repository_kind (Some Directory) = false
is_repository_kind (Some Untrackable) = false
is_repository_kind (Some File) = false
is_repository_kind (Some Symlink) = false
is_repository_kind None = false

-- a link, whatever it leads to; a kind that is not known is none
abbrev pub is_symlink_kind : Option Kind → Bool
is_symlink_kind (Some Symlink) = true
is_symlink_kind (Some Directory) = false
is_symlink_kind (Some Repository) = false
is_symlink_kind (Some Untrackable) = false
is_symlink_kind (Some File) = false
is_symlink_kind None = false

-- ---- what sets a path apart

-- it is named `.git`
abbrev pub is_dot_git_property : Option Property → Bool
is_dot_git_property (Some DotGit) = true
is_dot_git_property (Some EmptyDirectory) = false
is_dot_git_property (Some EmptyDirectoryAndCWD) = false
is_dot_git_property (Some TrackedExcluded) = false
is_dot_git_property None = false

-- ---- how a path spec matches

-- how close a spec that does not exclude matches, from `Always` to `Verbatim`; never `Excluded`
abbrev pub from_match_kind : MatchKind → PathspecMatch
from_match_kind specs.Always = Always
from_match_kind specs.Prefix = Prefix
from_match_kind specs.WildcardMatch = WildcardMatch
from_match_kind specs.Verbatim = Verbatim

-- an excluding spec matches as such
abbrev pub pathspec_match_from_match : Match → PathspecMatch
pathspec_match_from_match found = if found.excluded then Excluded else from_match_kind found.kind
