-- The class of a path: what a walk says of it.
use Rattle.std.specs.Prelude.{ℕ, Bool, true, false, not, ◌&&◌, ◌||◌, if◌then◌else◌, List, [], ◌∷◌, Option, Some, None, option_map, is_some, is_none}
use Rattle.std.specs.List.{list_any}
use Rattle.std.specs.Str.{bytes_eq}
use Rattle.gitbase_core.specs.Path.{is_empty, basename, components, is_beneath_directory}
use Rattle.gitbase_core.specs.Text.{eq_ignore_case}
use Rattle.glob_rules.specs.declared.ignore.Kind.{Kind as IgnoredAs}
use Rattle.glob_rules.specs.declared.ignore.Origin.{Origin}
use Rattle.dir_classify.specs.declared.entry.Kind.{Kind}
use Rattle.dir_classify.specs.declared.entry.Kind.TheVariants.{Repository}
use Rattle.dir_classify.specs.declared.entry.Property.TheVariants.{DotGit}
use Rattle.dir_classify.specs.declared.entry.Status.{Status}
use Rattle.dir_classify.specs.declared.entry.Status.TheVariants.{Pruned, Tracked, Ignored, Untracked}
use Rattle.dir_classify.specs.declared.entry.PathspecMatch.{PathspecMatch}
use Rattle.dir_classify.specs.declared.entry.PathspecMatch.TheVariants.{Prefix}
use Rattle.dir_classify.specs.declared.classify.Outcome.{Outcome}
use Rattle.dir_classify.specs.declared.index.InIndex.{InIndex}
use Rattle.dir_classify.specs.Chosen.{WalkOptions, finds_repositories_in_ignored, finds_bare_repositories_in_ignored, deletion_skips_search_of_ignored_directories}
use Rattle.dir_classify.specs.declared.excludes.Ruling.{Ruling}
use Rattle.dir_classify.specs.Evidence.{PathEvidence, ruling_without_rule, RepositoryTestResult, is_foreign_repository}
use Rattle.std.specs.Option.{option_or}
use Rattle.dir_classify.specs.Kinds.{is_dir, is_some_directory_kind, equals_optional_boolean, is_plain_directory_kind, is_repository_kind, is_symlink_kind, is_dot_git_property, pathspec_match_from_match}
use Rattle.dir_classify.specs.Enters.{is_ignored_status, can_recurse}

-- ---- what is asked of a path

-- `.git`
abbrev pub dot_git_bytes : List ℕ
dot_git_bytes = 46 ∷ 103 ∷ 105 ∷ 116 ∷ []

-- the last component of the path is `.git`, in whatever case of letters where case makes no difference
abbrev pub is_path_named_dot_git : Bool → List ℕ → Bool
is_path_named_dot_git ignore_case path = if ignore_case then eq_ignore_case (basename path) dot_git_bytes else bytes_eq (basename path) dot_git_bytes

-- the path has two components or more
abbrev pub has_two_elements_or_more : List (List ℕ) → Bool
has_two_elements_or_more [] = false
has_two_elements_or_more (name ∷ []) = false
has_two_elements_or_more (name ∷ other ∷ names) = true

-- it lies in a directory below the worktree root: neither the root nor a name at the top
abbrev pub has_several_components : List ℕ → Bool
has_several_components path = has_two_elements_or_more (components path)

-- the path is one of the worktree set
abbrev pub is_in_worktree_set : WalkOptions → List ℕ → Bool
is_in_worktree_set o path = list_any (bytes_eq path) o.worktrees

-- one of the worktree set lies beneath the path
abbrev pub has_worktree_beneath : WalkOptions → List ℕ → Bool
has_worktree_beneath o path = list_any (is_beneath_directory path) o.worktrees

-- how the path specs match it, an excluding spec as such
abbrev pub pathspec_match_of_path : PathEvidence → List ℕ → Option Kind → Option PathspecMatch
pathspec_match_of_path ev path kind = option_map pathspec_match_from_match (ev.matched path (is_dir kind))

-- A kind, or that of a repository of its own: where repositories are not to be walked into, a path is one if `.git` in it
-- leads to one, and where it is looked at hard, if it leads to one itself.
abbrev pub kind_after_repository_test : Bool → Bool → Option Kind → RepositoryTestResult → RepositoryTestResult → Option Kind
kind_after_repository_test recurses hard kind at below = if not recurses && ((hard && is_foreign_repository at) || is_foreign_repository below) then Some Repository else kind

-- `Repository` where one is found at the path or in its `.git`, else the kind given;
-- only where `hard` is a bare one at the path looked for, and where repositories are walked into none is
abbrev pub upgrade : WalkOptions → PathEvidence → Option Kind → List ℕ → Bool → Option Kind
upgrade o ev kind path hard = kind_after_repository_test o.recurse_repositories hard kind (ev.repository_at path) (ev.repository_in path)

-- The kind of a path: that of an up-to-date entry, else the one that the caller knows, else that of the node there
-- where the disk may be asked.
abbrev pub kind_by_index_caller_or_disk : PathEvidence → List ℕ → Option Kind → Option Kind → Option Kind
kind_by_index_caller_or_disk ev path known on_disk = option_or (ev.in_index path).up_to_date (option_or known on_disk)

-- left out by a sparse checkout, or where index and disk agree on whether the path holds names; nothing in both is
-- agreement too
abbrev pub index_and_disk_agree_on_directory : InIndex → Option Kind → Bool
index_and_disk_agree_on_directory entry kind = is_some entry.sparse || equals_optional_boolean (is_dir entry.kind) (is_dir kind)

-- as what the rules are asked about a path: a link may count as what it leads to
abbrev pub is_dir_following_symlink : WalkOptions → Option Kind → Option Kind → Option Bool
is_dir_following_symlink o kind followed = if o.symlinks_to_directories_are_ignored_like_directories && is_symlink_kind kind then is_dir followed else is_dir kind

-- whether rules that end in `/` may match the path: unknown without a kind; of a link, by what it leads to if asked
abbrev pub is_dir_for_ignore_rules : WalkOptions → PathEvidence → List ℕ → Option Kind → Option Bool
is_dir_for_ignore_rules o ev path kind = is_dir_following_symlink o kind (ev.followed path)

-- what the rules say of a path; none are asked for the worktree root
abbrev pub ruling_unless_worktree_root : WalkOptions → PathEvidence → List ℕ → Option Kind → Ruling
ruling_unless_worktree_root o ev path kind = if ev.is_ruled && not (is_empty path) then ev.ruling path (is_dir_for_ignore_rules o ev path kind) else ruling_without_rule

-- ---- the cases

-- nothing is said of a path but its status
abbrev pub outcome_with_status_only : Status → Outcome
outcome_with_status_only status = record { status = status; property = None; disk_kind = None; index_kind = None; pathspec_match = None; origin = None }

-- with what the rules said, where they are what decided
abbrev pub origin_if_ignored : Option IgnoredAs → Option Origin → Option Origin
origin_if_ignored None origin = None
origin_if_ignored (Some kind) origin = origin

-- excluded, or another status
abbrev pub ignored_or_status : Status → Option IgnoredAs → Status
ignored_or_status status None = status
ignored_or_status status (Some kind) = Ignored kind

-- A path named `.git` is pruned, whatever the index has there. In deletion, below a directory, it is ignored where the rules
-- say so.
abbrev pub ignore_kind_of_dot_git : WalkOptions → List ℕ → Ruling → Option IgnoredAs
ignore_kind_of_dot_git o path ruling = if is_some o.for_deletion && has_several_components path then ruling.kind else None

-- its kind is the one that the caller knows, and it has no index kind; a rule is named only where it makes the path ignored
abbrev pub outcome_of_dot_git : WalkOptions → PathEvidence → List ℕ → Option Kind → Ruling → Outcome
outcome_of_dot_git o ev path known ruling =
    record (outcome_with_status_only (ignored_or_status Pruned (ignore_kind_of_dot_git o path ruling))) {
      property = Some DotGit;
      disk_kind = known;
      pathspec_match = pathspec_match_of_path ev path known;
      origin = origin_if_ignored (ignore_kind_of_dot_git o path ruling) ruling.origin;
    }

-- no path spec can match: pruned
abbrev pub outcome_without_possible_match : Option Kind → Outcome
outcome_without_possible_match known = record (outcome_with_status_only Pruned) { disk_kind = known }

-- one of the worktree set: tracked, as a repository
abbrev pub outcome_of_linked_worktree : PathEvidence → List ℕ → Option Kind → Outcome
outcome_of_linked_worktree ev path kind = record (outcome_with_status_only Tracked) { disk_kind = Some Repository; pathspec_match = pathspec_match_of_path ev path kind }

-- the index has the path in the shape that it has on disk: tracked, or pruned where a sparse checkout leaves it out
abbrev pub outcome_of_index_entry : InIndex → Option Kind → Option PathspecMatch → Outcome
outcome_of_index_entry entry kind found =
    record (outcome_with_status_only (if is_some entry.sparse then Pruned else Tracked)) {
      property = entry.sparse;
      disk_kind = kind;
      index_kind = entry.kind;
      pathspec_match = found;
    }

-- a repository is looked for at a directory that is a submodule in the index
abbrev pub is_directory_of_indexed_submodule : InIndex → Option Kind → Bool
is_directory_of_indexed_submodule entry kind = is_plain_directory_kind kind && is_repository_kind entry.kind

-- a submodule's directory is a `Repository` if `.git` in it leads to another repository than the own; any other kind stays;
-- where repositories are walked into, none is looked for
abbrev pub disk_kind_of_indexed_path : WalkOptions → InIndex → Option Kind → RepositoryTestResult → RepositoryTestResult → Option Kind
disk_kind_of_indexed_path o entry kind at below =
    if is_directory_of_indexed_submodule entry kind then kind_after_repository_test o.recurse_repositories false kind at below else kind

-- tracked, or pruned where a sparse checkout leaves it out; no ignore rule is asked
abbrev pub outcome_of_indexed_path : WalkOptions → PathEvidence → List ℕ → Option Kind → Outcome
outcome_of_indexed_path o ev path kind =
    outcome_of_index_entry (ev.in_index path) (disk_kind_of_indexed_path o (ev.in_index path) kind (ev.repository_at path) (ev.repository_in path)) (pathspec_match_of_path ev path kind)

-- the rules exclude the path
abbrev pub outcome_with_ignored_status : IgnoredAs → InIndex → Option Kind → Option PathspecMatch → Outcome
outcome_with_ignored_status excluded entry kind found = record (outcome_with_status_only (Ignored excluded)) { disk_kind = kind; index_kind = entry.kind; pathspec_match = found }

-- where ignored paths are shown, deletion that looks for repositories looks at it
abbrev pub deletion_finds_repositories_in_ignored : WalkOptions → Bool
deletion_finds_repositories_in_ignored o = is_some o.emit_ignored && finds_repositories_in_ignored o.for_deletion

-- a `Repository` where deletion looks for one and finds it, bare ones in the mode that asks for them; else the kind given;
-- where repositories are walked into, none is looked for
abbrev pub disk_kind_of_ignored_path : WalkOptions → Option Kind → RepositoryTestResult → RepositoryTestResult → Option Kind
disk_kind_of_ignored_path o kind at below = if deletion_finds_repositories_in_ignored o then kind_after_repository_test o.recurse_repositories (finds_bare_repositories_in_ignored o.for_deletion) kind at below else kind

-- its match: a directory that no spec names is matched as one above what is looked for, and in deletion one above a
-- path of the worktree set
abbrev pub may_lie_above_match_or_worktree : WalkOptions → List ℕ → Option PathspecMatch → Bool
may_lie_above_match_or_worktree o path found = is_none found || (is_some o.for_deletion && has_worktree_beneath o path)

-- where ignored paths are emitted, such a directory matches as `Prefix`; else the match stays as the specs gave it
abbrev pub pathspec_match_of_ignored_path : WalkOptions → List ℕ → Option Kind → Option PathspecMatch → Option PathspecMatch
pathspec_match_of_ignored_path o path kind found = if is_some o.emit_ignored && is_plain_directory_kind kind && may_lie_above_match_or_worktree o path found then Some Prefix else found

-- the class with the kind that it is seen to have
abbrev pub outcome_of_ignored_kind : WalkOptions → List ℕ → IgnoredAs → InIndex → Option PathspecMatch → Option Kind → Outcome
outcome_of_ignored_kind o path excluded entry found seen = outcome_with_ignored_status excluded entry seen (pathspec_match_of_ignored_path o path seen found)

-- a repository may be looked for first: only whether the match becomes `Prefix` is judged by the kind that the look leaves
abbrev pub outcome_of_ignored_path : WalkOptions → PathEvidence → List ℕ → Option Kind → IgnoredAs → Outcome
outcome_of_ignored_path o ev path kind excluded =
    outcome_of_ignored_kind o path excluded (ev.in_index path) (pathspec_match_of_path ev path kind) (disk_kind_of_ignored_path o kind (ev.repository_at path) (ev.repository_in path))

-- neither the index nor the rules have the path
abbrev pub outcome_of_unignored_path : Status → InIndex → Option Kind → Option PathspecMatch → Outcome
outcome_of_unignored_path status entry kind found = record (outcome_with_status_only status) { disk_kind = kind; index_kind = entry.kind; pathspec_match = found }

-- and looked at
abbrev pub outcome_of_untracked_directory : WalkOptions → PathEvidence → List ℕ → Option Kind → Outcome
outcome_of_untracked_directory o ev path kind = outcome_of_unignored_path Untracked (ev.in_index path) (upgrade o ev kind path o.classify_untracked_bare_repositories) (pathspec_match_of_path ev path kind)

-- anything else is untracked where a spec matches it, and pruned where none does
abbrev pub outcome_of_untracked_non_directory : PathEvidence → List ℕ → Option Kind → Outcome
outcome_of_untracked_non_directory ev path kind = outcome_of_unignored_path (if is_none (pathspec_match_of_path ev path kind) then Pruned else Untracked) (ev.in_index path) kind (pathspec_match_of_path ev path kind)

-- the index does not have the path: by what the rules say
abbrev pub outcome_by_ignore_kind : WalkOptions → PathEvidence → List ℕ → Option Kind → Option IgnoredAs → Outcome
outcome_by_ignore_kind o ev path kind None = if is_some_directory_kind kind then outcome_of_untracked_directory o ev path kind else outcome_of_untracked_non_directory ev path kind
outcome_by_ignore_kind o ev path kind (Some excluded) = outcome_of_ignored_path o ev path kind excluded

-- ignored, untracked or pruned; the deciding rule is named in each case, a negative one too
abbrev pub outcome_of_unindexed_path : WalkOptions → PathEvidence → List ℕ → Option Kind → Ruling → Outcome
outcome_of_unindexed_path o ev path kind ruling = record (outcome_by_ignore_kind o ev path kind ruling.kind) { origin = ruling.origin }

-- the class of a path with its kind settled
abbrev pub outcome_of_path_of_known_kind : WalkOptions → PathEvidence → List ℕ → Option Kind → Outcome
outcome_of_path_of_known_kind o ev path kind =
    if is_in_worktree_set o path then outcome_of_linked_worktree ev path kind
    else if index_and_disk_agree_on_directory (ev.in_index path) kind then outcome_of_indexed_path o ev path kind
    else outcome_of_unindexed_path o ev path kind (ruling_unless_worktree_root o ev path kind)

-- what the rules say of a path named `.git`, which are asked in deletion alone
abbrev pub ruling_of_dot_git : WalkOptions → PathEvidence → List ℕ → Option Kind → Ruling
ruling_of_dot_git o ev path known = if is_some o.for_deletion && ev.is_ruled then ev.ruling path (is_dir known) else ruling_without_rule

-- The class of a path, by the first case that fits. `known` is the kind that the caller knows, and `kind_on_disk_if_asked` that of
-- the node there where the disk may be asked.
unfoldable pub class : WalkOptions → PathEvidence → List ℕ → Option Kind → Option Kind → Outcome
class o ev path known on_disk =
    if is_path_named_dot_git o.ignore_case path then outcome_of_dot_git o ev path known (ruling_of_dot_git o ev path known)
    else if not (ev.can_match path (is_dir known)) then outcome_without_possible_match known
    else outcome_of_path_of_known_kind o ev path (kind_by_index_caller_or_disk ev path known on_disk)

-- ---- what it asks

-- with its kind settled: it is not of the worktree set, the index does not have it, and it is not the worktree root
abbrev pub asks_rules_with_known_kind : WalkOptions → PathEvidence → List ℕ → Option Kind → Bool
asks_rules_with_known_kind o ev path kind = not (is_in_worktree_set o path) && not (index_and_disk_agree_on_directory (ev.in_index path) kind) && ev.is_ruled && not (is_empty path)

-- The class of a path asks the ignore rules.
unfoldable pub asks_ignore_rules : WalkOptions → PathEvidence → List ℕ → Option Kind → Option Kind → Bool
asks_ignore_rules o ev path known on_disk =
    if is_path_named_dot_git o.ignore_case path then is_some o.for_deletion && ev.is_ruled
    else ev.can_match path (is_dir known) && asks_rules_with_known_kind o ev path (kind_by_index_caller_or_disk ev path known on_disk)

-- With its kind settled, a repository is looked for at a path that the index does not have: at an ignored one where deletion looks
-- for repositories there, and at any directory that the rules do not exclude.
abbrev pub tests_unindexed_for_repository : WalkOptions → Option Kind → Option IgnoredAs → Bool
tests_unindexed_for_repository o kind None = is_some_directory_kind kind
tests_unindexed_for_repository o kind (Some excluded) = deletion_finds_repositories_in_ignored o

-- where repositories are walked into, none is looked for
abbrev pub skips_repository_test : WalkOptions → Bool → Bool
skips_repository_test o seeks = o.recurse_repositories || not seeks

-- With its kind settled, a repository is looked for at a path, by the index or by what the rules say of it; and never at one of
-- the worktree set.
abbrev pub tests_for_repository_with_known_kind : WalkOptions → PathEvidence → List ℕ → Option Kind → Bool
tests_for_repository_with_known_kind o ev path kind =
    if is_in_worktree_set o path then false
    else if index_and_disk_agree_on_directory (ev.in_index path) kind then not (skips_repository_test o (is_directory_of_indexed_submodule (ev.in_index path) kind))
    else not (skips_repository_test o (tests_unindexed_for_repository o kind (ruling_unless_worktree_root o ev path kind).kind))

-- The class of a path looks for a repository there.
unfoldable pub tests_path_for_repository : WalkOptions → PathEvidence → List ℕ → Option Kind → Option Kind → Bool
tests_path_for_repository o ev path known on_disk =
    if is_path_named_dot_git o.ignore_case path then false
    else if not (ev.can_match path (is_dir known)) then false
    else tests_for_repository_with_known_kind o ev path (kind_by_index_caller_or_disk ev path known on_disk)

-- What a class itself tells of that: a repository may have been looked for at a directory that is a submodule in the index, at an
-- ignored path not named `.git` where deletion looks for repositories there, and at an untracked directory.
abbrev pub may_have_tested_with_status : WalkOptions → Outcome → Status → Bool
may_have_tested_with_status o c Pruned = is_some_directory_kind c.disk_kind && is_repository_kind c.index_kind
may_have_tested_with_status o c Tracked = is_some_directory_kind c.disk_kind && is_repository_kind c.index_kind
may_have_tested_with_status o c (Ignored kind) = deletion_finds_repositories_in_ignored o && not (is_dot_git_property c.property)
may_have_tested_with_status o c Untracked = is_some_directory_kind c.disk_kind

-- where repositories are walked into, none was
abbrev pub may_have_tested_for_repository : WalkOptions → Outcome → Bool
may_have_tested_for_repository o c = not o.recurse_repositories && may_have_tested_with_status o c c.status

-- with its kind settled, neither a repository is looked for nor the rules are asked
abbrev pub asks_nothing_with_known_kind : WalkOptions → PathEvidence → List ℕ → Option Kind → Bool
asks_nothing_with_known_kind o ev path kind =
    if is_in_worktree_set o path then true
    else if index_and_disk_agree_on_directory (ev.in_index path) kind then skips_repository_test o (is_directory_of_indexed_submodule (ev.in_index path) kind)
    else not (ev.is_ruled && not (is_empty path)) && skips_repository_test o (tests_unindexed_for_repository o kind None)

-- the kind is settled without the disk: the disk may not be asked, an entry is up to date, or the caller knows the kind
abbrev pub is_kind_known_without_disk : Bool → Option Kind → Option Kind → Bool
is_kind_known_without_disk ask_disk up_to_date known = not ask_disk || is_some (option_or up_to_date known)

-- The class of a path asks nothing of the worktree: neither the kind of the node there, nor where it leads, nor the rules.
unfoldable pub asks_nothing_of_worktree : WalkOptions → PathEvidence → List ℕ → Option Kind → Bool → Bool
asks_nothing_of_worktree o ev path known ask_disk =
    if is_path_named_dot_git o.ignore_case path then not (is_some o.for_deletion && ev.is_ruled)
    else if not (ev.can_match path (is_dir known)) then true
    else is_kind_known_without_disk ask_disk (ev.in_index path).up_to_date known && asks_nothing_with_known_kind o ev path (option_or (ev.in_index path).up_to_date known)

-- it asks them, and they cannot be read
abbrev pub asks_unreadable_rules : WalkOptions → PathEvidence → List ℕ → Option Kind → Option Kind → Bool
asks_unreadable_rules o ev path known on_disk = asks_ignore_rules o ev path known on_disk && ev.is_unread path

-- ---- what becomes of it

-- whether a walk looks into a path of this class, by default
abbrev pub enters : WalkOptions → Outcome → Bool → Bool
enters o c in_repository = can_recurse c.status c.disk_kind c.pathspec_match o.for_deletion in_repository

-- the class of a path that is not entered: in deletion that may hide repositories, an ignored directory is looked at hard, even
-- where repositories are walked into
abbrev pub kind_after_bare_repository_test : PathEvidence → Option Kind → List ℕ → Option Kind
kind_after_bare_repository_test ev kind path = kind_after_repository_test false true kind (ev.repository_at path) (ev.repository_in path)

-- an ignored directory not seen as a repository, in the deletion mode that does not look for repositories in ignored ones
abbrev pub is_ignored_directory_hiding_repositories : WalkOptions → Outcome → Bool
is_ignored_directory_hiding_repositories o c = is_ignored_status c.status && is_plain_directory_kind c.disk_kind && deletion_skips_search_of_ignored_directories o.for_deletion

-- such a directory becomes a `Repository` if one is found, a bare one too; any other class stays as it is
unfoldable pub outcome_of_unentered_path : WalkOptions → PathEvidence → List ℕ → Outcome → Outcome
outcome_of_unentered_path o ev path c = if is_ignored_directory_hiding_repositories o c then record c { disk_kind = kind_after_bare_repository_test ev c.disk_kind path } else c
