-- What the layers below say of paths, in the words of classes.
use Rattle.std.specs.Prelude.{◌≡◌, ℕ, Bool, true, false, not, ◌&&◌, List, [], ◌∷◌, Option, Some, None, option_map, option_and_then, is_some, if◌then◌else◌}
use Rattle.std.specs.List.{list_all}
use Rattle.std.specs.Str.{bytes_eq}
use Rattle.gitbase_core.specs.declared.entry.IndexEntry.{IndexEntry}
use Rattle.gitbase_core.specs.declared.kinds.IndexKinds.{IndexKinds}
use Rattle.gitbase_core.specs.Kinds.{kinds}
use Rattle.gitbase_core.specs.Lookup.{index_kinds_of_path_icase, IsCaseFoldedLookupOfEntries}
use Rattle.gitbase_core.specs.View.{DirectoryEntriesView, IsViewOfEntriesBeneath}
use Rattle.gitbase_core.specs.Path.{components, path_joined_with_slash, normalized, without_leading_slashes, strip_directory_prefix}
use Rattle.glob_rules.specs.declared.pathspec.Match.{Match}
use Rattle.glob_rules.specs.declared.pathspec.matcher.Matcher.{Ghosts as MatcherOf}
use Rattle.worktree_fs.specs.Tree.{Names, look}
use Rattle.worktree_fs.specs.Answers.{kind_of_lookup}
use Rattle.worktree_fs.specs.Changes.{real_path}
use Rattle.worktree_fs.specs.Paths.{slash_joined_components, all_prefixes_shortest_first, all_but_last, root_joined_with_relative}
use Rattle.worktree_fs.specs.Repository.{is_git, is_same_path_if_present}
use Rattle.worktree_stack.specs.Setup.{StackSetup, excluded_kind}
use Rattle.worktree_stack.specs.Excludes.{ExcludeDecision, exclude, rule_of_decision, origin_of_decision}
use Rattle.worktree_stack.specs.Reading.{TreeAndObjects, rules_texts_of_directory, is_read_without_refusal, rulebook_of_stack_setup}
use Rattle.dir_classify.specs.declared.context.Context.{Context}
use Rattle.dir_classify.specs.declared.context.Shared.{Shared}
use Rattle.dir_classify.specs.declared.options.Options.{Options}
use Rattle.dir_classify.specs.declared.entry.Kind.{Kind}
use Rattle.dir_classify.specs.declared.entry.Property.TheVariants.{TrackedExcluded}
use Rattle.dir_classify.specs.declared.index.InIndex.{InIndex}
use Rattle.dir_classify.specs.Chosen.{WalkOptions, walk_options_of}
use Rattle.dir_classify.specs.Class.{dot_git_bytes}
use Rattle.dir_classify.specs.declared.excludes.Ruling.{Ruling}
use Rattle.dir_classify.specs.Evidence.{PathEvidence, ruling_without_rule, RepositoryTestResult}
use Rattle.dir_classify.specs.Kinds.{from_index_entry_kind, from_node_kind}

-- ---- the index

-- nothing at a path or beneath it
abbrev pub nothing_in_index : InIndex
nothing_in_index = record { up_to_date = None; kind = None; sparse = None }

-- `sparse` is `TrackedExcluded` for a directory that a sparse checkout leaves out as a whole
abbrev pub from_index_kinds : IndexKinds → InIndex
from_index_kinds k = record { up_to_date = option_map from_index_entry_kind k.up_to_date; kind = option_map from_index_entry_kind k.kind; sparse = if k.is_left_out then Some TrackedExcluded else None }

-- What an index says of a path below the worktree root, with regard to the case of letters or without; it says nothing of the
-- root itself.
unfoldable pub index_kinds_at_path : Bool → List IndexEntry → List ℕ → InIndex
index_kinds_at_path folds entries [] = nothing_in_index
index_kinds_at_path folds entries (b ∷ path) = from_index_kinds (if folds then index_kinds_of_path_icase entries (b ∷ path) else kinds entries (b ∷ path))

-- a look-up is one of this index, where it is given
abbrev pub IsLookupOfIndexIfGiven : List IndexEntry → Option (List ℕ) → Type 0
IsLookupOfIndexIfGiven entries None = Unit {0}
IsLookupOfIndexIfGiven entries (Some numbers) = IsCaseFoldedLookupOfEntries entries numbers

-- a path as a name in a directory, with the entries of an index beneath that
pub record IsNameInIndexDirectory (index : List IndexEntry) (path name : List ℕ) (under : DirectoryEntriesView) : Type 0 where
  pub directory : List ℕ
  pub beneath : IsViewOfEntriesBeneath index directory under
  pub path_is : path ≡ path_joined_with_slash directory name

-- ---- the rules

-- a decision in the words of classes
abbrev pub ruling_from_decision : Option ExcludeDecision → Ruling
ruling_from_decision decision = record { kind = excluded_kind (rule_of_decision decision); origin = origin_of_decision decision }

-- what ignore rules say of a path over a tree and a store, by what the rules were made with; nothing where none are given
unfoldable pub ruling_of_optional_setup : Option StackSetup → TreeAndObjects → List ℕ → Option Bool → Ruling
ruling_of_optional_setup None s path is_dir = ruling_without_rule
ruling_of_optional_setup (Some made) s path is_dir = ruling_from_decision (exclude (rulebook_of_stack_setup made s) (components path) is_dir)

-- the rules of some directory above a path are refused: of the worktree root, or of one between it and the path
unfoldable pub is_some_rules_file_unread : Option StackSetup → TreeAndObjects → List ℕ → Bool
is_some_rules_file_unread None s path = false
is_some_rules_file_unread (Some made) s path = not (list_all (λ directory. is_read_without_refusal (rules_texts_of_directory made s (slash_joined_components directory))) (all_prefixes_shortest_first (all_but_last (components path))))

-- ---- the tree

-- the kind of the node at a whole path, its last link followed or not
abbrev pub kind_of_node_at : Names → List ℕ → Bool → Option Kind
kind_of_node_at t full follow = option_map from_node_kind (kind_of_lookup (look t full follow))

-- what a whole path leads to, with the current directory and the path of the own git directory
abbrev pub repository_test_of_path : Names → List ℕ → List ℕ → List ℕ → RepositoryTestResult
repository_test_of_path t cwd own full = record { is_git = is_git t full; is_own = is_same_path_if_present (real_path t full cwd) own }

-- the rest of a path behind a directory that it is or lies beneath
abbrev pub rest_behind_directory : List ℕ → List ℕ → Option (List ℕ)
rest_behind_directory directory path = if bytes_eq directory path then Some [] else strip_directory_prefix directory path

-- the current directory as it reads from the worktree root, where it is that or lies beneath: what follows the real path of the
-- root, made normal as a relative path
abbrev pub current_directory_in_worktree : Names → List ℕ → List ℕ → Option (List ℕ)
current_directory_in_worktree t root cwd =
    option_and_then (λ rest. normalized (without_leading_slashes rest)) (option_and_then (λ real. rest_behind_directory real cwd) (real_path t root cwd))

-- in deletion alone, and relative to the worktree root; none where the current directory lies outside the worktree
abbrev pub protected_current_directory : WalkOptions → Names → List ℕ → List ℕ → Option (List ℕ)
protected_current_directory o t root cwd = if is_some o.for_deletion then current_directory_in_worktree t root cwd else None

-- ---- all of it

-- What is given to a walk beside the tree, the store and the rules: the worktree root, the options, the index and whether it is
-- looked up without regard to the case of letters, what says which paths are meant, and the real paths of the own git
-- directory and of the current directory.
pub record WalkSetting : Type 0 where
  pub root : List ℕ
  pub options : WalkOptions
  pub index : List IndexEntry
  pub has_lookup : Bool
  pub can_match : List ℕ → Option Bool → Bool
  pub matched : List ℕ → Option Bool → Option Match
  pub covers : List ℕ → Bool
  pub common : Option (List ℕ)
  pub git_dir : List ℕ
  pub current_dir : List ℕ

-- the shared parts of a context as such
abbrev pub setting_of_shared : {M : Type 0} → MatcherOf M → Shared M → WalkSetting
setting_of_shared matcher shared =
    record {
      root = shared.worktree_root.now;
      options = walk_options_of shared.options;
      index = shared.index.now;
      has_lookup = is_some shared.ignore_case_index_lookup.now;
      can_match = matcher.can shared.pathspec.now;
      matched = matcher.matched shared.pathspec.now;
      covers = λ path. matcher.covers shared.pathspec.now path false;
      common = matcher.common shared.pathspec.now;
      git_dir = shared.git_dir_realpath.now;
      current_dir = shared.current_dir.now;
    }

-- a context as such, with the worktree root and the options
abbrev pub setting_of_context : {W F I M : Type 0} → MatcherOf M → List ℕ → Options → Context W F I M → WalkSetting
setting_of_context matcher root options ctx =
    record {
      root = root;
      options = walk_options_of options;
      index = ctx.index.now;
      has_lookup = is_some ctx.ignore_case_index_lookup.now;
      can_match = matcher.can ctx.pathspec.now;
      matched = matcher.matched ctx.pathspec.now;
      covers = λ path. matcher.covers ctx.pathspec.now path false;
      common = matcher.common ctx.pathspec.now;
      git_dir = ctx.git_dir_realpath.now;
      current_dir = ctx.current_dir.now;
    }

-- the kind of the node at a path, its last link not followed; none where the disk may not be asked
abbrev pub kind_on_disk_if_asked : WalkSetting → Names → List ℕ → Bool → Option Kind
kind_on_disk_if_asked given t path ask = if ask then kind_of_node_at t (root_joined_with_relative given.root path) false else None

-- what the index says of a path there
abbrev pub index_kinds_by_setting : WalkSetting → List ℕ → InIndex
index_kinds_by_setting given path = index_kinds_at_path (given.options.ignore_case && given.has_lookup) given.index path

-- The evidence on paths, over the ignore rules, a tree and a store.
unfoldable pub evidence_from_setting_and_sources : WalkSetting → Option StackSetup → TreeAndObjects → PathEvidence
evidence_from_setting_and_sources given made s =
    record {
      in_index = index_kinds_by_setting given;
      can_match = given.can_match;
      matched = given.matched;
      covers = given.covers;
      is_ruled = is_some made;
      ruling = ruling_of_optional_setup made s;
      is_unread = is_some_rules_file_unread made s;
      followed = λ path. kind_of_node_at s.tree (root_joined_with_relative given.root path) true;
      repository_at = λ path. repository_test_of_path s.tree given.current_dir given.git_dir (root_joined_with_relative given.root path);
      repository_in = λ path. repository_test_of_path s.tree given.current_dir given.git_dir (path_joined_with_slash (root_joined_with_relative given.root path) dot_git_bytes);
      blocked = protected_current_directory given.options s.tree given.root given.current_dir;
    }
