-- Where a lookup leaves a stack.
use Rattle.std.specs.Prelude.{◌≡◌, ℕ, ◌++◌, ◌||◌, ◌==◌, Bool, true, false, if◌then◌else◌, List, [], ◌∷◌, length, Option, Some, None, option_map, is_some, Result, Ok, Err}
use Rattle.gitbase_core.specs.declared.entry.Mode.{Mode}
use Rattle.gitbase_core.specs.Entry.{mode_bits, gitlink_mode, sparse_directory_mode}
use Rattle.gitbase_core.specs.Path.{ends_in_slash}
use Rattle.worktree_fs.specs.Paths.{slash_joined_components, all_but_last}
use Rattle.worktree_fs.specs.PathStack.{push, shared_proper_ancestor_components, deepest_components_or_root}
use Rattle.worktree_stack.specs.Counted.{delegate_counts_after_call}
use Rattle.worktree_stack.specs.Setup.{StackSetup, AttributesSetup, Setup}
use Rattle.worktree_stack.specs.declared.attributes_source.Source.{Source as AttributesSource}
use Rattle.worktree_stack.specs.declared.attributes_source.Source.TheVariants as attributes_sources
use Rattle.worktree_stack.specs.declared.ignore_source.Source.{Source}
use Rattle.worktree_stack.specs.declared.ignore_source.Source.TheVariants.{IdMapping, WorktreeThenIdMappingIfNotSkipped}
use Rattle.worktree_stack.specs.Stacked.{StackModel}

-- whether a path is a directory, by its mode: nothing is known without one, and submodules count as directories
abbrev pub is_dir_by_mode : Option Mode → Option Bool
is_dir_by_mode mode = option_map (λ m. (mode_bits m == gitlink_mode) || (mode_bits m == sparse_directory_mode)) mode

-- an entry that ends in a slash is a directory, where its mode is not known
abbrev pub is_dir_by_mode_or_slash : List ℕ → Option Mode → Option Bool
is_dir_by_mode_or_slash path None = if ends_in_slash path then Some true else None
is_dir_by_mode_or_slash path (Some mode) = is_dir_by_mode (Some mode)

-- whether rules files are looked for in the worktree
abbrev pub ignore_source_reads_worktree : Source → Bool
ignore_source_reads_worktree IdMapping = false
ignore_source_reads_worktree WorktreeThenIdMappingIfNotSkipped = true

-- and by an exclude state, if there is one
abbrev pub ignore_setup_reads_worktree : Option Setup → Bool
ignore_setup_reads_worktree None = false
ignore_setup_reads_worktree (Some setup) = ignore_source_reads_worktree setup.source

-- whether files of attributes are looked for in the worktree
abbrev pub attributes_source_reads_worktree : AttributesSource → Bool
attributes_source_reads_worktree attributes_sources.IdMapping = false
attributes_source_reads_worktree attributes_sources.IdMappingThenWorktree = true
attributes_source_reads_worktree attributes_sources.WorktreeThenIdMapping = true

-- and by an attribute state, if there is one; an info file is one of the worktree
abbrev pub attributes_setup_reads_worktree : Option AttributesSetup → Bool
attributes_setup_reads_worktree None = false
attributes_setup_reads_worktree (Some setup) = is_some setup.info || attributes_source_reads_worktree setup.source

-- a stack that was made so looks for rules files in the worktree
abbrev pub stack_setup_reads_worktree : StackSetup → Bool
stack_setup_reads_worktree made = attributes_setup_reads_worktree made.attributes || ignore_setup_reads_worktree made.ignore

-- a path stands looked up: exactly its proper ancestors are pushed, for the empty path the root alone
pub record StandsAtPath (s : StackModel) (names : List (List ℕ)) : Type 0 where
  pub at : s.at ≡ Some (all_but_last names)
  pub current : s.current ≡ names

-- a path lies in a directory: behind its components there is one more
pub record IsChildOfDirectory (directory path name : List (List ℕ)) : Type 0 where
  pub path_is : path ≡ directory ++ name
  pub one : length name ≡ 1

-- the directories that stay pushed in a lookup
abbrev pub directories_kept_by_lookup : Option (List (List ℕ)) → List (List ℕ) → Option (List (List ℕ))
directories_kept_by_lookup None names = None
directories_kept_by_lookup (Some pushed) names = Some (shared_proper_ancestor_components pushed names)

-- one component below the deepest directory, which is counted
abbrev pub stack_after_pushing_component : StackModel → List ℕ → StackModel
stack_after_pushing_component s name =
    record s {
      current = deepest_components_or_root s.at ++ name ∷ [];
      statistics = record s.statistics { delegate = delegate_counts_after_call s.statistics.delegate (push (slash_joined_components (deepest_components_or_root s.at ++ name ∷ [])) false) };
    }

-- one for a refusal: the directory whose rules file was refused may have been read
abbrev pub one_if_refused : {T E : Type 0} → Result T E → ℕ
one_if_refused (Ok done) = 0
one_if_refused (Err error) = 1
