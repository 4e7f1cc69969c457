-- Small worktrees, of which the definitions give what they should, by computing.
use Rattle.std.proofs.Common.{◌≡◌, ℕ, Bool, true, false, List, [], ◌∷◌, Option, Some, None, refl}
use Rattle.std.specs.Prelude.{codes, if◌then◌else◌}
use Rattle.std.specs.Str.{bytes_eq}
use Rattle.glob_rules.specs.declared.ignore.Kind.TheVariants.{Expendable, Precious}
use Rattle.glob_rules.specs.declared.pathspec.Match.{Match}
use Rattle.glob_rules.specs.declared.pathspec.MatchKind.{MatchKind}
use Rattle.glob_rules.specs.declared.pathspec.MatchKind.TheVariants as found
use Rattle.worktree_fs.specs.Tree.{Node, Names, LookupResult, file, link, directory, other, none, named}
use Rattle.worktree_fs.specs.Tree as trees
use Rattle.dir_classify.specs.declared.classify.Outcome.{Outcome as Class}
use Rattle.dir_classify.specs.declared.entry.Entry.{Entry}
use Rattle.dir_classify.specs.declared.entry.Kind.{Kind}
use Rattle.dir_classify.specs.declared.entry.Kind.TheVariants.{File, Directory, Repository}
use Rattle.dir_classify.specs.declared.entry.PathspecMatch.{PathspecMatch}
use Rattle.dir_classify.specs.declared.entry.PathspecMatch.TheVariants.{Always, Excluded, WildcardMatch}
use Rattle.dir_classify.specs.declared.entry.Property.TheVariants.{EmptyDirectory, EmptyDirectoryAndCWD}
use Rattle.dir_classify.specs.declared.entry.Status.{Status}
use Rattle.dir_classify.specs.declared.entry.Status.TheVariants.{Ignored, Untracked}
use Rattle.dir_classify.specs.declared.excludes.Ruling.{Ruling}
use Rattle.dir_classify.specs.declared.index.InIndex.{InIndex}
use Rattle.dir_classify.specs.declared.options.CollapsedEntriesEmissionMode.TheVariants as collapsed
use Rattle.dir_classify.specs.declared.options.EmissionMode.TheVariants.{Matching, CollapseDirectory}
use Rattle.dir_classify.specs.declared.options.ForDeletionMode.TheVariants.{FindNonBareRepositoriesInIgnoredDirectories, IgnoredDirectoriesCanHideNestedRepositories}
use Rattle.dir_classify.specs.Chosen.{WalkOptions}
use Rattle.dir_classify.specs.Class.{asks_ignore_rules, class, outcome_of_unentered_path}
use Rattle.dir_classify.specs.Entries.{entry_with_outcome}
use Rattle.dir_classify.specs.Evidence.{PathEvidence, RepositoryTestResult, ruling_without_rule}
use Rattle.dir_classify.specs.Way.{end_of_way_from_worktree_root}
use Rattle.dir_walk.specs.declared.outcome.Outcome.{Outcome as Counts}
use Rattle.dir_walk.specs.Emissions.{Emission, sort_emissions_by_path, uncollapsed_emission, collapsed_emission}
use Rattle.dir_walk.specs.Fold.{fold}
use Rattle.dir_walk.specs.Report.{counts, emissions_with_handed_up, emissions_shown_by_options}
use Rattle.dir_walk.specs.Root.{walk_result_from_end_of_way}
use Rattle.dir_walk.specs.Walked.{WalkResult, walk_result_of_closed_directory, walk_result_of_empty_directory, item, walk_result_of_leaf_entry, empty_walk_result}

-- ---- what stands in each

abbrev usual : WalkOptions
usual =
    record {
      precompose_unicode = false;
      ignore_case = false;
      recurse_repositories = false;
      emit_pruned = false;
      emit_ignored = None;
      for_deletion = None;
      classify_untracked_bare_repositories = false;
      emit_tracked = false;
      emit_untracked = Matching;
      emit_empty_directories = false;
      emit_collapsed = None;
      symlinks_to_directories_are_ignored_like_directories = false;
      worktrees = [];
    }

abbrev folding : WalkOptions
folding = record usual { emit_untracked = CollapseDirectory }

abbrev matched_as : MatchKind → Bool → Option Match
matched_as kind excluded = Some (record { kind = kind; excluded = excluded; sequence_number = 0 })

-- an index that is empty, no specs, no rules, and no repository
abbrev none_given : PathEvidence
none_given =
    record {
      in_index = λ path. record { up_to_date = None; kind = None; sparse = None };
      can_match = λ path is_dir. true;
      matched = λ path is_dir. matched_as found.Always false;
      covers = λ path. true;
      is_ruled = false;
      ruling = λ path is_dir. ruling_without_rule;
      is_unread = λ path. false;
      followed = λ path. None;
      repository_at = λ path. record { is_git = false; is_own = false };
      repository_in = λ path. record { is_git = false; is_own = false };
      blocked = None;
    }

abbrev is_path : List ℕ → List ℕ → Bool
is_path path q = bytes_eq q path

-- a kind in the index at a path, beside others
abbrev indexed : List ℕ → Kind → (List ℕ → InIndex) → List ℕ → InIndex
indexed path kind others q = if is_path path q then record { up_to_date = None; kind = Some kind; sparse = None } else others q

abbrev given_of : Option WalkResult → WalkResult
given_of None = empty_walk_result
given_of (Some w) = w

-- what the walk of a worktree gives, from its root or from a directory in it
abbrev walk_at : WalkOptions → PathEvidence → List (List ℕ) → Names → WalkResult
walk_at o ev root names = given_of (walk_result_from_end_of_way o ev (end_of_way_from_worktree_root o ev (λ path. Some Directory) root) (trees.found (directory names)))

abbrev walk : WalkOptions → PathEvidence → Names → WalkResult
walk o ev names = walk_at o ev [] names

abbrev lines : WalkOptions → WalkResult → List Emission
lines o w = sort_emissions_by_path (emissions_shown_by_options o (emissions_with_handed_up w))

abbrev class_of : Status → Kind → PathspecMatch → Class
class_of status kind how = record { status = status; property = None; disk_kind = Some kind; index_kind = None; pathspec_match = Some how; origin = None }

abbrev untracked : List ℕ → Kind → Entry
untracked path kind = entry_with_outcome path (class_of Untracked kind Always)

abbrev numbers : ℕ → ℕ → ℕ → Counts
numbers calls returned seen = record { read_dir_calls = calls; returned_entries = returned; seen_entries = seen }

-- ---- a directory of two files

abbrev two_files : Names
two_files = named (codes "d") (directory (named (codes "a") (file []) (named (codes "b") (file []) none))) none

one_line : lines folding (walk folding none_given two_files) ≡ uncollapsed_emission (untracked (codes "d") Directory) ∷ []
unfolding asks_ignore_rules class outcome_of_unentered_path end_of_way_from_worktree_root item walk_result_of_leaf_entry walk_result_of_closed_directory fold walk_result_of_empty_directory sort_emissions_by_path
one_line = refl

one_line-counts : counts folding (walk folding none_given two_files) ≡ numbers 2 1 3
unfolding asks_ignore_rules class outcome_of_unentered_path end_of_way_from_worktree_root item walk_result_of_leaf_entry walk_result_of_closed_directory fold walk_result_of_empty_directory sort_emissions_by_path
one_line-counts = refl

abbrev showing_all : WalkOptions
showing_all = record folding { emit_collapsed = Some collapsed.All }

besides_it : lines showing_all (walk showing_all none_given two_files)
    ≡ uncollapsed_emission (untracked (codes "d") Directory) ∷ collapsed_emission Untracked (untracked (codes "d/a") File) ∷ collapsed_emission Untracked (untracked (codes "d/b") File) ∷ []
unfolding asks_ignore_rules class outcome_of_unentered_path end_of_way_from_worktree_root item walk_result_of_leaf_entry walk_result_of_closed_directory fold walk_result_of_empty_directory sort_emissions_by_path
besides_it = refl

besides_it-counts : counts showing_all (walk showing_all none_given two_files) ≡ numbers 2 3 3
unfolding asks_ignore_rules class outcome_of_unentered_path end_of_way_from_worktree_root item walk_result_of_leaf_entry walk_result_of_closed_directory fold walk_result_of_empty_directory sort_emissions_by_path
besides_it-counts = refl

each_by_itself : lines usual (walk usual none_given two_files) ≡ uncollapsed_emission (untracked (codes "d/a") File) ∷ uncollapsed_emission (untracked (codes "d/b") File) ∷ []
unfolding asks_ignore_rules class outcome_of_unentered_path end_of_way_from_worktree_root item walk_result_of_leaf_entry walk_result_of_closed_directory fold walk_result_of_empty_directory sort_emissions_by_path
each_by_itself = refl

each_by_itself-counts : counts usual (walk usual none_given two_files) ≡ numbers 2 2 2
unfolding asks_ignore_rules class outcome_of_unentered_path end_of_way_from_worktree_root item walk_result_of_leaf_entry walk_result_of_closed_directory fold walk_result_of_empty_directory sort_emissions_by_path
each_by_itself-counts = refl

-- ---- what keeps a directory from folding

abbrev git_at : List ℕ → List ℕ → RepositoryTestResult
git_at path q = record { is_git = is_path path q; is_own = false }

abbrev with_repository : Names
with_repository = named (codes "d") (directory (named (codes "a") (file []) (named (codes "r") (directory (named (codes ".git") (directory none) none)) none))) none

-- a repository
keeps_repository : lines folding (walk folding (record none_given { repository_in = git_at (codes "d/r") }) with_repository)
    ≡ uncollapsed_emission (untracked (codes "d/a") File) ∷ uncollapsed_emission (untracked (codes "d/r") Repository) ∷ []
unfolding asks_ignore_rules class outcome_of_unentered_path end_of_way_from_worktree_root item walk_result_of_leaf_entry walk_result_of_closed_directory fold walk_result_of_empty_directory sort_emissions_by_path
keeps_repository = refl

abbrev tracked_and_not : Names
tracked_and_not = named (codes "d") (directory (named (codes "t") (file []) (named (codes "u") (file []) none))) none

-- a tracked file
keeps_tracked : lines folding (walk folding (record none_given { in_index = indexed (codes "d") Directory (indexed (codes "d/t") File none_given.in_index) }) tracked_and_not)
    ≡ uncollapsed_emission (untracked (codes "d/u") File) ∷ []
unfolding asks_ignore_rules class outcome_of_unentered_path end_of_way_from_worktree_root item walk_result_of_leaf_entry walk_result_of_closed_directory fold walk_result_of_empty_directory sort_emissions_by_path
keeps_tracked = refl

abbrev deleting : WalkOptions
deleting = record folding { for_deletion = Some FindNonBareRepositoriesInIgnoredDirectories; emit_ignored = Some CollapseDirectory }

abbrev key_and_file : Names
key_and_file = named (codes "d") (directory (named (codes "key") (file []) (named (codes "x") (file []) none))) none

abbrev precious_at : List ℕ → List ℕ → Option Bool → Ruling
precious_at path q is_dir = if is_path path q then record { kind = Some Precious; origin = None } else ruling_without_rule

-- in deletion a precious file
keeps_precious : lines deleting (walk deleting (record none_given { is_ruled = true; ruling = precious_at (codes "d/key") }) key_and_file)
    ≡ uncollapsed_emission (entry_with_outcome (codes "d/key") (class_of (Ignored Precious) File Always)) ∷ uncollapsed_emission (untracked (codes "d/x") File) ∷ []
unfolding asks_ignore_rules class outcome_of_unentered_path end_of_way_from_worktree_root item walk_result_of_leaf_entry walk_result_of_closed_directory fold walk_result_of_empty_directory sort_emissions_by_path
keeps_precious = refl

-- ---- directories without names

abbrev no_names : List ℕ → Names
no_names name = named name (directory none) none

hides_empty : lines usual (walk usual none_given (no_names (codes "e"))) ≡ []
unfolding asks_ignore_rules class outcome_of_unentered_path end_of_way_from_worktree_root item walk_result_of_leaf_entry walk_result_of_closed_directory fold walk_result_of_empty_directory sort_emissions_by_path
hides_empty = refl

hides_empty-counts : counts usual (walk usual none_given (no_names (codes "e"))) ≡ numbers 2 0 1
unfolding asks_ignore_rules class outcome_of_unentered_path end_of_way_from_worktree_root item walk_result_of_leaf_entry walk_result_of_closed_directory fold walk_result_of_empty_directory sort_emissions_by_path
hides_empty-counts = refl

abbrev showing_empty : WalkOptions
showing_empty = record usual { emit_empty_directories = true }

shows_empty : lines showing_empty (walk showing_empty none_given (no_names (codes "e")))
    ≡ uncollapsed_emission (entry_with_outcome (codes "e") (record (class_of Untracked Directory Always) { property = Some EmptyDirectory })) ∷ []
unfolding asks_ignore_rules class outcome_of_unentered_path end_of_way_from_worktree_root item walk_result_of_leaf_entry walk_result_of_closed_directory fold walk_result_of_empty_directory sort_emissions_by_path
shows_empty = refl

shows_empty-counts : counts showing_empty (walk showing_empty none_given (no_names (codes "e"))) ≡ numbers 2 1 1
unfolding asks_ignore_rules class outcome_of_unentered_path end_of_way_from_worktree_root item walk_result_of_leaf_entry walk_result_of_closed_directory fold walk_result_of_empty_directory sort_emissions_by_path
shows_empty-counts = refl

-- the current directory is shown
abbrev deleting_plainly : WalkOptions
deleting_plainly = record usual { for_deletion = Some FindNonBareRepositoriesInIgnoredDirectories }

shows_current : lines deleting_plainly (walk deleting_plainly (record none_given { blocked = Some (codes "d") }) (no_names (codes "d")))
    ≡ uncollapsed_emission (entry_with_outcome (codes "d") (record (class_of Untracked Directory Always) { property = Some EmptyDirectoryAndCWD })) ∷ []
unfolding asks_ignore_rules class outcome_of_unentered_path end_of_way_from_worktree_root item walk_result_of_leaf_entry walk_result_of_closed_directory fold walk_result_of_empty_directory sort_emissions_by_path
shows_current = refl

-- ---- a usual checkout

abbrev excluded_at : List ℕ → List ℕ → Option Bool → Ruling
excluded_at path q is_dir = if is_path path q then record { kind = Some Expendable; origin = None } else ruling_without_rule

abbrev collapsing : WalkOptions
collapsing = record folding { emit_ignored = Some CollapseDirectory }

abbrev checkout : Names
checkout =
    named (codes ".git") (directory none)
    (named (codes ".gitignore") (file [])
    (named (codes ".gitmodules") (file [])
    (named (codes "src") (directory (named (codes "main.c") (file []) none))
    (named (codes "lib") (directory (named (codes ".git") (file []) none))
    (named (codes "target") (directory (named (codes "x.o") (file []) none))
    (named (codes "notes") (directory (named (codes "a") (file []) (named (codes "b") (file []) none))) none))))))

abbrev checked_out : PathEvidence
checked_out =
    record none_given {
      in_index = indexed (codes ".gitignore") File
          (indexed (codes ".gitmodules") File (indexed (codes "lib") Repository (indexed (codes "src") Directory (indexed (codes "src/main.c") File none_given.in_index))));
      is_ruled = true;
      ruling = excluded_at (codes "target");
      repository_in = git_at (codes "lib");
    }

checks_out : lines collapsing (walk collapsing checked_out checkout)
    ≡ uncollapsed_emission (untracked (codes "notes") Directory) ∷ uncollapsed_emission (entry_with_outcome (codes "target") (class_of (Ignored Expendable) Directory Always)) ∷ []
unfolding asks_ignore_rules class outcome_of_unentered_path end_of_way_from_worktree_root item walk_result_of_leaf_entry walk_result_of_closed_directory fold walk_result_of_empty_directory sort_emissions_by_path
checks_out = refl

checks_out-counts : counts collapsing (walk collapsing checked_out checkout) ≡ numbers 3 2 9
unfolding asks_ignore_rules class outcome_of_unentered_path end_of_way_from_worktree_root item walk_result_of_leaf_entry walk_result_of_closed_directory fold walk_result_of_empty_directory sort_emissions_by_path
checks_out-counts = refl

-- ---- path specs

-- by wildcards: what is not matched is pruned, and neither blocks nor is shown
abbrev picking : PathEvidence
picking = record none_given { matched = λ q is_dir. if is_path (codes "d/a1") q then matched_as found.WildcardMatch false else None }

abbrev picked : Names
picked = named (codes "a1") (file []) (named (codes "b") (file []) none)

picks : lines folding (walk_at folding picking (codes "d" ∷ []) picked) ≡ uncollapsed_emission (entry_with_outcome (codes "d") (class_of Untracked Directory WildcardMatch)) ∷ []
unfolding asks_ignore_rules class outcome_of_unentered_path end_of_way_from_worktree_root item walk_result_of_leaf_entry walk_result_of_closed_directory fold walk_result_of_empty_directory sort_emissions_by_path
picks = refl

picks-counts : counts folding (walk_at folding picking (codes "d" ∷ []) picked) ≡ numbers 1 1 3
unfolding asks_ignore_rules class outcome_of_unentered_path end_of_way_from_worktree_root item walk_result_of_leaf_entry walk_result_of_closed_directory fold walk_result_of_empty_directory sort_emissions_by_path
picks-counts = refl

-- a tracked path keeps the directory from folding all the same
abbrev picking_tracked : PathEvidence
picking_tracked = record picking { in_index = indexed (codes "d") Directory (indexed (codes "d/b") File none_given.in_index) }

picks_tracked : lines folding (walk_at folding picking_tracked (codes "d" ∷ []) picked) ≡ uncollapsed_emission (entry_with_outcome (codes "d/a1") (class_of Untracked File WildcardMatch)) ∷ []
unfolding asks_ignore_rules class outcome_of_unentered_path end_of_way_from_worktree_root item walk_result_of_leaf_entry walk_result_of_closed_directory fold walk_result_of_empty_directory sort_emissions_by_path
picks_tracked = refl

picks_tracked-counts : counts folding (walk_at folding picking_tracked (codes "d" ∷ []) picked) ≡ numbers 1 1 2
unfolding asks_ignore_rules class outcome_of_unentered_path end_of_way_from_worktree_root item walk_result_of_leaf_entry walk_result_of_closed_directory fold walk_result_of_empty_directory sort_emissions_by_path
picks_tracked-counts = refl

-- a spec that takes a path out
abbrev two_more : Names
two_more = named (codes "x") (file []) (named (codes "y") (file []) none)

abbrev leaving_out : PathEvidence
leaving_out = record none_given { matched = λ q is_dir. if is_path (codes "x") q then matched_as found.Verbatim true else matched_as found.Always false }

leaves_out : lines usual (walk usual leaving_out two_more) ≡ uncollapsed_emission (untracked (codes "y") File) ∷ []
unfolding asks_ignore_rules class outcome_of_unentered_path end_of_way_from_worktree_root item walk_result_of_leaf_entry walk_result_of_closed_directory fold walk_result_of_empty_directory sort_emissions_by_path
leaves_out = refl

abbrev showing_pruned : WalkOptions
showing_pruned = record usual { emit_pruned = true }

shows_left_out : lines showing_pruned (walk showing_pruned leaving_out two_more)
    ≡ uncollapsed_emission (entry_with_outcome (codes "x") (class_of Untracked File Excluded)) ∷ uncollapsed_emission (untracked (codes "y") File) ∷ []
unfolding asks_ignore_rules class outcome_of_unentered_path end_of_way_from_worktree_root item walk_result_of_leaf_entry walk_result_of_closed_directory fold walk_result_of_empty_directory sort_emissions_by_path
shows_left_out = refl

-- ---- a repository in an ignored directory

abbrev built : Names
built = named (codes "build") (directory (named (codes "r") (directory (named (codes ".git") (directory none) none)) none)) none

abbrev all_excluded : PathEvidence
all_excluded =
    record none_given {
      is_ruled = true;
      ruling = λ q is_dir. record { kind = Some Expendable; origin = None };
      repository_in = git_at (codes "build/r");
    }

abbrev hiding : WalkOptions
hiding = record usual { emit_ignored = Some CollapseDirectory; for_deletion = Some IgnoredDirectoriesCanHideNestedRepositories }

hides_it : lines hiding (walk hiding all_excluded built) ≡ uncollapsed_emission (entry_with_outcome (codes "build") (class_of (Ignored Expendable) Directory Always)) ∷ []
unfolding asks_ignore_rules class outcome_of_unentered_path end_of_way_from_worktree_root item walk_result_of_leaf_entry walk_result_of_closed_directory fold walk_result_of_empty_directory sort_emissions_by_path
hides_it = refl

abbrev finding : WalkOptions
finding = record usual { emit_ignored = Some CollapseDirectory; for_deletion = Some FindNonBareRepositoriesInIgnoredDirectories }

finds_it : lines finding (walk finding all_excluded built) ≡ uncollapsed_emission (entry_with_outcome (codes "build/r") (class_of (Ignored Expendable) Repository Always)) ∷ []
unfolding asks_ignore_rules class outcome_of_unentered_path end_of_way_from_worktree_root item walk_result_of_leaf_entry walk_result_of_closed_directory fold walk_result_of_empty_directory sort_emissions_by_path
finds_it = refl
