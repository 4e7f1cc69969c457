-- The cases of a class, by the parts that they are made of.
use Rattle.std.proofs.Common.{◌≡◌, ◌≤◌, ◌∙◌, ap, sym, subst, ℕ, List, Bool, true, false, Option, None, refl}
use Rattle.std.specs.Prelude.{if◌then◌else◌, is_none}
use Rattle.gitbase_core.specs.Path.{path_joined_with_slash}
use Rattle.glob_rules.specs.declared.ignore.Kind.{Kind as IgnoredAs}
use Rattle.worktree_fs.specs.Paths.{root_joined_with_relative}
use Rattle.worktree_stack.specs.Reading.{TreeAndObjects}
use Rattle.worktree_stack.specs.Setup.{StackSetup}
use Rattle.dir_classify.specs.declared.classify.Outcome.{Outcome}
use Rattle.dir_classify.specs.declared.entry.Kind.{Kind}
use Rattle.dir_classify.specs.declared.entry.PathspecMatch.{PathspecMatch}
use Rattle.dir_classify.specs.declared.entry.Status.TheVariants.{Pruned, Untracked}
use Rattle.dir_classify.specs.declared.index.InIndex.{InIndex}
use Rattle.dir_classify.specs.Chosen.{WalkOptions}
use Rattle.dir_classify.specs.Class.{dot_git_bytes, pathspec_match_of_path, outcome_of_index_entry, outcome_of_indexed_path, disk_kind_of_indexed_path, outcome_of_ignored_kind, outcome_of_ignored_path, disk_kind_of_ignored_path, outcome_of_unignored_path, outcome_of_untracked_directory, outcome_of_untracked_non_directory, outcome_by_ignore_kind, skips_repository_test, is_directory_of_indexed_submodule, kind_after_repository_test}
use Rattle.dir_classify.specs.Evidence.{PathEvidence, RepositoryTestResult}
use Rattle.dir_classify.specs.Faults.{FailedRepositoryQuestions, IsOutcomeAsRead, IsKindTestedAsRead, repository_test_as_read, no_question_failed, evidence_as_read}
use Rattle.dir_classify.specs.Kinds.{is_some_directory_kind}
use Rattle.dir_classify.specs.Layers.{WalkSetting, evidence_from_setting_and_sources, repository_test_of_path, index_kinds_by_setting}
use Rattle.dir_classify.proofs.Sought.{indexed-idle, upgraded-idle}
use Rattle.dir_classify.proofs.Upgrades.{judged-by, judged-unread}

module _ (given : WalkSetting) (made : Option StackSetup) (s : TreeAndObjects) (path full : List ℕ) (full_is : full ≡ root_joined_with_relative given.root path) (entry : InIndex)
    (entry_is : entry ≡ index_kinds_by_setting given path) (kind : Option Kind) (found : Option PathspecMatch) (found_is : found ≡ pathspec_match_of_path (evidence_from_setting_and_sources given made s) path kind) where
  abbrev at : RepositoryTestResult
  at = repository_test_of_path s.tree given.current_dir given.git_dir full

  abbrev below : RepositoryTestResult
  below = repository_test_of_path s.tree given.current_dir given.git_dir (path_joined_with_slash full dot_git_bytes)

  -- what the evidence says of where the path leads
  at_is : at ≡ (evidence_from_setting_and_sources given made s).repository_at path
  unfolding evidence_from_setting_and_sources
  at_is = ap (repository_test_of_path s.tree given.current_dir given.git_dir) full_is

  below_is : below ≡ (evidence_from_setting_and_sources given made s).repository_in path
  unfolding evidence_from_setting_and_sources
  below_is = ap (λ (f : List ℕ). repository_test_of_path s.tree given.current_dir given.git_dir (path_joined_with_slash f dot_git_bytes)) full_is

  in_index_is : entry ≡ (evidence_from_setting_and_sources given made s).in_index path
  unfolding evidence_from_setting_and_sources
  in_index_is = entry_is

  seen : (n0 n1 : ℕ) (see : RepositoryTestResult → RepositoryTestResult → Option Kind) (k : Option Kind) → IsKindTestedAsRead n0 n1 see at below k
      → IsKindTestedAsRead n0 n1 see ((evidence_from_setting_and_sources given made s).repository_at path) ((evidence_from_setting_and_sources given made s).repository_in path) k
  seen n0 n1 see k is =
      subst (λ (b : RepositoryTestResult). IsKindTestedAsRead n0 n1 see ((evidence_from_setting_and_sources given made s).repository_at path) b k) below_is (subst (λ (a : RepositoryTestResult). IsKindTestedAsRead n0 n1 see a below k) at_is is)

  -- what was read of where the path leads
  abbrev at_as : FailedRepositoryQuestions → RepositoryTestResult
  at_as failed = repository_test_as_read failed ((evidence_from_setting_and_sources given made s).repository_at path)

  abbrev below_as : FailedRepositoryQuestions → RepositoryTestResult
  below_as failed = repository_test_as_read failed ((evidence_from_setting_and_sources given made s).repository_in path)

  -- a kind that was seen without a fault
  pub exactly : (see : RepositoryTestResult → RepositoryTestResult → Option Kind) (k : Option Kind) → k ≡ see at below → k ≡ see ((evidence_from_setting_and_sources given made s).repository_at path) ((evidence_from_setting_and_sources given made s).repository_in path)
  exactly see k is = is ∙ ap (λ (a : RepositoryTestResult). see a below) at_is ∙ ap (λ (b : RepositoryTestResult). see ((evidence_from_setting_and_sources given made s).repository_at path) b) below_is

  -- from the parts that were found to those of the evidence
  parts : (make : InIndex → Option PathspecMatch → Outcome) → make entry found ≡ make ((evidence_from_setting_and_sources given made s).in_index path) (pathspec_match_of_path (evidence_from_setting_and_sources given made s) path kind)
  parts make = ap (λ (e : InIndex). make e found) in_index_is ∙ ap (λ (f : Option PathspecMatch). make ((evidence_from_setting_and_sources given made s).in_index path) f) found_is

  pub indexed-class : (k : Option Kind) → k ≡ disk_kind_of_indexed_path given.options entry kind at below → outcome_of_index_entry entry k found ≡ outcome_of_indexed_path given.options (evidence_from_setting_and_sources given made s) path kind
  indexed-class k k_is =
      ap (λ (x : Option Kind). outcome_of_index_entry entry x found) (exactly (disk_kind_of_indexed_path given.options entry kind) k k_is)
      ∙ parts (λ e f. outcome_of_index_entry e (disk_kind_of_indexed_path given.options e kind ((evidence_from_setting_and_sources given made s).repository_at path) ((evidence_from_setting_and_sources given made s).repository_in path)) f)

  pub indexed-judged : (n0 n1 : ℕ) (on_disk k : Option Kind) → IsKindTestedAsRead n0 n1 (disk_kind_of_indexed_path given.options entry kind) at below k
      → IsOutcomeAsRead n0 n1 (λ _ ev. outcome_of_indexed_path given.options ev path kind) (evidence_from_setting_and_sources given made s) on_disk (outcome_of_index_entry entry k found)
  indexed-judged n0 n1 on_disk k is =
      judged-by n0 n1 (disk_kind_of_indexed_path given.options entry kind) (λ x. outcome_of_index_entry entry x found) (λ _ ev. outcome_of_indexed_path given.options ev path kind) (evidence_from_setting_and_sources given made s) path on_disk
      (λ a b. parts (λ e f. outcome_of_index_entry e (disk_kind_of_indexed_path given.options e kind (at_as a) (below_as b)) f)) k (seen n0 n1 (disk_kind_of_indexed_path given.options entry kind) k is)

  -- where none is looked for, the kind stays
  pub indexed-still : (k : Option Kind) → k ≡ kind → skips_repository_test given.options (is_directory_of_indexed_submodule entry kind) ≡ true → outcome_of_index_entry entry k found ≡ outcome_of_indexed_path given.options (evidence_from_setting_and_sources given made s) path kind
  indexed-still k same idle = indexed-class k (same ∙ indexed-idle given.options entry kind at below idle)

  pub ignored-class : (excluded : IgnoredAs) (k : Option Kind) → k ≡ disk_kind_of_ignored_path given.options kind at below
      → outcome_of_ignored_kind given.options path excluded entry found k ≡ outcome_of_ignored_path given.options (evidence_from_setting_and_sources given made s) path kind excluded
  ignored-class excluded k k_is =
      ap (λ (x : Option Kind). outcome_of_ignored_kind given.options path excluded entry found x) (exactly (disk_kind_of_ignored_path given.options kind) k k_is)
      ∙ parts (λ e f. outcome_of_ignored_kind given.options path excluded e f (disk_kind_of_ignored_path given.options kind ((evidence_from_setting_and_sources given made s).repository_at path) ((evidence_from_setting_and_sources given made s).repository_in path)))

  pub ignored-judged : (n0 n1 : ℕ) (excluded : IgnoredAs) (on_disk k : Option Kind) → IsKindTestedAsRead n0 n1 (disk_kind_of_ignored_path given.options kind) at below k
      → IsOutcomeAsRead n0 n1 (λ _ ev. outcome_of_ignored_path given.options ev path kind excluded) (evidence_from_setting_and_sources given made s) on_disk (outcome_of_ignored_kind given.options path excluded entry found k)
  ignored-judged n0 n1 excluded on_disk k is =
      judged-by n0 n1 (disk_kind_of_ignored_path given.options kind) (λ x. outcome_of_ignored_kind given.options path excluded entry found x) (λ _ ev. outcome_of_ignored_path given.options ev path kind excluded) (evidence_from_setting_and_sources given made s) path on_disk
      (λ a b. parts (λ e f. outcome_of_ignored_kind given.options path excluded e f (disk_kind_of_ignored_path given.options kind (at_as a) (below_as b)))) k (seen n0 n1 (disk_kind_of_ignored_path given.options kind) k is)

  abbrev looked : RepositoryTestResult → RepositoryTestResult → Option Kind
  looked = kind_after_repository_test given.options.recurse_repositories given.options.classify_untracked_bare_repositories kind

  pub directory-class : (k : Option Kind) → k ≡ looked at below → outcome_of_unignored_path Untracked entry k found ≡ outcome_of_untracked_directory given.options (evidence_from_setting_and_sources given made s) path kind
  directory-class k k_is =
      ap (λ (x : Option Kind). outcome_of_unignored_path Untracked entry x found) (exactly looked k k_is)
      ∙ parts (λ e f. outcome_of_unignored_path Untracked e (looked ((evidence_from_setting_and_sources given made s).repository_at path) ((evidence_from_setting_and_sources given made s).repository_in path)) f)

  pub directory-judged : (n0 n1 : ℕ) (on_disk k : Option Kind) → IsKindTestedAsRead n0 n1 looked at below k
      → IsOutcomeAsRead n0 n1 (λ _ ev. outcome_of_untracked_directory given.options ev path kind) (evidence_from_setting_and_sources given made s) on_disk (outcome_of_unignored_path Untracked entry k found)
  directory-judged n0 n1 on_disk k is =
      judged-by n0 n1 looked (λ x. outcome_of_unignored_path Untracked entry x found) (λ _ ev. outcome_of_untracked_directory given.options ev path kind) (evidence_from_setting_and_sources given made s) path on_disk
      (λ a b. parts (λ e f. outcome_of_unignored_path Untracked e (looked (at_as a) (below_as b)) f)) k (seen n0 n1 looked k is)

  pub directory-still : (k : Option Kind) → k ≡ kind → skips_repository_test given.options true ≡ true → outcome_of_unignored_path Untracked entry k found ≡ outcome_of_untracked_directory given.options (evidence_from_setting_and_sources given made s) path kind
  directory-still k same idle =
      directory-class k (same ∙ upgraded-idle given.options given.options.classify_untracked_bare_repositories kind at below idle)

  -- anything but a directory, with evidence that says the same of the index and of the path specs
  other-by : (ev : PathEvidence) → is_some_directory_kind kind ≡ false
      → outcome_of_unignored_path (if is_none (pathspec_match_of_path ev path kind) then Pruned else Untracked) (ev.in_index path) kind (pathspec_match_of_path ev path kind) ≡ outcome_by_ignore_kind given.options ev path kind None
  other-by ev none = sym (shut (is_some_directory_kind kind) none)
    where
      shut : (b : Bool) → b ≡ false → (if b then outcome_of_untracked_directory given.options ev path kind else outcome_of_untracked_non_directory ev path kind) ≡ outcome_of_untracked_non_directory ev path kind
      shut true e = absurd (cc e)
      shut false e = refl

  pub other-class : is_some_directory_kind kind ≡ false → outcome_of_unignored_path (if is_none found then Pruned else Untracked) entry kind found ≡ outcome_by_ignore_kind given.options (evidence_from_setting_and_sources given made s) path kind None
  other-class none = parts (λ e f. outcome_of_unignored_path (if is_none f then Pruned else Untracked) e kind f) ∙ other-by (evidence_from_setting_and_sources given made s) none

  pub other-judged : (n0 n1 : ℕ) → n0 ≤ n1 → is_some_directory_kind kind ≡ false → (on_disk : Option Kind)
      → IsOutcomeAsRead n0 n1 (λ _ ev. outcome_by_ignore_kind given.options ev path kind None) (evidence_from_setting_and_sources given made s) on_disk (outcome_of_unignored_path (if is_none found then Pruned else Untracked) entry kind found)
  other-judged n0 n1 more none on_disk =
      judged-unread n0 n1 (λ _ ev. outcome_by_ignore_kind given.options ev path kind None) (evidence_from_setting_and_sources given made s) on_disk (outcome_of_unignored_path (if is_none found then Pruned else Untracked) entry kind found) more
      (parts (λ e f. outcome_of_unignored_path (if is_none f then Pruned else Untracked) e kind f) ∙ other-by (evidence_as_read no_question_failed (evidence_from_setting_and_sources given made s)) none)

-- a directory that no rule excludes
pub directory-by-rules : (o : WalkOptions) (ev : PathEvidence) (path : List ℕ) (kind : Option Kind) → is_some_directory_kind kind ≡ true → outcome_of_untracked_directory o ev path kind ≡ outcome_by_ignore_kind o ev path kind None
directory-by-rules o ev path kind some = sym (open-case (is_some_directory_kind kind) some)
  where
    open-case : (b : Bool) → b ≡ true → (if b then outcome_of_untracked_directory o ev path kind else outcome_of_untracked_non_directory ev path kind) ≡ outcome_of_untracked_directory o ev path kind
    open-case true e = refl
    open-case false e = absurd (cc e)
