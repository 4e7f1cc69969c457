-- Where no repository is looked for.
use Rattle.std.proofs.Common.{◌≡◌, ◌∙◌, ap, sym, ℕ, List, Bool, true, false, not, ◌&&◌, ◌||◌, Option, Some, None, refl, inl, inr}
use Rattle.std.specs.Prelude.{◌⊎◌, if◌then◌else◌, is_some}
use Rattle.glob_rules.specs.declared.ignore.Kind.{Kind as IgnoredAs}
use Rattle.dir_classify.specs.declared.entry.Kind.{Kind}
use Rattle.dir_classify.specs.declared.entry.Kind.TheVariants.{Directory, File, Repository, Symlink, Untrackable}
use Rattle.dir_classify.specs.declared.entry.PathspecMatch.{PathspecMatch}
use Rattle.dir_classify.specs.declared.entry.Status.TheVariants.{Pruned, Tracked, Untracked}
use Rattle.dir_classify.specs.declared.excludes.Ruling.{Ruling}
use Rattle.dir_classify.specs.declared.index.InIndex.{InIndex}
use Rattle.dir_classify.specs.Chosen.{WalkOptions}
use Rattle.dir_classify.specs.Class.{outcome_of_unignored_path, outcome_of_index_entry, outcome_of_ignored_kind, deletion_finds_repositories_in_ignored, disk_kind_of_indexed_path, skips_repository_test, index_and_disk_agree_on_directory, is_in_worktree_set, may_have_tested_for_repository, may_have_tested_with_status, ruling_unless_worktree_root, tests_unindexed_for_repository, is_directory_of_indexed_submodule, tests_for_repository_with_known_kind, kind_after_repository_test}
use Rattle.dir_classify.specs.Evidence.{PathEvidence, RepositoryTestResult}
use Rattle.dir_classify.specs.Kinds.{is_some_directory_kind, is_plain_directory_kind, is_repository_kind}

not-false : (b : Bool) → not b ≡ false → b ≡ true
not-false true e = refl
not-false false e = absurd (cc e)

or-none : (a : Bool) → (a || true) ≡ true
or-none true = refl
or-none false = refl

-- what neither is nor asks for it
either-off : (a b : Bool) → (not a && b) ≡ false → (a || not b) ≡ true
either-off true b e = refl
either-off false false e = refl
either-off false true e = absurd (cc e)

-- ---- by the evidence

pub idle-indexed-sought : (o : WalkOptions) (ev : PathEvidence) (path : List ℕ) (kind : Option Kind) → is_in_worktree_set o path ≡ false → index_and_disk_agree_on_directory (ev.in_index path) kind ≡ true
    → tests_for_repository_with_known_kind o ev path kind ≡ false → skips_repository_test o (is_directory_of_indexed_submodule (ev.in_index path) kind) ≡ true
idle-indexed-sought o ev path kind none is e = not-false (skips_repository_test o (is_directory_of_indexed_submodule (ev.in_index path) kind)) (rw (none, is) at e)

pub idle-unindexed-sought : (o : WalkOptions) (ev : PathEvidence) (path : List ℕ) (kind : Option Kind) (ruling : Ruling) → is_in_worktree_set o path ≡ false → index_and_disk_agree_on_directory (ev.in_index path) kind ≡ false
    → ruling ≡ ruling_unless_worktree_root o ev path kind → tests_for_repository_with_known_kind o ev path kind ≡ false → skips_repository_test o (tests_unindexed_for_repository o kind ruling.kind) ≡ true
idle-unindexed-sought o ev path kind ruling none not_indexed is e =
    ap (λ (r : Ruling). skips_repository_test o (tests_unindexed_for_repository o kind r.kind)) is
    ∙ not-false (skips_repository_test o (tests_unindexed_for_repository o kind (ruling_unless_worktree_root o ev path kind).kind)) (rw (none, not_indexed) at e)

-- ---- by the class

-- a directory stays one that holds names, also where it is seen as a repository
still-holds : (kind seen : Option Kind) → is_some_directory_kind kind ≡ true → (seen ≡ kind) ⊎ (seen ≡ Some Repository) → is_some_directory_kind seen ≡ true
still-holds kind seen is (inl same) = ap is_some_directory_kind same ∙ is
still-holds kind seen is (inr repository) = ap is_some_directory_kind repository

pub sought-directory : (o : WalkOptions) (entry : InIndex) (kind seen : Option Kind) (found : Option PathspecMatch) → is_some_directory_kind kind ≡ true → (seen ≡ kind) ⊎ (seen ≡ Some Repository)
    → may_have_tested_for_repository o (outcome_of_unignored_path Untracked entry seen found) ≡ false → skips_repository_test o true ≡ true
sought-directory o entry kind seen found is either e =
    either-off o.recurse_repositories true (ap (λ b. not o.recurse_repositories && b) (sym (still-holds kind seen is either)) ∙ e)

pub sought-ignored : (o : WalkOptions) (path : List ℕ) (excluded : IgnoredAs) (entry : InIndex) (found : Option PathspecMatch) (seen : Option Kind)
    → may_have_tested_for_repository o (outcome_of_ignored_kind o path excluded entry found seen) ≡ false → skips_repository_test o (deletion_finds_repositories_in_ignored o) ≡ true
sought-ignored o path excluded entry found seen e = go o.recurse_repositories (deletion_finds_repositories_in_ignored o) e
  where
    go : (a b : Bool) → (not a && (b && true)) ≡ false → (a || not b) ≡ true
    go true b e = refl
    go false false e = refl
    go false true e = absurd (cc e)

directory-holds : (kind : Option Kind) → is_plain_directory_kind kind ≡ true → is_some_directory_kind kind ≡ true
directory-holds None e = absurd (cc e)
directory-holds (Some Directory) e = refl
directory-holds (Some Repository) e = absurd (cc e)
directory-holds (Some Untrackable) e = absurd (cc e)
directory-holds (Some File) e = absurd (cc e)
directory-holds (Some Symlink) e = absurd (cc e)

pub sought-indexed : (o : WalkOptions) (entry : InIndex) (kind seen : Option Kind) (found : Option PathspecMatch) → (seen ≡ kind) ⊎ (seen ≡ Some Repository)
    → may_have_tested_for_repository o (outcome_of_index_entry entry seen found) ≡ false → skips_repository_test o (is_directory_of_indexed_submodule entry kind) ≡ true
sought-indexed o entry kind seen found either e = go (is_plain_directory_kind kind) refl
  where
    by-status : (b : Bool) → (not o.recurse_repositories && may_have_tested_with_status o (outcome_of_index_entry entry seen found) (if b then Pruned else Tracked)) ≡ false
        → (not o.recurse_repositories && (is_some_directory_kind seen && is_repository_kind entry.kind)) ≡ false
    by-status true f = f
    by-status false f = f

    go : (b : Bool) → is_plain_directory_kind kind ≡ b → (o.recurse_repositories || not (is_plain_directory_kind kind && is_repository_kind entry.kind)) ≡ true
    go false is = ap (λ x. o.recurse_repositories || not (x && is_repository_kind entry.kind)) is ∙ or-none o.recurse_repositories
    go true is =
        ap (λ x. o.recurse_repositories || not (x && is_repository_kind entry.kind)) is
        ∙ either-off o.recurse_repositories (is_repository_kind entry.kind)
        (ap (λ x. not o.recurse_repositories && (x && is_repository_kind entry.kind)) (sym (still-holds kind seen (directory-holds kind is) either)) ∙ by-status (is_some entry.sparse) e)

-- ---- then a kind stays as it is

pub upgraded-idle : (o : WalkOptions) (hard : Bool) (kind : Option Kind) (at below : RepositoryTestResult) → skips_repository_test o true ≡ true → kind ≡ kind_after_repository_test o.recurse_repositories hard kind at below
upgraded-idle o hard kind at below idle = go o.recurse_repositories idle
  where
    go : (b : Bool) → (b || false) ≡ true → kind ≡ kind_after_repository_test b hard kind at below
    go true e = refl
    go false e = absurd (cc e)

pub indexed-idle : (o : WalkOptions) (entry : InIndex) (kind : Option Kind) (at below : RepositoryTestResult) → skips_repository_test o (is_directory_of_indexed_submodule entry kind) ≡ true → kind ≡ disk_kind_of_indexed_path o entry kind at below
indexed-idle o entry kind at below idle = go (is_directory_of_indexed_submodule entry kind) idle
  where
    go : (b : Bool) → skips_repository_test o b ≡ true → kind ≡ (if b then kind_after_repository_test o.recurse_repositories false kind at below else kind)
    go true e = upgraded-idle o false kind at below e
    go false e = refl
