-- Which questions about a path failed, and its class by what was read.
--
-- A fault of such a question is swallowed and counted: the class is the one by what was read, and each question that failed has cost
-- one fault.
use Rattle.std.specs.Prelude.{◌≡◌, ◌≤◌, ℕ, ◌+◌, Bool, true, false, not, ◌&&◌, if◌then◌else◌, Option, None}
use Rattle.worktree_fs.specs.Causes.{saturating_sum}
use Rattle.dir_classify.specs.declared.entry.Kind.{Kind}
use Rattle.dir_classify.specs.declared.classify.Outcome.{Outcome}
use Rattle.dir_classify.specs.declared.excludes.Ruling.{Ruling}
use Rattle.worktree_stack.specs.declared.error.AtPathError.{AtPathError}
use Rattle.worktree_stack.specs.Refused.{HoldsOnFaultError}
use Rattle.dir_classify.specs.Evidence.{PathEvidence, RepositoryTestResult}
use Rattle.dir_classify.specs.Question.{ClassQuestion}

-- ---- which questions failed

-- Of where a path leads: whether that is a repository, and whether it is the own git directory.
pub record FailedRepositoryQuestions : Type 0 where
  pub is_git : Bool
  pub is_own : Bool

-- Of a path: the kind of the node there, the kind that a link there leads to, where it leads itself, and where `.git` in it leads.
pub record Failed : Type 0 where
  pub kind : Bool
  pub followed : Bool
  pub at : FailedRepositoryQuestions
  pub below : FailedRepositoryQuestions

-- both answers about where a path leads were read as they are
abbrev pub no_repository_question_failed : FailedRepositoryQuestions
no_repository_question_failed = record { is_git = false; is_own = false }

-- all answers about the path were read as they are: its class is the one by the whole evidence
abbrev pub no_question_failed : Failed
no_question_failed = record { kind = false; followed = false; at = no_repository_question_failed; below = no_repository_question_failed }

-- how many they are
abbrev pub count_of_flag : Bool → ℕ
count_of_flag failed = if failed then 1 else 0

-- 0 to 2: the test for a repository, and that for the own git directory
abbrev pub count_failed_repository_questions : FailedRepositoryQuestions → ℕ
count_failed_repository_questions failed = count_of_flag failed.is_git + count_of_flag failed.is_own

-- 0 to 6: two about the kind, and two each of the path itself and of `.git` in it
abbrev pub count_failed_questions : Failed → ℕ
count_failed_questions failed = count_of_flag failed.kind + count_of_flag failed.followed + count_failed_repository_questions failed.at + count_failed_repository_questions failed.below

-- So many faults were counted, at least: a question fails by a fault of its own.
abbrev pub CountsFaultsAtLeast : ℕ → ℕ → ℕ → Type 0
CountsFaultsAtLeast before now failures = saturating_sum before failures ≤ now

-- ---- what was read

-- a kind that could not be had reads as none
abbrev pub kind_unless_failed : Bool → Option Kind → Option Kind
kind_unless_failed failed kind = if failed then None else kind

-- a repository that could not be tested reads as none, and a real path that could not be had as that of another one than the own
abbrev pub repository_test_as_read : FailedRepositoryQuestions → RepositoryTestResult → RepositoryTestResult
repository_test_as_read failed at = record { is_git = not failed.is_git && at.is_git; is_own = not failed.is_own && at.is_own }

-- The evidence as it was read. What the index, the path specs and the rules say is as it is.
abbrev pub evidence_as_read : Failed → PathEvidence → PathEvidence
evidence_as_read failed ev =
    record ev {
      followed = λ path. kind_unless_failed failed.followed (ev.followed path);
      repository_at = λ path. repository_test_as_read failed.at (ev.repository_at path);
      repository_in = λ path. repository_test_as_read failed.below (ev.repository_in path);
    }

-- ---- the class by what was read

-- A test of where a path leads, by what was read of that. The faults were `before` and are `now`.
pub record IsRepositoryTestAsRead (before now : ℕ) (test : RepositoryTestResult → Bool) (at : RepositoryTestResult) (is : Bool) : Type 0 where
  pub failed : FailedRepositoryQuestions
  pub counted : CountsFaultsAtLeast before now (count_failed_repository_questions failed)
  pub is_so : is ≡ test (repository_test_as_read failed at)

-- A kind that was judged by what was read of where a path and `.git` in it lead.
pub record IsKindTestedAsRead (before now : ℕ) (judge : RepositoryTestResult → RepositoryTestResult → Option Kind) (at below : RepositoryTestResult) (kind : Option Kind) : Type 0 where
  pub failed_at : FailedRepositoryQuestions
  pub failed_below : FailedRepositoryQuestions
  pub counted : CountsFaultsAtLeast before now (count_failed_repository_questions failed_at + count_failed_repository_questions failed_below)
  pub kind_is : kind ≡ judge (repository_test_as_read failed_at at) (repository_test_as_read failed_below below)

-- What the rules said of a path, by what was read of the kind that a link there leads to.
pub record IsRulingAsRead (before now : ℕ) (judge : PathEvidence → Ruling) (ev : PathEvidence) (ruling : Ruling) : Type 0 where
  pub failed : Bool
  pub counted : CountsFaultsAtLeast before now (count_of_flag failed)
  pub ruling_is : ruling ≡ judge (evidence_as_read (record no_question_failed { followed = failed }) ev)

-- A class that was judged by what was read of a path, and of the kind of its node. Where no fault was counted nothing failed, and it
-- is the class; and with so many faults at most so many questions were misread.
pub record IsOutcomeAsRead (before now : ℕ) (judge : Option Kind → PathEvidence → Outcome) (ev : PathEvidence) (on_disk : Option Kind) (class : Outcome) : Type 0 where
  pub failed : Failed
  pub counted : CountsFaultsAtLeast before now (count_failed_questions failed)
  pub class_is : class ≡ judge (kind_unless_failed failed.kind on_disk) (evidence_as_read failed ev)

-- A class as it was judged; and the rules that are asked by the kind that was read can be read.
pub record IsOutcomeWithRulesRead (before now : ℕ) (q : ClassQuestion) (ev : PathEvidence) (on_disk : Option Kind) (class : Outcome) : Type 0 where
  pub judged : IsOutcomeAsRead before now q.judge ev on_disk class
  pub read : (q.asks (kind_unless_failed judged.failed.kind on_disk) ev && ev.is_unread q.path) ≡ false

-- And this holds where by the kind that was read no rules are asked.
abbrev pub IsOutcomeWithRulesReadOrUnasked : (before now : ℕ) → ClassQuestion → PathEvidence → Option Kind → Type 0 → Outcome → Type 0
IsOutcomeWithRulesReadOrUnasked before now q ev on_disk Unasked class =
    (classed : IsOutcomeWithRulesRead before now q ev on_disk class) × (q.asks (kind_unless_failed classed.judged.failed.kind on_disk) ev ≡ false → Unasked)

-- ---- a refusal by what was read

-- The rules were asked by the kind that was read, and refused so: a fault was counted if that kind was misread, and one more if the
-- worktree failed as the rules were read.
pub record IsRefusedByKindAsRead (before now : ℕ) (asks : Option Kind → Bool) (on_disk : Option Kind) (e : AtPathError) : Type 0 where
  pub failed : Bool
  pub counted : CountsFaultsAtLeast before now (count_of_flag failed)
  pub refused : HoldsOnFaultError (CountsFaultsAtLeast before now (count_of_flag failed + 1)) (Unit {0}) e
  pub asked : asks (kind_unless_failed failed on_disk) ≡ true
