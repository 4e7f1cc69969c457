-- What was read of a path, by the answers that were had, and what of them failed.
use Rattle.std.proofs.Common.{◌≡◌, ◌≤◌, ◌∙◌, ap, sym, ℕ, ◌+◌, List, Bool, true, false, not, ◌&&◌, ◌||◌, Option, Some, refl, inl, inr, arith}
use Rattle.std.specs.Prelude.{◌⊎◌, if◌then◌else◌, nat_lt}
use borrow.Author.Tests.{ltb-true}
use Rattle.std.proofs.lemmas.Bool.{ltb-false}
use Rattle.worktree_fs.specs.Causes.{CountIncreasedOrSaturated, CountNotIncreased, saturating_increment}
use Rattle.dir_classify.specs.declared.entry.Kind.{Kind}
use Rattle.dir_classify.specs.declared.entry.Kind.TheVariants.{Repository}
use Rattle.dir_classify.specs.declared.classify.Outcome.{Outcome}
use Rattle.dir_classify.specs.Class.{kind_after_repository_test}
use Rattle.dir_classify.specs.Evidence.{PathEvidence, RepositoryTestResult, is_foreign_repository}
use Rattle.dir_classify.specs.Faults.{CountsFaultsAtLeast, Failed, FailedRepositoryQuestions, IsOutcomeAsRead, IsKindTestedAsRead, IsRepositoryTestAsRead, repository_test_as_read, count_failed_repository_questions, kind_unless_failed, no_repository_question_failed, no_question_failed, count_of_flag, evidence_as_read}

-- a fault was counted, or none was
pub rose-or : (before now : ℕ) → CountNotIncreased before now ⊎ CountIncreasedOrSaturated before now
rose-or before now = go (nat_lt now (saturating_increment before)) refl
  where
    go : (b : Bool) → nat_lt now (saturating_increment before) ≡ b → CountNotIncreased before now ⊎ CountIncreasedOrSaturated before now
    go true e = inl (ltb-true now (saturating_increment before) e)
    go false e = inr (ltb-false now (saturating_increment before) e)

-- ---- a test of where a path leads

-- it does not lead to a repository, or that could not be tested
pub tested-none : (n0 n1 : ℕ) (at : RepositoryTestResult) → n0 ≤ n1 → (CountNotIncreased n0 n1 → false ≡ at.is_git) → IsRepositoryTestAsRead n0 n1 is_foreign_repository at false
tested-none n0 n1 at more exact = go (rose-or n0 n1)
  where
    go : CountNotIncreased n0 n1 ⊎ CountIncreasedOrSaturated n0 n1 → IsRepositoryTestAsRead n0 n1 is_foreign_repository at false
    go (inl quiet) = record { failed = no_repository_question_failed; counted = omega (arith, more); is_so = ap (λ b. b && not at.is_own) (exact quiet) }
    go (inr rose) = record { failed = record { is_git = true; is_own = false }; counted = rose; is_so = refl }

-- it does, and to the own one, to another one, or where to could not be had
pub tested-own : (n0 n1 n2 : ℕ) (at : RepositoryTestResult) (own : Bool) → n0 ≤ n1 → n1 ≤ n2 → true ≡ at.is_git → (CountNotIncreased n1 n2 → own ≡ at.is_own) → (own ≡ true → at.is_own ≡ true)
    → IsRepositoryTestAsRead n0 n2 is_foreign_repository at (not own)
tested-own n0 n1 n2 at true a b git exact true_only =
    record {
      failed = no_repository_question_failed;
      counted = omega (arith, a, b);
      is_so = ap (λ x. x && false) git ∙ ap (λ x. at.is_git && not x) (sym (true_only refl));
    }
tested-own n0 n1 n2 at false a b git exact true_only = go (rose-or n1 n2)
  where
    go : CountNotIncreased n1 n2 ⊎ CountIncreasedOrSaturated n1 n2 → IsRepositoryTestAsRead n0 n2 is_foreign_repository at true
    go (inl quiet) = record { failed = no_repository_question_failed; counted = omega (arith, a, b); is_so = ap (λ x. x && true) git ∙ ap (λ x. at.is_git && not x) (exact quiet) }
    go (inr rose) = record { failed = record { is_git = false; is_own = true }; counted = omega (arith, a, rose); is_so = ap (λ x. x && true) git }

-- it is asked for or not
pub tested-unasked : (n : ℕ) (asked : Bool) (at : RepositoryTestResult) → asked ≡ false → IsRepositoryTestAsRead n n (λ a. asked && is_foreign_repository a) at false
tested-unasked n asked at off = record { failed = no_repository_question_failed; counted = omega arith; is_so = rw off refl }

pub tested-asked : (n0 n1 : ℕ) (asked : Bool) (at : RepositoryTestResult) (is : Bool) → asked ≡ true → IsRepositoryTestAsRead n0 n1 is_foreign_repository at is → IsRepositoryTestAsRead n0 n1 (λ a. asked && is_foreign_repository a) at is
tested-asked n0 n1 asked at is on tested = record { failed = tested.failed; counted = tested.counted; is_so = tested.is_so ∙ rw on refl }

-- ---- a kind by two tests

seen-by : (n0 n1 : ℕ) (recurses hard : Bool) (kind : Option Kind) (at below : RepositoryTestResult) (fa fb : FailedRepositoryQuestions) (x y : Bool) → recurses ≡ false
    → x ≡ (hard && is_foreign_repository (repository_test_as_read fa at)) → y ≡ is_foreign_repository (repository_test_as_read fb below) → CountsFaultsAtLeast n0 n1 (count_failed_repository_questions fa + count_failed_repository_questions fb)
    → IsKindTestedAsRead n0 n1 (kind_after_repository_test recurses hard kind) at below (if x || y then Some Repository else kind)
seen-by n0 n1 recurses hard kind at below fa fb x y off x_is y_is counted =
    record {
      failed_at = fa;
      failed_below = fb;
      counted = counted;
      kind_is =
          ap (λ b. if b || y then Some Repository else kind) x_is
          ∙ ap (λ b. if (hard && is_foreign_repository (repository_test_as_read fa at)) || b then Some Repository else kind) y_is
          ∙ rw off refl;
    }

pub upgraded-unasked : (n : ℕ) (recurses hard : Bool) (kind : Option Kind) (at below : RepositoryTestResult) → recurses ≡ true → IsKindTestedAsRead n n (kind_after_repository_test recurses hard kind) at below kind
upgraded-unasked n recurses hard kind at below on = record { failed_at = no_repository_question_failed; failed_below = no_repository_question_failed; counted = omega arith; kind_is = rw on refl }

module _ (n0 n1 : ℕ) (recurses hard : Bool) (kind : Option Kind) (at below : RepositoryTestResult) (off : recurses ≡ false) where
  pub upgraded-at : IsRepositoryTestAsRead n0 n1 (λ a. hard && is_foreign_repository a) at true → IsKindTestedAsRead n0 n1 (kind_after_repository_test recurses hard kind) at below (Some Repository)
  upgraded-at first = seen-by n0 n1 recurses hard kind at below first.failed no_repository_question_failed true (is_foreign_repository (repository_test_as_read no_repository_question_failed below)) off first.is_so refl (let c = first.counted in omega (arith, c))

  pub upgraded-below : (n2 : ℕ) (is : Bool) → IsRepositoryTestAsRead n0 n1 (λ a. hard && is_foreign_repository a) at false → IsRepositoryTestAsRead n1 n2 is_foreign_repository below is
      → IsKindTestedAsRead n0 n2 (kind_after_repository_test recurses hard kind) at below (if is then Some Repository else kind)
  upgraded-below n2 is first second =
      seen-by n0 n2 recurses hard kind at below first.failed second.failed false is off first.is_so second.is_so (let a = first.counted in let b = second.counted in omega (arith, a, b))

-- nothing was read
pub seen-unread : (n : ℕ) (judge : RepositoryTestResult → RepositoryTestResult → Option Kind) (at below : RepositoryTestResult) (kind : Option Kind) → kind ≡ judge at below → IsKindTestedAsRead n n judge at below kind
seen-unread n judge at below kind is = record { failed_at = no_repository_question_failed; failed_below = no_repository_question_failed; counted = omega arith; kind_is = is }

-- by another way to say the same
pub seen-as : (n0 n1 : ℕ) (judge other : RepositoryTestResult → RepositoryTestResult → Option Kind) (at below : RepositoryTestResult) (kind : Option Kind) → ((a b : RepositoryTestResult) → judge a b ≡ other a b)
    → IsKindTestedAsRead n0 n1 judge at below kind → IsKindTestedAsRead n0 n1 other at below kind
seen-as n0 n1 judge other at below kind same seen =
    record {
      failed_at = seen.failed_at;
      failed_below = seen.failed_below;
      counted = seen.counted;
      kind_is = seen.kind_is ∙ same (repository_test_as_read seen.failed_at at) (repository_test_as_read seen.failed_below below);
    }

-- a kind that is looked at on a condition
pub seen-off : (n : ℕ) (test : Bool) (see : RepositoryTestResult → RepositoryTestResult → Option Kind) (at below : RepositoryTestResult) (kind : Option Kind) → test ≡ false
    → IsKindTestedAsRead n n (λ a b. if test then see a b else kind) at below kind
seen-off n test see at below kind off = seen-unread n (λ a b. if test then see a b else kind) at below kind (rw off refl)

pub seen-on : (n0 n1 : ℕ) (test : Bool) (see : RepositoryTestResult → RepositoryTestResult → Option Kind) (at below : RepositoryTestResult) (kind k : Option Kind) → test ≡ true
    → IsKindTestedAsRead n0 n1 see at below k → IsKindTestedAsRead n0 n1 (λ a b. if test then see a b else kind) at below k
seen-on n0 n1 test see at below kind k on seen = seen-as n0 n1 see (λ a b. if test then see a b else kind) at below k (λ a b. rw on refl) seen

pub exactly-on : (test : Bool) (see : RepositoryTestResult → RepositoryTestResult → Option Kind) (at below : RepositoryTestResult) (kind k : Option Kind) → test ≡ true → k ≡ see at below
    → k ≡ (if test then see at below else kind)
exactly-on test see at below kind k on is = rw on is

-- ---- a class

-- by a kind that was seen
pub judged-by : (n0 n1 : ℕ) (see : RepositoryTestResult → RepositoryTestResult → Option Kind) (from : Option Kind → Outcome) (judge : Option Kind → PathEvidence → Outcome) (ev : PathEvidence) (path : List ℕ) (on_disk : Option Kind)
    → ((fa fb : FailedRepositoryQuestions) → from (see (repository_test_as_read fa (ev.repository_at path)) (repository_test_as_read fb (ev.repository_in path))) ≡ judge on_disk (evidence_as_read (record no_question_failed { at = fa; below = fb }) ev))
    → (kind : Option Kind) → IsKindTestedAsRead n0 n1 see (ev.repository_at path) (ev.repository_in path) kind → IsOutcomeAsRead n0 n1 judge ev on_disk (from kind)
judged-by n0 n1 see from judge ev path on_disk same kind seen =
    record {
      failed = record no_question_failed { at = seen.failed_at; below = seen.failed_below };
      counted = (let c = seen.counted in omega (arith, c));
      class_is = ap from seen.kind_is ∙ same seen.failed_at seen.failed_below;
    }

-- by another way to say the same
pub judged-as : (n0 n1 : ℕ) (judge other : Option Kind → PathEvidence → Outcome) (ev : PathEvidence) (on_disk : Option Kind) (c : Outcome)
    → ((k : Option Kind) (failed : Failed) → judge k (evidence_as_read failed ev) ≡ other k (evidence_as_read failed ev)) → IsOutcomeAsRead n0 n1 judge ev on_disk c → IsOutcomeAsRead n0 n1 other ev on_disk c
judged-as n0 n1 judge other ev on_disk c same judged =
    record {
      failed = judged.failed;
      counted = judged.counted;
      class_is = judged.class_is ∙ same (kind_unless_failed judged.failed.kind on_disk) judged.failed;
    }

-- with more said of it
pub judged-with : (n0 n1 : ℕ) (more : Outcome → Outcome) (judge : Option Kind → PathEvidence → Outcome) (ev : PathEvidence) (on_disk : Option Kind) (c : Outcome)
    → IsOutcomeAsRead n0 n1 judge ev on_disk c → IsOutcomeAsRead n0 n1 (λ k read. more (judge k read)) ev on_disk (more c)
judged-with n0 n1 more judge ev on_disk c judged = record { failed = judged.failed; counted = judged.counted; class_is = ap more judged.class_is }

-- where nothing failed
pub judged-unread : (n0 n1 : ℕ) (judge : Option Kind → PathEvidence → Outcome) (ev : PathEvidence) (on_disk : Option Kind) (c : Outcome)
    → n0 ≤ n1 → c ≡ judge on_disk (evidence_as_read no_question_failed ev) → IsOutcomeAsRead n0 n1 judge ev on_disk c
judged-unread n0 n1 judge ev on_disk c more is = record { failed = no_question_failed; counted = omega (arith, more); class_is = is }

-- the kind on disk was asked first
pub judged-kind : (n0 n1 n2 : ℕ) (judge other : Option Kind → PathEvidence → Outcome) (ev : PathEvidence) (any on_disk : Option Kind) (failed_kind : Bool) (c : Outcome)
    → CountsFaultsAtLeast n0 n1 (count_of_flag failed_kind)
    → ((failed : Failed) → judge (kind_unless_failed failed.kind any) (evidence_as_read failed ev) ≡ other (kind_unless_failed failed_kind on_disk) (evidence_as_read failed ev))
    → IsOutcomeAsRead n1 n2 judge ev any c → IsOutcomeAsRead n0 n2 other ev on_disk c
judged-kind n0 n1 n2 judge other ev any on_disk failed_kind c counted same judged =
    record {
      failed = record judged.failed { kind = failed_kind };
      counted = (let later = judged.counted in omega (arith, counted, later));
      class_is = judged.class_is ∙ same judged.failed;
    }
