-- A class as it was judged, and the rules that were asked for it.
use Rattle.std.proofs.Common.{◌≡◌, ◌≤◌, ◌∙◌, ap, sym, ℕ, ◌+◌, Bool, true, false, ◌&&◌, Option, refl, arith}
use Rattle.worktree_fs.specs.Causes.{CountIncreasedOrSaturated, CountNotIncreased}
use Rattle.dir_classify.specs.declared.classify.Outcome.{Outcome}
use Rattle.dir_classify.specs.declared.entry.Kind.{Kind}
use Rattle.dir_classify.specs.declared.error.Error.{Error}
use Rattle.dir_classify.specs.declared.error.Error.TheVariants as errors
use Rattle.dir_classify.specs.Evidence.{PathEvidence}
use Rattle.dir_classify.specs.Faults.{CountsFaultsAtLeast, Failed, IsRefusedByKindAsRead, IsOutcomeWithRulesReadOrUnasked, IsOutcomeAsRead, kind_unless_failed, count_of_flag, evidence_as_read}
use Rattle.dir_classify.specs.Question.{ClassQuestion}
use Rattle.dir_classify.specs.Refused.{HoldsIfExcludesError, HoldsIfFaultError, HoldsOfExcludesError}
use Rattle.worktree_stack.specs.declared.error.AtPathError.{AtPathError}
use Rattle.worktree_stack.specs.Refused as lookups
use Rattle.dir_classify.proofs.Refusals.{lookup-weaker}

-- ---- a class

-- the rules are asked or not, whatever the kind on disk is
pub classed-as-judged : {P : Type 0} (n0 n1 : ℕ) (q : ClassQuestion) (ev : PathEvidence) (on_disk : Option Kind) (c : Outcome) → IsOutcomeAsRead n0 n1 q.judge ev on_disk c
    → ((kind : Option Kind) → (q.asks kind ev && ev.is_unread q.path) ≡ false) → ((kind : Option Kind) → q.asks kind ev ≡ false → P) → IsOutcomeWithRulesReadOrUnasked n0 n1 q ev on_disk P c
classed-as-judged n0 n1 q ev on_disk c judged read unasked =
    (record { judged = judged; read = read (kind_unless_failed judged.failed.kind on_disk) }, λ no. unasked (kind_unless_failed judged.failed.kind on_disk) no)

-- by another way to say the same
pub classed-as : {P : Type 0} (n0 n1 : ℕ) (q other : ClassQuestion) (ev : PathEvidence) (on_disk : Option Kind) (c : Outcome) → ev.is_unread q.path ≡ ev.is_unread other.path
    → ((k : Option Kind) (failed : Failed) → q.judge k (evidence_as_read failed ev) ≡ other.judge k (evidence_as_read failed ev)) → ((k : Option Kind) → q.asks k ev ≡ other.asks k ev)
    → IsOutcomeWithRulesReadOrUnasked n0 n1 q ev on_disk P c → IsOutcomeWithRulesReadOrUnasked n0 n1 other ev on_disk P c
classed-as n0 n1 q other ev on_disk c unread same asks classed =
    let judged = classed.0.judged in
    let kind : Option Kind = kind_unless_failed judged.failed.kind on_disk in (
      record {
        judged = record { failed = judged.failed; counted = judged.counted; class_is = judged.class_is ∙ same kind judged.failed };
        read = ap (λ b. b && ev.is_unread other.path) (sym (asks kind)) ∙ ap (λ b. q.asks kind ev && b) (sym unread) ∙ classed.0.read;
      },
      λ no. classed.1 (asks kind ∙ no),
    )

-- the kind on disk was asked first
pub classed-kind : {P Q : Type 0} (n0 n1 n2 : ℕ) (q other : ClassQuestion) (ev : PathEvidence) (any on_disk : Option Kind) (failed_kind : Bool) (c : Outcome) → (P → Q)
    → CountsFaultsAtLeast n0 n1 (count_of_flag failed_kind) → ev.is_unread q.path ≡ ev.is_unread other.path
    → ((failed : Failed) → q.judge (kind_unless_failed failed.kind any) (evidence_as_read failed ev) ≡ other.judge (kind_unless_failed failed_kind on_disk) (evidence_as_read failed ev))
    → ((b : Bool) → q.asks (kind_unless_failed b any) ev ≡ other.asks (kind_unless_failed failed_kind on_disk) ev)
    → IsOutcomeWithRulesReadOrUnasked n1 n2 q ev any P c → IsOutcomeWithRulesReadOrUnasked n0 n2 other ev on_disk Q c
classed-kind n0 n1 n2 q other ev any on_disk failed_kind c more counted unread same asks classed =
    let judged = classed.0.judged in (
      record {
        judged = record {
          failed = record judged.failed { kind = failed_kind };
          counted = (let later = judged.counted in omega (arith, counted, later));
          class_is = judged.class_is ∙ same judged.failed;
        };
        read = ap (λ b. b && ev.is_unread other.path) (sym (asks judged.failed.kind)) ∙ ap (λ b. q.asks (kind_unless_failed judged.failed.kind any) ev && b) (sym unread) ∙ classed.0.read;
      },
      λ no. more (classed.1 (asks judged.failed.kind ∙ no)),
    )

-- ---- a refusal

lookup-asked : (n0 n1 : ℕ) (asks : Option Kind → Bool) (on_disk : Option Kind) (StoreFailed : Type 0) (e : AtPathError) → n0 ≤ n1 → asks on_disk ≡ true
    → lookups.HoldsOnFaultError (CountIncreasedOrSaturated n0 n1) StoreFailed e → IsRefusedByKindAsRead n0 n1 asks on_disk e
lookup-asked n0 n1 asks on_disk StoreFailed e more asks_so cause =
    record {
      failed = false;
      counted = omega (arith, more);
      refused = lookup-weaker (CountIncreasedOrSaturated n0 n1) StoreFailed (CountsFaultsAtLeast n0 n1 (count_of_flag false + 1)) (Unit {0}) e (λ rose. omega (arith, rose)) (λ _. tt) cause;
      asked = asks_so;
    }

-- by the kind on disk, which was not misread
pub asked-so : (n0 n1 : ℕ) (asks : Option Kind → Bool) (on_disk : Option Kind) (StoreFailed : Type 0) (e : Error) → n0 ≤ n1
    → HoldsIfExcludesError (asks on_disk ≡ true) e → HoldsIfFaultError (CountIncreasedOrSaturated n0 n1) StoreFailed e → HoldsOfExcludesError (IsRefusedByKindAsRead n0 n1 asks on_disk) e
asked-so n0 n1 asks on_disk StoreFailed errors.Interrupted more asks_so cause = tt
asked-so n0 n1 asks on_disk StoreFailed (errors.WorktreeRootIsFile root) more asks_so cause = tt
asked-so n0 n1 asks on_disk StoreFailed (errors.NormalizeRoot root) more asks_so cause = tt
asked-so n0 n1 asks on_disk StoreFailed (errors.SymlinkInRoot root worktree_root index) more asks_so cause = tt
asked-so n0 n1 asks on_disk StoreFailed (errors.ExcludesAccess e) more asks_so cause = lookup-asked n0 n1 asks on_disk StoreFailed e more asks_so cause
asked-so n0 n1 asks on_disk StoreFailed (errors.ReadDir path why) more asks_so cause = tt
asked-so n0 n1 asks on_disk StoreFailed (errors.DirEntry path) more asks_so cause = tt
asked-so n0 n1 asks on_disk StoreFailed (errors.SymlinkMetadata path why) more asks_so cause = tt
asked-so n0 n1 asks on_disk StoreFailed (errors.TooDeep path) more asks_so cause = tt
asked-so n0 n1 asks on_disk StoreFailed errors.OutOfMemory more asks_so cause = tt

-- in other words
pub OnLookup-weaker : (P Q : AtPathError → Type 0) (e : Error) → ((a : AtPathError) → P a → Q a) → HoldsOfExcludesError P e → HoldsOfExcludesError Q e
OnLookup-weaker P Q errors.Interrupted f h = tt
OnLookup-weaker P Q (errors.WorktreeRootIsFile root) f h = tt
OnLookup-weaker P Q (errors.NormalizeRoot root) f h = tt
OnLookup-weaker P Q (errors.SymlinkInRoot root worktree_root index) f h = tt
OnLookup-weaker P Q (errors.ExcludesAccess e) f h = f e h
OnLookup-weaker P Q (errors.ReadDir path why) f h = tt
OnLookup-weaker P Q (errors.DirEntry path) f h = tt
OnLookup-weaker P Q (errors.SymlinkMetadata path why) f h = tt
OnLookup-weaker P Q (errors.TooDeep path) f h = tt
OnLookup-weaker P Q errors.OutOfMemory f h = tt

-- and beside what holds of the refusal itself
pub OnLookup-beside : (P : AtPathError → Type 0) (Q : Error → Type 0) (e : Error) → Q e → HoldsOfExcludesError P e → HoldsOfExcludesError (λ a. P a × Q (errors.ExcludesAccess a)) e
OnLookup-beside P Q errors.Interrupted q h = tt
OnLookup-beside P Q (errors.WorktreeRootIsFile root) q h = tt
OnLookup-beside P Q (errors.NormalizeRoot root) q h = tt
OnLookup-beside P Q (errors.SymlinkInRoot root worktree_root index) q h = tt
OnLookup-beside P Q (errors.ExcludesAccess e) q h = (h, q)
OnLookup-beside P Q (errors.ReadDir path why) q h = tt
OnLookup-beside P Q (errors.DirEntry path) q h = tt
OnLookup-beside P Q (errors.SymlinkMetadata path why) q h = tt
OnLookup-beside P Q (errors.TooDeep path) q h = tt
OnLookup-beside P Q errors.OutOfMemory q h = tt

pub asked-as : (n0 n1 : ℕ) (asks other : Option Kind → Bool) (on_disk : Option Kind) (e : Error) → ((k : Option Kind) → asks k ≡ other k)
    → HoldsOfExcludesError (IsRefusedByKindAsRead n0 n1 asks on_disk) e → HoldsOfExcludesError (IsRefusedByKindAsRead n0 n1 other on_disk) e
asked-as n0 n1 asks other on_disk e same asked =
    OnLookup-weaker (IsRefusedByKindAsRead n0 n1 asks on_disk) (IsRefusedByKindAsRead n0 n1 other on_disk) e
    (λ a is. record { failed = is.failed; counted = is.counted; refused = is.refused; asked = sym (same (kind_unless_failed is.failed on_disk)) ∙ is.asked }) asked

-- the kind on disk was asked first
pub asked-kind : (n0 n1 n2 : ℕ) (asks other : Option Kind → Bool) (any on_disk : Option Kind) (failed : Bool) (e : Error) → CountsFaultsAtLeast n0 n1 (count_of_flag failed) → n1 ≤ n2
    → ((b : Bool) → asks (kind_unless_failed b any) ≡ other (kind_unless_failed failed on_disk)) → HoldsOfExcludesError (IsRefusedByKindAsRead n1 n2 asks any) e → HoldsOfExcludesError (IsRefusedByKindAsRead n0 n2 other on_disk) e
asked-kind n0 n1 n2 asks other any on_disk failed e counted more same asked =
    OnLookup-weaker (IsRefusedByKindAsRead n1 n2 asks any) (IsRefusedByKindAsRead n0 n2 other on_disk) e
    (λ a is. record {
      failed = failed;
      counted = omega (arith, counted, more);
      refused = lookup-weaker (CountsFaultsAtLeast n1 n2 (count_of_flag is.failed + 1)) (Unit {0}) (CountsFaultsAtLeast n0 n2 (count_of_flag failed + 1)) (Unit {0}) a (λ rose. omega (arith, counted, rose)) (λ _. tt) is.refused;
      asked = sym (same is.failed) ∙ is.asked;
    }) asked

-- without a fault nothing was misread
no-fault : (n0 n1 : ℕ) (failed : Bool) → CountNotIncreased n0 n1 → CountsFaultsAtLeast n0 n1 (count_of_flag failed) → failed ≡ false
no-fault n0 n1 false quiet counted = refl
no-fault n0 n1 true quiet counted = absurd (omega (arith, quiet, counted))

pub asked-quiet : (n0 n1 : ℕ) (asks : Option Kind → Bool) (on_disk : Option Kind) (e : Error) → CountNotIncreased n0 n1 → HoldsOfExcludesError (IsRefusedByKindAsRead n0 n1 asks on_disk) e → HoldsIfExcludesError (asks on_disk ≡ true) e
asked-quiet n0 n1 asks on_disk e quiet asked =
    OnLookup-weaker (IsRefusedByKindAsRead n0 n1 asks on_disk) (λ _. asks on_disk ≡ true) e
    (λ a is. ap (λ (b : Bool). asks (kind_unless_failed b on_disk)) (sym (no-fault n0 n1 is.failed quiet is.counted)) ∙ is.asked) asked
