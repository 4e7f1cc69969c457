-- What a whole walk opens, reads and gives, by what it does from its traversal root on.
use Rattle.std.proofs.Common.{◌≡◌, ℕ, ◌-◌, ◌^◌, ◌≤◌, min, List, [], true, Option, Some, Result, Ok, Err, inl, inr, length, is_some, ap, ◌∙◌, arith}
use Rattle.std.specs.Prelude.{IfOk}
use Rattle.worktree_fs.specs.declared.interrupt.Interrupt.{Ghosts as InterruptOf}
use Rattle.worktree_fs.specs.declared.worktree.Worktree.{Ghosts as WorktreeOf}
use Rattle.gitbase_core.specs.declared.find.Find.{Ghosts as FindOf}
use Rattle.worktree_fs.specs.Causes.{CountNotIncreased}
use Rattle.worktree_fs.specs.Kept.{KeepsTreeAndListCounts}
use Rattle.worktree_fs.specs.Tree.{Names}
use Rattle.worktree_stack.specs.Lookups.{one_if_refused}
use Rattle.worktree_stack.specs.Setup.{StackSetup}
use Rattle.worktree_stack.specs.Stacked.{StackModel}
use Rattle.dir_classify.specs.declared.error.Error.{Error}
use Rattle.dir_classify.specs.Excludes.{setup_of_optional_stack}
use Rattle.dir_classify.specs.Layers.{WalkSetting}
use Rattle.dir_walk.specs.declared.delegate.Delegate.{Ghosts as DelegateOf}
use Rattle.dir_walk.specs.declared.handed.Stop.{Stop}
use Rattle.dir_walk.specs.declared.handed.Stop.TheVariants.{Refused, Broken}
use Rattle.dir_walk.specs.declared.outcome.Outcome.{Outcome}
use Rattle.dir_walk.specs.declared.strategy.Strategy.{Strategy}
use Rattle.dir_walk.specs.Emissions.{Emission}
use Rattle.dir_walk.specs.Given.{emissions_or_empty}
use Rattle.dir_walk.specs.Opens.{OpensFromTraversalRoot, count_refused_walk}
use Rattle.dir_walk.specs.Puts.{AddsAtMostPerPath, AddsEmissionsWithinRoom, AddsEmissionsFromRoot}
use Rattle.dir_walk.proofs.Opens.FromRoot.{listed-later, listed-none}
use Rattle.dir_walk.specs.Root.{rooted, find_traversal_root}
use Rattle.dir_walk.specs.Unopened.{count_too_deep_in_answer, count_too_deep_error, count_too_deep_in_walk, count_unlisted_in_answer}
use Rattle.dir_walk.specs.WalkRefused.{DelegateDefaultAndRefusalCounts}
use Rattle.dir_walk.specs.Walks.{OpensAtMostWalkedFromRoot, OpensAtMostEnteredInWalk, AddsPathsFromNamedRootOnce, IsNormalizedRootNamedByAnswer, CountsOpenedInWholeWalk}
use Rattle.dir_walk.proofs.Walked.WalkedAt.{most-walked}

-- ---- what is opened

pub refused-most : {T : Type 0} (result : Result T Stop) → count_refused_walk result ≤ 1
refused-most (Ok done) = omega arith
refused-most (Err (Refused error)) = omega arith
refused-most (Err Broken) = omega arith

module _ {W I T : Type 0} {w : WorktreeOf W} {i : InterruptOf I} {w0 w1 : W} {i0 : I} (strategy : Strategy) {given : WalkSetting} {made : Option StackSetup} {explicit : Option (List ℕ)} {outcome_of : T → Outcome} {path_of : T → List ℕ}
    (lists : w.lists w1 ≡ w.lists w0) (reads : w.reads w1 ≡ w.reads w0) where
  -- it was refused before
  pub opens-nothing : {e : Error} {Within : ℕ → Type 0} → Within 0 → count_too_deep_error e ≡ 0 → CountsOpenedInWholeWalk w i w0 w1 i0 i0 strategy given made explicit outcome_of path_of (Err e) Within
  opens-nothing none level = record { opened = 0; within = none; listed = listed-none strategy lists; asked = omega (arith, level); counted = tt; reads = λ held on alone. inl reads }

  pub opens-whole : {U : Type 0} {First Within : ℕ → Type 0} → ((n : ℕ) → First n → Within n) → {w2 : W} {i1 : I} {a b : Outcome} {root : List ℕ} (ended : Result U Stop) (result : Result T Error) → a.read_dir_calls ≡ 0 → IsNormalizedRootNamedByAnswer given explicit path_of result root
      → IfOk result (λ r. outcome_of r ≡ b) → count_refused_walk ended ≤ one_if_refused result → count_too_deep_in_answer result ≤ count_too_deep_in_walk ended → OpensFromTraversalRoot w i w1 w2 i0 i1 a b strategy given.options made root ended First
      → CountsOpenedInWholeWalk w i w0 w2 i0 i1 strategy given made explicit outcome_of path_of result Within
  opens-whole so {b = b} {root = root} ended result zero is outcome_is fits low one =
      record {
        opened = one.opened;
        within = so one.opened one.within;
        listed = listed-later strategy _ _ lists one.listed;
        asked = omega (arith, one.asked, low);
        counted = in_numbers one.opened result outcome_is (omega (arith, zero, one.counted (omega (arith, zero))));
        reads = λ held on alone. inr (root, is, omega (arith, one.reads held on alone, reads, fits));
      }
    where
      in_numbers : (opened : ℕ) (result : Result T Error) → IfOk result (λ r. outcome_of r ≡ b) → b.read_dir_calls ≡ min opened (2 ^ 32 - 1) → IfOk result (λ r. (outcome_of r).read_dir_calls ≡ min opened (2 ^ 32 - 1))
      in_numbers opened (Ok r) is so_far = ap {B = ℕ} (λ (x : Outcome). x.read_dir_calls) is ∙ so_far
      in_numbers opened (Err e) is so_far = tt

-- no more are opened than the walk enters
pub enters-walk : {W F D T : Type 0} (w : WorktreeOf W) (f : FindOf F) (d : DelegateOf D) {w0 w1 w2 : W} {o0 : F} {old : Option StackModel} {d0 : D} (recursion : DelegateDefaultAndRefusalCounts) (given : WalkSetting) (explicit : Option (List ℕ)) (limit : ℕ) (root : List ℕ) (result : Result T Error) (less : ℕ)
    → KeepsTreeAndListCounts w w0 w1 → w.faults w1 ≤ w.faults w2 → d.is_default d0 ≡ recursion.is_default
    → ((t : Names) → w.told w0 ≡ Some t → CountNotIncreased (w.faults w0) (w.faults w1) → find_traversal_root given t explicit ≡ rooted root) → less ≤ count_unlisted_in_answer result
    → (n : ℕ) → OpensAtMostWalkedFromRoot w f d w1 w2 o0 old d0 given root limit less n → OpensAtMostEnteredInWalk w f w0 w2 o0 old recursion given explicit limit result n
enters-walk w f d {w0 = w0} {w1 = w1} {w2 = w2} {old = old} recursion given explicit limit root result less keeps more by rooted_is fits n few = λ s tells default quiet.
    let first : CountNotIncreased (w.faults w0) (w.faults w1) = omega (arith, quiet, more) in
    let second : CountNotIncreased (w.faults w1) (w.faults w2) = let k = keeps.faults in omega (arith, quiet, k) in
    let most = few s (record { tells = record { tree_is = keeps.tree ∙ tells.tells.tree_is; objects_are = tells.tells.objects_are }; in_step = tells.in_step }) (by ∙ default) second in
    omega (arith, most, most-walked given (setup_of_optional_stack old) s explicit limit root less (count_unlisted_in_answer result) (rooted_is s.tree tells.tells.tree_is first) fits)

-- ---- what is given

module _ {room : List ℕ → ℕ} {a b : Option (List Emission)} {i j : Outcome} (put : AddsEmissionsWithinRoom room a b i j []) where
  adds : AddsAtMostPerPath room a b
  adds = λ told path. omega (arith, put.once told path)

  counts-since : i.returned_entries ≡ 0 → is_some a ≡ true → j.returned_entries ≡ min (length (emissions_or_empty b) - length (emissions_or_empty a)) (2 ^ 64 - 1)
  counts-since zero told = omega (arith, zero, put.returned told (omega (arith, zero)))

  sees-since : i.returned_entries ≡ 0 → i.seen_entries ≡ 0 → min j.returned_entries (2 ^ 32 - 1) ≤ j.seen_entries
  sees-since zero none = omega (arith, zero, none, (put.seen (omega (arith, zero)) (omega (arith, none))).0)

module _ {root : List ℕ} {a b : Option (List Emission)} {i j : Outcome} where
  pub gives-once : {T : Type 0} (given : WalkSetting) (explicit : Option (List ℕ)) (path_of : T → List ℕ) (result : Result T Error) → IsNormalizedRootNamedByAnswer given explicit path_of result root → AddsEmissionsFromRoot root a b i j
      → AddsPathsFromNamedRootOnce given explicit path_of result a b
  gives-once given explicit path_of result is (inl put) = inr (root, is, inl (adds put))
  gives-once given explicit path_of result is (inr put) = inr (root, is, inr (put.0, put.1, adds put.2))

  pub returned-since : AddsEmissionsFromRoot root a b i j → i.returned_entries ≡ 0 → is_some a ≡ true → j.returned_entries ≡ min (length (emissions_or_empty b) - length (emissions_or_empty a)) (2 ^ 64 - 1)
  returned-since (inl put) zero = counts-since put zero
  returned-since (inr put) zero = counts-since put.2 zero

  pub seen-since : AddsEmissionsFromRoot root a b i j → i.returned_entries ≡ 0 → i.seen_entries ≡ 0 → min j.returned_entries (2 ^ 32 - 1) ≤ j.seen_entries
  seen-since (inl put) zero none = sees-since put zero none
  seen-since (inr put) zero none = sees-since put.2 zero none
