-- What a walk collected is what it gave.
use Rattle.std.proofs.Common.{◌≡◌, ◌≤◌, ◌-◌, ◌^◌, inl, inr, ℕ, min, List, [], Option, Some, Ok, Err, length, ap, subst, ◌∙◌, arith}
use Rattle.gitbase_core.specs.declared.find.Find.{Ghosts as FindOf}
use Rattle.worktree_fs.specs.declared.worktree.Worktree.{Ghosts as WorktreeOf}
use Rattle.worktree_fs.specs.Causes.{CountNotIncreased}
use Rattle.worktree_stack.specs.Reading.{TreeAndObjects}
use Rattle.worktree_stack.specs.Stacked.{StackModel}
use Rattle.dir_classify.specs.declared.error.Error.{Error}
use Rattle.dir_classify.specs.Excludes.{setup_of_optional_stack}
use Rattle.dir_classify.specs.Layers.{WalkSetting}
use Rattle.dir_walk.specs.declared.collect.Collect.{Collect}
use Rattle.dir_walk.specs.declared.outcome.Outcome.{Outcome}
use Rattle.dir_walk.specs.Emissions.{Emission}
use Rattle.dir_walk.specs.Puts.{AddsNoHiddenEmission, count_hidden_emissions}
use Rattle.dir_walk.specs.Walks.{full_root_path_of_answer, CollectsReportOfWalk, AddsPathsFromNamedRootOnce, Tells, GivesReportOfWalk}

-- an answer names the same traversal root with what was collected and without
once-more : (given : WalkSetting) (explicit : Option (List ℕ)) (outcome : Outcome) (root : List ℕ) (collect : Collect) (before after : Option (List Emission))
    → AddsPathsFromNamedRootOnce given explicit (λ (r : Outcome × List ℕ). r.1) (Ok (outcome, root)) before after → AddsPathsFromNamedRootOnce given explicit full_root_path_of_answer (Ok (outcome, root, collect)) before after
once-more given explicit outcome root collect before after (inl same) = inl same
once-more given explicit outcome root collect before after (inr once) = inr (once.0, record { normalized = once.1.normalized; named = once.1.named }, once.2)

module _ {W F : Type 0} (w : WorktreeOf W) (f : FindOf F) {w0 w1 : W} {o0 : F} {old : Option StackModel} where
  pub collects-refused : {given : WalkSetting} {explicit : Option (List ℕ)} {limit : ℕ} (e : Error) → CollectsReportOfWalk w f w0 w1 o0 old given explicit limit (Err e)
  collects-refused e = record { gives = λ s tells quiet. tt; filtered = tt; once = tt; returned = tt; seen = tt }

  pub collects-given : (given : WalkSetting) (explicit : Option (List ℕ)) (limit : ℕ) (outcome : Outcome) (root : List ℕ) (collect : Collect) (before : List Emission) → before ≡ []
      → ((s : TreeAndObjects) → Tells w f w0 o0 old s → CountNotIncreased (w.faults w0) (w.faults w1) → GivesReportOfWalk given (setup_of_optional_stack old) s explicit limit (Some before) (Some collect.unorded_entries) (outcome, root))
      → AddsNoHiddenEmission given.options (Some before) (Some collect.unorded_entries)
      → AddsPathsFromNamedRootOnce given explicit (λ (r : Outcome × List ℕ). r.1) (Ok (outcome, root)) (Some before) (Some collect.unorded_entries)
      → outcome.returned_entries ≡ min (length collect.unorded_entries - length before) (2 ^ 64 - 1) → min outcome.returned_entries (2 ^ 32 - 1) ≤ outcome.seen_entries
      → CollectsReportOfWalk w f w0 w1 o0 old given explicit limit (Ok (outcome, root, collect))
  collects-given given explicit limit outcome root collect before none gives filtered once returned seen =
      let got : List Emission = collect.unorded_entries in
      record {
        gives = λ s tells quiet. subst (λ (x : List Emission). GivesReportOfWalk given (setup_of_optional_stack old) s explicit limit (Some x) (Some got) (outcome, root)) none (gives s tells quiet);
        filtered = filtered ∙ ap {B = ℕ} (λ (x : List Emission). count_hidden_emissions given.options x) none;
        once = once-more given explicit outcome root collect (Some []) (Some got) (subst (λ (x : List Emission). AddsPathsFromNamedRootOnce given explicit (λ (r : Outcome × List ℕ). r.1) (Ok (outcome, root)) (Some x) (Some got)) none once);
        returned = omega (arith, returned, ap {B = ℕ} (λ (x : List Emission). length x) none);
        seen = seen;
      }
