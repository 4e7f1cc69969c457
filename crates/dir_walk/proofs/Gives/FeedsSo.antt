-- What a delegate was given by a walk, by how it ended.
use Rattle.std.proofs.Common.{◌≡◌, inl, inr, ◌≤◌, ℕ, List, true, Option, Some, Ok, Err, refl, ◌∙◌, arith}
use Rattle.gitbase_core.specs.declared.find.Find.{Ghosts as FindOf}
use Rattle.worktree_fs.specs.declared.worktree.Worktree.{Ghosts as WorktreeOf}
use Rattle.worktree_fs.specs.Causes.{CountNotIncreased}
use Rattle.worktree_fs.specs.Kept.{KeepsTreeAndListCounts}
use Rattle.worktree_fs.specs.Naming.{IsValidTree}
use Rattle.worktree_fs.specs.Paths.{root_joined_with_relative}
use Rattle.worktree_fs.specs.Tree.{Names, directory}
use Rattle.worktree_stack.specs.Reading.{TreeAndObjects}
use Rattle.worktree_stack.specs.Stacked.{StackModel}
use Rattle.dir_classify.specs.declared.error.Error.{Error}
use Rattle.dir_classify.specs.Excludes.{setup_of_optional_stack}
use Rattle.dir_classify.specs.Layers.{WalkSetting}
use Rattle.dir_walk.specs.declared.delegate.Delegate.{Ghosts as DelegateOf}
use Rattle.dir_walk.specs.declared.handed.Stop.TheVariants.{Refused, Broken}
use Rattle.dir_walk.specs.declared.outcome.Outcome.{Outcome}
use Rattle.dir_walk.specs.Emits.{AddsPartOfWalkedAndHandedUp}
use Rattle.dir_walk.specs.Kept.{HeedsDelegateBreak, KeepsDelegateRunning}
use Rattle.dir_walk.specs.Puts.{AddsNoHiddenEmission, AddsEmissionsFromRoot}
use Rattle.dir_walk.specs.Report.{counts, emissions_with_handed_up}
use Rattle.dir_walk.specs.Root.{Walk, rooted, find_traversal_root, walk_over_sources, walk_result_from_traversal_root}
use Rattle.dir_walk.specs.Rooting.{IsNormalizedRoot}
use Rattle.dir_walk.specs.Starts.{GivesWalkFromRoot}
use Rattle.dir_walk.specs.Walked.{WalkResult}
use Rattle.dir_walk.specs.WalkRefused.{HoldsIfNothingStarted}
use Rattle.dir_walk.specs.Walks.{FeedsDelegateWithReport, Tells}
use Rattle.dir_walk.proofs.Order.Counts.{count_all}
use Rattle.dir_walk.proofs.Gives.Emitting.{AddsWithin-none}
use Rattle.dir_walk.proofs.Opens.Keeping.{KeepsDelegate-same}
use Rattle.dir_walk.proofs.Opens.Overall.{gives-once, returned-since, seen-since}
use Rattle.dir_walk.proofs.Roots.Unstarted.{on-no-start}
use Rattle.dir_walk.proofs.Walked.Wholly.{part-gives, part-walk, walk-gives}

-- nothing
pub feeds-nothing : {W F D : Type 0} (w : WorktreeOf W) (f : FindOf F) (d : DelegateOf D) {w0 w1 : W} {o0 : F} {old : Option StackModel} {d0 : D} (given : WalkSetting) (explicit : Option (List ℕ)) (limit : ℕ) (e : Error)
    → FeedsDelegateWithReport w f d w0 w1 o0 old d0 d0 given explicit limit (Err e)
feeds-nothing w f d {d0 = d0} given explicit limit e =
    record {
      gives = λ s tells by quiet unbroken. tt;
      part = λ s tells by quiet walk is. AddsWithin-none (d.given d0) (d.given d0) _ refl;
      counted_within = λ s tells by quiet walk is. tt;
      unfed = on-no-start refl e;
      filtered = refl;
      heeded = inl refl;
      unbroken = refl;
      delegate = KeepsDelegate-same;
      once = inl (refl, tt);
      returned = tt;
      seen = tt;
    }

module _ {W F D : Type 0} (w : WorktreeOf W) (f : FindOf F) (d : DelegateOf D) (w0 w1 w2 : W) (o0 : F) (old : Option StackModel) (d0 d2 : D) (given : WalkSetting) (explicit : Option (List ℕ)) (limit : ℕ) (root : List ℕ) (start stop : Outcome)
    (keeps : KeepsTreeAndListCounts w w0 w1) (more : w.faults w1 ≤ w.faults w2) (normalized_is : IsNormalizedRoot given explicit root)
    (rooted_is : (t : Names) → w.told w0 ≡ Some t → CountNotIncreased (w.faults w0) (w.faults w1) → find_traversal_root given t explicit ≡ rooted root)
    (delegate : KeepsDelegateRunning d d0 d2) (puts : AddsEmissionsFromRoot root (d.given d0) (d.given d2) start stop) (filtered : AddsNoHiddenEmission given.options (d.given d0) (d.given d2)) where
  later : {s : TreeAndObjects} → Tells w f w0 o0 old s → Tells w f w1 o0 old s
  later tells = record { tells = record { tree_is = keeps.tree ∙ tells.tells.tree_is; objects_are = tells.tells.objects_are }; in_step = tells.in_step }

  -- what is walked from the traversal root on, over the worktree as it was then
  abbrev Partly : Type 0
  Partly = (s : TreeAndObjects) → Tells w f w1 o0 old s → d.is_default d0 ≡ true → CountNotIncreased (w.faults w1) (w.faults w2) → (v : WalkResult) → walk_result_from_traversal_root given (setup_of_optional_stack old) s root ≡ Some v → AddsPartOfWalkedAndHandedUp given.options v (d.given d0) (d.given d2) start stop

  part-of : Partly → (s : TreeAndObjects) → Tells w f w0 o0 old s → d.is_default d0 ≡ true → CountNotIncreased (w.faults w0) (w.faults w2)
      → (walk : Walk) → walk_over_sources given (setup_of_optional_stack old) s explicit ≡ Some walk → AddsPartOfWalkedAndHandedUp given.options walk.gives (d.given d0) (d.given d2) start stop
  part-of part s tells by quiet walk is =
      part-walk given (setup_of_optional_stack old) s explicit limit root (rooted_is s.tree tells.tells.tree_is (omega (arith, quiet, more))) (d.given d0) (d.given d2) start stop walk is
      (part s (later tells) by (let k = keeps.faults in omega (arith, quiet, k)))

  pub feeds-refused : (e : Error) → HeedsDelegateBreak {T = Unit {0}} d d0 d2 (Err (Refused e)) → Partly → HoldsIfNothingStarted (d.given d2 ≡ d.given d0) e → FeedsDelegateWithReport w f d w0 w2 o0 old d0 d2 given explicit limit (Err e)
  feeds-refused e heeds part unfed =
      record {
        unfed = unfed;
        filtered = filtered;
        gives = λ s tells by quiet unbroken. tt;
        part = λ s tells by quiet walk is. (part-of part s tells by quiet walk is).adds;
        counted_within = λ s tells by quiet walk is. tt;
        heeded = inl heeds.unbroken;
        unbroken = heeds.unbroken;
        delegate = delegate;
        once = gives-once given explicit (λ (r : Outcome × List ℕ). r.1) (Err e) (record { normalized = normalized_is; named = tt }) puts;
        returned = tt;
        seen = tt;
      }

  module _ (read0 : start.read_dir_calls ≡ 0) (returned0 : start.returned_entries ≡ 0) (seen0 : start.seen_entries ≡ 0) (full : List ℕ) (full_is : full ≡ root_joined_with_relative given.root root) where
    -- no more are counted than the walk has
    counted : (walk : Walk) → AddsPartOfWalkedAndHandedUp given.options walk.gives (d.given d0) (d.given d2) start stop → stop.seen_entries ≤ (counts given.options walk.gives).seen_entries
    counted walk part = omega (arith, part.seen (omega (arith, seen0)), seen0, count_all (emissions_with_handed_up walk.gives))

    -- all is a part of all
    all : ((s : TreeAndObjects) → Tells w f w1 o0 old s → CountNotIncreased (w.faults w1) (w.faults w2) → d.is_default d0 ≡ true → GivesWalkFromRoot given (setup_of_optional_stack old) s root limit (d.given d0) (d.given d2) start stop) → Partly
    all gives = λ s tells by quiet v is. part-gives given (setup_of_optional_stack old) s limit root (d.given d0) (d.given d2) start stop (gives s tells quiet by) v is

    pub feeds-broken : HeedsDelegateBreak {T = Unit {0}} d d0 d2 (Err Broken) → Partly → FeedsDelegateWithReport w f d w0 w2 o0 old d0 d2 given explicit limit (Ok (stop, full))
    feeds-broken heeds part =
        record {
          unfed = tt;
          filtered = filtered;
          gives = λ s tells by quiet unbroken. absurd (let k = heeds.broken in omega (arith, k, unbroken));
          part = λ s tells by quiet walk is. (part-of part s tells by quiet walk is).adds;
          counted_within = λ s tells by quiet walk is. counted walk (part-of part s tells by quiet walk is);
          heeded = inr (heeds.broken, heeds.stopped);
          unbroken = tt;
          delegate = delegate;
          once = gives-once given explicit (λ (r : Outcome × List ℕ). r.1) (Ok (stop, full)) (record { normalized = normalized_is; named = full_is }) puts;
          returned = returned-since puts returned0;
          seen = seen-since puts returned0 seen0;
        }

    pub feeds-done : d.breaks d2 ≡ d.breaks d0 → ((s : TreeAndObjects) → w.told w0 ≡ Some s.tree → IsValidTree (directory s.tree))
        → ((s : TreeAndObjects) → Tells w f w1 o0 old s → CountNotIncreased (w.faults w1) (w.faults w2) → d.is_default d0 ≡ true → GivesWalkFromRoot given (setup_of_optional_stack old) s root limit (d.given d0) (d.given d2) start stop)
        → FeedsDelegateWithReport w f d w0 w2 o0 old d0 d2 given explicit limit (Ok (stop, full))
    feeds-done kept tree gives =
        record {
          unfed = tt;
          filtered = filtered;
          gives = λ s tells by quiet unbroken.
              walk-gives given (setup_of_optional_stack old) s explicit limit root (rooted_is s.tree tells.tells.tree_is (omega (arith, quiet, more))) (d.given d0) (d.given d2) start stop
              (gives s (later tells) (let k = keeps.faults in omega (arith, quiet, k)) by)
              (tree s tells.tells.tree_is) delegate.given read0 returned0 seen0 full full_is;
          part = λ s tells by quiet walk is. (part-of (all gives) s tells by quiet walk is).adds;
          counted_within = λ s tells by quiet walk is. counted walk (part-of (all gives) s tells by quiet walk is);
          heeded = inl kept;
          unbroken = tt;
          delegate = delegate;
          once = gives-once given explicit (λ (r : Outcome × List ℕ). r.1) (Ok (stop, full)) (record { normalized = normalized_is; named = full_is }) puts;
          returned = returned-since puts returned0;
          seen = seen-since puts returned0 seen0;
        }
