-- What the traversal root hands up at the end is put out by itself.
use Rattle.std.proofs.Common.{◌≡◌, inl, inr, ◌+◌, ℕ, List, Bool, true, ◌&&◌, Option, map, length, option_to_list, refl, ap, ◌∙◌, arith}
use Rattle.gitbase_core.specs.declared.find.Find.{Ghosts as FindOf}
use Rattle.worktree_fs.specs.declared.worktree.Worktree.{Ghosts as WorktreeOf}
use Rattle.worktree_fs.specs.Kept.{KeepsTreeAndListCounts}
use Rattle.worktree_stack.specs.Reading.{TreeAndObjects}
use Rattle.worktree_stack.specs.Setup.{StackSetup}
use Rattle.worktree_stack.specs.Stacked.{StackModel}
use Rattle.dir_classify.specs.declared.classify.Outcome.{Outcome as Class}
use Rattle.dir_classify.specs.declared.entry.Entry.{Entry}
use Rattle.dir_classify.specs.declared.error.Error.{Error}
use Rattle.dir_classify.specs.Chosen.{WalkOptions}
use Rattle.dir_classify.specs.Evidence.{PathEvidence}
use Rattle.dir_classify.specs.Excludes.{setup_of_optional_stack}
use Rattle.dir_classify.specs.Layers.{WalkSetting, evidence_from_setting_and_sources}
use Rattle.dir_walk.specs.declared.handed.Handed.{Handed}
use Rattle.dir_walk.specs.declared.outcome.Outcome.{Outcome}
use Rattle.dir_walk.specs.Emissions.{Emission, uncollapsed_emission, is_entry_shown_by_options}
use Rattle.dir_walk.specs.Emits.{AddsEmissionsAndCounts, GivesAllWalkedUnrefused, GivesAllWalkedAndHandedUp, AddsPartOfWalkResult, AddsPartOfWalkedAndHandedUp, AddsAtMostEmissionsAndSeen, count_held_emitted_plainly, count_seen_entries, count_shown_passing, count_elements}
use Rattle.dir_walk.specs.Refused.{IsErrorOfEnteredDirectory}
use Rattle.dir_walk.specs.Report.{emissions_with_handed_up}
use Rattle.dir_walk.specs.Told.{IsWalkOverSources, walk_result_of_directory_over_sources}
use Rattle.dir_walk.specs.Walked.{WalkResult}
use Rattle.dir_walk.specs.Walks.{Tells}
use Rattle.dir_walk.proofs.Order.Counts.{count_all, count_by-append, count_by-map}
use Rattle.dir_walk.proofs.Gives.Emitting.{Emits-then, Within-as, Within-then}
use Rattle.dir_walk.proofs.Refused.Refusals.{HasPaths, Refuses-within}

module _ (o : WalkOptions) (w : WalkResult) where
  shown-all : (p : Emission → Bool) → count_shown_passing o p (emissions_with_handed_up w) ≡ count_shown_passing o p w.out + count_held_emitted_plainly o w.up p
  shown-all p = count_by-append (λ x. is_entry_shown_by_options o x.0 && p x) w.out (map uncollapsed_emission w.up)

  size-all : count_elements (emissions_with_handed_up w) ≡ count_elements w.out + length w.up
  size-all = omega (arith, count_by-append (λ _. true) w.out (map uncollapsed_emission w.up), count_by-map (λ _. true) uncollapsed_emission w.up, count_all w.up)

  -- what was put out before is a part of all
  pub part-out : (before after : Option (List Emission)) (start stop : Outcome) → AddsPartOfWalkResult o w before after start stop → AddsPartOfWalkedAndHandedUp o w before after start stop
  part-out before after start stop part =
      Within-as before after start stop (λ p. count_shown_passing o p w.out) (λ p. count_shown_passing o p (emissions_with_handed_up w)) (count_seen_entries w) (count_elements (emissions_with_handed_up w) + w.merged) part (λ p. omega (arith, shown-all p)) (omega (arith, size-all))

  module _ (limit : ℕ) (ev : PathEvidence) (handed : Handed) (before mid after : Option (List Emission)) (start middle : Outcome) (gives : GivesAllWalkedUnrefused o limit ev w before mid start middle handed) where
    pub gives-all : (stop : Outcome) → AddsEmissionsAndCounts mid after middle stop (count_held_emitted_plainly o (option_to_list handed.entry)) (length (option_to_list handed.entry)) 0 → GivesAllWalkedAndHandedUp o limit ev w before after start stop
    gives-all stop emits =
        record {
          emits =
              Emits-then before mid after start middle stop (λ p. count_shown_passing o p w.out) (count_held_emitted_plainly o (option_to_list handed.entry)) (λ p. count_shown_passing o p (emissions_with_handed_up w))
              (count_seen_entries w) (length (option_to_list handed.entry)) (count_elements (emissions_with_handed_up w) + w.merged) (count_elements w.entered) 0 (count_elements w.entered)
              gives.emits emits
              (λ p. omega (arith, shown-all p, ap (λ (held : List Entry). count_held_emitted_plainly o held p) gives.up))
              (omega (arith, size-all, ap (λ (held : List Entry). length held) gives.up))
              (omega arith);
          whole = gives.whole;
        }

    pub part-all : (stop : Outcome) → AddsAtMostEmissionsAndSeen mid after middle stop (count_held_emitted_plainly o (option_to_list handed.entry)) (length (option_to_list handed.entry)) → AddsPartOfWalkedAndHandedUp o w before after start stop
    part-all stop part =
        Within-then before mid after start middle stop (λ p. count_shown_passing o p w.out) (count_held_emitted_plainly o (option_to_list handed.entry)) (λ p. count_shown_passing o p (emissions_with_handed_up w))
        (count_seen_entries w) (length (option_to_list handed.entry)) (count_elements (emissions_with_handed_up w) + w.merged) (count_elements w.entered)
        gives.emits part (λ p. omega (arith, shown-all p, ap (λ (held : List Entry). count_held_emitted_plainly o held p) gives.up))
        (omega (arith, size-all, ap (λ (held : List Entry). length held) gives.up))

-- a refusal where something may have failed is one where nothing did, as nothing did
pub DirectoryRefuses-weaker : (given : WalkSetting) (made : Option StackSetup) (s : TreeAndObjects) (limit : ℕ) (P Q : Type 0) (d : List ℕ) (c : Class) (e : Error) → (P → Q) → IsErrorOfEnteredDirectory given made s limit P d c e → IsErrorOfEnteredDirectory given made s limit Q d c e
DirectoryRefuses-weaker given made s limit P Q d c e f (inl h) = inl h
DirectoryRefuses-weaker given made s limit P Q d c e f (inr h) =
    let w : WalkResult = walk_result_of_directory_over_sources given made s d c in
    let same : HasPaths w w = record { entered = λ path h. h; broken = λ path h. h; asked = λ path h. h } in
    inr (Refuses-within w w P Q (inl same) f given made s limit e h)

-- a walk stands where the worktree was asked what directory must not go
pub Stands-asked : {W F : Type 0} {w : WorktreeOf W} {f : FindOf F} {w0 w1 : W} {o : F} {rules : Option StackModel} {s : TreeAndObjects} {blocked : Option (List ℕ)} (given : WalkSetting)
    → Tells w f w0 o rules s → KeepsTreeAndListCounts w w0 w1 → (evidence_from_setting_and_sources given (setup_of_optional_stack rules) s).blocked ≡ blocked → IsWalkOverSources given (w.told w1) (f.holds o) rules blocked (setup_of_optional_stack rules) s
Stands-asked given tells asks is =
    record { tree = asks.tree ∙ tells.tells.tree_is; objects = tells.tells.objects_are; made_is = refl; in_step = tells.in_step; blocked_is = is }
