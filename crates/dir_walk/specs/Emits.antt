-- What a walk has emitted, counted and handed up when it is done with a path, in whatever order.
use Rattle.std.specs.Prelude.{◌≡◌, ℕ, ◌<◌, ◌≤◌, ◌+◌, ◌-◌, ◌^◌, min, Bool, true, false, ◌&&◌, List, map, filter, Option, None, is_some, count_by, option_to_list, if◌then◌else◌}
use Rattle.dir_classify.specs.declared.classify.Outcome.{Outcome as Class}
use Rattle.dir_classify.specs.declared.entry.Entry.{Entry}
use Rattle.dir_classify.specs.declared.entry.Status.{Status}
use Rattle.dir_classify.specs.Chosen.{WalkOptions}
use Rattle.dir_classify.specs.Evidence.{PathEvidence}
use Rattle.dir_walk.specs.declared.handed.Handed.{Handed}
use Rattle.dir_walk.specs.declared.outcome.Outcome.{Outcome}
use Rattle.dir_walk.specs.Emissions.{Emission, uncollapsed_emission, collapsed_emission, is_entry_shown_by_options}
use Rattle.dir_walk.specs.Fold.{fold, emits_besides_folded_directory, tally_held_entries}
use Rattle.dir_walk.specs.Given.{emissions_or_empty}
use Rattle.dir_walk.specs.Report.{is_walk_result_refused, emissions_with_handed_up}
use Rattle.dir_walk.specs.Walked.{WalkResult}

-- of what is emitted, how many entries that are shown pass a test
abbrev pub count_shown_passing : WalkOptions → (Emission → Bool) → List Emission → ℕ
count_shown_passing o p out = count_by (λ x. is_entry_shown_by_options o x.0 && p x) out

abbrev pub count_elements : {X : Type 0} → List X → ℕ
count_elements xs = count_by (λ _. true) xs

-- how many entries are met in what a path gives, but for those that it hands up
abbrev pub count_seen_entries : WalkResult → ℕ
count_seen_entries w = count_elements w.out + w.merged

-- `after` has what `before` has, and besides as many entries that pass each test, where that is told; and the counts rose by the
-- entries seen and the directories read, or stand at their type's end
pub record AddsEmissionsAndCounts (before after : Option (List Emission)) (start stop : Outcome) (more : (Emission → Bool) → ℕ) (more_seen more_read : ℕ) : Type 0 where
  pub same : is_some after ≡ is_some before
  pub entries : is_some before ≡ true → (p : Emission → Bool) → count_by p (emissions_or_empty after) ≡ count_by p (emissions_or_empty before) + more p
  pub returned : start.returned_entries < 2 ^ 64 → stop.returned_entries ≡ min (start.returned_entries + more (λ _. true)) (2 ^ 64 - 1)
  pub seen : start.seen_entries < 2 ^ 32 → stop.seen_entries ≡ min (start.seen_entries + more_seen) (2 ^ 32 - 1)
  pub read : start.read_dir_calls < 2 ^ 32 → stop.read_dir_calls ≡ min (start.read_dir_calls + more_read) (2 ^ 32 - 1)

-- besides what was given before, no more entries that pass each test
pub record AddsAtMostByTest (before after : Option (List Emission)) (more : (Emission → Bool) → ℕ) : Type 0 where
  pub same : is_some after ≡ is_some before
  pub counts : is_some before ≡ true → (p : Emission → Bool) → count_by p (emissions_or_empty after) ≤ count_by p (emissions_or_empty before) + more p

-- the same, and no more than so many were seen; the count stands at its type's end
pub record AddsAtMostEmissionsAndSeen (before after : Option (List Emission)) (start stop : Outcome) (more : (Emission → Bool) → ℕ) (most : ℕ) : Type 0 where
  pub adds : AddsAtMostByTest before after more
  pub seen : start.seen_entries < 2 ^ 32 → stop.seen_entries ≤ min (start.seen_entries + most) (2 ^ 32 - 1)

-- besides what was given before, these are among the entries of `out` that are shown, none more often than there
abbrev pub AddsAmongShownEmissions : WalkOptions → List Emission → Option (List Emission) → Option (List Emission) → Type 0
AddsAmongShownEmissions o out before after = AddsAtMostByTest before after (λ p. count_shown_passing o p out)

-- what was given and seen besides is among what is put out of `w` and shown, and what is met in it
abbrev pub AddsPartOfWalkResult : WalkOptions → WalkResult → Option (List Emission) → Option (List Emission) → Outcome → Outcome → Type 0
AddsPartOfWalkResult o w before after start stop = AddsAtMostEmissionsAndSeen before after start stop (λ p. count_shown_passing o p w.out) (count_seen_entries w)

-- the same of all of it, with what it hands up
abbrev pub AddsPartOfWalkedAndHandedUp : WalkOptions → WalkResult → Option (List Emission) → Option (List Emission) → Outcome → Outcome → Type 0
AddsPartOfWalkedAndHandedUp o w before after start stop = AddsAtMostEmissionsAndSeen before after start stop (λ p. count_shown_passing o p (emissions_with_handed_up w)) (count_elements (emissions_with_handed_up w) + w.merged)

-- what is held, put out by itself, and what is put out of it beneath a directory that is folded with a status
abbrev pub count_held_emitted_plainly : WalkOptions → List Entry → (Emission → Bool) → ℕ
count_held_emitted_plainly o held p = count_shown_passing o p (map uncollapsed_emission held)

abbrev pub count_held_emitted_collapsed : WalkOptions → Status → List Entry → (Emission → Bool) → ℕ
count_held_emitted_collapsed o status held p = count_shown_passing o p (map (collapsed_emission status) (filter (emits_besides_folded_directory o.emit_collapsed status) held))

-- what a leaf or the end of a directory gives is all of `w`
pub record ClosesWithAllWalked (o : WalkOptions) (w : WalkResult) (before after : Option (List Emission)) (start stop : Outcome) (handed : Handed) : Type 0 where
  pub emits : AddsEmissionsAndCounts before after start stop (λ p. count_shown_passing o p w.out) (count_seen_entries w) 0
  pub up : option_to_list handed.entry ≡ w.up
  pub blocks : handed.blocks ≡ w.blocks

-- what was walked gives all of `w`, of which nothing is refused within the limit
pub record GivesAllWalkedUnrefused (o : WalkOptions) (limit : ℕ) (ev : PathEvidence) (w : WalkResult) (before after : Option (List Emission)) (start stop : Outcome) (handed : Handed) : Type 0 where
  pub emits : AddsEmissionsAndCounts before after start stop (λ p. count_shown_passing o p w.out) (count_seen_entries w) (count_elements w.entered)
  pub up : option_to_list handed.entry ≡ w.up
  pub blocks : handed.blocks ≡ w.blocks
  pub whole : is_walk_result_refused limit ev w ≡ false

-- what was walked from a traversal root gives all of `w`, with what that hands up at the end, and nothing of it is refused within
-- the limit
pub record GivesAllWalkedAndHandedUp (o : WalkOptions) (limit : ℕ) (ev : PathEvidence) (w : WalkResult) (before after : Option (List Emission)) (start stop : Outcome) : Type 0 where
  pub emits : AddsEmissionsAndCounts before after start stop (λ p. count_shown_passing o p (emissions_with_handed_up w)) (count_elements (emissions_with_handed_up w) + w.merged) (count_elements w.entered)
  pub whole : is_walk_result_refused limit ev w ≡ false

-- the entry that stands for all that a directory holds, if it is folded
abbrev pub folded_entry_unless_blocked : WalkOptions → PathEvidence → List ℕ → Class → WalkResult → Option Entry
folded_entry_unless_blocked o ev d c w = if w.blocks then None else fold o ev d c (tally_held_entries w.up)
