-- What a delegate is given in a call, over any worktree, and how that is counted.
use Rattle.std.specs.Prelude.{◌≡◌, ◌⊎◌, ◌≤◌, ◌<◌, ◌+◌, ◌-◌, ◌^◌, min, ℕ, true, not, List, [], length, count_by, Option, is_some, option_to_list, Result, Ok, Err}
use Rattle.std.specs.List.{AllByRecursion}
use Rattle.std.specs.Str.{bytes_eq}
use Rattle.gitbase_core.specs.Path.{is_prefix_by_whole_components}
use Rattle.dir_classify.specs.declared.entry.Entry.{Entry}
use Rattle.dir_classify.specs.Chosen.{WalkOptions}
use Rattle.dir_classify.specs.Rooted.{IsPathOnWayToRoot}
use Rattle.dir_walk.specs.declared.handed.Handed.{Handed}
use Rattle.dir_walk.specs.declared.handed.Stop.{Stop}
use Rattle.dir_walk.specs.declared.outcome.Outcome.{Outcome}
use Rattle.dir_walk.specs.Emissions.{Emission, path_of_emission, is_entry_shown_by_options}
use Rattle.dir_walk.specs.Fold.{count_of_flag}
use Rattle.dir_walk.specs.Given.{emissions_or_empty}

-- ---- how often a path stands

-- among entries that were given
abbrev pub count_emissions_at_path : List ℕ → List Emission → ℕ
count_emissions_at_path path given = count_by (λ x. bytes_eq path (path_of_emission x)) given

-- among entries that are held
abbrev pub count_held_at_path : List ℕ → List Entry → ℕ
count_held_at_path path held = count_by (λ e. bytes_eq path e.rela_path) held

-- ---- what is hidden

-- among entries that were given, how many the options hide
abbrev pub count_hidden_emissions : WalkOptions → List Emission → ℕ
count_hidden_emissions o given = count_by (λ x. not (is_entry_shown_by_options o x.0)) given

-- of what was given since, the options hide nothing
abbrev pub AddsNoHiddenEmission : WalkOptions → Option (List Emission) → Option (List Emission) → Type 0
AddsNoHiddenEmission o before after = count_hidden_emissions o (emissions_or_empty after) ≡ count_hidden_emissions o (emissions_or_empty before)

-- ---- how often it may be given

-- one path, once
abbrev pub one_at_path : List ℕ → List ℕ → ℕ
one_at_path only path = count_of_flag (bytes_eq path only)

-- each path at or beneath a directory, once
abbrev pub one_at_or_beneath_path : List ℕ → List ℕ → ℕ
one_at_or_beneath_path directory path = count_of_flag (is_prefix_by_whole_components directory path)

-- the paths of what is held, as often as they stand there, and the path that the held entries may be folded to
abbrev pub one_at_path_plus_held : List ℕ → List Entry → List ℕ → ℕ
one_at_path_plus_held directory held path = one_at_path directory path + count_held_at_path path held

-- ---- what is given

-- `after` has entries besides those of `before`, where that is told, and as many are counted as returned; at least as many are
-- counted as seen as are counted as returned. A count stands at its type's end. No path comes more often than `room` says, with
-- what is handed up among it.
pub record AddsEmissionsWithinRoom (room : List ℕ → ℕ) (before after : Option (List Emission)) (start stop : Outcome) (up : List Entry) : Type 0 where
  pub same : is_some after ≡ is_some before
  pub longer : length (emissions_or_empty before) ≤ length (emissions_or_empty after)
  pub returned : is_some before ≡ true → start.returned_entries < 2 ^ 64
      → stop.returned_entries ≡ min (start.returned_entries + (length (emissions_or_empty after) - length (emissions_or_empty before))) (2 ^ 64 - 1)
  pub later : start.returned_entries < 2 ^ 64 → (start.returned_entries ≤ stop.returned_entries) × (stop.returned_entries < 2 ^ 64)
  pub seen : start.returned_entries < 2 ^ 64 → start.seen_entries < 2 ^ 32
      → (min (start.seen_entries + (stop.returned_entries - start.returned_entries)) (2 ^ 32 - 1) ≤ stop.seen_entries) × (stop.seen_entries < 2 ^ 32)
  pub once : is_some before ≡ true → (path : List ℕ) → count_emissions_at_path path (emissions_or_empty after) + count_held_at_path path up ≤ count_emissions_at_path path (emissions_or_empty before) + room path

-- what a path hands up to the directory above it
abbrev pub entries_handed_up : Result Handed Stop → List Entry
entries_handed_up (Ok handed) = option_to_list handed.entry
entries_handed_up (Err stop) = []

-- the same where a path hands something up, which is an entry at that path
pub record HandsUpOnlyEntryAtPath (path : List ℕ) (room : List ℕ → ℕ) (before after : Option (List Emission)) (start stop : Outcome) (result : Result Handed Stop) : Type 0 where
  pub puts : AddsEmissionsWithinRoom room before after start stop (entries_handed_up result)
  pub at : AllByRecursion (λ e. e.rela_path ≡ path) (entries_handed_up result)

-- ---- from a traversal root

-- a delegate is given paths at or beneath a traversal root, each once, or the one path on the way to it where the way ended
abbrev pub AddsEmissionsFromRoot : List ℕ → Option (List Emission) → Option (List Emission) → Outcome → Outcome → Type 0
AddsEmissionsFromRoot root before after start stop =
    AddsEmissionsWithinRoom (one_at_or_beneath_path root) before after start stop [] ⊎ ((path : List ℕ) × IsPathOnWayToRoot root path × AddsEmissionsWithinRoom (one_at_path path) before after start stop [])

-- no path comes more often than before, but for what `room` says
abbrev pub AddsAtMostPerPath : (List ℕ → ℕ) → Option (List Emission) → Option (List Emission) → Type 0
AddsAtMostPerPath room before after = is_some before ≡ true → (path : List ℕ) → count_emissions_at_path path (emissions_or_empty after) ≤ count_emissions_at_path path (emissions_or_empty before) + room path
