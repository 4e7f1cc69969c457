-- That folding loses nothing: what a report without folding has stands in the report, or lies beneath one folded directory.
use Rattle.std.specs.Prelude.{◌≡◌, ◌⊎◌, ℕ, Bool, true, false, ◌&&◌, List, [], ◌∷◌, count_by, Option, Some, None, is_none}
use Rattle.std.specs.List.{AllByRecursion}
use Rattle.gitbase_core.specs.Path.{is_beneath_directory}
use Rattle.dir_classify.specs.declared.entry.Entry.{Entry}
use Rattle.dir_classify.specs.declared.options.EmissionMode.{EmissionMode}
use Rattle.dir_classify.specs.declared.options.EmissionMode.TheVariants.{Matching}
use Rattle.dir_classify.specs.Chosen.{WalkOptions}
use Rattle.dir_classify.specs.Layers.{WalkSetting}
use Rattle.dir_walk.specs.Emissions.{Emission, uncollapsed_emission, path_of_emission}
use Rattle.dir_walk.specs.Fold.{is_pruned}

-- ---- without folding

abbrev pub matching_mode_if_some : Option EmissionMode → Option EmissionMode
matching_mode_if_some None = None
matching_mode_if_some (Some mode) = Some Matching

-- the same options, by which nothing is folded
abbrev pub options_without_folding : WalkOptions → WalkOptions
options_without_folding o = record o { emit_untracked = Matching; emit_ignored = matching_mode_if_some o.emit_ignored }

-- and all else that is given to a walk
abbrev pub setting_without_folding : WalkSetting → WalkSetting
setting_without_folding given = record given { options = options_without_folding given.options }

-- ---- where an entry is found

-- an element of a list
abbrev pub IsListElement : {X : Type 0} → X → List X → Type 0
IsListElement x [] = ⊥
IsListElement x (y ∷ ys) = (x ≡ y) ⊎ IsListElement x ys

-- it stands by itself, and a path lies beneath its own
abbrev pub is_uncollapsed_above_path : List ℕ → Emission → Bool
is_uncollapsed_above_path path x = is_none x.1 && is_beneath_directory (path_of_emission x) path

-- how many such entries are over a path
abbrev pub count_uncollapsed_above_path : List ℕ → List Emission → ℕ
count_uncollapsed_above_path path entries = count_by (is_uncollapsed_above_path path) entries

-- an entry stands by itself, and beneath none that does
pub record StandsBesideNoneAbove (entries : List Emission) (e : Entry) : Type 0 where
  pub stands : IsListElement (uncollapsed_emission e) entries
  pub none_over : count_uncollapsed_above_path e.rela_path entries ≡ 0

-- an entry lies beneath exactly one that stands by itself, and that is a directory that was folded
pub record IsBeneathOneFoldedDirectory (folds : List Entry) (entries : List Emission) (e : Entry) : Type 0 where
  pub once : count_uncollapsed_above_path e.rela_path entries ≡ 1
  pub over : Entry
  pub over_is : is_uncollapsed_above_path e.rela_path (uncollapsed_emission over) ≡ true
  pub stands : IsListElement (uncollapsed_emission over) entries
  pub was_folded : IsListElement over folds

-- Each entry of a report without folding that is not pruned stands in the report or lies beneath a folded directory.
abbrev pub CoversUnfoldedReport : List Entry → List Emission → List Emission → Type 0
CoversUnfoldedReport folds entries unfolded =
    AllByRecursion (λ (x : Emission). is_pruned x.0 ≡ false → StandsBesideNoneAbove entries x.0 ⊎ IsBeneathOneFoldedDirectory folds entries x.0) unfolded
