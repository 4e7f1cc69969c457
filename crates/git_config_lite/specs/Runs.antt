-- Sections of a configuration that are indexed run by run.
--
-- A run has the index of the sections from its start on, up to the next run. So a configuration grows without an index of all.
-- Without runs no section is indexed.
use Rattle.std.specs.Prelude.{ℕ, ◌≡◌, ◌≤◌, ◌++◌, List, [], ◌∷◌, length, take, drop, ⊤}
use Rattle.git_config_lite.specs.declared.run.Run.{Run}
use Rattle.git_config_lite.specs.Sections.{Section}
use Rattle.git_config_lite.specs.SectionPlaces.{IsSortedIndexOfSections}

-- a run is that of all sections behind some
abbrev pub IsIndexRunFrom : ℕ → List Section → Run → Type 0
IsIndexRunFrom start sections run = (run.start ≡ start) × IsSortedIndexOfSections run.index (drop start sections)

-- runs, the last first, are those of sections
abbrev pub AreIndexRunsOfSections : List Run → List Section → Type 0
AreIndexRunsOfSections [] sections = ⊤
AreIndexRunsOfSections (run ∷ runs) sections =
    (run.start ≤ length sections) × IsSortedIndexOfSections run.index (drop run.start sections) × AreIndexRunsOfSections runs (take run.start sections)

-- the last of some runs starts behind so many sections
abbrev pub LastIndexRunStartsAt : List Run → ℕ → Type 0
LastIndexRunStartsAt runs start = (before : List Run) × (last : Run) × (runs ≡ before ++ last ∷ []) × (last.start ≡ start)
