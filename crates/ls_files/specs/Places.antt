-- Paths, and whether directories stand there; and entries of an index as they are shown.
use Rattle.std.specs.Prelude.{ℕ, List, Bool}
use Rattle.gitbase_core.specs.declared.entry.IndexEntry.{IndexEntry}
use Rattle.ls_files.specs.declared.shown.Sign.{Sign}

-- a path without a slash at its end, and whether it is taken as that of a directory
pub record PathWithDirectoryFlag : Type 0 where
  pub path : List ℕ
  pub holds_names : Bool

-- a place, and whether what stands there is ignored
pub record PlaceWithIgnoredFlag : Type 0 where
  pub place : PathWithDirectoryFlag
  pub ignored : Bool

-- an entry, and as what it is shown
pub record EntryAsKeptGoneOrModified : Type 0 where
  pub entry : IndexEntry
  pub sign : Sign
