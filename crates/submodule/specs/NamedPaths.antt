-- The names of submodules in the order of their paths.
use Rattle.std.specs.Prelude.{ℕ, List, [], ◌∷◌, ◌++◌, codes, Bool, not, Option, Some, None}
use Rattle.std.specs.Cmp.Lexicographic.{slice_cmp}
use Rattle.std.specs.Ordering.{nat_cmp, is_lt}
use Rattle.std.specs.List.Sorted.{IsStableBy, ties}
use Rattle.git_config_lite.specs.Sections.{Section}
use Rattle.submodule.specs.declared.named_path.NamedPath.{NamedPath}
use Rattle.submodule.specs.Overrides.{value}

-- a row of the table: the path comes first, then the name; a path that is looked for stands in a row with an empty name
abbrev pub named_path : List ℕ → List ℕ → NamedPath
named_path path name = record { path = path; name = name }

-- a name with its path, if it says one
abbrev pub named_path_if_given : List ℕ → Option (List ℕ) → List NamedPath
named_path_if_given name None = []
named_path_if_given name (Some path) = named_path path name ∷ []

-- the names of submodules with the paths that they say, in the order of the names
abbrev pub named_paths_of_submodules : List Section → List (List ℕ) → List NamedPath
named_paths_of_submodules sections [] = []
named_paths_of_submodules sections (name ∷ names) = named_path_if_given name (value name (codes "path") sections) ++ named_paths_of_submodules sections names

-- the path of one is less than another's
abbrev pub is_row_path_before : NamedPath → NamedPath → Bool
is_row_path_before a b = is_lt (slice_cmp nat_cmp a.path b.path)

-- one has a path that is less than this one
abbrev pub is_row_path_below : List ℕ → NamedPath → Bool
is_row_path_below path p = is_row_path_before p (named_path path [])

-- one has a path that is not greater than this one
abbrev pub is_row_path_at_most : List ℕ → NamedPath → Bool
is_row_path_at_most path p = not (is_row_path_before (named_path path []) p)

-- one has this path
abbrev pub row_has_path : List ℕ → NamedPath → Bool
row_has_path path p = ties is_row_path_before (named_path path []) p

-- a table has the paths of these names; those of one path stand in the order of the names
abbrev pub IsSortedPathTable : List NamedPath → List Section → List (List ℕ) → Type 0
IsSortedPathTable table sections names = IsStableBy is_row_path_before (named_paths_of_submodules sections names) table

-- the name of the first
abbrev pub name_of_first_row : List NamedPath → Option (List ℕ)
name_of_first_row [] = None
name_of_first_row (p ∷ paths) = Some p.name
