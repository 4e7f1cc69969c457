-- The variables of an environment: environ(7).
use Rattle.std.specs.Prelude.{ℕ, ◌+◌, List, [], ◌∷◌, ◌==◌, position, take, drop, Option, Some, None}
use Rattle.std.specs.List.{flat_map}
use Rattle.git_places.specs.Variables.{EnvironmentVariable}

-- one variable, whose name stands before this byte and whose value behind it; none where there is no such byte
abbrev pub variable_split_at : Option ℕ → List ℕ → List EnvironmentVariable
variable_split_at None entry = []
variable_split_at (Some place) entry = record { name = take place entry; value = drop (place + 1) entry } ∷ []

-- the name stands before the first `=`, and the value behind it; an entry without one is no variable
abbrev pub variable_of_entry : List ℕ → List EnvironmentVariable
variable_of_entry entry = variable_split_at (position (λ b. b == 61) entry) entry

-- in their order
abbrev pub variables_of_entries : List (List ℕ) → List EnvironmentVariable
variables_of_entries entries = flat_map variable_of_entry entries
