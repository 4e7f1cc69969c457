-- Ceilings: the directories into which the search for a work tree does not go up, by the text of `GIT_CEILING_DIRECTORIES`.
use Rattle.std.specs.Prelude.{ℕ, Bool, true, false, codes, bytes_eq, nat_eq, ◌==◌, ◌||◌, ◌-◌, List, [], ◌∷◌, ◌++◌, drop, take, length, Option, Some, None, option_map, if◌then◌else◌}
use Rattle.std.specs.List.{ends_with, slice_split}
use Rattle.gitbase_core.specs.Path.{is_absolute}
use Rattle.worktree_fs.specs.Changes.{real_path}
use Rattle.worktree_fs.specs.Tree.{Names, is_empty}

-- an absolute path without its first slash
abbrev pub without_leading_slash : List ℕ → List ℕ
without_leading_slash path = drop 1 path

-- the path of an entry that stands as it is: one slash at its end is not part of it, and a lone one is the path of no directory
abbrev pub without_trailing_slash : List ℕ → List ℕ
without_trailing_slash path =
    if bytes_eq path (codes "/") then path
    else if ends_with nat_eq path (codes "/") then take (length path - 1) path else path

-- the ceiling of an absolute entry: it stands as it is, or its links are followed, and then something has to be there
abbrev pub ceiling_of_absolute_entry : Names → Bool → List ℕ → Option (List ℕ)
ceiling_of_absolute_entry t true entry = Some (without_trailing_slash (without_leading_slash entry))
ceiling_of_absolute_entry t false entry = option_map without_leading_slash (real_path t entry (codes "/"))

-- the ceiling of an entry, if it has one: a relative one is none
abbrev pub ceiling_of_entry : Names → Bool → List ℕ → Option (List ℕ)
ceiling_of_entry t as_it_is entry = if is_absolute entry then ceiling_of_absolute_entry t as_it_is entry else None

-- the ceilings with that of one more entry; an entry without one adds none
abbrev pub append_ceiling_if_any : List (List ℕ) → Option (List ℕ) → List (List ℕ)
append_ceiling_if_any ceilings None = ceilings
append_ceiling_if_any ceilings (Some ceiling) = ceilings ++ ceiling ∷ []

-- the ceilings of entries behind those that are made: behind an empty entry each stands as it is
abbrev pub append_ceilings_of_entries : Names → List (List ℕ) → Bool → List (List ℕ) → List (List ℕ)
append_ceilings_of_entries t made as_it_is [] = made
append_ceilings_of_entries t made as_it_is (entry ∷ entries) = append_ceilings_of_entries t (append_ceiling_if_any made (ceiling_of_entry t as_it_is entry)) (as_it_is || is_empty entry) entries

-- the entries stand between colons
abbrev pub parse_ceiling_directories : Names → List ℕ → List (List ℕ)
parse_ceiling_directories t text = append_ceilings_of_entries t [] false (slice_split (λ b. b == 58) text)
