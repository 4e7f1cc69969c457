-- The changes of all paths of an index.
use Rattle.std.specs.Prelude.{⊤, ◌≡◌, ℕ, List, [], ◌∷◌, ◌++◌, Bool, true, false, not, ◌||◌, ◌==◌, bytes_eq, Option, Some, None, Result, Ok, Err, if◌then◌else◌}
use Rattle.gitbase_core.specs.Entry.{mode_bits, gitlink_mode}
use Rattle.gitbase_core.specs.Path.{path_joined_with_slash}
use Rattle.gitbase_core.specs.Steps.{and_then}
use Rattle.gitbase_core.specs.declared.entry.IndexEntry.{IndexEntry}
use Rattle.git_index.specs.declared.stat.Detail.{Detail}
use Rattle.glob_rules.specs.PathSpec.{PathSpec}
use Rattle.glob_rules.specs.PathSpecs.{match_of_path_by_specs, is_including_match}
use Rattle.diff_files.specs.declared.change.PathChange.{PathChange}
use Rattle.diff_files.specs.declared.change.PathChange.TheVariants as changes
use Rattle.diff_files.specs.declared.comparison.Comparison.{Comparison}
use Rattle.diff_files.specs.declared.error.DiffError.{DiffError}
use Rattle.diff_files.specs.declared.error.DiffError.TheVariants as errors
use Rattle.diff_files.specs.declared.error.Unanswered.{Unanswered}
use Rattle.diff_files.specs.declared.error.Unsupported.{Unsupported}
use Rattle.diff_files.specs.declared.error.Unsupported.TheVariants as forms
use Rattle.diff_files.specs.declared.parts.Parts.{Parts}
use Rattle.diff_files.specs.KeptStats.{TreeAndStats}
use Rattle.diff_files.specs.States.{judge_merged_or_ours_entry, is_merged, resolve_judged_change, judge_unmerged_entry}
use Rattle.diff_files.specs.Texts.{unanswered_form_of_entry}

-- an entry, and how its path changed
pub record ChangeRow : Type 0 where
  pub entry : IndexEntry
  pub change : PathChange

-- nothing changed
abbrev pub is_unchanged : PathChange → Bool
is_unchanged changes.Same = true
is_unchanged changes.Deleted = false
is_unchanged (changes.Added mode) = false
is_unchanged (changes.Modified mode) = false
is_unchanged (changes.TypeChanged mode) = false
is_unchanged (changes.Unmerged mode) = false

-- what did not change has no row
abbrev pub row_unless_unchanged : IndexEntry → PathChange → List ChangeRow
row_unless_unchanged e change = if is_unchanged change then [] else record { entry = e; change = change } ∷ []

-- that a path is not merged comes first
abbrev pub rows_of_parts : IndexEntry → Parts → List ChangeRow
rows_of_parts e parts = row_unless_unchanged e parts.unmerged ++ row_unless_unchanged e parts.change

-- both parts of a row, or the first form that is not answered
abbrev pub parts_unless_unsupported : Result PathChange Unsupported → Result PathChange Unsupported → Result Parts Unsupported
parts_unless_unsupported (Err form) change = Err form
parts_unless_unsupported (Ok is_unmerged) (Err form) = Err form
parts_unless_unsupported (Ok is_unmerged) (Ok change) = Ok (record { unmerged = is_unmerged; change = change })

-- the form that is not answered, with the path of its entry
abbrev pub at_entry : IndexEntry → Result Parts Unsupported → Result Parts Unanswered
at_entry e (Ok parts) = Ok parts
at_entry e (Err form) = Err (unanswered_form_of_entry form e)

-- rows with those of an entry, or the form that is not answered
abbrev pub AppendsRowsOfParts : IndexEntry → Result Parts Unsupported → List ChangeRow → List ChangeRow → Result ⊤ DiffError → Type 0
AppendsRowsOfParts e parts before now (Ok done) = (p : Parts) × (parts ≡ Ok p) × (now ≡ before ++ rows_of_parts e p)
AppendsRowsOfParts e parts before now (Err (errors.Unsupported refused)) = at_entry e parts ≡ Err refused
AppendsRowsOfParts e parts before now (Err errors.Fault) = ⊥
AppendsRowsOfParts e parts before now (Err errors.OutOfMemory) = Unit {0}

-- the changes of one entry; `first` says whether it is the first of its path
abbrev pub change_parts_of_entry : TreeAndStats → List ℕ → Comparison → Bool → IndexEntry → Detail → Result Parts Unsupported
change_parts_of_entry s root o first e d =
    parts_unless_unsupported (resolve_judged_change s.tree (path_joined_with_slash root e.path) e.id (judge_unmerged_entry s.stats o root first e))
    (resolve_judged_change s.tree (path_joined_with_slash root e.path) e.id (judge_merged_or_ours_entry s.stats o root e d))

-- a directory stands at the path of a submodule
abbrev pub is_included_by_path_specs : List PathSpec → IndexEntry → Bool
is_included_by_path_specs specs e = is_including_match (match_of_path_by_specs specs e.path (Some (mode_bits e.mode == gitlink_mode)))

-- the last path is this one
abbrev pub is_same_path_as_last : Option (List ℕ) → List ℕ → Bool
is_same_path_as_last None path = false
is_same_path_as_last (Some last) path = bytes_eq last path

-- An entry is taken where the path specs match it, and with the one before it of a path that is not merged.
abbrev pub is_included_or_has_last_path : List PathSpec → Option (List ℕ) → IndexEntry → Bool
is_included_or_has_last_path specs last e = is_same_path_as_last last e.path || is_included_by_path_specs specs e

-- the path of an entry that is not merged
abbrev pub path_if_unmerged : IndexEntry → Option (List ℕ)
path_if_unmerged e = if is_merged e then None else Some e.path

-- Rows with those of some entries, in the order of the index, behind an entry of the path `last`, if that is not merged; or the first form
-- that is not answered, with the path of its entry.
abbrev pub rows_of_remaining_entries : TreeAndStats → List ℕ → Comparison → List PathSpec → List ChangeRow → Option (List ℕ) → List IndexEntry → List Detail → Result (List ChangeRow) Unanswered
rows_of_remaining_entries s root o specs rows last [] details = Ok rows
rows_of_remaining_entries s root o specs rows last (e ∷ entries) [] = Err (unanswered_form_of_entry forms.Details e)
rows_of_remaining_entries s root o specs rows last (e ∷ entries) (d ∷ details) =
    if is_included_or_has_last_path specs last e then
    and_then (λ (parts : Parts). rows_of_remaining_entries s root o specs (rows ++ rows_of_parts e parts) (path_if_unmerged e) entries details)
    (at_entry e (change_parts_of_entry s root o (not (is_same_path_as_last last e.path)) e d))
    else rows_of_remaining_entries s root o specs rows last entries details
