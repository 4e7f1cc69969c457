-- Entries as a walk emits them.
use Rattle.std.specs.Prelude.{ℕ, Bool, true, false, not, ◌&&◌, ◌||◌, if◌then◌else◌, List, [], ◌∷◌, Option, Some, None, is_some}
use Rattle.std.specs.Ordering.{nat_cmp, is_lt}
use Rattle.std.specs.Cmp.Lexicographic.{slice_cmp}
use Rattle.dir_classify.specs.declared.classify.Outcome.{Outcome}
use Rattle.dir_classify.specs.declared.entry.Entry.{Entry}
use Rattle.dir_classify.specs.declared.entry.PathspecMatch.{PathspecMatch}
use Rattle.dir_classify.specs.declared.entry.PathspecMatch.TheVariants.{Always, Excluded, Prefix, WildcardMatch, Verbatim}
use Rattle.dir_classify.specs.declared.entry.Property.{Property}
use Rattle.dir_classify.specs.declared.entry.Property.TheVariants.{DotGit, EmptyDirectory, EmptyDirectoryAndCWD, TrackedExcluded}
use Rattle.dir_classify.specs.declared.entry.Status.{Status}
use Rattle.dir_classify.specs.declared.entry.Status.TheVariants.{Pruned, Tracked, Ignored, Untracked}
use Rattle.dir_classify.specs.Chosen.{WalkOptions}
use Rattle.dir_classify.specs.Entries.{outcome_of_entry}

-- an entry, with the status of the directory that was folded over it, if one was
abbrev pub Emission : Type 0
Emission = Entry × Option Status

abbrev pub emission_with_fold_status : Entry → Option Status → Emission
emission_with_fold_status entry status = (entry, status)

-- an entry by itself
abbrev pub uncollapsed_emission : Entry → Emission
uncollapsed_emission entry = emission_with_fold_status entry None

-- an entry beneath a directory that was folded with a status
abbrev pub collapsed_emission : Status → Entry → Emission
collapsed_emission status entry = emission_with_fold_status entry (Some status)

abbrev pub path_of_emission : Emission → List ℕ
path_of_emission emission = emission.0.rela_path

-- ---- what is shown

abbrev pub is_tracked_status : Status → Bool
is_tracked_status Tracked = true
is_tracked_status Pruned = false
is_tracked_status (Ignored kind) = false
is_tracked_status Untracked = false

abbrev pub is_empty_directory_property : Option Property → Bool
is_empty_directory_property (Some EmptyDirectory) = true
is_empty_directory_property (Some DotGit) = false
is_empty_directory_property (Some EmptyDirectoryAndCWD) = false
is_empty_directory_property (Some TrackedExcluded) = false
is_empty_directory_property None = false

-- no spec matches the path, or one takes it out
abbrev pub is_unmatched_or_excluded : Option PathspecMatch → Bool
is_unmatched_or_excluded None = true
is_unmatched_or_excluded (Some Excluded) = true
is_unmatched_or_excluded (Some Always) = false
is_unmatched_or_excluded (Some Prefix) = false
is_unmatched_or_excluded (Some WildcardMatch) = false
is_unmatched_or_excluded (Some Verbatim) = false

-- pruned, tracked and ignored paths are shown where they are asked for, untracked ones always
abbrev pub is_status_emitted : WalkOptions → Status → Bool
is_status_emitted o Pruned = o.emit_pruned
is_status_emitted o Tracked = o.emit_tracked
is_status_emitted o (Ignored kind) = is_some o.emit_ignored
is_status_emitted o Untracked = true

-- Entries of a class are shown: empty directories where they are asked for, what is wanted by its status, and what no spec
-- matches where pruned paths are asked for.
abbrev pub is_outcome_shown_by_options : WalkOptions → Outcome → Bool
is_outcome_shown_by_options o c =
    (o.emit_empty_directories || not (is_empty_directory_property c.property))
    && is_status_emitted o c.status
    && (o.emit_pruned || not (is_unmatched_or_excluded c.pathspec_match))

-- an entry is shown
abbrev pub is_entry_shown_by_options : WalkOptions → Entry → Bool
is_entry_shown_by_options o e = is_outcome_shown_by_options o (outcome_of_entry e)

-- ---- by path

-- the first path stands before the second, byte by byte
abbrev pub is_before_by_path : Emission → Emission → Bool
is_before_by_path a b = is_lt (slice_cmp nat_cmp (path_of_emission a) (path_of_emission b))

abbrev pub insert_emission_by_path : Emission → List Emission → List Emission
insert_emission_by_path e [] = e ∷ []
insert_emission_by_path e (x ∷ xs) = if is_before_by_path x e then x ∷ insert_emission_by_path e xs else e ∷ x ∷ xs

-- in ascending order of the paths
unfoldable pub sort_emissions_by_path : List Emission → List Emission
sort_emissions_by_path [] = []
sort_emissions_by_path (e ∷ es) = insert_emission_by_path e (sort_emissions_by_path es)
