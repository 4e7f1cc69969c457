-- That in deletion no precious path goes with others, nor the directory that must not go.
use Rattle.std.specs.Prelude.{Bool, not, ◌&&◌, List, ℕ}
use Rattle.std.specs.List.{list_any}
use Rattle.gitbase_core.specs.Path.{is_beneath_directory, is_prefix_by_whole_components}
use Rattle.dir_classify.specs.declared.entry.Entry.{Entry}
use Rattle.dir_classify.specs.Evidence.{PathEvidence, is_protected_current_directory}
use Rattle.dir_walk.specs.Emissions.{Emission, path_of_emission}
use Rattle.dir_walk.specs.Fold.{is_pruned, is_ignored_precious_entry}

-- neither pruned nor precious
abbrev pub is_unpruned_and_not_precious : Entry → Bool
is_unpruned_and_not_precious e = not (is_pruned e) && not (is_ignored_precious_entry e)

-- beneath a path lie leaves that are precious, and others that are not pruned
abbrev pub mixes_precious_with_others : List ℕ → List Entry → Bool
mixes_precious_with_others path met =
    list_any (λ l. is_beneath_directory path l.rela_path && is_ignored_precious_entry l) met && list_any (λ l. is_beneath_directory path l.rela_path && is_unpruned_and_not_precious l) met

-- so it is beneath some entry
abbrev pub any_entry_mixes_precious : List Emission → List Entry → Bool
any_entry_mixes_precious entries met = list_any (λ x. mixes_precious_with_others (path_of_emission x) met) entries

-- some folded directory is the one that must not go, or lies above it, where that is entered
abbrev pub any_fold_loses_protected_directory : PathEvidence → List Entry → List (List ℕ) → Bool
any_fold_loses_protected_directory ev folds entered = list_any (λ f. list_any (λ d. is_protected_current_directory ev d && is_prefix_by_whole_components f.rela_path d) entered) folds
