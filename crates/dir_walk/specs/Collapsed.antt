-- What is emitted besides a directory that was folded over it.
use Rattle.std.specs.Prelude.{Bool, true, ◌&&◌, List, Option, Some, None}
use Rattle.std.specs.List.{list_any, list_all}
use Rattle.gitbase_core.specs.Path.{is_beneath_directory}
use Rattle.dir_classify.specs.declared.entry.Entry.{Entry}
use Rattle.dir_classify.specs.declared.entry.Status.{Status}
use Rattle.dir_walk.specs.Emissions.{Emission, path_of_emission}
use Rattle.dir_walk.specs.Fold.{equals_status}

-- a path lies beneath one of some directories, which was folded with a status
abbrev pub lies_beneath_fold_of_status : List Entry → Emission → Status → Bool
lies_beneath_fold_of_status folds x status = list_any (λ f. is_beneath_directory f.rela_path (path_of_emission x) && equals_status f.status status) folds

-- an entry with the status of a directory that was folded over it lies beneath one, of that status
abbrev pub has_fold_of_its_status : List Entry → Option Status → Emission → Bool
has_fold_of_its_status folds None x = true
has_fold_of_its_status folds (Some status) x = lies_beneath_fold_of_status folds x status

-- all of some entries do
abbrev pub all_have_fold_of_their_status : List Entry → List Emission → Bool
all_have_fold_of_their_status folds entries = list_all (λ x. has_fold_of_its_status folds x.1 x) entries
