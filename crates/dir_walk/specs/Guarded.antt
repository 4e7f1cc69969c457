-- Leaves that no line of a report may stand for together with others.
use Rattle.std.specs.Prelude.{Bool, not, ◌&&◌, ◌||◌, List}
use Rattle.std.specs.List.{list_any}
use Rattle.gitbase_core.specs.Path.{is_beneath_directory}
use Rattle.dir_classify.specs.declared.entry.Entry.{Entry}
use Rattle.dir_classify.specs.Kinds.{is_repository_kind}
use Rattle.dir_walk.specs.Emissions.{Emission, path_of_emission, is_tracked_status}
use Rattle.dir_walk.specs.Fold.{is_pruned}

-- tracked, or a repository of its own, unless it is pruned
abbrev pub is_unpruned_tracked_or_repository : Entry → Bool
is_unpruned_tracked_or_repository e = not (is_pruned e) && (is_tracked_status e.status || is_repository_kind e.disk_kind)

-- some guarded leaf lies beneath the path of some entry
abbrev pub any_entry_hides_tracked_or_repository : List Emission → List Entry → Bool
any_entry_hides_tracked_or_repository entries met = list_any (λ x. list_any (λ l. is_beneath_directory (path_of_emission x) l.rela_path && is_unpruned_tracked_or_repository l) met) entries
