-- Which directories may go as a whole.
use Rattle.std.specs.Prelude.{ℕ, List, Bool, not, ◌&&◌, ◌||◌}
use Rattle.std.specs.List.{list_any}
use Rattle.gitbase_core.specs.Path.{is_prefix_by_whole_components, is_beneath_directory}
use Rattle.dir_classify.specs.declared.entry.Entry.{Entry}
use Rattle.clean_plan.specs.Above.{any_ancestor_passes}
use Rattle.clean_plan.specs.Asked.{CleanPlanInputs}
use Rattle.clean_plan.specs.Kept.{is_nonroot_path_protected_from_clean, specs_exclude_directory}
use Rattle.clean_plan.specs.Paths.{is_text_in_list}
use Rattle.clean_plan.specs.Removable.{is_entry_removable_by_itself}

-- among the directories above a path is one that is this one or lies beneath it, and that the path specs take out
abbrev pub specs_exclude_directory_between : CleanPlanInputs → List ℕ → List ℕ → Bool
specs_exclude_directory_between asked d path = any_ancestor_passes (λ x. is_prefix_by_whole_components d x && specs_exclude_directory asked.specs x) path

-- An entry is in the way of a directory: it lies beneath it, and may not go, or the specs take out the directory or one
-- between the two.
abbrev pub blocks_whole_removal : CleanPlanInputs → List ℕ → Entry → Bool
blocks_whole_removal asked d e = is_beneath_directory d e.rela_path && (not (is_entry_removable_by_itself asked e) || specs_exclude_directory_between asked d e.rela_path)

-- an entry lies beneath a directory
abbrev pub entry_lies_beneath_directory : List ℕ → Entry → Bool
entry_lies_beneath_directory d e = is_beneath_directory d e.rela_path

-- A directory may go as a whole: it lies at or beneath the traversal root, it is not kept, some entry of the report lies
-- beneath it, and none of them is in its way.
abbrev pub may_remove_whole_directory : CleanPlanInputs → List Entry → List ℕ → Bool
may_remove_whole_directory asked entries d =
    is_prefix_by_whole_components asked.start d
    && (not (is_nonroot_path_protected_from_clean asked d)
    && (list_any (entry_lies_beneath_directory d) entries
    && not (list_any (blocks_whole_removal asked d) entries)))

-- the same of a directory beneath which some entry lies, where those that have entries in their way are these
abbrev pub is_directory_unblocked_and_removable : CleanPlanInputs → List (List ℕ) → List ℕ → Bool
is_directory_unblocked_and_removable asked spoiled d = not (is_text_in_list d spoiled) && (is_prefix_by_whole_components asked.start d && not (is_nonroot_path_protected_from_clean asked d))
