-- What stays because it lies in a directory that the path specs take out.
--
-- Git asks the path specs for the name of an untracked directory before it looks into it: its path with a slash at the end. So `:!b*/`,
-- `:!ab?` and `:(exclude,glob)b/**/` take out `b1`, `ab` and `b` with all that they hold, though they match no file in them.
use Rattle.std.specs.Prelude.{ℕ, List, [], ◌∷◌, ◌++◌, Bool, false, not, ◌&&◌, ◌||◌}
use Rattle.gitbase_core.specs.Path.{is_empty_or_root_path}
use Rattle.glob_rules.specs.PathSpec.{PathSpec}
use Rattle.dir_classify.specs.declared.entry.Entry.{Entry}
use Rattle.dir_classify.specs.Kinds.{is_plain_directory_kind}
use Rattle.clean_plan.specs.Above.{any_ancestor_passes}
use Rattle.clean_plan.specs.Kept.{specs_exclude_directory}
use Rattle.clean_plan.specs.declared.what.TakenOut.{TakenOut}
use Rattle.clean_plan.specs.declared.what.TakenOut.TheVariants.{Open, Closed}

-- The specs, all together, take out a directory below the top: by its path, or by its name. So they take out each one that git does not look
-- into, as `specs_exclude_directory` and `stays_in_spec_excluded_directory` of ls_files say it: there, too, some spec excludes the path or the name, and more is asked for. Git
-- does look into one that is taken out by its path alone, as `b1` by `:!b[1]`, and into one of which the index has something.
abbrev pub specs_exclude_with_or_without_slash : List PathSpec → List ℕ → Bool
specs_exclude_with_or_without_slash specs d = not (is_empty_or_root_path d) && (specs_exclude_directory specs d || specs_exclude_directory specs (d ++ 47 ∷ []))

-- a path lies in such a directory
abbrev pub lies_beneath_spec_excluded_directory : List PathSpec → List ℕ → Bool
lies_beneath_spec_excluded_directory specs path = any_ancestor_passes (specs_exclude_with_or_without_slash specs) path

-- an entry does, or is one
abbrev pub is_or_lies_in_directory_excluded_by_specs : List PathSpec → Entry → Bool
is_or_lies_in_directory_excluded_by_specs specs e = lies_beneath_spec_excluded_directory specs e.rela_path || (is_plain_directory_kind e.disk_kind && specs_exclude_with_or_without_slash specs e.rela_path)

-- and it stays for that
unfoldable pub stays_in_spec_excluded_directory : TakenOut → List PathSpec → Entry → Bool
stays_in_spec_excluded_directory Open specs e = false
stays_in_spec_excluded_directory Closed specs e = is_or_lies_in_directory_excluded_by_specs specs e
