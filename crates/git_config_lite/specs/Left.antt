-- The values of a key that are left while they are gone through.
use Rattle.std.specs.Prelude.{ℕ, List, ◌++◌, option_copied}
use Rattle.git_config_lite.specs.declared.left.Left.{Left}
use Rattle.git_config_lite.specs.Lookups.{values_of_key_in_entries, all_string_values}

-- those of the keys of a section that are left, and those of the sections that are left
abbrev pub values_left : Left → List (List ℕ)
values_left left = values_of_key_in_entries left.key.now left.entries.now ++ all_string_values left.name.now (option_copied left.subsection) left.key.now left.sections.now
