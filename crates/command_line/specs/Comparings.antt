-- The options of `diff-files` by their names: git-diff-files(1), "OPTIONS".
use Rattle.std.specs.Prelude.{ℕ, List, Bool, true, false, ◌||◌, ◌==◌, nat_eq, drop, codes, Option, Some, None, option_map, if◌then◌else◌}
use Rattle.std.specs.List.{list_any, starts_with}
use Rattle.std.specs.Str.{bytes_eq}
use Rattle.command_line.specs.declared.compare_options.CompareChoice.{CompareChoice}
use Rattle.command_line.specs.declared.compare_options.CompareChoice.TheVariants as choices
use Rattle.command_line.specs.declared.compare_options.Comparing.{Comparing}
use Rattle.command_line.specs.declared.compare_options.Ignoring.{Ignoring}
use Rattle.command_line.specs.declared.compare_options.Ignoring.TheVariants as ignorings
use Rattle.command_line.specs.declared.opt.Opt.{Opt}
use Rattle.command_line.specs.declared.opt.Opt.TheVariants as opts
use Rattle.command_line.specs.Options.{first_some}

-- no form is said, nothing ends in NULs, and the status tells nothing of changes
abbrev pub default_diff_files_request : Comparing
default_diff_files_request =
    record {
      raw = false;
      names = false;
      statuses = false;
      ends_in_nul = false;
      tells_changes = false;
      is_quiet = false;
      ignoring = ignorings.Configured;
    }

-- with one choice made or dropped; `-q` changes nothing
abbrev pub diff_files_request_with_choice : CompareChoice → Bool → Comparing → Comparing
diff_files_request_with_choice choices.Raw on comparing = record comparing { raw = on }
diff_files_request_with_choice choices.Names on comparing = record comparing { names = on }
diff_files_request_with_choice choices.Statuses on comparing = record comparing { statuses = on }
diff_files_request_with_choice choices.Nul on comparing = record comparing { ends_in_nul = on }
diff_files_request_with_choice choices.Silent on comparing = comparing
diff_files_request_with_choice choices.TellsChanges on comparing = record comparing { tells_changes = on }
diff_files_request_with_choice choices.Quiet on comparing = record comparing { is_quiet = on }
diff_files_request_with_choice (choices.Ignores ignoring) on comparing = record comparing { ignoring = ignoring }

-- those that nothing turns off
abbrev pub unnegatable_diff_files_choice_of_name : List ℕ → Option CompareChoice
unnegatable_diff_files_choice_of_name name =
    if bytes_eq name (codes "raw") then Some choices.Raw
    else if bytes_eq name (codes "name-only") then Some choices.Names
    else if bytes_eq name (codes "name-status") then Some choices.Statuses
    else None

-- those that `no-` before them turns off
abbrev pub negatable_diff_files_choice_of_name : List ℕ → Option CompareChoice
negatable_diff_files_choice_of_name name =
    if bytes_eq name (codes "exit-code") then Some choices.TellsChanges
    else if bytes_eq name (codes "quiet") then Some choices.Quiet
    else None

-- the option of a choice, made or dropped
abbrev pub diff_files_option_of_optional_choice : Bool → Option CompareChoice → Option Opt
diff_files_option_of_optional_choice is_on choice = option_map (λ (c : CompareChoice). opts.Compares c is_on) choice

-- the option of a choice by its name, dropped behind `no-`
abbrev pub diff_files_option_with_optional_no_prefix : List ℕ → Option Opt
diff_files_option_with_optional_no_prefix name =
    if starts_with nat_eq name (codes "no-") then diff_files_option_of_optional_choice false (negatable_diff_files_choice_of_name (drop 3 name)) else diff_files_option_of_optional_choice true (negatable_diff_files_choice_of_name name)

-- git's, of patches; not answered here
abbrev pub is_unsupported_patch_option : List ℕ → Bool
is_unsupported_patch_option name =
    bytes_eq name (codes "patch")
    || (bytes_eq name (codes "no-patch")
    || (bytes_eq name (codes "unified")
    || (bytes_eq name (codes "patch-with-raw")
    || (bytes_eq name (codes "patch-with-stat")
    || (bytes_eq name (codes "cc")
    || (bytes_eq name (codes "check")
    || (bytes_eq name (codes "binary")
    || (bytes_eq name (codes "full-index")
    || bytes_eq name (codes "text")))))))))

-- of counts
abbrev pub is_unsupported_stat_option : List ℕ → Bool
is_unsupported_stat_option name =
    bytes_eq name (codes "stat")
    || (bytes_eq name (codes "numstat")
    || (bytes_eq name (codes "shortstat")
    || (bytes_eq name (codes "dirstat")
    || (bytes_eq name (codes "compact-summary")
    || bytes_eq name (codes "summary")))))

-- of which changes are told, and of pairs
abbrev pub is_unsupported_filter_or_rename_option : List ℕ → Bool
is_unsupported_filter_or_rename_option name =
    bytes_eq name (codes "diff-filter")
    || (bytes_eq name (codes "find-renames")
    || (bytes_eq name (codes "find-copies")
    || (bytes_eq name (codes "find-copies-harder")
    || (bytes_eq name (codes "no-renames")
    || (bytes_eq name (codes "break-rewrites")
    || (bytes_eq name (codes "irreversible-delete")
    || (bytes_eq name (codes "find-object")
    || (bytes_eq name (codes "pickaxe-all")
    || bytes_eq name (codes "pickaxe-regex")))))))))

-- of stages, and of how paths and ids are written
abbrev pub is_unsupported_stage_or_form_option : List ℕ → Bool
is_unsupported_stage_or_form_option name =
    bytes_eq name (codes "base")
    || (bytes_eq name (codes "ours")
    || (bytes_eq name (codes "theirs")
    || (bytes_eq name (codes "relative")
    || (bytes_eq name (codes "no-relative")
    || (bytes_eq name (codes "abbrev")
    || (bytes_eq name (codes "no-abbrev")
    || (bytes_eq name (codes "color")
    || (bytes_eq name (codes "no-color")
    || (bytes_eq name (codes "line-prefix")
    || bytes_eq name (codes "output"))))))))))

-- an option of git's `diff-files` that is refused by name: of patches, counts, filters or the form
abbrev pub is_unsupported_diff_files_option : List ℕ → Bool
is_unsupported_diff_files_option name = is_unsupported_patch_option name || (is_unsupported_stat_option name || (is_unsupported_filter_or_rename_option name || is_unsupported_stage_or_form_option name))

-- "Using "none" will consider the submodule modified when it either contains untracked or modified files or its HEAD differs": what
-- "untracked" and "dirty" leave out of that is in the repository of a submodule, which is not looked into
abbrev pub parse_ignore_submodules_value : List ℕ → Option Ignoring
parse_ignore_submodules_value value =
    if bytes_eq value (codes "all") then Some ignorings.All
    else if bytes_eq value (codes "none") then Some ignorings.Nothing
    else if bytes_eq value (codes "dirty") then Some ignorings.Nothing
    else if bytes_eq value (codes "untracked") then Some ignorings.Nothing
    else None

-- the option that a long name means to `diff-files`: a form of the answer, or a choice
abbrev pub diff_files_choice_option_of_name : List ℕ → Option Opt
diff_files_choice_option_of_name name = first_some (diff_files_option_of_optional_choice true (unnegatable_diff_files_choice_of_name name)) (diff_files_option_with_optional_no_prefix name)

-- the option of this name that is not answered here, or a choice
unfoldable pub unsupported_or_choice_option_of_name : List ℕ → Option Opt
unsupported_or_choice_option_of_name name =
    if is_unsupported_diff_files_option name then Some opts.Left
    else diff_files_choice_option_of_name name

-- the option of this name beside the help
unfoldable pub diff_files_option_of_name_except_help : List ℕ → Option Opt
diff_files_option_of_name_except_help name =
    if bytes_eq name (codes "ignore-submodules") then Some opts.Submodules
    else unsupported_or_choice_option_of_name name

-- the option of a name, which stands behind `--`
unfoldable pub diff_files_option_of_name : List ℕ → Option Opt
diff_files_option_of_name name =
    if bytes_eq name (codes "help") then Some opts.Help
    else diff_files_option_of_name_except_help name

-- git's, and not answered here
abbrev pub is_unsupported_diff_files_letter : ℕ → Bool
is_unsupported_diff_files_letter letter = list_any (λ left. left == letter) (codes "puUsRMCBDSGOlWabwcIXrmt0123")

-- the option of a letter, which stands behind `-`: h, z, q
abbrev pub diff_files_option_of_letter : ℕ → Option Opt
diff_files_option_of_letter letter =
    if letter == 104 then Some opts.Help
    else if letter == 122 then Some (opts.Compares choices.Nul true)
    else if letter == 113 then Some (opts.Compares choices.Silent true)
    else if is_unsupported_diff_files_letter letter then Some opts.Left
    else None
