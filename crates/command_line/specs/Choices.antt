-- The options of `ls-files` by their names: git-ls-files(1), "OPTIONS".
use Rattle.std.specs.Prelude.{ℕ, List, Bool, ◌||◌, ◌==◌, nat_eq, drop, codes, Option, Some, None, option_map, if◌then◌else◌}
use Rattle.std.specs.List.{starts_with}
use Rattle.std.specs.Str.{bytes_eq}
use Rattle.command_line.specs.declared.choice.Choice.{Choice}
use Rattle.command_line.specs.declared.choice.Choice.TheVariants as choices
use Rattle.command_line.specs.declared.opt.Opt.{Opt}
use Rattle.command_line.specs.declared.opt.Opt.TheVariants as opts
use Rattle.command_line.specs.Options.{first_some}

-- those that `no-` before them turns off
abbrev pub negatable_ls_files_choice_of_name : List ℕ → Option Choice
negatable_ls_files_choice_of_name name =
    if bytes_eq name (codes "cached") then Some choices.Cached
    else if bytes_eq name (codes "stage") then Some choices.Stages
    else if bytes_eq name (codes "unmerged") then Some choices.Unmerged
    else if bytes_eq name (codes "others") then Some choices.Others
    else if bytes_eq name (codes "killed") then Some choices.Killed
    else if bytes_eq name (codes "deleted") then Some choices.Deleted
    else if bytes_eq name (codes "modified") then Some choices.Modified
    else if bytes_eq name (codes "ignored") then Some choices.Ignored
    else if bytes_eq name (codes "directory") then Some choices.Directories
    else if bytes_eq name (codes "empty-directory") then Some choices.EmptyDirectories
    else if bytes_eq name (codes "error-unmatch") then Some choices.ErrorUnmatch
    else if bytes_eq name (codes "deduplicate") then Some choices.Deduplicates
    else None

-- those that nothing turns off
abbrev pub unnegatable_ls_files_choice_of_name : List ℕ → Option Choice
unnegatable_ls_files_choice_of_name name =
    if bytes_eq name (codes "full-name") then Some choices.FullNames else None

-- git's, of what a path is or which rules are asked; not answered here
abbrev pub is_resolve_undo_option : List ℕ → Bool
is_resolve_undo_option name = bytes_eq name (codes "resolve-undo")

-- git's, of submodules, objects and forms; not answered here
abbrev pub is_unsupported_ls_files_form_option : List ℕ → Bool
is_unsupported_ls_files_form_option name =
    bytes_eq name (codes "recurse-submodules")
    || (bytes_eq name (codes "eol")
    || (bytes_eq name (codes "with-tree")
    || (bytes_eq name (codes "format")
    || (bytes_eq name (codes "abbrev")
    || (bytes_eq name (codes "debug")
    || bytes_eq name (codes "sparse"))))))

-- an option of git's `ls-files` that is refused by name: of rules, or of the form
abbrev pub is_unsupported_ls_files_option : List ℕ → Bool
is_unsupported_ls_files_option name = is_resolve_undo_option name || is_unsupported_ls_files_form_option name

-- a choice that is made, and one that is dropped
abbrev pub choosing_option_of_optional_choice : Option Choice → Option Opt
choosing_option_of_optional_choice choice = option_map (λ (c : Choice). opts.Chooses c) choice

-- the option that drops a choice
abbrev pub dropping_option_of_optional_choice : Option Choice → Option Opt
dropping_option_of_optional_choice choice = option_map (λ (c : Choice). opts.Drops c) choice

-- the option of a choice by its name, dropped behind `no-`
abbrev pub ls_files_option_with_optional_no_prefix : List ℕ → Option Opt
ls_files_option_with_optional_no_prefix name = if starts_with nat_eq name (codes "no-") then dropping_option_of_optional_choice (negatable_ls_files_choice_of_name (drop 3 name)) else choosing_option_of_optional_choice (negatable_ls_files_choice_of_name name)

-- the option that a long name means to `ls-files`: one that nothing drops, or a choice
abbrev pub ls_files_choice_option_of_name : List ℕ → Option Opt
ls_files_choice_option_of_name name = first_some (choosing_option_of_optional_choice (unnegatable_ls_files_choice_of_name name)) (ls_files_option_with_optional_no_prefix name)

-- those of rules
abbrev pub exclude_option_of_name : List ℕ → Option Opt
exclude_option_of_name name =
    if bytes_eq name (codes "exclude") then Some opts.Pattern
    else if bytes_eq name (codes "exclude-from") then Some opts.ExcludeFrom
    else if bytes_eq name (codes "exclude-standard") then Some opts.Standard
    else if bytes_eq name (codes "exclude-per-directory") then Some opts.RulesFile
    else None

-- the option of a name, which stands behind `--`
unfoldable pub ls_files_option_of_name : List ℕ → Option Opt
ls_files_option_of_name name =
    if bytes_eq name (codes "help") then Some opts.Help
    else if is_unsupported_ls_files_option name then Some opts.Left
    else first_some (exclude_option_of_name name) (ls_files_choice_option_of_name name)

-- the choice of a letter, which stands behind `-`: c, s, u, o, k, d, m, i, t, v, z
abbrev pub ls_files_choice_of_letter : ℕ → Option Choice
ls_files_choice_of_letter letter =
    if letter == 99 then Some choices.Cached
    else if letter == 115 then Some choices.Stages
    else if letter == 117 then Some choices.Unmerged
    else if letter == 111 then Some choices.Others
    else if letter == 107 then Some choices.Killed
    else if letter == 100 then Some choices.Deleted
    else if letter == 109 then Some choices.Modified
    else if letter == 105 then Some choices.Ignored
    else if letter == 116 then Some choices.Tags
    else if letter == 118 then Some choices.Valid
    else if letter == 122 then Some choices.Nul
    else None

-- git's, and not answered here: f
abbrev pub is_unsupported_ls_files_letter : ℕ → Bool
is_unsupported_ls_files_letter letter = letter == 102

-- x, X, and h
abbrev pub ls_files_option_of_letter : ℕ → Option Opt
ls_files_option_of_letter letter =
    if letter == 104 then Some opts.Help
    else if letter == 120 then Some opts.Pattern
    else if letter == 88 then Some opts.ExcludeFrom
    else if is_unsupported_ls_files_letter letter then Some opts.Left
    else choosing_option_of_optional_choice (ls_files_choice_of_letter letter)
