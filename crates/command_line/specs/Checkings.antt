-- The options of `check-ignore` by their names: git-check-ignore(1), "OPTIONS".
use Rattle.std.specs.Prelude.{ℕ, List, Bool, true, false, ◌||◌, ◌==◌, nat_eq, drop, codes, Option, Some, None, option_map, if◌then◌else◌}
use Rattle.std.specs.List.{starts_with}
use Rattle.std.specs.Str.{bytes_eq}
use Rattle.check_ignore.specs.declared.options.Checking.{Checking}
use Rattle.command_line.specs.declared.check_options.CheckAsked.{CheckAsked}
use Rattle.command_line.specs.declared.check_options.CheckChoice.{CheckChoice}
use Rattle.command_line.specs.declared.check_options.CheckChoice.TheVariants as choices
use Rattle.command_line.specs.declared.opt.Opt.{Opt}
use Rattle.command_line.specs.declared.opt.Opt.TheVariants as opts
use Rattle.command_line.specs.Options.{first_some}

-- Excluded paths alone are written. How bytes above 0x7f are written and how letters compare is left to the configuration.
abbrev pub default_check_ignore_output : Checking
default_check_ignore_output =
    record { quiet = false; verbose = false; non_matching = false; stdin = false; ends_in_nul = false; quote_path = true; ignore_case = false }

-- the index is asked
abbrev pub default_check_ignore_request : CheckAsked
default_check_ignore_request = record { checking = default_check_ignore_output; leaves_index = false }

-- what is asked, with how the answer is written
abbrev pub check_request_with_output : Checking → CheckAsked → CheckAsked
check_request_with_output checking asked = record asked { checking = checking }

-- with one choice made or dropped
abbrev pub check_request_with_choice : CheckChoice → Bool → CheckAsked → CheckAsked
check_request_with_choice choices.Quiet on asked = check_request_with_output (record asked.checking { quiet = on }) asked
check_request_with_choice choices.Verbose on asked = check_request_with_output (record asked.checking { verbose = on }) asked
check_request_with_choice choices.NonMatching on asked = check_request_with_output (record asked.checking { non_matching = on }) asked
check_request_with_choice choices.Stdin on asked = check_request_with_output (record asked.checking { stdin = on }) asked
check_request_with_choice choices.Nul on asked = check_request_with_output (record asked.checking { ends_in_nul = on }) asked
check_request_with_choice choices.LeavesIndex on asked = record asked { leaves_index = on }

-- those that `no-` before them turns off
abbrev pub negatable_check_choice_of_name : List ℕ → Option CheckChoice
negatable_check_choice_of_name name =
    if bytes_eq name (codes "quiet") then Some choices.Quiet
    else if bytes_eq name (codes "verbose") then Some choices.Verbose
    else if bytes_eq name (codes "non-matching") then Some choices.NonMatching
    else if bytes_eq name (codes "stdin") then Some choices.Stdin
    else None

-- the option of a choice, made or dropped
abbrev pub check_option_of_optional_choice : Bool → Option CheckChoice → Option Opt
check_option_of_optional_choice is_on choice = option_map (λ (c : CheckChoice). opts.Checks c is_on) choice

-- `--no-index` is a name of its own, which `--index` and `--no-no-index` turn off
abbrev pub index_option_of_name : List ℕ → Option Opt
index_option_of_name name =
    if bytes_eq name (codes "no-index") then check_option_of_optional_choice true (Some choices.LeavesIndex)
    else if bytes_eq name (codes "index") || bytes_eq name (codes "no-no-index") then check_option_of_optional_choice false (Some choices.LeavesIndex)
    else None

-- the option that a long name means to `check-ignore`: behind `no-` one that drops a choice
abbrev pub check_option_with_optional_no_prefix : List ℕ → Option Opt
check_option_with_optional_no_prefix name =
    if starts_with nat_eq name (codes "no-") then check_option_of_optional_choice false (negatable_check_choice_of_name (drop 3 name)) else check_option_of_optional_choice true (negatable_check_choice_of_name name)

-- the option of a name, which stands behind `--`
unfoldable pub check_ignore_option_of_name : List ℕ → Option Opt
check_ignore_option_of_name name = if bytes_eq name (codes "help") then Some opts.Help else first_some (index_option_of_name name) (check_option_with_optional_no_prefix name)

-- the option of a letter, which stands behind `-`: h, q, v, n, z
abbrev pub check_ignore_option_of_letter : ℕ → Option Opt
check_ignore_option_of_letter letter =
    if letter == 104 then Some opts.Help
    else if letter == 113 then check_option_of_optional_choice true (Some choices.Quiet)
    else if letter == 118 then check_option_of_optional_choice true (Some choices.Verbose)
    else if letter == 110 then check_option_of_optional_choice true (Some choices.NonMatching)
    else if letter == 122 then check_option_of_optional_choice true (Some choices.Nul)
    else None
