-- The options of `clean` by their names: git-clean(1), "OPTIONS".
use Rattle.std.specs.Prelude.{ℕ, List, [], ◌∷◌, Bool, true, false, not, ◌||◌, ◌&&◌, ◌==◌, nat_eq, is_some, position, drop, codes, Option, Some, None, option_map, if◌then◌else◌}
use Rattle.std.specs.List.{starts_with, ends_with}
use Rattle.std.specs.Str.{bytes_eq}
use Rattle.command_line.specs.declared.clean_options.CleanChoice.{CleanChoice}
use Rattle.command_line.specs.declared.clean_options.CleanChoice.TheVariants as choices
use Rattle.command_line.specs.declared.clean_options.Force.{Force}
use Rattle.command_line.specs.declared.clean_options.Force.TheVariants as forces
use Rattle.command_line.specs.declared.opt.Opt.{Opt}
use Rattle.command_line.specs.declared.opt.Opt.TheVariants as opts

-- ---- names

-- those that `no-` before them turns off
abbrev pub negatable_clean_choice_of_name : List ℕ → Option CleanChoice
negatable_clean_choice_of_name name =
    if bytes_eq name (codes "dry-run") then Some choices.DryRun
    else if bytes_eq name (codes "quiet") then Some choices.Quiet
    else None

-- a choice that is made or dropped
abbrev pub clean_option_of_optional_choice : Bool → Option CleanChoice → Option Opt
clean_option_of_optional_choice is_on choice = option_map (λ (c : CleanChoice). opts.Cleans c is_on) choice

-- the option of a name for `clean`, turned on or off: `force`, or a choice
abbrev pub negatable_clean_option_of_name : Bool → List ℕ → Option Opt
negatable_clean_option_of_name is_on name = if bytes_eq name (codes "force") then Some (opts.Forces is_on) else clean_option_of_optional_choice is_on (negatable_clean_choice_of_name name)

-- the option that a long name means to `clean`, off behind `no-`
abbrev pub clean_option_with_optional_no_prefix : List ℕ → Option Opt
clean_option_with_optional_no_prefix name = if starts_with nat_eq name (codes "no-") then negatable_clean_option_of_name false (drop 3 name) else negatable_clean_option_of_name true name

-- git's, and not answered here
abbrev pub is_unsupported_clean_option : List ℕ → Bool
is_unsupported_clean_option name = bytes_eq name (codes "interactive") || bytes_eq name (codes "no-interactive")

-- the option of a name, which stands behind `--`
unfoldable pub clean_option_of_name : List ℕ → Option Opt
clean_option_of_name name =
    if bytes_eq name (codes "help") then Some opts.Help
    else if bytes_eq name (codes "exclude") then Some opts.Pattern
    else if is_unsupported_clean_option name then Some opts.Left
    else clean_option_with_optional_no_prefix name

-- ---- letters

-- the choice of a letter, which stands behind `-`: n, d, x, X, q
abbrev pub clean_choice_of_letter : ℕ → Option CleanChoice
clean_choice_of_letter letter =
    if letter == 110 then Some choices.DryRun
    else if letter == 100 then Some choices.Directories
    else if letter == 120 then Some choices.IgnoredToo
    else if letter == 88 then Some choices.IgnoredAlone
    else if letter == 113 then Some choices.Quiet
    else None

-- and h, f, e; i is not answered here
abbrev pub clean_option_of_letter : ℕ → Option Opt
clean_option_of_letter letter =
    if letter == 104 then Some opts.Help
    else if letter == 102 then Some (opts.Forces true)
    else if letter == 101 then Some opts.Pattern
    else if letter == 105 then Some opts.Left
    else clean_option_of_optional_choice true (clean_choice_of_letter letter)

-- ---- patterns

-- a line feed stands among the bytes
abbrev pub contains_line_feed : List ℕ → Bool
contains_line_feed bytes = is_some (position (λ b. b == 10) bytes)

-- it ends in a blank or a carriage return
abbrev pub ends_in_space_or_carriage_return : List ℕ → Bool
ends_in_space_or_carriage_return bytes = ends_with nat_eq bytes (32 ∷ []) || ends_with nat_eq bytes (13 ∷ [])

-- A pattern that can stand as a line of a rules file. Others, which git takes too, are not answered here.
abbrev pub lacks_line_feed_and_trailing_blank : List ℕ → Bool
lacks_line_feed_and_trailing_blank bytes = not (contains_line_feed bytes) && not (ends_in_space_or_carriage_return bytes)

-- ---- how often `-f` stands

-- once more
abbrev pub with_one_more_force : Force → Force
with_one_more_force forces.Unsaid = forces.Once
with_one_more_force forces.Dropped = forces.Alone
with_one_more_force forces.Once = forces.Twice
with_one_more_force forces.Alone = forces.Twice
with_one_more_force forces.Twice = forces.Twice

-- once more, or not at all behind `--no-force`
abbrev pub with_force_or_no_force : Bool → Force → Force
with_force_or_no_force is_on force = if is_on then with_one_more_force force else forces.Dropped

-- Something may be removed without `-n`. `clean.requireForce` counts as one `-f` where it is false, which is lax.
abbrev pub is_force_given_counting_config : Force → Bool → Bool
is_force_given_counting_config forces.Unsaid is_lax = is_lax
is_force_given_counting_config forces.Dropped is_lax = false
is_force_given_counting_config forces.Once is_lax = true
is_force_given_counting_config forces.Alone is_lax = true
is_force_given_counting_config forces.Twice is_lax = true

-- repositories too
abbrev pub is_force_given_twice_counting_config : Force → Bool → Bool
is_force_given_twice_counting_config forces.Unsaid is_lax = false
is_force_given_twice_counting_config forces.Dropped is_lax = false
is_force_given_twice_counting_config forces.Once is_lax = is_lax
is_force_given_twice_counting_config forces.Alone is_lax = false
is_force_given_twice_counting_config forces.Twice is_lax = true
