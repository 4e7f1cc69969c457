-- The commands by their names.
use Rattle.std.specs.Prelude.{ℕ, List, Bool, true, false, codes, Option, Some, None, if◌then◌else◌}
use Rattle.std.specs.Str.{bytes_eq}
use Rattle.command_line.specs.declared.verb.Verb.{Verb}
use Rattle.command_line.specs.declared.verb.Verb.TheVariants.{Report, Plan, Modules, State, Files, Clean, Compare, Check}

-- the command of this name
abbrev pub verb_of_word : List ℕ → Option Verb
verb_of_word word =
    if bytes_eq word (codes "report") then Some Report
    else if bytes_eq word (codes "plan") then Some Plan
    else if bytes_eq word (codes "modules") then Some Modules
    else if bytes_eq word (codes "state") then Some State
    else if bytes_eq word (codes "ls-files") then Some Files
    else if bytes_eq word (codes "clean") then Some Clean
    else if bytes_eq word (codes "diff-files") then Some Compare
    else if bytes_eq word (codes "check-ignore") then Some Check
    else None

-- `modules` and `state` look at the whole of the work tree
abbrev pub takes_paths : Verb → Bool
takes_paths Report = true
takes_paths Plan = true
takes_paths Modules = false
takes_paths State = false
takes_paths Files = true
takes_paths Clean = true
takes_paths Compare = true
takes_paths Check = true

-- git's own words mean the current directory where no path is asked for, and where each path excludes
abbrev pub prefers_current_directory : Verb → Bool
prefers_current_directory Report = false
prefers_current_directory Plan = false
prefers_current_directory Modules = false
prefers_current_directory State = false
prefers_current_directory Files = true
prefers_current_directory Clean = true
prefers_current_directory Compare = false
prefers_current_directory Check = false

-- a word of `diff-files` that stands before `--` may be a revision
abbrev pub needs_double_dash_before_paths : Verb → Bool
needs_double_dash_before_paths Report = false
needs_double_dash_before_paths Plan = false
needs_double_dash_before_paths Modules = false
needs_double_dash_before_paths State = false
needs_double_dash_before_paths Files = false
needs_double_dash_before_paths Clean = false
needs_double_dash_before_paths Compare = true
needs_double_dash_before_paths Check = false
