-- The options by their names.
use Rattle.std.specs.Prelude.{ℕ, List, Bool, true, false, ◌==◌, nat_eq, drop, codes, Option, Some, None, option_map, if◌then◌else◌}
use Rattle.std.specs.List.{starts_with}
use Rattle.std.specs.Str.{bytes_eq}
use Rattle.dir_classify.specs.declared.options.EmissionMode.{EmissionMode}
use Rattle.dir_classify.specs.declared.options.EmissionMode.TheVariants.{Matching, CollapseDirectory}
use Rattle.dir_classify.specs.declared.options.CollapsedEntriesEmissionMode.{CollapsedEntriesEmissionMode}
use Rattle.dir_classify.specs.declared.options.CollapsedEntriesEmissionMode.TheVariants.{OnStatusMismatch, All}
use Rattle.dir_classify.specs.declared.options.ForDeletionMode.{ForDeletionMode}
use Rattle.dir_classify.specs.declared.options.ForDeletionMode.TheVariants.{IgnoredDirectoriesCanHideNestedRepositories, FindNonBareRepositoriesInIgnoredDirectories, FindRepositoriesInIgnoredDirectories}
use Rattle.command_line.specs.declared.opt.Opt.{Opt}
use Rattle.command_line.specs.declared.opt.Opt.TheVariants as opts
use Rattle.command_line.specs.declared.opt.Switch.{Switch}
use Rattle.command_line.specs.declared.opt.Switch.TheVariants as switches
use Rattle.command_line.specs.declared.verb.Verb.{Verb}
use Rattle.command_line.specs.declared.verb.Verb.TheVariants.{Report, Plan, Modules, State, Files, Clean, Compare, Check}

-- ---- names

-- what is reported
abbrev pub output_switch_of_name : List ℕ → Option Switch
output_switch_of_name name =
    if bytes_eq name (codes "tracked") then Some switches.Tracked
    else if bytes_eq name (codes "pruned") then Some switches.Pruned
    else if bytes_eq name (codes "empty-directories") then Some switches.EmptyDirectories
    else if bytes_eq name (codes "origins") then Some switches.Origins
    else if bytes_eq name (codes "submodules") then Some switches.Submodules
    else if bytes_eq name (codes "outcome") then Some switches.Outcome
    else None

-- how paths are looked at
abbrev pub walk_switch_of_name : List ℕ → Option Switch
walk_switch_of_name name =
    if bytes_eq name (codes "excludes") then Some switches.Excludes
    else if bytes_eq name (codes "precious") then Some switches.Precious
    else if bytes_eq name (codes "strict-parents") then Some switches.StrictParents
    else if bytes_eq name (codes "recurse-repositories") then Some switches.RecurseRepositories
    else if bytes_eq name (codes "bare-repositories") then Some switches.BareRepositories
    else if bytes_eq name (codes "links-as-directories") then Some switches.LinksAsDirectories
    else None

-- the first of two that is there
abbrev pub first_some : {A : Type 0} → Option A → Option A → Option A
first_some (Some a) other = Some a
first_some None other = other

-- what a name turns on
unfoldable pub switch_of_name : List ℕ → Option Switch
switch_of_name name = first_some (output_switch_of_name name) (walk_switch_of_name name)

-- options that have a value, or may have one
abbrev pub valued_option_of_name : List ℕ → Option Opt
valued_option_of_name name =
    if bytes_eq name (codes "untracked-files") then Some opts.Untracked
    else if bytes_eq name (codes "ignored") then Some opts.Ignored
    else if bytes_eq name (codes "collapsed") then Some opts.Collapsed
    else if bytes_eq name (codes "for-deletion") then Some opts.Deletion
    else if bytes_eq name (codes "permissions") then Some opts.Permissions
    else if bytes_eq name (codes "strategy") then Some opts.Strategy
    else if bytes_eq name (codes "depth") then Some opts.Depth
    else if bytes_eq name (codes "color") then Some opts.Color
    else None

-- options that have none and turn nothing on or off
abbrev pub valueless_option_of_name : List ℕ → Option Opt
valueless_option_of_name name =
    if bytes_eq name (codes "nonbare") then Some opts.NonBare
    else if bytes_eq name (codes "by-stat") then Some opts.ByStat
    else if bytes_eq name (codes "null") then Some opts.Nul
    else if bytes_eq name (codes "plain") then Some opts.Plain
    else if bytes_eq name (codes "no-color") then Some opts.NoColor
    else if bytes_eq name (codes "help") then Some opts.Help
    else None

-- `NAME` turns on what it says, `no-NAME` turns it off
abbrev pub switch_option_with_optional_no_prefix : List ℕ → Option Opt
switch_option_with_optional_no_prefix name =
    if starts_with nat_eq name (codes "no-") then option_map (λ (s : Switch). opts.Without s) (switch_of_name (drop 3 name))
    else option_map (λ (s : Switch). opts.With s) (switch_of_name name)

-- the option of a name, which stands behind `--`
unfoldable pub option_of_name : List ℕ → Option Opt
option_of_name name = first_some (valued_option_of_name name) (first_some (valueless_option_of_name name) (switch_option_with_optional_no_prefix name))

-- the option of a letter, which stands behind `-`: u, x, X, z, h
abbrev pub option_of_letter : ℕ → Option Opt
option_of_letter letter =
    if letter == 117 then Some opts.Untracked
    else if letter == 120 then Some opts.IgnoredToo
    else if letter == 88 then Some opts.IgnoredAlone
    else if letter == 122 then Some opts.Nul
    else if letter == 104 then Some opts.Help
    else None

-- ---- which command has which option

-- what a plan does not fix for itself
abbrev pub is_switch_of_plan : Switch → Bool
is_switch_of_plan switches.Excludes = true
is_switch_of_plan switches.Precious = true
is_switch_of_plan switches.StrictParents = true
is_switch_of_plan switches.LinksAsDirectories = true
is_switch_of_plan other = false

-- `report` has all but those that say what may be removed, or by what `state` goes
abbrev pub is_option_of_report : Opt → Bool
is_option_of_report opts.IgnoredToo = false
is_option_of_report opts.IgnoredAlone = false
is_option_of_report opts.NonBare = false
is_option_of_report opts.ByStat = false
is_option_of_report other = true

-- an option of `plan`
abbrev pub is_option_of_plan : Opt → Bool
is_option_of_plan (opts.With switch) = is_switch_of_plan switch
is_option_of_plan (opts.Without switch) = is_switch_of_plan switch
is_option_of_plan opts.Strategy = true
is_option_of_plan opts.Depth = true
is_option_of_plan opts.IgnoredToo = true
is_option_of_plan opts.IgnoredAlone = true
is_option_of_plan opts.NonBare = true
is_option_of_plan opts.Nul = true
is_option_of_plan opts.Help = true
is_option_of_plan other = false

-- an option of `modules`
abbrev pub is_option_of_modules : Opt → Bool
is_option_of_modules opts.Permissions = true
is_option_of_modules opts.Help = true
is_option_of_modules other = false

-- `state` has those of `report`, whose lines stand behind its own, but no letters: its own lines have none. And it may go by stat fields
abbrev pub is_option_of_state : Opt → Bool
is_option_of_state opts.Plain = false
is_option_of_state opts.ByStat = true
is_option_of_state other = is_option_of_report other

-- `ls-files`, `clean`, `diff-files` and `check-ignore` have those that they know by name
abbrev pub command_has_option : Verb → Opt → Bool
command_has_option Report opt = is_option_of_report opt
command_has_option Plan opt = is_option_of_plan opt
command_has_option Modules opt = is_option_of_modules opt
command_has_option State opt = is_option_of_state opt
command_has_option Files opt = true
command_has_option Clean opt = true
command_has_option Compare opt = true
command_has_option Check opt = true

-- ---- values

-- the mode that a value names, in which paths are reported
abbrev pub parse_emission_mode : List ℕ → Option EmissionMode
parse_emission_mode value =
    if bytes_eq value (codes "matching") then Some Matching
    else if bytes_eq value (codes "collapse") then Some CollapseDirectory
    else None

-- the mode that a value names, for what a folded directory covers
abbrev pub parse_collapsed_mode : List ℕ → Option CollapsedEntriesEmissionMode
parse_collapsed_mode value =
    if bytes_eq value (codes "mismatch") then Some OnStatusMismatch
    else if bytes_eq value (codes "all") then Some All
    else None

-- the mode that a value names, for what must not be deleted
abbrev pub parse_for_deletion_mode : List ℕ → Option ForDeletionMode
parse_for_deletion_mode value =
    if bytes_eq value (codes "hide") then Some IgnoredDirectoriesCanHideNestedRepositories
    else if bytes_eq value (codes "nonbare") then Some FindNonBareRepositoriesInIgnoredDirectories
    else if bytes_eq value (codes "all") then Some FindRepositoriesInIgnoredDirectories
    else None
