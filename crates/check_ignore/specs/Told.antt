-- What is told of a refusal.
use Rattle.std.specs.Prelude.{ℕ, List, ◌++◌, codes, decimal}
use Rattle.check_ignore.specs.declared.stop.Stop.{Stop}
use Rattle.check_ignore.specs.declared.stop.Stop.TheVariants as stops

-- git's words for a path that leads out of the work tree at `root`
abbrev pub outside_repository_text : List ℕ → List ℕ → List ℕ
outside_repository_text root text = (text ++ codes ": '" ++ text) ++ codes "' is outside repository at '" ++ root ++ codes "'"

-- git's words for a path in the submodule at `place`
abbrev pub inside_submodule_text : List ℕ → List ℕ → List ℕ
inside_submodule_text text place = (codes "Pathspec '" ++ text ++ codes "' is in submodule '") ++ place ++ codes "'"

-- a path that is not answered here, and why
abbrev pub unsupported_text : List ℕ → List ℕ → List ℕ
unsupported_text why text = (codes "check-ignore is not supported with " ++ why ++ codes ": '") ++ text ++ codes "'"

-- the rule in this line of a file outside the work tree excludes all
abbrev pub excluding_rule_text : List ℕ → ℕ → List ℕ
excluding_rule_text file line = (codes "a rule outside the work tree that excludes all, line " ++ decimal line ++ codes " of '") ++ file ++ codes "'"

-- what git refuses too in git's words
abbrev pub told : List ℕ → Stop → List ℕ
told root stops.BadQuotes = codes "line is badly quoted"
told root stops.Empty = codes "empty string is not a valid pathspec. please use . instead if you meant to match all paths"
told root (stops.Outside text) = outside_repository_text root text
told root (stops.Beyond text) = codes "pathspec '" ++ text ++ codes "' is beyond a symbolic link"
told root (stops.Inside text place) = inside_submodule_text text place
told root (stops.Magic text) = unsupported_text (codes "path spec magic") text
told root (stops.Elsewhere text) = unsupported_text (codes "a path elsewhere") text
told root (stops.Prefix text) = unsupported_text (codes "wildcards here") text
told root (stops.Slash text) = unsupported_text (codes "a directory that is neither tracked nor ignored") text
told root (stops.Everything text file line) = unsupported_text (excluding_rule_text file line) text
told root (stops.Unread text) = unsupported_text (codes "a rules file that is not read") text
told root stops.SparseIndex = codes "check-ignore is not supported with a sparse index"
told root stops.Fault = codes "the work tree could not be read"
told root stops.OutOfMemory = codes "out of memory"
