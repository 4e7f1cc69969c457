-- Which cleanings there are not: in git, or not here.
use Rattle.std.specs.Prelude.{ℕ, List, not, ◌&&◌, codes, Option, Some, None, if◌then◌else◌}
use Rattle.worktree_report.specs.declared.setup.Setup.{Setup}
use Rattle.git_clean.specs.declared.options.Cleaning.{Cleaning}
use Rattle.git_clean.specs.declared.wrong.UnsupportedCleaning.{UnsupportedCleaning}
use Rattle.git_clean.specs.declared.wrong.UnsupportedCleaning.TheVariants as wrong

-- the first reason why there is no such cleaning of the work tree of a setup; nothing is removed here
abbrev pub reason_cleaning_unsupported : Cleaning → Setup → Option UnsupportedCleaning
reason_cleaning_unsupported c setup =
    if not c.dry_run then Some wrong.Removes
    else if c.ignored_too && c.ignored_only then Some wrong.BothIgnored
    else if setup.options.ignore_case then Some wrong.FoldedCase
    else None

-- what is told of it
abbrev pub message_of_wrong_cleaning : UnsupportedCleaning → List ℕ
message_of_wrong_cleaning wrong.Removes = codes "clean is not supported without -n: nothing is removed"
message_of_wrong_cleaning wrong.BothIgnored = codes "-x and -X cannot be used together"
message_of_wrong_cleaning wrong.FoldedCase = codes "clean is not supported with core.ignoreCase"
