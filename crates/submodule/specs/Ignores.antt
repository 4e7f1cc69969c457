-- The words of `ignore`: which changes of a submodule a status leaves out.
use Rattle.std.specs.Prelude.{ℕ, List, codes, bytes_eq, Option, Some, None, if◌then◌else◌}
use Rattle.submodule.specs.declared.ignore.Ignore.{Ignore}
use Rattle.submodule.specs.declared.ignore.Ignore.TheVariants as ignore

-- `all`, `dirty`, `untracked` or `none`, byte for byte; none for any other text, the empty one too
abbrev pub parse_ignore_word : List ℕ → Option Ignore
parse_ignore_word text =
    if bytes_eq text (codes "all") then Some ignore.All
    else if bytes_eq text (codes "dirty") then Some ignore.Dirty
    else if bytes_eq text (codes "untracked") then Some ignore.Untracked
    else if bytes_eq text (codes "none") then Some ignore.None
    else None
