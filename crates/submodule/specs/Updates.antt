-- The words of `update`: how a submodule is brought up to date, or a command behind a `!`.
use Rattle.std.specs.Prelude.{ℕ, List, [], ◌∷◌, ◌==◌, codes, bytes_eq, Option, Some, None, if◌then◌else◌}
use Rattle.submodule.specs.declared.update.Update.{Update}
use Rattle.submodule.specs.declared.update.Update.TheVariants as update

-- the text behind a `!`
abbrev pub parse_update_command : List ℕ → Option Update
parse_update_command [] = None
parse_update_command (b ∷ text) = if b == 33 then Some (update.Command text) else None

-- `checkout`, `rebase`, `merge` or `none`, byte for byte, or a command behind a `!`; none for any other text
abbrev pub parse_update : List ℕ → Option Update
parse_update text =
    if bytes_eq text (codes "checkout") then Some update.Checkout
    else if bytes_eq text (codes "rebase") then Some update.Rebase
    else if bytes_eq text (codes "merge") then Some update.Merge
    else if bytes_eq text (codes "none") then Some update.None
    else parse_update_command text
