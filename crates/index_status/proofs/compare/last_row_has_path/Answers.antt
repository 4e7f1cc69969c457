use Rattle.std.proofs.Common.{rules}
use Rattle.index_status.proofs.Alongside.{last-is}
use Rattle.index_status.proofs.compare.last_row_has_path.Goals as goal

pub returns-in-Some : goal.returns-in-Some
returns-in-Some c =
    let end = last-is c.args.made.now.items in
    search rules

pub returns-in-None : goal.returns-in-None
returns-in-None c =
    let end = last-is c.args.made.now.items in
    search rules
