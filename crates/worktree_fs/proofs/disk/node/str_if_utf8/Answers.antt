use Rattle.std.proofs.Common.{◌≡◌, rules}
use Rattle.std.proofs.lemmas.Str.{is_utf8-from_IsUtf8}
use Rattle.worktree_fs.proofs.disk.node.str_if_utf8.Goals as goal

pub returns-in-Ok : goal.returns-in-Ok
returns-in-Ok c =
    let same : c.in-Ok.text.now ≡ c.args.bytes.now = search rules in
    (same, is_utf8-from_IsUtf8 c.args.bytes.now c.in-Ok.ensures.cases.1)
