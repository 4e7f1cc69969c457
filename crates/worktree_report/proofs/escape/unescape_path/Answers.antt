use Rattle.std.proofs.Common.{ap, ◌∙◌, Some}
use Rattle.worktree_report.proofs.Unescaping.{unescaped-read}
use Rattle.worktree_report.proofs.escape.unescape_path.Goals as goal

pub returns : goal.returns
returns c = ap Some c.from_vec.ensures ∙ unescaped-read c.loop-first.bytes.items c.loop-first.rest.now c.args.text.now c.in_default.ensures.cases c.loop-first.invariant
