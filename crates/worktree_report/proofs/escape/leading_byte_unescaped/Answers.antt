use Rattle.std.proofs.Common.{sym, ◌∙◌}
use Rattle.worktree_report.proofs.Unescaping.{Spells-itself, Spells-hex, unescaped-bad}
use Rattle.worktree_report.proofs.escape.leading_byte_unescaped.Goals as goal

pub returns-then-first-ne92 : goal.returns-then-first-ne92
returns-then-first-ne92 c = Spells-itself c.args.first c.args.rest.now c.if-first-ne92.true

pub returns : goal.returns
returns c = Spells-hex c.args.first c.in-Some.byte c.args.rest.now c.if-first-ne92.false (sym c.byte_from_two_hex_digits.ensures ∙ c.in-Some.is)

pub returns-in_default : goal.returns-in_default
returns-in_default c = unescaped-bad c.args.first c.args.rest.now c.if-first-ne92.false (sym c.byte_from_two_hex_digits.ensures ∙ c.in_default.is)
