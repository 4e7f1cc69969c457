use Rattle.std.proofs.Common.{sym, ◌∙◌, rules}
use Rattle.command_line.proofs.Unspelling.{step_spelled, step_itself, step_done}
use Rattle.command_line.proofs.unspelled.append_unescaped_path.Goals as goal

pub loop-first-preserved-in-Some-byte_of_backslash_hex_escape : goal.loop-first-preserved-in-Some-byte_of_backslash_hex_escape
loop-first-preserved-in-Some-byte_of_backslash_hex_escape c =
    step_spelled c.loop-first.text.items c.loop-first.rest.now _ _ _ c.in-Some.first.now c.in-Some-byte_of_backslash_hex_escape.byte c.in-Some.after.now (search rules)
    (sym c.byte_of_backslash_hex_escape.ensures ∙ c.in-Some-byte_of_backslash_hex_escape.is) (search rules) (search rules) c.loop-first.invariant

pub loop-first-preserved : goal.loop-first-preserved
loop-first-preserved c =
    step_itself c.loop-first.text.items c.loop-first.rest.now _ _ c.in-Some.first.now c.in-Some.after.now (search rules)
    (sym c.byte_of_backslash_hex_escape.ensures ∙ c.in-None.is) (search rules) c.loop-first.invariant

pub returns : goal.returns
returns c = step_done c.loop-first.text.items c.loop-first.rest.now _ (search rules) c.loop-first.invariant
