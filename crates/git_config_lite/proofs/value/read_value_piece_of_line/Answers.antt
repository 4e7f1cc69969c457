use Rattle.std.proofs.Common.{sym, ◌∙◌}
use Rattle.git_config_lite.proofs.Pieces.{outside, ends, escapes, gives, ended}
use Rattle.git_config_lite.proofs.value.read_value_piece_of_line.Goals as goal

pub returns-in-Outside : goal.returns-in-Outside
returns-in-Outside c = outside _ _ _ _ _ _ c.in-Some.ensures.cases.0 c.loop-first.invariant (sym c.effect_of_value_byte.ensures ∙ c.in-Outside.is)

pub returns-in-Ends : goal.returns-in-Ends
returns-in-Ends c = ends _ _ _ _ _ _ c.in-Some.ensures.cases.0 c.loop-first.invariant (sym c.effect_of_value_byte.ensures ∙ c.in-Ends.is)

pub loop-first-preserved-in-Escapes : goal.loop-first-preserved-in-Escapes
loop-first-preserved-in-Escapes c = escapes _ _ _ _ _ _ c.in-Some.ensures.cases.0 c.loop-first.invariant (sym c.effect_of_value_byte.ensures ∙ c.in-Escapes.is)

pub loop-first-preserved : goal.loop-first-preserved
loop-first-preserved c = rw (c.in_ok-push-in-Gives.ensures.items, c.place_after_element-place.ensures) (gives _ _ _ _ _ _ c.in-Some.ensures.cases.0 c.loop-first.invariant _ (sym c.effect_of_value_byte.ensures ∙ c.in-Gives.is))

pub returns : goal.returns
returns c = c.piece_at_line_end.ensures ∙ ended _ _ _ _ c.in_default.ensures.cases c.loop-first.invariant
