use Rattle.std.proofs.Common.{sym, ◌∙◌}
use Rattle.git_config_lite.proofs.Subsections.{outside, closes, escapes, stands, unclosed}
use Rattle.git_config_lite.proofs.subsection.parse_quoted_subsection.Goals as goal

pub returns-in-Outside : goal.returns-in-Outside
returns-in-Outside c = outside _ _ _ _ _ _ c.in-Some.ensures.cases.0 c.loop-first.invariant (sym c.effect_of_subsection_byte.ensures ∙ c.in-Outside.is)

pub returns-in-Closes : goal.returns-in-Closes
returns-in-Closes c = rw c.from_vec.ensures (closes _ _ _ _ _ _ c.in-Some.ensures.cases.0 c.loop-first.invariant (sym c.effect_of_subsection_byte.ensures ∙ c.in-Closes.is))

pub loop-first-preserved-in-Escapes : goal.loop-first-preserved-in-Escapes
loop-first-preserved-in-Escapes c = escapes _ _ _ _ _ _ c.in-Some.ensures.cases.0 c.loop-first.invariant (sym c.effect_of_subsection_byte.ensures ∙ c.in-Escapes.is)

pub loop-first-preserved : goal.loop-first-preserved
loop-first-preserved c = rw c.in_ok-push-in-Stands.ensures.items (stands _ _ _ _ _ _ c.in-Some.ensures.cases.0 c.loop-first.invariant (sym c.effect_of_subsection_byte.ensures ∙ c.in-Stands.is))

pub returns : goal.returns
returns c = unclosed _ _ _ _ c.in_default.ensures.cases c.loop-first.invariant
