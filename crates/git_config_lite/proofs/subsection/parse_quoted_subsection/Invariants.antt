use Rattle.std.proofs.Common.{◌≡◌, false, length, option_map}
use Rattle.git_config_lite.specs.Headers.{parse_quoted_subsection, quoted_with_text_before}
use Rattle.git_config_lite.proofs.subsection.parse_quoted_subsection.Given as goal

abbrev pub invariant-loop-first : goal.invariant-loop-first
invariant-loop-first l = option_map (quoted_with_text_before l.text.items) (parse_quoted_subsection l.is_escaped l.rest) ≡ parse_quoted_subsection false l.bytes

abbrev pub decreases-loop-first : goal.decreases-loop-first
decreases-loop-first l = length l.rest
