-- How the text of a call is written.
use Rattle.std.specs.Prelude.{ℕ, List}
use Rattle.command_line.specs.Rendered.{restyle_report_text, plan_text_with_line_ends}
use Rattle.tizhagor.specs.declared.written.Writing.{Writing}
use Rattle.tizhagor.specs.declared.written.Writing.TheVariants as writings

-- the bytes that are written for a text
abbrev pub text_formatted_for_output : Writing → List ℕ → List ℕ
text_formatted_for_output (writings.Lines style) text = restyle_report_text style text
text_formatted_for_output (writings.Paths end) text = plan_text_with_line_ends end text
text_formatted_for_output writings.AsItIs text = text
