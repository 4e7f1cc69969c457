-- How an answer is written.
use Rattle.std.specs.Prelude.{Bool, true, false}
use Rattle.command_line.specs.declared.form.Color.{Color}
use Rattle.command_line.specs.declared.form.Color.TheVariants.{Auto, Always, Never}
use Rattle.command_line.specs.declared.form.Form.{Form}
use Rattle.command_line.specs.declared.form.LineEnd.{LineEnd}
use Rattle.command_line.specs.declared.form.LineEnd.TheVariants.{Feed, Nul}
use Rattle.command_line.specs.declared.form.Style.{Style}

-- colours that are left to the program are shown where the output takes them, and not where lines end in NULs
abbrev pub are_lines_colored : Color → LineEnd → Bool → Bool
are_lines_colored Always end takes_colors = true
are_lines_colored Never end takes_colors = false
are_lines_colored Auto Feed takes_colors = takes_colors
are_lines_colored Auto Nul takes_colors = false

-- the style that a form means for an output that takes colours or not
abbrev pub style_for_output : Form → Bool → Style
style_for_output form takes_colors =
    record { wording = form.wording; end = form.end; is_colored = are_lines_colored form.color form.end takes_colors }
