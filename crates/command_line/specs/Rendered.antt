-- Texts in the form that is asked for.
use Rattle.std.specs.Prelude.{ℕ, List, ◌++◌, Bool, false, not, map, if◌then◌else◌}
use Rattle.std.specs.List.{flat_map}
use Rattle.bstr.specs.Text.{lines_of, without_terminator}
use Rattle.command_line.specs.declared.form.LineEnd.{LineEnd}
use Rattle.command_line.specs.declared.form.LineEnd.TheVariants.{Feed, Nul}
use Rattle.command_line.specs.declared.form.Style.{Style}
use Rattle.command_line.specs.declared.form.Wording.{Wording}
use Rattle.command_line.specs.declared.form.Wording.TheVariants.{Words, Letters}
use Rattle.command_line.specs.Rows.{line, path_unescaped_if_nul_end, line_end_byte}

-- the lines of a text, without what ends them
abbrev pub lines_without_terminators : List ℕ → List (List ℕ)
lines_without_terminators text = map without_terminator (lines_of text)

-- a line with its end
abbrev pub styled_line_with_end : Style → List ℕ → List ℕ
styled_line_with_end style text = line style text ++ line_end_byte style.end

-- each line of a report, with its end
abbrev pub rewrite_report_lines_in_style : Style → List ℕ → List ℕ
rewrite_report_lines_in_style style text = flat_map (styled_line_with_end style) (lines_without_terminators text)

-- the text needs no change: words, line feeds and no colours
abbrev are_uncolored_words_with_line_feeds : Wording → LineEnd → Bool → Bool
are_uncolored_words_with_line_feeds Words Feed is_colored = not is_colored
are_uncolored_words_with_line_feeds Words Nul is_colored = false
are_uncolored_words_with_line_feeds Letters end is_colored = false

-- words, line feeds, and no colours
abbrev pub style_leaves_report_text_unchanged : Style → Bool
style_leaves_report_text_unchanged style = are_uncolored_words_with_line_feeds style.wording style.end style.is_colored

-- the text of a report as it is where the style is plain, else each of its lines in the style
abbrev pub restyle_report_text : Style → List ℕ → List ℕ
restyle_report_text style text = if style_leaves_report_text_unchanged style then text else rewrite_report_lines_in_style style text

-- a path of a plan with its end
abbrev pub path_with_line_end : LineEnd → List ℕ → List ℕ
path_with_line_end end path = path_unescaped_if_nul_end end path ++ line_end_byte end

-- each path of a plan, with the end of its line
abbrev pub paths_with_line_ends : LineEnd → List ℕ → List ℕ
paths_with_line_ends end text = flat_map (path_with_line_end end) (lines_without_terminators text)

-- the text of a plan as it is where lines end in line feeds
abbrev pub plan_text_with_line_ends : LineEnd → List ℕ → List ℕ
plan_text_with_line_ends Feed text = text
plan_text_with_line_ends Nul text = paths_with_line_ends Nul text
