-- One line in the form that is asked for.
use Rattle.std.specs.Prelude.{ℕ, ◌+◌, List, [], ◌∷◌, ◌++◌, Bool, ◌==◌, ◌||◌, nat_eq, position, take, drop, codes, Option, Some, None, if◌then◌else◌}
use Rattle.std.specs.List.{starts_with}
use Rattle.std.specs.Str.{bytes_eq}
use Rattle.command_line.specs.declared.form.LineEnd.{LineEnd}
use Rattle.command_line.specs.declared.form.LineEnd.TheVariants.{Feed, Nul}
use Rattle.command_line.specs.declared.form.Style.{Style}
use Rattle.command_line.specs.declared.form.Wording.{Wording}
use Rattle.command_line.specs.declared.form.Wording.TheVariants.{Words, Letters}
use Rattle.command_line.specs.Unspelled.{bytes_with_hex_escapes_decoded}

-- what stands before a place; all where there is none
abbrev bytes_before_optional_index : Option ℕ → List ℕ → List ℕ
bytes_before_optional_index None bytes = bytes
bytes_before_optional_index (Some place) bytes = take place bytes

-- what stands behind a place; nothing where there is none
abbrev bytes_after_optional_index : Option ℕ → List ℕ → List ℕ
bytes_after_optional_index None bytes = []
bytes_after_optional_index (Some place) bytes = drop (place + 1) bytes

-- what stands before the first space, and what stands behind it
abbrev pub first_word : List ℕ → List ℕ
first_word words = bytes_before_optional_index (position (λ b. b == 32) words) words

-- what stands behind the first blank
abbrev pub text_after_first_space : List ℕ → List ℕ
text_after_first_space words = bytes_after_optional_index (position (λ b. b == 32) words) words

-- the letters of a status; another word stands for itself
abbrev pub status_letters : List ℕ → List ℕ
status_letters status =
    if bytes_eq status (codes "untracked") then codes "??"
    else if bytes_eq status (codes "ignored") then codes "!!"
    else if bytes_eq status (codes "precious") then codes "$$"
    else if bytes_eq status (codes "tracked") then codes "  "
    else if bytes_eq status (codes "pruned") then codes "--"
    else status

-- what a terminal is sent before a line: red, yellow, magenta, green, grey; and behind it
abbrev pub color_escape_of_status : List ℕ → List ℕ
color_escape_of_status status =
    if bytes_eq status (codes "untracked") then 27 ∷ codes "[31m"
    else if bytes_eq status (codes "ignored") then 27 ∷ codes "[33m"
    else if bytes_eq status (codes "precious") then 27 ∷ codes "[35m"
    else if bytes_eq status (codes "tracked") then 27 ∷ codes "[32m"
    else if bytes_eq status (codes "pruned") then 27 ∷ codes "[90m"
    else []

-- the escape sequence that begins the colour of a status, if colours are used
abbrev pub color_escape_if_colored : Bool → List ℕ → List ℕ
color_escape_if_colored is_colored status = if is_colored then color_escape_of_status status else []

-- the escape sequence that ends a colour, where one began
abbrev pub color_reset_if_opened : List ℕ → List ℕ
color_reset_if_opened [] = []
color_reset_if_opened (b ∷ bytes) = 27 ∷ codes "[0m"

-- a slash stands behind what holds other paths
abbrev pub slash_for_directory_or_repository : List ℕ → List ℕ
slash_for_directory_or_repository disk = if bytes_eq disk (codes "directory") || bytes_eq disk (codes "repository") then 47 ∷ [] else []

-- where lines end in NULs, paths stand as they are on disk
abbrev pub path_unescaped_if_nul_end : LineEnd → List ℕ → List ℕ
path_unescaped_if_nul_end Feed path = path
path_unescaped_if_nul_end Nul path = bytes_with_hex_escapes_decoded path

-- the words and the path
abbrev pub words_tab_path : LineEnd → List ℕ → List ℕ → List ℕ
words_tab_path end words path = words ++ 9 ∷ path_unescaped_if_nul_end end path

-- the letters of the status, which is the first word, and the path, with a slash behind it by the kind on disk, which is the second
abbrev pub status_letters_space_path : LineEnd → List ℕ → List ℕ → List ℕ
status_letters_space_path end words path =
    status_letters (first_word words) ++ 32 ∷ path_unescaped_if_nul_end end path ++ slash_for_directory_or_repository (first_word (text_after_first_space words))

-- the text of a line in words or in letters
abbrev uncolored_line_in_wording : Wording → LineEnd → List ℕ → List ℕ → List ℕ
uncolored_line_in_wording Words end words path = words_tab_path end words path
uncolored_line_in_wording Letters end words path = status_letters_space_path end words path

-- the text of a line in a style, without colours
abbrev pub uncolored_styled_line : Style → List ℕ → List ℕ → List ℕ
uncolored_styled_line style words path = uncolored_line_in_wording style.wording style.end words path

-- in the colour of the status
abbrev pub row_colored_if_style_says : Style → List ℕ → List ℕ → List ℕ
row_colored_if_style_says style words path =
    color_escape_if_colored style.is_colored (first_word words) ++ uncolored_styled_line style words path ++ color_reset_if_opened (color_escape_if_colored style.is_colored (first_word words))

-- a line that has a tab is written in the style; any other stays
abbrev styled_row_if_tab_found : Option ℕ → Style → List ℕ → List ℕ
styled_row_if_tab_found None style line = line
styled_row_if_tab_found (Some place) style line = row_colored_if_style_says style (take place line) (drop (place + 1) line)

-- A line without its end: one that begins with `# ` stays as it is; in any other the path stands behind the first tab.
abbrev pub line : Style → List ℕ → List ℕ
line style text = if starts_with nat_eq text (codes "# ") then text else styled_row_if_tab_found (position (λ b. b == 9) text) style text

-- the byte that ends a line
abbrev pub line_end_byte : LineEnd → List ℕ
line_end_byte Feed = 10 ∷ []
line_end_byte Nul = 0 ∷ []
