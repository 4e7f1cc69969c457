-- The header of a section: `[name]`, or `[name "subsection"]`.
--
-- A name has letters, digits, hyphens and dots, and at least one of them. Spaces or tabs stand between a name and a
-- subsection, and nowhere else. In a subsection a backslash stands for the byte behind it; it ends at the first double
-- quote that no backslash precedes, on its line. NUL may not stand there.
use Rattle.std.specs.Prelude.{ℕ, List, [], ◌∷◌, ◌++◌, Bool, true, false, ◌==◌, ◌&&◌, take, drop, Option, Some, None, option_map, if◌then◌else◌}
use Rattle.git_config_lite.specs.Texts.{is_space_or_tab, is_section_name_byte, first_byte_passes, begins_with_byte, without_leading_blanks, length_of_leading_run}
use Rattle.git_config_lite.specs.declared.subsection.SubsectionByte.{SubsectionByte}
use Rattle.git_config_lite.specs.declared.subsection.SubsectionByte.TheVariants.{Outside, Closes, Escapes, Stands}

-- a subsection, and what is behind its closing quote
pub record QuotedSubsection : Type 0 where
  pub text : List ℕ
  pub rest : List ℕ

-- what a byte of a subsection does, behind a backslash or not
abbrev pub effect_of_subsection_byte : Bool → ℕ → SubsectionByte
effect_of_subsection_byte escaped b =
    if b == 0 then Outside
    else if escaped then Stands
    else if b == 34 then Closes
    else if b == 92 then Escapes
    else Stands

-- a subsection with more text before it
abbrev pub quoted_with_text_before : List ℕ → QuotedSubsection → QuotedSubsection
quoted_with_text_before more found = record { text = more ++ found.text; rest = found.rest }

-- a subsection, by what its first byte does, the rest of it behind a backslash or not, and the rest of the line
abbrev pub quoted_subsection_by_byte_effect : ℕ → (Bool → Option QuotedSubsection) → List ℕ → SubsectionByte → Option QuotedSubsection
quoted_subsection_by_byte_effect b behind bytes Outside = None
quoted_subsection_by_byte_effect b behind bytes Closes = Some (record { text = []; rest = bytes })
quoted_subsection_by_byte_effect b behind bytes Escapes = behind true
quoted_subsection_by_byte_effect b behind bytes Stands = option_map (quoted_with_text_before (b ∷ [])) (behind false)

-- a subsection up to its closing quote, behind a backslash or not
unfoldable pub parse_quoted_subsection : Bool → List ℕ → Option QuotedSubsection
parse_quoted_subsection escaped [] = None
parse_quoted_subsection escaped (b ∷ bytes) = quoted_subsection_by_byte_effect b (λ e. parse_quoted_subsection e bytes) bytes (effect_of_subsection_byte escaped b)

-- a header, and what is behind its bracket
pub record HeaderAndRest : Type 0 where
  pub name : List ℕ
  pub subsection : Option (List ℕ)
  pub rest : List ℕ

-- the bracket behind a subsection
abbrev pub header_with_subsection : List ℕ → Option QuotedSubsection → Option HeaderAndRest
header_with_subsection name None = None
header_with_subsection name (Some found) =
    if begins_with_byte 93 found.rest then Some (record { name = name; subsection = Some found.text; rest = drop 1 found.rest }) else None

-- what is behind the name: the bracket, or blanks, a subsection and the bracket
abbrev pub parse_header_after_name : List ℕ → List ℕ → Option HeaderAndRest
parse_header_after_name name rest =
    if begins_with_byte 93 rest then Some (record { name = name; subsection = None; rest = drop 1 rest })
    else if first_byte_passes is_space_or_tab rest && begins_with_byte 34 (without_leading_blanks rest) then header_with_subsection name (parse_quoted_subsection false (drop 1 (without_leading_blanks rest)))
    else None

-- a header, behind its opening bracket
abbrev pub parse_header_after_bracket : List ℕ → Option HeaderAndRest
parse_header_after_bracket bytes =
    if first_byte_passes is_section_name_byte bytes then parse_header_after_name (take (length_of_leading_run is_section_name_byte bytes) bytes) (drop (length_of_leading_run is_section_name_byte bytes) bytes)
    else None
