-- What the lines of a configuration file say, and the first of them that is outside the grammar.
--
-- A line is empty, a comment, a header or a key; a comment or a key may follow a header on its line. A key needs a header
-- before it. A line behind one whose value goes on is more of that value.
use Rattle.std.specs.Prelude.{ℕ, ◌+◌, List, [], ◌∷◌, ◌++◌, drop, Option, Some, None, option_map, Result, Ok, Err, if◌then◌else◌}
use Rattle.git_config_lite.specs.declared.element.Element.{Element}
use Rattle.git_config_lite.specs.declared.metadata.Metadata.{Metadata}
use Rattle.git_config_lite.specs.declared.entry.Entry.{Entry}
use Rattle.git_config_lite.specs.Texts.{lines_without_terminators, begins_with_byte, without_leading_blanks, is_empty_or_comment}
use Rattle.git_config_lite.specs.Headers.{HeaderAndRest, parse_header_after_bracket}
use Rattle.git_config_lite.specs.Values.{ValuePiece, parse_value_piece, piece_with_elements_before, value_of_elements}
use Rattle.git_config_lite.specs.Keys.{KeyAndText, parse_key_and_text}
use Rattle.git_config_lite.specs.Sections.{Section, empty_section, sections_with_entry_in_last}

-- a key whose value goes on on the next line, and the elements that it has so far
pub record PendingValue : Type 0 where
  pub key : List ℕ
  pub elements : List Element

-- what some lines say: the sections, and the value that goes on, if one does
pub record DraftConfiguration : Type 0 where
  pub sections : List Section
  pub pending : Option PendingValue

-- a key with its value; no value is a key without `=`, which is not the same as the empty text
abbrev pub entry : List ℕ → Option (List ℕ) → Entry
entry key value = record { key = key; value = value }

-- sections, where no value goes on on the next line
abbrev pub draft_without_pending : List Section → DraftConfiguration
draft_without_pending sections = record { sections = sections; pending = None }

-- a key with one more piece of its value
abbrev pub draft_with_value_piece : List Section → List ℕ → Option ValuePiece → Option DraftConfiguration
draft_with_value_piece sections key None = None
draft_with_value_piece sections key (Some piece) =
    if piece.continues then Some (record { sections = sections; pending = Some (record { key = key; elements = piece.elements }) })
    else Some (draft_without_pending (sections_with_entry_in_last (entry key (Some (value_of_elements piece.elements))) sections))

-- a key, by the text behind its `=`
abbrev pub draft_with_key_and_text : List Section → List ℕ → Option (List ℕ) → Option DraftConfiguration
draft_with_key_and_text sections key None = Some (draft_without_pending (sections_with_entry_in_last (entry key None) sections))
draft_with_key_and_text sections key (Some text) = draft_with_value_piece sections key (parse_value_piece text)

-- sections with a key that was read on their line; none where that line is outside the grammar
abbrev pub draft_with_parsed_key : List Section → Option KeyAndText → Option DraftConfiguration
draft_with_parsed_key sections None = None
draft_with_parsed_key sections (Some keyed) = draft_with_key_and_text sections keyed.key keyed.text

-- a key, which needs a section
abbrev pub parse_key_line_in_section : List Section → List ℕ → Option DraftConfiguration
parse_key_line_in_section [] bytes = None
parse_key_line_in_section (section ∷ more) bytes = draft_with_parsed_key (section ∷ more) (parse_key_and_text bytes)

-- what may follow a header on its line
abbrev pub parse_comment_or_key_line : List Section → List ℕ → Option DraftConfiguration
parse_comment_or_key_line sections bytes = if is_empty_or_comment bytes then Some (draft_without_pending sections) else parse_key_line_in_section sections bytes

-- sections with a new one by a header that was read, and a key behind that on its line;
-- none where either is outside the grammar
abbrev pub draft_with_header_line : Metadata → List Section → Option HeaderAndRest → Option DraftConfiguration
draft_with_header_line meta sections None = None
draft_with_header_line meta sections (Some headed) = parse_comment_or_key_line (sections ++ empty_section headed.name headed.subsection meta ∷ []) (without_leading_blanks headed.rest)

-- a line that begins with no blank and is not more of a value
abbrev pub parse_line_outside_value : Metadata → List Section → List ℕ → Option DraftConfiguration
parse_line_outside_value meta sections bytes =
    if begins_with_byte 91 bytes then draft_with_header_line meta sections (parse_header_after_bracket (drop 1 bytes))
    else parse_comment_or_key_line sections bytes

-- what is said with one more line; none where that is outside the grammar
abbrev pub draft_after_line_by_pending : Metadata → List Section → Option PendingValue → List ℕ → Option DraftConfiguration
draft_after_line_by_pending meta sections None line = parse_line_outside_value meta sections (without_leading_blanks line)
draft_after_line_by_pending meta sections (Some pending) line = draft_with_value_piece sections pending.key (option_map (piece_with_elements_before pending.elements) (parse_value_piece line))

-- what is said with one more line, which is more of a value where one goes on; none where it is outside the grammar
abbrev pub parse_next_line : Metadata → DraftConfiguration → List ℕ → Option DraftConfiguration
parse_next_line meta draft line = draft_after_line_by_pending meta draft.sections draft.pending line

-- the end of a text ends a value too
abbrev pub sections_with_pending_value : List Section → Option PendingValue → List Section
sections_with_pending_value sections None = sections
sections_with_pending_value sections (Some pending) = sections_with_entry_in_last (entry pending.key (Some (value_of_elements pending.elements))) sections

-- the sections at the end of the text; a value that a backslash there continues is kept
abbrev pub sections_of_finished_draft : DraftConfiguration → List Section
sections_of_finished_draft draft = sections_with_pending_value draft.sections draft.pending

-- reading goes on with a draft; where there is none it ends with the number of the line
abbrev pub continue_with_draft_or_error : ℕ → (DraftConfiguration → Result (List Section) ℕ) → Option DraftConfiguration → Result (List Section) ℕ
continue_with_draft_or_error number behind None = Err number
continue_with_draft_or_error number behind (Some draft) = behind draft

-- what some lines say behind a draft, or the number of the first that is outside the grammar; the first has this number
abbrev pub parse_lines_from_number : Metadata → ℕ → DraftConfiguration → List (List ℕ) → Result (List Section) ℕ
parse_lines_from_number meta number draft [] = Ok (sections_of_finished_draft draft)
parse_lines_from_number meta number draft (line ∷ lines) = continue_with_draft_or_error number (λ next. parse_lines_from_number meta (number + 1) next lines) (parse_next_line meta draft line)

-- The sections that a text says, or the number of its first line outside the grammar, counted from 1.
abbrev pub parse_text_sections : Metadata → List ℕ → Result (List Section) ℕ
parse_text_sections meta text = parse_lines_from_number meta 1 (draft_without_pending []) (lines_without_terminators text)
