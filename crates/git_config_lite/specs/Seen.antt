-- What the structs hold that lines are read into.
use Rattle.std.specs.Prelude.{ℕ, List, option_copied}
use Rattle.std.specs.Borrow.{Bor}
use Rattle.git_config_lite.specs.declared.subsection.QuotedText.{QuotedText}
use Rattle.git_config_lite.specs.declared.header.HeadedLine.{HeadedLine}
use Rattle.git_config_lite.specs.declared.key.KeyedLine.{KeyedLine}
use Rattle.git_config_lite.specs.Headers.{QuotedSubsection, HeaderAndRest}
use Rattle.git_config_lite.specs.Keys.{KeyAndText}
use Rattle.git_config_lite.specs.declared.metadata.Source.{Source}
use Rattle.git_config_lite.specs.declared.found.FoundValue.{FoundValue}
use Rattle.git_config_lite.specs.Lookups.{FoundValueAndSource}

-- a subsection, and the bytes that are borrowed from the rest of its line
abbrev pub subsection_of_quoted_text : QuotedText → QuotedSubsection
subsection_of_quoted_text q = record { text = q.text; rest = q.rest.now }

-- a header, with the bytes that are borrowed from its line: the name and what is behind the bracket
abbrev pub header_of_headed_line : HeadedLine → HeaderAndRest
header_of_headed_line h = record { name = h.name.now; subsection = h.subsection; rest = h.rest.now }

-- a key and the text behind its `=`, with the bytes that are borrowed from their line
abbrev pub key_of_keyed_line : KeyedLine → KeyAndText
key_of_keyed_line k = record { key = k.key.now; text = option_copied k.text }

-- a value with the bytes that are borrowed from its section, or none for a key without a value, and the source
abbrev pub found : FoundValue → FoundValueAndSource
found f = record { value = option_copied f.value; source = f.source }

-- the bytes of a borrowed text, and the source
abbrev pub text_and_source_from_reference : Bor (List ℕ) × Source → List ℕ × Source
text_and_source_from_reference p = (p.0.now, p.1)
