-- What the calls that read a text answer.
use Rattle.std.specs.Prelude.{◌≡◌, ℕ, Bool, List, Option, Result, Ok, Err}
use Rattle.git_config_lite.specs.declared.metadata.Metadata.{Metadata}
use Rattle.git_config_lite.specs.declared.error.ParseError.{ParseError}
use Rattle.git_config_lite.specs.declared.error.ValueError.{ValueError}
use Rattle.git_config_lite.specs.declared.error.ParseError.TheVariants as errors
use Rattle.git_config_lite.specs.Sections.{Section, Configuration}
use Rattle.git_config_lite.specs.Grammar.{DraftConfiguration, parse_text_sections}

-- an answer that is not want of memory is the one that the lines give
abbrev pub DraftAgreesWithGrammar : Result DraftConfiguration ParseError → Result (List Section) ℕ → Type 0
DraftAgreesWithGrammar (Ok draft) given = given ≡ Ok draft.sections
DraftAgreesWithGrammar (Err (errors.Syntax line)) given = given ≡ Err line
DraftAgreesWithGrammar (Err errors.OutOfMemory) given = Unit {0}

-- a file has the sections that its text says and this origin, and a refusal names the line that the grammar does
abbrev pub ParseAgreesWithGrammar : Result Configuration ParseError → Metadata → List ℕ → Type 0
ParseAgreesWithGrammar (Ok file) meta text = (parse_text_sections meta text ≡ Ok file.sections) × (file.meta ≡ meta)
ParseAgreesWithGrammar (Err (errors.Syntax line)) meta text = parse_text_sections meta text ≡ Err line
ParseAgreesWithGrammar (Err errors.OutOfMemory) meta text = Unit {0}

-- a boolean, or the text of the error
abbrev pub boolean_with_error_text : Result (Option Bool) ValueError → Result (Option Bool) (List ℕ)
boolean_with_error_text (Ok answer) = Ok answer
boolean_with_error_text (Err e) = Err e.input.now
