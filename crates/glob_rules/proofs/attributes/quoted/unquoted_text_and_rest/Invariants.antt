use Rattle.std.proofs.Common.{ℕ, List, ◌++◌, Option, length, ◌≡◌, false}
use Rattle.std.specs.Prelude.{option_map}
use Rattle.glob_rules.specs.AttributeLines.{FrontAndRest, unquoted_text_and_rest}
use Rattle.glob_rules.proofs.attributes.quoted.unquoted_text_and_rest.Given as goal

-- what is read after a text that stands before it
abbrev behind : List ℕ → Option FrontAndRest → Option FrontAndRest
behind text read = option_map (λ (parts : FrontAndRest). (text ++ parts.0, parts.1)) read

abbrev pub invariant-loop-byte : goal.invariant-loop-byte
invariant-loop-byte l = behind l.text.items (unquoted_text_and_rest l.escaped l.rest) ≡ unquoted_text_and_rest false l.bytes

abbrev pub decreases-loop-byte : goal.decreases-loop-byte
decreases-loop-byte l = length l.rest
