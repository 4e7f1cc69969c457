use Rattle.std.proofs.Common.{◌≡◌, length}
use Rattle.check_ignore.specs.Unquoted.{unquote_c_style_after_opening_quote}
use Rattle.check_ignore.proofs.Unquoting.{behind}
use Rattle.check_ignore.proofs.quotes.unquote_c_style_after_opening_quote.Given as goal

abbrev pub invariant-loop-rest : goal.invariant-loop-rest
invariant-loop-rest l = behind l.text.items (unquote_c_style_after_opening_quote 0 l.rest) ≡ unquote_c_style_after_opening_quote 0 l.bytes

abbrev pub decreases-loop-rest : goal.decreases-loop-rest
decreases-loop-rest l = length l.rest
