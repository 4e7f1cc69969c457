use Rattle.std.proofs.Common.{◌≡◌, ◌++◌, length}
use Rattle.command_line.specs.Unspelled.{bytes_with_hex_escapes_decoded}
use Rattle.command_line.proofs.unspelled.append_unescaped_path.Given as goal

abbrev pub invariant-loop-first : goal.invariant-loop-first
invariant-loop-first l = l.text.items ++ bytes_with_hex_escapes_decoded l.rest ≡ l.fn.text.items ++ bytes_with_hex_escapes_decoded l.path

abbrev pub decreases-loop-first : goal.decreases-loop-first
decreases-loop-first l = length l.rest
