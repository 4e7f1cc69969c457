use Rattle.std.proofs.Common.{◌≡◌, ◌++◌, take}
use Rattle.worktree_report.specs.Escapes.{path_escaped_in_word}
use Rattle.worktree_report.proofs.escape.append_path_hex_escaped.Given as goal

abbrev pub invariant-loop-byte : goal.invariant-loop-byte
invariant-loop-byte l = l.text.items ≡ l.fn.text.items ++ path_escaped_in_word (take l.byte-index l.path)
