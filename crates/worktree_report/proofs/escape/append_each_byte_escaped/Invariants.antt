use Rattle.std.proofs.Common.{◌≡◌, ◌++◌, take}
use Rattle.worktree_report.specs.Escapes.{path_escaped}
use Rattle.worktree_report.proofs.escape.append_each_byte_escaped.Given as goal

abbrev pub invariant-loop-byte : goal.invariant-loop-byte
invariant-loop-byte l = l.text.items ≡ l.fn.text.items ++ path_escaped (take l.byte-index l.path)
