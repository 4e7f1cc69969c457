use Rattle.std.proofs.Common.{◌≡◌, ◌++◌, take}
use Rattle.git_paths.specs.QuotedNames.{path_bytes_escaped}
use Rattle.git_paths.proofs.c_style.append_path_bytes_escaped.Given as goal

abbrev pub invariant-loop-byte : goal.invariant-loop-byte
invariant-loop-byte l = l.text.items ≡ l.fn.text.items ++ path_bytes_escaped l.quote_path (take l.byte-index l.path)
