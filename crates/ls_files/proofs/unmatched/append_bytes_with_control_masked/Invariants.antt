use Rattle.std.specs.Prelude.{◌≡◌, ◌++◌, map, take}
use Rattle.ls_files.specs.Unmatched.{control_byte_as_question_mark}
use Rattle.ls_files.proofs.unmatched.append_bytes_with_control_masked.Given as goal

abbrev pub invariant-loop-byte : goal.invariant-loop-byte
invariant-loop-byte l = l.text.items ≡ l.fn.text.items ++ map control_byte_as_question_mark (take l.byte-index l.bytes)
