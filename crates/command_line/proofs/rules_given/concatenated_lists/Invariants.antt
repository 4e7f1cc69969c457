use Rattle.std.proofs.Common.{◌≡◌, ◌++◌}
use Rattle.std.specs.Vec.Iter.{into_iter_items}
use Rattle.command_line.proofs.rules_given.concatenated_lists.Given as goal

abbrev pub invariant-loop-bytes : goal.invariant-loop-bytes
invariant-loop-bytes l = l.list.items ++ into_iter_items l.bytes-iterator ≡ l.fn.list.items ++ l.fn.more.items
