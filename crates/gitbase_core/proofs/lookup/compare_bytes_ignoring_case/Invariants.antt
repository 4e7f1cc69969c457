use Rattle.std.proofs.Common.{◌≡◌, ◌≤◌, drop}
use Rattle.gitbase_core.specs.Text.{fold_case}
use Rattle.gitbase_core.specs.Index.{compare_path_bytes}
use Rattle.gitbase_core.proofs.lookup.compare_bytes_ignoring_case.Given as goal

abbrev pub invariant-loop-i : goal.invariant-loop-i
invariant-loop-i l = (l.i ≤ l.both) × (compare_path_bytes (fold_case (drop l.i l.left)) (fold_case (drop l.i l.right)) ≡ compare_path_bytes (fold_case l.left) (fold_case l.right))
