use Rattle.std.proofs.Common.{◌≡◌, ◌++◌, List, ℕ, length, option_map}
use Rattle.worktree_report.specs.Escapes.{unescape_path}
use Rattle.worktree_report.proofs.escape.unescape_path.Given as goal

abbrev pub invariant-loop-first : goal.invariant-loop-first
invariant-loop-first l = option_map (λ (more : List ℕ). l.bytes.items ++ more) (unescape_path l.rest) ≡ unescape_path l.text

abbrev pub decreases-loop-first : goal.decreases-loop-first
decreases-loop-first l = length l.rest
