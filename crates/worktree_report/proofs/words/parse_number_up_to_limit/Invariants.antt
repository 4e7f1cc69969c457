use Rattle.std.proofs.Common.{◌≡◌, ◌≤◌, drop}
use Rattle.worktree_report.specs.Words.{parse_digits_behind_number}
use Rattle.worktree_report.proofs.words.parse_number_up_to_limit.Given as goal

abbrev pub invariant-loop-byte : goal.invariant-loop-byte
invariant-loop-byte l = record { few : l.number ≤ 100000; rest : parse_digits_behind_number l.number (drop l.byte-index l.digits) ≡ parse_digits_behind_number 0 l.digits }
