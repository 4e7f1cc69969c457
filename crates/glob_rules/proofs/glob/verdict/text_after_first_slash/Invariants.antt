use Rattle.std.proofs.Common.{◌≡◌, ℕ, ◌<◌, get_or}
use Rattle.glob_rules.proofs.glob.verdict.text_after_first_slash.Given as goal

abbrev pub invariant-loop-j : goal.invariant-loop-j
invariant-loop-j l = (m : ℕ) → m < l.j → get_or l.text m 0 ≡ 47 → ⊥
