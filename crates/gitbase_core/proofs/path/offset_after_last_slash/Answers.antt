use Rattle.std.proofs.Common.{rules, arith}
use Rattle.gitbase_core.specs.Path.{is_slash}
use Rattle.gitbase_core.proofs.Places.{suffix_len-past_last}
use Rattle.gitbase_core.proofs.path.offset_after_last_slash.Goals as goal

pub returns-in-Some : goal.returns-in-Some
returns-in-Some c =
    let found = c.in-Some.ensures in
    suffix_len-past_last is_slash _ _ (omega (arith, found.0.high)) found.0.after (λ some. search rules)

pub returns-in-None : goal.returns-in-None
returns-in-None c = suffix_len-past_last is_slash _ 0 (omega arith) c.in-None.ensures (λ some. absurd (omega arith))
