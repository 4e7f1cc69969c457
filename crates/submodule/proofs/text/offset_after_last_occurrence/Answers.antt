use Rattle.std.proofs.Common.{rules, arith}
use Rattle.bstr.specs.Find.{is_byte}
use Rattle.gitbase_core.proofs.Places.{suffix_len-past_last}
use Rattle.submodule.proofs.text.offset_after_last_occurrence.Goals as goal

pub returns-in-Some : goal.returns-in-Some
returns-in-Some c =
    let found = c.in-Some.ensures in
    suffix_len-past_last (is_byte c.args.byte) _ _ (omega (arith, found.0.high)) found.0.after (λ some. search rules)

pub returns-in-None : goal.returns-in-None
returns-in-None c = suffix_len-past_last (is_byte c.args.byte) _ 0 (omega arith) c.in-None.ensures (λ some. absurd (omega arith))
