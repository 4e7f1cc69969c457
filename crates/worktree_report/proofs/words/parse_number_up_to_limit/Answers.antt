use Rattle.std.proofs.Common.{sym, ◌∙◌}
use Rattle.worktree_report.proofs.Numbers.{no_digit, one_more, past_limit, all_read}
use Rattle.worktree_report.proofs.words.parse_number_up_to_limit.Goals as goal

pub returns-in_default : goal.returns-in_default
returns-in_default c = no_digit c.args.digits.now c.loop-byte.number c.loop-byte.byte-index c.loop-byte.invariant.rest c.loop-byte-test.true (sym c.parse_decimal_digit.ensures.value ∙ c.in_default.is)

pub returns-then-number-gt-FILE_LIMIT : goal.returns-then-number-gt-FILE_LIMIT
returns-then-number-gt-FILE_LIMIT c =
    past_limit c.args.digits.now c.loop-byte.number c.loop-byte.byte-index c.loop-byte.invariant.rest c.in-Some.digit c.loop-byte-test.true (sym c.parse_decimal_digit.ensures.value ∙ c.in-Some.is) c.if-number-gt-FILE_LIMIT.true

pub loop-byte-preserved : goal.loop-byte-preserved
loop-byte-preserved c =
    record {
      few = c.if-number-gt-FILE_LIMIT.false;
      rest = one_more c.args.digits.now c.loop-byte.number c.loop-byte.byte-index c.loop-byte.invariant.rest c.in-Some.digit c.loop-byte-test.true (sym c.parse_decimal_digit.ensures.value ∙ c.in-Some.is);
    }

pub returns : goal.returns
returns c = all_read c.args.digits.now c.loop-byte.number c.loop-byte.byte-index c.loop-byte.invariant.rest c.loop-byte-test.false c.loop-byte.invariant.few
