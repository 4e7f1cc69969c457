use Rattle.std.proofs.Common.{sym, arith}
use Rattle.std.proofs.lemmas.List.{take_all}
use Rattle.git_places.proofs.head.first_255_bytes.Goals as goal

pub returns-then-bytes-lt255 : goal.returns-then-bytes-lt255
returns-then-bytes-lt255 c = let short = c.if-bytes-lt255.true in sym (take_all 255 c.args.bytes.now (omega (arith, short)))
