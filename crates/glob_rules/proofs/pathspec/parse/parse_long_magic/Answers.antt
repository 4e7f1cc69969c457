use Rattle.std.proofs.Common.{refl}
use Rattle.glob_rules.proofs.LongForms.{long_open, long_ok, long_err}
use Rattle.glob_rules.proofs.pathspec.parse.parse_long_magic.Goals as goal

pub returns-in-None : goal.returns-in-None
returns-in-None c = long_open c.args.said c.args.rest.now c.in-None.ensures

pub returns-in-Ok : goal.returns-in-Ok
returns-in-Ok c =
    let found = c.in-Some.ensures in
    long_ok c.args.said c.args.rest.now c.in-Ok.now _ c.bytes_from_offset.result.now c.in-Some.end found.0.high found.0.before found.1 refl c.bytes_from_offset.ensures c.in-Ok.ensures

pub returns-in-Err : goal.returns-in-Err
returns-in-Err c =
    let found = c.in-Some.ensures in long_err c.args.said c.args.rest.now c.in-Err.error _ c.in-Some.end found.0.high found.0.before found.1 refl c.in-Err.ensures
