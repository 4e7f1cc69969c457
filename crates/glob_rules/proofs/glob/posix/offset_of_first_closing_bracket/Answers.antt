use Rattle.std.proofs.Common.{sym}
use Rattle.std.specs.Prelude.{◌==◌}
use Rattle.gitbase_core.proofs.Places.{first_place, nowhere_place}
use Rattle.glob_rules.specs.Marks.{close_bracket}
use Rattle.glob_rules.proofs.glob.posix.offset_of_first_closing_bracket.Goals as goal

pub returns-in-Some-clause-value : goal.returns-in-Some-clause-value
returns-in-Some-clause-value c =
    let found = c.in-Some.ensures in
    sym (first_place (λ b. b == close_bracket) c.args.bytes.now _ found.0.high found.0.before found.1)

pub returns-in-None-clause-value : goal.returns-in-None-clause-value
returns-in-None-clause-value c = sym (nowhere_place (λ b. b == close_bracket) c.args.bytes.now c.in-None.ensures)
