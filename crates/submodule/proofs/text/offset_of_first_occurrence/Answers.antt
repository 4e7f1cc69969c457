use Rattle.std.proofs.Common.{sym}
use Rattle.bstr.specs.Find.{is_byte}
use Rattle.gitbase_core.proofs.Places.{first_place, nowhere_place}
use Rattle.submodule.proofs.text.offset_of_first_occurrence.Goals as goal

pub returns-in-Some-clause-value : goal.returns-in-Some-clause-value
returns-in-Some-clause-value c =
    let found = c.in-Some.ensures in
    sym (first_place (is_byte c.args.byte) c.args.text.now _ found.0.high found.0.before found.1)

pub returns-in-None-clause-value : goal.returns-in-None-clause-value
returns-in-None-clause-value c = sym (nowhere_place (is_byte c.args.byte) c.args.text.now c.in-None.ensures)
