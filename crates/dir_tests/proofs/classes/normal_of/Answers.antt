use Rattle.std.proofs.Common.{◌∙◌, ap, sym}
use Rattle.gitbase_core.specs.Path.{is_absolute}
use Rattle.dir_walk.proofs.Places.NormalRoots.{normal-root}
use Rattle.dir_tests.proofs.classes.normal_of.Goals as goal

pub returns : goal.returns
returns c =
    normal-root c.in_ok-from_bytes.field-0 c.in-Some.path (sym c.in_ok-path.ensures ∙ c.in-Some.is)
    (ap is_absolute (sym c.as_bytes.ensures) ∙ sym c.is_absolute.ensures ∙ c.if-is_absolute.false)
