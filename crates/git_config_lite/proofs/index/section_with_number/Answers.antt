use Rattle.std.proofs.Common.{sym}
use Rattle.git_config_lite.proofs.KeyRuns.{got}
use Rattle.git_config_lite.proofs.index.section_with_number.Goals as goal

pub returns : goal.returns
returns c = sym (got c.args.sections.now c.args.number c.get.result c.get.ensures.lookup.3)
