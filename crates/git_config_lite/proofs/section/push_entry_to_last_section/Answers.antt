use Rattle.std.proofs.Common.{arith}
use Rattle.std.proofs.lemmas.Bool.Decides.{nat_tests}
use Rattle.git_config_lite.proofs.LastSection.{added}
use Rattle.git_config_lite.proofs.section.push_entry_to_last_section.Goals as goal

pub returns-clause-added : goal.returns-clause-added
returns-clause-added c = added _ _ _ _ _ c.push.result (grind (arith, nat_tests, c.is_empty.ensures, c.if-is_empty.false)) c.index_mut-section.ensures.value c.push.ensures.added
