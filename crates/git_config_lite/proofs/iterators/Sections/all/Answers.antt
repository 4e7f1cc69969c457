use Rattle.git_config_lite.proofs.AllSections.{sections_named-none}
use Rattle.git_config_lite.proofs.iterators.Sections.all.Goals as goal

pub returns : goal.returns
returns c = sections_named-none _
