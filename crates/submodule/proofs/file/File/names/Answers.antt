use Rattle.std.proofs.Common.{◌∙◌}
use Rattle.submodule.proofs.DistinctNames.{distinct_names}
use Rattle.submodule.proofs.file.File.names.Goals as goal

pub returns-clause-distinct : goal.returns-clause-distinct
returns-clause-distinct c =
    distinct_names c.new.result c.self.inside.config.sections (c.new.ensures ∙ c.deref.ensures.value ∙ c.self.invariant.0)
