use Rattle.std.proofs.Common.{◌∙◌}
use Rattle.std.proofs.lemmas.Result.{IfOk-weaker}
use Rattle.submodule.proofs.Tabled.{tabled}
use Rattle.submodule.proofs.path_table.PathTable.find_name_by_valid_path.Goals as goal

pub returns : goal.returns
returns c =
    IfOk-weaker c.name_if_path_valid.result _ _
    (λ name says. says ∙ tabled c.args._config.now.sections c.args.path.now c.args.self.now c.args._names.now c.requires)
    c.name_if_path_valid.ensures
