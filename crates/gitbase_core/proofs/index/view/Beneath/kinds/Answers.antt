use Rattle.std.proofs.Common.{◌∙◌}
use Rattle.gitbase_core.proofs.ViewSearch.{kinds-beneath}
use Rattle.gitbase_core.proofs.index.view.Beneath.kinds.Goals as goal

pub returns : goal.returns
returns c = λ index directory is. c.index_kinds_of_name_in_directory.ensures ∙ kinds-beneath index directory c.args.self.now c.args.name.now is
