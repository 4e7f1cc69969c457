use Rattle.std.proofs.Common.{◌∙◌}
use Rattle.dir_classify.proofs.WorktreeSet.{found-by}
use Rattle.dir_classify.proofs.options.contains_by_search.Goals as goal

pub returns : goal.returns
returns c = c.contains.ensures ∙ found-by c.args.path.now c.args.dirs.now.keys
