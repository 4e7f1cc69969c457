use Rattle.std.proofs.Common.{sym, ◌∙◌}
use Rattle.std.specs.Str.{bytes_eq}
use Rattle.dir_classify.proofs.WorktreeSet.{none-found}
use Rattle.dir_classify.proofs.options.set_contains_path.Goals as goal

pub returns-then-count-eq0 : goal.returns-then-count-eq0
returns-then-count-eq0 c = none-found (bytes_eq c.args.path.now) c.args.dirs.now.keys (sym c.len-count.ensures.len ∙ c.if-count-eq0.true)
