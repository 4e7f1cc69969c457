use Rattle.std.proofs.Common.{[]}
use Rattle.gitbase_core.proofs.index.State.entries_beneath_directory.Goals as goal

pub returns : goal.returns
returns c = c.entries_beneath_directory.ensures _ [] c.all.ensures
