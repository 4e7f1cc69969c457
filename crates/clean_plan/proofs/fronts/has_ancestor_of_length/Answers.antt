use Rattle.std.proofs.Common.{rules}
use Rattle.clean_plan.proofs.Directories.{front-is}
use Rattle.clean_plan.proofs.fronts.has_ancestor_of_length.Goals as goal

pub returns-else-is_empty_or_root_path : goal.returns-else-is_empty_or_root_path
returns-else-is_empty_or_root_path c = let is = front-is c.args.path.now c.args.at c.requires in search rules
