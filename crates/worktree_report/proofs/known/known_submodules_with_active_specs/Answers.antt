use Rattle.std.proofs.Common.{rules}
use Rattle.worktree_report.proofs.known.known_submodules_with_active_specs.Goals as goal

pub returns-in-Err-ParsePattern-clause-outside : goal.returns-in-Err-ParsePattern-clause-outside
returns-in-Err-ParsePattern-clause-outside c = record { modules = c.args.modules; outside = search rules }

pub returns-in-Err-NormalizePattern-clause-outside : goal.returns-in-Err-NormalizePattern-clause-outside
returns-in-Err-NormalizePattern-clause-outside c = record { modules = c.args.modules; outside = search rules }
