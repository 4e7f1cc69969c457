use Rattle.worktree_report.proofs.Stopping.{Stops-specs}
use Rattle.worktree_report.proofs.known.load_known_submodules.Goals as goal

pub returns-clause-stops : goal.returns-clause-stops
returns-clause-stops g c =
    Stops-specs g.W.Worktree c.args.worktree.now c.load_modules.new.worktree c.load_modules.new.worktree c.args.setup.now c.args.setup.now.options.ignore_case c.known_submodules_with_active_specs.result
    c.known_submodules_with_active_specs.ensures.answers c.known_submodules_with_active_specs.ensures.outside c.in_ok-modules.ensures.loads.reads
