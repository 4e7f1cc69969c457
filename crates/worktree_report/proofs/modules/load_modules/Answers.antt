use Rattle.worktree_report.proofs.Stopping.{Stops-modules, reads-one_more}
use Rattle.worktree_report.proofs.modules.load_modules.Goals as goal

pub returns-clause-stops : goal.returns-clause-stops
returns-clause-stops g c =
    Stops-modules g.W.Worktree c.args.worktree.now c.read_admitted_configs.new.worktree c.read_gitmodules_with_config.new.worktree c.args.setup.now _ c.args.worktree_root.now c.in_ok-config.config c.read_gitmodules_with_config.result
    c.read_gitmodules_with_config.ensures.answers c.read_gitmodules_with_config.ensures.outside c.in_ok-config.ensures.gives c.in_ok-config.ensures.loads.reads c.read_gitmodules_with_config.ensures.loads.reads

pub returns-clause-read : goal.returns-clause-read
returns-clause-read g c = reads-one_more c.read_gitmodules_with_config.result _ _ _ _ c.in_ok-config.ensures.read c.read_gitmodules_with_config.ensures.read
