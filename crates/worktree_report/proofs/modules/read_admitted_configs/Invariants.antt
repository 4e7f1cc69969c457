use Rattle.std.proofs.Common.{◌≡◌, ◌≤◌, ◌+◌, take, drop, Some, Ok}
use Rattle.worktree_fs.specs.Causes.{saturating_sum}
use Rattle.worktree_fs.specs.Tree.{Names}
use Rattle.worktree_report.specs.Loading.{count_admitted_configs, empty_configuration, append_admitted_configs}
use Rattle.worktree_report.specs.Loads.{ReadsFilesAtMost}
use Rattle.worktree_report.proofs.modules.read_admitted_configs.Given as goal

abbrev pub invariant-loop-i : goal.invariant-loop-i
invariant-loop-i g l =
    let permissions = l.setup.options.permissions in
    let configs = l.setup.configs in
    record {
      same : (t : Names) → g.W.Worktree.told l.fn.worktree ≡ Some t
          → append_admitted_configs t permissions (l.i + 1) (drop l.i configs) l.config ≡ append_admitted_configs t permissions 1 configs empty_configuration;
      read : (t : Names) → g.W.Worktree.told l.fn.worktree ≡ Some t → append_admitted_configs t permissions 1 (take l.i configs) empty_configuration ≡ Ok l.config;
      files : saturating_sum (g.W.Worktree.reads l.fn.worktree) (count_admitted_configs permissions (take l.i configs)) ≤ g.W.Worktree.reads l.worktree;
      unfaulted : g.W.Worktree.faults l.worktree ≡ g.W.Worktree.faults l.fn.worktree;
      loads : ReadsFilesAtMost g.W.Worktree l.fn.worktree l.worktree (count_admitted_configs permissions (take l.i configs));
    }
