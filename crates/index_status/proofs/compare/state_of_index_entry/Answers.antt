use Rattle.std.proofs.Common.{rules, ◌∙◌}
use Rattle.index_status.proofs.Settled.{seen-state}
use Rattle.index_status.proofs.compare.state_of_index_entry.Goals as goal

pub returns-in-Open-clause-state : goal.returns-in-Open-clause-state
returns-in-Open-clause-state g c =
    seen-state (g.W.Worktree.told c.args.worktree.now) c.args.root.now c.in-Open.full c.args.entry.now c.in_ok-state-in-Open.state
    (search rules) (search rules)
    (λ t told. search rules)
    (λ t told. c.in_ok-state-in-Open.ensures.state t (c.in_ok-full.ensures.keeps.tree ∙ told))
    c.in_ok-state-in-Open.ensures.possible
