use Rattle.std.proofs.Common.{◌∙◌, sym, rules}
use Rattle.gitbase_core.specs.Path.{components}
use Rattle.worktree_stack.proofs.Lookup.Last.{surplus-found}
use Rattle.worktree_stack.proofs.stack.Stack.count_directories_to_pop.Goals as goal

pub returns-then-is_some : goal.returns-then-is_some
returns-then-is_some c =
    surplus-found c.args.self.now.at (components c.args.relative.now) (components c.deepest_pushed_directory.result.now) c.single_component_below.result c.single_component_below.ensures (sym c.is_some.ensures ∙ c.if-is_some.true) (search rules)
