use Rattle.std.proofs.Common.{◌∙◌, ap, length, arith}
use Rattle.gitbase_core.specs.Path.{components}
use Rattle.worktree_fs.specs.PathStack.{deepest_components_or_root}
use Rattle.worktree_fs.proofs.Routes.Lookups.{popped-more, popped-end}
use Rattle.worktree_fs.proofs.path_stack.PathStack.pop_non_ancestor_directories.Goals as goal

pub loop-preserved : goal.loop-preserved
loop-preserved g c = record {
  popped =
      popped-more c.args.self.now c.loop.self c.pop.new.self _ _ _ c.loop.counter
      (omega (arith, c.loop-test.true, c.count_directories_to_pop-surplus.ensures, ap (λ d. length (deepest_components_or_root d)) c.requires))
      c.loop.invariant.popped c.pop_directory.ensures.added c.pop.ensures.state;
  unrefused = c.pop_directory.ensures.unrefused ∙ c.loop.invariant.unrefused;
  later = omega (arith, c.loop.invariant.later, c.pop_directory.ensures.later);
  ruled = λ first held. c.pop_directory.ensures.ruled first (c.loop.invariant.ruled first held);
}

pub returns-clause-state : goal.returns-clause-state
returns-clause-state g c =
    popped-end c.args.self.now c.loop.self _ _ c.loop.counter (components c.args.relative.now) c.loop.invariant.popped c.requires
    (omega (arith, c.loop-test.false, c.loop.auto.counter-end, c.count_directories_to_pop-surplus.ensures))
