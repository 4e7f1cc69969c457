use Rattle.std.proofs.Common.{◌≡◌, ◌+◌, replicate}
use Rattle.gitbase_core.specs.Path.{components}
use Rattle.worktree_fs.specs.PathStack.{number_of_directories_to_pop, pop_directory}
use Rattle.worktree_stack.specs.Setup.{held_attribute_lists}
use Rattle.worktree_stack.specs.Lookups.{directories_kept_by_lookup}
use Rattle.worktree_stack.specs.StackSteps.{PopsDirectoriesOnly}
use Rattle.worktree_stack.proofs.stack.Stack.pop_non_ancestor_directories.Given as goal

abbrev pub invariant-loop : goal.invariant-loop
invariant-loop l =
    let parts = components l.relative in
    record {
      stays : directories_kept_by_lookup l.self.at parts ≡ directories_kept_by_lookup l.fn.self.at parts;
      left : number_of_directories_to_pop l.self.at parts + l.counter ≡ l.end;
      undropped : l.end ≡ 0 → held_attribute_lists l.self.attributes ≡ held_attribute_lists l.fn.self.attributes;
      pops : PopsDirectoriesOnly (replicate l.counter pop_directory) l.fn.self l.self;
    }
