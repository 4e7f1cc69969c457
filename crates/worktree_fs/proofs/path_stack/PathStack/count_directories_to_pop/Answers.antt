use Rattle.std.proofs.Common.{◌-◌, ◌∙◌, ap, length, List, ℕ}
use Rattle.gitbase_core.specs.Path.{components}
use Rattle.worktree_fs.specs.PathStack.{shared_proper_ancestor_components}
use Rattle.worktree_fs.proofs.path_stack.PathStack.count_directories_to_pop.Goals as goal

pub returns : goal.returns
returns c =
    c.count_non_ancestor_components.ensures
    ∙ ap (λ (names : List (List ℕ)). length names - length (shared_proper_ancestor_components names (components c.args.relative.now))) c.deepest_pushed_directory.ensures.names
