use Rattle.std.proofs.Common.{◌≡◌, Some, rules}
use Rattle.gitbase_core.specs.Path.{strip_directory_prefix}
use Rattle.worktree_stack.proofs.Lookup.Last.{components-beneath}
use Rattle.worktree_stack.proofs.stack.steps.single_component_below.Goals as goal

pub returns-in-Some : goal.returns-in-Some
returns-in-Some c =
    let beneath : strip_directory_prefix c.args.directory.now c.args.path.now ≡ Some c.in-Some.rest.now = search rules in
    record { path_is = components-beneath c.args.directory.now c.args.path.now c.in-Some.rest.now beneath; one = c.is_one_component.ensures (search rules) }
