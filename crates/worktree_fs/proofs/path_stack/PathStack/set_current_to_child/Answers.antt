use Rattle.std.proofs.Common.{◌∙◌, ◌++◌, ◌∷◌, [], ap, Some, None, if◌then◌else◌, ℕ, List}
use Rattle.worktree_fs.specs.Paths.{all_but_last}
use Rattle.worktree_fs.specs.Placed.{RootedPathModel}
use Rattle.worktree_fs.specs.PathStack.{PathStackModel}
use Rattle.worktree_fs.proofs.Paths.Spelled.{without_last-snoc}
use Rattle.worktree_fs.proofs.Paths.Standing.{same_standing, deepest_stays}
use Rattle.worktree_fs.proofs.path_stack.PathStack.set_current_to_child.Goals as goal

pub returns-clause-made : goal.returns-clause-made
returns-clause-made c =
    let view = c.self.view_is ∙ c.make_deepest_current.ensures in
    let pushed = c.in_ok-push.ensures.pushed in
    same_standing _ _
    (ap (λ (p : RootedPathModel). p.root) pushed ∙ ap (λ (s : PathStackModel). s.root) view)
    (ap (λ (p : RootedPathModel). if c.self.inside.is_pushed then Some (all_but_last p.names) else None) pushed
    ∙ ap (λ (names : List (List ℕ)). if c.self.inside.is_pushed then Some names else None) (without_last-snoc c.self.inside.place.names c.args.name.now)
    ∙ deepest_stays c.self.inside.is_pushed c.self.inside.is_below c.self.inside.place.names c.args.self.now.deepest (ap (λ (s : PathStackModel). s.deepest) view) (ap (λ (s : PathStackModel). s.current) view))
    (ap (λ (p : RootedPathModel). p.names) pushed ∙ ap (λ (s : PathStackModel). s.current ++ c.args.name.now ∷ []) view)
