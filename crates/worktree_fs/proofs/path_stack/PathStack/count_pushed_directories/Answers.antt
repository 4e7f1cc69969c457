use Rattle.std.proofs.Common.{◌∙◌, ◌+◌, ap, sym, length, ℕ, List}
use Rattle.worktree_fs.proofs.Paths.Standing.{length-directories}
use Rattle.worktree_fs.proofs.path_stack.PathStack.count_pushed_directories.Goals as goal

pub returns-then-is_root_pushed : goal.returns-then-is_root_pushed
returns-then-is_root_pushed c =
    ap (λ (n : ℕ). n + 1) c.count_components.ensures.count
    ∙ ap (λ (names : List (List ℕ)). length names + 1) c.deepest_pushed_directory.ensures.names
    ∙ length-directories c.args.self.now.deepest (sym c.is_root_pushed.ensures ∙ c.if-is_root_pushed.true)
