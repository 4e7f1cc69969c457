use Rattle.std.proofs.Common.{◌≡◌, ◌∙◌, ap, sym, is_some}
use Rattle.worktree_fs.specs.PathStack.{PathStackModel}
use Rattle.worktree_fs.proofs.Calls.{refused_root}
use Rattle.worktree_fs.proofs.path_stack.PathStack.push_root_with_delegate.Goals as goal

pub returns-in-Err-clause-stopped : goal.returns-in-Err-clause-stopped
returns-in-Err-clause-stopped g c =
    let same : c.make_deepest_current.new.self.deepest ≡ c.args.self.now.deepest = ap (λ (s : PathStackModel). s.deepest) c.make_deepest_current.ensures in
    refused_root _ _ c.args.self.now.deepest c.make_deepest_current.new.self.deepest
    (sym (ap is_some same) ∙ sym c.is_root_pushed.ensures ∙ c.if-is_root_pushed.false)
    c.in-Err.ensures.added
    same
