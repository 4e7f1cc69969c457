use Rattle.std.proofs.Common.{ℕ, List, ◌++◌, ◌∙◌, sym, ap}
use Rattle.worktree_report.proofs.Escaping.{escaped-plain}
use Rattle.worktree_report.proofs.escape.append_path_escaped.Goals as goal

pub returns : goal.returns
returns c =
    c.in_ok-extend_from_slice.ensures.items ∙ ap (λ (path : List ℕ). c.args.text.now.items ++ path) (sym (escaped-plain c.args.path.now (sym c.if-has_byte_to_escape.ensures)))
