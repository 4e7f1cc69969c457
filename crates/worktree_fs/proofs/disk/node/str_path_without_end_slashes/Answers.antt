use Rattle.std.proofs.Common.{◌≡◌, ap, sym, ◌∙◌, rules}
use Rattle.worktree_fs.specs.Disk.{without_trailing_slashes, root_if_empty}
use Rattle.worktree_fs.proofs.Paths.SlashEnds.{trimmed_slashes, no_path, a_path}
use Rattle.worktree_fs.proofs.disk.node.str_path_without_end_slashes.Goals as goal
use Rattle.worktree_fs.proofs.disk.node.str_path_without_end_slashes.Goals.{then-is_empty, else-is_empty}

pub returns-clause-text : goal.returns-clause-text
returns-clause-text c =
    let rest = c.trim_end_matches-text.result.now in
    let text : c.in-Some.text.now ≡ c.args.path.now = search rules in
    let is : rest ≡ without_trailing_slashes c.args.path.now = trimmed_slashes c.in-Some.text.now rest c.trim_end_matches-text.ensures.matches ∙ ap without_trailing_slashes text in
    elim c.if-is_empty.branch [
      | then-is_empty w ↦ ap (λ r. r.now) w.result-is ∙ sym (no_path rest (sym c.is_empty.ensures ∙ w.if-is_empty.true)) ∙ ap root_if_empty is
      | else-is_empty w ↦ ap (λ r. r.now) w.result-is ∙ sym (a_path rest (sym c.is_empty.ensures ∙ w.if-is_empty.false)) ∙ ap root_if_empty is
    ]
