use Rattle.std.proofs.Common.{◌∙◌, ◌++◌, ◌∷◌, [], List, ℕ, ap, sym, append_assoc, arith}
use Rattle.worktree_fs.proofs.Routes.Ways.{nth_name_at, name_none}
use Rattle.worktree_fs.proofs.memory.spell.append_slash_and_name_at.Goals as goal

pub returns-in_ok-extend_from_slice : goal.returns-in_ok-extend_from_slice
returns-in_ok-extend_from_slice c =
    let name = c.name.result.now in
    c.in_ok-extend_from_slice.ensures.items
    ∙ ap (λ (l : List ℕ). l ++ name) c.in_ok-push.ensures.items
    ∙ append_assoc c.args.text.now.items (47 ∷ []) name
    ∙ ap (λ (l : List ℕ). c.args.text.now.items ++ 47 ∷ l) (c.name.ensures ∙ sym (nth_name_at c.args.dir.now c.args.at c.index-dir-at.result c.if-at-dir.true c.index-dir-at.is))

pub returns-else-at-dir : goal.returns-else-at-dir
returns-else-at-dir c =
    c.in_ok-push.ensures.items
    ∙ ap (λ (l : List ℕ). c.args.text.now.items ++ 47 ∷ l) (sym (name_none c.args.dir.now c.args.at (omega (arith, c.if-at-dir.false))))
