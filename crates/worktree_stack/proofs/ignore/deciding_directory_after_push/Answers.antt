use Rattle.std.proofs.Common.{◌≡◌, Bool, true, false, is_some, sym, ap, ◌∙◌, ◌++◌, ◌∷◌, [], rules}
use Rattle.worktree_stack.specs.Excludes.{deciding_match_of_parents}
use Rattle.worktree_stack.proofs.Rules.Pushed.{nearest-more, nearest-same}
use Rattle.worktree_stack.proofs.ignore.deciding_directory_after_push.Goals as goal

pub returns-then-is_some : goal.returns-then-is_some
returns-then-is_some c =
    let some : is_some c.args.more.now ≡ true = search rules in
    nearest-more c.args.matches.now c.args.more.now some
    ∙ sym (ap (λ (strict : Bool). deciding_match_of_parents strict (c.args.matches.now ++ c.args.more.now ∷ [])) c.if-strict.false)

pub returns : goal.returns
returns c =
    let none : is_some c.args.more.now ≡ false = search rules in
    nearest-same c.args.matches.now c.args.more.now c.args.decides none
    (c.requires ∙ ap (λ (strict : Bool). deciding_match_of_parents strict c.args.matches.now) c.if-strict.false)
    ∙ sym (ap (λ (strict : Bool). deciding_match_of_parents strict (c.args.matches.now ++ c.args.more.now ∷ [])) c.if-strict.false)
