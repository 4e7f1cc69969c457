use Rattle.std.proofs.Common.{◌≡◌, true, false, is_some, rules}
use Rattle.worktree_stack.specs.Excludes.{is_excluding_decision}
use Rattle.worktree_stack.specs.Setup.{own_match_of_numbered_directory}
use Rattle.worktree_stack.proofs.Rules.Pushed.{excluding-same, excluding-more, excluding-none}
use Rattle.worktree_stack.proofs.ignore.first_excluding_after_push.Goals as goal

pub returns-then-has_own_match_at : goal.returns-then-has_own_match_at
returns-then-has_own_match_at c =
    let has : is_some (own_match_of_numbered_directory c.args.matches.now c.args.decides) ≡ true = search rules in
    excluding-same c.args.matches.now c.args.more.now c.args.decides has c.requires

pub returns-then-excludes : goal.returns-then-excludes
returns-then-excludes c =
    let none : is_some (own_match_of_numbered_directory c.args.matches.now c.args.decides) ≡ false = search rules in
    let excludes : is_excluding_decision c.args.more.now ≡ true = search rules in
    excluding-more c.args.matches.now c.args.more.now c.args.decides none c.requires excludes

pub returns : goal.returns
returns c =
    let none : is_some (own_match_of_numbered_directory c.args.matches.now c.args.decides) ≡ false = search rules in
    let excludes : is_excluding_decision c.args.more.now ≡ false = search rules in
    excluding-none c.args.matches.now c.args.more.now c.args.decides none c.requires excludes
