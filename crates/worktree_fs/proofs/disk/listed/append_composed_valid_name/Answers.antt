use Rattle.std.proofs.Common.{◌≡◌, ◌<◌, ◌+◌, ℕ, List, All, ◌++◌, [], ◌∷◌, length, rules, sym, ap, subst, ◌∙◌, arith}
use Rattle.std.proofs.lemmas.List.{length-append}
use Rattle.std.proofs.lemmas.List.Elements.{All-push}
use Rattle.worktree_fs.specs.Disk.{IsValidListedName}
use Rattle.worktree_fs.proofs.Lists.Listed.{listed-kept}
use Rattle.worktree_fs.proofs.disk.listed.append_composed_valid_name.Goals as goal

pub returns-clause-listed : goal.returns-clause-listed
returns-clause-listed c =
    let before = c.args.names.now.items in
    let is = listed-kept c.args.composes c.args.name.now c.in-Some.name (sym c.in-Some.is ∙ c.in_ok-name.ensures) in
    let size : length (before ++ c.in-Some.name ∷ []) ≡ length before + 1 = length-append before (c.in-Some.name ∷ []) in
    let made : length c.push.new.self.items ≡ length (before ++ c.in-Some.name ∷ []) = ap (λ (l : List (List ℕ)). length l) c.in_ok-push.ensures.items in
    let room : c.len.result < 1000000 = c.if-len-ge-NAME_LIMIT.false in
    let len : c.len.result ≡ length before = search rules in
    let more : All (IsValidListedName c.args.composes) (before ++ c.in-Some.name ∷ []) = All-push (IsValidListedName c.args.composes) before c.in-Some.name c.requires.all is.0 in
    record { all = subst (All (IsValidListedName c.args.composes)) (sym c.in_ok-push.ensures.items) more; few = omega (arith, size, made, room, len) }
