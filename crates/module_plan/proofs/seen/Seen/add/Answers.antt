use Rattle.std.proofs.Common.{rules, ◌≡◌, ◌∙◌, List, ℕ, false, ap}
use Rattle.worktree_fs.specs.Answers.{kind_of_lookup}
use Rattle.worktree_fs.specs.Tree.{look}
use Rattle.module_plan.proofs.SeenKinds.{seen_more}
use Rattle.module_plan.proofs.seen.Seen.add.Goals as goal

pub returns : goal.returns
returns c = λ told are is.
    let same : c.args.full.now ≡ c.in_ok-full.full = search rules in
    seen_more told c.in_ok-full.full c.args.kind c.args.self.now c.insert.new.self.entries are
    (λ t tells. is t tells ∙ ap (λ (path : List ℕ). kind_of_lookup (look t path false)) same)
    (search rules)
