use Rattle.std.proofs.Common.{◌≡◌, refl, false, rules, Ok, Err}
use Rattle.gitbase_core.specs.Path.{is_empty}
use Rattle.std.proofs.lemmas.Result.{err_from_is_err_and}
use Rattle.dir_classify.specs.Excludes.{setup_of_optional_stack}
use Rattle.dir_classify.specs.Layers.{setting_of_shared}
use Rattle.dir_classify.proofs.AsksRulesAboutPath.{asking-later}
use Rattle.dir_classify.proofs.Keeping.{tells-then}
use Rattle.dir_classify.proofs.Refusals.{on-access}
use Rattle.dir_classify.proofs.Ruled.{made-some, ruled-read}
use Rattle.dir_classify.proofs.steps.ruling_unless_worktree_root.Goals as goal

pub returns-clause-swallowed : goal.returns-clause-swallowed
returns-clause-swallowed g c = λ s tells step.
    ruled-read _ _ _ (setting_of_shared g.M.Matcher c.args.shared.now) (setup_of_optional_stack c.args.excludes.now) s c.args.rela_path.now c.args.full.now c.args.kind c.in_ok-is_dir.is_dir c.in_ok-ruling.ruling
    c.in_ok-is_dir.ensures.keeps.faults c.in_ok-ruling.ensures.asking.keeps.faults c.requires.full (made-some c.args.excludes.now (search rules)) (search rules) (c.in_ok-is_dir.ensures.is_dir s.tree tells.tree_is) (c.in_ok-is_dir.ensures.swallowed s.tree tells.tree_is) (c.in_ok-ruling.ensures.ruling s
    (tells-then (g.W.Worktree.told c.args.worktree.now) (g.W.Worktree.told c.is_dir_for_ignore_rules.new.worktree) (g.F.Find.holds c.args.objects.now) (setup_of_optional_stack c.args.excludes.now) s c.in_ok-is_dir.ensures.keeps.tree tells) step)

pub returns-in_err-ruling-clause-asking : goal.returns-in_err-ruling-clause-asking
returns-in_err-ruling-clause-asking g c =
    let p = err_from_is_err_and c.from_residual-in_err-ruling.result c.from_residual-in_err-ruling.ensures.1 in
    rw (p.1, p.2)
    (asking-later g.W.Worktree g.F.Find c.args.worktree.now c.is_dir_for_ignore_rules.new.worktree c.ruling_of_optional_stack.new.worktree c.args.objects.now c.ruling_of_optional_stack.new.objects c.args.excludes.now
    c.ruling_of_optional_stack.new.excludes 0 c.args.rela_path.now (Err c.in_err-ruling.field-0.0) c.in_ok-is_dir.ensures.keeps c.in_ok-is_dir.ensures.reads c.in_err-ruling.ensures.asking)

pub returns-clause-asking : goal.returns-clause-asking
returns-clause-asking g c =
    asking-later g.W.Worktree g.F.Find c.args.worktree.now c.is_dir_for_ignore_rules.new.worktree c.ruling_of_optional_stack.new.worktree c.args.objects.now c.ruling_of_optional_stack.new.objects c.args.excludes.now
    c.ruling_of_optional_stack.new.excludes 0 c.args.rela_path.now (Ok c.in_ok-ruling.ruling) c.in_ok-is_dir.ensures.keeps c.in_ok-is_dir.ensures.reads c.in_ok-ruling.ensures.asking

pub returns-in_err-ruling-clause-asked : goal.returns-in_err-ruling-clause-asked
returns-in_err-ruling-clause-asked g c =
    let p = err_from_is_err_and c.from_residual-in_err-ruling.result c.from_residual-in_err-ruling.ensures.1 in
    let given = made-some c.args.excludes.now (search rules) in
    let some : is_empty c.args.rela_path.now ≡ false = search rules in
    rw (p.1, p.2) (on-access _ (rw (given, some) refl) c.in_err-ruling.field-0.0)

pub returns-in_err-ruling-clause-untouched : goal.returns-in_err-ruling-clause-untouched
returns-in_err-ruling-clause-untouched g c =
    let given = made-some c.args.excludes.now (search rules) in
    let some : is_empty c.args.rela_path.now ≡ false = search rules in
    λ none. absurd (let never = rw (given, some) at none in cc never)

pub returns-clause-untouched : goal.returns-clause-untouched
returns-clause-untouched g c =
    let given = made-some c.args.excludes.now (search rules) in
    let some : is_empty c.args.rela_path.now ≡ false = search rules in
    λ none. absurd (let never = rw (given, some) at none in cc never)
