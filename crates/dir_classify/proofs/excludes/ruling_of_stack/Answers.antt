use Rattle.std.proofs.Common.{rules, ◌≡◌, ◌∙◌, sym, subst, refl, inr, Some, arith}
use Rattle.std.proofs.lemmas.Result.{err_from_is_err_and}
use Rattle.gitbase_core.specs.Path.{components}
use Rattle.worktree_stack.specs.Excludes.{exclude}
use Rattle.worktree_stack.specs.Exclusions.{exclusion_of_decision}
use Rattle.worktree_stack.specs.Reading.{rulebook_of_stack_setup}
use Rattle.worktree_stack.specs.Lookups.{StandsAtPath}
use Rattle.worktree_stack.specs.Stacked.{StackModel, setup_of_stack, IsInStepWithTree}
use Rattle.worktree_fs.specs.Causes.{CountIncreasedOrSaturated}
use Rattle.dir_classify.specs.Refused.{StopsAtRefusedDirectoryIfGiven}
use Rattle.dir_classify.proofs.Keeping.{nothing-mapped}
use Rattle.dir_classify.proofs.Stopped.{stopped-access}
use Rattle.dir_classify.proofs.Looked.{tells-given, ruling-looked, read-looked, on-way-looked, leaves-answered, leaves-refused}
use Rattle.dir_classify.proofs.excludes.ruling_of_stack.Goals as goal

pub returns-clause-ruling : goal.returns-clause-ruling
returns-clause-ruling g c = λ s told step.
    let looks = c.in_ok-move_stack_to_path.ensures.looks_up in
    let tells = tells-given (g.W.Worktree.told c.args.worktree.now) (g.F.Find.holds c.args.objects.now) (setup_of_stack c.args.stack.now) s told in
    let now : StackModel = c.move_stack_to_path.new.stack in
    let path = c.args.rela_path.now in
    let in_step = subst (IsInStepWithTree s) (sym c.platform-platform.ensures) (looks.in_step s tells step) in
    let looked_up = subst (λ (p : StackModel). StandsAtPath p (components path)) (sym c.platform-platform.ensures) looks.looked_up in
    ruling-looked s (setup_of_stack c.args.stack.now) now path c.args.is_dir c.exclusion-found.result looks.made (looks.is_dir ∙ c.mode_from_is_dir.ensures)
    (subst (λ (p : StackModel). c.exclusion-found.result ≡ exclusion_of_decision (exclude (rulebook_of_stack_setup (setup_of_stack p) s) (components path) p.is_dir)) c.platform-platform.ensures
    (c.exclusion-found.ensures.exclude s in_step path looked_up))

pub returns-clause-read : goal.returns-clause-read
returns-clause-read g c = λ s told step.
    let looks = c.in_ok-move_stack_to_path.ensures.looks_up in
    let tells = tells-given (g.W.Worktree.told c.args.worktree.now) (g.F.Find.holds c.args.objects.now) (setup_of_stack c.args.stack.now) s told in
    read-looked s (setup_of_stack c.args.stack.now) c.move_stack_to_path.new.stack c.args.rela_path.now c.requires.excludes looks.made (looks.in_step s tells step) looks.looked_up

pub returns-clause-by_mappings : goal.returns-clause-by_mappings
returns-clause-by_mappings g c = λ none. c.in_ok-move_stack_to_path.ensures.looks_up.untouched none

pub returns-in_err-move_stack_to_path-clause-by_mappings : goal.returns-in_err-move_stack_to_path-clause-by_mappings
returns-in_err-move_stack_to_path-clause-by_mappings g c = λ none. c.in_err-move_stack_to_path.ensures.looks_up.untouched none

pub returns-clause-asking : goal.returns-clause-asking
returns-clause-asking g c =
    let looks = c.in_ok-move_stack_to_path.ensures.looks_up in
    record {
      about = tt;
      refused = λ s told. tt;
      stopped = tt;
      cause = tt;
      keeps = search rules;
      store = c.in_ok-move_stack_to_path.ensures.leaves_store;
      unmapped = λ none. looks.store_untouched (nothing-mapped (setup_of_stack c.args.stack.now) none);
      rules = search rules;
      reads = inr (record {
        given = refl;
        once = looks.platforms;
        looked_up = looks.looked_up;
        on_way = on-way-looked c.move_stack_to_path.new.stack c.args.rela_path.now looks.looked_up;
        leaves = leaves-answered _ _ c.args.rela_path.now c.args.stack.now c.move_stack_to_path.new.stack looks.carried;
        reads = λ alone. omega (arith, looks.reads alone);
      });
    }

pub returns-in_err-move_stack_to_path-clause-asking : goal.returns-in_err-move_stack_to_path-clause-asking
returns-in_err-move_stack_to_path-clause-asking g c =
    let looks = c.in_err-move_stack_to_path.ensures.looks_up in
    let p = err_from_is_err_and c.from_residual.result c.from_residual.ensures.1 in
    let cause = looks.refused c.requires.normal in
    rw (p.1, p.2)
    (record {
      about = search rules;
      refused = λ s told. search rules;
      stopped = stopped-access
          (StopsAtRefusedDirectoryIfGiven (g.W.Worktree.told c.args.worktree.now) (g.F.Find.holds c.args.objects.now) (CountIncreasedOrSaturated (g.W.Worktree.faults c.args.worktree.now) (g.W.Worktree.faults c.move_stack_to_path.new.worktree))
          (CountIncreasedOrSaturated (g.F.Find.faults c.args.objects.now) (g.F.Find.faults c.move_stack_to_path.new.objects)) c.args.rela_path.now (Some c.args.stack.now) (Some c.move_stack_to_path.new.stack))
          c.in_err-move_stack_to_path.field-0.0 (looks.stopped c.requires.normal);
      cause = search rules;
      keeps = search rules;
      store = c.in_err-move_stack_to_path.ensures.leaves_store;
      unmapped = λ none. looks.store_untouched (nothing-mapped (setup_of_stack c.args.stack.now) none);
      rules = search rules;
      reads = inr (record {
        given = refl;
        once = looks.platforms;
        looked_up = tt;
        on_way = looks.on_way c.requires.normal;
        leaves = leaves-refused _ _ _ _ c.args.rela_path.now c.args.stack.now c.move_stack_to_path.new.stack c.in_err-move_stack_to_path.field-0.0 (looks.stopped c.requires.normal);
        reads = λ alone. omega (arith, looks.reads alone);
      });
    })
