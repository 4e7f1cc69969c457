-- A component is made current, which may want memory, and then pushed as a directory.
use Rattle.std.proofs.Common.{◌≡◌, [], ap, inl, refl, rules}
use Rattle.std.specs.Prelude.{IsErrAnd}
use Rattle.std.proofs.lemmas.Result.{IfErr-weaker}
use Rattle.worktree_fs.proofs.Calls.{handed_on}
use Rattle.worktree_fs.proofs.Routes.Lookups.{on_ok}
use Rattle.worktree_stack.specs.declared.error.AtPathError.TheVariants as errors
use Rattle.worktree_stack.specs.Moments.{worktree_store_and_stack}
use Rattle.worktree_stack.specs.Stacked.{StackModel}
use Rattle.worktree_stack.proofs.Lookup.Asked.{step-asks}
use Rattle.worktree_stack.proofs.Lookup.InStep.{pushed-below}
use Rattle.worktree_stack.proofs.Lookup.Levels.{level-below}
use Rattle.worktree_stack.proofs.Lookup.Carrying.{carries-none, stops-left}
use Rattle.worktree_stack.proofs.Lookup.Seeing.{sees-refused}
use Rattle.worktree_stack.proofs.Lookup.SeeingOn.{sees-below}
use Rattle.worktree_stack.proofs.Lookup.StackSteps.{no-answer}
use Rattle.worktree_stack.proofs.CheckOut.Stepping.{in_step_below, carries-below, stops-below}
use Rattle.worktree_stack.proofs.stack.Stack.push_child_directory_with_rules.Goals as goal

pub returns-in_err-push-clause-moves : goal.returns-in_err-push-clause-moves
returns-in_err-push-clause-moves g c =
    let told = g.W.Worktree.told c.args.worktree.now in
    let holds = g.F.Find.holds c.args.objects.now in
    let same : IsErrAnd c.from_residual.result (λ x. x ≡ errors.OutOfMemory) = search rules in
    record {
      carried = no-answer _ c.from_residual.result errors.OutOfMemory same;
      stopped =
          handed_on c.from_residual.result errors.OutOfMemory _ same
          (inl (stops-left told holds _ [] _ c.args.self.now c.args.self.now c.push.new.self refl (carries-none told holds c.args.self.now c.args.self.now refl refl refl) refl c.in_err-push.ensures.refused));
    }

pub returns-in_err-push-clause-sees : goal.returns-in_err-push-clause-sees
returns-in_err-push-clause-sees g c =
    let same : IsErrAnd c.from_residual.result (λ x. x ≡ errors.OutOfMemory) = search rules in
    sees-refused (g.W.Worktree.told c.args.worktree.now) (g.F.Find.holds c.args.objects.now) _ c.args.self.now.attributes c.push.new.self.attributes c.from_residual.result errors.OutOfMemory same
    (ap (λ (s : StackModel). s.attributes) c.in_err-push.ensures.refused)

pub returns-clause-moves : goal.returns-clause-moves
returns-clause-moves g c =
    let told = g.W.Worktree.told c.args.worktree.now in
    let holds = g.F.Find.holds c.args.objects.now in
    record {
      carried =
          on_ok c.push_directory.result (carries-below told holds c.args.self.now c.push.new.self c.push_directory.new.self c.args.name.now c.in_ok-push.ensures.made)
          (c.push_directory.ensures.carried (pushed-below c.push.new.self.at c.push.new.self.current c.args.name.now (search rules) (search rules)));
      stopped =
          IfErr-weaker c.push_directory.result _ _ (stops-below told holds _ _ c.args.self.now c.push.new.self c.push_directory.new.self c.args.name.now c.in_ok-push.ensures.made)
          c.push_directory.ensures.stopped;
    }

pub returns-clause-holds : goal.returns-clause-holds
returns-clause-holds g c =
    let below = c.push_directory.ensures.holds (pushed-below c.push.new.self.at c.push.new.self.current c.args.name.now (search rules) (search rules)) in
    record {
      in_step = λ s tells in_step. below.in_step s tells (in_step_below s c.args.self.now c.push.new.self c.args.name.now c.in_ok-push.ensures.made in_step);
      levels = λ level. below.levels (level-below c.args.self.now c.push.new.self c.args.name.now c.in_ok-push.ensures.made level);
    }

pub returns-clause-sees : goal.returns-clause-sees
returns-clause-sees g c =
    sees-below (g.W.Worktree.told c.args.worktree.now) (g.F.Find.holds c.args.objects.now) c.args.self.now c.push.new.self c.args.name.now c.push_directory.new.self.attributes c.push_directory.result c.in_ok-push.ensures.made
    c.push_directory.ensures.pushes.sees

pub returns-clause-asks : goal.returns-clause-asks
returns-clause-asks g c =
    step-asks g.W.Worktree (worktree_store_and_stack c.args.worktree.now c.args.objects.now c.args.self.now) (worktree_store_and_stack c.args.worktree.now c.args.objects.now c.push.new.self)
    (worktree_store_and_stack c.push_directory.new.worktree c.push_directory.new.objects c.push_directory.new.self) c.args.name.now c.in_ok-push.ensures.made refl c.push_directory.ensures.asks
