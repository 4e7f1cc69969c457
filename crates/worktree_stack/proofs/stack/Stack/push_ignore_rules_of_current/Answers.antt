-- The match of the directory is found among the rules above it, and then its own rules are read and pushed.
use Rattle.std.proofs.Common.{◌≡◌, [], ℕ, List, refl, sym, subst, rules}
use Rattle.std.specs.Prelude.{IsErrAnd}
use Rattle.worktree_fs.specs.Paths.{slash_joined_components}
use Rattle.worktree_stack.specs.declared.error.AtPathError.TheVariants as errors
use Rattle.worktree_stack.specs.declared.statistics.Statistics.{Statistics}
use Rattle.worktree_stack.specs.Placed.{AnswersReadings}
use Rattle.worktree_stack.specs.Reading.{ignore_readings_of_directory}
use Rattle.worktree_stack.specs.Setup.{StackSetup}
use Rattle.worktree_stack.specs.Stacked.{setup_of_stack}
use Rattle.worktree_stack.specs.Stacked.{held_ignore_rules_of_state}
use Rattle.worktree_stack.proofs.Lookup.InStep.{pushed_more}
use Rattle.worktree_stack.proofs.Lookup.Levels.{pushed-level}
use Rattle.worktree_stack.proofs.Rules.Readings.{reads-unread, reads-lost}
use Rattle.worktree_stack.proofs.Rules.Pushing.{the-ignore}
use Rattle.worktree_stack.proofs.stack.Stack.push_ignore_rules_of_current.Goals as goal

pub returns-in_err-matched-clause-reads : goal.returns-in_err-matched-clause-reads
returns-in_err-matched-clause-reads g c =
    let made : StackSetup = setup_of_stack c.args.self.now in
    let d : List ℕ = slash_joined_components c.args.self.now.current in
    let the = the-ignore made d made.ignore refl (search rules) in
    let memory : IsErrAnd c.from_residual.result (λ x. x ≡ errors.OutOfMemory) = search rules in
    reads-unread g.W.Worktree g.F.Find c.args.worktree.now c.args.objects.now (ignore_readings_of_directory made made.ignore d) [] the.0 c.args.self.now.statistics _ c.from_residual.result memory the.1 (search rules)

pub returns-in_err-push_directory-clause-reads : goal.returns-in_err-push_directory-clause-reads
returns-in_err-push_directory-clause-reads g c =
    let W = g.W.Worktree in
    let F = g.F.Find in
    let made : StackSetup = setup_of_stack c.args.self.now in
    let d : List ℕ = slash_joined_components c.args.self.now.current in
    let the = the-ignore made d made.ignore refl (search rules) in
    let memory : IsErrAnd c.from_residual-in_err-push_directory.result (λ x. x ≡ errors.OutOfMemory) = search rules in
    let counted : c.self-2.inside.statistics ≡ c.read_ignore_rules_of_current.new.self.statistics = search rules in
    subst (λ (x : Statistics). AnswersReadings W F c.args.worktree.now c.read_ignore_rules_of_current.new.worktree c.args.objects.now c.read_ignore_rules_of_current.new.objects (ignore_readings_of_directory made made.ignore d) c.args.self.now.statistics x c.from_residual-in_err-push_directory.result) (sym counted)
    (reads-lost W F c.args.worktree.now c.read_ignore_rules_of_current.new.worktree c.args.objects.now c.read_ignore_rules_of_current.new.objects (ignore_readings_of_directory made made.ignore d) the.0 c.args.self.now.statistics c.read_ignore_rules_of_current.new.self.statistics c.in_ok-list.list
    c.from_residual-in_err-push_directory.result the.1 memory c.in_ok-list.ensures.reads)

pub returns-clause-rules : goal.returns-clause-rules
returns-clause-rules g c s tells =
    pushed_more s c.args.self.now (held_ignore_rules_of_state c.push_directory.new.self) c.current_relative-directory.result.now c.in_ok-list.list c.in_ok-matched.matched
    (search rules) (c.in_ok-list.ensures.rules s tells) (search rules) (search rules)

pub returns-clause-levels : goal.returns-clause-levels
returns-clause-levels g c =
    pushed-level c.args.self.now.ignore (held_ignore_rules_of_state c.push_directory.new.self) c.args.self.now.current c.in_ok-list.list c.in_ok-matched.matched (search rules)
