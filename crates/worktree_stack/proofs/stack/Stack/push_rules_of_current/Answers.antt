-- A directory is counted, and its attributes are read and then its ignore rules; where these are refused the lists are popped again.
use Rattle.std.proofs.Common.{true, ◌≡◌, ◌∙◌, ◌++◌, ℕ, List, Option, Result, Ok, Err, refl, sym, ap, subst, rules}
use Rattle.std.specs.Prelude.{IsErrAnd}
use Rattle.worktree_fs.specs.Paths.{slash_joined_components}
use Rattle.worktree_stack.specs.declared.error.AtPathError.{AtPathError}
use Rattle.worktree_stack.specs.declared.statistics.Statistics.{Statistics}
use Rattle.worktree_stack.specs.Placed.{AnswersReadings}
use Rattle.worktree_stack.specs.Reading.{is_read_without_refusal, rules_texts_of_readings, rules_texts_of_directory, TreeAndObjects, attribute_readings_of_directory, readings_of_directory, attribute_lists_of_directory}
use Rattle.worktree_stack.specs.Setup.{AttributesSetup, HeldAttributeLists, held_attribute_lists, seen_attribute_names, HasListsAppended, held_without_lists_of_directory, StackSetup, setup_of_held_attributes}
use Rattle.worktree_stack.specs.Stacked.{StackModel, setup_of_stack, held_attributes_of_state, number_of_lists_of_directory}
use Rattle.worktree_stack.proofs.Refusals.{is_err}
use Rattle.worktree_stack.proofs.Rules.Readings.{later}
use Rattle.worktree_stack.proofs.Rules.RulesRead.{attributes-read, rules-read, rules-unread}
use Rattle.worktree_stack.proofs.Lookup.InStep.{pushed_all}
use Rattle.worktree_stack.proofs.Lookup.Levels.{lists-level}
use Rattle.worktree_stack.proofs.Rules.Pushing.{all-dropped, rules-bridge, level-bridge}
use Rattle.worktree_stack.specs.SeenNames.{AppendsReadNamesAsSeen, attribute_names_of_directory}
use Rattle.worktree_stack.proofs.Lookup.Seeing.{names-popped, sees-before, sees-undone}
use Rattle.worktree_stack.proofs.Lookup.StackSteps.{no-answer}
use Rattle.worktree_stack.proofs.stack.Stack.push_rules_of_current.Goals as goal

pub returns-in_err-push_attributes_of_current-clause-reads : goal.returns-in_err-push_attributes_of_current-clause-reads
returns-in_err-push_attributes_of_current-clause-reads g c =
    let W = g.W.Worktree in
    let F = g.F.Find in
    let old : StackModel = c.args.self.now in
    let mid : StackModel = c.count_pushed_directory.new.self in
    let after : StackModel = c.push_attributes_of_current.new.self in
    let e : AtPathError = c.in_err-push_attributes_of_current.field-0.0 in
    let said : IsErrAnd c.from_residual.result (λ x. x ≡ e) = search rules in
    subst (λ (r : Result (Unit {0}) AtPathError). AnswersReadings W F c.args.worktree.now c.push_attributes_of_current.new.worktree c.args.objects.now c.push_attributes_of_current.new.objects (readings_of_directory (setup_of_stack old) (slash_joined_components old.current)) old.statistics after.statistics r)
    (sym (is_err c.from_residual.result e said))
    (rules-unread W F c.args.worktree.now c.push_attributes_of_current.new.worktree c.args.objects.now c.push_attributes_of_current.new.objects old mid after c.count_pushed_directory.ensures e
    (subst (λ (r : Result (Unit {0}) AtPathError). AnswersReadings W F c.args.worktree.now c.push_attributes_of_current.new.worktree c.args.objects.now c.push_attributes_of_current.new.objects (attribute_readings_of_directory (setup_of_stack mid) (setup_of_stack mid).attributes (slash_joined_components mid.current)) mid.statistics after.statistics r)
    c.in_err-push_attributes_of_current.was c.push_attributes_of_current.ensures.reads))

pub returns-in-Err-clause-reads : goal.returns-in-Err-clause-reads
returns-in-Err-clause-reads g c =
    let W = g.W.Worktree in
    let F = g.F.Find in
    let old : StackModel = c.args.self.now in
    let counted : c.self.inside.statistics ≡ c.push_ignore_rules_of_current.new.self.statistics = search rules in
    subst (λ (x : Statistics). AnswersReadings {T = Unit {0}} W F c.args.worktree.now c.push_ignore_rules_of_current.new.worktree c.args.objects.now c.push_ignore_rules_of_current.new.objects (readings_of_directory (setup_of_stack old) (slash_joined_components old.current)) old.statistics x (Err c.in-Err.refused)) (sym counted)
    (rules-read W F c.args.worktree.now c.push_attributes_of_current.new.worktree c.args.objects.now c.push_attributes_of_current.new.objects old c.count_pushed_directory.new.self c.push_attributes_of_current.new.self c.count_pushed_directory.ensures
    c.push_ignore_rules_of_current.new.worktree c.push_ignore_rules_of_current.new.objects c.push_ignore_rules_of_current.new.self.statistics (Err c.in-Err.refused) (search rules) (search rules) c.in_ok-push_attributes_of_current.ensures.reads c.in-Err.ensures.reads)

pub returns-clause-reads : goal.returns-clause-reads
returns-clause-reads g c =
    rules-read g.W.Worktree g.F.Find c.args.worktree.now c.push_attributes_of_current.new.worktree c.args.objects.now c.push_attributes_of_current.new.objects c.args.self.now c.count_pushed_directory.new.self c.push_attributes_of_current.new.self c.count_pushed_directory.ensures
    c.push_ignore_rules_of_current.new.worktree c.push_ignore_rules_of_current.new.objects c.push_ignore_rules_of_current.new.self.statistics (Ok tt) (search rules) (search rules) c.in_ok-push_attributes_of_current.ensures.reads c.in_default.ensures.reads

pub returns-clause-in_step : goal.returns-clause-in_step
returns-clause-in_step g c s tells holds =
    let W = g.W.Worktree in
    let F = g.F.Find in
    let old : StackModel = c.args.self.now in
    let made : StackSetup = setup_of_stack old in
    let after : StackModel = c.push_attributes_of_current.new.self in
    let made_is : setup_of_stack after ≡ made = search rules in
    let current_is : after.current ≡ old.current = search rules in
    let first : AnswersReadings {T = Unit {0}} W F c.args.worktree.now c.push_attributes_of_current.new.worktree c.args.objects.now c.push_attributes_of_current.new.objects (attribute_readings_of_directory made made.attributes (slash_joined_components old.current)) old.statistics after.statistics (Ok tt) =
    attributes-read W F c.args.worktree.now c.push_attributes_of_current.new.worktree c.args.objects.now c.push_attributes_of_current.new.objects old c.count_pushed_directory.new.self after c.count_pushed_directory.ensures (Ok tt) c.in_ok-push_attributes_of_current.ensures.reads in
    let all : AnswersReadings {T = Unit {0}} W F c.args.worktree.now c.push_ignore_rules_of_current.new.worktree c.args.objects.now c.push_ignore_rules_of_current.new.objects (readings_of_directory made (slash_joined_components old.current)) old.statistics c.push_ignore_rules_of_current.new.self.statistics (Ok tt) = returns-clause-reads g c in
    let held : c.push_ignore_rules_of_current.new.self.attributes ≡ after.attributes = search rules in
    let kept : after.ignore ≡ old.ignore = search rules in
    let lists : held_attribute_lists after.attributes ≡ held_attribute_lists old.attributes ++ attribute_lists_of_directory made s old.current =
    subst (λ (m : StackModel). held_attribute_lists after.attributes ≡ held_attribute_lists m.attributes ++ attribute_lists_of_directory (setup_of_stack m) s m.current) c.count_pushed_directory.ensures (c.in_ok-push_attributes_of_current.ensures.lists s tells) in
    pushed_all made s old.current old.attributes c.push_ignore_rules_of_current.new.self.attributes old.ignore c.push_ignore_rules_of_current.new.self.ignore holds (all.read s tells) (ap held_attribute_lists held ∙ lists)
    (rules-bridge s old after c.push_ignore_rules_of_current.new.self.ignore made_is current_is kept
    (c.in_default.ensures.rules s (later W F c.args.worktree.now c.push_attributes_of_current.new.worktree c.args.objects.now c.push_attributes_of_current.new.objects s first.leaves first.leaves_store tells)) holds.rules)

-- the readings of a directory are its reading
read-as : (made : StackSetup) (s : TreeAndObjects) (d : List ℕ) → is_read_without_refusal (rules_texts_of_readings s (readings_of_directory made d)) ≡ true → is_read_without_refusal (rules_texts_of_directory made s d) ≡ true
unfolding rules_texts_of_directory
read-as made s d read = read

pub returns-clause-levels : goal.returns-clause-levels
returns-clause-levels g c level =
    let old : StackModel = c.args.self.now in
    let after : StackModel = c.push_attributes_of_current.new.self in
    let new : StackModel = c.push_ignore_rules_of_current.new.self in
    let d : List ℕ = slash_joined_components old.current in
    let setup : Option AttributesSetup = setup_of_held_attributes old.attributes in
    let setup_is : setup_of_held_attributes after.attributes ≡ setup = c.push_attributes_of_current.ensures.setup ∙ ap (λ (m : StackModel). setup_of_held_attributes m.attributes) c.count_pushed_directory.ensures in
    let many : HasListsAppended (number_of_lists_of_directory setup d) (held_attribute_lists old.attributes) (held_attribute_lists after.attributes) =
    subst (λ (m : StackModel). HasListsAppended (number_of_lists_of_directory (setup_of_held_attributes m.attributes) (slash_joined_components m.current)) (held_attribute_lists m.attributes) (held_attribute_lists after.attributes)) c.count_pushed_directory.ensures c.in_ok-push_attributes_of_current.ensures.many in
    let held : new.attributes ≡ after.attributes = search rules in
    let kept : after.ignore ≡ old.ignore = search rules in
    let current_is : after.current ≡ old.current = search rules in (
      lists-level old.attributes new.attributes setup old.current refl (ap setup_of_held_attributes held ∙ setup_is)
          (subst (λ (h : Option HeldAttributeLists). HasListsAppended (number_of_lists_of_directory setup d) (held_attribute_lists old.attributes) (held_attribute_lists h)) (sym held) many) level.0,
      level-bridge old after new.ignore current_is kept c.in_default.ensures.levels level.1,
    )

pub returns-in_err-push_attributes_of_current-clause-pushes : goal.returns-in_err-push_attributes_of_current-clause-pushes
returns-in_err-push_attributes_of_current-clause-pushes g c =
    let told = g.W.Worktree.told c.args.worktree.now in
    let holds = g.F.Find.holds c.args.objects.now in
    let old : StackModel = c.args.self.now in
    let new : Option HeldAttributeLists = c.push_attributes_of_current.new.self.attributes in
    let e : AtPathError = c.in_err-push_attributes_of_current.field-0.0 in
    let said : IsErrAnd c.from_residual.result (λ x. x ≡ e) = search rules in
    record {
      lists = λ s tells. no-answer _ c.from_residual.result e said;
      held = search rules;
      held_lists = search rules;
      sees =
          subst (λ (r : Result (Unit {0}) AtPathError). AppendsReadNamesAsSeen told holds (λ s. attribute_names_of_directory (setup_of_stack old) s old.current) old.attributes new r) (sym (is_err c.from_residual.result e said))
          (subst (λ (m : StackModel). AppendsReadNamesAsSeen {T = Unit {0}} told holds (λ s. attribute_names_of_directory (setup_of_stack m) s m.current) m.attributes new (Err e)) c.count_pushed_directory.ensures c.in_err-push_attributes_of_current.ensures.names);
    }

pub returns-in-Err-clause-pushes : goal.returns-in-Err-clause-pushes
returns-in-Err-clause-pushes g c =
    let told = g.W.Worktree.told c.args.worktree.now in
    let holds = g.F.Find.holds c.args.objects.now in
    let old : StackModel = c.args.self.now in
    let after : StackModel = c.push_attributes_of_current.new.self in
    let d : List ℕ = slash_joined_components old.current in
    let setup : Option AttributesSetup = setup_of_held_attributes old.attributes in
    let setup_is : setup_of_held_attributes after.attributes ≡ setup = c.push_attributes_of_current.ensures.setup ∙ ap (λ (m : StackModel). setup_of_held_attributes m.attributes) c.count_pushed_directory.ensures in
    let many : HasListsAppended (number_of_lists_of_directory setup d) (held_attribute_lists old.attributes) (held_attribute_lists after.attributes) =
    subst (λ (m : StackModel). HasListsAppended (number_of_lists_of_directory (setup_of_held_attributes m.attributes) (slash_joined_components m.current)) (held_attribute_lists m.attributes) (held_attribute_lists after.attributes)) c.count_pushed_directory.ensures c.in_ok-push_attributes_of_current.ensures.many in
    let held : held_attributes_of_state c.self.inside.state ≡ after.attributes = search rules in
    let dir_is : c.current_relative-directory.result.now ≡ d = search rules in
    let popped : held_attributes_of_state c.pop_attributes_of_directory.new.self ≡ held_without_lists_of_directory d after.attributes =
    c.pop_attributes_of_directory.ensures.attributes ∙ ap (λ (x : List ℕ). held_without_lists_of_directory x (held_attributes_of_state c.self.inside.state)) dir_is ∙ ap (held_without_lists_of_directory d) held in
    let lists : held_attribute_lists (held_attributes_of_state c.pop_attributes_of_directory.new.self) ≡ held_attribute_lists old.attributes = ap held_attribute_lists popped ∙ all-dropped after.attributes setup d (held_attribute_lists old.attributes) (held_attribute_lists after.attributes) setup_is refl many in
    record {
      lists = λ s tells. tt;
      held = search rules;
      held_lists = lists;
      sees =
          sees-undone told holds _ old.attributes after.attributes (held_attributes_of_state c.pop_attributes_of_directory.new.self) c.in-Err.refused
          (sees-before told holds _ old.attributes after.attributes c.in-Err.refused
          (subst (λ (m : StackModel). AppendsReadNamesAsSeen {T = Unit {0}} told holds (λ s. attribute_names_of_directory (setup_of_stack m) s m.current) m.attributes after.attributes (Ok tt)) c.count_pushed_directory.ensures c.in_ok-push_attributes_of_current.ensures.names))
          (ap seen_attribute_names popped ∙ names-popped d after.attributes) lists;
    }

pub returns-clause-pushes : goal.returns-clause-pushes
returns-clause-pushes g c =
    let told = g.W.Worktree.told c.args.worktree.now in
    let holds = g.F.Find.holds c.args.objects.now in
    let old : StackModel = c.args.self.now in
    let after : StackModel = c.push_attributes_of_current.new.self in
    let held : c.push_ignore_rules_of_current.new.self.attributes ≡ after.attributes = search rules in
    let reads : AnswersReadings {T = Unit {0}} g.W.Worktree g.F.Find c.args.worktree.now c.push_ignore_rules_of_current.new.worktree c.args.objects.now c.push_ignore_rules_of_current.new.objects (readings_of_directory (setup_of_stack old) (slash_joined_components old.current)) old.statistics c.push_ignore_rules_of_current.new.self.statistics (Ok tt) = returns-clause-reads g c in
    record {
      lists = λ s tells.
          let lists : held_attribute_lists after.attributes ≡ held_attribute_lists old.attributes ++ attribute_lists_of_directory (setup_of_stack old) s old.current =
          subst (λ (m : StackModel). held_attribute_lists after.attributes ≡ held_attribute_lists m.attributes ++ attribute_lists_of_directory (setup_of_stack m) s m.current) c.count_pushed_directory.ensures (c.in_ok-push_attributes_of_current.ensures.lists s tells) in
          record { is_read = read-as (setup_of_stack old) s (slash_joined_components old.current) (reads.read s tells); lists = ap held_attribute_lists held ∙ lists };
      held = tt;
      held_lists = tt;
      sees =
          subst (λ (h : Option HeldAttributeLists). AppendsReadNamesAsSeen {T = Unit {0}} told holds (λ s. attribute_names_of_directory (setup_of_stack old) s old.current) old.attributes h (Ok tt)) (sym held)
          (subst (λ (m : StackModel). AppendsReadNamesAsSeen {T = Unit {0}} told holds (λ s. attribute_names_of_directory (setup_of_stack m) s m.current) m.attributes after.attributes (Ok tt)) c.count_pushed_directory.ensures c.in_ok-push_attributes_of_current.ensures.names);
    }
