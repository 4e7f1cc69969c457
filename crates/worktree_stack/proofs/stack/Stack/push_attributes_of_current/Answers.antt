-- A directory's own file is read, and then the info file; where that is refused the list is popped again.
use Rattle.std.proofs.Common.{◌≡◌, ◌∙◌, ◌++◌, ℕ, List, Option, Result, Ok, Err, refl, sym, ap, subst, rules}
use Rattle.std.specs.Prelude.{IsErrAnd}
use Rattle.worktree_fs.specs.Paths.{slash_joined_components}
use Rattle.worktree_stack.specs.declared.error.AtPathError.{AtPathError}
use Rattle.worktree_stack.specs.declared.statistics.Statistics.{Statistics}
use Rattle.worktree_stack.specs.Placed.{AnswersReadings}
use Rattle.worktree_stack.specs.Reading.{RulesReading, gitattributes_readings_of_directory, info_file_readings_of_setup}
use Rattle.worktree_stack.specs.Setup.{AttributesSetup, StackSetup, setup_of_held_attributes}
use Rattle.worktree_stack.specs.SeenNames.{AppendsReadNamesAsSeen, info_file_names_of_setup, attribute_names_of_setup, gitattributes_names_of_setup}
use Rattle.worktree_stack.specs.Stacked.{StackModel, setup_of_stack}
use Rattle.worktree_stack.specs.Setup.{HeldAttributeLists, HasListsAppended, held_attribute_lists, seen_attribute_names, held_without_highest_list}
use Rattle.worktree_stack.specs.Stacked.{number_of_gitattributes_lists, number_of_info_lists_of_setup, held_attributes_of_state}
use Rattle.worktree_stack.proofs.Refusals.{is_err}
use Rattle.worktree_stack.proofs.Rules.Readings.{reads-cut, reads-then}
use Rattle.worktree_stack.proofs.Rules.Pushing.{info-same, own-dropped, longer-then}
use Rattle.worktree_stack.proofs.Lookup.Seeing.{names-dropped, sees-both, sees-front, sees-undone}
use Rattle.worktree_stack.proofs.stack.Stack.push_attributes_of_current.Goals as goal

pub returns-in_err-push_gitattributes_of_current-clause-reads : goal.returns-in_err-push_gitattributes_of_current-clause-reads
returns-in_err-push_gitattributes_of_current-clause-reads g c =
    let W = g.W.Worktree in
    let F = g.F.Find in
    let made : StackSetup = setup_of_stack c.args.self.now in
    let d : List ℕ = slash_joined_components c.args.self.now.current in
    let e : AtPathError = c.in_err-push_gitattributes_of_current.field-0.0 in
    let said : IsErrAnd c.from_residual.result (λ x. x ≡ e) = search rules in
    subst (λ (r : Result (Unit {0}) AtPathError). AnswersReadings W F c.args.worktree.now c.push_gitattributes_of_current.new.worktree c.args.objects.now c.push_gitattributes_of_current.new.objects
    (gitattributes_readings_of_directory made made.attributes d ++ info_file_readings_of_setup made.attributes d) c.args.self.now.statistics c.push_gitattributes_of_current.new.self.statistics r) (sym (is_err c.from_residual.result e said))
    (reads-cut W F c.args.worktree.now c.push_gitattributes_of_current.new.worktree c.args.objects.now c.push_gitattributes_of_current.new.objects (gitattributes_readings_of_directory made made.attributes d) (info_file_readings_of_setup made.attributes d)
    c.args.self.now.statistics c.push_gitattributes_of_current.new.self.statistics e
    (subst (λ (r : Result (Unit {0}) AtPathError). AnswersReadings W F c.args.worktree.now c.push_gitattributes_of_current.new.worktree c.args.objects.now c.push_gitattributes_of_current.new.objects
    (gitattributes_readings_of_directory made made.attributes d) c.args.self.now.statistics c.push_gitattributes_of_current.new.self.statistics r) c.in_err-push_gitattributes_of_current.was c.push_gitattributes_of_current.ensures.reads))

pub returns-in-Err-clause-held : goal.returns-in-Err-clause-held
returns-in-Err-clause-held g c =
    let mid : Option HeldAttributeLists = c.push_info_attributes_at_root.new.self.attributes in
    let held : held_attributes_of_state c.self.inside.state ≡ mid = search rules in
    ap held_attribute_lists (c.pop_list.ensures.attributes ∙ ap held_without_highest_list held)
    ∙ own-dropped mid (setup_of_held_attributes c.args.self.now.attributes) (held_attribute_lists c.args.self.now.attributes) (held_attribute_lists c.push_gitattributes_of_current.new.self.attributes)
    (c.push_info_attributes_at_root.ensures.setup ∙ c.push_gitattributes_of_current.ensures.setup) c.in-Err.ensures.held c.in_ok-push_gitattributes_of_current.ensures.many

pub returns-in-Err-clause-reads : goal.returns-in-Err-clause-reads
returns-in-Err-clause-reads g c =
    let W = g.W.Worktree in
    let F = g.F.Find in
    let made : StackSetup = setup_of_stack c.args.self.now in
    let d : List ℕ = slash_joined_components c.args.self.now.current in
    let own : List RulesReading = gitattributes_readings_of_directory made made.attributes d in
    let info : List RulesReading = info_file_readings_of_setup made.attributes d in
    let info_is : info_file_readings_of_setup (setup_of_held_attributes c.push_gitattributes_of_current.new.self.attributes) (slash_joined_components c.push_gitattributes_of_current.new.self.current) ≡ info =
    info-same made.attributes (setup_of_held_attributes c.push_gitattributes_of_current.new.self.attributes) c.args.self.now.current c.push_gitattributes_of_current.new.self.current c.push_gitattributes_of_current.ensures.setup (search rules) in
    let counted : c.self.inside.statistics ≡ c.push_info_attributes_at_root.new.self.statistics = search rules in
    subst (λ (x : Statistics). AnswersReadings {T = Unit {0}} W F c.args.worktree.now c.push_info_attributes_at_root.new.worktree c.args.objects.now c.push_info_attributes_at_root.new.objects (own ++ info) c.args.self.now.statistics x (Err c.in-Err.refused)) (sym counted)
    (reads-then W F c.args.worktree.now c.push_gitattributes_of_current.new.worktree c.push_info_attributes_at_root.new.worktree c.args.objects.now c.push_gitattributes_of_current.new.objects c.push_info_attributes_at_root.new.objects own info
    c.args.self.now.statistics c.push_gitattributes_of_current.new.self.statistics c.push_info_attributes_at_root.new.self.statistics tt c.in_ok-push_gitattributes_of_current.ensures.reads (Err c.in-Err.refused)
    (subst (λ (rs : List RulesReading). AnswersReadings {T = Unit {0}} W F c.push_gitattributes_of_current.new.worktree c.push_info_attributes_at_root.new.worktree c.push_gitattributes_of_current.new.objects c.push_info_attributes_at_root.new.objects rs c.push_gitattributes_of_current.new.self.statistics c.push_info_attributes_at_root.new.self.statistics (Err c.in-Err.refused)) info_is c.in-Err.ensures.reads))

pub returns-clause-reads : goal.returns-clause-reads
returns-clause-reads g c =
    let W = g.W.Worktree in
    let F = g.F.Find in
    let made : StackSetup = setup_of_stack c.args.self.now in
    let d : List ℕ = slash_joined_components c.args.self.now.current in
    let own : List RulesReading = gitattributes_readings_of_directory made made.attributes d in
    let info : List RulesReading = info_file_readings_of_setup made.attributes d in
    let info_is : info_file_readings_of_setup (setup_of_held_attributes c.push_gitattributes_of_current.new.self.attributes) (slash_joined_components c.push_gitattributes_of_current.new.self.current) ≡ info =
    info-same made.attributes (setup_of_held_attributes c.push_gitattributes_of_current.new.self.attributes) c.args.self.now.current c.push_gitattributes_of_current.new.self.current c.push_gitattributes_of_current.ensures.setup (search rules) in
    reads-then W F c.args.worktree.now c.push_gitattributes_of_current.new.worktree c.push_info_attributes_at_root.new.worktree c.args.objects.now c.push_gitattributes_of_current.new.objects c.push_info_attributes_at_root.new.objects own info
    c.args.self.now.statistics c.push_gitattributes_of_current.new.self.statistics c.push_info_attributes_at_root.new.self.statistics tt c.in_ok-push_gitattributes_of_current.ensures.reads (Ok tt)
    (subst (λ (rs : List RulesReading). AnswersReadings {T = Unit {0}} W F c.push_gitattributes_of_current.new.worktree c.push_info_attributes_at_root.new.worktree c.push_gitattributes_of_current.new.objects c.push_info_attributes_at_root.new.objects rs c.push_gitattributes_of_current.new.self.statistics c.push_info_attributes_at_root.new.self.statistics (Ok tt)) info_is c.in_default.ensures.reads)

pub returns-clause-many : goal.returns-clause-many
returns-clause-many g c =
    let setup : Option AttributesSetup = setup_of_held_attributes c.args.self.now.attributes in
    let d : List ℕ = slash_joined_components c.args.self.now.current in
    let setup_is : setup_of_held_attributes c.push_gitattributes_of_current.new.self.attributes ≡ setup = c.push_gitattributes_of_current.ensures.setup in
    let dir_is : slash_joined_components c.push_gitattributes_of_current.new.self.current ≡ d = search rules in
    longer-then (number_of_gitattributes_lists setup) (number_of_info_lists_of_setup setup d) (held_attribute_lists c.args.self.now.attributes) (held_attribute_lists c.push_gitattributes_of_current.new.self.attributes) (held_attribute_lists c.push_info_attributes_at_root.new.self.attributes) c.in_ok-push_gitattributes_of_current.ensures.many
    (subst (λ (x : Option AttributesSetup). HasListsAppended (number_of_info_lists_of_setup x d) (held_attribute_lists c.push_gitattributes_of_current.new.self.attributes) (held_attribute_lists c.push_info_attributes_at_root.new.self.attributes)) setup_is
    (subst (λ (x : List ℕ). HasListsAppended (number_of_info_lists_of_setup (setup_of_held_attributes c.push_gitattributes_of_current.new.self.attributes) x) (held_attribute_lists c.push_gitattributes_of_current.new.self.attributes) (held_attribute_lists c.push_info_attributes_at_root.new.self.attributes)) dir_is c.in_default.ensures.many))

pub returns-in_err-push_gitattributes_of_current-clause-names : goal.returns-in_err-push_gitattributes_of_current-clause-names
returns-in_err-push_gitattributes_of_current-clause-names g c =
    let made : StackSetup = setup_of_stack c.args.self.now in
    let d : List ℕ = slash_joined_components c.args.self.now.current in
    let told = g.W.Worktree.told c.args.worktree.now in
    let holds = g.F.Find.holds c.args.objects.now in
    let e : AtPathError = c.in_err-push_gitattributes_of_current.field-0.0 in
    let said : IsErrAnd c.from_residual.result (λ x. x ≡ e) = search rules in
    subst (λ (r : Result (Unit {0}) AtPathError). AppendsReadNamesAsSeen told holds (λ s. attribute_names_of_setup made made.attributes s d) c.args.self.now.attributes c.push_gitattributes_of_current.new.self.attributes r) (sym (is_err c.from_residual.result e said))
    (sees-front told holds (λ s. gitattributes_names_of_setup made made.attributes s d) c.args.self.now.attributes c.push_gitattributes_of_current.new.self.attributes (λ s. attribute_names_of_setup made made.attributes s d) e c.in_err-push_gitattributes_of_current.ensures.names
    (λ s tells. (info_file_names_of_setup made.attributes s d, refl)))

pub returns-in-Err-clause-names : goal.returns-in-Err-clause-names
returns-in-Err-clause-names g c =
    let W = g.W.Worktree in
    let F = g.F.Find in
    let old : StackModel = c.args.self.now in
    let mid : StackModel = c.push_gitattributes_of_current.new.self in
    let after : Option HeldAttributeLists = c.push_info_attributes_at_root.new.self.attributes in
    let held : held_attributes_of_state c.self.inside.state ≡ after = search rules in
    let lists : held_attribute_lists (held_attributes_of_state c.pop_list.new.self) ≡ held_attribute_lists old.attributes =
    ap held_attribute_lists (c.pop_list.ensures.attributes ∙ ap held_without_highest_list held)
    ∙ own-dropped after (setup_of_held_attributes old.attributes) (held_attribute_lists old.attributes) (held_attribute_lists mid.attributes)
    (c.push_info_attributes_at_root.ensures.setup ∙ c.push_gitattributes_of_current.ensures.setup) c.in-Err.ensures.held c.in_ok-push_gitattributes_of_current.ensures.many in
    sees-undone (W.told c.args.worktree.now) (F.holds c.args.objects.now) _ old.attributes after (held_attributes_of_state c.pop_list.new.self) c.in-Err.refused
    (sees-both (W.told c.args.worktree.now) (W.told c.push_gitattributes_of_current.new.worktree) (F.holds c.args.objects.now) (F.holds c.push_gitattributes_of_current.new.objects) (setup_of_stack old) old mid after (Err c.in-Err.refused) c.push_gitattributes_of_current.ensures.reads.leaves.tree c.push_gitattributes_of_current.ensures.reads.leaves_store.holds
    c.push_gitattributes_of_current.ensures.setup (search rules) c.in_ok-push_gitattributes_of_current.ensures.names c.in-Err.ensures.names)
    (ap seen_attribute_names (c.pop_list.ensures.attributes ∙ ap held_without_highest_list held) ∙ names-dropped after) lists

pub returns-clause-names : goal.returns-clause-names
returns-clause-names g c =
    let W = g.W.Worktree in
    let F = g.F.Find in
    let old : StackModel = c.args.self.now in
    let mid : StackModel = c.push_gitattributes_of_current.new.self in
    sees-both (W.told c.args.worktree.now) (W.told c.push_gitattributes_of_current.new.worktree) (F.holds c.args.objects.now) (F.holds c.push_gitattributes_of_current.new.objects) (setup_of_stack old) old mid c.push_info_attributes_at_root.new.self.attributes (Ok tt) c.push_gitattributes_of_current.ensures.reads.leaves.tree c.push_gitattributes_of_current.ensures.reads.leaves_store.holds
    c.push_gitattributes_of_current.ensures.setup (search rules) c.in_ok-push_gitattributes_of_current.ensures.names c.in_default.ensures.names
