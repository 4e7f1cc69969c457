-- One text is read, at the root alone, where there is an info file; its list is pushed.
use Rattle.std.proofs.Common.{◌≡◌, ◌∙◌, ◌∷◌, [], ℕ, List, Option, Some, Result, true, refl, ap, subst, rules}
use Rattle.std.specs.Prelude.{IsErrAnd}
use Rattle.worktree_fs.specs.Paths.{slash_joined_components}
use Rattle.worktree_stack.specs.declared.error.AtPathError.{AtPathError}
use Rattle.worktree_stack.specs.declared.error.AtPathError.TheVariants as errors
use Rattle.worktree_stack.specs.declared.statistics.Statistics.{Statistics}
use Rattle.worktree_stack.specs.Placed.{AnswersReadings}
use Rattle.worktree_stack.specs.Reading.{RulesText, attribute_list_of_text, RulesReading, of_attributes, rules_text_if_found, info_file_readings_of_setup, places_of_info_file}
use Rattle.worktree_stack.specs.SeenNames.{attribute_names_of_text}
use Rattle.worktree_stack.specs.Setup.{AttributesSetup, HeldAttributeLists, StackSetup, setup_of_held_attributes, held_attribute_lists, seen_attribute_names, push_list}
use Rattle.worktree_stack.specs.Stacked.{setup_of_stack, held_attributes_of_state}
use Rattle.glob_rules.specs.AttributeNames.{AddsSomeFirstNames}
use Rattle.glob_rules.specs.Attributes.{AttributeList}
use Rattle.worktree_stack.proofs.Rules.Readings.{reads-lost, only-attributes}
use Rattle.worktree_stack.proofs.Rules.Pushing.{info-some, empty-nil, reads-as, reads-placed}
use Rattle.worktree_stack.proofs.Lookup.Seeing.{info-named, sees-refused, sees-some, sees-text}
use Rattle.worktree_stack.proofs.stack.Stack.push_info_attributes_at_root.Goals as goal

pub returns-in_err-source-clause-reads : goal.returns-in_err-source-clause-reads
returns-in_err-source-clause-reads g c =
    let W = g.W.Worktree in
    let F = g.F.Find in
    let made : StackSetup = setup_of_stack c.args.self.now in
    let setup : AttributesSetup = c.in-Some.attributes.now.setup in
    let held_is : c.args.self.now.attributes ≡ Some c.in-Some.attributes.now = search rules in
    let setup_is : made.attributes ≡ Some setup = ap setup_of_held_attributes held_is in
    let d : List ℕ = slash_joined_components c.args.self.now.current in
    let s0 : Statistics = c.args.self.now.statistics in
    let s : Statistics = c.self.inside.statistics in
    let same : s ≡ s0 = search rules in
    let path : List ℕ = c.as_bytes-path.result.now in
    let info_is : setup.info ≡ Some path = search rules in
    let root : d ≡ [] = empty-nil d (search rules) in
    let readings : List RulesReading = info_file_readings_of_setup made.attributes d in
    let readings_are : readings ≡ record { kind = of_attributes; places = places_of_info_file path } ∷ [] = info-some setup d path made.attributes setup_is info_is root in
    let s1 : Statistics = record s { attributes = c.read_first_text_in_order.new.statistics } in
    let all : AnswersReadings W F c.args.worktree.now c.read_first_text_in_order.new.worktree c.args.objects.now c.read_first_text_in_order.new.objects readings s0 s1 c.read_first_text_in_order.result =
    reads-placed W F c.args.worktree.now c.read_first_text_in_order.new.worktree c.args.objects.now c.read_first_text_in_order.new.objects of_attributes (places_of_info_file path) (places_of_info_file path) readings s0 s s1
    (λ source. rules_text_if_found source c.read_first_text_in_order.new.buffer) c.read_first_text_in_order.result (only-attributes s s1 refl) same refl readings_are
    c.read_first_text_in_order.ensures.text c.read_first_text_in_order.ensures.refused c.read_first_text_in_order.ensures.counted c.read_first_text_in_order.ensures.tried c.read_first_text_in_order.ensures.untouched c.read_first_text_in_order.ensures.store_untouched c.read_first_text_in_order.ensures.leaves c.read_first_text_in_order.ensures.leaves_store c.read_first_text_in_order.ensures.reads in
    let e : AtPathError = c.in_err-source.field-0.0 in
    let said : IsErrAnd c.from_residual.result (λ x. x ≡ e) = search rules in
    reads-as W F c.args.worktree.now c.read_first_text_in_order.new.worktree c.args.objects.now c.read_first_text_in_order.new.objects readings s0 s1 c.read_first_text_in_order.result e c.from_residual.result c.in_err-source.was said all

pub returns-in_err-push_list_of_read_attributes-clause-reads : goal.returns-in_err-push_list_of_read_attributes-clause-reads
returns-in_err-push_list_of_read_attributes-clause-reads g c =
    let W = g.W.Worktree in
    let F = g.F.Find in
    let made : StackSetup = setup_of_stack c.args.self.now in
    let setup : AttributesSetup = c.in-Some.attributes.now.setup in
    let held_is : c.args.self.now.attributes ≡ Some c.in-Some.attributes.now = search rules in
    let setup_is : made.attributes ≡ Some setup = ap setup_of_held_attributes held_is in
    let d : List ℕ = slash_joined_components c.args.self.now.current in
    let s0 : Statistics = c.args.self.now.statistics in
    let s : Statistics = c.self.inside.statistics in
    let same : s ≡ s0 = search rules in
    let path : List ℕ = c.as_bytes-path.result.now in
    let info_is : setup.info ≡ Some path = search rules in
    let root : d ≡ [] = empty-nil d (search rules) in
    let readings : List RulesReading = info_file_readings_of_setup made.attributes d in
    let readings_are : readings ≡ record { kind = of_attributes; places = places_of_info_file path } ∷ [] = info-some setup d path made.attributes setup_is info_is root in
    let s1 : Statistics = record s { attributes = c.read_first_text_in_order.new.statistics } in
    let all : AnswersReadings W F c.args.worktree.now c.read_first_text_in_order.new.worktree c.args.objects.now c.read_first_text_in_order.new.objects readings s0 s1 c.read_first_text_in_order.result =
    reads-placed W F c.args.worktree.now c.read_first_text_in_order.new.worktree c.args.objects.now c.read_first_text_in_order.new.objects of_attributes (places_of_info_file path) (places_of_info_file path) readings s0 s s1
    (λ source. rules_text_if_found source c.read_first_text_in_order.new.buffer) c.read_first_text_in_order.result (only-attributes s s1 refl) same refl readings_are
    c.read_first_text_in_order.ensures.text c.read_first_text_in_order.ensures.refused c.read_first_text_in_order.ensures.counted c.read_first_text_in_order.ensures.tried c.read_first_text_in_order.ensures.untouched c.read_first_text_in_order.ensures.store_untouched c.read_first_text_in_order.ensures.leaves c.read_first_text_in_order.ensures.leaves_store c.read_first_text_in_order.ensures.reads in
    let memory : IsErrAnd c.from_residual-in_err-push_list_of_read_attributes.result (λ x. x ≡ errors.OutOfMemory) = search rules in
    let v : Option (List ℕ) = c.in_ok-source.source in
    reads-lost W F c.args.worktree.now c.read_first_text_in_order.new.worktree c.args.objects.now c.read_first_text_in_order.new.objects readings (record { kind = of_attributes; places = places_of_info_file path }) s0 s1 v
    c.from_residual-in_err-push_list_of_read_attributes.result readings_are memory
    (subst (λ (r : Result (Option (List ℕ)) AtPathError). AnswersReadings W F c.args.worktree.now c.read_first_text_in_order.new.worktree c.args.objects.now c.read_first_text_in_order.new.objects readings s0 s1 r) c.in_ok-source.was all)

pub returns-in_err-source-clause-names : goal.returns-in_err-source-clause-names
returns-in_err-source-clause-names g c =
    let e : AtPathError = c.in_err-source.field-0.0 in
    let said : IsErrAnd c.from_residual.result (λ x. x ≡ e) = search rules in
    sees-refused (g.W.Worktree.told c.args.worktree.now) (g.F.Find.holds c.args.objects.now) _ c.args.self.now.attributes _ c.from_residual.result e said (search rules)

pub returns-in_err-push_list_of_read_attributes-clause-names : goal.returns-in_err-push_list_of_read_attributes-clause-names
returns-in_err-push_list_of_read_attributes-clause-names g c =
    let made : StackSetup = setup_of_stack c.args.self.now in
    let setup : AttributesSetup = c.in-Some.attributes.now.setup in
    let held_is : c.args.self.now.attributes ≡ Some c.in-Some.attributes.now = search rules in
    let setup_is : made.attributes ≡ Some setup = ap setup_of_held_attributes held_is in
    let d : List ℕ = slash_joined_components c.args.self.now.current in
    let path : List ℕ = c.as_bytes-path.result.now in
    let info_is : setup.info ≡ Some path = search rules in
    let root : d ≡ [] = empty-nil d (search rules) in
    let text : Option RulesText = rules_text_if_found c.in_ok-source.source c.read_first_text_in_order.new.buffer in
    let held : held_attributes_of_state c.self.inside.state ≡ c.args.self.now.attributes = search rules in
    let memory : IsErrAnd c.from_residual-in_err-push_list_of_read_attributes.result (λ x. x ≡ errors.OutOfMemory) = search rules in
    sees-some (g.W.Worktree.told c.args.worktree.now) (g.F.Find.holds c.args.objects.now) _ c.args.self.now.attributes (held_attributes_of_state c.push_list_of_read_attributes.new.state) c.from_residual-in_err-push_list_of_read_attributes.result errors.OutOfMemory
    (attribute_names_of_text true text) memory (c.in_err-push_list_of_read_attributes.ensures.refused ∙ ap held_attribute_lists held)
    (subst (λ (h : Option HeldAttributeLists). AddsSomeFirstNames (seen_attribute_names h) (attribute_names_of_text true text) (seen_attribute_names (held_attributes_of_state c.push_list_of_read_attributes.new.state))) held c.in_err-push_list_of_read_attributes.ensures.seen)
    (λ s tells. info-named setup s d path text made.attributes setup_is info_is root (c.in_ok-source.ensures.text s tells))

pub returns-clause-names : goal.returns-clause-names
returns-clause-names g c =
    let made : StackSetup = setup_of_stack c.args.self.now in
    let setup : AttributesSetup = c.in-Some.attributes.now.setup in
    let held_is : c.args.self.now.attributes ≡ Some c.in-Some.attributes.now = search rules in
    let setup_is : made.attributes ≡ Some setup = ap setup_of_held_attributes held_is in
    let d : List ℕ = slash_joined_components c.args.self.now.current in
    let path : List ℕ = c.as_bytes-path.result.now in
    let info_is : setup.info ≡ Some path = search rules in
    let root : d ≡ [] = empty-nil d (search rules) in
    let dir : List ℕ = c.current_relative-directory.result.now in
    let text : Option RulesText = rules_text_if_found c.in_ok-source.source c.read_first_text_in_order.new.buffer in
    let list : AttributeList = attribute_list_of_text true dir text in
    let seen : List (List ℕ) = attribute_names_of_text true text in
    let held : held_attributes_of_state c.self.inside.state ≡ c.args.self.now.attributes = search rules in
    let pushed : held_attributes_of_state c.push_list_of_read_attributes.new.state ≡ push_list list seen c.args.self.now.attributes = c.in_ok-push_list_of_read_attributes.ensures.pushed ∙ ap (push_list list seen) held in
    sees-text (g.W.Worktree.told c.args.worktree.now) (g.F.Find.holds c.args.objects.now) _ c.args.self.now.attributes (held_attributes_of_state c.push_list_of_read_attributes.new.state) c.in-Some.attributes.now true dir text held_is pushed
    (λ s tells. info-named setup s d path text made.attributes setup_is info_is root (c.in_ok-source.ensures.text s tells))
