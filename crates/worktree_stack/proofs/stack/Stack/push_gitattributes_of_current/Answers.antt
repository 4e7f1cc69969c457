use Rattle.std.proofs.Common.{◌≡◌, ◌∙◌, ◌∷◌, [], ℕ, List, Option, Some, None, Result, Ok, refl, ap, subst, rules}
use Rattle.std.specs.Prelude.{IsErrAnd}
use Rattle.worktree_fs.specs.Paths.{slash_joined_components}
use Rattle.worktree_stack.specs.declared.error.AtPathError.{AtPathError}
use Rattle.worktree_stack.specs.declared.error.AtPathError.TheVariants as errors
use Rattle.worktree_stack.specs.declared.statistics.Statistics.{Statistics}
use Rattle.worktree_stack.specs.Placed.{AnswersReadings}
use Rattle.worktree_stack.specs.Reading.{RulesText, bytes_of_rules_text, attribute_list_of_text, RulesReading, of_attributes, rules_text_if_found, places_by_read_order, gitattributes_readings_of_directory, attribute_places_of_directory}
use Rattle.worktree_stack.specs.Setup.{AttributesSetup, HeldAttributeLists, StackSetup, gitattributes_file_name, setup_of_held_attributes, held_attribute_lists, seen_attribute_names, push_list, blob_id_mapped_to_path}
use Rattle.worktree_stack.specs.SeenNames.{attribute_names_of_text, gitattributes_names_of_setup}
use Rattle.worktree_stack.specs.Stacked.{setup_of_stack, number_of_gitattributes_lists, held_attributes_of_state}
use Rattle.glob_rules.specs.AttributeLines.{lines}
use Rattle.glob_rules.specs.AttributeNames.{AddsSomeFirstNames, attribute_names_of_lines}
use Rattle.glob_rules.specs.Attributes.{AttributeList}
use Rattle.gitbase_core.specs.Path.{path_joined_with_slash}
use Rattle.worktree_fs.specs.Paths.{root_joined_with_relative}
use Rattle.worktree_stack.proofs.Rules.Readings.{reads-unread, reads-lost, only-attributes}
use Rattle.worktree_stack.proofs.Rules.Pushing.{attribute-placed, own-some, own-listed, reads-as, reads-done, reads-placed, longer-none, longer-one}
use Rattle.worktree_stack.proofs.Lookup.Seeing.{own-named, sees-nothing, sees-refused, sees-some, sees-text}
use Rattle.worktree_stack.proofs.stack.Stack.push_gitattributes_of_current.Goals as goal

pub returns-in_err-set_rules_and_whole_paths-clause-reads : goal.returns-in_err-set_rules_and_whole_paths-clause-reads
returns-in_err-set_rules_and_whole_paths-clause-reads g c =
    let W = g.W.Worktree in
    let F = g.F.Find in
    let made : StackSetup = setup_of_stack c.args.self.now in
    let setup : AttributesSetup = c.in-Some.attributes.now.setup in
    let held_is : c.args.self.now.attributes ≡ Some c.in-Some.attributes.now = search rules in
    let setup_is : made.attributes ≡ Some setup = ap setup_of_held_attributes held_is in
    let d : List ℕ = slash_joined_components c.args.self.now.current in
    let s0 : Statistics = c.args.self.now.statistics in
    let s : Statistics = c.self.inside.statistics in
    let same : s ≡ s0 = search rules in
    let readings : List RulesReading = gitattributes_readings_of_directory made made.attributes d in
    let readings_are : readings ≡ record { kind = of_attributes; places = attribute_places_of_directory made setup d } ∷ [] = own-some made setup d made.attributes setup_is in
    let memory : IsErrAnd c.from_residual.result (λ x. x ≡ errors.OutOfMemory) = search rules in
    reads-unread W F c.args.worktree.now c.args.objects.now readings [] (record { kind = of_attributes; places = attribute_places_of_directory made setup d }) s0 s c.from_residual.result memory readings_are same

pub returns-in_err-source-clause-reads : goal.returns-in_err-source-clause-reads
returns-in_err-source-clause-reads g c =
    let W = g.W.Worktree in
    let F = g.F.Find in
    let made : StackSetup = setup_of_stack c.args.self.now in
    let setup : AttributesSetup = c.in-Some.attributes.now.setup in
    let held_is : c.args.self.now.attributes ≡ Some c.in-Some.attributes.now = search rules in
    let setup_is : made.attributes ≡ Some setup = ap setup_of_held_attributes held_is in
    let d : List ℕ = slash_joined_components c.args.self.now.current in
    let s0 : Statistics = c.args.self.now.statistics in
    let s : Statistics = c.self.inside.statistics in
    let same : s ≡ s0 = search rules in
    let readings : List RulesReading = gitattributes_readings_of_directory made made.attributes d in
    let readings_are : readings ≡ record { kind = of_attributes; places = attribute_places_of_directory made setup d } ∷ [] = own-some made setup d made.attributes setup_is in
    let s1 : Statistics = record s { attributes = c.read_first_text_in_order.new.statistics } in
    let path : List ℕ = c.as_bytes-path.result.now in
    let whole : List ℕ = c.as_bytes.result.now in
    let whole_is : whole ≡ root_joined_with_relative made.root (path_joined_with_slash d gitattributes_file_name) = search rules in
    let path_is : path ≡ path_joined_with_slash d gitattributes_file_name = search rules in
    let mapped_is : c.blob_id_of_path.result ≡ blob_id_mapped_to_path made.mappings path = search rules in
    let places_are : places_by_read_order c.attributes_read_order-order.result whole path ≡ attribute_places_of_directory made setup d =
    c.attributes_read_order-order.ensures whole path ∙ attribute-placed made d whole path c.blob_id_of_path.result setup c.source.result c.source.ensures whole_is path_is mapped_is in
    let all : AnswersReadings W F c.args.worktree.now c.read_first_text_in_order.new.worktree c.args.objects.now c.read_first_text_in_order.new.objects readings s0 s1 c.read_first_text_in_order.result =
    reads-placed W F c.args.worktree.now c.read_first_text_in_order.new.worktree c.args.objects.now c.read_first_text_in_order.new.objects of_attributes (places_by_read_order c.attributes_read_order-order.result whole path) (attribute_places_of_directory made setup d) readings s0 s s1
    (λ source. rules_text_if_found source c.read_first_text_in_order.new.buffer) c.read_first_text_in_order.result (only-attributes s s1 refl) same places_are readings_are
    c.read_first_text_in_order.ensures.text c.read_first_text_in_order.ensures.refused c.read_first_text_in_order.ensures.counted c.read_first_text_in_order.ensures.tried c.read_first_text_in_order.ensures.untouched c.read_first_text_in_order.ensures.store_untouched c.read_first_text_in_order.ensures.leaves c.read_first_text_in_order.ensures.leaves_store c.read_first_text_in_order.ensures.reads in
    let e : AtPathError = c.in_err-source.field-0.0 in
    let said : IsErrAnd c.from_residual-in_err-source.result (λ x. x ≡ e) = search rules in
    reads-as W F c.args.worktree.now c.read_first_text_in_order.new.worktree c.args.objects.now c.read_first_text_in_order.new.objects readings s0 s1 c.read_first_text_in_order.result e c.from_residual-in_err-source.result c.in_err-source.was said all

pub returns-in_err-push_list_of_read_attributes-clause-reads : goal.returns-in_err-push_list_of_read_attributes-clause-reads
returns-in_err-push_list_of_read_attributes-clause-reads g c =
    let W = g.W.Worktree in
    let F = g.F.Find in
    let made : StackSetup = setup_of_stack c.args.self.now in
    let setup : AttributesSetup = c.in-Some.attributes.now.setup in
    let held_is : c.args.self.now.attributes ≡ Some c.in-Some.attributes.now = search rules in
    let setup_is : made.attributes ≡ Some setup = ap setup_of_held_attributes held_is in
    let d : List ℕ = slash_joined_components c.args.self.now.current in
    let s0 : Statistics = c.args.self.now.statistics in
    let s : Statistics = c.self.inside.statistics in
    let same : s ≡ s0 = search rules in
    let readings : List RulesReading = gitattributes_readings_of_directory made made.attributes d in
    let readings_are : readings ≡ record { kind = of_attributes; places = attribute_places_of_directory made setup d } ∷ [] = own-some made setup d made.attributes setup_is in
    let s1 : Statistics = record s { attributes = c.read_first_text_in_order.new.statistics } in
    let path : List ℕ = c.as_bytes-path.result.now in
    let whole : List ℕ = c.as_bytes.result.now in
    let whole_is : whole ≡ root_joined_with_relative made.root (path_joined_with_slash d gitattributes_file_name) = search rules in
    let path_is : path ≡ path_joined_with_slash d gitattributes_file_name = search rules in
    let mapped_is : c.blob_id_of_path.result ≡ blob_id_mapped_to_path made.mappings path = search rules in
    let places_are : places_by_read_order c.attributes_read_order-order.result whole path ≡ attribute_places_of_directory made setup d =
    c.attributes_read_order-order.ensures whole path ∙ attribute-placed made d whole path c.blob_id_of_path.result setup c.source.result c.source.ensures whole_is path_is mapped_is in
    let all : AnswersReadings W F c.args.worktree.now c.read_first_text_in_order.new.worktree c.args.objects.now c.read_first_text_in_order.new.objects readings s0 s1 c.read_first_text_in_order.result =
    reads-placed W F c.args.worktree.now c.read_first_text_in_order.new.worktree c.args.objects.now c.read_first_text_in_order.new.objects of_attributes (places_by_read_order c.attributes_read_order-order.result whole path) (attribute_places_of_directory made setup d) readings s0 s s1
    (λ source. rules_text_if_found source c.read_first_text_in_order.new.buffer) c.read_first_text_in_order.result (only-attributes s s1 refl) same places_are readings_are
    c.read_first_text_in_order.ensures.text c.read_first_text_in_order.ensures.refused c.read_first_text_in_order.ensures.counted c.read_first_text_in_order.ensures.tried c.read_first_text_in_order.ensures.untouched c.read_first_text_in_order.ensures.store_untouched c.read_first_text_in_order.ensures.leaves c.read_first_text_in_order.ensures.leaves_store c.read_first_text_in_order.ensures.reads in
    let memory : IsErrAnd c.from_residual-in_err-push_list_of_read_attributes.result (λ x. x ≡ errors.OutOfMemory) = search rules in
    let v : Option (List ℕ) = c.in_ok-source.source in
    reads-lost W F c.args.worktree.now c.read_first_text_in_order.new.worktree c.args.objects.now c.read_first_text_in_order.new.objects readings (record { kind = of_attributes; places = attribute_places_of_directory made setup d }) s0 s1 v
    c.from_residual-in_err-push_list_of_read_attributes.result readings_are memory
    (subst (λ (r : Result (Option (List ℕ)) AtPathError). AnswersReadings W F c.args.worktree.now c.read_first_text_in_order.new.worktree c.args.objects.now c.read_first_text_in_order.new.objects readings s0 s1 r) c.in_ok-source.was all)

pub returns-clause-reads : goal.returns-clause-reads
returns-clause-reads g c =
    let W = g.W.Worktree in
    let F = g.F.Find in
    let made : StackSetup = setup_of_stack c.args.self.now in
    let setup : AttributesSetup = c.in-Some.attributes.now.setup in
    let held_is : c.args.self.now.attributes ≡ Some c.in-Some.attributes.now = search rules in
    let setup_is : made.attributes ≡ Some setup = ap setup_of_held_attributes held_is in
    let d : List ℕ = slash_joined_components c.args.self.now.current in
    let s0 : Statistics = c.args.self.now.statistics in
    let s : Statistics = c.self.inside.statistics in
    let same : s ≡ s0 = search rules in
    let readings : List RulesReading = gitattributes_readings_of_directory made made.attributes d in
    let readings_are : readings ≡ record { kind = of_attributes; places = attribute_places_of_directory made setup d } ∷ [] = own-some made setup d made.attributes setup_is in
    let s1 : Statistics = record s { attributes = c.read_first_text_in_order.new.statistics } in
    let path : List ℕ = c.as_bytes-path.result.now in
    let whole : List ℕ = c.as_bytes.result.now in
    let whole_is : whole ≡ root_joined_with_relative made.root (path_joined_with_slash d gitattributes_file_name) = search rules in
    let path_is : path ≡ path_joined_with_slash d gitattributes_file_name = search rules in
    let mapped_is : c.blob_id_of_path.result ≡ blob_id_mapped_to_path made.mappings path = search rules in
    let places_are : places_by_read_order c.attributes_read_order-order.result whole path ≡ attribute_places_of_directory made setup d =
    c.attributes_read_order-order.ensures whole path ∙ attribute-placed made d whole path c.blob_id_of_path.result setup c.source.result c.source.ensures whole_is path_is mapped_is in
    let all : AnswersReadings W F c.args.worktree.now c.read_first_text_in_order.new.worktree c.args.objects.now c.read_first_text_in_order.new.objects readings s0 s1 c.read_first_text_in_order.result =
    reads-placed W F c.args.worktree.now c.read_first_text_in_order.new.worktree c.args.objects.now c.read_first_text_in_order.new.objects of_attributes (places_by_read_order c.attributes_read_order-order.result whole path) (attribute_places_of_directory made setup d) readings s0 s s1
    (λ source. rules_text_if_found source c.read_first_text_in_order.new.buffer) c.read_first_text_in_order.result (only-attributes s s1 refl) same places_are readings_are
    c.read_first_text_in_order.ensures.text c.read_first_text_in_order.ensures.refused c.read_first_text_in_order.ensures.counted c.read_first_text_in_order.ensures.tried c.read_first_text_in_order.ensures.untouched c.read_first_text_in_order.ensures.store_untouched c.read_first_text_in_order.ensures.leaves c.read_first_text_in_order.ensures.leaves_store c.read_first_text_in_order.ensures.reads in
    reads-done W F c.args.worktree.now c.read_first_text_in_order.new.worktree c.args.objects.now c.read_first_text_in_order.new.objects readings s0 s1 c.read_first_text_in_order.result c.in_ok-source.source _ c.in_ok-source.was all

pub returns-clause-lists : goal.returns-clause-lists
returns-clause-lists g c s' tells =
    let W = g.W.Worktree in
    let F = g.F.Find in
    let made : StackSetup = setup_of_stack c.args.self.now in
    let setup : AttributesSetup = c.in-Some.attributes.now.setup in
    let held_is : c.args.self.now.attributes ≡ Some c.in-Some.attributes.now = search rules in
    let setup_is : made.attributes ≡ Some setup = ap setup_of_held_attributes held_is in
    let d : List ℕ = slash_joined_components c.args.self.now.current in
    let s0 : Statistics = c.args.self.now.statistics in
    let s : Statistics = c.self.inside.statistics in
    let same : s ≡ s0 = search rules in
    let readings : List RulesReading = gitattributes_readings_of_directory made made.attributes d in
    let readings_are : readings ≡ record { kind = of_attributes; places = attribute_places_of_directory made setup d } ∷ [] = own-some made setup d made.attributes setup_is in
    let path : List ℕ = c.as_bytes-path.result.now in
    let whole : List ℕ = c.as_bytes.result.now in
    let whole_is : whole ≡ root_joined_with_relative made.root (path_joined_with_slash d gitattributes_file_name) = search rules in
    let path_is : path ≡ path_joined_with_slash d gitattributes_file_name = search rules in
    let mapped_is : c.blob_id_of_path.result ≡ blob_id_mapped_to_path made.mappings path = search rules in
    let places_are : places_by_read_order c.attributes_read_order-order.result whole path ≡ attribute_places_of_directory made setup d =
    c.attributes_read_order-order.ensures whole path ∙ attribute-placed made d whole path c.blob_id_of_path.result setup c.source.result c.source.ensures whole_is path_is mapped_is in
    let dir : List ℕ = c.current_relative-directory.result.now in
    let text : Option RulesText = rules_text_if_found c.in_ok-source.source c.read_first_text_in_order.new.buffer in
    let list : AttributeList = attribute_list_of_text c.is_worktree_root.result dir text in
    let seen : List (List ℕ) = attribute_names_of_lines (lines c.is_worktree_root.result (bytes_of_rules_text text)) in
    let held : held_attributes_of_state c.self.inside.state ≡ c.args.self.now.attributes = search rules in
    let pushed : held_attributes_of_state c.push_list_of_read_attributes.new.state ≡ push_list list seen c.args.self.now.attributes = c.in_ok-push_list_of_read_attributes.ensures.pushed ∙ ap (push_list list seen) held in
    own-listed made setup s' d dir (places_by_read_order c.attributes_read_order-order.result whole path) text c.is_worktree_root.result c.args.self.now.attributes (held_attributes_of_state c.push_list_of_read_attributes.new.state) seen
    c.is_worktree_root.ensures (search rules) setup_is places_are (c.in_ok-source.ensures.text s' tells) pushed

pub returns-clause-many : goal.returns-clause-many
returns-clause-many g c =
    let setup : AttributesSetup = c.in-Some.attributes.now.setup in
    let held_is : c.args.self.now.attributes ≡ Some c.in-Some.attributes.now = search rules in
    let dir : List ℕ = c.current_relative-directory.result.now in
    let text : Option RulesText = rules_text_if_found c.in_ok-source.source c.read_first_text_in_order.new.buffer in
    let list : AttributeList = attribute_list_of_text c.is_worktree_root.result dir text in
    let seen : List (List ℕ) = attribute_names_of_lines (lines c.is_worktree_root.result (bytes_of_rules_text text)) in
    let held : held_attributes_of_state c.self.inside.state ≡ c.args.self.now.attributes = search rules in
    let pushed : held_attributes_of_state c.push_list_of_read_attributes.new.state ≡ push_list list seen c.args.self.now.attributes = c.in_ok-push_list_of_read_attributes.ensures.pushed ∙ ap (push_list list seen) held in
    longer-one c.args.self.now.attributes (held_attributes_of_state c.push_list_of_read_attributes.new.state) c.in-Some.attributes.now list seen _ held_is pushed (ap (λ (a : Option AttributesSetup). number_of_gitattributes_lists a) (ap setup_of_held_attributes held_is))

pub returns-in_default-clause-many : goal.returns-in_default-clause-many
returns-in_default-clause-many g c =
    let none : c.args.self.now.attributes ≡ None = search rules in
    longer-none c.args.self.now.attributes _ (ap (λ (h : Option HeldAttributeLists). number_of_gitattributes_lists (setup_of_held_attributes h)) none)

pub returns-in_default-clause-names : goal.returns-in_default-clause-names
returns-in_default-clause-names g c =
    let none : c.args.self.now.attributes ≡ None = search rules in
    sees-nothing (g.W.Worktree.told c.args.worktree.now) (g.F.Find.holds c.args.objects.now) _ c.args.self.now.attributes c.args.self.now.attributes (Ok tt) refl
    (λ s. ap (λ (h : Option HeldAttributeLists). gitattributes_names_of_setup (setup_of_stack c.args.self.now) (setup_of_held_attributes h) s (slash_joined_components c.args.self.now.current)) none)

pub returns-in_err-set_rules_and_whole_paths-clause-names : goal.returns-in_err-set_rules_and_whole_paths-clause-names
returns-in_err-set_rules_and_whole_paths-clause-names g c =
    let memory : IsErrAnd c.from_residual.result (λ x. x ≡ errors.OutOfMemory) = search rules in
    sees-refused (g.W.Worktree.told c.args.worktree.now) (g.F.Find.holds c.args.objects.now) _ c.args.self.now.attributes _ c.from_residual.result errors.OutOfMemory memory (search rules)

pub returns-in_err-source-clause-names : goal.returns-in_err-source-clause-names
returns-in_err-source-clause-names g c =
    let e : AtPathError = c.in_err-source.field-0.0 in
    let said : IsErrAnd c.from_residual-in_err-source.result (λ x. x ≡ e) = search rules in
    sees-refused (g.W.Worktree.told c.args.worktree.now) (g.F.Find.holds c.args.objects.now) _ c.args.self.now.attributes _ c.from_residual-in_err-source.result e said (search rules)

pub returns-in_err-push_list_of_read_attributes-clause-names : goal.returns-in_err-push_list_of_read_attributes-clause-names
returns-in_err-push_list_of_read_attributes-clause-names g c =
    let made : StackSetup = setup_of_stack c.args.self.now in
    let setup : AttributesSetup = c.in-Some.attributes.now.setup in
    let held_is : c.args.self.now.attributes ≡ Some c.in-Some.attributes.now = search rules in
    let setup_is : made.attributes ≡ Some setup = ap setup_of_held_attributes held_is in
    let d : List ℕ = slash_joined_components c.args.self.now.current in
    let path : List ℕ = c.as_bytes-path.result.now in
    let whole : List ℕ = c.as_bytes.result.now in
    let whole_is : whole ≡ root_joined_with_relative made.root (path_joined_with_slash d gitattributes_file_name) = search rules in
    let path_is : path ≡ path_joined_with_slash d gitattributes_file_name = search rules in
    let mapped_is : c.blob_id_of_path.result ≡ blob_id_mapped_to_path made.mappings path = search rules in
    let places_are : places_by_read_order c.attributes_read_order-order.result whole path ≡ attribute_places_of_directory made setup d =
    c.attributes_read_order-order.ensures whole path ∙ attribute-placed made d whole path c.blob_id_of_path.result setup c.source.result c.source.ensures whole_is path_is mapped_is in
    let dir : List ℕ = c.current_relative-directory.result.now in
    let dir_is : dir ≡ d = search rules in
    let text : Option RulesText = rules_text_if_found c.in_ok-source.source c.read_first_text_in_order.new.buffer in
    let held : held_attributes_of_state c.self.inside.state ≡ c.args.self.now.attributes = search rules in
    let memory : IsErrAnd c.from_residual-in_err-push_list_of_read_attributes.result (λ x. x ≡ errors.OutOfMemory) = search rules in
    sees-some (g.W.Worktree.told c.args.worktree.now) (g.F.Find.holds c.args.objects.now) _ c.args.self.now.attributes (held_attributes_of_state c.push_list_of_read_attributes.new.state) c.from_residual-in_err-push_list_of_read_attributes.result errors.OutOfMemory
    (attribute_names_of_text c.is_worktree_root.result text) memory (c.in_err-push_list_of_read_attributes.ensures.refused ∙ ap held_attribute_lists held)
    (subst (λ (h : Option HeldAttributeLists). AddsSomeFirstNames (seen_attribute_names h) (attribute_names_of_text c.is_worktree_root.result text) (seen_attribute_names (held_attributes_of_state c.push_list_of_read_attributes.new.state))) held c.in_err-push_list_of_read_attributes.ensures.seen)
    (λ s tells. own-named made setup s d dir (places_by_read_order c.attributes_read_order-order.result whole path) text c.is_worktree_root.result made.attributes c.is_worktree_root.ensures dir_is setup_is places_are (c.in_ok-source.ensures.text s tells))

pub returns-clause-names : goal.returns-clause-names
returns-clause-names g c =
    let made : StackSetup = setup_of_stack c.args.self.now in
    let setup : AttributesSetup = c.in-Some.attributes.now.setup in
    let held_is : c.args.self.now.attributes ≡ Some c.in-Some.attributes.now = search rules in
    let setup_is : made.attributes ≡ Some setup = ap setup_of_held_attributes held_is in
    let d : List ℕ = slash_joined_components c.args.self.now.current in
    let path : List ℕ = c.as_bytes-path.result.now in
    let whole : List ℕ = c.as_bytes.result.now in
    let whole_is : whole ≡ root_joined_with_relative made.root (path_joined_with_slash d gitattributes_file_name) = search rules in
    let path_is : path ≡ path_joined_with_slash d gitattributes_file_name = search rules in
    let mapped_is : c.blob_id_of_path.result ≡ blob_id_mapped_to_path made.mappings path = search rules in
    let places_are : places_by_read_order c.attributes_read_order-order.result whole path ≡ attribute_places_of_directory made setup d =
    c.attributes_read_order-order.ensures whole path ∙ attribute-placed made d whole path c.blob_id_of_path.result setup c.source.result c.source.ensures whole_is path_is mapped_is in
    let dir : List ℕ = c.current_relative-directory.result.now in
    let dir_is : dir ≡ d = search rules in
    let text : Option RulesText = rules_text_if_found c.in_ok-source.source c.read_first_text_in_order.new.buffer in
    let list : AttributeList = attribute_list_of_text c.is_worktree_root.result dir text in
    let seen : List (List ℕ) = attribute_names_of_text c.is_worktree_root.result text in
    let held : held_attributes_of_state c.self.inside.state ≡ c.args.self.now.attributes = search rules in
    let pushed : held_attributes_of_state c.push_list_of_read_attributes.new.state ≡ push_list list seen c.args.self.now.attributes = c.in_ok-push_list_of_read_attributes.ensures.pushed ∙ ap (push_list list seen) held in
    sees-text (g.W.Worktree.told c.args.worktree.now) (g.F.Find.holds c.args.objects.now) _ c.args.self.now.attributes (held_attributes_of_state c.push_list_of_read_attributes.new.state) c.in-Some.attributes.now c.is_worktree_root.result dir text held_is pushed
    (λ s tells. own-named made setup s d dir (places_by_read_order c.attributes_read_order-order.result whole path) text c.is_worktree_root.result made.attributes c.is_worktree_root.ensures dir_is setup_is places_are (c.in_ok-source.ensures.text s tells))
