-- One text is read, where there is an exclude state; it is that of the ignore rules.
use Rattle.std.proofs.Common.{◌≡◌, ◌∙◌, ◌∷◌, [], ℕ, List, Option, Some, Result, refl, ap, subst, rules}
use Rattle.std.specs.Prelude.{IsErrAnd}
use Rattle.worktree_fs.specs.Paths.{slash_joined_components}
use Rattle.worktree_stack.specs.declared.error.AtPathError.{AtPathError}
use Rattle.worktree_stack.specs.declared.error.AtPathError.TheVariants as errors
use Rattle.worktree_stack.specs.declared.statistics.Statistics.{Statistics}
use Rattle.worktree_stack.specs.Placed.{AnswersReadings}
use Rattle.worktree_stack.specs.Reading.{RulesReading, of_ignore, rules_text_if_found, places_by_read_order, ignore_readings_of_directory, ignore_places_of_directory}
use Rattle.worktree_stack.specs.Setup.{Setup, StackSetup, setup_of_held_ignore_rules, blob_id_mapped_to_path}
use Rattle.worktree_stack.specs.Stacked.{setup_of_stack}
use Rattle.gitbase_core.specs.Path.{path_joined_with_slash}
use Rattle.worktree_fs.specs.Paths.{root_joined_with_relative}
use Rattle.worktree_stack.proofs.Rules.Readings.{reads-unread, reads-lost, only-ignore}
use Rattle.worktree_stack.proofs.Rules.Pushing.{ignore-placed, ignore-some, reads-as, reads-placed}
use Rattle.worktree_stack.proofs.stack.Stack.read_ignore_rules_of_current.Goals as goal

pub returns-in_err-set_rules_and_whole_paths-clause-reads : goal.returns-in_err-set_rules_and_whole_paths-clause-reads
returns-in_err-set_rules_and_whole_paths-clause-reads g c =
    let W = g.W.Worktree in
    let F = g.F.Find in
    let made : StackSetup = setup_of_stack c.args.self.now in
    let setup : Setup = c.in-Some.ignore.now.setup in
    let held_is : c.args.self.now.ignore ≡ Some c.in-Some.ignore.now = search rules in
    let setup_is : made.ignore ≡ Some setup = ap setup_of_held_ignore_rules held_is in
    let d : List ℕ = slash_joined_components c.args.self.now.current in
    let s0 : Statistics = c.args.self.now.statistics in
    let s : Statistics = c.self.inside.statistics in
    let same : s ≡ s0 = search rules in
    let readings : List RulesReading = ignore_readings_of_directory made made.ignore d in
    let readings_are : readings ≡ record { kind = of_ignore; places = ignore_places_of_directory made setup d } ∷ [] = ignore-some made setup d made.ignore setup_is in
    let memory : IsErrAnd c.from_residual.result (λ x. x ≡ errors.OutOfMemory) = search rules in
    reads-unread W F c.args.worktree.now c.args.objects.now readings [] (record { kind = of_ignore; places = ignore_places_of_directory made setup d }) s0 s c.from_residual.result memory readings_are same

pub returns-in_err-source-clause-reads : goal.returns-in_err-source-clause-reads
returns-in_err-source-clause-reads g c =
    let W = g.W.Worktree in
    let F = g.F.Find in
    let made : StackSetup = setup_of_stack c.args.self.now in
    let setup : Setup = c.in-Some.ignore.now.setup in
    let held_is : c.args.self.now.ignore ≡ Some c.in-Some.ignore.now = search rules in
    let setup_is : made.ignore ≡ Some setup = ap setup_of_held_ignore_rules held_is in
    let d : List ℕ = slash_joined_components c.args.self.now.current in
    let s0 : Statistics = c.args.self.now.statistics in
    let s : Statistics = c.self.inside.statistics in
    let same : s ≡ s0 = search rules in
    let readings : List RulesReading = ignore_readings_of_directory made made.ignore d in
    let readings_are : readings ≡ record { kind = of_ignore; places = ignore_places_of_directory made setup d } ∷ [] = ignore-some made setup d made.ignore setup_is in
    let s1 : Statistics = record s { ignore = c.read_first_text_in_order.new.statistics } in
    let path : List ℕ = c.as_bytes-path.result.now in
    let whole : List ℕ = c.as_bytes.result.now in
    let whole_is : whole ≡ root_joined_with_relative made.root (path_joined_with_slash d setup.file_name) = search rules in
    let path_is : path ≡ path_joined_with_slash d setup.file_name = search rules in
    let mapped_is : c.blob_id_of_path.result ≡ blob_id_mapped_to_path made.mappings path = search rules in
    let places_are : places_by_read_order c.ignore_read_order-order.result whole path ≡ ignore_places_of_directory made setup d =
    c.ignore_read_order-order.ensures whole path ∙ ignore-placed made d whole path c.blob_id_of_path.result setup c.source.result c.source.ensures whole_is path_is mapped_is in
    let all : AnswersReadings W F c.args.worktree.now c.read_first_text_in_order.new.worktree c.args.objects.now c.read_first_text_in_order.new.objects readings s0 s1 c.read_first_text_in_order.result =
    reads-placed W F c.args.worktree.now c.read_first_text_in_order.new.worktree c.args.objects.now c.read_first_text_in_order.new.objects of_ignore (places_by_read_order c.ignore_read_order-order.result whole path) (ignore_places_of_directory made setup d) readings s0 s s1
    (λ source. rules_text_if_found source c.read_first_text_in_order.new.buffer) c.read_first_text_in_order.result (only-ignore s s1 refl) same places_are readings_are
    c.read_first_text_in_order.ensures.text c.read_first_text_in_order.ensures.refused c.read_first_text_in_order.ensures.counted c.read_first_text_in_order.ensures.tried c.read_first_text_in_order.ensures.untouched c.read_first_text_in_order.ensures.store_untouched c.read_first_text_in_order.ensures.leaves c.read_first_text_in_order.ensures.leaves_store c.read_first_text_in_order.ensures.reads in
    let e : AtPathError = c.in_err-source.field-0.0 in
    let said : IsErrAnd c.from_residual-in_err-source.result (λ x. x ≡ e) = search rules in
    reads-as W F c.args.worktree.now c.read_first_text_in_order.new.worktree c.args.objects.now c.read_first_text_in_order.new.objects readings s0 s1 c.read_first_text_in_order.result e c.from_residual-in_err-source.result c.in_err-source.was said all

pub returns-in_err-list_of-clause-reads : goal.returns-in_err-list_of-clause-reads
returns-in_err-list_of-clause-reads g c =
    let W = g.W.Worktree in
    let F = g.F.Find in
    let made : StackSetup = setup_of_stack c.args.self.now in
    let setup : Setup = c.in-Some.ignore.now.setup in
    let held_is : c.args.self.now.ignore ≡ Some c.in-Some.ignore.now = search rules in
    let setup_is : made.ignore ≡ Some setup = ap setup_of_held_ignore_rules held_is in
    let d : List ℕ = slash_joined_components c.args.self.now.current in
    let s0 : Statistics = c.args.self.now.statistics in
    let s : Statistics = c.self.inside.statistics in
    let same : s ≡ s0 = search rules in
    let readings : List RulesReading = ignore_readings_of_directory made made.ignore d in
    let readings_are : readings ≡ record { kind = of_ignore; places = ignore_places_of_directory made setup d } ∷ [] = ignore-some made setup d made.ignore setup_is in
    let s1 : Statistics = record s { ignore = c.read_first_text_in_order.new.statistics } in
    let path : List ℕ = c.as_bytes-path.result.now in
    let whole : List ℕ = c.as_bytes.result.now in
    let whole_is : whole ≡ root_joined_with_relative made.root (path_joined_with_slash d setup.file_name) = search rules in
    let path_is : path ≡ path_joined_with_slash d setup.file_name = search rules in
    let mapped_is : c.blob_id_of_path.result ≡ blob_id_mapped_to_path made.mappings path = search rules in
    let places_are : places_by_read_order c.ignore_read_order-order.result whole path ≡ ignore_places_of_directory made setup d =
    c.ignore_read_order-order.ensures whole path ∙ ignore-placed made d whole path c.blob_id_of_path.result setup c.source.result c.source.ensures whole_is path_is mapped_is in
    let all : AnswersReadings W F c.args.worktree.now c.read_first_text_in_order.new.worktree c.args.objects.now c.read_first_text_in_order.new.objects readings s0 s1 c.read_first_text_in_order.result =
    reads-placed W F c.args.worktree.now c.read_first_text_in_order.new.worktree c.args.objects.now c.read_first_text_in_order.new.objects of_ignore (places_by_read_order c.ignore_read_order-order.result whole path) (ignore_places_of_directory made setup d) readings s0 s s1
    (λ source. rules_text_if_found source c.read_first_text_in_order.new.buffer) c.read_first_text_in_order.result (only-ignore s s1 refl) same places_are readings_are
    c.read_first_text_in_order.ensures.text c.read_first_text_in_order.ensures.refused c.read_first_text_in_order.ensures.counted c.read_first_text_in_order.ensures.tried c.read_first_text_in_order.ensures.untouched c.read_first_text_in_order.ensures.store_untouched c.read_first_text_in_order.ensures.leaves c.read_first_text_in_order.ensures.leaves_store c.read_first_text_in_order.ensures.reads in
    let memory : IsErrAnd c.from_residual-in_err-list_of.result (λ x. x ≡ errors.OutOfMemory) = search rules in
    let v : Option (List ℕ) = c.in_ok-source.source in
    reads-lost W F c.args.worktree.now c.read_first_text_in_order.new.worktree c.args.objects.now c.read_first_text_in_order.new.objects readings (record { kind = of_ignore; places = ignore_places_of_directory made setup d }) s0 s1 v
    c.from_residual-in_err-list_of.result readings_are memory
    (subst (λ (r : Result (Option (List ℕ)) AtPathError). AnswersReadings W F c.args.worktree.now c.read_first_text_in_order.new.worktree c.args.objects.now c.read_first_text_in_order.new.objects readings s0 s1 r) c.in_ok-source.was all)
