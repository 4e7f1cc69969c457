-- What is read of a directory, by the steps that push it.
use Rattle.std.specs.Prelude.{◌≡◌, ◌≤◌, ◌+◌, ℕ, Bool, true, is_some, length, List, [], ◌∷◌, ◌++◌, Option, Some, None, Result, Ok, Err, IsErrAnd, IfErr, IfOk, OnOk}
use Rattle.std.proofs.Common.{refl, sym, ap, ◌∙◌, subst, append_assoc, arith}
use Rattle.std.proofs.lemmas.List.{append-nil, length-append}
use Rattle.gitbase_core.specs.declared.find.Find.{Ghosts as FindOf}
use Rattle.gitbase_core.specs.Path.{is_empty, path_joined_with_slash}
use Rattle.glob_rules.specs.Attributes.{AttributeList}
use Rattle.worktree_fs.specs.declared.worktree.Worktree.{Ghosts as WorktreeOf}
use Rattle.worktree_fs.specs.Causes.{CountIncreasedOrSaturated}
use Rattle.worktree_fs.specs.Kept.{KeepsTreeAndListCounts, KeepsStoredObjects}
use Rattle.worktree_fs.specs.Paths.{root_joined_with_relative, slash_joined_components, all_prefixes_shortest_first}
use Rattle.worktree_stack.specs.declared.attributes_source.Source.{Source as AttributesSource}
use Rattle.worktree_stack.specs.declared.error.AtPathError.{AtPathError}
use Rattle.worktree_stack.specs.declared.ignore_source.Source.{Source}
use Rattle.worktree_stack.specs.declared.statistics.Statistics.{Statistics}
use Rattle.worktree_stack.specs.declared.statistics.RulesStatistics.{RulesStatistics}
use Rattle.worktree_stack.specs.Counted.{delegate_counts_after_call, rules_counts_of_kind, number_of_worktree_places, number_of_store_places}
use Rattle.worktree_stack.specs.Placed.{CountsReadingsOfKind, CountsAllReadings, CountsTriedPlaces, CountsRefusedPlaces, StopsAtRefusedReading, StopsReadingByError, AnswersReadings}
use Rattle.worktree_stack.specs.Reading.{TreeAndObjects, Tells, RulesPlace, RulesText, RulesKind, rules_text_or_none, attribute_list_of_text, gitattributes_lists_of_setup, places_of_info_file, info_file_readings_at_root, of_attributes, of_ignore, RulesReading, first_rules_text_of_places, ignore_places_by_source, attribute_places_by_source, ignore_readings_of_directory, gitattributes_readings_of_directory, info_file_readings_of_setup, ignore_places_of_directory, attribute_places_of_directory}
use Rattle.worktree_stack.specs.Refused.{IsReadingRefused}
use Rattle.worktree_stack.specs.Setup.{AttributesSetup, HeldAttributeLists, HeldIgnoreRules, Setup, StackSetup, setup_of_held_attributes, held_attribute_lists, push_list, held_without_highest_list, held_without_lists_of_directory, lists_without_last, lists_without_info_file, HasListsAppended, gitattributes_file_name, blob_id_mapped_to_path, has_excludes}
use Rattle.worktree_stack.specs.Stacked.{StackModel, setup_of_stack, number_of_gitattributes_lists, number_of_info_lists, number_of_lists_of_directory, HoldsIgnoreRulesOfTree, HasRulesCountOfDirectories}
use Rattle.worktree_stack.specs.Excludes.{proper_ancestor_directories}
use Rattle.worktree_fs.specs.PathStack.{push_directory}
use Rattle.worktree_stack.proofs.Refusals.{on-weaker}
use Rattle.worktree_stack.proofs.Lookup.InStep.{take-last}
use Rattle.worktree_stack.proofs.Rules.Readings.{reads-one, Others}

-- ---- places

ignore-as : (source source' : Source) (whole whole' path path' : List ℕ) (mapped mapped' : Option (List ℕ)) → source ≡ source' → whole ≡ whole' → path ≡ path' → mapped ≡ mapped'
    → ignore_places_by_source source whole path mapped ≡ ignore_places_by_source source' whole' path' mapped'
ignore-as source source' whole whole' path path' mapped mapped' a b c d =
    ap (λ x. ignore_places_by_source x whole path mapped) a ∙ ap (λ (w : List ℕ). ignore_places_by_source source' w path mapped) b
    ∙ ap (λ (p : List ℕ). ignore_places_by_source source' whole' p mapped) c ∙ ap (ignore_places_by_source source' whole' path') d

attribute-as : (source source' : AttributesSource) (whole whole' path path' : List ℕ) (mapped mapped' : Option (List ℕ)) → source ≡ source' → whole ≡ whole' → path ≡ path' → mapped ≡ mapped'
    → attribute_places_by_source source whole path mapped ≡ attribute_places_by_source source' whole' path' mapped'
attribute-as source source' whole whole' path path' mapped mapped' a b c d =
    ap (λ x. attribute_places_by_source x whole path mapped) a ∙ ap (λ (w : List ℕ). attribute_places_by_source source' w path mapped) b
    ∙ ap (λ (p : List ℕ). attribute_places_by_source source' whole' p mapped) c ∙ ap (attribute_places_by_source source' whole' path') d

module _ (made : StackSetup) (d whole path : List ℕ) (mapped : Option (List ℕ)) where
  pub ignore-placed : (setup : Setup) (source : Source) → source ≡ setup.source → whole ≡ root_joined_with_relative made.root (path_joined_with_slash d setup.file_name) → path ≡ path_joined_with_slash d setup.file_name → mapped ≡ blob_id_mapped_to_path made.mappings path
      → ignore_places_by_source source whole path mapped ≡ ignore_places_of_directory made setup d
  ignore-placed setup source a b c e =
      ignore-as source setup.source whole (root_joined_with_relative made.root (path_joined_with_slash d setup.file_name)) path (path_joined_with_slash d setup.file_name) mapped (blob_id_mapped_to_path made.mappings (path_joined_with_slash d setup.file_name)) a b c
      (e ∙ ap (blob_id_mapped_to_path made.mappings) c)

  pub attribute-placed : (setup : AttributesSetup) (source : AttributesSource) → source ≡ setup.source → whole ≡ root_joined_with_relative made.root (path_joined_with_slash d gitattributes_file_name) → path ≡ path_joined_with_slash d gitattributes_file_name → mapped ≡ blob_id_mapped_to_path made.mappings path
      → attribute_places_by_source source whole path mapped ≡ attribute_places_of_directory made setup d
  attribute-placed setup source a b c e =
      attribute-as source setup.source whole (root_joined_with_relative made.root (path_joined_with_slash d gitattributes_file_name)) path (path_joined_with_slash d gitattributes_file_name) mapped (blob_id_mapped_to_path made.mappings (path_joined_with_slash d gitattributes_file_name)) a b c
      (e ∙ ap (blob_id_mapped_to_path made.mappings) c)

-- ---- readings

pub ignore-some : (made : StackSetup) (setup : Setup) (d : List ℕ) (i : Option Setup) → i ≡ Some setup → ignore_readings_of_directory made i d ≡ record { kind = of_ignore; places = ignore_places_of_directory made setup d } ∷ []
ignore-some made setup d i e = ap (λ (x : Option Setup). ignore_readings_of_directory made x d) e

pub own-some : (made : StackSetup) (setup : AttributesSetup) (d : List ℕ) (a : Option AttributesSetup) → a ≡ Some setup → gitattributes_readings_of_directory made a d ≡ record { kind = of_attributes; places = attribute_places_of_directory made setup d } ∷ []
own-some made setup d a e = ap (λ (x : Option AttributesSetup). gitattributes_readings_of_directory made x d) e

-- the first reading of ignore rules, where there are such
pub the-ignore : (made : StackSetup) (d : List ℕ) (i : Option Setup) → i ≡ made.ignore → has_excludes made ≡ true → (r : RulesReading) × (ignore_readings_of_directory made i d ≡ r ∷ [])
the-ignore made d None e some = absurd (cc (ap is_some e ∙ some))
the-ignore made d (Some setup) e some = (record { kind = of_ignore; places = ignore_places_of_directory made setup d }, refl)

pub info-some : (setup : AttributesSetup) (d path : List ℕ) (a : Option AttributesSetup) → a ≡ Some setup → setup.info ≡ Some path → d ≡ []
    → info_file_readings_of_setup a d ≡ record { kind = of_attributes; places = places_of_info_file path } ∷ []
info-some setup d path a e info root =
    ap (λ (x : Option AttributesSetup). info_file_readings_of_setup x d) e ∙ ap (λ (i : Option (List ℕ)). info_file_readings_at_root i d) info ∙ ap (info_file_readings_at_root (Some path)) root

pub empty-nil : (d : List ℕ) → is_empty d ≡ true → d ≡ []
empty-nil [] e = refl
empty-nil (b ∷ bs) e = absurd (cc e)

-- the info file of a stack that was made the same way
pub info-same : (a a' : Option AttributesSetup) (names names' : List (List ℕ)) → a' ≡ a → names' ≡ names → info_file_readings_of_setup a' (slash_joined_components names') ≡ info_file_readings_of_setup a (slash_joined_components names)
info-same a a' names names' e f = ap (λ (x : Option AttributesSetup). info_file_readings_of_setup x (slash_joined_components names')) e ∙ ap (λ (n : List (List ℕ)). info_file_readings_of_setup a (slash_joined_components n)) f

-- ---- lists

-- none was pushed
pub longer-none : (held : Option HeldAttributeLists) (n : ℕ) → n ≡ 0 → HasListsAppended n (held_attribute_lists held) (held_attribute_lists held)
longer-none held n none = record { more = []; longer = sym (append-nil (held_attribute_lists held)); many = sym none }

-- one was
pub longer-one : (held held' : Option HeldAttributeLists) (h : HeldAttributeLists) (list : AttributeList) (seen : List (List ℕ)) (n : ℕ) → held ≡ Some h → held' ≡ push_list list seen held → n ≡ 1
    → HasListsAppended n (held_attribute_lists held) (held_attribute_lists held')
longer-one None held' h list seen n some pushed one = absurd (cc (ap is_some some))
longer-one (Some x) held' h list seen n some pushed one = record { more = list ∷ []; longer = ap held_attribute_lists pushed; many = sym one }

pub longer-then : (m n : ℕ) (a b c : List AttributeList) → HasListsAppended m a b → HasListsAppended n b c → HasListsAppended (m + n) a c
longer-then m n a b c first second =
    record {
      more = first.more ++ second.more;
      longer = second.longer ∙ ap (λ (l : List AttributeList). l ++ second.more) first.longer ∙ append_assoc a first.more second.more;
      many = length-append first.more second.more ∙ ap (λ (k : ℕ). k + length second.more) first.many ∙ ap (λ (k : ℕ). m + k) second.many;
    }

-- the one that was pushed is dropped
drop-one : (a more : List AttributeList) → length more ≡ 1 → lists_without_last (a ++ more) ≡ a
drop-one a [] one = absurd (cc one)
drop-one a (x ∷ []) one = take-last a x
drop-one a (x ∷ y ∷ more) one = absurd (omega (arith, one))

drop-two : (a more : List AttributeList) → length more ≡ 2 → lists_without_last (lists_without_last (a ++ more)) ≡ a
drop-two a [] two = absurd (cc two)
drop-two a (x ∷ []) two = absurd (omega (arith, two))
drop-two a (x ∷ y ∷ []) two =
    ap (λ (l : List AttributeList). lists_without_last (lists_without_last l)) (sym (append_assoc a (x ∷ []) (y ∷ [])))
    ∙ ap lists_without_last (take-last (a ++ x ∷ []) y) ∙ take-last a x
drop-two a (x ∷ y ∷ z ∷ more) two = absurd (omega (arith, two))

nothing-left : (a more : List AttributeList) → [] ≡ a ++ more → [] ≡ a
nothing-left [] more e = refl
nothing-left (x ∷ a) more e = absurd (cc e)

-- a directory's own list is dropped, and what is left is what was there before
pub own-dropped : (held : Option HeldAttributeLists) (setup : Option AttributesSetup) (before lists : List AttributeList) → setup_of_held_attributes held ≡ setup → held_attribute_lists held ≡ lists → HasListsAppended (number_of_gitattributes_lists setup) before lists
    → held_attribute_lists (held_without_highest_list held) ≡ before
own-dropped None setup before lists setup_is lists_are l = nothing-left before l.more (lists_are ∙ l.longer)
own-dropped (Some h) setup before lists setup_is lists_are l =
    ap lists_without_last (lists_are ∙ l.longer) ∙ drop-one before l.more (l.many ∙ ap number_of_gitattributes_lists (sym setup_is))

-- all lists of a directory are
pub all-dropped : (held : Option HeldAttributeLists) (setup : Option AttributesSetup) (d : List ℕ) (before lists : List AttributeList) → setup_of_held_attributes held ≡ setup → held_attribute_lists held ≡ lists → HasListsAppended (number_of_lists_of_directory setup d) before lists
    → held_attribute_lists (held_without_lists_of_directory d held) ≡ before
all-dropped None setup d before lists setup_is lists_are l = nothing-left before l.more (lists_are ∙ l.longer)
all-dropped (Some h) setup d before lists setup_is lists_are l =
    ap (λ (x : List AttributeList). lists_without_last (lists_without_info_file h.setup.info d x)) (lists_are ∙ l.longer)
    ∙ go h.setup.info d (l.many ∙ ap (λ (x : Option AttributesSetup). number_of_lists_of_directory x d) (sym setup_is))
  where
    go : (info : Option (List ℕ)) (d : List ℕ) → length l.more ≡ 1 + number_of_info_lists info d → lists_without_last (lists_without_info_file info d (before ++ l.more)) ≡ before
    go None d e = drop-one before l.more (omega (arith, e))
    go (Some path) [] e = drop-two before l.more (omega (arith, e))
    go (Some path) (b ∷ bs) e = drop-one before l.more (omega (arith, e))

-- the list of a directory's own attributes was pushed
pub own-listed : (made : StackSetup) (setup : AttributesSetup) (s : TreeAndObjects) (d d' : List ℕ) (places : List RulesPlace) (text : Option RulesText) (macros : Bool) (held held' : Option HeldAttributeLists) (seen : List (List ℕ))
    → macros ≡ is_empty d' → d' ≡ d → setup_of_held_attributes held ≡ Some setup → places ≡ attribute_places_of_directory made setup d → first_rules_text_of_places s places ≡ Ok text
    → held' ≡ push_list (attribute_list_of_text macros d' text) seen held
    → held_attribute_lists held' ≡ held_attribute_lists held ++ gitattributes_lists_of_setup made (setup_of_held_attributes held) s d
own-listed made setup s d d' places text macros None held' seen root same some placed read pushed = absurd (cc some)
own-listed made setup s d d' places text macros (Some h) held' seen root same some placed read pushed =
    let setup_is : h.setup ≡ setup = some_is some in
    let text_is : rules_text_or_none (first_rules_text_of_places s (attribute_places_of_directory made h.setup d)) ≡ text =
    ap (λ (x : AttributesSetup). rules_text_or_none (first_rules_text_of_places s (attribute_places_of_directory made x d))) setup_is
    ∙ ap (λ (ps : List RulesPlace). rules_text_or_none (first_rules_text_of_places s ps)) (sym placed) ∙ ap rules_text_or_none read in
    ap held_attribute_lists pushed
    ∙ ap (λ (m : Bool). h.lists ++ attribute_list_of_text m d' text ∷ []) root
    ∙ ap (λ (x : List ℕ). h.lists ++ attribute_list_of_text (is_empty x) x text ∷ []) same
    ∙ ap (λ (t : Option RulesText). h.lists ++ attribute_list_of_text (is_empty d) d t ∷ []) (sym text_is)
  where
    some_is : {x y : AttributesSetup} → Some x ≡ Some y → x ≡ y
    some_is e = cc e

module _ {W F : Type 0} (w : WorktreeOf W) (f : FindOf F) (w0 w1 : W) (o0 o1 : F) where
  -- the same of another answer, where both are Ok
  pub reads-done : {T U : Type 0} (readings : List RulesReading) (s0 s1 : Statistics) (r : Result T AtPathError) (v : T) (u : U)
      → r ≡ Ok v → AnswersReadings w f w0 w1 o0 o1 readings s0 s1 r → AnswersReadings w f w0 w1 o0 o1 readings s0 s1 (Ok u)
  reads-done {T} {U} readings s0 s1 r v u is said =
      let there : AnswersReadings {T = T} w f w0 w1 o0 o1 readings s0 s1 (Ok v) = subst (λ (y : Result T AtPathError). AnswersReadings w f w0 w1 o0 o1 readings s0 s1 y) is said in
      record {
        read = there.read;
        refused = there.refused;
        counted = there.counted;
        tried = there.tried;
        untouched = there.untouched;
        store_untouched = there.store_untouched;
        leaves = there.leaves;
        leaves_store = there.leaves_store;
        reads = there.reads;
      }

  -- the same of another answer, where both are one refusal
  pub reads-as : {T U : Type 0} (readings : List RulesReading) (s0 s1 : Statistics) (r : Result T AtPathError) (e : AtPathError) (r' : Result U AtPathError)
      → r ≡ Err e → IsErrAnd r' (λ x. x ≡ e) → AnswersReadings w f w0 w1 o0 o1 readings s0 s1 r → AnswersReadings w f w0 w1 o0 o1 readings s0 s1 r'
  reads-as readings s0 s1 r e (Ok v) is same said = absurd same
  reads-as {T} {U} readings s0 s1 r e (Err x) is same said =
      let there : AnswersReadings {T = T} w f w0 w1 o0 o1 readings s0 s1 (Err e) = subst (λ (y : Result T AtPathError). AnswersReadings w f w0 w1 o0 o1 readings s0 s1 y) is said in
      subst (λ (y : AtPathError). AnswersReadings {T = U} w f w0 w1 o0 o1 readings s0 s1 (Err y)) (sym same)
      (record {
        read = there.read;
        refused = there.refused;
        counted = there.counted;
        tried = there.tried;
        untouched = there.untouched;
        store_untouched = there.store_untouched;
        leaves = there.leaves;
        leaves_store = there.leaves_store;
        reads = there.reads;
      })

  module _ {T : Type 0} (kind : RulesKind) (places places' : List RulesPlace) (readings : List RulesReading) (s0 s s1 : Statistics) (Text' : T → Option RulesText) (result : Result T AtPathError)
      (others : Others kind s s1) (same : s ≡ s0) (places_are : places ≡ places') (readings_are : readings ≡ record { kind = kind; places = places' } ∷ []) where
    -- one reading, of the places that it is said to ask
    pub reads-placed :
        ((s : TreeAndObjects) → Tells (w.told w0) (f.holds o0) s → IfOk result (λ v. first_rules_text_of_places s places ≡ Ok (Text' v)))
        → IfErr result (IsReadingRefused (w.told w0) (f.holds o0) (CountIncreasedOrSaturated (w.faults w0) (w.faults w1)) (CountIncreasedOrSaturated (f.faults o0) (f.faults o1)) places (λ s. first_rules_text_of_places s places))
        → OnOk result (CountsTriedPlaces (w.told w0) (f.holds o0) places (rules_counts_of_kind kind s) (rules_counts_of_kind kind s1))
        → IfErr result (CountsRefusedPlaces (w.told w0) (f.holds o0) places (rules_counts_of_kind kind s) (rules_counts_of_kind kind s1))
        → (number_of_worktree_places places ≡ 0 → w1 ≡ w0) → (number_of_store_places places ≡ 0 → o1 ≡ o0) → KeepsTreeAndListCounts w w0 w1 → KeepsStoredObjects f o0 o1 → w.reads w1 ≤ w.reads w0 + number_of_worktree_places places
        → AnswersReadings w f w0 w1 o0 o1 readings s0 s1 result
    reads-placed text refused counted tried untouched store_untouched leaves leaves_store reads =
        subst (λ (x : Statistics). AnswersReadings w f w0 w1 o0 o1 readings x s1 result) same
        (subst (λ (rs : List RulesReading). AnswersReadings w f w0 w1 o0 o1 rs s s1 result) (ap (λ (ps : List RulesPlace). record { kind = kind; places = ps } ∷ []) places_are ∙ sym readings_are)
        (reads-one w f w0 w1 o0 o1 kind places s s1 others Text' result text refused counted tried untouched store_untouched leaves leaves_store reads))

  -- what is counted before is the same
  pub reads-from : {T : Type 0} (readings : List RulesReading) (s0 s0' s1 : Statistics) (r : Result T AtPathError) → ((kind : RulesKind) → rules_counts_of_kind kind s0' ≡ rules_counts_of_kind kind s0)
      → AnswersReadings w f w0 w1 o0 o1 readings s0' s1 r → AnswersReadings w f w0 w1 o0 o1 readings s0 s1 r
  reads-from {T} readings s0 s0' s1 r same said =
      record {
        read = said.read;
        refused = said.refused;
        counted = counted r said.counted;
        tried = tried r said.tried;
        untouched = said.untouched;
        store_untouched = said.store_untouched;
        leaves = said.leaves;
        leaves_store = said.leaves_store;
        reads = said.reads;
      }
    where
      counts : (readings : List RulesReading) (s : Statistics) → CountsAllReadings (w.told w0) (f.holds o0) readings s0' s → CountsAllReadings (w.told w0) (f.holds o0) readings s0 s
      counts readings s c kind = subst (λ (x : RulesStatistics). CountsReadingsOfKind (w.told w0) (f.holds o0) kind readings x (rules_counts_of_kind kind s)) (same kind) (c kind)

      counted : (r : Result T AtPathError) → OnOk r (CountsAllReadings (w.told w0) (f.holds o0) readings s0' s1) → OnOk r (CountsAllReadings (w.told w0) (f.holds o0) readings s0 s1)
      counted (Ok v) c = counts readings s1 c
      counted (Err e) c = tt

      cut : (Asks' : List RulesPlace → Type 0) (Tried : List RulesPlace → RulesStatistics → RulesStatistics → Type 0) → StopsAtRefusedReading (w.told w0) (f.holds o0) readings s0' s1 Asks' Tried → StopsAtRefusedReading (w.told w0) (f.holds o0) readings s0 s1 Asks' Tried
      cut Asks' Tried c =
          record { done = c.done; refused = c.refused; left = c.left; before = c.before; split = c.split; read = counts c.done c.before c.read; asks = c.asks; tried = c.tried }

      tried : (r : Result T AtPathError) → IfErr r (StopsReadingByError (w.told w0) (f.holds o0) readings s0' s1) → IfErr r (StopsReadingByError (w.told w0) (f.holds o0) readings s0 s1)
      tried (Ok v) c = tt
      tried (Err e) c = on-weaker e (λ path why x. cut _ _ x) (λ id why x. cut _ _ x) (λ x. cut _ _ x) c

-- ---- a directory whose push is counted first

abbrev pub counted-push : StackModel → StackModel
counted-push s = record s { statistics = record s.statistics { delegate = delegate_counts_after_call s.statistics.delegate (push_directory (slash_joined_components s.current)) } }

counts-kept : (s : StackModel) (kind : RulesKind) → rules_counts_of_kind kind (counted-push s).statistics ≡ rules_counts_of_kind kind s.statistics
counts-kept s of_attributes = refl
counts-kept s of_ignore = refl

module _ {W F : Type 0} (w : WorktreeOf W) (f : FindOf F) (w0 w1 : W) (o0 o1 : F) where
  pub reads-counted : {T : Type 0} (old mid : StackModel) (readings : StackSetup → List ℕ → List RulesReading) (s1 : Statistics) (r : Result T AtPathError) → mid ≡ counted-push old
      → AnswersReadings w f w0 w1 o0 o1 (readings (setup_of_stack mid) (slash_joined_components mid.current)) mid.statistics s1 r → AnswersReadings w f w0 w1 o0 o1 (readings (setup_of_stack old) (slash_joined_components old.current)) old.statistics s1 r
  reads-counted {T} old mid readings s1 r mid_is said =
      let there : AnswersReadings {T = T} w f w0 w1 o0 o1 (readings (setup_of_stack old) (slash_joined_components old.current)) (counted-push old).statistics s1 r =
      subst (λ (m : StackModel). AnswersReadings w f w0 w1 o0 o1 (readings (setup_of_stack m) (slash_joined_components m.current)) m.statistics s1 r) mid_is said in
      reads-from w f w0 w1 o0 o1 (readings (setup_of_stack old) (slash_joined_components old.current)) old.statistics (counted-push old).statistics s1 r (counts-kept old) there

pub rules-bridge : (s : TreeAndObjects) (old mid : StackModel) (new : Option HeldIgnoreRules) → setup_of_stack mid ≡ setup_of_stack old → mid.current ≡ old.current → mid.ignore ≡ old.ignore
    → (HoldsIgnoreRulesOfTree (setup_of_stack mid) s (proper_ancestor_directories mid.current) mid.ignore → HoldsIgnoreRulesOfTree (setup_of_stack mid) s (all_prefixes_shortest_first mid.current) new)
    → HoldsIgnoreRulesOfTree (setup_of_stack old) s (proper_ancestor_directories old.current) old.ignore → HoldsIgnoreRulesOfTree (setup_of_stack old) s (all_prefixes_shortest_first old.current) new
rules-bridge s old mid new made current ignore on holds =
    subst (λ (m : StackSetup). HoldsIgnoreRulesOfTree m s (all_prefixes_shortest_first old.current) new) made
    (subst (λ (n : List (List ℕ)). HoldsIgnoreRulesOfTree (setup_of_stack mid) s (all_prefixes_shortest_first n) new) current
    (on (subst (λ (h : Option HeldIgnoreRules). HoldsIgnoreRulesOfTree (setup_of_stack mid) s (proper_ancestor_directories mid.current) h) (sym ignore)
    (subst (λ (n : List (List ℕ)). HoldsIgnoreRulesOfTree (setup_of_stack mid) s (proper_ancestor_directories n) old.ignore) (sym current)
    (subst (λ (m : StackSetup). HoldsIgnoreRulesOfTree m s (proper_ancestor_directories old.current) old.ignore) (sym made) holds)))))

pub level-bridge : (old mid : StackModel) (new : Option HeldIgnoreRules) → mid.current ≡ old.current → mid.ignore ≡ old.ignore
    → (HasRulesCountOfDirectories (proper_ancestor_directories mid.current) mid.ignore → HasRulesCountOfDirectories (all_prefixes_shortest_first mid.current) new) → HasRulesCountOfDirectories (proper_ancestor_directories old.current) old.ignore → HasRulesCountOfDirectories (all_prefixes_shortest_first old.current) new
level-bridge old mid new current ignore on level =
    subst (λ (n : List (List ℕ)). HasRulesCountOfDirectories (all_prefixes_shortest_first n) new) current
    (on (subst (λ (h : Option HeldIgnoreRules). HasRulesCountOfDirectories (proper_ancestor_directories mid.current) h) (sym ignore) (subst (λ (n : List (List ℕ)). HasRulesCountOfDirectories (proper_ancestor_directories n) old.ignore) (sym current) level)))
