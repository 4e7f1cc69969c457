-- A stack stays in step where a directory is pushed or popped.
use Rattle.std.specs.Prelude.{◌≡◌, ℕ, ◌-◌, Bool, true, false, ◌&&◌, List, [], ◌∷◌, ◌++◌, length, take, map, Option, Some, None, is_some}
use Rattle.std.specs.List.{list_all, flat_map}
use Rattle.std.proofs.Common.{refl, sym, ap, ◌∙◌, subst, append_assoc, arith}
use Rattle.std.proofs.lemmas.List.Concat.{flat_map-append}
use Rattle.std.proofs.lemmas.List.{append-nil, map-append, length-append, take_all, take-append-le}
use Rattle.glob_rules.specs.declared.Case.{Case}
use Rattle.glob_rules.specs.Attributes.{AttributeList}
use Rattle.glob_rules.specs.Ignore.{RulesList}
use Rattle.worktree_fs.specs.Paths.{slash_joined_components, all_prefixes_shortest_first, all_but_last}
use Rattle.worktree_fs.specs.PathStack.{parent_of_deepest_directory, deepest_components_or_root, pushed_directory_paths}
use Rattle.worktree_fs.proofs.Paths.Spelled.{without_last-snoc}
use Rattle.worktree_stack.specs.declared.state.Checkout.{Checkout}
use Rattle.worktree_stack.specs.Setup.{AttributesSetup, Setup, StackSetup, RulesFileMapping, HeldAttributeLists, HeldIgnoreRules, setup_of_held_attributes, setup_of_held_ignore_rules, held_attribute_lists, lists_without_last, lists_without_info_file, held_without_lists_of_directory, held_rules_with_directory_pushed, held_rules_with_directory_popped, own_match_among_held_rules, own_match_if_rules_held}
use Rattle.worktree_stack.specs.Excludes.{ExcludeDecision, own_match_of_directory, proper_ancestor_directories}
use Rattle.worktree_stack.specs.Reading.{TreeAndObjects, rules_texts_of_directory, rulebook_of_stack_setup, is_read_without_refusal, readings_of_directory, rules_texts_of_readings, rules_text_or_none, first_rules_text_of_places, places_of_info_file, attribute_list_of_text, gitattributes_list_of_directory, info_file_lists_at_root, attribute_lists_of_directory}
use Rattle.worktree_stack.specs.Stacked.{StackModel, setup_of_stack, AreRulesAndMatchesOfTree, HoldsIgnoreRulesOfTree, HoldsAttributeListsOfTree, HoldsRulesOfTree, IsInStepWithTree, pushed_directories}
use Rattle.worktree_stack.proofs.Rules.Deciding.{own_is}

-- the fronts of a list are those without its last element, and the list
fronts-last : (name : List ℕ) (names : List (List ℕ)) → all_prefixes_shortest_first (name ∷ names) ≡ all_prefixes_shortest_first (all_but_last (name ∷ names)) ++ (name ∷ names) ∷ []
fronts-last name [] = refl
fronts-last name (other ∷ names) =
    ap (λ (rest : List (List (List ℕ))). [] ∷ map (λ front. name ∷ front) rest) (fronts-last other names)
    ∙ ap (λ (rest : List (List (List ℕ))). [] ∷ rest) (map-append (λ front. name ∷ front) (all_prefixes_shortest_first (all_but_last (other ∷ names))) ((other ∷ names) ∷ []))

-- the directories that are pushed with one are those above it, and it
pub pushed-ancestors : (names : List (List ℕ)) → all_prefixes_shortest_first names ≡ proper_ancestor_directories names ++ names ∷ []
pushed-ancestors [] = refl
pushed-ancestors (name ∷ names) = fronts-last name names

all-last : (p : List (List ℕ) → Bool) (xs : List (List (List ℕ))) (x : List (List ℕ)) → list_all p (xs ++ x ∷ []) ≡ (list_all p xs && p x)
all-last p [] x = go (p x)
  where
    go : (b : Bool) → (b && true) ≡ (true && b)
    go true = refl
    go false = refl
all-last p (y ∷ xs) x = ap (λ b. p y && b) (all-last p xs x) ∙ go (p y) (list_all p xs) (p x)
  where
    go : (a b c : Bool) → (a && (b && c)) ≡ ((a && b) && c)
    go true b c = refl
    go false b c = refl

both_true : (a b : Bool) → a ≡ true → b ≡ true → (a && b) ≡ true
both_true a b e f = rw e f

left_true : (a b : Bool) → (a && b) ≡ true → a ≡ true
left_true true b e = refl
left_true false b e = absurd (cc e)

-- one more directory
module _ (root : List ℕ) (case : Case) (mappings : List RulesFileMapping) (checkout : Option Checkout) (attributes : Option AttributesSetup) (setup : Setup) where
  abbrev made-so : StackSetup
  made-so = record { root = root; case = case; mappings = mappings; checkout = checkout; attributes = attributes; ignore = Some setup }

  one_more : (s : TreeAndObjects) (names : List (List ℕ)) (lists : List RulesList) (matches : List (Option ExcludeDecision)) (list : RulesList)
      → AreRulesAndMatchesOfTree made-so s (proper_ancestor_directories names) lists matches
      → (rulebook_of_stack_setup made-so s).of_directory names ≡ list
      → AreRulesAndMatchesOfTree made-so s (all_prefixes_shortest_first names) (lists ++ list ∷ [])
      (matches ++ own_match_among_held_rules (record { setup = setup; lists = lists; matches = matches }) (slash_joined_components names) (Some true) case ∷ [])
  one_more s names lists matches list those rules_is =
      let book = rulebook_of_stack_setup made-so s in
      let held : HeldIgnoreRules = record { setup = setup; lists = lists; matches = matches } in
      let last : all_prefixes_shortest_first names ≡ proper_ancestor_directories names ++ names ∷ [] = pushed-ancestors names in
      let own : own_match_among_held_rules held (slash_joined_components names) (Some true) case ≡ own_match_of_directory book names =
      own_is book held names (Some true) (record { overrides = refl; globals = refl; lists = those.lists_are }) in
      record {
        lists_are = ap (λ (xs : List RulesList). xs ++ list ∷ []) those.lists_are
            ∙ ap (λ (r : RulesList). map book.of_directory (proper_ancestor_directories names) ++ r ∷ []) (sym rules_is)
            ∙ sym (map-append book.of_directory (proper_ancestor_directories names) (names ∷ []))
            ∙ ap (map book.of_directory) (sym last);
        matches_are = ap (λ (xs : List (Option ExcludeDecision)). xs ++ own_match_among_held_rules held (slash_joined_components names) (Some true) case ∷ []) those.matches_are
            ∙ ap (λ (hit : Option ExcludeDecision). map (own_match_of_directory book) (proper_ancestor_directories names) ++ hit ∷ []) own
            ∙ sym (map-append (own_match_of_directory book) (proper_ancestor_directories names) (names ∷ []))
            ∙ ap (map (own_match_of_directory book)) (sym last);
      }

pub take-last : {A : Type 0} (xs : List A) (x : A) → take (length (xs ++ x ∷ []) - 1) (xs ++ x ∷ []) ≡ xs
take-last xs x =
    let e : length (xs ++ x ∷ []) - 1 ≡ length xs = omega (arith, length-append xs (x ∷ [])) in
    ap (λ n. take n (xs ++ x ∷ [])) e ∙ take-append-le (length xs) xs (x ∷ []) (omega arith) ∙ take_all (length xs) xs (omega arith)

-- one less
pub one_less : (made : StackSetup) (s : TreeAndObjects) (names : List (List ℕ)) (lists : List RulesList) (matches : List (Option ExcludeDecision))
    → AreRulesAndMatchesOfTree made s (all_prefixes_shortest_first names) lists matches
    → AreRulesAndMatchesOfTree made s (proper_ancestor_directories names) (take (length lists - 1) lists) (take (length matches - 1) matches)
one_less made s names lists matches those =
    let book = rulebook_of_stack_setup made s in
    let last : all_prefixes_shortest_first names ≡ proper_ancestor_directories names ++ names ∷ [] = pushed-ancestors names in
    let lists_are : lists ≡ map book.of_directory (proper_ancestor_directories names) ++ book.of_directory names ∷ [] =
    those.lists_are ∙ ap (map book.of_directory) last ∙ map-append book.of_directory (proper_ancestor_directories names) (names ∷ []) in
    let matches_are : matches ≡ map (own_match_of_directory book) (proper_ancestor_directories names) ++ own_match_of_directory book names ∷ [] =
    those.matches_are ∙ ap (map (own_match_of_directory book)) last ∙ map-append (own_match_of_directory book) (proper_ancestor_directories names) (names ∷ []) in
    record {
      lists_are = ap (λ (xs : List RulesList). take (length xs - 1) xs) lists_are ∙ take-last (map book.of_directory (proper_ancestor_directories names)) (book.of_directory names);
      matches_are = ap (λ (xs : List (Option ExcludeDecision)). take (length xs - 1) xs) matches_are
          ∙ take-last (map (own_match_of_directory book) (proper_ancestor_directories names)) (own_match_of_directory book names);
    }

pub up-ancestors : (names : List (List ℕ)) → proper_ancestor_directories names ≡ pushed_directories (parent_of_deepest_directory (Some names))
up-ancestors [] = refl
up-ancestors (name ∷ names) = refl

directories-pushed : (at : Option (List (List ℕ))) → pushed_directory_paths at ≡ map slash_joined_components (pushed_directories at)
directories-pushed None = refl
directories-pushed (Some names) = refl

directories-last : (names : List (List ℕ)) → map slash_joined_components (all_prefixes_shortest_first names) ≡ map slash_joined_components (proper_ancestor_directories names) ++ slash_joined_components names ∷ []
directories-last names = ap (map slash_joined_components) (pushed-ancestors names) ∙ map-append slash_joined_components (proper_ancestor_directories names) (names ∷ [])

-- the directories without the deepest one
pub directories-up : (at : Option (List (List ℕ))) → pushed_directory_paths (parent_of_deepest_directory at) ≡ all_but_last (pushed_directory_paths at)
directories-up None = refl
directories-up (Some names) =
    directories-pushed (parent_of_deepest_directory (Some names)) ∙ ap (map slash_joined_components) (sym (up-ancestors names))
    ∙ sym (ap all_but_last (directories-last names) ∙ without_last-snoc (map slash_joined_components (proper_ancestor_directories names)) (slash_joined_components names))

-- and with one below it
pub directories-below : (at : Option (List (List ℕ))) (names : List (List ℕ)) → pushed_directories at ≡ proper_ancestor_directories names
    → pushed_directory_paths (Some names) ≡ pushed_directory_paths at ++ slash_joined_components names ∷ []
directories-below at names above =
    directories-last names ∙ ap (λ (d : List (List ℕ)). d ++ slash_joined_components names ∷ []) (ap (map slash_joined_components) (sym above) ∙ sym (directories-pushed at))

-- ---- lists of attributes

flat-last : {X A : Type 0} (f : X → List A) (xs : List X) (x : X) → flat_map f (xs ++ x ∷ []) ≡ flat_map f xs ++ f x
flat-last f xs x = flat_map-append f xs (x ∷ []) ∙ ap (λ (l : List _). flat_map f xs ++ l) (append-nil (f x))

highest-dropped : (xs : List AttributeList) (x : AttributeList) → lists_without_last (xs ++ x ∷ []) ≡ xs
highest-dropped xs x = take-last xs x

-- the lists of a directory are dropped
lists-dropped : (made : StackSetup) (s : TreeAndObjects) (setup : AttributesSetup) (info : Option (List ℕ)) (d : List ℕ) (own : AttributeList) (xs : List AttributeList)
    → lists_without_last (lists_without_info_file info d (xs ++ (own ∷ [] ++ info_file_lists_at_root info s d))) ≡ xs
lists-dropped made s setup None d own xs = highest-dropped xs own
lists-dropped made s setup (Some path) (b ∷ bs) own xs = highest-dropped xs own
lists-dropped made s setup (Some path) [] own xs =
    let info : AttributeList = attribute_list_of_text true [] (rules_text_or_none (first_rules_text_of_places s (places_of_info_file path))) in
    ap (λ (l : List AttributeList). lists_without_last (lists_without_last l)) (sym (append_assoc xs (own ∷ []) (info ∷ [])))
    ∙ ap lists_without_last (highest-dropped (xs ++ own ∷ []) info) ∙ highest-dropped xs own

module _ (root : List ℕ) (case : Case) (mappings : List RulesFileMapping) (checkout : Option Checkout) where
  less-lists : (attributes : Option HeldAttributeLists) (ignore : Option HeldIgnoreRules) (s : TreeAndObjects) (at : Option (List (List ℕ)))
      → HoldsAttributeListsOfTree (record { root = root; case = case; mappings = mappings; checkout = checkout; attributes = setup_of_held_attributes attributes; ignore = setup_of_held_ignore_rules ignore }) s (pushed_directories at) attributes
      → HoldsAttributeListsOfTree (record { root = root; case = case; mappings = mappings; checkout = checkout; attributes = setup_of_held_attributes attributes; ignore = setup_of_held_ignore_rules ignore }) s (pushed_directories (parent_of_deepest_directory at)) (held_without_lists_of_directory (slash_joined_components (deepest_components_or_root at)) attributes)
  less-lists None ignore s None holds = holds
  less-lists None ignore s (Some names) holds = none (pushed_directories (parent_of_deepest_directory (Some names)))
    where
      none : (ds : List (List (List ℕ))) → [] ≡ flat_map (attribute_lists_of_directory (record { root = root; case = case; mappings = mappings; checkout = checkout; attributes = None; ignore = setup_of_held_ignore_rules ignore }) s) ds
      none [] = refl
      none (d ∷ ds) = none ds
  less-lists (Some held) ignore s None holds =
      ap (λ (l : List AttributeList). lists_without_last (lists_without_info_file held.setup.info [] l)) holds ∙ nothing held.setup.info
    where
      nothing : (info : Option (List ℕ)) → lists_without_last (lists_without_info_file info [] []) ≡ []
      nothing None = refl
      nothing (Some path) = refl
  less-lists (Some held) ignore s (Some names) holds =
      let made : StackSetup = record { root = root; case = case; mappings = mappings; checkout = checkout; attributes = Some held.setup; ignore = setup_of_held_ignore_rules ignore } in
      let d : List ℕ = slash_joined_components names in
      let front : List AttributeList = flat_map (attribute_lists_of_directory made s) (proper_ancestor_directories names) in
      let lists_are : held.lists ≡ front ++ attribute_lists_of_directory made s names =
      holds ∙ ap (flat_map (attribute_lists_of_directory made s)) (pushed-ancestors names) ∙ flat-last (attribute_lists_of_directory made s) (proper_ancestor_directories names) names in
      ap (λ (l : List AttributeList). lists_without_last (lists_without_info_file held.setup.info d l)) lists_are
      ∙ lists-dropped made s held.setup held.setup.info d (gitattributes_list_of_directory made held.setup s d) front
      ∙ ap (flat_map (attribute_lists_of_directory made s)) (up-ancestors names)

module _ (s : TreeAndObjects) where
  -- the deepest directory is popped
  less : (made : StackSetup) (at : Option (List (List ℕ))) (lists : List RulesList) (matches : List (Option ExcludeDecision))
      → AreRulesAndMatchesOfTree made s (pushed_directories at) lists matches
      → AreRulesAndMatchesOfTree made s (pushed_directories (parent_of_deepest_directory at)) (take (length lists - 1) lists) (take (length matches - 1) matches)
  less made None lists matches those =
      record {
        lists_are = ap (λ (xs : List RulesList). take (length xs - 1) xs) those.lists_are;
        matches_are = ap (λ (xs : List (Option ExcludeDecision)). take (length xs - 1) xs) those.matches_are;
      }
  less made (Some names) lists matches those =
      subst (λ ds. AreRulesAndMatchesOfTree made s ds (take (length lists - 1) lists) (take (length matches - 1) matches)) (up-ancestors names)
      (one_less made s names lists matches those)

  less-held : (made : StackSetup) (at : Option (List (List ℕ))) (held : Option HeldIgnoreRules) → HoldsIgnoreRulesOfTree made s (pushed_directories at) held → HoldsIgnoreRulesOfTree made s (pushed_directories (parent_of_deepest_directory at)) (held_rules_with_directory_popped held)
  less-held made at None holds = tt
  less-held made at (Some held) holds = less made at held.lists held.matches holds

  -- the readings of the directories that are left
  less-read : (made : StackSetup) (at : Option (List (List ℕ))) → list_all (λ d. is_read_without_refusal (rules_texts_of_directory made s (slash_joined_components d))) (pushed_directories at) ≡ true
      → list_all (λ d. is_read_without_refusal (rules_texts_of_directory made s (slash_joined_components d))) (pushed_directories (parent_of_deepest_directory at)) ≡ true
  less-read made None read = read
  less-read made (Some names) read =
      let last : all_prefixes_shortest_first names ≡ proper_ancestor_directories names ++ names ∷ [] = pushed-ancestors names in
      ap (list_all (λ d. is_read_without_refusal (rules_texts_of_directory made s (slash_joined_components d)))) (sym (up-ancestors names))
      ∙ left_true _ (is_read_without_refusal (rules_texts_of_directory made s (slash_joined_components names)))
      (sym (all-last (λ d. is_read_without_refusal (rules_texts_of_directory made s (slash_joined_components d))) (proper_ancestor_directories names) names) ∙ ap (list_all (λ d. is_read_without_refusal (rules_texts_of_directory made s (slash_joined_components d)))) (sym last) ∙ read)

  pub popped : (old new : StackModel) → setup_of_stack new ≡ setup_of_stack old → new.at ≡ parent_of_deepest_directory old.at
      → new.attributes ≡ held_without_lists_of_directory (slash_joined_components (deepest_components_or_root old.at)) old.attributes → new.ignore ≡ held_rules_with_directory_popped old.ignore → IsInStepWithTree s old → IsInStepWithTree s new
  popped old new made at attributes ignore step =
      subst (λ (h : Option HeldIgnoreRules). HoldsRulesOfTree (setup_of_stack new) s (pushed_directories new.at) new.attributes h) (sym ignore)
      (subst (λ (h : Option HeldAttributeLists). HoldsRulesOfTree (setup_of_stack new) s (pushed_directories new.at) h (held_rules_with_directory_popped old.ignore)) (sym attributes)
      (subst (λ (a : Option (List (List ℕ))). HoldsRulesOfTree (setup_of_stack new) s (pushed_directories a) (held_without_lists_of_directory (slash_joined_components (deepest_components_or_root old.at)) old.attributes) (held_rules_with_directory_popped old.ignore)) (sym at)
      (subst (λ (m : StackSetup). HoldsRulesOfTree m s (pushed_directories (parent_of_deepest_directory old.at)) (held_without_lists_of_directory (slash_joined_components (deepest_components_or_root old.at)) old.attributes) (held_rules_with_directory_popped old.ignore)) (sym made)
      (record {
        are_read = less-read (setup_of_stack old) old.at step.are_read;
        lists = less-lists old.root old.case old.mappings old.checkout old.attributes old.ignore s old.at step.lists;
        rules = less-held (setup_of_stack old) old.at old.ignore step.rules;
      }))))

  -- a directory is pushed
  more-held : (root : List ℕ) (case : Case) (mappings : List RulesFileMapping) (checkout : Option Checkout) (attributes : Option AttributesSetup) (held : Option HeldIgnoreRules) (names : List (List ℕ)) (list : RulesList) (matched : Option ExcludeDecision)
      → (rulebook_of_stack_setup (record { root = root; case = case; mappings = mappings; checkout = checkout; attributes = attributes; ignore = setup_of_held_ignore_rules held }) s).of_directory names ≡ list → matched ≡ own_match_if_rules_held held (slash_joined_components names) (Some true) case
      → HoldsIgnoreRulesOfTree (record { root = root; case = case; mappings = mappings; checkout = checkout; attributes = attributes; ignore = setup_of_held_ignore_rules held }) s (proper_ancestor_directories names) held
      → HoldsIgnoreRulesOfTree (record { root = root; case = case; mappings = mappings; checkout = checkout; attributes = attributes; ignore = setup_of_held_ignore_rules held }) s (all_prefixes_shortest_first names) (held_rules_with_directory_pushed list matched held)
  more-held root case mappings checkout attributes None names list matched read own holds = tt
  more-held root case mappings checkout attributes (Some held) names list matched read own holds =
      subst (λ (m : Option ExcludeDecision). AreRulesAndMatchesOfTree (record { root = root; case = case; mappings = mappings; checkout = checkout; attributes = attributes; ignore = Some held.setup }) s (all_prefixes_shortest_first names) (held.lists ++ list ∷ []) (held.matches ++ m ∷ []))
      (sym own) (one_more root case mappings checkout attributes held.setup s names held.lists held.matches list holds read)

  pub pushed_more : (old : StackModel) (held : Option HeldIgnoreRules) (path : List ℕ) (list : RulesList) (matched : Option ExcludeDecision)
      → path ≡ slash_joined_components old.current → (rulebook_of_stack_setup (setup_of_stack old) s).of_directory old.current ≡ list → matched ≡ own_match_if_rules_held old.ignore path (Some true) old.case
      → held ≡ held_rules_with_directory_pushed list matched old.ignore
      → HoldsIgnoreRulesOfTree (setup_of_stack old) s (proper_ancestor_directories old.current) old.ignore → HoldsIgnoreRulesOfTree (setup_of_stack old) s (all_prefixes_shortest_first old.current) held
  pushed_more old held path list matched paths read own held_is holds =
      subst (λ (h : Option HeldIgnoreRules). HoldsIgnoreRulesOfTree (setup_of_stack old) s (all_prefixes_shortest_first old.current) h) (sym held_is)
      (more-held old.root old.case old.mappings old.checkout (setup_of_held_attributes old.attributes) old.ignore old.current list matched read
      (own ∙ ap (λ (p : List ℕ). own_match_if_rules_held old.ignore p (Some true) old.case) paths) holds)

-- where there are no ignore rules, none are held
pub rules-none : (made : StackSetup) (s : TreeAndObjects) (directories : List (List (List ℕ))) (held : Option HeldIgnoreRules) → setup_of_held_ignore_rules held ≡ None → HoldsIgnoreRulesOfTree made s directories held
rules-none made s directories None none = tt
rules-none made s directories (Some held) none = absurd (cc none)

-- a directory whose readings are done is pushed
pub pushed_all : (made : StackSetup) (s : TreeAndObjects) (names : List (List ℕ)) (attributes attributes' : Option HeldAttributeLists) (ignore ignore' : Option HeldIgnoreRules)
    → HoldsRulesOfTree made s (proper_ancestor_directories names) attributes ignore → is_read_without_refusal (rules_texts_of_readings s (readings_of_directory made (slash_joined_components names))) ≡ true
    → held_attribute_lists attributes' ≡ held_attribute_lists attributes ++ attribute_lists_of_directory made s names → HoldsIgnoreRulesOfTree made s (all_prefixes_shortest_first names) ignore'
    → HoldsRulesOfTree made s (all_prefixes_shortest_first names) attributes' ignore'
unfolding rules_texts_of_directory
pushed_all made s names attributes attributes' ignore ignore' holds read lists rules =
    let last : all_prefixes_shortest_first names ≡ proper_ancestor_directories names ++ names ∷ [] = pushed-ancestors names in
    record {
      are_read = ap (list_all (λ d. is_read_without_refusal (rules_texts_of_directory made s (slash_joined_components d)))) last
          ∙ all-last (λ d. is_read_without_refusal (rules_texts_of_directory made s (slash_joined_components d))) (proper_ancestor_directories names) names
          ∙ both_true _ _ holds.are_read read;
      lists = lists ∙ ap (λ (xs : List AttributeList). xs ++ attribute_lists_of_directory made s names) holds.lists ∙ sym (ap (flat_map (attribute_lists_of_directory made s)) last ∙ flat-last (attribute_lists_of_directory made s) (proper_ancestor_directories names) names);
      rules = rules;
    }

-- the directories above one below the deepest one are those that are pushed
pub pushed-below : (at : Option (List (List ℕ))) (names : List (List ℕ)) (name : List ℕ) → is_some at ≡ true → names ≡ deepest_components_or_root at ++ name ∷ []
    → pushed_directories at ≡ proper_ancestor_directories names
pushed-below None names name some e = absurd (cc some)
pushed-below (Some d) names name some e = below d ∙ sym (ap proper_ancestor_directories e)
  where
    below : (d : List (List ℕ)) → all_prefixes_shortest_first d ≡ proper_ancestor_directories (d ++ name ∷ [])
    below [] = refl
    below (first ∷ d) = sym (ap all_prefixes_shortest_first (without_last-snoc (first ∷ d) name))
