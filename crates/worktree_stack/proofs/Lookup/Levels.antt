-- A stack stays level where a directory is pushed or popped.
use Rattle.std.specs.Prelude.{◌≡◌, ℕ, ◌+◌, ◌-◌, List, [], ◌∷◌, ◌++◌, length, take, Option, Some, None}
use Rattle.std.proofs.Common.{refl, sym, ap, ◌∙◌, subst, arith}
use Rattle.std.proofs.lemmas.List.{length-append, length-take}
use Rattle.glob_rules.specs.Attributes.{AttributeList}
use Rattle.glob_rules.specs.Ignore.{RulesList}
use Rattle.worktree_fs.specs.Paths.{all_prefixes_shortest_first, slash_joined_components}
use Rattle.worktree_fs.specs.PathStack.{parent_of_deepest_directory, deepest_components_or_root}
use Rattle.worktree_stack.specs.Excludes.{ExcludeDecision, proper_ancestor_directories}
use Rattle.worktree_stack.specs.Setup.{AttributesSetup, HeldAttributeLists, HeldIgnoreRules, setup_of_held_attributes, setup_of_held_ignore_rules, held_attribute_lists, lists_without_last, lists_without_info_file, held_without_lists_of_directory, HasListsAppended, held_rules_with_directory_pushed, held_rules_with_directory_popped}
use Rattle.worktree_stack.specs.Stacked.{StackModel, CountsMatchDirectories, HasListCountOfDirectories, HasRulesCountOfDirectories, HasCountsOfPushedDirectories, pushed_directories, number_of_info_lists, number_of_lists_of_directory, number_of_lists_of_directories}
use Rattle.worktree_stack.specs.Lookups.{stack_after_pushing_component}
use Rattle.worktree_stack.proofs.Lookup.InStep.{pushed-ancestors, up-ancestors}

-- a directory and those above it are one more than those above it
one-more : (names : List (List ℕ)) → length (all_prefixes_shortest_first names) ≡ length (proper_ancestor_directories names) + 1
one-more names = ap length (pushed-ancestors names) ∙ length-append (proper_ancestor_directories names) (names ∷ [])

one-less : {A : Type 0} (xs : List A) (names : List (List ℕ)) → length xs ≡ length (all_prefixes_shortest_first names) → length (take (length xs - 1) xs) ≡ length (proper_ancestor_directories names)
one-less xs names as_many = omega (arith, as_many, length-take (length xs - 1) xs, one-more names)

none-less : {A : Type 0} (xs : List A) → length xs ≡ 0 → length (take (length xs - 1) xs) ≡ 0
none-less xs none = omega (arith, none, length-take (length xs - 1) xs)

less-rules : (at : Option (List (List ℕ))) (held : Option HeldIgnoreRules) → HasRulesCountOfDirectories (pushed_directories at) held → HasRulesCountOfDirectories (pushed_directories (parent_of_deepest_directory at)) (held_rules_with_directory_popped held)
less-rules at None level = tt
less-rules None (Some held) level = (none-less held.lists level.0, none-less held.matches level.1)
less-rules (Some names) (Some held) level =
    subst (λ (ds : List (List (List ℕ))). HasRulesCountOfDirectories ds (held_rules_with_directory_popped (Some held))) (up-ancestors names)
    (one-less held.lists names level.0, one-less held.matches names level.1)

-- how many lists some directories and one more have
count-last : (setup : Option AttributesSetup) (ds : List (List (List ℕ))) (names : List (List ℕ)) → number_of_lists_of_directories setup (ds ++ names ∷ []) ≡ number_of_lists_of_directories setup ds + number_of_lists_of_directory setup (slash_joined_components names)
count-last setup [] names = omega arith
count-last setup (d ∷ ds) names = omega (arith, count-last setup ds names)

count-more : (setup : Option AttributesSetup) (names : List (List ℕ)) → number_of_lists_of_directories setup (all_prefixes_shortest_first names) ≡ number_of_lists_of_directories setup (proper_ancestor_directories names) + number_of_lists_of_directory setup (slash_joined_components names)
count-more setup names = ap (number_of_lists_of_directories setup) (pushed-ancestors names) ∙ count-last setup (proper_ancestor_directories names) names

-- as many lists are dropped as a directory has
count-dropped : (setup : AttributesSetup) (d : List ℕ) (xs : List AttributeList) (n : ℕ) → length xs ≡ n + number_of_lists_of_directory (Some setup) d → length (lists_without_last (lists_without_info_file setup.info d xs)) ≡ n
count-dropped setup d xs n many = go setup.info d many
  where
    go : (info : Option (List ℕ)) (d : List ℕ) → length xs ≡ n + (1 + number_of_info_lists info d) → length (lists_without_last (lists_without_info_file info d xs)) ≡ n
    go None d e = omega (arith, e, length-take (length xs - 1) xs)
    go (Some path) [] e = omega (arith, e, length-take (length xs - 1) xs, length-take (length (lists_without_last xs) - 1) (lists_without_last xs))
    go (Some path) (b ∷ bs) e = omega (arith, e, length-take (length xs - 1) xs)

none-dropped : (info : Option (List ℕ)) (d : List ℕ) (xs : List AttributeList) → length xs ≡ 0 → length (lists_without_last (lists_without_info_file info d xs)) ≡ 0
none-dropped None d xs e = omega (arith, e, length-take (length xs - 1) xs)
none-dropped (Some path) [] xs e = omega (arith, e, length-take (length xs - 1) xs, length-take (length (lists_without_last xs) - 1) (lists_without_last xs))
none-dropped (Some path) (b ∷ bs) xs e = omega (arith, e, length-take (length xs - 1) xs)

-- with no attribute state no list is held
none-counted : (ds : List (List (List ℕ))) → number_of_lists_of_directories None ds ≡ 0
none-counted [] = refl
none-counted (d ∷ ds) = omega (arith, none-counted ds)

less-lists : (at : Option (List (List ℕ))) (held : Option HeldAttributeLists) → HasListCountOfDirectories (pushed_directories at) held → HasListCountOfDirectories (pushed_directories (parent_of_deepest_directory at)) (held_without_lists_of_directory (slash_joined_components (deepest_components_or_root at)) held)
less-lists at None level = sym (none-counted (pushed_directories (parent_of_deepest_directory at)))
less-lists None (Some held) level = none-dropped held.setup.info [] held.lists level
less-lists (Some names) (Some held) level =
    count-dropped held.setup (slash_joined_components names) held.lists (number_of_lists_of_directories (Some held.setup) (proper_ancestor_directories names)) (level ∙ count-more (Some held.setup) names)
    ∙ ap (number_of_lists_of_directories (Some held.setup)) (up-ancestors names)

-- the deepest directory is popped
pub popped-level : (old new : StackModel) → new.at ≡ parent_of_deepest_directory old.at → new.attributes ≡ held_without_lists_of_directory (slash_joined_components (deepest_components_or_root old.at)) old.attributes → new.ignore ≡ held_rules_with_directory_popped old.ignore → HasCountsOfPushedDirectories old → HasCountsOfPushedDirectories new
popped-level old new at attributes ignore level =
    subst (λ (h : Option HeldIgnoreRules). CountsMatchDirectories (pushed_directories new.at) new.attributes h) (sym ignore)
    (subst (λ (h : Option HeldAttributeLists). CountsMatchDirectories (pushed_directories new.at) h (held_rules_with_directory_popped old.ignore)) (sym attributes)
    (subst (λ (a : Option (List (List ℕ))). CountsMatchDirectories (pushed_directories a) (held_without_lists_of_directory (slash_joined_components (deepest_components_or_root old.at)) old.attributes) (held_rules_with_directory_popped old.ignore)) (sym at)
    (less-lists old.at old.attributes level.0, less-rules old.at old.ignore level.1)))

more-held : (held : Option HeldIgnoreRules) (names : List (List ℕ)) (list : RulesList) (matched : Option ExcludeDecision)
    → HasRulesCountOfDirectories (proper_ancestor_directories names) held → HasRulesCountOfDirectories (all_prefixes_shortest_first names) (held_rules_with_directory_pushed list matched held)
more-held None names list matched level = tt
more-held (Some held) names list matched level = (
  omega (arith, level.0, length-append held.lists (list ∷ []), one-more names),
  omega (arith, level.1, length-append held.matches (matched ∷ []), one-more names),
)

-- a directory is pushed
pub pushed-level : (held held' : Option HeldIgnoreRules) (names : List (List ℕ)) (list : RulesList) (matched : Option ExcludeDecision)
    → held' ≡ held_rules_with_directory_pushed list matched held → HasRulesCountOfDirectories (proper_ancestor_directories names) held → HasRulesCountOfDirectories (all_prefixes_shortest_first names) held'
pushed-level held held' names list matched held_is level =
    subst (λ (h : Option HeldIgnoreRules). HasRulesCountOfDirectories (all_prefixes_shortest_first names) h) (sym held_is) (more-held held names list matched level)

-- where there are no ignore rules, none are held
pub level-none : (directories : List (List (List ℕ))) (held : Option HeldIgnoreRules) → setup_of_held_ignore_rules held ≡ None → HasRulesCountOfDirectories directories held
level-none directories None none = tt
level-none directories (Some held) none = absurd (cc none)

-- the lists of a directory are pushed
pub lists-level : (held held' : Option HeldAttributeLists) (setup : Option AttributesSetup) (names : List (List ℕ)) → setup_of_held_attributes held ≡ setup → setup_of_held_attributes held' ≡ setup_of_held_attributes held
    → HasListsAppended (number_of_lists_of_directory setup (slash_joined_components names)) (held_attribute_lists held) (held_attribute_lists held') → HasListCountOfDirectories (proper_ancestor_directories names) held → HasListCountOfDirectories (all_prefixes_shortest_first names) held'
lists-level held held' setup names setup_is same many level =
    ap length many.longer ∙ length-append (held_attribute_lists held) many.more ∙ omega (arith, level, many.many, ap (λ (s : Option AttributesSetup). number_of_lists_of_directories s (proper_ancestor_directories names)) setup_is, count-more setup names)
    ∙ sym (ap (λ (s : Option AttributesSetup). number_of_lists_of_directories s (all_prefixes_shortest_first names)) (same ∙ setup_is))

-- a path below the deepest directory is made current
pub level-below : (old new : StackModel) (name : List ℕ) → new ≡ stack_after_pushing_component old name → HasCountsOfPushedDirectories old → HasCountsOfPushedDirectories new
level-below old new name stepped_is level =
    let there : HasCountsOfPushedDirectories (stack_after_pushing_component old name) = level in
    subst HasCountsOfPushedDirectories (sym stepped_is) there
