-- A stack whose rules and matches are those of the directories above a path decides about it as the rulebook does.
use Rattle.std.specs.Option.{option_or}
use Rattle.std.specs.Prelude.{◌≡◌, ℕ, Bool, List, [], ◌∷◌, ◌++◌, length, map, reverse, Option, Some, None, if◌then◌else◌}
use Rattle.std.proofs.Common.{refl, sym, ap, ◌∙◌, subst, arith, length-append}
use Rattle.std.proofs.lemmas.List.{reverse-append, map-append, length-map}
use Rattle.glob_rules.specs.declared.ignore.RuleGroup.TheVariants.{Overrides, Directory, Globals}
use Rattle.glob_rules.specs.Ignore.{MatchedRule, RulesList, rule_matching_path_in_list, numbered_rule_of_first_list, rule_of_last_matching_list, numbered_rule_of_last_list, rule_with_list_number, first_place_or_other}
use Rattle.worktree_fs.specs.Paths.{slash_joined_components, all_prefixes_shortest_first, all_but_last}
use Rattle.worktree_stack.specs.Setup.{HeldIgnoreRules, decision_by_list_number, own_match_among_held_rules, deciding_match_of_held_parents, deciding_match_of_path}
use Rattle.worktree_stack.specs.Excludes.{ExcludeRulebook, ExcludeDecision, decision_with_group, is_excluding_decision, first_match_in_directories, own, own_match_of_directory, deciding_match_of_parents, above, exclude, proper_ancestor_directories}

reversed_map : {A B : Type 0} (f : A → B) (xs : List A) → reverse (map f xs) ≡ map f (reverse xs)
reversed_map f [] = refl
reversed_map f (x ∷ xs) = reverse-append (f x ∷ []) (map f xs) ∙ ap (λ ys. ys ++ f x ∷ []) (reversed_map f xs) ∙ sym (map-append f (reverse xs) (x ∷ [])) ∙ ap (map f) (sym (reverse-append (x ∷ []) xs))

-- ---- the number of a directory's list is the number of its components

-- each directory has as many components as directories stand behind it
abbrev pub IsLadder : List (List (List ℕ)) → Type 0
IsLadder [] = Unit {0}
IsLadder (directory ∷ rest) = (length directory ≡ length rest) × IsLadder rest

ladder-below : (name : List ℕ) (directories : List (List (List ℕ))) → IsLadder directories
    → IsLadder (map (λ (d : List (List ℕ)). name ∷ d) directories ++ [] ∷ [])
ladder-below name [] ladder = (refl, tt)
ladder-below name (d ∷ rest) ladder = (
  omega (arith, ladder.0, length-append (map (λ (d : List (List ℕ)). name ∷ d) rest) ([] ∷ []), length-map rest (λ (d : List (List ℕ)). name ∷ d)),
  ladder-below name rest ladder.1,
)

ladder-fronts : (names : List (List ℕ)) → IsLadder (reverse (all_prefixes_shortest_first names))
ladder-fronts [] = (refl, tt)
ladder-fronts (name ∷ names) =
    subst IsLadder
    (sym (reverse-append ([] ∷ []) (map (λ (d : List (List ℕ)). name ∷ d) (all_prefixes_shortest_first names)) ∙ ap (λ (ds : List (List (List ℕ))). ds ++ [] ∷ []) (reversed_map (λ (d : List (List ℕ)). name ∷ d) (all_prefixes_shortest_first names))))
    (ladder-below name (reverse (all_prefixes_shortest_first names)) (ladder-fronts names))

ladder-ancestors : (names : List (List ℕ)) → IsLadder (reverse (proper_ancestor_directories names))
ladder-ancestors [] = tt
ladder-ancestors (name ∷ names) = ladder-fronts (all_but_last (name ∷ names))

by_place_else : (a b : Option (ℕ × MatchedRule)) → decision_by_list_number (first_place_or_other a b) ≡ option_or (decision_by_list_number a) (decision_by_list_number b)
by_place_else None b = refl
by_place_else (Some place) b = refl

by_number : (number : ℕ) (hit : Option MatchedRule) → decision_by_list_number (rule_with_list_number number hit) ≡ decision_with_group (Directory number) hit
by_number number None = refl
by_number number (Some hit) = refl

-- the rules of some directories, the first before the others
place_in_directories : (book : ExcludeRulebook) (path : List ℕ) (is_dir : Option Bool) (directories : List (List (List ℕ))) → IsLadder directories
    → decision_by_list_number (numbered_rule_of_first_list path is_dir book.case (map book.of_directory directories)) ≡ first_match_in_directories book path is_dir directories
place_in_directories book path is_dir [] ladder = refl
place_in_directories book path is_dir (d ∷ rest) ladder =
    let here : Option MatchedRule = rule_matching_path_in_list path is_dir book.case (book.of_directory d) in
    let n : ℕ = length (map book.of_directory rest) in
    let more : Option (ℕ × MatchedRule) = numbered_rule_of_first_list path is_dir book.case (map book.of_directory rest) in
    by_place_else (rule_with_list_number n here) more
    ∙ ap (λ x. option_or x (decision_by_list_number more)) (by_number n here)
    ∙ ap (λ (k : ℕ). option_or (decision_with_group (Directory k) here) (decision_by_list_number more)) (length-map rest book.of_directory ∙ sym ladder.0)
    ∙ ap (option_or (decision_with_group (Directory (length d)) here)) (place_in_directories book path is_dir rest ladder.1)

-- the rules of the directories that are pushed, searched from the last
place_above : (book : ExcludeRulebook) (names path : List (List ℕ)) (is_dir : Option Bool)
    → decision_by_list_number (numbered_rule_of_last_list (map book.of_directory (proper_ancestor_directories names)) (slash_joined_components path) is_dir book.case) ≡ first_match_in_directories book (slash_joined_components path) is_dir (reverse (proper_ancestor_directories names))
place_above book names path is_dir =
    ap (λ (lists : List RulesList). decision_by_list_number (numbered_rule_of_first_list (slash_joined_components path) is_dir book.case lists)) (reversed_map book.of_directory (proper_ancestor_directories names))
    ∙ place_in_directories book (slash_joined_components path) is_dir (reverse (proper_ancestor_directories names)) (ladder-ancestors names)

-- ---- what decides

-- what is held is that of a rulebook, for some directories
pub record IsHeld (book : ExcludeRulebook) (held : HeldIgnoreRules) (directories : List (List (List ℕ))) : Type 0 where
  pub overrides : held.setup.overrides ≡ book.overrides
  pub globals : held.setup.globals ≡ book.globals
  pub lists : held.lists ≡ map book.of_directory directories

-- the own match of a path
pub own_is : (book : ExcludeRulebook) (held : HeldIgnoreRules) (names : List (List ℕ)) (is_dir : Option Bool) → IsHeld book held (proper_ancestor_directories names)
    → own_match_among_held_rules held (slash_joined_components names) is_dir book.case ≡ own book names is_dir
unfolding own
own_is book held names is_dir h =
    let path = slash_joined_components names in
    let by : List RulesList → List RulesList → List RulesList → Option ExcludeDecision = λ over lists under.
    option_or (decision_with_group Overrides (rule_of_last_matching_list over path is_dir book.case)) (option_or (decision_by_list_number (numbered_rule_of_last_list lists path is_dir book.case)) (decision_with_group Globals (rule_of_last_matching_list under path is_dir book.case))) in
    ap (λ over. by over held.lists held.setup.globals) h.overrides
    ∙ ap (λ lists. by book.overrides lists held.setup.globals) h.lists
    ∙ ap (by book.overrides (map book.of_directory (proper_ancestor_directories names))) h.globals
    ∙ ap (λ middle. option_or (decision_with_group Overrides (rule_of_last_matching_list book.overrides path is_dir book.case)) (option_or middle (decision_with_group Globals (rule_of_last_matching_list book.globals path is_dir book.case))))
    (place_above book names names is_dir)

-- the own match of a directory above a path that decides
pub above_is : (book : ExcludeRulebook) (held : HeldIgnoreRules) (names : List (List ℕ)) → held.setup.strict ≡ book.strict
    → held.matches ≡ map (own_match_of_directory book) (proper_ancestor_directories names) → deciding_match_of_held_parents held ≡ above book names
unfolding above
above_is book held names strict matches = ap (λ b. deciding_match_of_parents b held.matches) strict ∙ ap (deciding_match_of_parents book.strict) matches

-- a stack that holds what a rulebook has for the directories above a path decides about it as the rulebook does
pub deciding_is : (book : ExcludeRulebook) (held : HeldIgnoreRules) (names : List (List ℕ)) (is_dir : Option Bool) (b : ℕ) (bytes : List ℕ)
    → slash_joined_components names ≡ b ∷ bytes → IsHeld book held (proper_ancestor_directories names) → held.setup.strict ≡ book.strict
    → held.matches ≡ map (own_match_of_directory book) (proper_ancestor_directories names)
    → deciding_match_of_path held (slash_joined_components names) is_dir book.case ≡ exclude book names is_dir
unfolding exclude
deciding_is book held names is_dir b bytes e h strict matches =
    let by : Option ExcludeDecision → Option ExcludeDecision → Option ExcludeDecision = λ over self. if is_excluding_decision over then over else option_or self over in
    ap (λ path. deciding_match_of_path held path is_dir book.case) e
    ∙ ap (λ over. by over (own_match_among_held_rules held (b ∷ bytes) is_dir book.case)) (above_is book held names strict matches)
    ∙ ap (λ path. by (above book names) (own_match_among_held_rules held path is_dir book.case)) (sym e)
    ∙ ap (by (above book names)) (own_is book held names is_dir h)
