-- What a stack says of the path at which it stands, in step with a tree, is what the rules of the tree say.
use Rattle.std.specs.Option.{option_or}
use Rattle.std.specs.Prelude.{◌≡◌, ℕ, Bool, true, false, if◌then◌else◌, List, [], ◌∷◌, ◌++◌, Option, Some, None, is_some}
use Rattle.std.specs.List.{flat_map}
use Rattle.glob_rules.specs.Attributes.{AttributeList}
use Rattle.std.proofs.Common.{refl, sym, ap, ◌∙◌, subst}
use Rattle.gitbase_core.specs.Path.{components}
use Rattle.gitbase_core.proofs.Names.{AreNames-components}
use Rattle.glob_rules.specs.declared.Case.{Case}
use Rattle.worktree_fs.specs.Paths.{slash_joined_components, all_prefixes_shortest_first, all_but_last}
use Rattle.worktree_fs.proofs.Paths.Spelled.{components-spelled}
use Rattle.worktree_stack.specs.declared.state.Checkout.{Checkout}
use Rattle.worktree_stack.specs.Setup.{AttributesSetup, StackSetup, RulesFileMapping, HeldIgnoreRules, setup_of_held_attributes, setup_of_held_ignore_rules, global_attribute_lists, global_and_held_lists, has_excludes, deciding_match_of_path, deciding_match_if_rules_held}
use Rattle.worktree_stack.specs.Excludes.{ExcludeRulebook, ExcludeDecision, is_excluding_decision, deciding_match_of_parents, own, above, exclude}
use Rattle.worktree_stack.specs.Stacked.{StackModel, AreRulesAndMatchesOfTree, HoldsIgnoreRulesOfTree, IsInStepWithTree, setup_of_stack, pushed_directories}
use Rattle.worktree_stack.specs.Reading.{TreeAndObjects, rulebook_of_stack_setup, attribute_lists_of_directory, attribute_lists_for_path}
use Rattle.worktree_stack.specs.Lookups.{StandsAtPath}
use Rattle.worktree_stack.proofs.Rules.Deciding.{own_is, deciding_is}

none_else : (d : Option ExcludeDecision) → option_or d None ≡ d
none_else None = refl
none_else (Some d) = refl

-- nothing lies above the root
above_root : (book : ExcludeRulebook) → above book [] ≡ None
unfolding above
above_root book = nothing book.strict
  where
    nothing : (b : Bool) → deciding_match_of_parents b [] ≡ None
    nothing true = refl
    nothing false = refl

root_excluded : (book : ExcludeRulebook) (is_dir : Option Bool) → exclude book [] is_dir ≡ own book [] is_dir
unfolding exclude
root_excluded book is_dir =
    ap (λ (over : Option ExcludeDecision). if is_excluding_decision over then over else option_or (own book [] is_dir) over) (above_root book) ∙ none_else (own book [] is_dir)

decided_at : (root : List ℕ) (case : Case) (mappings : List RulesFileMapping) (checkout : Option Checkout) (attributes : Option AttributesSetup) (held : HeldIgnoreRules) (s : TreeAndObjects) (is_dir : Option Bool) (names : List (List ℕ)) (path : List ℕ)
    → slash_joined_components names ≡ path → (names ≡ [] → path ≡ []) → (path ≡ [] → names ≡ [])
    → AreRulesAndMatchesOfTree (record { root = root; case = case; mappings = mappings; checkout = checkout; attributes = attributes; ignore = Some held.setup }) s (all_prefixes_shortest_first (all_but_last names)) held.lists held.matches
    → deciding_match_of_path held (slash_joined_components names) is_dir case ≡ exclude (rulebook_of_stack_setup (record { root = root; case = case; mappings = mappings; checkout = checkout; attributes = attributes; ignore = Some held.setup }) s) names is_dir
decided_at root case mappings checkout attributes held s is_dir [] path e a b those =
    let made : StackSetup = record { root = root; case = case; mappings = mappings; checkout = checkout; attributes = attributes; ignore = Some held.setup } in
    let bare : HeldIgnoreRules = record held { lists = [] } in
    own_is (rulebook_of_stack_setup made s) bare [] is_dir (record { overrides = refl; globals = refl; lists = refl }) ∙ sym (root_excluded (rulebook_of_stack_setup made s) is_dir)
decided_at root case mappings checkout attributes held s is_dir (name ∷ names) [] e a b those = absurd (cc (b refl))
decided_at root case mappings checkout attributes held s is_dir (name ∷ names) (byte ∷ bytes) e a b those =
    let made : StackSetup = record { root = root; case = case; mappings = mappings; checkout = checkout; attributes = attributes; ignore = Some held.setup } in
    deciding_is (rulebook_of_stack_setup made s) held (name ∷ names) is_dir byte bytes e
    (record { overrides = refl; globals = refl; lists = those.lists_are }) refl those.matches_are

decided_if : (root : List ℕ) (case : Case) (mappings : List RulesFileMapping) (checkout : Option Checkout) (attributes : Option AttributesSetup) (held : Option HeldIgnoreRules) (s : TreeAndObjects) (is_dir : Option Bool) (names : List (List ℕ)) (path : List ℕ)
    → is_some (setup_of_held_ignore_rules held) ≡ true → slash_joined_components names ≡ path → (names ≡ [] → path ≡ []) → (path ≡ [] → names ≡ [])
    → HoldsIgnoreRulesOfTree (record { root = root; case = case; mappings = mappings; checkout = checkout; attributes = attributes; ignore = setup_of_held_ignore_rules held }) s (all_prefixes_shortest_first (all_but_last names)) held
    → deciding_match_if_rules_held held (slash_joined_components names) is_dir case ≡ exclude (rulebook_of_stack_setup (record { root = root; case = case; mappings = mappings; checkout = checkout; attributes = attributes; ignore = setup_of_held_ignore_rules held }) s) names is_dir
decided_if root case mappings checkout attributes None s is_dir names path some e a b holds = absurd (cc some)
decided_if root case mappings checkout attributes (Some held) s is_dir names path some e a b holds = decided_at root case mappings checkout attributes held s is_dir names path e a b holds

pub decided : (s : TreeAndObjects) (stack : StackModel) → has_excludes (setup_of_stack stack) ≡ true → IsInStepWithTree s stack → (relative : List ℕ) → StandsAtPath stack (components relative)
    → deciding_match_if_rules_held stack.ignore (slash_joined_components stack.current) stack.is_dir stack.case ≡ exclude (rulebook_of_stack_setup (setup_of_stack stack) s) (components relative) stack.is_dir
decided s stack some in_step relative looked_up =
    let names = components relative in
    let whole : components (slash_joined_components names) ≡ names = components-spelled names (AreNames-components relative) in
    ap (λ (n : List (List ℕ)). deciding_match_if_rules_held stack.ignore (slash_joined_components n) stack.is_dir stack.case) looked_up.current
    ∙ decided_if stack.root stack.case stack.mappings stack.checkout (setup_of_held_attributes stack.attributes) stack.ignore s stack.is_dir names (slash_joined_components names) some refl (λ none. ap slash_joined_components none) (λ none. sym whole ∙ ap components none)
    (subst (λ at. HoldsIgnoreRulesOfTree (setup_of_stack stack) s (pushed_directories at) stack.ignore) looked_up.at in_step.rules)

-- the lists that it holds, above those of the caller, are those that speak of the path at which it stands
pub lists-spoken : (s : TreeAndObjects) (stack : StackModel) → IsInStepWithTree s stack → (names : List (List ℕ)) → StandsAtPath stack names → global_and_held_lists stack.attributes ≡ attribute_lists_for_path (setup_of_stack stack) s names
lists-spoken s stack in_step names looked_up =
    ap (λ (l : List AttributeList). global_attribute_lists (setup_of_held_attributes stack.attributes) ++ l)
    (in_step.lists ∙ ap (λ (at : Option (List (List ℕ))). flat_map (attribute_lists_of_directory (setup_of_stack stack) s) (pushed_directories at)) looked_up.at)
