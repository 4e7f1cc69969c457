-- What a stack says of the path that it stands at.
use Rattle.std.proofs.Common.{◌≡◌, ℕ, List, [], ◌++◌, append_assoc, inl, inr, Bool, true, false, not, Option, Some, refl, sym, subst, ap, ◌∙◌}
use Rattle.std.specs.List.{list_all}
use Rattle.gitbase_core.specs.Objects.{ObjectsById}
use Rattle.gitbase_core.specs.Path.{components}
use Rattle.worktree_fs.specs.Tree.{Names}
use Rattle.worktree_fs.specs.Paths.{slash_joined_components, all_prefixes_shortest_first, all_but_last}
use Rattle.worktree_stack.specs.Setup.{StackSetup, has_excludes}
use Rattle.worktree_stack.specs.Excludes.{exclude}
use Rattle.worktree_stack.specs.Exclusions.{exclusion_of_decision}
use Rattle.worktree_stack.specs.declared.platform.Exclusion.{Exclusion}
use Rattle.worktree_stack.specs.Reading.{TreeAndObjects, Tells, rules_texts_of_directory, is_read_without_refusal, rulebook_of_stack_setup}
use Rattle.worktree_stack.specs.Stacked.{StackModel, setup_of_stack, pushed_directories, IsInStepWithTree}
use Rattle.worktree_fs.specs.PathStack.{DelegateCall, IsProperAncestor, IsNothingOrProperAncestor, delegate_calls_of_lookup}
use Rattle.std.proofs.lemmas.List.{append-nil}
use Rattle.worktree_stack.specs.declared.error.AtPathError.{AtPathError}
use Rattle.worktree_stack.specs.declared.error.AtPathError.TheVariants as errors
use Rattle.worktree_stack.specs.Steps.{CarriesOutCalls, StopsAfterCalls, StopsLookupByError, refused_call_as_list}
use Rattle.dir_classify.specs.Kept.{LeavesPushedByFirstCalls}
use Rattle.worktree_stack.specs.Lookups.{StandsAtPath}
use Rattle.dir_classify.specs.declared.excludes.Ruling.{Ruling}
use Rattle.dir_classify.specs.Excludes.{TellsTreeAndObjects}
use Rattle.dir_classify.specs.Layers.{ruling_of_optional_setup, ruling_from_decision, is_some_rules_file_unread}

-- a store tells its objects, where rules are given
pub tells-given : (told : Option Names) (holds : Option ObjectsById) (made : StackSetup) (s : TreeAndObjects) → TellsTreeAndObjects told holds (Some made) s → Tells told holds s
tells-given told holds made s told_so = record { tree_is = told_so.tree_is; objects_are = told_so.objects_are refl }

abbrev ruling-of : Exclusion → Ruling
ruling-of found = record { kind = found.kind; origin = found.origin }

-- both parts of a ruling are of one decision
pub ruling-looked : (sources : TreeAndObjects) (made : StackSetup) (s : StackModel) (path : List ℕ) (is_dir : Option Bool) (found : Exclusion)
    → setup_of_stack s ≡ made → s.is_dir ≡ is_dir
    → found ≡ exclusion_of_decision (exclude (rulebook_of_stack_setup (setup_of_stack s) sources) (components path) s.is_dir)
    → ruling-of found ≡ ruling_of_optional_setup (Some made) sources path is_dir
unfolding ruling_of_optional_setup
ruling-looked sources made s path is_dir found made_is dir_is found_is =
    ap ruling-of found_is
    ∙ ap (λ (m : StackSetup). ruling_from_decision (exclude (rulebook_of_stack_setup m sources) (components path) s.is_dir)) made_is
    ∙ ap (λ (d : Option Bool). ruling_from_decision (exclude (rulebook_of_stack_setup made sources) (components path) d)) dir_is

-- the rules of all directories above it were read
pub read-looked : (sources : TreeAndObjects) (made : StackSetup) (s : StackModel) (path : List ℕ) → has_excludes made ≡ true → setup_of_stack s ≡ made → IsInStepWithTree sources s → StandsAtPath s (components path) → is_some_rules_file_unread (Some made) sources path ≡ false
unfolding is_some_rules_file_unread
read-looked sources made s path some made_is step at =
    let read : StackSetup → List (List (List ℕ)) → Bool = λ m directories. list_all (λ directory. is_read_without_refusal (rules_texts_of_directory m sources (slash_joined_components directory))) directories in
    let now : read (setup_of_stack s) (pushed_directories s.at) ≡ true = step.are_read in
    let all : read (setup_of_stack s) (all_prefixes_shortest_first (all_but_last (components path))) ≡ true = ap (λ (a : Option (List (List ℕ))). read (setup_of_stack s) (pushed_directories a)) (sym at.at) ∙ now in
    ap (λ (m : StackSetup). not (read m (all_prefixes_shortest_first (all_but_last (components path))))) (sym made_is) ∙ ap not all

-- what is pushed then lies on the way to it
pub on-way-looked : (s : StackModel) (path : List ℕ) → StandsAtPath s (components path) → IsNothingOrProperAncestor s.at (components path)
on-way-looked s path looked =
    let above : List (List ℕ) = all_but_last (components path) in
    let way : IsProperAncestor (components path) above = record { rest = []; joined = sym (append-nil above) } in
    subst (λ (at : Option (List (List ℕ))). IsNothingOrProperAncestor at (components path)) (sym looked.at) way

-- ---- what it leaves pushed

-- all calls of a lookup were carried out
pub leaves-answered : (told : Option Names) (holds : Option ObjectsById) (path : List ℕ) (old new : StackModel) → CarriesOutCalls told holds (delegate_calls_of_lookup old.at (components path)) old new
    → LeavesPushedByFirstCalls path old.at new.at
leaves-answered told holds path old new carried =
    record { done = delegate_calls_of_lookup old.at (components path); undone = []; calls_are = sym (append-nil (delegate_calls_of_lookup old.at (components path))); left = carried.left }

leaves-at : (path : List ℕ) (old new : StackModel) (done : List DelegateCall) (begun : Option DelegateCall) → StopsAfterCalls (delegate_calls_of_lookup old.at (components path)) old new done begun
    → LeavesPushedByFirstCalls path old.at new.at
leaves-at path old new done begun stopped =
    record { done = done; undone = refused_call_as_list begun ++ stopped.unmade; calls_are = stopped.front ∙ append_assoc done (refused_call_as_list begun) stopped.unmade; left = stopped.left }

-- only the first ones were
pub leaves-refused : (told : Option Names) (holds : Option ObjectsById) (TreeFailed StoreFailed : Type 0) (path : List ℕ) (old new : StackModel) (e : AtPathError)
    → StopsLookupByError told holds TreeFailed StoreFailed (delegate_calls_of_lookup old.at (components path)) old new e → LeavesPushedByFirstCalls path old.at new.at
leaves-refused told holds TreeFailed StoreFailed path old new errors.NotNormal stopped = absurd stopped
leaves-refused told holds TreeFailed StoreFailed path old new (errors.Component why) stopped = absurd stopped
leaves-refused told holds TreeFailed StoreFailed path old new (errors.Collision p) stopped = absurd stopped
leaves-refused told holds TreeFailed StoreFailed path old new (errors.Directory p why) stopped = absurd stopped
leaves-refused told holds TreeFailed StoreFailed path old new (errors.RulesFile p why) stopped = leaves-at path old new stopped.done _ stopped.stopped
leaves-refused told holds TreeFailed StoreFailed path old new (errors.Blob id why) stopped = leaves-at path old new stopped.done _ stopped.stopped
leaves-refused told holds TreeFailed StoreFailed path old new errors.OutOfMemory (inl stopped) = leaves-at path old new stopped.done _ stopped.stopped
leaves-refused told holds TreeFailed StoreFailed path old new errors.OutOfMemory (inr stopped) = leaves-at path old new stopped.done _ stopped.stopped
