-- A lookup is the root, what is popped, and what is left of the path, one behind another.
use Rattle.std.proofs.Common.{◌≡◌, ◌∙◌, ◌++◌, ◌+◌, [], ℕ, append_assoc, drop, List, Result, Ok, replicate, refl, sym, ap, subst, length, arith, rules}
use Rattle.std.specs.Prelude.{IsErrAnd}
use Rattle.std.proofs.lemmas.List.{append-nil}
use Rattle.std.proofs.lemmas.Result.{IfErr-weaker}
use Rattle.worktree_fs.proofs.Calls.{handed_on}
use Rattle.worktree_fs.proofs.Routes.Lookups.{on_ok}
use Rattle.gitbase_core.specs.Path.{components}
use Rattle.worktree_fs.specs.PathStack.{DelegateCall, shared_proper_ancestor_components, deepest_components_or_root, delegate_calls_of_components, delegate_calls_to_push_root, number_of_directories_to_pop, pop_directory, delegate_calls_of_lookup}
use Rattle.worktree_stack.specs.declared.error.AtPathError.{AtPathError}
use Rattle.worktree_stack.specs.Lookups.{one_if_refused, directories_kept_by_lookup}
use Rattle.worktree_stack.specs.Moments.{worktree_store_and_stack}
use Rattle.worktree_stack.specs.StackSteps.{PushKeepsSetupAndTree, CarriesOutOrStopsCalls, SeesNamesReadByCalls}
use Rattle.worktree_stack.specs.Stacked.{setup_of_stack, pushed_directories}
use Rattle.worktree_stack.proofs.Lookup.Arriving.{arrives-whole}
use Rattle.worktree_stack.proofs.Lookup.Asked.{asks-whole, asks-cut, one-refused}
use Rattle.worktree_stack.proofs.Lookup.Carrying.{carries-as, carries-none, carries-then, stops-after}
use Rattle.worktree_stack.proofs.Lookup.Looking.{IsStaying, ends, stay_names, calls_are, root-length, length-pushed}
use Rattle.worktree_stack.proofs.Refusals.{is_err}
use Rattle.worktree_stack.proofs.Lookup.SeeingOn.{on-front}
use Rattle.worktree_stack.proofs.Lookup.StackSteps.{holds-popped, holds-then, keeps-popped, keeps-then, moves-popped, no-answer, sees-behind, sees-popped-on, stops-behind, told-before}
use Rattle.worktree_stack.proofs.stack.Stack.look_up_without_making_directories.Goals as goal

pub push_remaining_components-requires-clause-end : goal.push_remaining_components-requires-clause-end
push_remaining_components-requires-clause-end g c =
    ends c.args.self.now.at c.push_root_with_rules.new.self.at c.pop_non_ancestor_directories.new.self.at (components c.args.relative.now) (components c.components_to_push-left.result.now)
    (record { rooted = c.in_ok-push_root_with_rules.ensures.stands.at; popped = c.pop_non_ancestor_directories.ensures.at; left_is = c.components_to_push-left.ensures })

-- ---- the root was refused

pub returns-in_err-push_root_with_rules-clause-moves : goal.returns-in_err-push_root_with_rules-clause-moves
returns-in_err-push_root_with_rules-clause-moves g c =
    let told = g.W.Worktree.told c.args.worktree.now in
    let holds = g.F.Find.holds c.args.objects.now in
    let old = c.args.self.now in
    let parts : List (List ℕ) = components c.args.relative.now in
    let pops : List DelegateCall = replicate (number_of_directories_to_pop old.at parts) pop_directory in
    let below : List DelegateCall = delegate_calls_of_components (shared_proper_ancestor_components (deepest_components_or_root old.at) parts) (drop (length (shared_proper_ancestor_components (deepest_components_or_root old.at) parts)) parts) in
    let e : AtPathError = c.in_err-push_root_with_rules.field-0.0 in
    let same : IsErrAnd c.from_residual.result (λ x. x ≡ e) = search rules in
    record {
      carried = no-answer _ c.from_residual.result e same;
      stopped =
          handed_on c.from_residual.result e _ same
          (stops-after told holds (delegate_calls_of_lookup old.at parts) [] (delegate_calls_to_push_root old.at) (pops ++ below) old old c.push_root_with_rules.new.self (append_assoc (delegate_calls_to_push_root old.at) pops below)
          (carries-none told holds old old refl refl refl) refl _ _ _ _ (λ rose. rose) (λ rose. rose) e c.in_err-push_root_with_rules.ensures.moves.stopped);
    }

pub returns-in_err-push_root_with_rules-clause-sees : goal.returns-in_err-push_root_with_rules-clause-sees
returns-in_err-push_root_with_rules-clause-sees g c =
    let told = g.W.Worktree.told c.args.worktree.now in
    let holds = g.F.Find.holds c.args.objects.now in
    let parts : List (List ℕ) = components c.args.relative.now in
    let pops : List DelegateCall = replicate (number_of_directories_to_pop c.args.self.now.at parts) pop_directory in
    let below : List DelegateCall = delegate_calls_of_components (shared_proper_ancestor_components (deepest_components_or_root c.args.self.now.at) parts) (drop (length (shared_proper_ancestor_components (deepest_components_or_root c.args.self.now.at) parts)) parts) in
    let e : AtPathError = c.in_err-push_root_with_rules.field-0.0 in
    let same : IsErrAnd c.from_residual.result (λ x. x ≡ e) = search rules in
    subst (λ (r : Result (Unit {0}) AtPathError). SeesNamesReadByCalls g.W.Worktree g.F.Find (worktree_store_and_stack c.args.worktree.now c.args.objects.now c.args.self.now) (worktree_store_and_stack c.push_root_with_rules.new.worktree c.push_root_with_rules.new.objects c.push_root_with_rules.new.self)
    (delegate_calls_of_lookup c.args.self.now.at parts) r) (sym (is_err c.from_residual.result e same))
    (on-front told holds (setup_of_stack c.args.self.now) (delegate_calls_to_push_root c.args.self.now.at) (pops ++ below) (delegate_calls_of_lookup c.args.self.now.at parts) c.args.self.now.attributes c.push_root_with_rules.new.self.attributes e
    (append_assoc (delegate_calls_to_push_root c.args.self.now.at) pops below) c.in_err-push_root_with_rules.ensures.sees)

pub returns-in_err-push_root_with_rules-clause-asks : goal.returns-in_err-push_root_with_rules-clause-asks
returns-in_err-push_root_with_rules-clause-asks g c =
    let parts : List (List ℕ) = components c.args.relative.now in
    let pops : List DelegateCall = replicate (number_of_directories_to_pop c.args.self.now.at parts) pop_directory in
    let below : List DelegateCall = delegate_calls_of_components (shared_proper_ancestor_components (deepest_components_or_root c.args.self.now.at) parts) (drop (length (shared_proper_ancestor_components (deepest_components_or_root c.args.self.now.at) parts)) parts) in
    let e : AtPathError = c.in_err-push_root_with_rules.field-0.0 in
    let same : IsErrAnd c.from_residual.result (λ x. x ≡ e) = search rules in
    asks-cut g.W.Worktree (worktree_store_and_stack c.args.worktree.now c.args.objects.now c.args.self.now) (worktree_store_and_stack c.push_root_with_rules.new.worktree c.push_root_with_rules.new.objects c.push_root_with_rules.new.self) (pops ++ below) (delegate_calls_of_lookup c.args.self.now.at parts) c.from_residual.result parts
    (append_assoc (delegate_calls_to_push_root c.args.self.now.at) pops below) c.in_err-push_root_with_rules.ensures.none (one-refused c.from_residual.result e same) c.push_root_with_rules.ensures.asks

-- ---- the whole

pub returns-clause-keeps : goal.returns-clause-keeps
returns-clause-keeps g c =
    let W = g.W.Worktree in
    let F = g.F.Find in
    let before = worktree_store_and_stack c.args.worktree.now c.args.objects.now c.args.self.now in
    let rooted = worktree_store_and_stack c.push_root_with_rules.new.worktree c.push_root_with_rules.new.objects c.push_root_with_rules.new.self in
    let popped = worktree_store_and_stack c.push_root_with_rules.new.worktree c.push_root_with_rules.new.objects c.pop_non_ancestor_directories.new.self in
    keeps-then W F before popped (worktree_store_and_stack c.push_remaining_components.new.worktree c.push_remaining_components.new.objects c.push_remaining_components.new.self) c.push_remaining_components.result
    (keeps-popped W F before rooted c.pop_non_ancestor_directories.new.self c.in_ok-push_root_with_rules.ensures.keeps c.pop_non_ancestor_directories.ensures.pops) c.push_remaining_components.ensures.keeps

pub returns-clause-arrives : goal.returns-clause-arrives
returns-clause-arrives g c =
    let directories_kept_by_lookup : IsStaying c.args.self.now.at c.push_root_with_rules.new.self.at c.pop_non_ancestor_directories.new.self.at (components c.args.relative.now) (components c.components_to_push-left.result.now) =
    record { rooted = c.in_ok-push_root_with_rules.ensures.stands.at; popped = c.pop_non_ancestor_directories.ensures.at; left_is = c.components_to_push-left.ensures } in
    arrives-whole c.args.self.now.at c.push_root_with_rules.new.self.at c.pop_non_ancestor_directories.new.self.at (components c.args.relative.now) (components c.components_to_push-left.result.now) directories_kept_by_lookup c.push_remaining_components.new.self c.push_remaining_components.result refl c.push_remaining_components.ensures.arrives

pub returns-clause-moves : goal.returns-clause-moves
returns-clause-moves g c =
    let W = g.W.Worktree in
    let F = g.F.Find in
    let before = worktree_store_and_stack c.args.worktree.now c.args.objects.now c.args.self.now in
    let rooted = worktree_store_and_stack c.push_root_with_rules.new.worktree c.push_root_with_rules.new.objects c.push_root_with_rules.new.self in
    let popped = worktree_store_and_stack c.push_root_with_rules.new.worktree c.push_root_with_rules.new.objects c.pop_non_ancestor_directories.new.self in
    let now = worktree_store_and_stack c.push_remaining_components.new.worktree c.push_remaining_components.new.objects c.push_remaining_components.new.self in
    let below : List DelegateCall = delegate_calls_of_components (deepest_components_or_root c.pop_non_ancestor_directories.new.self.at) (components c.components_to_push-left.result.now) in
    let pops : List DelegateCall = replicate (number_of_directories_to_pop c.push_root_with_rules.new.self.at (components c.args.relative.now)) pop_directory in
    let first : List DelegateCall = delegate_calls_to_push_root c.args.self.now.at ++ pops in
    let calls = calls_are c.args.self.now.at c.push_root_with_rules.new.self.at c.pop_non_ancestor_directories.new.self.at (components c.args.relative.now) (components c.components_to_push-left.result.now)
    (record { rooted = c.in_ok-push_root_with_rules.ensures.stands.at; popped = c.pop_non_ancestor_directories.ensures.at; left_is = c.components_to_push-left.ensures }) in
    let keeps : PushKeepsSetupAndTree {T = Unit {0}} W F before popped (Ok tt) = keeps-popped W F before rooted c.pop_non_ancestor_directories.new.self c.in_ok-push_root_with_rules.ensures.keeps c.pop_non_ancestor_directories.ensures.pops in
    let moves : CarriesOutOrStopsCalls {T = Unit {0}} W F before popped first (Ok tt) = moves-popped W F before rooted c.pop_non_ancestor_directories.new.self (delegate_calls_to_push_root c.args.self.now.at) pops c.in_ok-push_root_with_rules.ensures.moves c.pop_non_ancestor_directories.ensures.pops in
    record {
      carried =
          on_ok c.push_remaining_components.result
          (λ carries. carries-as _ _ _ _ c.args.self.now c.push_remaining_components.new.self calls
          (carries-then _ _ first below c.args.self.now c.pop_non_ancestor_directories.new.self c.push_remaining_components.new.self moves.carried (told-before W F before popped below c.pop_non_ancestor_directories.new.self c.push_remaining_components.new.self keeps carries)))
          c.push_remaining_components.ensures.moves.carried;
      stopped =
          IfErr-weaker c.push_remaining_components.result _ _
          (λ e stops. stops-behind W F before popped now _ first below [] (calls ∙ ap (λ l. first ++ l) (sym (append-nil below))) keeps moves e stops)
          c.push_remaining_components.ensures.moves.stopped;
    }

pub returns-clause-holds : goal.returns-clause-holds
returns-clause-holds g c =
    let before = worktree_store_and_stack c.args.worktree.now c.args.objects.now c.args.self.now in
    let rooted = worktree_store_and_stack c.push_root_with_rules.new.worktree c.push_root_with_rules.new.objects c.push_root_with_rules.new.self in
    let popped = worktree_store_and_stack c.push_root_with_rules.new.worktree c.push_root_with_rules.new.objects c.pop_non_ancestor_directories.new.self in
    let now = worktree_store_and_stack c.push_remaining_components.new.worktree c.push_remaining_components.new.objects c.push_remaining_components.new.self in
    let keeps = keeps-popped g.W.Worktree g.F.Find before rooted c.pop_non_ancestor_directories.new.self c.in_ok-push_root_with_rules.ensures.keeps c.pop_non_ancestor_directories.ensures.pops in
    holds-then g.W.Worktree g.F.Find before popped now (Ok tt) keeps (holds-popped g.W.Worktree g.F.Find before rooted c.pop_non_ancestor_directories.new.self c.push_root_with_rules.ensures.holds c.pop_non_ancestor_directories.ensures.pops) c.push_remaining_components.ensures.holds

pub returns-clause-sees : goal.returns-clause-sees
returns-clause-sees g c =
    let W = g.W.Worktree in
    let F = g.F.Find in
    let before = worktree_store_and_stack c.args.worktree.now c.args.objects.now c.args.self.now in
    let rooted = worktree_store_and_stack c.push_root_with_rules.new.worktree c.push_root_with_rules.new.objects c.push_root_with_rules.new.self in
    let popped = worktree_store_and_stack c.push_root_with_rules.new.worktree c.push_root_with_rules.new.objects c.pop_non_ancestor_directories.new.self in
    let now = worktree_store_and_stack c.push_remaining_components.new.worktree c.push_remaining_components.new.objects c.push_remaining_components.new.self in
    let n = number_of_directories_to_pop c.push_root_with_rules.new.self.at (components c.args.relative.now) in
    let first : List DelegateCall = delegate_calls_to_push_root c.args.self.now.at ++ replicate n pop_directory in
    let below : List DelegateCall = delegate_calls_of_components (deepest_components_or_root c.pop_non_ancestor_directories.new.self.at) (components c.components_to_push-left.result.now) in
    sees-behind W F before popped now first below (delegate_calls_of_lookup c.args.self.now.at (components c.args.relative.now)) c.push_remaining_components.result
    (calls_are c.args.self.now.at c.push_root_with_rules.new.self.at c.pop_non_ancestor_directories.new.self.at (components c.args.relative.now) (components c.components_to_push-left.result.now)
    (record { rooted = c.in_ok-push_root_with_rules.ensures.stands.at; popped = c.pop_non_ancestor_directories.ensures.at; left_is = c.components_to_push-left.ensures }))
    (keeps-popped W F before rooted c.pop_non_ancestor_directories.new.self c.in_ok-push_root_with_rules.ensures.keeps c.pop_non_ancestor_directories.ensures.pops)
    (sees-popped-on W F before rooted c.pop_non_ancestor_directories.new.self (delegate_calls_to_push_root c.args.self.now.at) n c.in_ok-push_root_with_rules.ensures.keeps c.in_ok-push_root_with_rules.ensures.sees c.pop_non_ancestor_directories.ensures.pops) c.push_remaining_components.ensures.sees

pub returns-clause-asks : goal.returns-clause-asks
returns-clause-asks g c =
    let W = g.W.Worktree in
    let F = g.F.Find in
    let before = worktree_store_and_stack c.args.worktree.now c.args.objects.now c.args.self.now in
    let rooted = worktree_store_and_stack c.push_root_with_rules.new.worktree c.push_root_with_rules.new.objects c.push_root_with_rules.new.self in
    let popped = worktree_store_and_stack c.push_root_with_rules.new.worktree c.push_root_with_rules.new.objects c.pop_non_ancestor_directories.new.self in
    let now = worktree_store_and_stack c.push_remaining_components.new.worktree c.push_remaining_components.new.objects c.push_remaining_components.new.self in
    let is : IsStaying c.args.self.now.at c.push_root_with_rules.new.self.at c.pop_non_ancestor_directories.new.self.at (components c.args.relative.now) (components c.components_to_push-left.result.now) =
    record { rooted = c.in_ok-push_root_with_rules.ensures.stands.at; popped = c.pop_non_ancestor_directories.ensures.at; left_is = c.components_to_push-left.ensures } in
    let below : List DelegateCall = delegate_calls_of_components (deepest_components_or_root c.pop_non_ancestor_directories.new.self.at) (components c.components_to_push-left.result.now) in
    let parts : List (List ℕ) = components c.args.relative.now in
    asks-whole W F before rooted popped now (delegate_calls_to_push_root c.args.self.now.at) (number_of_directories_to_pop c.push_root_with_rules.new.self.at parts) below (delegate_calls_of_lookup c.args.self.now.at parts)
    (calls_are c.args.self.now.at c.push_root_with_rules.new.self.at c.pop_non_ancestor_directories.new.self.at (components c.args.relative.now) (components c.components_to_push-left.result.now) is)
    refl (keeps-popped W F before rooted c.pop_non_ancestor_directories.new.self c.in_ok-push_root_with_rules.ensures.keeps c.pop_non_ancestor_directories.ensures.pops)
    (length (delegate_calls_to_push_root c.args.self.now.at)) (length (deepest_components_or_root c.pop_non_ancestor_directories.new.self.at)) (length (deepest_components_or_root c.push_remaining_components.new.self.at) + one_if_refused c.push_remaining_components.result)
    (length (pushed_directories (directories_kept_by_lookup c.args.self.now.at parts))) (length (pushed_directories c.push_remaining_components.new.self.at) + one_if_refused c.push_remaining_components.result)
    (omega (
      arith,
      root-length c.args.self.now.at parts,
      length-pushed c.push_remaining_components.new.self.at c.push_remaining_components.ensures.arrives.some,
      ap length (stay_names c.args.self.now.at c.push_root_with_rules.new.self.at c.pop_non_ancestor_directories.new.self.at (components c.args.relative.now) (components c.components_to_push-left.result.now) is),
    )) c.push_root_with_rules.ensures.asks c.push_remaining_components.ensures.asks
