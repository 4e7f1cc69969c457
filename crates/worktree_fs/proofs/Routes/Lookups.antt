-- How far a lookup has come in its loops.
use Rattle.std.proofs.Common.{◌≡◌, ℕ, ◌+◌, ◌-◌, ◌<◌, ◌≤◌, Bool, true, false, List, [], ◌∷◌, ◌++◌, length, take, drop, get_or, Result, Ok, Err, OnOk, OnErr, replicate, Option, Some, refl, sym, ap, subst, ◌∙◌, arith, append_assoc}
use Rattle.std.specs.Prelude.{IsErrAnd}
use Rattle.std.proofs.lemmas.List.{append-nil, take_more, take_all}
use Rattle.std.proofs.lemmas.Grind.{replicate_next}
use Rattle.worktree_fs.specs.Paths.{slash_joined_components, is_nil, all_but_last}
use Rattle.worktree_fs.specs.PathStack.{PathStackModel, CallWithRefusal, DelegateCall, pop_directory, push, call_with_refusal, parent_of_deepest_directory, deepest_components_or_root, stack_with_deepest_current, stack_after_lookup, number_of_directories_to_pop, shared_proper_ancestor_components, delegate_calls_to_push_root, delegate_calls_of_lookup, delegate_calls_of_component, delegate_calls_of_components, AppendsGrantedDelegateCalls, IsNothingOrProperAncestor}
use Rattle.worktree_fs.specs.Stops.{CountsRefusalsAndKeepsDelegateRule, StopsByLookupError, HoldsOfDelegateError, HoldsUnlessDelegateError}
use Rattle.worktree_fs.specs.Causes.{CountIncreasedOrSaturated}
use Rattle.worktree_fs.specs.declared.path_stack.delegate.PathStackError.{PathStackError}
use Rattle.worktree_fs.specs.declared.path_stack.delegate.PathStackError.TheVariants.{NotNormal, Delegate, OutOfMemory}
use Rattle.worktree_fs.proofs.Calls.{Granted-append, Stopped-after, Stopped-more, granted_pop}
use Rattle.worktree_fs.proofs.Paths.Fronts.{without_last-append, one_up-snoc, kept-fits, kept-names, kept-rest, kept-end}
use Rattle.worktree_fs.proofs.Paths.Spelled.{without_last-snoc}
use Rattle.worktree_fs.proofs.Paths.Standing.{same_standing}

-- a stack that stands at its deepest directory, of these components
abbrev pub at_directory : List ℕ → List (List ℕ) → PathStackModel
at_directory root names = record { root = root; deepest = Some names; current = names }

-- so many directories were popped
pub record Popped (s0 s : PathStackModel) (old new : List CallWithRefusal) (count : ℕ) : Type 0 where
  pub stands : s ≡ at_directory s0.root (take (length s0.current - count) s0.current)
  pub given : AppendsGrantedDelegateCalls old new s0.deepest s.deepest (replicate count pop_directory)

pub popped-none : (s : PathStackModel) (old : List CallWithRefusal) → s.deepest ≡ Some s.current → Popped s s old old 0
popped-none s old top = record {
  stands =
      let all : take (length s.current - 0) s.current ≡ s.current = take_all (length s.current - 0) s.current (omega arith) in
      same_standing s (at_directory s.root (take (length s.current - 0) s.current)) refl (top ∙ ap Some (sym all)) (sym all);
  given = record { given = sym (append-nil old); left = refl };
}

pub popped-more : (s0 s s' : PathStackModel) (old mid new : List CallWithRefusal) (count : ℕ) → count < length s0.current
    → Popped s0 s old mid count → new ≡ mid ++ call_with_refusal pop_directory false ∷ []
    → s' ≡ stack_with_deepest_current (record { root = s.root; deepest = parent_of_deepest_directory s.deepest; current = s.current })
    → Popped s0 s' old new (count + 1)
popped-more s0 s s' old mid new count low popped given after =
    let n : ℕ = length s0.current - (count + 1) in
    let names : List (List ℕ) = take n s0.current in
    let last : List ℕ = get_or s0.current n [] in
    let next : length s0.current - count ≡ n + 1 = omega arith in
    let split : take (length s0.current - count) s0.current ≡ names ++ last ∷ [] =
    ap (λ m. take m s0.current) next ∙ take_more s0.current n [] (omega arith) in
    let at_is : s.deepest ≡ Some (names ++ last ∷ []) = ap (λ (x : PathStackModel). x.deepest) popped.stands ∙ ap Some split in
    let up : parent_of_deepest_directory s.deepest ≡ Some names = ap parent_of_deepest_directory at_is ∙ one_up-snoc names last in
    let root_is : s.root ≡ s0.root = ap (λ (x : PathStackModel). x.root) popped.stands in
    let stands : s' ≡ at_directory s0.root names =
    after
    ∙ same_standing (stack_with_deepest_current (record { root = s.root; deepest = parent_of_deepest_directory s.deepest; current = s.current })) (at_directory s0.root names)
    root_is up (ap deepest_components_or_root up) in
    let to_is : s'.deepest ≡ Some names = ap (λ (x : PathStackModel). x.deepest) stands in
    let one : AppendsGrantedDelegateCalls mid new s.deepest s'.deepest (pop_directory ∷ []) = rw (at_is, to_is) (granted_pop mid new names last given) in
    record {
      stands = stands;
      given =
          rw (replicate_next count pop_directory)
          (Granted-append old mid new s0.deepest s.deepest s'.deepest (replicate count pop_directory) (pop_directory ∷ []) popped.given one);
    }

-- until the proper ancestors are left
pub popped-end : (s0 s : PathStackModel) (old new : List CallWithRefusal) (count : ℕ) (parts : List (List ℕ)) → Popped s0 s old new count
    → s0.deepest ≡ Some s0.current → count ≡ number_of_directories_to_pop s0.deepest parts → s ≡ at_directory s0.root (shared_proper_ancestor_components s0.current parts)
popped-end s0 s old new count parts popped top all =
    let names_is : deepest_components_or_root s0.deepest ≡ s0.current = ap deepest_components_or_root top in
    let count_is : count ≡ length s0.current - length (shared_proper_ancestor_components s0.current parts) =
    all ∙ ap (λ (l : List (List ℕ)). length l - length (shared_proper_ancestor_components l parts)) names_is in
    let place : length s0.current - count ≡ length (shared_proper_ancestor_components s0.current parts) = omega (arith, kept-fits s0.current parts, count_is) in
    popped.stands
    ∙ ap (at_directory s0.root) (ap (λ n. take n s0.current) place ∙ kept-names s0.current parts)

-- so much of the path behind a directory was pushed, and some is left
pub record Descended (s0 s : PathStackModel) (old new : List CallWithRefusal) (whole rest : List (List ℕ)) : Type 0 where
  pub made : List DelegateCall
  pub given : AppendsGrantedDelegateCalls old new s0.deepest s.deepest made
  pub calls : delegate_calls_of_components s0.current whole ≡ made ++ delegate_calls_of_components s.current rest
  pub names : s0.current ++ whole ≡ s.current ++ rest
  pub top : s.deepest ≡ Some s.current
  pub end : rest ≡ [] → s.current ≡ []
  pub root : s.root ≡ s0.root

pub descended-none : (s : PathStackModel) (old : List CallWithRefusal) (whole : List (List ℕ)) → s.deepest ≡ Some s.current → (whole ≡ [] → s.current ≡ [])
    → Descended s s old old whole whole
descended-none s old whole top end = record {
  made = [];
  given = record { given = sym (append-nil old); left = refl };
  calls = refl;
  names = refl;
  top = top;
  end = end;
  root = refl;
}

module _ (s0 s : PathStackModel) (old mid new : List CallWithRefusal) (whole rest more : List (List ℕ)) (name : List ℕ)
    (so_far : Descended s0 s old mid whole rest) (rest_is : rest ≡ name ∷ more) where
  names_is : deepest_components_or_root s.deepest ≡ s.current
  names_is = ap deepest_components_or_root so_far.top

  -- a directory more
  pub descended-more : (s' : PathStackModel) → is_nil more ≡ false
      → s' ≡ at_directory s.root (deepest_components_or_root s.deepest ++ name ∷ [])
      → AppendsGrantedDelegateCalls mid new s.deepest s'.deepest (delegate_calls_of_component (deepest_components_or_root s.deepest) name false)
      → Descended s0 s' old new whole more
  descended-more s' some after given =
      let current_is : s'.current ≡ s.current ++ name ∷ [] =
      ap (λ (x : PathStackModel). x.current) after ∙ ap (λ l. l ++ name ∷ []) names_is in
      record {
        made = so_far.made ++ delegate_calls_of_component (deepest_components_or_root s.deepest) name false;
        given = Granted-append old mid new s0.deepest s.deepest s'.deepest so_far.made (delegate_calls_of_component (deepest_components_or_root s.deepest) name false) so_far.given given;
        calls =
            so_far.calls
            ∙ ap (λ l. so_far.made ++ delegate_calls_of_components s.current l) rest_is
            ∙ ap (λ b. so_far.made ++ (delegate_calls_of_component s.current name b ++ delegate_calls_of_components (s.current ++ name ∷ []) more)) some
            ∙ ap (λ l. so_far.made ++ (delegate_calls_of_component l name false ++ delegate_calls_of_components (s.current ++ name ∷ []) more)) (sym names_is)
            ∙ ap (λ l. so_far.made ++ (delegate_calls_of_component (deepest_components_or_root s.deepest) name false ++ delegate_calls_of_components l more)) (sym current_is)
            ∙ sym (append_assoc so_far.made (delegate_calls_of_component (deepest_components_or_root s.deepest) name false) (delegate_calls_of_components s'.current more));
        names =
            so_far.names
            ∙ ap (λ l. s.current ++ l) rest_is
            ∙ sym (append_assoc s.current (name ∷ []) more)
            ∙ ap (λ l. l ++ more) (sym current_is);
        top = ap (λ (x : PathStackModel). x.deepest) after ∙ ap (λ (x : PathStackModel). Some x.current) (sym after);
        end = λ none. absurd (cc (some, ap is_nil none));
        root = ap (λ (x : PathStackModel). x.root) after ∙ so_far.root;
      }

  -- the deepest directory lies on the way to the whole path
  pub on_way : (s' : PathStackModel) → s'.deepest ≡ s.deepest → IsNothingOrProperAncestor s'.deepest (s0.current ++ whole)
  on_way s' same =
      subst (λ d. IsNothingOrProperAncestor d (s0.current ++ whole)) (sym (same ∙ so_far.top))
      (record {
        rest = all_but_last (name ∷ more);
        joined = ap all_but_last (so_far.names ∙ ap (λ l. s.current ++ l) rest_is) ∙ without_last-append s.current name more;
      })

  -- a stop at a directory or at the last component
  pub stopped-at : {E : Type 0} (s' : PathStackModel) (b : Bool) (e : PathStackError E) → is_nil more ≡ b
      → StopsByLookupError mid new s.deepest s'.deepest (delegate_calls_of_component (deepest_components_or_root s.deepest) name b) e
      → StopsByLookupError old new s0.deepest s'.deepest (delegate_calls_of_components s0.current whole) e
  stopped-at s' b e last stopped =
      let calls_is : delegate_calls_of_components s0.current whole ≡ so_far.made ++ (delegate_calls_of_component (deepest_components_or_root s.deepest) name b ++ delegate_calls_of_components (s.current ++ name ∷ []) more) =
      so_far.calls
      ∙ ap (λ l. so_far.made ++ delegate_calls_of_components s.current l) rest_is
      ∙ ap (λ t. so_far.made ++ (delegate_calls_of_component s.current name t ++ delegate_calls_of_components (s.current ++ name ∷ []) more)) last
      ∙ ap (λ l. so_far.made ++ (delegate_calls_of_component l name b ++ delegate_calls_of_components (s.current ++ name ∷ []) more)) (sym names_is) in
      rw calls_is
      (Stopped-after old mid new s0.deepest s.deepest s'.deepest so_far.made (delegate_calls_of_component (deepest_components_or_root s.deepest) name b ++ delegate_calls_of_components (s.current ++ name ∷ []) more) e so_far.given
      (Stopped-more mid new s.deepest s'.deepest (delegate_calls_of_component (deepest_components_or_root s.deepest) name b) (delegate_calls_of_components (s.current ++ name ∷ []) more) e stopped))

  -- the last component
  module _ (s' : PathStackModel) (last : is_nil more ≡ true)
      (after : s' ≡ record { root = s.root; deepest = s.deepest; current = deepest_components_or_root s.deepest ++ name ∷ [] }) where
    none : more ≡ []
    none = nothing more last
      where
        nothing : (l : List (List ℕ)) → is_nil l ≡ true → l ≡ []
        nothing [] e = refl
        nothing (x ∷ l) e = absurd (cc e)

    whole_is : s0.current ++ whole ≡ s.current ++ name ∷ []
    whole_is = so_far.names ∙ ap (λ l. s.current ++ l) rest_is ∙ ap (λ l. s.current ++ name ∷ l) none

    pub ended-state : s' ≡ stack_after_lookup s0 (s0.current ++ whole)
    ended-state =
        after
        ∙ same_standing (record { root = s.root; deepest = s.deepest; current = deepest_components_or_root s.deepest ++ name ∷ [] }) (stack_after_lookup s0 (s0.current ++ whole))
        so_far.root
        (so_far.top ∙ ap Some (sym (ap all_but_last whole_is ∙ without_last-snoc s.current name)))
        (ap (λ l. l ++ name ∷ []) names_is ∙ sym whole_is)

    pub ended-given : AppendsGrantedDelegateCalls mid new s.deepest s'.deepest (push (slash_joined_components (deepest_components_or_root s.deepest ++ name ∷ [])) true ∷ [])
        → AppendsGrantedDelegateCalls old new s0.deepest s'.deepest (delegate_calls_of_components s0.current whole)
    ended-given given =
        let calls_is : delegate_calls_of_components s0.current whole ≡ so_far.made ++ push (slash_joined_components (deepest_components_or_root s.deepest ++ name ∷ [])) true ∷ [] =
        so_far.calls
        ∙ ap (λ l. so_far.made ++ delegate_calls_of_components s.current l) rest_is
        ∙ ap (λ l. so_far.made ++ delegate_calls_of_components s.current (name ∷ l)) none
        ∙ ap (λ l. so_far.made ++ push (slash_joined_components (l ++ name ∷ [])) true ∷ []) (sym names_is) in
        rw calls_is (Granted-append old mid new s0.deepest s.deepest s'.deepest so_far.made (push (slash_joined_components (deepest_components_or_root s.deepest ++ name ∷ [])) true ∷ []) so_far.given given)

-- nothing was left from the first
module _ (s0 s : PathStackModel) (old new : List CallWithRefusal) (whole rest : List (List ℕ)) (so_far : Descended s0 s old new whole rest) (none : rest ≡ []) where
  pub root-state : s ≡ stack_after_lookup s0 (s0.current ++ whole)
  root-state =
      let empty : s.current ≡ [] = so_far.end none in
      let whole_is : s0.current ++ whole ≡ [] = so_far.names ∙ ap (λ l. s.current ++ l) none ∙ append-nil s.current ∙ empty in
      same_standing s (stack_after_lookup s0 (s0.current ++ whole)) so_far.root
      (so_far.top ∙ ap Some empty ∙ sym (ap (λ (l : List (List ℕ)). Some (all_but_last l)) whole_is))
      (empty ∙ sym whole_is)

  pub root-given : AppendsGrantedDelegateCalls old new s0.deepest s.deepest (delegate_calls_of_components s0.current whole)
  root-given =
      let calls_is : delegate_calls_of_components s0.current whole ≡ so_far.made =
      so_far.calls ∙ ap (λ l. so_far.made ++ delegate_calls_of_components s.current l) none ∙ append-nil so_far.made in
      rw calls_is so_far.given

-- a step after others that were granted counts refusals, and keeps the delegate's rule, from the first of them on
module _ {D E : Type 0} (refusals : D → ℕ) (causes : D → E → Type 0) (rule : D → D → Type 0) (old mid new : D)
    (unrefused : refusals mid ≡ refusals old) (later : refusals old ≤ refusals mid) (ruled : (first : D) → rule first old → rule first mid) where
  rises-from_first : (e : PathStackError E) → HoldsOfDelegateError (λ _. CountIncreasedOrSaturated (refusals mid) (refusals new)) e → HoldsOfDelegateError (λ _. CountIncreasedOrSaturated (refusals old) (refusals new)) e
  rises-from_first NotNormal rose = tt
  rises-from_first (Delegate error) rose = omega (arith, later, rose)
  rises-from_first OutOfMemory rose = tt

  stays-from_first : (e : PathStackError E) → HoldsUnlessDelegateError (refusals new ≡ refusals mid) e → HoldsUnlessDelegateError (refusals new ≡ refusals old) e
  stays-from_first NotNormal stayed = stayed ∙ unrefused
  stays-from_first (Delegate error) stayed = tt
  stays-from_first OutOfMemory stayed = stayed ∙ unrefused

  pub counts-after : {T : Type 0} (r : Result T (PathStackError E)) → CountsRefusalsAndKeepsDelegateRule refusals causes rule mid new r → CountsRefusalsAndKeepsDelegateRule refusals causes rule old new r
  counts-after (Ok x) step = record {
    counted = tt;
    uncounted = tt;
    cause = tt;
    unrefused = step.unrefused ∙ unrefused;
    later = omega (arith, later, step.later);
    ruled = λ first held. step.ruled first (ruled first held);
  }
  counts-after (Err e) step = record {
    counted = rises-from_first e step.counted;
    uncounted = stays-from_first e step.uncounted;
    cause = step.cause;
    unrefused = tt;
    later = omega (arith, later, step.later);
    ruled = λ first held. step.ruled first (ruled first held);
  }

  -- the same where its error is handed on
  pub counts-handed_on : {T U : Type 0} (r : Result T (PathStackError E)) (e : PathStackError E) → IsErrAnd r (λ x. x ≡ e)
      → CountsRefusalsAndKeepsDelegateRule {T = U} refusals causes rule mid new (Err e) → CountsRefusalsAndKeepsDelegateRule refusals causes rule old new r
  counts-handed_on (Ok x) e same step = absurd same
  counts-handed_on {T} {U} (Err x) e same step =
      subst (λ (x : PathStackError E). CountsRefusalsAndKeepsDelegateRule {T = T} refusals causes rule old new (Err x)) (sym same) (of_any (counts-after (Err e) step))
    where
      of_any : CountsRefusalsAndKeepsDelegateRule {T = U} refusals causes rule old new (Err e) → CountsRefusalsAndKeepsDelegateRule {T = T} refusals causes rule old new (Err e)
      of_any whole = record {
        counted = whole.counted;
        uncounted = whole.uncounted;
        cause = whole.cause;
        unrefused = tt;
        later = whole.later;
        ruled = whole.ruled;
      }

-- what holds where a call was refused
pub on_err : {T E P : Type 0} (r : Result T E) → P → OnErr r P
on_err (Ok x) holds = tt
on_err (Err e) holds = holds

-- what holds after a call that went well
pub on_ok : {T E P Q : Type 0} (r : Result T E) → (P → Q) → OnOk r P → OnOk r Q
on_ok (Ok x) more holds = more holds
on_ok (Err e) more holds = holds

-- a whole lookup: from s0 the root is pushed, which gives p; then what is too deep is popped, which gives q
module _ (s0 p q : PathStackModel) (parts rest : List (List ℕ))
    (root_is : p ≡ at_directory s0.root (deepest_components_or_root s0.deepest))
    (popped_is : q ≡ at_directory p.root (shared_proper_ancestor_components p.current parts))
    (rest_is : rest ≡ drop (length (deepest_components_or_root q.deepest)) parts) where
  abbrev stay : List (List ℕ)
  stay = shared_proper_ancestor_components (deepest_components_or_root s0.deepest) parts

  stays : q ≡ at_directory s0.root stay
  stays = popped_is ∙ ap (λ (x : PathStackModel). at_directory x.root (shared_proper_ancestor_components x.current parts)) root_is

  left : rest ≡ drop (length stay) parts
  left = rest_is ∙ ap (λ (x : PathStackModel). drop (length (deepest_components_or_root x.deepest)) parts) stays

  pub lookup-end : rest ≡ [] → q.current ≡ []
  lookup-end none = ap (λ (x : PathStackModel). x.current) stays ∙ kept-end (deepest_components_or_root s0.deepest) parts (sym left ∙ none)

  whole : q.current ++ rest ≡ parts
  whole = ap (λ (x : PathStackModel). x.current ++ rest) stays ∙ ap (λ l. stay ++ l) left ∙ kept-rest (deepest_components_or_root s0.deepest) parts

  pub lookup-way : (d : Option (List (List ℕ))) → IsNothingOrProperAncestor d (q.current ++ rest) → IsNothingOrProperAncestor d parts
  lookup-way d way = subst (IsNothingOrProperAncestor d) whole way

  pub lookup-made : (s : PathStackModel) → s ≡ stack_after_lookup q (q.current ++ rest) → s ≡ stack_after_lookup s0 parts
  lookup-made s is =
      is
      ∙ same_standing (stack_after_lookup q (q.current ++ rest)) (stack_after_lookup s0 parts) (ap (λ (x : PathStackModel). x.root) stays)
      (ap (λ (l : List (List ℕ)). Some (all_but_last l)) whole) whole

  module _ (g0 g1 g2 g3 : List CallWithRefusal) (d : Option (List (List ℕ)))
      (root_given : AppendsGrantedDelegateCalls g0 g1 s0.deepest p.deepest (delegate_calls_to_push_root s0.deepest))
      (pops_given : AppendsGrantedDelegateCalls g1 g2 p.deepest q.deepest (replicate (number_of_directories_to_pop p.deepest parts) pop_directory)) where
    abbrev pops : List DelegateCall
    pops = replicate (number_of_directories_to_pop s0.deepest parts) pop_directory

    pops_are : replicate (number_of_directories_to_pop p.deepest parts) pop_directory ≡ pops
    pops_are = ap (λ (x : PathStackModel). replicate (number_of_directories_to_pop x.deepest parts) pop_directory) root_is

    below_are : delegate_calls_of_components q.current rest ≡ delegate_calls_of_components stay (drop (length stay) parts)
    below_are = ap (λ (x : PathStackModel). delegate_calls_of_components x.current rest) stays ∙ ap (delegate_calls_of_components stay) left

    before : AppendsGrantedDelegateCalls g0 g2 s0.deepest q.deepest (delegate_calls_to_push_root s0.deepest ++ pops)
    before =
        Granted-append g0 g1 g2 s0.deepest p.deepest q.deepest (delegate_calls_to_push_root s0.deepest) pops root_given
        (subst (AppendsGrantedDelegateCalls g1 g2 p.deepest q.deepest) pops_are pops_given)

    pub lookup-given : AppendsGrantedDelegateCalls g2 g3 q.deepest d (delegate_calls_of_components q.current rest) → AppendsGrantedDelegateCalls g0 g3 s0.deepest d (delegate_calls_of_lookup s0.deepest parts)
    lookup-given given =
        Granted-append g0 g2 g3 s0.deepest q.deepest d (delegate_calls_to_push_root s0.deepest ++ pops) (delegate_calls_of_components stay (drop (length stay) parts)) before
        (subst (AppendsGrantedDelegateCalls g2 g3 q.deepest d) below_are given)

    pub lookup-stopped : {E : Type 0} (e : PathStackError E) → StopsByLookupError g2 g3 q.deepest d (delegate_calls_of_components q.current rest) e
        → StopsByLookupError g0 g3 s0.deepest d (delegate_calls_of_lookup s0.deepest parts) e
    lookup-stopped e stopped =
        let stopped_here : StopsByLookupError g2 g3 q.deepest d (delegate_calls_of_components stay (drop (length stay) parts)) e =
        subst (λ calls. StopsByLookupError g2 g3 q.deepest d calls e) below_are stopped in
        Stopped-after g0 g2 g3 s0.deepest q.deepest d (delegate_calls_to_push_root s0.deepest ++ pops) (delegate_calls_of_components stay (drop (length stay) parts)) e before stopped_here
