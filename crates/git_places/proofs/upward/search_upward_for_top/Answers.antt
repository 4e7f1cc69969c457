use Rattle.std.proofs.Common.{rules, ◌≡◌, Ok, Err, inl, Some, List, ℕ, refl, sym, ap, ◌∙◌}
use Rattle.worktree_fs.specs.Owners.{OwnershipByPath}
use Rattle.worktree_fs.specs.Tree.{Names}
use Rattle.git_places.specs.GitDirectory.{git_directory_of_work_tree_top}
use Rattle.git_places.specs.Limits.{path_with_leading_slash, error_where_search_stops, true_unless_error}
use Rattle.git_places.specs.Upward.{top, nearest_top_within_limits, top_here_or_above}
use Rattle.git_places.specs.declared.error.PlacesError.TheVariants as errors
use Rattle.git_places.proofs.Passes.{passes}
use Rattle.git_places.proofs.UpwardLemmas.{starts, stays, refuses, rises_by, tops_by, goes_on, stops, goes, closes, found_top}
use Rattle.git_places.proofs.upward.search_upward_for_top.Goals as goal

pub loop-path-init : goal.loop-path-init
loop-path-init g c =
    let s = starts c.args.current.now c.in_ok-path.path c.in_ok-path.ensures in
    record {
      spelled = s.spelled;
      same = λ t owned told by. s.same (error_where_search_stops owned c.args.limits.now) t;
      unfaulted = refl;
      owners_unfaulted = refl;
      keeps = search rules;
      owners = search rules;
    }

pub returns-in_err-git : goal.returns-in_err-git
returns-in_err-git g c =
    let path : List ℕ = c.loop-path.path in
    let inv = c.loop-path.invariant in
    let dir_is : c.in_ok-directory.directory ≡ path_with_leading_slash path = c.in_ok-directory.ensures ∙ ap path_with_leading_slash c.as_bytes.ensures in
    let arg_is : c.as_bytes-in-loop-path.result.now ≡ path_with_leading_slash path = c.as_bytes-in-loop-path.ensures ∙ dir_is in
    let carry = λ (t : Names) (owned : OwnershipByPath) (told : g.W.Worktree.told c.args.worktree.now ≡ Some t) (by : g.O.Owners.told c.args.owners.now ≡ Some owned).
    passes errors.Fault errors.OutOfMemory c.in_err-git.field-0.0 (git_directory_of_work_tree_top t c.as_bytes-in-loop-path.result.now) (nearest_top_within_limits c.args.limits.now t owned c.args.current.now)
    (c.in_err-git.ensures.gives t (inv.keeps.tree ∙ told))
    (λ h. sym (inv.same t owned told by) ∙ refuses (error_where_search_stops owned c.args.limits.now) path t c.in_err-git.field-0.0 inv.spelled (ap (git_directory_of_work_tree_top t) (sym arg_is) ∙ h))
    in
    search rules

pub returns-in-Some : goal.returns-in-Some
returns-in-Some g c =
    let path : List ℕ = c.loop-path.path in
    let inv = c.loop-path.invariant in
    let dir_is : c.in_ok-directory.directory ≡ path_with_leading_slash path = c.in_ok-directory.ensures ∙ ap path_with_leading_slash c.as_bytes.ensures in
    let arg_is : c.as_bytes-in-loop-path.result.now ≡ path_with_leading_slash path = c.as_bytes-in-loop-path.ensures ∙ dir_is in
    record {
      gives = λ t owned told by.
          sym (inv.same t owned told by)
          ∙ stays (error_where_search_stops owned c.args.limits.now) path c.in-Some.git t inv.spelled (ap (git_directory_of_work_tree_top t) (sym arg_is) ∙ c.in_ok-git.ensures.gives t (inv.keeps.tree ∙ told) ∙ ap Ok c.in-Some.is)
          ∙ ap (λ (d : List ℕ). found_top (top d c.in-Some.git)) (sym dir_is);
      cause = search rules;
      unfaulted = search rules;
      owners_unfaulted = search rules;
      keeps = search rules;
      owners = search rules;
    }

pub returns-then-not-pop_component : goal.returns-then-not-pop_component
returns-then-not-pop_component g c =
    let path : List ℕ = c.loop-path.path in
    let inv = c.loop-path.invariant in
    let dir_is : c.in_ok-directory.directory ≡ path_with_leading_slash path = c.in_ok-directory.ensures ∙ ap path_with_leading_slash c.as_bytes.ensures in
    let arg_is : c.as_bytes-in-loop-path.result.now ≡ path_with_leading_slash path = c.as_bytes-in-loop-path.ensures ∙ dir_is in
    record {
      gives = λ t owned told by. inl
          (sym (inv.same t owned told by)
          ∙ tops_by (error_where_search_stops owned c.args.limits.now) path t (sym c.pop_component.ensures.popped ∙ c.if-not-pop_component.true)
          ∙ ap (top_here_or_above (path_with_leading_slash path) (Err errors.NoRepository)) (ap (git_directory_of_work_tree_top t) (sym arg_is) ∙ c.in_ok-git.ensures.gives t (inv.keeps.tree ∙ told) ∙ ap Ok c.in-None.is));
      cause = search rules;
      unfaulted = search rules;
      owners_unfaulted = search rules;
      keeps = search rules;
      owners = search rules;
    }

pub returns-in_err-require_search_may_enter : goal.returns-in_err-require_search_may_enter
returns-in_err-require_search_may_enter g c =
    let path : List ℕ = c.loop-path.path in
    let inv = c.loop-path.invariant in
    let e = c.in_err-require_search_may_enter.field-0.0 in
    let dir_is : c.in_ok-directory.directory ≡ path_with_leading_slash path = c.in_ok-directory.ensures ∙ ap path_with_leading_slash c.as_bytes.ensures in
    let arg_is : c.as_bytes-in-loop-path.result.now ≡ path_with_leading_slash path = c.as_bytes-in-loop-path.ensures ∙ dir_is in
    let up = rises_by path c.pop_component.new.self inv.spelled (sym c.pop_component.ensures.popped ∙ c.if-not-pop_component.false) c.pop_component.ensures.path in
    let carry = λ (t : Names) (owned : OwnershipByPath) (told : g.W.Worktree.told c.args.worktree.now ≡ Some t) (by : g.O.Owners.told c.args.owners.now ≡ Some owned).
    passes errors.Fault errors.OutOfMemory e (true_unless_error (error_where_search_stops owned c.args.limits.now c.as_bytes-in-loop-path-2.result.now)) (nearest_top_within_limits c.args.limits.now t owned c.args.current.now)
    (c.in_err-require_search_may_enter.ensures.gives owned (inv.owners.told ∙ by))
    (λ h. sym (inv.same t owned told by)
    ∙ stops (error_where_search_stops owned c.args.limits.now) path c.pop_component.new.self t e up
    (ap (git_directory_of_work_tree_top t) (sym arg_is) ∙ c.in_ok-git.ensures.gives t (inv.keeps.tree ∙ told) ∙ ap Ok c.in-None.is)
    (ap (error_where_search_stops owned c.args.limits.now) (sym c.as_bytes-in-loop-path-2.ensures) ∙ closes _ e h))
    in
    search rules

pub loop-path-preserved : goal.loop-path-preserved
loop-path-preserved g c =
    let path : List ℕ = c.loop-path.path in
    let inv = c.loop-path.invariant in
    let dir_is : c.in_ok-directory.directory ≡ path_with_leading_slash path = c.in_ok-directory.ensures ∙ ap path_with_leading_slash c.as_bytes.ensures in
    let arg_is : c.as_bytes-in-loop-path.result.now ≡ path_with_leading_slash path = c.as_bytes-in-loop-path.ensures ∙ dir_is in
    let up = rises_by path c.pop_component.new.self inv.spelled (sym c.pop_component.ensures.popped ∙ c.if-not-pop_component.false) c.pop_component.ensures.path in
    record {
      spelled = up.spelled;
      same = λ t owned told by.
          sym (goes_on (error_where_search_stops owned c.args.limits.now) path c.pop_component.new.self t up
          (ap (git_directory_of_work_tree_top t) (sym arg_is) ∙ c.in_ok-git.ensures.gives t (inv.keeps.tree ∙ told) ∙ ap Ok c.in-None.is)
          (ap (error_where_search_stops owned c.args.limits.now) (sym c.as_bytes-in-loop-path-2.ensures) ∙ goes _ _ (c.in_ok-require_search_may_enter.ensures.gives owned (inv.owners.told ∙ by))))
          ∙ inv.same t owned told by;
      unfaulted = search rules;
      owners_unfaulted = search rules;
      keeps = search rules;
      owners = search rules;
    }
