use Rattle.std.proofs.Common.{◌≡◌, ◌∙◌, ◌++◌, ◌∷◌, [], ap, true, false, Some, List, ℕ, rules}
use Rattle.std.specs.Prelude.{IsErrAnd}
use Rattle.worktree_fs.specs.Paths.{slash_joined_components}
use Rattle.worktree_fs.specs.PathStack.{PathStackModel, deepest_components_or_root, AppendsGrantedDelegateCalls, push, push_directory, call_with_refusal}
use Rattle.worktree_fs.proofs.Calls.{Granted-append, Refused-after, Stopped-more, granted_push, refused_one, handed_on}
use Rattle.worktree_fs.proofs.Paths.Fronts.{some_names}
use Rattle.worktree_fs.proofs.path_stack.PathStack.push_child_directory.Goals as goal

pub returns-in_err-make_child_current_with_delegate-clause-stopped : goal.returns-in_err-make_child_current_with_delegate-clause-stopped
returns-in_err-make_child_current_with_delegate-clause-stopped g c =
    let same : IsErrAnd c.from_residual.result (λ x. x ≡ c.in_err-make_child_current_with_delegate.field-0.0) = search rules in
    handed_on c.from_residual.result c.in_err-make_child_current_with_delegate.field-0.0 _ same
    (Stopped-more _ _ c.args.self.now.deepest c.make_child_current_with_delegate.new.self.deepest _ _ c.in_err-make_child_current_with_delegate.field-0.0 c.in_err-make_child_current_with_delegate.ensures.stopped)

pub returns-in-Err-clause-stopped : goal.returns-in-Err-clause-stopped
returns-in-Err-clause-stopped g c =
    let path : List ℕ = slash_joined_components (deepest_components_or_root c.args.self.now.deepest ++ c.args.name.now ∷ []) in
    let path_is : c.current_relative.result.now ≡ path =
    c.current_relative.ensures.path ∙ ap (λ (s : PathStackModel). slash_joined_components s.current) c.in_ok-make_child_current_with_delegate.ensures.state in
    let refused =
    refused_one _ _ c.make_child_current_with_delegate.new.self.deepest c.make_deepest_current.new.self.deepest (push_directory path)
    (c.in-Err.ensures.added
    ∙ ap (λ (p : List ℕ). g.D.PathDelegate.given c.make_child_current_with_delegate.new.delegate ++ call_with_refusal (push_directory p) true ∷ []) path_is)
    (ap (λ (s : PathStackModel). s.deepest) c.make_deepest_current.ensures) in
    Refused-after _ _ _ c.args.self.now.deepest c.make_child_current_with_delegate.new.self.deepest c.make_deepest_current.new.self.deepest
    (push path false ∷ []) (push_directory path ∷ []) c.in_ok-make_child_current_with_delegate.ensures.given refused

pub returns-clause-given : goal.returns-clause-given
returns-clause-given g c =
    let names : List (List ℕ) = deepest_components_or_root c.args.self.now.deepest in
    let path : List ℕ = slash_joined_components (names ++ c.args.name.now ∷ []) in
    let path_is : c.current_relative.result.now ≡ path =
    c.current_relative.ensures.path ∙ ap (λ (s : PathStackModel). slash_joined_components s.current) c.in_ok-make_child_current_with_delegate.ensures.state in
    let at_is : c.make_child_current_with_delegate.new.self.deepest ≡ Some names =
    ap (λ (s : PathStackModel). s.deepest) c.in_ok-make_child_current_with_delegate.ensures.state ∙ some_names c.args.self.now.deepest c.requires.root in
    let to_is : c.push_current_as_directory.new.self.deepest ≡ Some (names ++ c.args.name.now ∷ []) =
    ap (λ (s : PathStackModel). s.deepest) c.push_current_as_directory.ensures
    ∙ ap (λ (s : PathStackModel). Some s.current) c.in_ok-make_child_current_with_delegate.ensures.state in
    let added =
    c.in_default.ensures.added
    ∙ ap (λ (p : List ℕ). g.D.PathDelegate.given c.make_child_current_with_delegate.new.delegate ++ call_with_refusal (push_directory p) false ∷ []) path_is in
    let second : AppendsGrantedDelegateCalls (g.D.PathDelegate.given c.make_child_current_with_delegate.new.delegate) (g.D.PathDelegate.given c.push_directory.new.self)
    c.make_child_current_with_delegate.new.self.deepest c.push_current_as_directory.new.self.deepest (push_directory path ∷ []) =
    rw (at_is, to_is) (granted_push _ _ names c.args.name.now added) in
    Granted-append _ _ _ c.args.self.now.deepest c.make_child_current_with_delegate.new.self.deepest c.push_current_as_directory.new.self.deepest
    (push path false ∷ []) (push_directory path ∷ []) c.in_ok-make_child_current_with_delegate.ensures.given second
