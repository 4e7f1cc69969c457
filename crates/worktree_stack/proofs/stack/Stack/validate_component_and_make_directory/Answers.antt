use Rattle.std.proofs.Common.{◌∙◌, Bool, refl, sym, ap, rules}
use Rattle.worktree_stack.specs.Validate.{component_error}
use Rattle.worktree_stack.proofs.CheckOut.Readied.{readies-bad, readies-made, error-fits, ok-fits}
use Rattle.worktree_stack.proofs.stack.Stack.validate_component_and_make_directory.Goals as goal

pub returns-in-Err : goal.returns-in-Err
returns-in-Err g c =
    readies-bad g.W.Worktree _ _ _ c.args.name.now c.args.is_last c.args.worktree.now c.args.self.now c.in-Err.why
    (ap (λ (b : Bool). component_error c.args.name.now b c.args.checkout.validate.protect_windows) (sym c.is_symlink_mode.ensures)
    ∙ error-fits _ c.component.result c.in-Err.why c.component.ensures c.in-Err.is)

pub returns : goal.returns
returns g c =
    readies-made g.W.Worktree _ _ _ c.args.name.now c.args.is_last c.args.self.now _ c.current.result.now _ c.create_leading_directory.new.mkdir_calls c.create_leading_directory.result
    (ap (λ (b : Bool). component_error c.args.name.now b c.args.checkout.validate.protect_windows) (sym c.is_symlink_mode.ensures)
    ∙ ok-fits _ c.component.result c.component.ensures c.in_default.not-Err)
    (sym c.must_be_directory.ensures ∙ c.if-not-must_be_directory.false) refl (search rules) (search rules) (search rules) c.create_leading_directory.ensures
