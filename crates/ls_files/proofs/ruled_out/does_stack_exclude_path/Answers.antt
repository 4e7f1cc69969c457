use Rattle.std.proofs.Common.{Some, ap, arith, refl}
use Rattle.ls_files.proofs.RuledOut.{answered-finds, refused-finds}
use Rattle.ls_files.proofs.ruled_out.does_stack_exclude_path.Goals as goal

pub returns-in-Ok-clause-finds : goal.returns-in-Ok-clause-finds
returns-in-Ok-clause-finds g c =
    answered-finds g.W.Worktree _ c.args.path.now c.args.is_dir c.args.setup.now.blobs _ _ (ap Some c.in_ok-objects.ensures) c.requires.in_step c.mode_from_is_dir-mode.ensures c.platform.ensures refl
    c.in-Ok.ensures.unfaulted c.in-Ok.ensures.asks c.in-Ok.ensures.looks_up c.is_excluded.ensures

pub returns-clause-finds : goal.returns-clause-finds
returns-clause-finds g c =
    refused-finds g.W.Worktree _ c.args.path.now c.args.is_dir c.args.setup.now.blobs c.excluded_error_of_lookup_error.result (ap Some c.in_ok-objects.ensures) (λ rose. omega (arith, rose)) refl c.excluded_error_of_lookup_error.ensures
    c.in-Err.ensures.asks c.in-Err.ensures.looks_up
