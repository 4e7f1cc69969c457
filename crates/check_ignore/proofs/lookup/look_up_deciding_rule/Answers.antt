use Rattle.std.proofs.Common.{ap, Some, arith, rules}
use Rattle.check_ignore.proofs.Looked.{answered-finds, refused-finds}
use Rattle.check_ignore.proofs.lookup.look_up_deciding_rule.Goals as goal

pub returns-in-Ok : goal.returns-in-Ok
returns-in-Ok g c =
    answered-finds g.W.Worktree _ c.args.asked.now c.args.is_dir _ _ (ap Some c.new-objects.ensures) c.requires.in_step c.mode_by_is_dir-mode.ensures c.platform.ensures c.as_bytes-path.ensures
    c.in-Ok.ensures.unfaulted c.in-Ok.ensures.asks c.in-Ok.ensures.looks_up c.in_ok-deciding_rule_of_platform_path-in-Ok.ensures

pub returns : goal.returns
returns g c =
    refused-finds g.W.Worktree _ c.args.asked.now c.args.is_dir c.in_ok-stop_of_lookup_error-in-Err.field-0 (ap Some c.new-objects.ensures) (λ rose. omega (arith, rose)) c.as_bytes-path.ensures (search rules)
    c.in-Err.ensures.asks c.in-Err.ensures.looks_up
