use Rattle.std.proofs.Common.{rules, []}
use Rattle.glob_rules.proofs.Hearing.{heard_both}
use Rattle.glob_rules.proofs.attributes.standing_at.standing_assignments_of_path.Goals as goal

pub returns : goal.returns
returns c =
    let both = heard_both c.args.globals.now c.args.stack.now c.args.path.now c.args.is_dir c.args.case [] in
    let first = c.in_ok-apply_lists_to_path.ensures in
    let second = c.in_ok-apply_lists_to_path-2.ensures in
    search rules
