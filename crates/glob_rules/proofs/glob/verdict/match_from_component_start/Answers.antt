use Rattle.glob_rules.proofs.Followed.{stars_then}
use Rattle.glob_rules.proofs.glob.verdict.match_from_component_start.Goals as goal

pub returns-in-Stars-clause-tells : goal.returns-in-Stars-clause-tells
returns-in-Stars-clause-tells c =
    stars_then c.args.mode c.args.pattern.now c.args.text.now c.in-Stars.after.now c.in-Stars.there.now c.in-Stars.ensures.tells c.match_rest_after_stars.result c.match_rest_after_stars.ensures.tells
