use Rattle.std.proofs.Common.{Bool, refl, None}
use Rattle.worktree_report.proofs.Runs.{Answers-named, asked-is}
use Rattle.clean_plan.specs.Named.{request_in_specification}
use Rattle.clean_plan.specs.Run as top
use Rattle.clean_plan.proofs.program.clean_plan_text_for_words.Goals as goal

pub returns-in-Some : goal.returns-in-Some
returns-in-Some g c =
    Answers-named (top.AnswersCleanRequest g.W.Worktree g.I.Interrupt _ _ _ _) _ _ _ _ _
    (asked-is request_in_specification (λ (composes : Bool). top.request_of_words composes c.args.words.now) _ c.precomposes.result c.parse_clean_request.result _ c.parse_clean_request.ensures c.precomposes.ensures c.in-Some.is)
    c.clean_plan_text_for_request.ensures

pub returns-in-None : goal.returns-in-None
returns-in-None g c =
    Answers-named (top.AnswersCleanRequest g.W.Worktree g.I.Interrupt _ _ _ _) _ _ _ _ _
    (asked-is request_in_specification (λ (composes : Bool). top.request_of_words composes c.args.words.now) _ c.precomposes.result c.parse_clean_request.result None c.parse_clean_request.ensures c.precomposes.ensures c.in-None.is)
    (record { usage = refl; worktree = refl; interrupt = refl })
