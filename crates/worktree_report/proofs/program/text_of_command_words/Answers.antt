use Rattle.std.proofs.Common.{Bool, ap, refl, ◌∙◌, Some, None}
use Rattle.worktree_report.specs.Named.{command_of_borrowed}
use Rattle.worktree_report.specs.Run.{AnswersGivenCommand}
use Rattle.worktree_report.specs.Words.{parse_command_words}
use Rattle.worktree_report.proofs.Runs.{Answers-named, asked-is}
use Rattle.worktree_report.proofs.program.text_of_command_words.Goals as goal

pub returns-in_default : goal.returns-in_default
returns-in_default g c =
    Answers-named (AnswersGivenCommand g.W.Worktree g.I.Interrupt _ _ _ _) _ _ _ _ _
    (asked-is command_of_borrowed (λ (composes : Bool). parse_command_words composes c.args.words.now) _ c.precomposes.result c.parse_command_words.result None c.parse_command_words.ensures c.precomposes.ensures c.in_default.is)
    (record { usage = refl; worktree = refl; interrupt = refl })

pub returns-in-Report : goal.returns-in-Report
returns-in-Report g c =
    Answers-named (AnswersGivenCommand g.W.Worktree g.I.Interrupt _ _ _ _) _ _ _ _ _
    (asked-is command_of_borrowed (λ (composes : Bool). parse_command_words composes c.args.words.now) _ c.precomposes.result c.parse_command_words.result _ c.parse_command_words.ensures c.precomposes.ensures (c.in-Some.is ∙ ap Some c.in-Report.is))
    c.text_of_report_command.ensures

pub returns-in-Generate : goal.returns-in-Generate
returns-in-Generate g c =
    let text = c.text_of_generated_report.ensures in
    Answers-named (AnswersGivenCommand g.W.Worktree g.I.Interrupt _ _ _ _) _ _ _ _ _
    (asked-is command_of_borrowed (λ (composes : Bool). parse_command_words composes c.args.words.now) _ c.precomposes.result c.parse_command_words.result _ c.parse_command_words.ensures c.precomposes.ensures (c.in-Some.is ∙ ap Some c.in-Generate.is))
    (record { gives = text.made; refused = text.answers; interrupted = text.interrupted; worktree = refl; questions = text.questions; raised = text.raised; calm = text.calm })
