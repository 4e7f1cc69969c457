use Rattle.std.proofs.Common.{Bool, refl, None}
use Rattle.worktree_report.specs.Named.{places_of_borrowed}
use Rattle.worktree_report.proofs.Runs.{Answers-named, asked-is}
use Rattle.index_status.specs.Run as top
use Rattle.index_status.proofs.program.status_text_for_words.Goals as goal

pub returns-in-Some : goal.returns-in-Some
returns-in-Some g c =
    Answers-named (top.AnswersStatusAtPlaces g.W.Worktree g.I.Interrupt _ _ _ _) _ _ _ _ _
    (asked-is places_of_borrowed (λ (composes : Bool). top.root_and_setup_of_status_words composes c.args.words.now) _ c.precomposes.result c.parse_places_of_command.result _ c.parse_places_of_command.ensures c.precomposes.ensures c.in-Some.is)
    c.read_setup_and_make_status_text.ensures

pub returns-in-None : goal.returns-in-None
returns-in-None g c =
    Answers-named (top.AnswersStatusAtPlaces g.W.Worktree g.I.Interrupt _ _ _ _) _ _ _ _ _
    (asked-is places_of_borrowed (λ (composes : Bool). top.root_and_setup_of_status_words composes c.args.words.now) _ c.precomposes.result c.parse_places_of_command.result None c.parse_places_of_command.ensures c.precomposes.ensures c.in-None.is)
    (record { usage = refl; worktree = refl; interrupt = refl })
