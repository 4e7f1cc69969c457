use Rattle.std.proofs.Common.{◌==◌, take, ap, sym, ◌∙◌, ℕ, List, ◌∷◌}
use Rattle.std.specs.List.{slice_split}
use Rattle.glob_rules.specs.Marks.{comma}
use Rattle.gitbase_core.proofs.Places.{split_at_place, split_nowhere}
use Rattle.git_setup.proofs.placed.split_word_at_comma.Goals as goal

pub returns-in-Some-clause-words : goal.returns-in-Some-clause-words
returns-in-Some-clause-words c =
    let found = c.in-Some.ensures in
    split_at_place (λ b. b == comma) c.args.words.now c.in-Some.at found.0.high found.0.before found.1
    ∙ ap (λ (rest : List ℕ). take c.in-Some.at c.args.words.now ∷ slice_split (λ b. b == comma) rest) (sym c.bytes_after_count.ensures)

pub returns-in-None-clause-words : goal.returns-in-None-clause-words
returns-in-None-clause-words c = split_nowhere (λ b. b == comma) c.args.words.now c.in-None.ensures
