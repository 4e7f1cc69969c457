use Rattle.std.proofs.Common.{◌==◌, take, ap, sym, ◌∙◌, ℕ, List, ◌∷◌}
use Rattle.std.specs.List.{slice_split}
use Rattle.gitbase_core.proofs.Places.{split_at_place, split_nowhere}
use Rattle.git_places.proofs.ceilings.split_first_entry_at_colon.Goals as goal

pub returns-in-Some-clause-entries : goal.returns-in-Some-clause-entries
returns-in-Some-clause-entries c =
    let found = c.in-Some.ensures in
    split_at_place (λ b. b == 58) c.args.entries.now c.in-Some.at found.0.high found.0.before found.1
    ∙ ap (λ (rest : List ℕ). take c.in-Some.at c.args.entries.now ∷ slice_split (λ b. b == 58) rest) (sym c.bytes_after_count.ensures)

pub returns-in-None-clause-entries : goal.returns-in-None-clause-entries
returns-in-None-clause-entries c = split_nowhere (λ b. b == 58) c.args.entries.now c.in-None.ensures
