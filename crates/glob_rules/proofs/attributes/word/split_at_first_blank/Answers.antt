use Rattle.std.proofs.Common.{◌<◌, ◌+◌, ℕ, List, ◌∷◌, length, take, drop, ap, sym, ◌∙◌, subst}
use Rattle.std.specs.List.{slice_split}
use Rattle.std.proofs.lemmas.List.Splits.{slice_split_first}
use Rattle.glob_rules.specs.AttributeWords.{is_space_or_tab}
use Rattle.glob_rules.proofs.LonePieces.{lone_piece}
use Rattle.glob_rules.proofs.attributes.word.split_at_first_blank.Goals as goal

pub returns-then-at-text-clause-words : goal.returns-then-at-text-clause-words
returns-then-at-text-clause-words c =
    let text = c.args.text.now in
    let at = c.length_before_first_blank-at.result in
    let place = c.length_before_first_blank-at.ensures.value in
    slice_split_first is_space_or_tab text 0 (subst (λ n. n < length text) place c.if-at-text.true)
    ∙ ap (λ (n : ℕ). take n text ∷ slice_split is_space_or_tab (drop (n + 1) text)) (sym place)
    ∙ ap (λ (rest : List ℕ). take at text ∷ slice_split is_space_or_tab rest) (sym c.bytes_from_offset.ensures)

pub returns-else-at-text-clause-words : goal.returns-else-at-text-clause-words
returns-else-at-text-clause-words c = lone_piece is_space_or_tab c.args.text.now c.length_before_first_blank-at.result c.if-at-text.false c.length_before_first_blank-at.ensures.value
