-- How a line of a value is read, byte by byte.
use Rattle.std.proofs.Common.{◌≡◌, ℕ, List, [], ◌∷◌, ◌++◌, Bool, false, length, Option, Some, None, option_map, refl, sym, ap, ◌∙◌, arith, append-nil}
use Rattle.std.proofs.lemmas.List.{append_assoc}
use Rattle.git_config_lite.specs.declared.element.Element.{Element}
use Rattle.git_config_lite.specs.declared.element.Place.{Place}
use Rattle.git_config_lite.specs.declared.element.ValueByte.{ValueByte}
use Rattle.git_config_lite.specs.declared.element.ValueByte.TheVariants.{Outside, Ends, Escapes, Gives}
use Rattle.git_config_lite.specs.Values.{ValuePiece, parse_value_piece_from_place, piece_by_effect_of_first_byte, piece_at_line_end, effect_of_value_byte, piece_with_elements_before, place_after_backslash, place_after_element}

one : (place : Place) (b : ℕ) (after : List ℕ) → parse_value_piece_from_place place (b ∷ after) ≡ piece_by_effect_of_first_byte place (λ p. parse_value_piece_from_place p after) (effect_of_value_byte place b)
unfolding parse_value_piece_from_place
one place b after = refl

at_end : (place : Place) → parse_value_piece_from_place place [] ≡ piece_at_line_end place
unfolding parse_value_piece_from_place
at_end place = refl

abbrev piece : List Element → Bool → ValuePiece
piece elements continues = record { elements = elements; continues = continues }

two_parts : (elements : List Element) (e : Element) (found : Option ValuePiece) → option_map (piece_with_elements_before (elements ++ e ∷ [])) found ≡ option_map (piece_with_elements_before elements) (option_map (piece_with_elements_before (e ∷ [])) found)
two_parts elements e None = refl
two_parts elements e (Some found) = ap (λ (es : List Element). Some (piece es found.continues)) (append_assoc elements (e ∷ []) found.elements)

module _ (elements : List Element) (place : Place) (rest : List ℕ) (b : ℕ) (after : List ℕ) (whole : Option ValuePiece)
    (is : rest ≡ b ∷ after) (same : option_map (piece_with_elements_before elements) (parse_value_piece_from_place place rest) ≡ whole) where
  step : (s : ValueByte) → effect_of_value_byte place b ≡ s → option_map (piece_with_elements_before elements) (piece_by_effect_of_first_byte place (λ p. parse_value_piece_from_place p after) s) ≡ whole
  step s does =
      ap (λ (t : ValueByte). option_map (piece_with_elements_before elements) (piece_by_effect_of_first_byte place (λ p. parse_value_piece_from_place p after) t)) (sym does)
      ∙ ap (option_map (piece_with_elements_before elements)) (sym (one place b after))
      ∙ ap (λ (r : List ℕ). option_map (piece_with_elements_before elements) (parse_value_piece_from_place place r)) (sym is)
      ∙ same

  pub outside : effect_of_value_byte place b ≡ Outside → None ≡ whole
  outside does = step Outside does

  pub ends : effect_of_value_byte place b ≡ Ends → Some (piece elements false) ≡ whole
  ends does = ap (λ (es : List Element). Some (piece es false)) (sym (append-nil elements)) ∙ step Ends does

  pub escapes : effect_of_value_byte place b ≡ Escapes → option_map (piece_with_elements_before elements) (parse_value_piece_from_place (place_after_backslash place) after) ≡ whole
  escapes does = step Escapes does

  pub gives : (e : Element) → effect_of_value_byte place b ≡ Gives e → option_map (piece_with_elements_before (elements ++ e ∷ [])) (parse_value_piece_from_place (place_after_element place e) after) ≡ whole
  gives e does = two_parts elements e (parse_value_piece_from_place (place_after_element place e) after) ∙ step (Gives e) does

-- where nothing is left, the end of the line decides
pub ended : (elements : List Element) (place : Place) (rest : List ℕ) (whole : Option ValuePiece) → length rest ≡ 0
    → option_map (piece_with_elements_before elements) (parse_value_piece_from_place place rest) ≡ whole → option_map (piece_with_elements_before elements) (piece_at_line_end place) ≡ whole
ended elements place [] whole none same = ap (option_map (piece_with_elements_before elements)) (sym (at_end place)) ∙ same
ended elements place (b ∷ rest) whole none same = absurd (omega arith)
