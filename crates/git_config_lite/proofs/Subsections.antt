-- How a subsection is read, byte by byte.
use Rattle.std.proofs.Common.{◌≡◌, ℕ, List, [], ◌∷◌, ◌++◌, Bool, true, false, length, Option, Some, None, option_map, refl, sym, ap, ◌∙◌, arith, append-nil}
use Rattle.std.proofs.lemmas.List.{append_assoc}
use Rattle.git_config_lite.specs.declared.subsection.SubsectionByte.{SubsectionByte}
use Rattle.git_config_lite.specs.declared.subsection.SubsectionByte.TheVariants.{Outside, Closes, Escapes, Stands}
use Rattle.git_config_lite.specs.Headers.{QuotedSubsection, parse_quoted_subsection, quoted_subsection_by_byte_effect, effect_of_subsection_byte, quoted_with_text_before}

one : (escaped : Bool) (b : ℕ) (after : List ℕ) → parse_quoted_subsection escaped (b ∷ after) ≡ quoted_subsection_by_byte_effect b (λ e. parse_quoted_subsection e after) after (effect_of_subsection_byte escaped b)
unfolding parse_quoted_subsection
one escaped b after = refl

none_left : (escaped : Bool) → parse_quoted_subsection escaped [] ≡ None
unfolding parse_quoted_subsection
none_left escaped = refl

abbrev quoted_text : List ℕ → List ℕ → QuotedSubsection
quoted_text text rest = record { text = text; rest = rest }

two_texts : (text : List ℕ) (b : ℕ) (found : Option QuotedSubsection) → option_map (quoted_with_text_before (text ++ b ∷ [])) found ≡ option_map (quoted_with_text_before text) (option_map (quoted_with_text_before (b ∷ [])) found)
two_texts text b None = refl
two_texts text b (Some found) = ap (λ (t : List ℕ). Some (quoted_text t found.rest)) (append_assoc text (b ∷ []) found.text)

module _ (text : List ℕ) (escaped : Bool) (rest : List ℕ) (b : ℕ) (after : List ℕ) (whole : Option QuotedSubsection)
    (is : rest ≡ b ∷ after) (same : option_map (quoted_with_text_before text) (parse_quoted_subsection escaped rest) ≡ whole) where
  step : (s : SubsectionByte) → effect_of_subsection_byte escaped b ≡ s → option_map (quoted_with_text_before text) (quoted_subsection_by_byte_effect b (λ e. parse_quoted_subsection e after) after s) ≡ whole
  step s does =
      ap (λ (t : SubsectionByte). option_map (quoted_with_text_before text) (quoted_subsection_by_byte_effect b (λ e. parse_quoted_subsection e after) after t)) (sym does)
      ∙ ap (option_map (quoted_with_text_before text)) (sym (one escaped b after))
      ∙ ap (λ (r : List ℕ). option_map (quoted_with_text_before text) (parse_quoted_subsection escaped r)) (sym is)
      ∙ same

  pub outside : effect_of_subsection_byte escaped b ≡ Outside → None ≡ whole
  outside does = step Outside does

  pub closes : effect_of_subsection_byte escaped b ≡ Closes → Some (quoted_text text after) ≡ whole
  closes does = ap (λ (t : List ℕ). Some (quoted_text t after)) (sym (append-nil text)) ∙ step Closes does

  pub escapes : effect_of_subsection_byte escaped b ≡ Escapes → option_map (quoted_with_text_before text) (parse_quoted_subsection true after) ≡ whole
  escapes does = step Escapes does

  pub stands : effect_of_subsection_byte escaped b ≡ Stands → option_map (quoted_with_text_before (text ++ b ∷ [])) (parse_quoted_subsection false after) ≡ whole
  stands does = two_texts text b (parse_quoted_subsection false after) ∙ step Stands does

-- where nothing is left, the subsection is not closed
pub unclosed : (text : List ℕ) (escaped : Bool) (rest : List ℕ) (whole : Option QuotedSubsection) → length rest ≡ 0
    → option_map (quoted_with_text_before text) (parse_quoted_subsection escaped rest) ≡ whole → None ≡ whole
unclosed text escaped [] whole none same = ap (option_map (quoted_with_text_before text)) (sym (none_left escaped)) ∙ same
unclosed text escaped (b ∷ rest) whole none same = absurd (omega arith)
