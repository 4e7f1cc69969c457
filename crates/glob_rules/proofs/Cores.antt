-- What a rule that is found by its core matches tells the core.
use Rattle.std.proofs.Common.{◌≡◌, ℕ, ◌+◌, ◌-◌, ◌<◌, ◌⊎◌, inl, inr, Bool, true, false, cond, not, ◌||◌, ◌==◌, List, [], ◌∷◌, length, drop, get_or, Option, Some, None, refl, ap, sym, ◌∙◌, subst, arith}
use Rattle.std.specs.Str.{bytes_eq}
use Rattle.std.proofs.lemmas.Bool.{and_parts, eqb-true, or_parts}
use Rattle.std.proofs.lemmas.List.{get_or-drop}
use Rattle.std.proofs.lemmas.Slice.Eq.{bytes_eq-Decides}
use Rattle.glob_rules.specs.declared.Case.TheVariants.{Sensitive}
use Rattle.glob_rules.specs.declared.pattern.Shape.{Shape}
use Rattle.glob_rules.specs.declared.pattern.Shape.TheVariants.{Plain, Ending, Wild}
use Rattle.glob_rules.specs.Glob.{is_glob_special_byte, matches}
use Rattle.glob_rules.specs.Rule.{Rule, wild_mode_of_rules, is_some_and_passes, is_known_dir, rule_matches_name_or_relative_path}
use Rattle.glob_rules.specs.Shape.{has_wildcards, wildcard_shape_of_pattern, EndsInTextWithoutSlashBefore}
use Rattle.glob_rules.specs.Tables.{text_without_leading_star, is_rule_found_by_core, is_found_by_core_with_shape}
use Rattle.glob_rules.specs.Texts.{first_byte_passes}
use Rattle.glob_rules.proofs.Decide.{matches_decides}
use Rattle.glob_rules.proofs.Plain.{plain_matches, same_bytes, map_same}
use Rattle.glob_rules.proofs.Shapes.{plain_shape, ending_shape, ending_ends}

-- a plain pattern matches its own text alone
plain_text : (pattern text : List ℕ) → wildcard_shape_of_pattern pattern ≡ Plain → matches (wild_mode_of_rules Sensitive) pattern text ≡ true → pattern ≡ text
plain_text pattern text shape h =
    let same = same_bytes Sensitive text pattern (bytes_eq text pattern) refl (bytes_eq-Decides text pattern) in
    let is : bytes_eq text pattern ≡ matches (wild_mode_of_rules Sensitive) pattern text = plain_matches (wild_mode_of_rules Sensitive) pattern text (bytes_eq text pattern) (plain_shape pattern shape) same in
    sym ((bytes_eq-Decides text pattern).0 (is ∙ h))

-- it is its own core
plain_core : (pattern : List ℕ) → wildcard_shape_of_pattern pattern ≡ Plain → text_without_leading_star pattern ≡ pattern
plain_core [] shape = refl
plain_core (b ∷ bs) shape = pick (b == 42) (or_parts (b == 42) (b == 63) (or_parts ((b == 42) || (b == 63)) (b == 91) (or_parts (((b == 42) || (b == 63)) || (b == 91)) (b == 92) (or_parts (is_glob_special_byte b) (has_wildcards bs) (plain_shape (b ∷ bs) shape)).0).0).0).0
  where
    pick : (star : Bool) → star ≡ false → (cond {A = Bool × List ℕ} star (true, bs) (false, b ∷ bs)).1 ≡ b ∷ bs
    pick true h = absurd (cc)
    pick false h = refl

-- the core of an ending is what stands behind the star
ending_core : (b : ℕ) (bs : List ℕ) → b ≡ 42 → text_without_leading_star (b ∷ bs) ≡ bs
ending_core b bs is = subst (λ (c : ℕ). text_without_leading_star (c ∷ bs) ≡ bs) (sym is) refl

-- the place of a dot in a text, from which on it is the core
abbrev pub IsDotted : List ℕ → List ℕ → Type 0
IsDotted text name = (i : ℕ) × (i < length name) × (get_or name i 0 ≡ 46) × (text ≡ drop i name)

first_dot : (text : List ℕ) → first_byte_passes (λ b. b == 46) text ≡ true → (0 < length text) × (get_or text 0 0 ≡ 46)
first_dot [] h = absurd (cc)
first_dot (b ∷ bs) h = (omega arith, eqb-true b 46 h)

dotted_place : (ending name : List ℕ) → first_byte_passes (λ b. b == 46) ending ≡ true → EndsInTextWithoutSlashBefore Sensitive ending name → IsDotted ending name
dotted_place ending name dot (fits, free, same) =
    let at : ℕ = length name - length ending in
    let is : drop at name ≡ ending = sym (map_same (drop at name)) ∙ same ∙ map_same ending in
    let first = first_dot ending dot in
    let zero_on : at + 0 ≡ at = omega arith in
    let here : get_or name at 0 ≡ 46 = ap (λ n. get_or name n 0) (sym zero_on) ∙ sym (get_or-drop at name 0 0) ∙ ap (λ (t : List ℕ). get_or t 0 0) is ∙ first.1 in
    let at_is : at ≡ length name - length ending = refl in
    (at, omega (arith, first.0, fits, at_is), here, sym is)

dotted_text : (pattern name : List ℕ) → wildcard_shape_of_pattern pattern ≡ Ending → first_byte_passes (λ b. b == 46) (text_without_leading_star pattern) ≡ true → matches (wild_mode_of_rules Sensitive) pattern name ≡ true → IsDotted (text_without_leading_star pattern) name
dotted_text [] name shape dot h = absurd (cc)
dotted_text (b ∷ bs) name shape dot h =
    let is : text_without_leading_star (b ∷ bs) ≡ bs = ending_core b bs (ending_shape b bs shape).0 in
    subst (λ (t : List ℕ). IsDotted t name) (sym is)
    (dotted_place bs name (ap (first_byte_passes (λ b. b == 46)) (sym is) ∙ dot) (ending_ends Sensitive bs name b shape ((matches_decides (wild_mode_of_rules Sensitive) (b ∷ bs) name).0 h)))

-- the last component is the core, or has it from a dot on, or the path reads so from the rules' directory
abbrev pub TellsCore : List ℕ → List ℕ → Option (List ℕ) → Type 0
TellsCore text name relative = (text ≡ name) ⊎ (IsDotted text name ⊎ (relative ≡ Some text))

at_relative : (pattern name : List ℕ) (relative : Option (List ℕ)) → wildcard_shape_of_pattern pattern ≡ Plain → is_some_and_passes (matches (wild_mode_of_rules Sensitive) pattern) relative ≡ true → TellsCore (text_without_leading_star pattern) name relative
at_relative pattern name None shape h = absurd (cc)
at_relative pattern name (Some path) shape h = inr (inr (ap Some (sym (plain_core pattern shape ∙ plain_text pattern path shape h))))

by_shape : (s : Shape) (text name : List ℕ) (negative dir by_name : Bool) (relative : Option (List ℕ)) → wildcard_shape_of_pattern text ≡ s
    → is_found_by_core_with_shape s (record { text = text; is_negative = negative; must_be_dir = dir; by_name = by_name }) ≡ true
    → cond by_name (matches (wild_mode_of_rules Sensitive) text name) (is_some_and_passes (matches (wild_mode_of_rules Sensitive) text) relative) ≡ true → TellsCore (text_without_leading_star text) name relative
by_shape Plain text name negative dir true relative shape found h = inl (plain_core text shape ∙ plain_text text name shape h)
by_shape Plain text name negative dir false relative shape found h = at_relative text name relative shape h
by_shape Ending text name negative dir true relative shape found h = inr (inl (dotted_text text name shape found h))
by_shape Ending text name negative dir false relative shape found h = absurd (cc)
by_shape Wild text name negative dir by_name relative shape found h = absurd (cc)

pub tells_core : (rule : Rule) (name : List ℕ) (relative : Option (List ℕ)) (is_dir : Option Bool) → is_rule_found_by_core rule ≡ true
    → rule_matches_name_or_relative_path rule name relative is_dir Sensitive ≡ true → TellsCore (text_without_leading_star rule.text) name relative
tells_core rule name relative is_dir found h =
    let parts = and_parts (not rule.must_be_dir || is_known_dir is_dir) (cond rule.by_name (matches (wild_mode_of_rules Sensitive) rule.text name) (is_some_and_passes (matches (wild_mode_of_rules Sensitive) rule.text) relative)) h in
    by_shape (wildcard_shape_of_pattern rule.text) rule.text name rule.is_negative rule.must_be_dir rule.by_name relative refl found parts.1
