-- A key that the one section takes.
use Rattle.std.proofs.Common.{◌≡◌, ℕ, List, [], ◌∷◌, length, Result, Ok, Err, OnOk, OnErr, refl, ap, ◌∙◌, arith}
use Rattle.git_config_lite.specs.declared.entry.Entry.{Entry}
use Rattle.git_config_lite.specs.Sections.{Section, Configuration, sections_with_entry_in_last}
use Rattle.git_config_lite.specs.Writers.{entry_of_key_and_value, configuration_with_value_in_last_section}
use Rattle.submodule.specs.Building.{extend_first_section}

pub stays_one : (e : Entry) (sections : List Section) → length sections ≡ 1 → length (sections_with_entry_in_last e sections) ≡ 1
stays_one e [] one = absurd (omega arith)
stays_one e (section ∷ []) one = omega arith
stays_one e (section ∷ next ∷ more) one = absurd (omega arith)

pub grows : (e : Entry) (sections : List Section) → length sections ≡ 1 → sections_with_entry_in_last e sections ≡ extend_first_section (e ∷ []) sections
grows e [] one = absurd (omega arith)
grows e (section ∷ []) one = refl
grows e (section ∷ next ∷ more) one = absurd (omega arith)

pub one_after : {E : Type 0} (r : Result (Unit {0}) E) (old new : Configuration) (key value : List ℕ) → OnOk r (new ≡ configuration_with_value_in_last_section old key value) → OnErr r (new ≡ old)
    → length old.sections ≡ 1 → length new.sections ≡ 1
one_after (Ok u) old new key value pushed refused one = ap (λ (file : Configuration). length file.sections) pushed ∙ stays_one (entry_of_key_and_value key value) old.sections one
one_after (Err e) old new key value pushed refused one = ap (λ (file : Configuration). length file.sections) refused ∙ one

pub grown_after : {E : Type 0} (r : Result (Unit {0}) E) (old new : Configuration) (key value : List ℕ) → OnOk r (new ≡ configuration_with_value_in_last_section old key value)
    → length old.sections ≡ 1 → OnOk r (new.sections ≡ extend_first_section (entry_of_key_and_value key value ∷ []) old.sections)
grown_after (Ok u) old new key value pushed one = ap (λ (file : Configuration). file.sections) pushed ∙ grows (entry_of_key_and_value key value) old.sections one
grown_after (Err e) old new key value pushed one = tt
