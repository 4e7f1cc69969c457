-- A key that the last section takes.
use Rattle.std.proofs.Common.{◌≡◌, ℕ, zero, suc, ◌+◌, Result, Ok, Err, OnOk, List, [], ◌∷◌, length, slice_set, slice_index_or, ap, ◌∙◌, arith}
use Rattle.git_config_lite.specs.declared.entry.Entry.{Entry}
use Rattle.git_config_lite.specs.Sections.{Section, section_with_entry, sections_with_entry_in_last}

by_place : (e : Entry) (sections : List Section) (n : ℕ) (last : Section) → length sections ≡ suc n → last ≡ slice_index_or sections n last
    → slice_set sections n (section_with_entry e last) ≡ sections_with_entry_in_last e sections
by_place e [] n last size is = absurd (omega arith)
by_place e (section ∷ []) zero last size is = ap (λ (s : Section). section_with_entry e s ∷ []) is
by_place e (section ∷ []) (suc n) last size is = absurd (omega arith)
by_place e (section ∷ next ∷ more) zero last size is = absurd (omega arith)
by_place e (section ∷ next ∷ more) (suc n) last size is = ap (λ (rest : List Section). section ∷ rest) (by_place e (next ∷ more) n last (omega arith) is)

pub set_last : (e : Entry) (sections : List Section) (n : ℕ) (last : Section) → n + 1 ≡ length sections → last ≡ slice_index_or sections n last
    → slice_set sections n (section_with_entry e last) ≡ sections_with_entry_in_last e sections
set_last e sections n last size is = by_place e sections n last (omega arith) is

-- a section behind one that took a key stands in the place of the last one
pub added : {E : Type 0} (e : Entry) (sections : List Section) (n : ℕ) (last new : Section) (r : Result (Unit {0}) E) → n + 1 ≡ length sections
    → last ≡ slice_index_or sections n last → OnOk r (new ≡ section_with_entry e last) → OnOk r (slice_set sections n new ≡ sections_with_entry_in_last e sections)
added e sections n last new (Ok u) size is takes = ap (slice_set sections n) takes ∙ set_last e sections n last size is
added e sections n last new (Err _) size is takes = tt
