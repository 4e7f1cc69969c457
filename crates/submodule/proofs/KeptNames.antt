-- Overrides tell no names of `.gitmodules`.
use Rattle.std.proofs.Common.{◌≡◌, ℕ, List, [], ◌∷◌, ◌++◌, Bool, true, false, Some, None, cond, codes, refl, sym, ap, ◌∙◌}
use Rattle.git_config_lite.specs.declared.metadata.Source.{Source}
use Rattle.git_config_lite.specs.declared.metadata.Source.TheVariants.{GitInstallation, System, Git, User, Local, Env, Api, Modules}
use Rattle.git_config_lite.specs.declared.metadata.Metadata.{Metadata}
use Rattle.git_config_lite.specs.Sections.{Section, Configuration}
use Rattle.git_config_lite.specs.Lookups.{has_name_if_given}
use Rattle.git_config_lite.specs.Writers.{configuration_with_other_appended}
use Rattle.submodule.specs.Names.{is_gitmodules_source, submodule_sections, name_if_gitmodules_section, names_with_name_added_once, names_after_reading_sections, submodule_names_of_gitmodules}
use Rattle.submodule.specs.Overrides.{source_with_modules_as_api, metadata_of_overrides, override_section_of_submodule, override_section_if_overriding, override_sections_of_names, ordered_submodule_names, overrides, has_overriding_key}

not_modules : (source : Source) → is_gitmodules_source (source_with_modules_as_api source) ≡ false
not_modules Modules = refl
not_modules GitInstallation = refl
not_modules System = refl
not_modules Git = refl
not_modules User = refl
not_modules Local = refl
not_modules Env = refl
not_modules Api = refl

-- the sections of a name, of two lists one behind the other
named-append : (xs ys : List Section) → submodule_sections (xs ++ ys) ≡ submodule_sections xs ++ submodule_sections ys
named-append [] ys = refl
named-append (x ∷ xs) ys = by_test (has_name_if_given (Some (codes "submodule")) x) (named-append xs ys) where
  by_test : (b : Bool) → submodule_sections (xs ++ ys) ≡ submodule_sections xs ++ submodule_sections ys
      → cond b (x ∷ submodule_sections (xs ++ ys)) (submodule_sections (xs ++ ys)) ≡ cond b (x ∷ submodule_sections xs) (submodule_sections xs) ++ submodule_sections ys
  by_test true e = ap (λ (rest : List Section). x ∷ rest) e
  by_test false e = e

after-append : (xs ys : List Section) (known : List (List ℕ)) → names_after_reading_sections known (xs ++ ys) ≡ names_after_reading_sections (names_after_reading_sections known xs) ys
after-append [] ys known = refl
after-append (x ∷ xs) ys known = after-append xs ys (names_with_name_added_once known (name_if_gitmodules_section x))

-- a section that tells nothing adds no name
module _ (meta : Metadata) (sections : List Section) where
  told_none : (name : List ℕ) → name_if_gitmodules_section (override_section_of_submodule (metadata_of_overrides meta) sections name) ≡ None
  told_none name = rw (not_modules meta.source) refl

  one_kept : (known : List (List ℕ)) (name : List ℕ) (b : Bool) → names_after_reading_sections known (submodule_sections (cond b (override_section_of_submodule (metadata_of_overrides meta) sections name ∷ []) [])) ≡ known
  one_kept known name true = rw (told_none name) refl
  one_kept known name false = refl

  kept : (known : List (List ℕ)) (names : List (List ℕ)) → names_after_reading_sections known (submodule_sections (override_sections_of_names (metadata_of_overrides meta) sections names)) ≡ known
  kept known [] = refl
  kept known (name ∷ names) =
      let one : List Section = override_section_if_overriding (metadata_of_overrides meta) sections name in
      let rest : List Section = override_sections_of_names (metadata_of_overrides meta) sections names in
      ap (names_after_reading_sections known) (named-append one rest)
      ∙ after-append (submodule_sections one) (submodule_sections rest) known
      ∙ ap (λ (k : List (List ℕ)). names_after_reading_sections k (submodule_sections rest)) (one_kept known name (has_overriding_key sections name))
      ∙ kept known names

pub names_kept : (sections : List Section) (config : Configuration) → submodule_names_of_gitmodules (sections ++ overrides config) ≡ submodule_names_of_gitmodules sections
names_kept sections config =
    ap (names_after_reading_sections []) (named-append sections (overrides config))
    ∙ after-append (submodule_sections sections) (submodule_sections (overrides config)) []
    ∙ kept config.meta config.sections (submodule_names_of_gitmodules sections) (ordered_submodule_names config.sections)

pub still : (names : List (List ℕ)) (before made after config : Configuration) → names ≡ submodule_names_of_gitmodules before.sections
    → after ≡ configuration_with_other_appended before made → made.sections ≡ overrides config → names ≡ submodule_names_of_gitmodules after.sections
still names before made after config are adds says =
    are ∙ sym (names_kept before.sections config)
    ∙ ap (λ (more : List Section). submodule_names_of_gitmodules (before.sections ++ more)) (sym says)
    ∙ ap (λ (file : Configuration). submodule_names_of_gitmodules file.sections) (sym adds)
