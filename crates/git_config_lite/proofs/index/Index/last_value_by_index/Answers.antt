use Rattle.std.proofs.Common.{◌≡◌, ◌∙◌, ap, ℕ, List, reverse, option_copied}
use Rattle.std.specs.List.{filter}
use Rattle.git_config_lite.specs.declared.section_place.SectionPlace.{SectionPlace}
use Rattle.git_config_lite.specs.SectionPlaces.{subsection_or_empty_text, place_has_subsection_text, value_of_first_place_with_key}
use Rattle.git_config_lite.proofs.Placed.{placed}
use Rattle.git_config_lite.proofs.index.Index.last_value_by_index.Goals as goal

pub returns : goal.returns
returns c =
    let name = c.args.name.now in
    let subsection = option_copied c.args.subsection in
    let key = c.args.key.now in
    let sections = c.args.sections.now in
    let places = c.deref.result.now in
    let all : places ≡ c.args.self.now = c.deref.ensures.value ∙ c.self.view_is in
    c.last_value_at_places.ensures
    ∙ ap (λ (ps : List SectionPlace). value_of_first_place_with_key name subsection key sections (reverse ps))
    (c.places_with_subsection_text-run.ensures ∙ ap (λ (k : List ℕ). filter (place_has_subsection_text k) places) c.subsection_or_empty_text.ensures)
    ∙ ap (λ (ps : List SectionPlace). value_of_first_place_with_key name subsection key sections (reverse (filter (place_has_subsection_text (subsection_or_empty_text subsection)) ps))) all
    ∙ placed name subsection key c.args.self.now sections c.requires
