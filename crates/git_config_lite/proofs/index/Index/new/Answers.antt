use Rattle.std.proofs.Common.{rules, ◌∙◌, ap, List}
use Rattle.std.specs.List.{filter}
use Rattle.std.specs.List.Sorted.{ties}
use Rattle.std.proofs.lemmas.List.Sorted.{answers_always}
use Rattle.git_config_lite.specs.declared.section_place.SectionPlace.{SectionPlace}
use Rattle.git_config_lite.specs.SectionPlaces.{is_subsection_text_before}
use Rattle.git_config_lite.proofs.Placed.{by_keys}
use Rattle.git_config_lite.proofs.index.Index.new.Goals as goal

pub invariant_of-result : goal.invariant_of-result
invariant_of-result c = c.in_ok-sort_by.ensures.sorted is_subsection_text_before by_keys (answers_always _ _ _ (λ f a r g h. search rules))

pub returns : goal.returns
returns c = λ x.
    c.in_ok-sort_by.ensures.stable is_subsection_text_before by_keys (answers_always _ _ _ (λ f a r g h. search rules)) x
    ∙ ap (λ (ps : List SectionPlace). filter (ties is_subsection_text_before x) ps) c.in_ok-made.ensures
