use Rattle.std.proofs.Common.{rules, sym, ◌∙◌}
use Rattle.std.proofs.lemmas.List.{take-append-drop}
use Rattle.gitbase_core.proofs.PathNames.{components-first}
use Rattle.gitbase_core.proofs.components.split_first_component.Goals as goal

pub returns-clause-components : goal.returns-clause-components
returns-clause-components c =
    rw (c.split_at.ensures.front, c.split_at.ensures.back)
    (sym c.without_leading_slashes-path.ensures.same
    ∙ components-first _ _ (search rules) c.without_leading_slashes-path.ensures.name
    c.length_before_first_slash.ensures.fits c.length_before_first_slash.ensures.name c.length_before_first_slash.ensures.end)

pub returns-clause-whole : goal.returns-clause-whole
returns-clause-whole c =
    rw (c.split_at.ensures.front, c.split_at.ensures.back)
    (sym c.without_leading_slashes-path.ensures.rest ∙ sym (take-append-drop _ _))
