-- The runs that stand before the last one are those of the sections before it.
use Rattle.std.proofs.Common.{◌≡◌, List, [], ◌∷◌, ◌++◌, take, reverse, subst, sym, ap, ◌∙◌}
use Rattle.std.proofs.lemmas.List.{reverse-append}
use Rattle.git_config_lite.specs.declared.run.Run.{Run}
use Rattle.git_config_lite.specs.Sections.{Section}
use Rattle.git_config_lite.specs.Runs.{AreIndexRunsOfSections}

pub runs-before : (others before : List Run) (last : Run) (sections front : List Section) → others ≡ before ++ last ∷ [] → front ≡ take last.start sections
    → AreIndexRunsOfSections (reverse others) sections → AreIndexRunsOfSections (reverse before) front
runs-before others before last sections front is e h =
    let known : AreIndexRunsOfSections (last ∷ reverse before) sections = subst (λ (rs : List Run). AreIndexRunsOfSections rs sections) (ap (λ (rs : List Run). reverse rs) is ∙ reverse-append before (last ∷ [])) h in
    subst (λ (s : List Section). AreIndexRunsOfSections (reverse before) s) (sym e) known.2
