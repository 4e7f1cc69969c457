-- Sections of any name.
use Rattle.std.proofs.Common.{◌≡◌, List, [], ◌∷◌, None, refl, ap}
use Rattle.git_config_lite.specs.Sections.{Section}
use Rattle.git_config_lite.specs.Lookups.{sections_of_name}

-- where no name is asked for, all sections are
pub sections_named-none : (sections : List Section) → sections_of_name None sections ≡ sections
sections_named-none [] = refl
sections_named-none (section ∷ sections) = ap (λ (rest : List Section). section ∷ rest) (sections_named-none sections)
