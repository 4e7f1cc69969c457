-- How a section of overrides is made.
use Rattle.std.specs.Prelude.{List, [], ◌∷◌, ◌++◌}
use Rattle.git_config_lite.specs.declared.entry.Entry.{Entry}
use Rattle.git_config_lite.specs.Sections.{Section}

-- sections, the first of which has more keys at its end
abbrev pub extend_first_section : List Entry → List Section → List Section
extend_first_section more [] = []
extend_first_section more (section ∷ sections) =
    record { name = section.name; subsection = section.subsection; meta = section.meta; entries = section.entries ++ more } ∷ sections
