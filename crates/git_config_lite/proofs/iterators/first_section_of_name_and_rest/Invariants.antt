use Rattle.std.proofs.Common.{◌≡◌, length, option_copied}
use Rattle.git_config_lite.specs.Lookups.{sections_of_name}
use Rattle.git_config_lite.proofs.iterators.first_section_of_name_and_rest.Given as goal

abbrev pub invariant-loop-section : goal.invariant-loop-section
invariant-loop-section l = sections_of_name (option_copied l.name) l.rest ≡ sections_of_name (option_copied l.name) l.sections

abbrev pub decreases-loop-section : goal.decreases-loop-section
decreases-loop-section l = length l.rest
