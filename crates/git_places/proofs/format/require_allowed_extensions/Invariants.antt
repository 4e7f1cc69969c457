use Rattle.std.proofs.Common.{◌≡◌}
use Rattle.git_places.specs.Format.{require_allowed_extensions}
use Rattle.git_places.proofs.format.require_allowed_extensions.Given as goal

abbrev pub invariant-loop-section : goal.invariant-loop-section
invariant-loop-section l = require_allowed_extensions l.version l.section-iterator ≡ require_allowed_extensions l.version l.config.sections
