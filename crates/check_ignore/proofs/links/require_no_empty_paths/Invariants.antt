use Rattle.std.proofs.Common.{◌≡◌, drop}
use Rattle.check_ignore.specs.Links.{require_no_empty_paths}
use Rattle.check_ignore.proofs.links.require_no_empty_paths.Given as goal

abbrev pub invariant-loop-text : goal.invariant-loop-text
invariant-loop-text l = require_no_empty_paths (drop l.text-index l.texts) ≡ require_no_empty_paths l.texts
