use Rattle.std.proofs.Common.{◌≡◌, ◌++◌}
use Rattle.std.specs.List.{flat_map}
use Rattle.bstr.specs.Text.{lines_of}
use Rattle.git_setup.specs.BelowTop as words
use Rattle.git_setup.proofs.below_top.exempt_top_from_star_rules.Given as goal

abbrev pub invariant-loop-line : goal.invariant-loop-line
invariant-loop-line l = l.made ++ flat_map words.line l.line-iterator ≡ flat_map words.line (lines_of l.fn.rules)
