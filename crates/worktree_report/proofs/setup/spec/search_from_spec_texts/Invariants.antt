use Rattle.std.proofs.Common.{◌≡◌, take}
use Rattle.worktree_report.specs.SetupSpecs.{parse_valid_specs}
use Rattle.worktree_report.proofs.setup.spec.search_from_spec_texts.Given as goal

abbrev pub invariant-loop-text : goal.invariant-loop-text
invariant-loop-text l = l.specs.items ≡ parse_valid_specs l.ignore_case (take l.text-index l.texts)
