use Rattle.std.proofs.Common.{List, ℕ, length, ap, sym, ◌∙◌}
use Rattle.glob_rules.proofs.Stems.{common_none}
use Rattle.glob_rules.proofs.Shortened.{shortened_first}
use Rattle.glob_rules.proofs.pathspec.common.common_directory_length.Goals as goal

pub returns-in-Some : goal.returns-in-Some
returns-in-Some c =
    ap (λ (p : List ℕ). length p)
    (c.shorten_to_common_prefix_of_stems.ensures ∙ shortened_first c.args.specs.now c.in-Some.first.now c.stem_unless_case_folded.result.now (sym c.in-Some.ensures) c.stem_unless_case_folded.ensures)

pub returns-in-None : goal.returns-in-None
returns-in-None c = sym (ap (λ (p : List ℕ). length p) (common_none c.args.specs.now (sym c.in-None.ensures)))
