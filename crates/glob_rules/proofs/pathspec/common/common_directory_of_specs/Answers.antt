use Rattle.std.proofs.Common.{List, Some, ◌≤◌, ℕ, length, take, ap, sym, ◌∙◌, arith}
use Rattle.std.proofs.lemmas.List.{length-take-le}
use Rattle.glob_rules.specs.PathSpecs.{longest_common_prefix_path, stems_of_positive_specs, path_unless_empty}
use Rattle.glob_rules.proofs.Stems.{common_none, common_within, some_path_is}
use Rattle.glob_rules.proofs.pathspec.common.common_directory_of_specs.Goals as goal

pub slice_bounds-result-end : goal.slice_bounds-result-end
slice_bounds-result-end c =
    let within = common_within c.args.specs.now c.in-Some.first.now c.stem_unless_case_folded.result.now (sym c.in-Some.ensures) c.stem_unless_case_folded.ensures in
    let fits : c.args.common_length ≤ length c.stem_unless_case_folded.result.now = omega (arith, within.0, c.requires) in
    sym (length-take-le c.args.common_length c.stem_unless_case_folded.result.now fits)

pub returns-in-Some : goal.returns-in-Some
returns-in-Some c =
    let within = common_within c.args.specs.now c.in-Some.first.now c.stem_unless_case_folded.result.now (sym c.in-Some.ensures) c.stem_unless_case_folded.ensures in
    ap (λ (path : List ℕ). Some path) (ap (λ (n : ℕ). take n c.stem_unless_case_folded.result.now) c.requires ∙ within.1)
    ∙ sym (some_path_is (longest_common_prefix_path (stems_of_positive_specs c.args.specs.now)) (λ none. c.if-common_length-eq0.false (c.requires ∙ none)))

pub returns-in-None : goal.returns-in-None
returns-in-None c = ap path_unless_empty (sym (common_none c.args.specs.now (sym c.in-None.ensures)))
