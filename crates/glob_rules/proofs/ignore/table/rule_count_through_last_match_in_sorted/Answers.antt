use Rattle.std.proofs.Common.{◌≡◌, sym, ap, ◌∙◌, option_copied, arith}
use Rattle.glob_rules.proofs.Tabled.{all_found, other_path, same_path}
use Rattle.glob_rules.proofs.ignore.table.rule_count_through_last_match_in_sorted.Goals as goal

pub returns-in-Some-clause-all : goal.returns-in-Some-clause-all
returns-in-Some-clause-all c =
    let more = c.rule_count_through_last_match_with_core.ensures.more in
    let before = c.rule_count_up_to_match_by_ending-found.ensures.more in
    all_found c.args.name.now (option_copied c.args.relative) c.args.is_dir c.args.entries.now c.args.sorted.now c.rule_count_through_last_match_with_core.result c.requires.cores
    (λ k there same pass. omega (arith, c.rule_count_through_last_match_with_core-found.ensures.all k there same pass, more, before))
    (λ k i there up low dot same pass. omega (arith, c.rule_count_up_to_match_by_ending-found.ensures.all k i there up low dot same pass, more))
    (λ path is k there same pass.
    let here : path ≡ c.in-Some.path.now = same_path path c.in-Some.path.now (sym is ∙ ap (λ o. option_copied o) c.in-Some.is) in
    c.rule_count_through_last_match_with_core.ensures.all k there (same ∙ here) pass)

pub returns-in-None-clause-all : goal.returns-in-None-clause-all
returns-in-None-clause-all c =
    let before = c.rule_count_up_to_match_by_ending-found.ensures.more in
    all_found c.args.name.now (option_copied c.args.relative) c.args.is_dir c.args.entries.now c.args.sorted.now c.rule_count_up_to_match_by_ending-found.result c.requires.cores
    (λ k there same pass. omega (arith, c.rule_count_through_last_match_with_core-found.ensures.all k there same pass, before))
    c.rule_count_up_to_match_by_ending-found.ensures.all
    (λ path is. absurd (other_path (option_copied c.args.relative) path (ap (λ o. option_copied o) c.in-None.is) is))
