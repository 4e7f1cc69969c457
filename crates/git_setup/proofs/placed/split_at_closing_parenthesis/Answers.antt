use Rattle.std.proofs.Common.{◌∙◌, ◌+◌, ap, sym, take, drop, ℕ}
use Rattle.std.proofs.lemmas.List.Folds.{list_any_at}
use Rattle.gitbase_core.proofs.Places.{first_place, none_passes}
use Rattle.glob_rules.specs.PathSpecText.{is_closing_parenthesis}
use Rattle.git_setup.proofs.placed.split_at_closing_parenthesis.Goals as goal

pub returns-in-Some-clause-closed : goal.returns-in-Some-clause-closed
returns-in-Some-clause-closed c = let found = c.in-Some.ensures in list_any_at is_closing_parenthesis c.args.rest.now c.in-Some.end 0 found.0.high found.1

pub returns-in-Some-clause-inside : goal.returns-in-Some-clause-inside
returns-in-Some-clause-inside c =
    let found = c.in-Some.ensures in
    ap (λ (n : ℕ). take n c.args.rest.now) (sym (first_place is_closing_parenthesis c.args.rest.now c.in-Some.end found.0.high found.0.before found.1))

pub returns-in-Some-clause-path : goal.returns-in-Some-clause-path
returns-in-Some-clause-path c =
    let found = c.in-Some.ensures in
    c.bytes_after_count.ensures ∙ ap (λ (n : ℕ). drop (n + 1) c.args.rest.now) (sym (first_place is_closing_parenthesis c.args.rest.now c.in-Some.end found.0.high found.0.before found.1))

pub returns-in-None-clause-open : goal.returns-in-None-clause-open
returns-in-None-clause-open c = none_passes is_closing_parenthesis c.args.rest.now c.in-None.ensures
