use Rattle.std.proofs.Common.{◌≡◌, ◌∙◌, ap, sym, not, ℕ, List, Some, None}
use Rattle.std.specs.Prelude.{is_some, option_and_then}
use Rattle.std.proofs.lemmas.Result.{IfOk-weaker}
use Rattle.gitbase_core.specs.Path.{normalized, without_leading_slashes}
use Rattle.dir_classify.specs.Layers.{setting_of_shared, evidence_from_setting_and_sources, rest_behind_directory}
use Rattle.dir_walk.proofs.Places.CurrentDirectory.{deleting, not-deleting}
use Rattle.dir_walk.proofs.enter.current_directory_to_protect.Goals as goal

pub returns-then-is_none-clause-blocked : goal.returns-then-is_none-clause-blocked
returns-then-is_none-clause-blocked g c = λ made s told quiet.
    not-deleting (setting_of_shared g.M.Matcher c.args.shared.now) made s (ap is_some (sym c.for_deletion_mode.ensures) ∙ c.is_none.ensures ∙ ap not c.if-is_none.true)

pub returns-in-Some-clause-blocked : goal.returns-in-Some-clause-blocked
returns-in-Some-clause-blocked g c = λ made s told quiet.
    let given = setting_of_shared g.M.Matcher c.args.shared.now in
    let current = c.args.shared.now.current_dir.now in
    let blocked = deleting given made s (Some c.in-Ok-Some.real) (ap is_some (sym c.for_deletion_mode.ensures) ∙ c.is_none.ensures ∙ ap not c.if-is_none.false) (sym c.in-Ok-Some.field-0-is ∙ c.in-Ok-Some.ensures.answer s.tree told) in
    let rest : rest_behind_directory c.in-Ok-Some.real current ≡ Some c.in-Some.rest.now = ap (λ (p : List ℕ). rest_behind_directory p current) (sym c.as_bytes.ensures) ∙ sym c.in-Some.ensures in
    IfOk-weaker c.normalize-in-Some.result (λ n. n ≡ normalized c.in_ok-from_bytes-in-Some.field-0) (λ n. (evidence_from_setting_and_sources given made s).blocked ≡ n)
    (λ n is.
    blocked
    ∙ ap (option_and_then (λ r. normalized (without_leading_slashes r))) rest
    ∙ ap normalized (sym c.without_leading_slashes.ensures.rest)
    ∙ ap normalized (sym c.in_ok-from_bytes-in-Some.ensures)
    ∙ sym is)
    c.normalize-in-Some.ensures

pub returns-in-Ok-Some-clause-blocked : goal.returns-in-Ok-Some-clause-blocked
returns-in-Ok-Some-clause-blocked g c = λ made s told quiet.
    let given = setting_of_shared g.M.Matcher c.args.shared.now in
    let current = c.args.shared.now.current_dir.now in
    deleting given made s (Some c.in-Ok-Some.real) (ap is_some (sym c.for_deletion_mode.ensures) ∙ c.is_none.ensures ∙ ap not c.if-is_none.false) (sym c.in-Ok-Some.field-0-is ∙ c.in-Ok-Some.ensures.answer s.tree told)
    ∙ ap (option_and_then (λ r. normalized (without_leading_slashes r))) (ap (λ (p : List ℕ). rest_behind_directory p current) (sym c.as_bytes.ensures) ∙ sym c.in-None.ensures)

pub returns-in-Ok-None-clause-blocked : goal.returns-in-Ok-None-clause-blocked
returns-in-Ok-None-clause-blocked g c = λ made s told quiet.
    deleting (setting_of_shared g.M.Matcher c.args.shared.now) made s None (ap is_some (sym c.for_deletion_mode.ensures) ∙ c.is_none.ensures ∙ ap not c.if-is_none.false) (sym c.in-Ok-None.field-0-is ∙ c.in-Ok-None.ensures.answer s.tree told)
