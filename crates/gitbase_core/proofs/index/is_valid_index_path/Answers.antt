use Rattle.std.proofs.Common.{◌≡◌, not, ◌==◌, ◌∙◌, rules, tests, ap, length, List, ℕ}
use Rattle.std.specs.List.{list_all, slice_split}
use Rattle.std.proofs.lemmas.Iterator.Search.{all_from_yields_List}
use Rattle.std.proofs.lemmas.Iterator.Splits.{YieldsList-from_slice_split}
use Rattle.gitbase_core.specs.Path.{is_empty, is_slash}
use Rattle.gitbase_core.proofs.Slashes.{has_bytes}
use Rattle.gitbase_core.proofs.index.is_valid_index_path.Goals as goal

pub returns : goal.returns
returns c =
    all_from_yields_List (λ piece. not (is_empty piece)) _ _ c.all.result c.all.ensures.ran
    (YieldsList-from_slice_split _ is_slash _ c.split.ensures.rest c.split.ensures.done c.split.ensures.closure (λ x r q k. search (rules, tests)))
    (λ x b q k. let e : b ≡ not (length x.now == 0) = search (rules, tests) in (search (rules, tests), e ∙ has_bytes x.now))
    ∙ ap (λ (path : List ℕ). list_all (λ piece. not (is_empty piece)) (slice_split is_slash path)) c.without_trailing_slash.ensures
