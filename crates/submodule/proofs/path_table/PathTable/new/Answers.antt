use Rattle.std.proofs.Common.{rules, ◌∙◌, ap, List}
use Rattle.std.specs.List.{filter}
use Rattle.std.specs.List.Sorted.{ties}
use Rattle.std.proofs.lemmas.List.Sorted.{answers_always}
use Rattle.submodule.specs.declared.named_path.NamedPath.{NamedPath}
use Rattle.submodule.specs.NamedPaths.{is_row_path_before}
use Rattle.submodule.proofs.Tabled.{by_paths}
use Rattle.submodule.proofs.path_table.PathTable.new.Goals as goal

pub invariant_of-result : goal.invariant_of-result
invariant_of-result c = c.in_ok-sort_by.ensures.sorted is_row_path_before by_paths (answers_always _ _ _ (λ f a r g h. search rules))

pub returns : goal.returns
returns c = λ x.
    c.in_ok-sort_by.ensures.stable is_row_path_before by_paths (answers_always _ _ _ (λ f a r g h. search rules)) x
    ∙ ap (λ (ps : List NamedPath). filter (ties is_row_path_before x) ps) c.in_ok-rows.ensures
