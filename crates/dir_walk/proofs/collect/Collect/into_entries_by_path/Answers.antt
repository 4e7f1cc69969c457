use Rattle.std.proofs.Common.{rules, subst, sym, ◌∙◌, ap}
use Rattle.std.proofs.lemmas.List.Sorted.{answers_always}
use Rattle.dir_walk.specs.Distinct.{IsStrictlyAscendingByPath}
use Rattle.dir_walk.specs.Emissions.{is_before_by_path, sort_emissions_by_path}
use Rattle.dir_walk.proofs.Order.Sorting.{by_paths, IsAscending-from_sort}
use Rattle.dir_walk.proofs.Order.Stable.{by_path-from_stable}
use Rattle.dir_walk.proofs.Order.Strict.{Ascends-by_path}
use Rattle.dir_walk.proofs.collect.Collect.into_entries_by_path.Goals as goal

pub returns-clause-sorted : goal.returns-clause-sorted
returns-clause-sorted c =
    c.from_vec.ensures
    ∙ by_path-from_stable c.into_vec-items.result.items c.sort_by.new.self.items
    (c.in_ok-sort_by.ensures.sorted is_before_by_path by_paths (answers_always _ _ _ (λ f a r g h. search rules)))
    (c.sort_by.ensures.stable is_before_by_path by_paths (answers_always _ _ _ (λ f a r g h. search rules)))
    ∙ ap sort_emissions_by_path c.into_vec-items.ensures

pub returns-clause-ascending : goal.returns-clause-ascending
returns-clause-ascending c =
    rw c.from_vec.ensures
    (IsAscending-from_sort c.sort_by.new.self.items (c.in_ok-sort_by.ensures.sorted is_before_by_path by_paths (answers_always _ _ _ (λ f a r g h. search rules))))

pub returns-clause-strict : goal.returns-clause-strict
returns-clause-strict c = λ distinct. subst IsStrictlyAscendingByPath (sym (returns-clause-sorted c)) (Ascends-by_path c.args.self.unorded_entries distinct)
