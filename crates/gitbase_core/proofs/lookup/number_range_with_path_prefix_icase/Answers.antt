use Rattle.std.proofs.Common.{rules, ◌++◌, ℕ, List}
use Rattle.std.proofs.lemmas.List.Sorted.{IsPartitionPoint-from_clause}
use Rattle.gitbase_core.specs.Text.{fold_case}
use Rattle.gitbase_core.specs.Lookup.{folded_path_of_numbered_entry}
use Rattle.gitbase_core.proofs.PrefixRuns.{stands_before, stands_among, parted-before, parted-among, run_from_points}
use Rattle.gitbase_core.proofs.lookup.number_range_with_path_prefix_icase.Goals as goal

pub returns : goal.returns
returns c =
    let key : ℕ → List ℕ = folded_path_of_numbered_entry c.args.entries.now in
    let prefix = fold_case (c.args.front.now ++ c.args.back.now) in
    let numbers = c.args.numbers.now in
    let first =
    IsPartitionPoint-from_clause (stands_before key prefix numbers c.requires) _ _ c.partition_point-start.ensures.partitioned
    (parted-before key prefix numbers c.requires) (λ a r f k. search rules) in
    let rest = c.split_at.ensures.back in
    let second =
    IsPartitionPoint-from_clause (stands_among key prefix numbers c.requires) _ _ c.partition_point-length.ensures.partitioned
    (rw rest (parted-among key prefix numbers c.requires _ first)) (λ a r f k. search rules) in
    run_from_points key prefix numbers c.requires _ _ c.partition_point-start.ensures.bound
    (rw rest at c.partition_point-length.ensures.bound) first (rw rest at second)
