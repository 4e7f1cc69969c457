use Rattle.std.proofs.Common.{rules, ◌++◌, ℕ, List}
use Rattle.std.proofs.lemmas.List.Sorted.{IsPartitionPoint-from_clause}
use Rattle.gitbase_core.specs.Index.{entry_path_after_skipped_bytes}
use Rattle.gitbase_core.specs.declared.entry.IndexEntry.{IndexEntry}
use Rattle.gitbase_core.proofs.PrefixRuns.{stands_before, stands_among, parted-before, parted-among, run_from_points}
use Rattle.gitbase_core.proofs.index.entry_range_with_path_prefix.Goals as goal

pub returns : goal.returns
returns c =
    let key : IndexEntry → List ℕ = entry_path_after_skipped_bytes c.args.skip in
    let prefix = c.args.front.now ++ c.args.back.now in
    let entries = c.args.entries.now in
    let first =
    IsPartitionPoint-from_clause (stands_before key prefix entries c.requires) _ _ c.partition_point-start.ensures.partitioned
    (parted-before key prefix entries c.requires) (λ a r f k. search rules) in
    let rest = c.split_at.ensures.back in
    let second =
    IsPartitionPoint-from_clause (stands_among key prefix entries c.requires) _ _ c.partition_point-length.ensures.partitioned
    (rw rest (parted-among key prefix entries c.requires _ first)) (λ a r f k. search rules) in
    run_from_points key prefix entries c.requires _ _ c.partition_point-start.ensures.bound
    (rw rest at c.partition_point-length.ensures.bound) first (rw rest at second)
