use Rattle.std.proofs.Common.{rules}
use Rattle.std.proofs.lemmas.List.Sorted.{IsPartitionPoint-from_clause}
use Rattle.std.specs.Ordering.{is_lt}
use Rattle.gitbase_core.specs.Index.{compare_path_bytes, entry_path_after_skipped_bytes}
use Rattle.gitbase_core.specs.declared.entry.IndexEntry.{IndexEntry}
use Rattle.gitbase_core.proofs.PathSearch.{got, parted-below, lower_bound}
use Rattle.gitbase_core.proofs.index.first_entry_not_below_path.Goals as goal

pub returns : goal.returns
returns c =
    let path = c.args.path.now in
    let entries = c.args.entries.now in
    let point =
    IsPartitionPoint-from_clause (λ (e : IndexEntry). is_lt (compare_path_bytes (entry_path_after_skipped_bytes c.args.skip e) path)) _ _ c.partition_point-at.ensures.partitioned
    (parted-below (entry_path_after_skipped_bytes c.args.skip) path entries c.requires) (λ a r f k. search rules) in
    let found = got entries c.partition_point-at.result c.get.result c.get.ensures.lookup.3 in
    rw (← found) (lower_bound (entry_path_after_skipped_bytes c.args.skip) path entries c.requires _ c.partition_point-at.ensures.bound point)
