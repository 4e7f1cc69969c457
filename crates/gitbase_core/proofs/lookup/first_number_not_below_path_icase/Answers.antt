use Rattle.std.proofs.Common.{ℕ, rules}
use Rattle.std.proofs.lemmas.List.Sorted.{IsPartitionPoint-from_clause}
use Rattle.std.specs.Ordering.{is_lt}
use Rattle.gitbase_core.specs.Text.{fold_case}
use Rattle.gitbase_core.specs.Lookup.{folded_path_of_numbered_entry}
use Rattle.gitbase_core.specs.Index.{compare_path_bytes}
use Rattle.gitbase_core.proofs.PathSearch.{got, parted-below, lower_bound}
use Rattle.gitbase_core.proofs.lookup.first_number_not_below_path_icase.Goals as goal

pub returns : goal.returns
returns c =
    let path = fold_case c.args.path.now in
    let entries = c.args.entries.now in
    let numbers = c.args.numbers.now in
    let point =
    IsPartitionPoint-from_clause (λ (n : ℕ). is_lt (compare_path_bytes (folded_path_of_numbered_entry entries n) path)) _ _ c.partition_point-at.ensures.partitioned
    (parted-below (folded_path_of_numbered_entry entries) path numbers c.requires) (λ a r f k. search rules) in
    let found = got numbers c.partition_point-at.result c.get.result c.get.ensures.lookup.3 in
    rw (c.copied.ensures, ← found) (lower_bound (folded_path_of_numbered_entry entries) path numbers c.requires _ c.partition_point-at.ensures.bound point)
