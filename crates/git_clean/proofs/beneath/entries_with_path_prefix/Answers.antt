use Rattle.std.proofs.Common.{rules, ◌∙◌}
use Rattle.std.proofs.lemmas.List.Sorted.{IsPartitionPoint-from_clause}
use Rattle.gitbase_core.proofs.PrefixRuns.{stands_before, stands_among, parted-before, parted-among, run_from_points}
use Rattle.git_clean.specs.Beneath.{rela_path_of_report_entry}
use Rattle.git_clean.proofs.Near.{ascends-rise, run_is}
use Rattle.git_clean.proofs.beneath.entries_with_path_prefix.Goals as goal

pub returns : goal.returns
returns c =
    let name = c.args.name.now in
    let found = c.args.found.now in
    let up = ascends-rise found c.requires in
    let first =
    IsPartitionPoint-from_clause (stands_before rela_path_of_report_entry name found up) _ _ c.partition_point-start.ensures.partitioned
    (parted-before rela_path_of_report_entry name found up) (λ a r f k. search rules) in
    let rest = c.split_at.ensures.back in
    let second =
    IsPartitionPoint-from_clause (stands_among rela_path_of_report_entry name found up) _ _ c.partition_point-length.ensures.partitioned
    (rw rest (parted-among rela_path_of_report_entry name found up _ first)) (λ a r f k. search rules) in
    c.split_at-2.ensures.front
    ∙ rw rest (run_is name found _ _ (run_from_points rela_path_of_report_entry name found up _ _ c.partition_point-start.ensures.bound
    (rw rest at c.partition_point-length.ensures.bound) first (rw rest at second)))
