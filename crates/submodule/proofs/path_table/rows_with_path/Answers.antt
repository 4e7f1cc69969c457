use Rattle.std.proofs.Common.{rules, ◌∙◌, []}
use Rattle.std.proofs.lemmas.List.Sorted.{IsPartitionPoint-from_clause}
use Rattle.git_config_lite.proofs.KeyRuns.{parted-under, parted-within, run_is}
use Rattle.submodule.specs.NamedPaths.{named_path, is_row_path_before, is_row_path_below, is_row_path_at_most}
use Rattle.submodule.proofs.Tabled.{by_paths}
use Rattle.submodule.proofs.path_table.rows_with_path.Goals as goal

pub returns : goal.returns
returns c =
    let path = c.args.path.now in
    let rows = c.args.rows.now in
    let one = named_path path [] in
    let first =
    IsPartitionPoint-from_clause (is_row_path_below path) _ _ c.partition_point-start.ensures.partitioned
    (parted-under is_row_path_before by_paths rows c.requires one) (λ a r f k. search rules) in
    let rest = c.split_at.ensures.back in
    let second =
    IsPartitionPoint-from_clause (is_row_path_at_most path) _ _ c.partition_point-length.ensures.partitioned
    (rw rest (parted-within is_row_path_before by_paths rows c.requires one _)) (λ a r f k. search rules) in
    c.split_at-2.ensures.front
    ∙ rw rest (run_is is_row_path_before by_paths rows c.requires one _ _ c.partition_point-start.ensures.bound
    (rw rest at c.partition_point-length.ensures.bound) first (rw rest at second))
