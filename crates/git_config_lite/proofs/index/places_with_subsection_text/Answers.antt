use Rattle.std.proofs.Common.{rules, ◌∙◌}
use Rattle.std.proofs.lemmas.List.Sorted.{IsPartitionPoint-from_clause}
use Rattle.git_config_lite.specs.SectionPlaces.{section_place, is_subsection_text_before, is_subsection_text_below, is_subsection_text_at_most}
use Rattle.git_config_lite.proofs.KeyRuns.{parted-under, parted-within, run_is}
use Rattle.git_config_lite.proofs.Placed.{by_keys}
use Rattle.git_config_lite.proofs.index.places_with_subsection_text.Goals as goal

pub returns : goal.returns
returns c =
    let key = c.args.key.now in
    let places = c.args.places.now in
    let one = section_place key 0 in
    let first =
    IsPartitionPoint-from_clause (is_subsection_text_below key) _ _ c.partition_point-start.ensures.partitioned
    (parted-under is_subsection_text_before by_keys places c.requires one) (λ a r f k. search rules) in
    let rest = c.split_at.ensures.back in
    let second =
    IsPartitionPoint-from_clause (is_subsection_text_at_most key) _ _ c.partition_point-length.ensures.partitioned
    (rw rest (parted-within is_subsection_text_before by_keys places c.requires one _)) (λ a r f k. search rules) in
    c.split_at-2.ensures.front
    ∙ rw rest (run_is is_subsection_text_before by_keys places c.requires one _ _ c.partition_point-start.ensures.bound
    (rw rest at c.partition_point-length.ensures.bound) first (rw rest at second))
