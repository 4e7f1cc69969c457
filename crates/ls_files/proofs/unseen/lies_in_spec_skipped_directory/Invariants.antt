use Rattle.std.proofs.Common.{◌≡◌, ◌-◌, drop, length, take}
use Rattle.std.specs.List.{list_any}
use Rattle.ls_files.specs.Others.{directories_above_behind_prefix, do_specs_skip_unindexed_directory, lies_in_spec_skipped_directory}
use Rattle.ls_files.proofs.unseen.lies_in_spec_skipped_directory.Given as goal

abbrev pub decreases-loop-at : goal.decreases-loop-at
decreases-loop-at l = length l.name - l.at

abbrev pub invariant-loop-at : goal.invariant-loop-at
invariant-loop-at l =
    list_any (do_specs_skip_unindexed_directory l.index l.all) (directories_above_behind_prefix (take l.at l.name) (drop l.at l.name)) ≡ lies_in_spec_skipped_directory l.index l.all l.name
