use Rattle.std.specs.Prelude.{◌≡◌, drop}
use Rattle.worktree_report.specs.SetupMeant.{insert_paths_in_order}
use Rattle.ls_files.specs.Others.{untracked_names_of_report, sorted_untracked_names}
use Rattle.ls_files.proofs.others.sorted_untracked_names.Given as goal

abbrev pub invariant-loop-entry : goal.invariant-loop-entry
invariant-loop-entry l =
    insert_paths_in_order l.names.keys (untracked_names_of_report l.listing l.index l.specs l.all (drop l.entry-index l.found))
    ≡ sorted_untracked_names l.listing l.index l.specs l.all l.found
