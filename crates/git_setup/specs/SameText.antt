-- The text of the report by the setup that is found.
use Rattle.std.specs.Prelude.{ℕ, Bool, List, Option}
use Rattle.std.specs.Result.{result_ok}
use Rattle.git_places.specs.Surroundings.{Surroundings}
use Rattle.worktree_fs.specs.Owners.{OwnershipByPath}
use Rattle.worktree_fs.specs.Tree.{Names}
use Rattle.worktree_report.specs.Asked.{report_text_of_setup}
use Rattle.gitbase_core.specs.Steps.{◌>>=◌}
use Rattle.git_setup.specs.Found.{find_and_read_setup}
use Rattle.git_setup.specs.declared.asked.Asked.{Asked}

-- none where no setup is found, and where there is no report by it
unfoldable pub report_text_of_found_setup : Bool → Names → OwnershipByPath → Surroundings → Asked → Option (List ℕ)
report_text_of_found_setup composes t owned around asked = do
  found ← result_ok (find_and_read_setup t owned around asked)
  report_text_of_setup composes t found.root found.setup
