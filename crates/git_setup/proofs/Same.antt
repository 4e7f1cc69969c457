-- The report by a setup text, and that by the setup which is found.
use Rattle.std.proofs.Common.{◌≡◌, ℕ, Bool, true, List, Option, Some, Result, Ok, ap, sym, ◌∙◌, option_and_then}
use Rattle.std.specs.Result.{result_ok}
use Rattle.git_places.specs.Surroundings.{Surroundings}
use Rattle.worktree_fs.specs.Owners.{OwnershipByPath}
use Rattle.worktree_fs.specs.Tree.{Names, look}
use Rattle.worktree_report.specs.Asked.{report_text_of_setup}
use Rattle.worktree_report.specs.Run.{report_text_at_places}
use Rattle.worktree_report.specs.SetupAt.{setup_of_file_looked_at}
use Rattle.worktree_report.specs.declared.setup.Setup.{Setup}
use Rattle.git_setup.specs.Found.{find_and_read_setup}
use Rattle.git_setup.specs.SameText.{report_text_of_found_setup}
use Rattle.git_setup.specs.declared.asked.Asked.{Asked}
use Rattle.git_setup.specs.declared.error.GitRefusal.{GitRefusal}
use Rattle.git_setup.specs.declared.found.Found.{Found}

-- where a setup text means the setup that is found, `report` with it and the report by the found setup are the same bytes, or neither
-- is there
pub same_output : (composes : Bool) (t : Names) (owned : OwnershipByPath) (around : Surroundings) (asked : Asked) (path : List ℕ) (found : Found)
    → find_and_read_setup t owned around asked ≡ Ok found → setup_of_file_looked_at (look t path true) ≡ Ok found.setup
    → report_text_at_places composes t (record { root = found.root; setup = path }) ≡ report_text_of_found_setup composes t owned around asked
unfolding report_text_at_places report_text_of_found_setup
same_output composes t owned around asked path found is read =
    ap (λ (r : Result Setup ℕ). option_and_then (report_text_of_setup composes t found.root) (result_ok r)) read
    ∙ sym (ap (λ (r : Result Found GitRefusal). option_and_then (λ (f : Found). report_text_of_setup composes t f.root f.setup) (result_ok r)) is)

-- the same of a text that is there
pub same_text : (composes : Bool) (t : Names) (owned : OwnershipByPath) (around : Surroundings) (asked : Asked) (path : List ℕ) (found : Found) (text : List ℕ)
    → find_and_read_setup t owned around asked ≡ Ok found → setup_of_file_looked_at (look t path true) ≡ Ok found.setup → report_text_of_found_setup composes t owned around asked ≡ Some text
    → report_text_at_places composes t (record { root = found.root; setup = path }) ≡ Some text
same_text composes t owned around asked path found text is read there = same_output composes t owned around asked path found is read ∙ there
