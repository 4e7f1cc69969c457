-- Where a repository lies, by the work tree.
use Rattle.std.proofs.Common.{◌≡◌, Result, Ok, Err, ap}
use Rattle.gitbase_core.specs.Steps.{and_then}
use Rattle.git_places.specs.Places.{places_of_work_tree_top}
use Rattle.git_places.specs.Surroundings.{Surroundings}
use Rattle.git_places.specs.Upward.{WorkTreeTop}
use Rattle.worktree_fs.specs.Owners.{OwnershipByPath}
use Rattle.worktree_fs.specs.Tree.{Names}
use Rattle.git_setup.specs.Compared.{find_repository_places}
use Rattle.git_setup.specs.Found.{find_top_unless_variable_redirects_git}
use Rattle.git_setup.specs.Refusals.{places_result_as_git_result}
use Rattle.git_setup.specs.declared.error.GitRefusal.{GitRefusal}

pub not_located : (t : Names) (owned : OwnershipByPath) (around : Surroundings) (e : GitRefusal) → find_top_unless_variable_redirects_git t owned around ≡ Err e → find_repository_places t owned around ≡ Err e
unfolding find_repository_places
not_located t owned around e is = ap (and_then (λ (top : WorkTreeTop). places_result_as_git_result (places_of_work_tree_top t top))) is

pub located : (t : Names) (owned : OwnershipByPath) (around : Surroundings) (top : WorkTreeTop) → find_top_unless_variable_redirects_git t owned around ≡ Ok top → find_repository_places t owned around ≡ places_result_as_git_result (places_of_work_tree_top t top)
unfolding find_repository_places
located t owned around top is = ap (and_then (λ (top : WorkTreeTop). places_result_as_git_result (places_of_work_tree_top t top))) is
