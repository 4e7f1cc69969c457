-- What comes of the search for a work tree comes of all of it.
use Rattle.std.proofs.Common.{◌≡◌, Result, Ok, Err, ap}
use Rattle.gitbase_core.specs.Steps.{and_then}
use Rattle.git_places.specs.Surroundings.{Surroundings}
use Rattle.worktree_fs.specs.Owners.{OwnershipByPath}
use Rattle.worktree_fs.specs.Tree.{Names}
use Rattle.git_places.specs.Upward.{WorkTreeTop}
use Rattle.git_setup.specs.Found.{read_setup_at_top, find_and_read_setup, find_top_unless_variable_redirects_git}
use Rattle.git_setup.specs.declared.asked.Asked.{Asked}
use Rattle.git_setup.specs.declared.error.GitRefusal.{GitRefusal}

pub not_found : (t : Names) (owned : OwnershipByPath) (around : Surroundings) (asked : Asked) (e : GitRefusal) → find_top_unless_variable_redirects_git t owned around ≡ Err e → find_and_read_setup t owned around asked ≡ Err e
unfolding find_and_read_setup
not_found t owned around asked e is = ap (and_then (read_setup_at_top t around asked)) is

pub found_of : (t : Names) (owned : OwnershipByPath) (around : Surroundings) (asked : Asked) (top : WorkTreeTop) → find_top_unless_variable_redirects_git t owned around ≡ Ok top → find_and_read_setup t owned around asked ≡ read_setup_at_top t around asked top
unfolding find_and_read_setup
found_of t owned around asked top is = ap (and_then (read_setup_at_top t around asked)) is
