-- What a search for a setup says, as one of the program.
use Rattle.std.proofs.Common.{◌≡◌, ℕ, List, Result, Ok, Err, IfErr, refl}
use Rattle.worktree_fs.specs.declared.owners.Owners.{Ghosts as OwnersOf}
use Rattle.worktree_fs.specs.declared.worktree.Worktree.{Ghosts as WorktreeOf}
use Rattle.worktree_fs.specs.Owners.{OwnershipByPath}
use Rattle.worktree_fs.specs.Tree.{Names}
use Rattle.git_places.proofs.Carried.{as_refused}
use Rattle.git_setup.specs.Finds.{FindsOverToldTreeAndOwners}
use Rattle.git_setup.specs.declared.error.GitRefusal.{GitRefusal}
use Rattle.git_setup.specs.declared.error.GitRefusal.TheVariants as git
use Rattle.git_setup.specs.declared.found.Found.{Found}
use Rattle.tizhagor.specs.declared.refusal.CommandRefusal.{CommandRefusal}
use Rattle.tizhagor.specs.Finds.{FindsHereResultOverTreeAndOwners}
use Rattle.tizhagor.specs.Refusals.{git_result_with_here_refusal, fault, here_refusal_of_git_refusal, MayComeBeforeSetupIsFound}

is_fault : (e : GitRefusal) → here_refusal_of_git_refusal e ≡ fault → e ≡ git.Fault
is_fault (git.Elsewhere name) is = absurd cc
is_fault (git.Places e) is = absurd cc
is_fault (git.Foreign path) is = absurd cc
is_fault (git.IndexNode path) is = absurd cc
is_fault (git.IndexFile path e) is = absurd cc
is_fault (git.IndexEntry path e) is = absurd cc
is_fault (git.Files e) is = absurd cc
is_fault (git.Boolean path key) is = absurd cc
is_fault (git.SparseDirectory path) is = absurd cc
is_fault (git.OutsideRoot directory root) is = absurd cc
is_fault (git.PathSpec text) is = absurd cc
is_fault (git.OutsidePath text) is = absurd cc
is_fault (git.Prefix text prefix) is = absurd cc
is_fault (git.SubmoduleCase path) is = absurd cc
is_fault git.Fault is = refl
is_fault git.OutOfMemory is = absurd cc

pub finds_any : {W O A : Type 0} (w : WorktreeOf W) (o : OwnersOf O) (w0 w1 : W) (o0 o1 : O) (found : Names → OwnershipByPath → Result A GitRefusal) (answer : Result A GitRefusal)
    → FindsOverToldTreeAndOwners w o w0 w1 o0 o1 found answer → FindsHereResultOverTreeAndOwners w o w0 w1 o0 o1 (λ t owned. git_result_with_here_refusal (found t owned)) (git_result_with_here_refusal answer)
finds_any w o w0 w1 o0 o1 found answer h = as_refused w o w0 w1 o0 o1 here_refusal_of_git_refusal git.Fault git.OutOfMemory is_fault found answer h

pub finds_as : {W O : Type 0} (w : WorktreeOf W) (o : OwnersOf O) (w0 w1 : W) (o0 o1 : O) (found : Names → OwnershipByPath → Result Found GitRefusal) (answer : Result Found GitRefusal)
    → FindsOverToldTreeAndOwners w o w0 w1 o0 o1 found answer → FindsHereResultOverTreeAndOwners w o w0 w1 o0 o1 (λ t owned. git_result_with_here_refusal (found t owned)) (git_result_with_here_refusal answer)
finds_as w o w0 w1 o0 o1 found answer h = as_refused w o w0 w1 o0 o1 here_refusal_of_git_refusal git.Fault git.OutOfMemory is_fault found answer h

of_git-is : (e : GitRefusal) → MayComeBeforeSetupIsFound (here_refusal_of_git_refusal e)
of_git-is (git.Elsewhere name) = tt
of_git-is (git.Places e) = tt
of_git-is (git.Foreign path) = tt
of_git-is (git.IndexNode path) = tt
of_git-is (git.IndexFile path e) = tt
of_git-is (git.IndexEntry path e) = tt
of_git-is (git.Files e) = tt
of_git-is (git.Boolean path key) = tt
of_git-is (git.SparseDirectory path) = tt
of_git-is (git.OutsideRoot directory root) = tt
of_git-is (git.PathSpec text) = tt
of_git-is (git.OutsidePath text) = tt
of_git-is (git.Prefix text prefix) = tt
of_git-is (git.SubmoduleCase path) = tt
of_git-is git.Fault = tt
of_git-is git.OutOfMemory = tt

pub any_git-is : {A : Type 0} (answer : Result A GitRefusal) → IfErr (git_result_with_here_refusal answer) MayComeBeforeSetupIsFound
any_git-is (Ok here) = tt
any_git-is (Err e) = of_git-is e

pub as_git-is : (answer : Result Found GitRefusal) → IfErr (git_result_with_here_refusal answer) MayComeBeforeSetupIsFound
as_git-is (Ok here) = tt
as_git-is (Err e) = of_git-is e
