-- Calls that pop directories, one behind another.
use Rattle.std.specs.Prelude.{◌≡◌, List, ◌++◌}
use Rattle.std.proofs.Common.{sym, subst, ◌∙◌}
use Rattle.worktree_fs.specs.PathStack.{DelegateCall}
use Rattle.worktree_stack.specs.StackSteps.{PopsDirectoriesOnly}
use Rattle.worktree_stack.specs.Stacked.{StackModel}
use Rattle.worktree_stack.proofs.Lookup.Carrying.{carries-then}
use Rattle.worktree_stack.proofs.CheckOut.HeldOut.{lowest-then}

pub pops-then : (a b : List DelegateCall) (old mid new : StackModel) → PopsDirectoriesOnly a old mid → PopsDirectoriesOnly b mid new → PopsDirectoriesOnly (a ++ b) old new
pops-then a b old mid new first second =
    record {
      made = second.made ∙ first.made;
      is_dir = second.is_dir ∙ first.is_dir;
      answered = second.answered ∙ first.answered;
      platforms = second.platforms ∙ first.platforms;
      no_mkdirs = second.no_mkdirs ∙ first.no_mkdirs;
      in_step = λ s in_step. second.in_step s (first.in_step s in_step);
      levels = λ level. second.levels (first.levels level);
      dropped = lowest-then _ _ _ second.dropped first.dropped;
      names = second.names ∙ first.names;
      carried = λ told holds. carries-then told holds a b old mid new (first.carried told holds) (second.carried told holds);
    }

-- the same of other calls, which are these
pub pops-as : (calls calls' : List DelegateCall) (old new : StackModel) → calls' ≡ calls → PopsDirectoriesOnly calls old new → PopsDirectoriesOnly calls' old new
pops-as calls calls' old new same pops = subst (λ (c : List DelegateCall). PopsDirectoriesOnly c old new) (sym same) pops
