-- On the way from a root to a path below it.
use Rattle.std.proofs.Common.{◌≡◌, ℕ, List, Some}
use Rattle.gitbase_core.specs.Path.{components}
use Rattle.worktree_fs.specs.Kept.{KeepsTreeAndListCounts}
use Rattle.worktree_fs.specs.Tree.{Names}
use Rattle.worktree_fs.specs.declared.worktree.Worktree.{Ghosts as WorktreeOf}
use Rattle.worktree_report.specs.Looks.{IsLookedAtOnWay}
use Rattle.module_plan.specs.Ways.{first_obstacle_on_way}

-- nothing has barred the way so far, and what is left of it is that from here along the names that are left
pub record IsOn {W : Type 0} (w : WorktreeOf W) (w0 w1 : W) (root path here : List ℕ) (left : List (List ℕ)) : Type 0 where
  pub keeps : KeepsTreeAndListCounts w w0 w1
  pub unread : w.reads w1 ≡ w.reads w0
  pub unfaulted : w.faults w1 ≡ w.faults w0
  pub leads : (t : Names) → w.told w0 ≡ Some t → first_obstacle_on_way t here left ≡ first_obstacle_on_way t root (components path)
  pub on_way : (at : List ℕ) → IsLookedAtOnWay (w.told w0) here left at → IsLookedAtOnWay (w.told w0) root (components path) at
