-- A stack that tells which paths are excluded makes no directories.
use Rattle.std.specs.Prelude.{◌≡◌, ◌||◌, not, Bool, true}
use Rattle.std.proofs.Common.{ap}
use Rattle.worktree_fs.specs.declared.worktree.Worktree.{Ghosts as WorktreeOf}
use Rattle.worktree_stack.specs.LooksUp.{LookupLeavesWorktree}
use Rattle.worktree_stack.specs.Setup.{StackSetup, has_excludes, makes_directories, keeps_tree_in_lookups}

-- it leaves every tree as it was
pub keeps-excludes : (made : StackSetup) → has_excludes made ≡ true → keeps_tree_in_lookups made ≡ true
keeps-excludes made excludes = ap (λ (b : Bool). b || not (makes_directories made)) excludes

-- and so do its lookups
pub leaves-excludes : {W : Type 0} (w : WorktreeOf W) {before after : W} (made : StackSetup) → has_excludes made ≡ true → LookupLeavesWorktree (keeps_tree_in_lookups made) w before after → LookupLeavesWorktree true w before after
leaves-excludes w made excludes leaves =
    record {
      tree = λ on. leaves.tree (keeps-excludes made excludes);
      faults = leaves.faults;
      reads = leaves.reads;
      list_faults = leaves.list_faults;
      lists = leaves.lists;
      precomposes = leaves.precomposes;
    }
