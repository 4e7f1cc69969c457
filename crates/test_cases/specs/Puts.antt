-- What a step does to a tree in memory.
use Rattle.std.specs.Prelude.{◌≡◌, false, []}
use Rattle.worktree_fs.specs.Memory.{MemoryWorktreeModel, zero_call_counts}

-- nothing but the nodes of the tree differs
abbrev pub ChangesTreeOnly : MemoryWorktreeModel → MemoryWorktreeModel → Type 0
ChangesTreeOnly before now = now ≡ record before { tree = now.tree }

-- no call was made, none is planned to fail, and names are listed in their order
abbrev pub IsFreshMemoryWorktree : MemoryWorktreeModel → Type 0
IsFreshMemoryWorktree m = m ≡ record {
  tree = m.tree;
  composes = false;
  is_reversed = false;
  plans = [];
  calls = zero_call_counts;
  faults = 0;
  list_faults = 0;
  reads = 0;
  lists = 0;
}
