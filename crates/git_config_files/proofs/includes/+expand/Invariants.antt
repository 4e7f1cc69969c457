use Rattle.std.proofs.Common.{◌≡◌, ◌+◌, ◌*◌, [], Some}
use Rattle.std.specs.Vec.Iter.{into_iter_items}
use Rattle.worktree_fs.specs.Kept.{KeepsTreeAndListCounts}
use Rattle.worktree_fs.specs.Tree.{Names}
use Rattle.git_config_files.specs.Includes.{expand_includes_behind_done_keys, read_keys_expanding_includes_to_depth}
use Rattle.git_config_files.proofs.includes.+expand.Given as goal

abbrev pub decreases-keys_included_by_key : goal.decreases-keys_included_by_key
decreases-keys_included_by_key g l = 3 * l.levels + 1

abbrev pub decreases-expand_includes_of_keys : goal.decreases-expand_includes_of_keys
decreases-expand_includes_of_keys g l = 3 * l.levels + 2

abbrev pub decreases-read_keys_expanding_includes_to_depth : goal.decreases-read_keys_expanding_includes_to_depth
decreases-read_keys_expanding_includes_to_depth g l = 3 * l.levels

abbrev pub invariant-expand_includes_of_keys-loop-key : goal.invariant-expand_includes_of_keys-loop-key
invariant-expand_includes_of_keys-loop-key g l =
    record {
      same : (t : Names) → g.W.Worktree.told l.fn.worktree ≡ Some t
          → expand_includes_behind_done_keys t l.known (read_keys_expanding_includes_to_depth t l.known l.source l.levels) l.from l.done (into_iter_items l.key-iterator)
          ≡ expand_includes_behind_done_keys t l.known (read_keys_expanding_includes_to_depth t l.known l.source l.levels) l.from [] l.fn.keys;
      unfaulted : g.W.Worktree.faults l.worktree ≡ g.W.Worktree.faults l.fn.worktree;
      keeps : KeepsTreeAndListCounts g.W.Worktree l.fn.worktree l.worktree;
    }
