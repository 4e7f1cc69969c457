use Rattle.std.proofs.Common.{◌≡◌, [], Some, drop}
use Rattle.worktree_fs.specs.Kept.{KeepsTreeAndListCounts}
use Rattle.worktree_fs.specs.Tree.{Names}
use Rattle.check_ignore.specs.Links.{append_parsed_asked_paths}
use Rattle.check_ignore.proofs.links.parse_asked_paths.Given as goal

abbrev pub invariant-loop-text : goal.invariant-loop-text
invariant-loop-text g l =
    record {
      same : (t : Names) → g.W.Worktree.told l.fn.worktree ≡ Some t
          → append_parsed_asked_paths t l.root l.prefix l.done (drop l.text-index l.texts) ≡ append_parsed_asked_paths t l.root l.prefix [] l.texts;
      unfaulted : g.W.Worktree.faults l.worktree ≡ g.W.Worktree.faults l.fn.worktree;
      keeps : KeepsTreeAndListCounts g.W.Worktree l.fn.worktree l.worktree;
    }
