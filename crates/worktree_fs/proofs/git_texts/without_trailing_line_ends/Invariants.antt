use Rattle.std.proofs.Common.{◌≡◌, ◌≤◌, length}
use Rattle.worktree_fs.specs.Repository.{length_without_trailing_line_ends}
use Rattle.worktree_fs.proofs.git_texts.without_trailing_line_ends.Given as goal

abbrev pub invariant-loop-len : goal.invariant-loop-len
invariant-loop-len l = record {
  fits : l.len ≤ length l.text;
  same : length_without_trailing_line_ends l.text l.len ≡ length_without_trailing_line_ends l.text (length l.text);
}

abbrev pub decreases-loop-len : goal.decreases-loop-len
decreases-loop-len l = l.len
