use Rattle.std.proofs.Common.{◌∙◌, ◌++◌, ◌∷◌, List, ℕ, ap, sym, slice_index}
use Rattle.worktree_fs.specs.Changes.{slash_before_each_reversed_name}
use Rattle.worktree_fs.specs.Stored.{named_nodes_of_entries}
use Rattle.worktree_fs.specs.Way.{name_at_position}
use Rattle.worktree_fs.proofs.Routes.Ways.{here-take, trail-take}
use Rattle.worktree_fs.proofs.memory.spell.spell_path_of_way.Goals as goal

pub loop-at-preserved : goal.loop-at-preserved
loop-at-preserved c = record {
  text =
      c.in_ok-append_slash_and_name_at.ensures
      ∙ ap (λ (l : List ℕ). l ++ 47 ∷ name_at_position (named_nodes_of_entries c.loop-at.dir.now) (slice_index c.args.way.now c.loop-at.at-index)) c.loop-at.invariant.text
      ∙ sym (ap slash_before_each_reversed_name (trail-take c.args.way.now c.loop-at.at-index (named_nodes_of_entries c.args.root.now) (named_nodes_of_entries c.loop-at.dir.now) c.loop-at-test.true c.loop-at.invariant.here));
  here = here-take c.args.way.now c.loop-at.at-index (named_nodes_of_entries c.args.root.now) (named_nodes_of_entries c.loop-at.dir.now) (named_nodes_of_entries c.entries_of_child_directory-dir.result.now) c.loop-at-test.true c.loop-at.invariant.here c.entries_of_child_directory-dir.ensures.names;
  sorted = c.entries_of_child_directory-dir.ensures.sorted;
}
