use Rattle.std.proofs.Common.{◌∙◌, ℕ, List, sym, ap, subst, arith, false}
use Rattle.worktree_fs.specs.Tree.{Names, directory, resolution_of_path}
use Rattle.worktree_fs.specs.Changes.{node_without_descendant, entries_after_remove_node}
use Rattle.worktree_fs.specs.Stored.{named_nodes_of_entries}
use Rattle.worktree_fs.specs.Way.{ResolvesToEnd, directory_reached_by_way, names_along_way_and_position, directory_depth_of_node}
use Rattle.worktree_fs.specs.declared.memory.stored.Entry.{Entry}
use Rattle.worktree_fs.specs.declared.memory.trace.End.TheVariants as ends
use Rattle.worktree_fs.proofs.Trees.Depths.{depth-cut}
use Rattle.worktree_fs.proofs.Trees.Removals.{removed_leaf}
use Rattle.worktree_fs.proofs.Routes.Ways.{along-way}
use Rattle.worktree_fs.proofs.memory.root.Root.remove.Goals as goal

pub invariant_of-self-2 : goal.invariant_of-self-2
invariant_of-self-2 c =
    let root = named_nodes_of_entries c.self.inside.entries.items in (
      c.remove_entry_by_positions.ensures.sorted,
      omega (arith, ap directory_depth_of_node c.remove_entry_by_positions.ensures.cut, depth-cut (names_along_way_and_position c.deref-2.result.now c.in-Node.at root) (directory root), c.self.invariant.1, c.resolve_path_recording_way.ensures.room),
    )

pub returns-clause-removed : goal.returns-clause-removed
returns-clause-removed c =
    let entries = c.self.inside.entries.items in
    let way = c.resolve_path_recording_way.new.way.items in
    let Leads : List Entry → Type 0 = λ es. ResolvesToEnd (resolution_of_path (named_nodes_of_entries es) c.args.path.now false) (directory_reached_by_way (named_nodes_of_entries es) way) (ends.Node c.in-Node.at) in
    let leads : Leads entries = subst Leads c.deref.ensures.value c.in-Node.ensures.leads in
    removed_leaf (named_nodes_of_entries entries) (named_nodes_of_entries c.remove_entry_by_positions.new.entries.items) (resolution_of_path (named_nodes_of_entries entries) c.args.path.now false) _ _ leads.0 leads.1.no_directory
    (c.remove_entry_by_positions.ensures.cut ∙ ap (λ (l : List (List ℕ)). node_without_descendant l (directory (named_nodes_of_entries entries)))
    (ap (λ (w : List ℕ). names_along_way_and_position w c.in-Node.at (named_nodes_of_entries entries)) c.deref-2.ensures.value ∙ sym (along-way (named_nodes_of_entries entries) way c.in-Node.at)))
    ∙ ap (λ (t : Names). entries_after_remove_node t (resolution_of_path t c.args.path.now false)) c.self.view_is
