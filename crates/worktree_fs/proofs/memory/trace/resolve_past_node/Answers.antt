use Rattle.std.proofs.Common.{◌∙◌, ap, sym, arith, subst, List, Some, vec_capacity}
use Rattle.worktree_fs.specs.Tree.{Node, DirectoryWithParents, resolve_components_within_links, resolve_from_node, resolver_continuations, link_resolver_with_limit, is_directory, is_nil}
use Rattle.worktree_fs.specs.Stored.{named_nodes_of_entries, tree_node_of_inner, AreSortedValidEntries, HasSortedValidEntries}
use Rattle.worktree_fs.specs.Way.{name_at_position, directory_reached_by_way, IsDirectoryAtEndOfWay}
use Rattle.worktree_fs.specs.declared.memory.stored.Entry.{Entry}
use Rattle.worktree_fs.proofs.Routes.Ways.{room_down, stands_down, place_down, leaf_at, leaf_stands}
use Rattle.worktree_fs.proofs.memory.trace.resolve_past_node.Goals as goal

pub push_position_within_capacity-requires : goal.push_position_within_capacity-requires
push_position_within_capacity-requires c =
    let is = c.requires.node ∙ sym c.inner.ensures.node ∙ ap tree_node_of_inner c.in-Directory.is in
    omega (arith, room_down c.args.root.now c.args.dir.now c.in-Directory.entries.items c.args.way.now.items c.args.at c.requires.stands is (vec_capacity c.args.way.now) c.requires.room)

pub returns-in-Directory-clause-leads : goal.returns-in-Directory-clause-leads
returns-in-Directory-clause-leads c =
    let inner = sym c.inner.ensures.node ∙ ap tree_node_of_inner c.in-Directory.is in
    ap (λ (n : Node). resolve_from_node (resolver_continuations (λ (p : DirectoryWithParents). resolve_components_within_links c.args.route.now.links c.args.follow p c.args.route.now.left) (link_resolver_with_limit c.args.route.now.links c.args.follow) c.args.follow)
    (directory_reached_by_way (named_nodes_of_entries c.args.root.now) c.args.way.now.items) c.args.route.now.left (name_at_position (named_nodes_of_entries c.args.dir.now) c.args.at) (Some n)) inner
    ∙ ap (λ (p : DirectoryWithParents). resolve_components_within_links c.args.route.now.links c.args.follow p c.args.route.now.left)
    (place_down c.args.root.now c.args.dir.now c.in-Directory.entries.items c.args.way.now.items c.args.at c.requires.stands (c.requires.node ∙ inner) c.push_position_within_capacity.new.way.items c.push_position_within_capacity.ensures.items)

pub returns-in-Directory-clause-stands : goal.returns-in-Directory-clause-stands
returns-in-Directory-clause-stands c =
    let is = c.requires.node ∙ sym c.inner.ensures.node ∙ ap tree_node_of_inner c.in-Directory.is in
    let sorted : AreSortedValidEntries c.in-Directory.entries.items = subst HasSortedValidEntries c.in-Directory.is c.inner.ensures.sorted in
    subst (λ (es : List Entry). IsDirectoryAtEndOfWay c.args.root.now es c.push_position_within_capacity.new.way.items) (sym c.deref.ensures.value)
    (stands_down c.args.root.now c.args.dir.now c.in-Directory.entries.items c.args.way.now.items c.args.at c.requires.stands is c.push_position_within_capacity.new.way.items c.push_position_within_capacity.ensures.items sorted)

pub returns-then-ends_at_unfollowed_link-clause-stands : goal.returns-then-ends_at_unfollowed_link-clause-stands
returns-then-ends_at_unfollowed_link-clause-stands c =
    leaf_at c.args.root.now c.args.dir.now c.args.way.now.items c.args.at c.args.node.now c.requires.stands c.requires.there c.requires.node
    (ap is_directory (sym c.inner.ensures.node ∙ ap tree_node_of_inner c.in-Link.is))

pub returns-in-File-clause-stands : goal.returns-in-File-clause-stands
returns-in-File-clause-stands c =
    leaf_stands c.args.root.now c.args.way.now.items c.args.at (is_nil c.args.route.now.left) c.end_at_leaf_or_nowhere.result
    (leaf_at c.args.root.now c.args.dir.now c.args.way.now.items c.args.at c.args.node.now c.requires.stands c.requires.there c.requires.node
    (ap is_directory (sym c.inner.ensures.node ∙ ap tree_node_of_inner c.in-File.is)))
    c.end_at_leaf_or_nowhere.ensures

pub returns-in-Other-clause-stands : goal.returns-in-Other-clause-stands
returns-in-Other-clause-stands c =
    leaf_stands c.args.root.now c.args.way.now.items c.args.at (is_nil c.args.route.now.left) c.end_at_leaf_or_nowhere-in-Other.result
    (leaf_at c.args.root.now c.args.dir.now c.args.way.now.items c.args.at c.args.node.now c.requires.stands c.requires.there c.requires.node
    (ap is_directory (sym c.inner.ensures.node ∙ ap tree_node_of_inner c.in-Other.is)))
    c.end_at_leaf_or_nowhere-in-Other.ensures
