use Rattle.std.proofs.Common.{◌∙◌, ap, sym, List, ℕ, Some, None, slice_index_or}
use Rattle.worktree_fs.specs.Tree.{Names, Node, DirectoryWithParents, child_by_name, resolve_components_within_links, resolve_from_node, resolver_continuations, link_resolver_with_limit}
use Rattle.worktree_fs.specs.Stored.{named_nodes_of_entries}
use Rattle.worktree_fs.specs.Way.{directory_reached_by_way}
use Rattle.worktree_fs.proofs.Trees.Grown.{child_gap}
use Rattle.worktree_fs.proofs.Routes.Ways.{at_range, at_name, at_child, nth_node, component-leads}
use Rattle.worktree_fs.proofs.memory.trace.resolve_one_component.Goals as goal

pub resolve_past_node-requires-clause-node : goal.resolve_past_node-requires-clause-node
resolve_past_node-requires-clause-node c = nth_node c.args.dir.now c.in-Ok.at c.index-dir-at.result (at_range c.args.dir.now c.requires.stands.sorted.rising c.args.component.now c.in-Ok.at c.in-Ok.ensures.found)

pub returns-in-Ok-clause-leads : goal.returns-in-Ok-clause-leads
returns-in-Ok-clause-leads c =
    let rising = c.requires.stands.sorted.rising in
    let dir = c.args.dir.now in
    let place = directory_reached_by_way (named_nodes_of_entries c.args.root.now) c.args.way.now.items in
    let links = c.args.route.now.links in
    let left = c.args.route.now.left in
    let node = (slice_index_or dir c.in-Ok.at c.index-dir-at.result).node in
    component-leads links c.args.follow place c.args.component.now left (Some node) (sym c.is_dot.ensures ∙ c.if-is_dot.false) (sym c.is_dot_dot.ensures ∙ c.if-is_dot_dot.false)
    (ap (λ (h : Names). child_by_name h c.args.component.now) c.requires.stands.here
    ∙ at_child dir rising c.args.component.now c.in-Ok.at c.in-Ok.ensures.found
    ∙ ap (λ (n : Node). Some n) (nth_node dir c.in-Ok.at c.index-dir-at.result (at_range dir rising c.args.component.now c.in-Ok.at c.in-Ok.ensures.found)))
    ∙ ap (λ (n : List ℕ). resolve_from_node (resolver_continuations (λ (p : DirectoryWithParents). resolve_components_within_links links c.args.follow p left) (link_resolver_with_limit links c.args.follow) c.args.follow) place left n (Some node)) (sym (at_name dir rising c.args.component.now c.in-Ok.at c.in-Ok.ensures.found))
    ∙ c.resolve_past_node.ensures.leads

pub returns-in-Err-clause-leads : goal.returns-in-Err-clause-leads
returns-in-Err-clause-leads c =
    component-leads c.args.route.now.links c.args.follow (directory_reached_by_way (named_nodes_of_entries c.args.root.now) c.args.way.now.items) c.args.component.now c.args.route.now.left None
    (sym c.is_dot.ensures ∙ c.if-is_dot.false) (sym c.is_dot_dot.ensures ∙ c.if-is_dot_dot.false)
    (ap (λ (h : Names). child_by_name h c.args.component.now) c.requires.stands.here ∙ child_gap c.args.dir.now c.args.component.now _ c.in-Err.ensures.absent)
