use Rattle.std.proofs.Common.{[], ◌∙◌, ap, sym, List, ℕ}
use Rattle.worktree_fs.specs.Tree.{resolve_components_within_links}
use Rattle.worktree_fs.specs.Stored.{named_nodes_of_entries}
use Rattle.worktree_fs.specs.Way.{directory_reached_by_way}
use Rattle.worktree_fs.proofs.Routes.Trails.{behind-none, behind-no_text, behind-on, start-absolute, start-relative}
use Rattle.worktree_fs.proofs.Routes.Ways.{root-place}
use Rattle.worktree_fs.proofs.memory.trace.follow_link.Goals as goal

pub returns-then-links_left_to_follow-eq0-clause-leads : goal.returns-then-links_left_to_follow-eq0-clause-leads
returns-then-links_left_to_follow-eq0-clause-leads c = λ follow.
    behind-none c.args.route.now.links follow (directory_reached_by_way (named_nodes_of_entries c.args.root.now) c.args.way.now.items) c.args.target.now c.args.route.now.left (sym c.links_left_to_follow.ensures ∙ c.if-links_left_to_follow-eq0.true)

pub returns-then-not-is_utf8_without_nul-clause-leads : goal.returns-then-not-is_utf8_without_nul-clause-leads
returns-then-not-is_utf8_without_nul-clause-leads c = λ follow.
    behind-no_text c.args.route.now.links follow (directory_reached_by_way (named_nodes_of_entries c.args.root.now) c.args.way.now.items) c.args.target.now c.args.route.now.left
    (λ e. c.if-links_left_to_follow-eq0.false (c.links_left_to_follow.ensures ∙ e)) (sym c.is_utf8_without_nul.ensures ∙ c.if-not-is_utf8_without_nul.true)

pub returns-then-is_absolute-clause-leads : goal.returns-then-is_absolute-clause-leads
returns-then-is_absolute-clause-leads c = λ follow.
    let place = directory_reached_by_way (named_nodes_of_entries c.args.root.now) c.args.way.now.items in
    behind-on c.args.route.now.links follow place c.args.target.now c.args.route.now.left c.follow.new.self.links c.follow.new.self.left (directory_reached_by_way (named_nodes_of_entries c.args.root.now) [])
    c.follow.ensures.links (sym c.is_utf8_without_nul.ensures ∙ c.if-not-is_utf8_without_nul.false) c.follow.ensures.left
    (start-absolute place c.args.target.now (sym c.is_absolute.ensures ∙ c.if-is_absolute.true) ∙ root-place (named_nodes_of_entries c.args.root.now) c.args.way.now.items)
    ∙ ap (λ (w : List ℕ). resolve_components_within_links c.follow.new.self.links follow (directory_reached_by_way (named_nodes_of_entries c.args.root.now) w) c.follow.new.self.left) (sym c.clear.ensures.items)

pub returns-else-is_absolute-clause-leads : goal.returns-else-is_absolute-clause-leads
returns-else-is_absolute-clause-leads c = λ follow.
    let place = directory_reached_by_way (named_nodes_of_entries c.args.root.now) c.args.way.now.items in
    behind-on c.args.route.now.links follow place c.args.target.now c.args.route.now.left c.follow.new.self.links c.follow.new.self.left place
    c.follow.ensures.links (sym c.is_utf8_without_nul.ensures ∙ c.if-not-is_utf8_without_nul.false) c.follow.ensures.left
    (start-relative place c.args.target.now (sym c.is_absolute.ensures ∙ c.if-is_absolute.false))
