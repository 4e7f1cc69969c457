use Rattle.std.proofs.Common.{◌≡◌, ◌∙◌, [], ℕ, ap, sym, subst, rules}
use Rattle.std.proofs.lemmas.Grind.{common_steps}
use Rattle.worktree_fs.specs.Tree.{resolve_components_within_links}
use Rattle.worktree_fs.specs.Stored.{named_nodes_of_entries}
use Rattle.worktree_fs.specs.Way.{directory_reached_by_way, turned, TurnFitsWay}
use Rattle.worktree_fs.proofs.Routes.Trails.{spot-text, spot-no_text}
use Rattle.worktree_fs.proofs.memory.trace.resolve_path_recording_way.Goals as goal

pub returns-then-not-is_utf8_without_nul-clause-leads : goal.returns-then-not-is_utf8_without_nul-clause-leads
returns-then-not-is_utf8_without_nul-clause-leads c = spot-no_text (named_nodes_of_entries c.args.root.now) c.args.path.now c.args.follow (sym c.is_utf8_without_nul.ensures ∙ c.if-not-is_utf8_without_nul.true)

pub returns-in-Missing-clause-leads : goal.returns-in-Missing-clause-leads
returns-in-Missing-clause-leads c = record {
  left = c.resolve_one_component.new.route.left;
  is_missing =
      let place = directory_reached_by_way (named_nodes_of_entries c.args.root.now) c.loop-component.way.items in
      spot-text (named_nodes_of_entries c.args.root.now) c.args.path.now c.args.follow (sym c.is_utf8_without_nul.ensures ∙ c.if-not-is_utf8_without_nul.false)
      ∙ c.loop-component.invariant.leads
      ∙ ap (λ (n : ℕ). resolve_components_within_links n c.args.follow place c.loop-component.route.left) (sym c.next.ensures.links)
      ∙ ap (resolve_components_within_links c.next.new.self.links c.args.follow place) c.in-Some.ensures.component
      ∙ c.resolve_one_component.ensures.leads
      ∙ ap (turned c.args.follow (directory_reached_by_way (named_nodes_of_entries c.args.root.now) c.resolve_one_component.new.way.items) c.resolve_one_component.new.route.links c.resolve_one_component.new.route.left) c.in-Missing.is;
  is_end = c.is_done.ensures;
}

pub returns-in-Node-clause-leads : goal.returns-in-Node-clause-leads
returns-in-Node-clause-leads c =
    let stands = subst (TurnFitsWay c.args.root.now c.resolve_one_component.new.way.items) c.in-Node.is c.resolve_one_component.ensures.stands in
    let place = directory_reached_by_way (named_nodes_of_entries c.args.root.now) c.loop-component.way.items in (
      spot-text (named_nodes_of_entries c.args.root.now) c.args.path.now c.args.follow (sym c.is_utf8_without_nul.ensures ∙ c.if-not-is_utf8_without_nul.false)
          ∙ c.loop-component.invariant.leads
          ∙ ap (λ (n : ℕ). resolve_components_within_links n c.args.follow place c.loop-component.route.left) (sym c.next.ensures.links)
          ∙ ap (resolve_components_within_links c.next.new.self.links c.args.follow place) c.in-Some.ensures.component
          ∙ c.resolve_one_component.ensures.leads
          ∙ ap (turned c.args.follow (directory_reached_by_way (named_nodes_of_entries c.args.root.now) c.resolve_one_component.new.way.items) c.resolve_one_component.new.route.links c.resolve_one_component.new.route.left) c.in-Node.is,
      stands.1,
    )

pub returns-in-Nowhere-clause-leads : goal.returns-in-Nowhere-clause-leads
returns-in-Nowhere-clause-leads c =
    let place = directory_reached_by_way (named_nodes_of_entries c.args.root.now) c.loop-component.way.items in
    spot-text (named_nodes_of_entries c.args.root.now) c.args.path.now c.args.follow (sym c.is_utf8_without_nul.ensures ∙ c.if-not-is_utf8_without_nul.false)
    ∙ c.loop-component.invariant.leads
    ∙ ap (λ (n : ℕ). resolve_components_within_links n c.args.follow place c.loop-component.route.left) (sym c.next.ensures.links)
    ∙ ap (resolve_components_within_links c.next.new.self.links c.args.follow place) c.in-Some.ensures.component
    ∙ c.resolve_one_component.ensures.leads
    ∙ ap (turned c.args.follow (directory_reached_by_way (named_nodes_of_entries c.args.root.now) c.resolve_one_component.new.way.items) c.resolve_one_component.new.route.links c.resolve_one_component.new.route.left) c.in-Nowhere.is

pub returns-in-Endless-clause-leads : goal.returns-in-Endless-clause-leads
returns-in-Endless-clause-leads c =
    let place = directory_reached_by_way (named_nodes_of_entries c.args.root.now) c.loop-component.way.items in
    spot-text (named_nodes_of_entries c.args.root.now) c.args.path.now c.args.follow (sym c.is_utf8_without_nul.ensures ∙ c.if-not-is_utf8_without_nul.false)
    ∙ c.loop-component.invariant.leads
    ∙ ap (λ (n : ℕ). resolve_components_within_links n c.args.follow place c.loop-component.route.left) (sym c.next.ensures.links)
    ∙ ap (resolve_components_within_links c.next.new.self.links c.args.follow place) c.in-Some.ensures.component
    ∙ c.resolve_one_component.ensures.leads
    ∙ ap (turned c.args.follow (directory_reached_by_way (named_nodes_of_entries c.args.root.now) c.resolve_one_component.new.way.items) c.resolve_one_component.new.route.links c.resolve_one_component.new.route.left) c.in-Endless.is

pub returns-clause-leads : goal.returns-clause-leads
returns-clause-leads c =
    let place = directory_reached_by_way (named_nodes_of_entries c.args.root.now) c.loop-component.way.items in
    let empty : c.loop-component.route.left ≡ [] = search (rules, common_steps) in
    spot-text (named_nodes_of_entries c.args.root.now) c.args.path.now c.args.follow (sym c.is_utf8_without_nul.ensures ∙ c.if-not-is_utf8_without_nul.false)
    ∙ c.loop-component.invariant.leads
    ∙ ap (resolve_components_within_links c.loop-component.route.links c.args.follow place) empty
