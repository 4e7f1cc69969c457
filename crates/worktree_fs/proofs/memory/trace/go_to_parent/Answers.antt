use Rattle.std.proofs.Common.{◌≡◌, ◌++◌, ◌∷◌, [], List, ℕ, rules, ap, sym, ◌∙◌}
use Rattle.std.proofs.lemmas.Grind.{common_steps}
use Rattle.worktree_fs.specs.Stored.{named_nodes_of_entries}
use Rattle.worktree_fs.specs.Way.{entries_reached_by_way}
use Rattle.worktree_fs.proofs.Routes.Ways.{place_up, stands_up}
use Rattle.worktree_fs.proofs.memory.trace.go_to_parent.Goals as goal

pub returns-in-Some-clause-parent : goal.returns-in-Some-clause-parent
returns-in-Some-clause-parent c =
    let is : c.args.way.now.items ≡ c.pop.new.self.items ++ c.in-Some.field-0 ∷ [] = search (rules, common_steps) in
    place_up (named_nodes_of_entries c.args.root.now) c.pop.new.self.items c.args.way.now.items c.in-Some.field-0 is

pub returns-in-Some-clause-stands : goal.returns-in-Some-clause-stands
returns-in-Some-clause-stands c =
    let is : c.args.way.now.items ≡ c.pop.new.self.items ++ c.in-Some.field-0 ∷ [] = search (rules, common_steps) in
    stands_up c.args.root.now c.entries_at_end_of_way.result.now c.pop.new.self.items c.args.way.now.items c.in-Some.field-0 c.requires.stands.is_way is
    (ap (λ (w : List ℕ). entries_reached_by_way w (named_nodes_of_entries c.args.root.now)) (sym c.deref.ensures.value) ∙ c.entries_at_end_of_way.ensures.here) c.entries_at_end_of_way.ensures.sorted
