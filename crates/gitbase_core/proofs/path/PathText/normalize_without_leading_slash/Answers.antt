use Rattle.std.proofs.Common.{[], refl, sym, ◌∙◌}
use Rattle.gitbase_core.proofs.Names.{AreNames-components}
use Rattle.gitbase_core.proofs.ClosedPaths.{follows-up}
use Rattle.gitbase_core.proofs.path.PathText.normalize_without_leading_slash.Goals as goal

pub loop-name-init : goal.loop-name-init
loop-name-init c =
    rw (c.into_iter-name-iterator.ensures.into_iter_gives, c.components-name-items.ensures)
    ([], tt, c.new-normal.ensures, AreNames-components c.args.self.now, refl)

pub loop-name-preserved-else-not-pop_component : goal.loop-name-preserved-else-not-pop_component
loop-name-preserved-else-not-pop_component c =
    rw c.pop_component.ensures.path
    (follows-up _ _ _ _
    (rw c.in-Some.ensures.steps at c.loop-name.invariant)
    (rw c.as_slice.ensures at (sym c.eq.ensures ∙ c.if-eq.true))
    (sym c.pop_component.ensures.popped ∙ c.if-not-pop_component.false))
