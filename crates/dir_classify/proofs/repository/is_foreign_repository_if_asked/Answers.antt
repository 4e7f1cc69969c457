use Rattle.dir_classify.proofs.Upgrades.{tested-unasked, tested-asked}
use Rattle.dir_classify.proofs.repository.is_foreign_repository_if_asked.Goals as goal

pub returns-then-not-asked-clause-swallowed : goal.returns-then-not-asked-clause-swallowed
returns-then-not-asked-clause-swallowed g c = λ t told. tested-unasked _ c.args.asked _ c.if-not-asked.true

pub returns-clause-swallowed : goal.returns-clause-swallowed
returns-clause-swallowed g c = λ t told. tested-asked _ _ c.args.asked _ c.in_ok-is_foreign.is_foreign c.if-not-asked.false (c.in_ok-is_foreign.ensures.swallowed t told)
