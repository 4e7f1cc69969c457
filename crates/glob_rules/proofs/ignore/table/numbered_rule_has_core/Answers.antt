use Rattle.std.proofs.Common.{◌≡◌, ◌↔◌, IsTrue, List, ℕ, subst}
use Rattle.std.proofs.lemmas.Bool.Decides.{Decides-eqb}
use Rattle.std.proofs.lemmas.Slice.Eq.{slice_eq-Decides}
use Rattle.glob_rules.proofs.ignore.table.numbered_rule_has_core.Goals as goal

pub returns : goal.returns
returns c =
    subst (λ (t : List ℕ). IsTrue c.eq.result ↔ (t ≡ c.args.text.now)) c.core_of_numbered_rule.ensures
    (slice_eq-Decides Decides-eqb c.core_of_numbered_rule.result.now c.args.text.now c.eq.result c.eq.ensures)
