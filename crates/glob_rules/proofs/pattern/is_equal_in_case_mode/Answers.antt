use Rattle.std.proofs.lemmas.Bool.Decides.{Decides-eqb}
use Rattle.std.proofs.lemmas.Slice.Eq.{slice_eq-Decides}
use Rattle.glob_rules.proofs.Plain.{same_bytes, same_letters}
use Rattle.glob_rules.proofs.pattern.is_equal_in_case_mode.Goals as goal

pub returns-in-Sensitive : goal.returns-in-Sensitive
returns-in-Sensitive c =
    same_bytes c.args.case c.args.left.now c.args.right.now c.eq.result c.in-Sensitive.is (slice_eq-Decides Decides-eqb c.args.left.now c.args.right.now c.eq.result c.eq.ensures)

pub returns-in-Fold : goal.returns-in-Fold
returns-in-Fold c = same_letters c.args.case c.args.left.now c.args.right.now c.eq_ignore_ascii_case.result c.in-Fold.is c.eq_ignore_ascii_case.ensures.test
