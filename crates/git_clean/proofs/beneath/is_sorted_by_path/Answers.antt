use Rattle.std.proofs.Common.{rules, not}
use Rattle.std.proofs.lemmas.Fn.{always_returns_same}
use Rattle.git_clean.specs.Beneath.{path_sorts_before}
use Rattle.git_clean.proofs.Near.{rise-is}
use Rattle.git_clean.proofs.beneath.is_sorted_by_path.Goals as goal

pub returns : goal.returns
returns c = rise-is c.args.found.now _ (c.is_sorted_by.ensures.cases (λ x y. not (path_sorts_before y x)) (always_returns_same _ _ _ (λ a r g called. search rules)))
