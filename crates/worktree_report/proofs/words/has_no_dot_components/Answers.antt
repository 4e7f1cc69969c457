use Rattle.std.proofs.Common.{rules, tests, not}
use Rattle.std.specs.Prelude.{◌==◌}
use Rattle.std.proofs.lemmas.Iterator.Search.{all_from_yields_List}
use Rattle.std.proofs.lemmas.Iterator.Splits.{YieldsList-from_slice_split}
use Rattle.worktree_fs.specs.Paths.{is_dot_or_dot_dot}
use Rattle.worktree_report.proofs.words.has_no_dot_components.Goals as goal

pub returns : goal.returns
returns c =
    all_from_yields_List (λ piece. not (is_dot_or_dot_dot piece)) _ _ _ c.all.ensures.ran
    (YieldsList-from_slice_split _ (λ b. b == 47) c.args.path.now c.split.ensures.rest c.split.ensures.done c.split.ensures.closure (λ x b q h. search rules))
    (λ x b q k. search (rules, tests))
