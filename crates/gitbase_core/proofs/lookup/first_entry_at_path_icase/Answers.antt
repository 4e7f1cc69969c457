use Rattle.std.proofs.Common.{◌≡◌, Some, sym, ap, ◌∙◌, arith}
use Rattle.std.specs.Prelude.{slice_get}
use Rattle.gitbase_core.specs.Text.{fold_case}
use Rattle.gitbase_core.specs.Lookup.{folded_path_of_numbered_entry}
use Rattle.gitbase_core.specs.Index.{IsFirstElementNotBelowPath}
use Rattle.gitbase_core.proofs.PathSearch.{got}
use Rattle.gitbase_core.proofs.FoldedOrder.{same_from_order, other_from_order}
use Rattle.gitbase_core.proofs.FoldedSearch.{never-fold_case, found-fold_case, other-fold_case, past-fold_case, number-within}
use Rattle.gitbase_core.proofs.lookup.first_entry_at_path_icase.Goals as goal

pub first_number_not_below_path_icase-requires : goal.first_number_not_below_path_icase-requires
first_number_not_below_path_icase-requires c = never-fold_case c.args.entries.now c.args.numbers.now c.requires

pub returns-in_default : goal.returns-in_default
returns-in_default c =
    past-fold_case c.args.path.now c.args.entries.now c.args.numbers.now c.requires (rw c.in_default.is at c.first_number_not_below_path_icase.ensures)

pub returns-in_default-get : goal.returns-in_default-get
returns-in_default-get c =
    let first : IsFirstElementNotBelowPath (folded_path_of_numbered_entry c.args.entries.now) (fold_case c.args.path.now) c.args.numbers.now (Some c.in-Some.number) =
    rw c.in-Some.is at c.first_number_not_below_path_icase.ensures in
    let low = number-within c.args.path.now c.args.entries.now c.args.numbers.now c.requires c.in-Some.number first in
    let high = rw c.in_default-get.is at c.get.ensures.lookup.3 in
    absurd (omega arith)

pub returns-then-is_eq : goal.returns-then-is_eq
returns-then-is_eq c =
    let first : IsFirstElementNotBelowPath (folded_path_of_numbered_entry c.args.entries.now) (fold_case c.args.path.now) c.args.numbers.now (Some c.in-Some.number) =
    rw c.in-Some.is at c.first_number_not_below_path_icase.ensures in
    let here : slice_get c.args.entries.now c.in-Some.number ≡ Some c.in-Some-get.entry.now =
    rw c.in-Some-get.is at (got c.args.entries.now c.in-Some.number c.get.result c.get.ensures.lookup.3) in
    found-fold_case c.args.path.now c.args.entries.now c.args.numbers.now c.requires c.in-Some.number c.in-Some-get.entry.now first here
    (ap fold_case (sym c.as_bytes.ensures) ∙ same_from_order _ _ _ c.compare_bytes_ignoring_case.ensures (sym c.is_eq.ensures ∙ c.if-is_eq.true))

pub returns : goal.returns
returns c =
    let first : IsFirstElementNotBelowPath (folded_path_of_numbered_entry c.args.entries.now) (fold_case c.args.path.now) c.args.numbers.now (Some c.in-Some.number) =
    rw c.in-Some.is at c.first_number_not_below_path_icase.ensures in
    let here : slice_get c.args.entries.now c.in-Some.number ≡ Some c.in-Some-get.entry.now =
    rw c.in-Some-get.is at (got c.args.entries.now c.in-Some.number c.get.result c.get.ensures.lookup.3) in
    other-fold_case c.args.path.now c.args.entries.now c.args.numbers.now c.requires c.in-Some.number c.in-Some-get.entry.now first here
    (λ same. other_from_order _ _ _ c.compare_bytes_ignoring_case.ensures (sym c.is_eq.ensures ∙ c.if-is_eq.false) (ap fold_case c.as_bytes.ensures ∙ same))
