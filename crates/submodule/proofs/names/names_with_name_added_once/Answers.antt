use Rattle.std.proofs.Common.{rules}
use Rattle.submodule.proofs.KnownNames.{new_or_not, same-more}
use Rattle.submodule.proofs.names.names_with_name_added_once.Goals as goal

pub returns-then-not-is_new : goal.returns-then-not-is_new
returns-then-not-is_new c =
    let there = new_or_not c.known.inside.sorted.keys c.known.inside.names.items c.in_ok-from_slice.field-0 c.in_ok-is_new.is_new
    c.known.invariant c.in_ok-is_new.ensures.added in
    search rules

pub invariant_of-result-2 : goal.invariant_of-result-2
invariant_of-result-2 c = λ name.
    let same = same-more c.known.inside.sorted.keys c.known.inside.names.items c.in_ok-from_slice.field-0 c.known.invariant name in
    search rules

pub returns : goal.returns
returns c =
    let there = new_or_not c.known.inside.sorted.keys c.known.inside.names.items c.in_ok-from_slice.field-0 c.in_ok-is_new.is_new
    c.known.invariant c.in_ok-is_new.ensures.added in
    search rules
