use Rattle.std.proofs.Common.{◌≡◌, take}
use Rattle.glob_rules.proofs.attributes.search.Search.copy.Given as goal

abbrev pub invariant-loop-list : goal.invariant-loop-list
invariant-loop-list l = l.lists.items ≡ take l.list-index l.list-items
