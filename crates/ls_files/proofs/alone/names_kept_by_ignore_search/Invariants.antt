use Rattle.std.proofs.Common.{◌≡◌, ◌++◌, filter}
use Rattle.std.specs.Vec.Iter.{into_iter_items}
use Rattle.ls_files.specs.Alone.{is_name_kept_by_patterns}
use Rattle.ls_files.proofs.alone.names_kept_by_ignore_search.Given as goal

abbrev pub invariant-loop-name : goal.invariant-loop-name
invariant-loop-name l = l.left.items ++ filter (is_name_kept_by_patterns l.listing l.rules l.case) (into_iter_items l.name-iterator) ≡ filter (is_name_kept_by_patterns l.listing l.rules l.case) l.fn.names.items
