use Rattle.std.proofs.Common.{Bool, sym, ap, subst, ◌∙◌, reverse}
use Rattle.std.specs.List.Sorted.{IsStrictlySortedBy}
use Rattle.std.proofs.lemmas.List.{reverse-reverse}
use Rattle.worktree_fs.specs.Order.{compare_path_bytes}
use Rattle.worktree_fs.specs.Memory.{AreSortedForwardOrReversed}
use Rattle.worktree_fs.specs.Naming.{AreDistinctValidEntryNames}
use Rattle.worktree_fs.proofs.Lists.Distinct.{AreNames-reverse}
use Rattle.worktree_fs.proofs.memory.list_of.reverse_names_if.Goals as goal

pub returns-then-is_reversed-clause-names : goal.returns-then-is_reversed-clause-names
returns-then-is_reversed-clause-names c = subst AreDistinctValidEntryNames (sym c.reverse.ensures) (AreNames-reverse c.args.names c.requires.names)

pub returns-then-is_reversed-clause-sorted : goal.returns-then-is_reversed-clause-sorted
returns-then-is_reversed-clause-sorted c =
    subst (λ (b : Bool). AreSortedForwardOrReversed b c.reverse.new.self) (sym c.if-is_reversed.true)
    (subst (IsStrictlySortedBy compare_path_bytes) (sym (ap reverse c.reverse.ensures ∙ reverse-reverse c.args.names)) c.requires.sorted)
