use Rattle.std.proofs.Common.{rules}
use Rattle.std.proofs.lemmas.Fn.{always_returns_same}
use Rattle.worktree_fs.specs.Order.{compare_path_bytes}
use Rattle.worktree_fs.specs.declared.memory.stored.Entry.{Entry}
use Rattle.worktree_fs.proofs.Lists.Order.{searched}
use Rattle.worktree_fs.proofs.memory.search.find_entry_by_name.Goals as goal

pub returns : goal.returns
returns c =
    let facts = c.binary_search_by.ensures in
    let by_name = facts.position (λ (e : Entry). compare_path_bytes e.name c.args.name.now) (always_returns_same _ _ _ (λ a r g called. search rules)) in
    searched c.args.entries.now c.requires c.args.name.now _ facts.bound by_name
