use Rattle.std.proofs.Common.{ℕ, length, Result, sym, subst, rules}
use Rattle.std.specs.List.Sorted.{IsSearchInRange, IsBinarySearchResult}
use Rattle.std.proofs.lemmas.Fn.{always_returns_same}
use Rattle.gitbase_core.specs.Index.{compare_path_bytes}
use Rattle.worktree_stack.specs.Setup.{RulesFileMapping}
use Rattle.worktree_stack.proofs.Rules.Mapped.{id-found, id-none}
use Rattle.worktree_stack.proofs.mappings.find_blob_id_in_mappings.Goals as goal

pub returns-in-Ok : goal.returns-in-Ok
returns-in-Ok c =
    let facts = c.binary_search_by.ensures in
    let by_path = facts.position (λ (m : RulesFileMapping). compare_path_bytes m.0 c.args.path.now) (always_returns_same _ _ _ (λ a r g called. search rules)) in
    sym (id-found c.args.mappings.now c.requires c.args.path.now c.in-Ok.at c.index-mappings-at.result
    (subst (λ (r : Result ℕ ℕ). IsSearchInRange r (length c.args.mappings.now)) c.in-Ok.is facts.bound)
    (subst (λ (r : Result ℕ ℕ). IsBinarySearchResult (λ (m : RulesFileMapping). compare_path_bytes m.0 c.args.path.now) c.args.mappings.now r) c.in-Ok.is by_path))

pub returns-in-Err : goal.returns-in-Err
returns-in-Err c =
    let facts = c.binary_search_by.ensures in
    let by_path = facts.position (λ (m : RulesFileMapping). compare_path_bytes m.0 c.args.path.now) (always_returns_same _ _ _ (λ a r g called. search rules)) in
    sym (id-none c.args.mappings.now c.requires c.args.path.now _
    (subst (λ (r : Result ℕ ℕ). IsSearchInRange r (length c.args.mappings.now)) c.in-Err.is facts.bound)
    (subst (λ (r : Result ℕ ℕ). IsBinarySearchResult (λ (m : RulesFileMapping). compare_path_bytes m.0 c.args.path.now) c.args.mappings.now r) c.in-Err.is by_path))
