use Rattle.std.proofs.Common.{◌≡◌, false, Some, None, sym, ap, ◌∙◌}
use Rattle.std.proofs.lemmas.Slice.Eq.{bytes_eq-Decides}
use Rattle.gitbase_core.specs.Index.{IsFirstElementNotBelowPath, key_begins_with_prefix, entry_path_after_skipped_bytes}
use Rattle.gitbase_core.specs.Kinds.{index_kinds_from_entries_beneath}
use Rattle.gitbase_core.proofs.PathSearch.{found, other, past}
use Rattle.gitbase_core.proofs.NothingBeneath.{none_beneath}
use Rattle.gitbase_core.proofs.RunLists.{filter-run}
use Rattle.gitbase_core.proofs.ViewKinds.{under-none, under-at, under-empty, under-beneath, none-within}
use Rattle.gitbase_core.proofs.index.view.Beneath.index_kinds_of_name_in_directory.Goals as goal

pub returns-in_default : goal.returns-in_default
returns-in_default c =
    let name = c.args.name.now in
    let entries = c.self.inside.entries.now in
    let skip = c.self.inside.skip in
    let first : IsFirstElementNotBelowPath (entry_path_after_skipped_bytes skip) name entries None = rw c.in_default.is at c.first_entry_not_below_path.ensures in
    rw (← c.self.view_is)
    (under-none entries skip name (past (entry_path_after_skipped_bytes skip) name entries c.self.invariant.0 first)
    (none_beneath (entry_path_after_skipped_bytes skip) name entries c.self.invariant.0 None first tt))

pub returns-then-eq : goal.returns-then-eq
returns-then-eq c =
    let name = c.args.name.now in
    let entries = c.self.inside.entries.now in
    let skip = c.self.inside.skip in
    let e = c.in-Some.first.now in
    let first : IsFirstElementNotBelowPath (entry_path_after_skipped_bytes skip) name entries (Some e) = rw c.in-Some.is at c.first_entry_not_below_path.ensures in
    let same : entry_path_after_skipped_bytes skip e ≡ name = sym c.entry_path_after_skipped_bytes-path.ensures ∙ (bytes_eq-Decides _ _).0 (sym c.eq.ensures ∙ c.if-eq.true) in
    rw (← c.self.view_is)
    (c.index_kinds_of_entry.ensures ∙ under-at entries skip name e (found (entry_path_after_skipped_bytes skip) name entries c.self.invariant.0 e first same))

pub returns-then-not-starts_with : goal.returns-then-not-starts_with
returns-then-not-starts_with c =
    let name = c.args.name.now in
    let entries = c.self.inside.entries.now in
    let skip = c.self.inside.skip in
    let e = c.in-Some.first.now in
    let first : IsFirstElementNotBelowPath (entry_path_after_skipped_bytes skip) name entries (Some e) = rw c.in-Some.is at c.first_entry_not_below_path.ensures in
    let not_in : key_begins_with_prefix (entry_path_after_skipped_bytes skip) name e ≡ false =
    rw c.entry_path_after_skipped_bytes-path.ensures at (sym c.starts_with.ensures.value ∙ c.if-not-starts_with.true) in
    rw (← c.self.view_is)
    (under-none entries skip name
    (other (entry_path_after_skipped_bytes skip) name entries c.self.invariant.0 e first (λ same. cc ((bytes_eq-Decides _ _).1 (c.entry_path_after_skipped_bytes-path.ensures ∙ same), c.eq.ensures, c.if-eq.false)))
    (none_beneath (entry_path_after_skipped_bytes skip) name entries c.self.invariant.0 (Some e) first not_in))

pub returns-then-is_empty_path_at_root : goal.returns-then-is_empty_path_at_root
returns-then-is_empty_path_at_root c =
    let name = c.args.name.now in
    let entries = c.self.inside.entries.now in
    let skip = c.self.inside.skip in
    let e = c.in-Some.first.now in
    let first : IsFirstElementNotBelowPath (entry_path_after_skipped_bytes skip) name entries (Some e) = rw c.in-Some.is at c.first_entry_not_below_path.ensures in
    rw (← c.self.view_is)
    (under-empty entries skip name (sym c.is_empty_path_at_root.ensures ∙ c.if-is_empty_path_at_root.true)
    (other (entry_path_after_skipped_bytes skip) name entries c.self.invariant.0 e first (λ same. cc ((bytes_eq-Decides _ _).1 (c.entry_path_after_skipped_bytes-path.ensures ∙ same), c.eq.ensures, c.if-eq.false))))

pub index_kinds_from_entries_beneath-requires : goal.index_kinds_from_entries_beneath-requires
index_kinds_from_entries_beneath-requires c = λ unseen. none-within _ _ _ _ c.entry_range_with_path_prefix-start.ensures.order (sym c.self.invariant.1 ∙ unseen)

pub returns : goal.returns
returns c =
    let name = c.args.name.now in
    let entries = c.self.inside.entries.now in
    let skip = c.self.inside.skip in
    let e = c.in-Some.first.now in
    let first : IsFirstElementNotBelowPath (entry_path_after_skipped_bytes skip) name entries (Some e) = rw c.in-Some.is at c.first_entry_not_below_path.ensures in
    rw (← c.self.view_is)
    (c.index_kinds_from_entries_beneath.ensures ∙ ap index_kinds_from_entries_beneath (sym (filter-run _ entries _ _ c.entry_range_with_path_prefix-start.ensures))
    ∙ under-beneath entries skip name (sym c.is_empty_path_at_root.ensures ∙ c.if-is_empty_path_at_root.false)
    (other (entry_path_after_skipped_bytes skip) name entries c.self.invariant.0 e first (λ same. cc ((bytes_eq-Decides _ _).1 (c.entry_path_after_skipped_bytes-path.ensures ∙ same), c.eq.ensures, c.if-eq.false))))
