use Rattle.std.proofs.Common.{◌++◌, sym, ◌∙◌}
use Rattle.gitbase_core.specs.Index.{entry_path_after_skipped_bytes}
use Rattle.gitbase_core.proofs.ViewSearch.{beneath-none, beneath-some, never-narrowed, never-longer}
use Rattle.gitbase_core.proofs.ViewKinds.{none-within}
use Rattle.gitbase_core.proofs.index.view.Beneath.entries_beneath_directory.Goals as goal

pub returns-then-start-end : goal.returns-then-start-end
returns-then-start-end c = λ index directory is.
    beneath-none index directory c.args.name.now _ c.self.inside.entries.now c.self.inside.skip _ _ (rw (← c.self.view_is) at is)
    c.slash_needed_after_name-back.ensures c.entry_range_with_path_prefix-start.ensures c.if-start-end.true

pub returns : goal.returns
returns c = λ index directory is.
    beneath-some index directory c.args.name.now _ c.self.inside.entries.now c.self.inside.skip _ _ (rw (← c.self.view_is) at is)
    c.slash_needed_after_name-back.ensures c.entry_range_with_path_prefix-start.ensures _ c.if-start-end.false c.skipped_plus_prefix_length-skip.ensures

pub invariant_of-result-2 : goal.invariant_of-result-2
invariant_of-result-2 c = (
  never-longer c.self.inside.skip (c.args.name.now ++ c.slash_needed_after_name-back.result.now) _ _ c.skipped_plus_prefix_length-skip.ensures
      (never-narrowed (entry_path_after_skipped_bytes c.self.inside.skip) (c.args.name.now ++ c.slash_needed_after_name-back.result.now) c.self.inside.entries.now c.self.invariant.0 _ _ c.entry_range_with_path_prefix-start.ensures),
  c.may_and_does_have_uptodate_entry-has_up_to_date.ensures,
)

pub may_and_does_have_uptodate_entry-has_up_to_date-requires : goal.may_and_does_have_uptodate_entry-has_up_to_date-requires
may_and_does_have_uptodate_entry-has_up_to_date-requires c = λ unseen. none-within _ _ _ _ c.entry_range_with_path_prefix-start.ensures.order (sym c.self.invariant.1 ∙ unseen)
