-- The state of an entry, by what was learnt of it.
use Rattle.std.proofs.Common.{◌≡◌, inr, ℕ, List, Bool, false, Option, Some, sym, ap, ◌∙◌}
use Rattle.std.specs.Prelude.{if◌then◌else◌}
use Rattle.gitbase_core.specs.Path.{components}
use Rattle.gitbase_core.specs.declared.entry.IndexEntry.{IndexEntry}
use Rattle.gitbase_core.specs.Entry.{is_unmerged_entry}
use Rattle.worktree_fs.specs.Tree.{Names, look}
use Rattle.index_status.specs.declared.path_state.PathState.{PathState}
use Rattle.index_status.specs.declared.path_state.PathState.TheVariants as states
use Rattle.index_status.specs.States.{IsDeletedOrStateOfPresent, IsPossibleStateOfEntry, MayBeStateOfPresentEntry, IsStateOfEntry, state_at_optional_path, state_by_mode_and_look, is_skipped_assumed_or_sparse, state_of_index_entry}
use Rattle.index_status.specs.Ways.{path_through_directories}

looked-at : (e : IndexEntry) (t : Names) (root : List ℕ) → is_unmerged_entry e ≡ false → is_skipped_assumed_or_sparse e ≡ false → state_of_index_entry t root e ≡ state_at_optional_path t e (path_through_directories t root (components e.path))
looked-at e t root merged kept =
    ap (λ (b : Bool). if b then states.Conflicted else if is_skipped_assumed_or_sparse e then states.Skipped else state_at_optional_path t e (path_through_directories t root (components e.path))) merged
    ∙ ap (λ (b : Bool). if b then states.Skipped else state_at_optional_path t e (path_through_directories t root (components e.path))) kept

may-be : (e : IndexEntry) (s : PathState) → is_unmerged_entry e ≡ false → is_skipped_assumed_or_sparse e ≡ false → IsDeletedOrStateOfPresent e s → IsPossibleStateOfEntry e s
may-be e s merged kept h = rw (merged, kept) h

pub seen-state : (told : Option Names) (root full : List ℕ) (e : IndexEntry) (s : PathState) → is_unmerged_entry e ≡ false → is_skipped_assumed_or_sparse e ≡ false
    → ((t : Names) → told ≡ Some t → Some full ≡ path_through_directories t root (components e.path))
    → ((t : Names) → told ≡ Some t → s ≡ state_by_mode_and_look e (look t full false))
    → MayBeStateOfPresentEntry e s
    → IsStateOfEntry told root e s
seen-state told root full e s merged kept leads is seen =
    record {
      possible = may-be e s merged kept (inr seen);
      exact = λ t tells. is t tells ∙ ap (state_at_optional_path t e) (leads t tells) ∙ sym (looked-at e t root merged kept);
    }
