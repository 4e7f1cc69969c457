-- With one look a directory entries are seen as with one look at each.
use Rattle.std.proofs.Common.{◌≡◌, ℕ, Bool, true, false, not, ◌&&◌, ◌||◌, List, [], ◌∷◌, ◌++◌, Option, Some, None, Result, Ok, Err, refl, sym, ap, ◌∙◌, if◌then◌else◌}
use Rattle.std.proofs.lemmas.Bool.{and_parts}
use Rattle.gitbase_core.specs.Path.{is_empty_or_root_path, is_beneath_directory, parent, without_trailing_slash}
use Rattle.gitbase_core.specs.Steps.{and_then}
use Rattle.gitbase_core.specs.declared.entry.IndexEntry.{IndexEntry}
use Rattle.gitbase_core.specs.Entry.{is_sparse_directory_entry}
use Rattle.worktree_fs.specs.Tree.{Names}
use Rattle.git_setup.specs.Present.{exists_in_work_tree, has_skip_worktree_flag, entry_without_skip_flag, refuse_sparse_entry_if_present, file_entry_unskipped_if_present, seen, append_entries_unskipped_if_present, lies_beneath_known_absent_directory, is_last_look_at_present_directory, presence_of_directory, known_or_found_presence_of_directory, known_or_found_presence_of_parent, exists_unless_directory_absent, entry_unskipped_if_present, skipped_entry_unskipped_if_present, require_sparse_directory_absent, entry_unskipped_or_refused_if_present, entries_unskipped_with_cached_looks}
use Rattle.git_setup.specs.declared.error.GitRefusal.{GitRefusal}
use Rattle.git_setup.specs.declared.present.Looked.{Looked}
use Rattle.git_setup.specs.declared.present.Seen.{Seen}
use Rattle.git_setup.proofs.Beneath.{absent-beneath}

module _ (t : Names) (root : List ℕ) where
  -- what is known of a directory is so
  abbrev IsKnown : Option Looked → Type 0
  IsKnown None = Unit {0}
  IsKnown (Some looked) = (is_empty_or_root_path looked.directory ≡ false) × (looked.present ≡ false → exists_in_work_tree t root looked.directory ≡ false)

  is_false : (b : Bool) → not b ≡ true → b ≡ false
  is_false false e = refl
  is_false true e = sym e

  gone : (last : Option Looked) (path : List ℕ) → IsKnown last → lies_beneath_known_absent_directory last path ≡ true → exists_in_work_tree t root path ≡ false
  gone None path known is = absurd (cc is)
  gone (Some looked) path known is =
      let parts = and_parts (not looked.present) (is_beneath_directory looked.directory path) is in
      absent-beneath t root looked.directory path known.0 (known.1 (is_false looked.present parts.0)) parts.1

  by_known : (last : Option Looked) (path : List ℕ) → IsKnown last → exists_unless_directory_absent t root last path ≡ exists_in_work_tree t root path
  by_known last path known = go (lies_beneath_known_absent_directory last path) refl
    where
      go : (b : Bool) → lies_beneath_known_absent_directory last path ≡ b → (if b then false else exists_in_work_tree t root path) ≡ exists_in_work_tree t root path
      go true e = sym (gone last path known e)
      go false e = refl

  is_known_of : (last : Option Looked) (above : Option (List ℕ)) → IsKnown last → IsKnown (known_or_found_presence_of_directory t root last above)
  is_known_of last None known = known
  is_known_of last (Some directory) known = go (is_empty_or_root_path directory) refl (is_last_look_at_present_directory last directory)
    where
      go : (top : Bool) → is_empty_or_root_path directory ≡ top → (there : Bool) → IsKnown (if top || there then last else Some (presence_of_directory t root directory))
      go true e there = known
      go false e true = known
      go false e false = (e, λ absent. absent)

  is_known : (last : Option Looked) (path : List ℕ) → IsKnown last → IsKnown (known_or_found_presence_of_parent t root last path)
  is_known last path known = go (lies_beneath_known_absent_directory last path)
    where
      go : (b : Bool) → IsKnown (if b then last else known_or_found_presence_of_directory t root last (parent path))
      go true = known
      go false = is_known_of last (parent path) known

  -- an entry by what is known, and by itself
  abbrev Agrees : Result Seen GitRefusal → Result IndexEntry GitRefusal → Type 0
  Agrees (Ok by) (Ok e) = (by.entry ≡ e) × IsKnown by.last
  Agrees (Ok by) (Err error) = ⊥
  Agrees (Err error) (Ok e) = ⊥
  Agrees (Err error) (Err other) = error ≡ other

  agrees : (looks : Bool) (last : Option Looked) (e : IndexEntry) → IsKnown last → Agrees (entry_unskipped_or_refused_if_present t root looks last e) (seen t root looks e)
  unfolding entry_unskipped_or_refused_if_present skipped_entry_unskipped_if_present require_sparse_directory_absent
  agrees looks last e known = go (is_sparse_directory_entry e)
    where
      for_directory : (present : Bool) → Agrees (and_then (λ (now : IndexEntry). Ok (record { entry = now; last = last })) (refuse_sparse_entry_if_present e present)) (refuse_sparse_entry_if_present e present)
      for_directory true = refl
      for_directory false = (refl, known)

      for_file : (wanted skipped : Bool)
          → Agrees (if wanted && skipped then Ok (skipped_entry_unskipped_if_present t root last e) else Ok (record { entry = e; last = last })) (Ok (if wanted && skipped && exists_in_work_tree t root e.path then entry_without_skip_flag e else e))
      for_file false skipped = (refl, known)
      for_file true false = (refl, known)
      for_file true true = (ap (entry_unskipped_if_present e) (by_known (known_or_found_presence_of_parent t root last e.path) e.path (is_known last e.path known)), is_known last e.path known)

      go : (directory : Bool)
          → Agrees (if directory then require_sparse_directory_absent t root last e else if looks && has_skip_worktree_flag e then Ok (skipped_entry_unskipped_if_present t root last e) else Ok (record { entry = e; last = last }))
          (if directory then refuse_sparse_entry_if_present e (exists_in_work_tree t root (without_trailing_slash e.path)) else Ok (file_entry_unskipped_if_present t root looks e))
      go true = for_directory (exists_in_work_tree t root (without_trailing_slash e.path))
      go false = for_file looks (has_skip_worktree_flag e)

  along : (looks : Bool) (entries : List IndexEntry) (last : Option Looked) (done : List IndexEntry) → IsKnown last → entries_unskipped_with_cached_looks t root looks last done entries ≡ append_entries_unskipped_if_present t root looks done entries
  along looks [] last done known = refl
  along looks (e ∷ entries) last done known = both (along looks entries) (entry_unskipped_or_refused_if_present t root looks last e) (seen t root looks e) (agrees looks last e known)
    where
      both : ((last : Option Looked) (done : List IndexEntry) → IsKnown last → entries_unskipped_with_cached_looks t root looks last done entries ≡ append_entries_unskipped_if_present t root looks done entries)
          → (by : Result Seen GitRefusal) (one : Result IndexEntry GitRefusal) → Agrees by one
          → and_then (λ (now : Seen). entries_unskipped_with_cached_looks t root looks now.last (done ++ now.entry ∷ []) entries) by ≡ and_then (λ (now : IndexEntry). append_entries_unskipped_if_present t root looks (done ++ now ∷ []) entries) one
      both ih (Ok by) (Ok one) same = ih by.last (done ++ by.entry ∷ []) same.1 ∙ ap (λ (now : IndexEntry). append_entries_unskipped_if_present t root looks (done ++ now ∷ []) entries) same.0
      both ih (Ok by) (Err error) same = absurd same
      both ih (Err error) (Ok one) same = absurd same
      both ih (Err error) (Err other) same = ap Err same

pub along-after : (t : Names) (root : List ℕ) (looks : Bool) (entries : List IndexEntry) → entries_unskipped_with_cached_looks t root looks None [] entries ≡ append_entries_unskipped_if_present t root looks [] entries
along-after t root looks entries = along t root looks entries None [] tt
