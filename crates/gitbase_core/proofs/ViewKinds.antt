-- What the entries beneath a directory say of a name, from what a search among them finds.
use Rattle.std.proofs.Common.{◌≡◌, ℕ, ◌≤◌, Bool, true, false, ◌&&◌, ◌||◌, ◌==◌, List, [], ◌∷◌, ◌++◌, take, drop, cond, Option, Some, None, refl, sym, ap, ◌∙◌}
use Rattle.std.specs.Prelude.{filter, find}
use Rattle.std.specs.List.{list_any, slice_range}
use Rattle.std.specs.Str.{bytes_eq}
use Rattle.std.proofs.lemmas.List.{take-append-drop}
use Rattle.std.proofs.lemmas.List.Folds.{list_any-append, drop_split}
use Rattle.gitbase_core.specs.Index.{key_begins_with_prefix, entry_path_after_skipped_bytes}
use Rattle.gitbase_core.specs.Kinds.{kinds_from_entry_or_entries_beneath, index_kinds_of_entry, index_kinds_from_entries_beneath, index_kinds_of_unknown_path}
use Rattle.gitbase_core.specs.Path.{is_empty}
use Rattle.gitbase_core.specs.View.{DirectoryEntriesView, index_kinds_of_name_in_view}
use Rattle.gitbase_core.specs.declared.entry.IndexEntry.{IndexEntry}

module _ (entries : List IndexEntry) (skip : ℕ) (name : List ℕ) where
  abbrev under : DirectoryEntriesView
  under = record { entries = entries; skip = skip }

  abbrev pub at_name : Option IndexEntry
  at_name = find (λ e. bytes_eq (entry_path_after_skipped_bytes skip e) name) entries

  abbrev pub beneath_name : List IndexEntry
  beneath_name = filter (key_begins_with_prefix (entry_path_after_skipped_bytes skip) (name ++ 47 ∷ [])) entries

  pub under-none : None ≡ at_name → beneath_name ≡ [] → index_kinds_of_unknown_path ≡ index_kinds_of_name_in_view under name
  under-none none nothing =
      by_test ((skip == 0) && is_empty name)
      ∙ ap (λ (run : List IndexEntry). kinds_from_entry_or_entries_beneath None (cond ((skip == 0) && is_empty name) [] run)) (sym nothing)
      ∙ ap (λ at. kinds_from_entry_or_entries_beneath at (cond ((skip == 0) && is_empty name) [] beneath_name)) none
    where
      by_test : (t : Bool) → index_kinds_of_unknown_path ≡ kinds_from_entry_or_entries_beneath None (cond t [] [])
      by_test true = refl
      by_test false = refl

  pub under-at : (e : IndexEntry) → Some e ≡ at_name → index_kinds_of_entry e ≡ index_kinds_of_name_in_view under name
  under-at e at = ap (λ at. kinds_from_entry_or_entries_beneath at (cond ((skip == 0) && is_empty name) [] beneath_name)) at

  pub under-empty : ((skip == 0) && is_empty name) ≡ true → None ≡ at_name → index_kinds_of_unknown_path ≡ index_kinds_of_name_in_view under name
  under-empty empty none =
      ap (λ at. kinds_from_entry_or_entries_beneath at []) none
      ∙ ap (λ (t : Bool). kinds_from_entry_or_entries_beneath at_name (cond t [] beneath_name)) (sym empty)

  pub under-beneath : ((skip == 0) && is_empty name) ≡ false → None ≡ at_name → index_kinds_from_entries_beneath beneath_name ≡ index_kinds_of_name_in_view under name
  under-beneath some none =
      ap (λ at. kinds_from_entry_or_entries_beneath at beneath_name) none
      ∙ ap (λ (t : Bool). kinds_from_entry_or_entries_beneath at_name (cond t [] beneath_name)) (sym some)

-- where none of a list passes, none of a part does
or-false : (a b : Bool) → (a || b) ≡ false → (a ≡ false) × (b ≡ false)
or-false true b h = absurd (cc)
or-false false b h = (refl, h)

pub none-within : {X : Type 0} (p : X → Bool) (xs : List X) (start end : ℕ) → start ≤ end → list_any p xs ≡ false → list_any p (slice_range xs start end) ≡ false
none-within p xs start end order none =
    let whole = ap (list_any p) (take-append-drop start xs) ∙ none in
    let back = (or-false (list_any p (take start xs)) (list_any p (drop start xs)) (sym (list_any-append p (take start xs) (drop start xs)) ∙ whole)).1 in
    (or-false (list_any p (slice_range xs start end)) (list_any p (drop end xs))
    (sym (list_any-append p (slice_range xs start end) (drop end xs)) ∙ ap (list_any p) (sym (drop_split xs start end order)) ∙ back)).0

-- one element more
pub any-more : {X : Type 0} (p : X → Bool) (old more : List X) (x : X) (a b : Bool) → a ≡ list_any p old → b ≡ p x → more ≡ old ++ x ∷ []
    → (a || b) ≡ list_any p more
any-more {X} p old more x a b first last grown =
    ap (λ (t : Bool). t || b) first ∙ ap (λ (t : Bool). list_any p old || t) (last ∙ sym (right (p x)))
    ∙ sym (list_any-append p old (x ∷ [])) ∙ ap (list_any p) (sym grown)
  where
    right : (t : Bool) → (t || false) ≡ t
    right true = refl
    right false = refl
