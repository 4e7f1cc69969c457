-- What lies beneath a directory, in the order of the paths.
use Rattle.std.proofs.Common.{◌≡◌, ℕ, ◌+◌, ◌-◌, List, [], ◌∷◌, ◌++◌, Bool, true, false, not, ◌&&◌, ◌||◌, ◌==◌, cond, Option, Some, None, length, drop, take, get_or, filter, refl, ap, sym, ◌∙◌, arith}
use Rattle.std.specs.Prelude.{is_some, nat_eq}
use Rattle.std.specs.List.{IsAllAdjacentAnswer, flat_map, starts_with}
use Rattle.std.specs.Ordering.{is_le, is_lt, ordering_reverse}
use Rattle.std.specs.declared.cmp.Ordering.{Ordering}
use Rattle.std.specs.declared.cmp.Ordering.TheVariants.{Less, Equal, Greater}
use Rattle.std.proofs.lemmas.Cmp.{nat_eq_equiv, nat_list_cmp_total}
use Rattle.std.proofs.lemmas.List.Sorted.{ranks_by, sorted_far}
use Rattle.gitbase_core.specs.Index.{IsSortedByPathKey, IsExactRangeOfMatches, compare_path_bytes}
use Rattle.gitbase_core.specs.Path.{is_empty_or_root_path, rest_without_separating_slash}
use Rattle.gitbase_core.proofs.RunLists.{filter-run}
use Rattle.dir_classify.specs.Kinds.{is_repository_kind}
use Rattle.ls_files.specs.Others.{prepend_name_if_some}
use Rattle.worktree_report.specs.SetupMeant.{insert_paths_in_order}
use Rattle.worktree_report.specs.declared.report.ReportEntry.{ReportEntry}
use Rattle.git_clean.specs.Beneath.{AreSortedByPath, path_starts_with, entry_lies_beneath_directory, rela_path_of_report_entry, path_sorts_before}
use Rattle.git_clean.specs.Lines.{line_of_path_in_directory, would_remove_words, line_if_repository_skipped, would_skip_repository_words}
use Rattle.git_clean.specs.Parts.{topmost_removable_part, entry_stays_in_place, removable_part_for_entry, removable_parts_of_entries}
use Rattle.git_clean.specs.Places.{lies_in_kept_directory}
use Rattle.git_clean.specs.Scenes.{CleaningInputs}

-- ---- those that pass a test

pub filter-twice : {X : Type 0} (p : X → Bool) (xs : List X) → filter p (filter p xs) ≡ filter p xs
filter-twice p [] = refl
filter-twice {X} p (x ∷ xs) = go (p x) refl (filter-twice p xs)
  where
    go : (b : Bool) → p x ≡ b → filter p (filter p xs) ≡ filter p xs
        → filter p (cond b (x ∷ filter p xs) (filter p xs)) ≡ cond b (x ∷ filter p xs) (filter p xs)
    go true e more = ap (λ (b : Bool). cond b (x ∷ filter p (filter p xs)) (filter p (filter p xs))) e ∙ ap (λ (ys : List X). x ∷ ys) more
    go false e more = more

pub filter-same : {X : Type 0} (p q : X → Bool) (xs : List X) → ((x : X) → p x ≡ q x) → filter p xs ≡ filter q xs
filter-same p q [] same = refl
filter-same {X} p q (x ∷ xs) same =
    ap (λ (b : Bool). cond b (x ∷ filter p xs) (filter p xs)) (same x) ∙ ap (λ (ys : List X). cond (q x) (x ∷ ys) ys) (filter-same p q xs same)

flat_map-passing : {X : Type 0} (f : X → List ℕ) (p : X → Bool) (xs : List X) → ((x : X) → p x ≡ false → f x ≡ []) → flat_map f (filter p xs) ≡ flat_map f xs
flat_map-passing f p [] none = refl
flat_map-passing {X} f p (x ∷ xs) none = go (p x) refl (flat_map-passing f p xs none)
  where
    go : (b : Bool) → p x ≡ b → flat_map f (filter p xs) ≡ flat_map f xs → flat_map f (cond b (x ∷ filter p xs) (filter p xs)) ≡ f x ++ flat_map f xs
    go true e more = ap (λ (ys : List ℕ). f x ++ ys) more
    go false e more = more ∙ ap (λ (ys : List ℕ). ys ++ flat_map f xs) (sym (none x e))

-- ---- the order

reversed : (o : Ordering) → is_lt o ≡ false → is_le (ordering_reverse o) ≡ true
reversed Less h = absurd (cc h)
reversed Equal h = refl
reversed Greater h = refl

falls : (b : Bool) → true ≡ not b → b ≡ false
falls true e = absurd (cc e)
falls false e = refl

pub rise-is : (found : List ReportEntry) (r : Bool) → IsAllAdjacentAnswer (λ x y b. b ≡ not (path_sorts_before y x)) found r → r ≡ true → AreSortedByPath found
rise-is found true h is = λ k d low high. falls (path_sorts_before (get_or found (k + 1) d) (get_or found k d)) (h k d high)
rise-is found false h is = absurd (cc is)

-- each path stands at or behind all before it
pub ascends-rise : (found : List ReportEntry) → AreSortedByPath found → IsSortedByPathKey rela_path_of_report_entry found
ascends-rise found up =
    record {
      at = λ i j d low high.
          ap is_le (nat_list_cmp_total.antisymm (rela_path_of_report_entry (get_or found i d)) (rela_path_of_report_entry (get_or found j d)))
          ∙ reversed (compare_path_bytes (rela_path_of_report_entry (get_or found j d)) (rela_path_of_report_entry (get_or found i d))) (sorted_far path_sorts_before (ranks_by nat_list_cmp_total rela_path_of_report_entry) found up i j d low high);
    }

-- those of a run are all that begin so
pub run_is : (name : List ℕ) (found : List ReportEntry) (start more : ℕ) → IsExactRangeOfMatches (path_starts_with name) found start (start + more) → take more (drop start found) ≡ filter (path_starts_with name) found
run_is name found start more run =
    let size : more ≡ (start + more) - start = omega arith in
    ap (λ (n : ℕ). take n (drop start found)) size ∙ sym (filter-run (path_starts_with name) found start (start + more) run)

-- ---- a directory's name

some-beneath : (rest : List ℕ) → is_some (rest_without_separating_slash false rest) ≡ starts_with nat_eq rest (47 ∷ [])
some-beneath [] = refl
some-beneath (b ∷ rest) = go (b == 47) ∙ ap (λ (s : Bool). s && true) (nat_eq_equiv.symm b 47)
  where
    go : (s : Bool) → is_some (cond s (Some rest) None) ≡ (s && true)
    go true = refl
    go false = refl

-- what lies beneath a directory begins with its name
pub beneath-begins : (directory : List ℕ) (e : ReportEntry) → is_empty_or_root_path directory ≡ false → entry_lies_beneath_directory directory e ≡ path_starts_with (directory ++ 47 ∷ []) e
beneath-begins directory e low =
    ap (λ (top : Bool). is_some (cond (starts_with nat_eq (rela_path_of_report_entry e) directory) (rest_without_separating_slash top (drop (length directory) (rela_path_of_report_entry e))) None)) low
    ∙ by (rela_path_of_report_entry e) directory
  where
    by : (path front : List ℕ) → is_some (cond (starts_with nat_eq path front) (rest_without_separating_slash false (drop (length front) path)) None) ≡ starts_with nat_eq path (front ++ 47 ∷ [])
    by path [] = some-beneath path
    by [] (x ∷ front) = refl
    by (y ∷ path) (x ∷ front) = go (nat_eq x y) (by path front)
      where
        go : (same : Bool) → is_some (cond (starts_with nat_eq path front) (rest_without_separating_slash false (drop (length front) path)) None) ≡ starts_with nat_eq path (front ++ 47 ∷ [])
            → is_some (cond (same && starts_with nat_eq path front) (rest_without_separating_slash false (drop (length front) path)) None) ≡ (same && starts_with nat_eq path (front ++ 47 ∷ []))
        go true more = more
        go false more = refl

-- so the entries whose paths begin with it are all that lie beneath
pub beneath-run : (directory : List ℕ) (found run : List ReportEntry) → is_empty_or_root_path directory ≡ false → run ≡ filter (path_starts_with (directory ++ 47 ∷ [])) found
    → filter (entry_lies_beneath_directory directory) run ≡ filter (entry_lies_beneath_directory directory) found
beneath-run directory found run low is =
    ap (filter (entry_lies_beneath_directory directory)) (is ∙ sym same) ∙ filter-twice (entry_lies_beneath_directory directory) found
  where
    same : filter (entry_lies_beneath_directory directory) found ≡ filter (path_starts_with (directory ++ 47 ∷ [])) found
    same = filter-same (entry_lies_beneath_directory directory) (path_starts_with (directory ++ 47 ∷ [])) found (λ e. beneath-begins directory e low)

-- ---- what is told of a directory comes of what lies beneath it

module _ (s : CleaningInputs) (directory : List ℕ) where
  skip-none : (e : ReportEntry) → entry_lies_beneath_directory directory e ≡ false → line_if_repository_skipped s directory e ≡ []
  skip-none e apart =
      ap (λ (b : Bool). cond (not (s.cleaning.repositories || not (b && is_repository_kind e.entry.disk_kind)) && not (lies_in_kept_directory s e.entry.rela_path)) (line_of_path_in_directory s would_skip_repository_words directory e.entry.rela_path) []) apart
      ∙ go s.cleaning.repositories
    where
      go : (r : Bool) → cond (not (r || true) && not (lies_in_kept_directory s e.entry.rela_path)) (line_of_path_in_directory s would_skip_repository_words directory e.entry.rela_path) [] ≡ []
      go true = refl
      go false = refl

  part-none : (e : ReportEntry) → entry_lies_beneath_directory directory e ≡ false → removable_part_for_entry s directory e.entry ≡ None
  part-none e apart = ap (λ (b : Bool). cond (b && not (entry_stays_in_place s e.entry)) (Some (topmost_removable_part s directory e.entry.rela_path)) None) apart

  parts-passing : (found : List ReportEntry) → removable_parts_of_entries s directory (filter (entry_lies_beneath_directory directory) found) ≡ removable_parts_of_entries s directory found
  parts-passing [] = refl
  parts-passing (e ∷ found) = go (entry_lies_beneath_directory directory e) refl (parts-passing found)
    where
      go : (b : Bool) → entry_lies_beneath_directory directory e ≡ b → removable_parts_of_entries s directory (filter (entry_lies_beneath_directory directory) found) ≡ removable_parts_of_entries s directory found
          → removable_parts_of_entries s directory (cond b (e ∷ filter (entry_lies_beneath_directory directory) found) (filter (entry_lies_beneath_directory directory) found)) ≡ prepend_name_if_some (removable_part_for_entry s directory e.entry) (removable_parts_of_entries s directory found)
      go true h more = ap (prepend_name_if_some (removable_part_for_entry s directory e.entry)) more
      go false h more = more ∙ ap (λ (part : Option (List ℕ)). prepend_name_if_some part (removable_parts_of_entries s directory found)) (sym (part-none e h))

  module _ (near : List ReportEntry) (same : filter (entry_lies_beneath_directory directory) near ≡ filter (entry_lies_beneath_directory directory) s.found) where
    pub skips-near : flat_map (line_if_repository_skipped s directory) near ≡ flat_map (line_if_repository_skipped s directory) s.found
    skips-near =
        sym (flat_map-passing (line_if_repository_skipped s directory) (entry_lies_beneath_directory directory) near skip-none) ∙ ap (flat_map (line_if_repository_skipped s directory)) same
        ∙ flat_map-passing (line_if_repository_skipped s directory) (entry_lies_beneath_directory directory) s.found skip-none

    parts-same : removable_parts_of_entries s directory near ≡ removable_parts_of_entries s directory s.found
    parts-same = sym (parts-passing near) ∙ ap (removable_parts_of_entries s directory) same ∙ parts-passing s.found

    pub parts-near : flat_map (line_of_path_in_directory s would_remove_words directory) (insert_paths_in_order [] (removable_parts_of_entries s directory near)) ≡ flat_map (line_of_path_in_directory s would_remove_words directory) (insert_paths_in_order [] (removable_parts_of_entries s directory s.found))
    parts-near = ap (λ (parts : List (List ℕ)). flat_map (line_of_path_in_directory s would_remove_words directory) (insert_paths_in_order [] parts)) parts-same
