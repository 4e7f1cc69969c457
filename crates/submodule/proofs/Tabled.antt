-- What a table of paths finds is the first name of a path.
use Rattle.std.proofs.Common.{◌≡◌, ℕ, Bool, true, false, not, ◌&&◌, cond, List, [], ◌∷◌, ◌++◌, codes, Option, Some, None, find, bytes_eq, refl, sym, ap, ◌∙◌, subst}
use Rattle.std.specs.List.{filter}
use Rattle.std.specs.List.Sorted.{ties}
use Rattle.std.specs.Cmp.{IsStrictWeakOrder}
use Rattle.std.specs.Cmp.Lexicographic.{slice_cmp}
use Rattle.std.specs.Ordering.{nat_cmp, is_lt, ordering_reverse}
use Rattle.std.specs.declared.cmp.Ordering.{Ordering}
use Rattle.std.specs.declared.cmp.Ordering.TheVariants.{Less, Equal, Greater}
use Rattle.std.proofs.lemmas.Cmp.{nat_list_cmp_total, tied_itself}
use Rattle.std.proofs.lemmas.List.MinMax.{ranks_by}
use Rattle.std.proofs.lemmas.Map.Lookups.{exact_bytes}
use Rattle.std.proofs.lemmas.Slice.Eq.{bytes_eq-Decides}
use Rattle.git_config_lite.proofs.KeyRuns.{not_both}
use Rattle.git_config_lite.specs.Sections.{Section}
use Rattle.submodule.specs.declared.named_path.NamedPath.{NamedPath}
use Rattle.submodule.specs.Overrides.{value}
use Rattle.submodule.specs.Access.{is_valid_submodule_path, is_value_this_valid_path}
use Rattle.submodule.specs.NamedPaths.{named_path, named_path_if_given, named_paths_of_submodules, is_row_path_before, row_has_path, IsSortedPathTable, name_of_first_row}

pub by_paths : IsStrictWeakOrder is_row_path_before
by_paths = ranks_by nat_list_cmp_total (λ (p : NamedPath). p.path)

-- ---- one has a path exactly where it is that path

same_path : (path name : List ℕ) → row_has_path path (named_path path name) ≡ true
same_path path name = rw (tied_itself nat_list_cmp_total path) refl

equal_of : (o p : Ordering) → o ≡ ordering_reverse p → (not (is_lt o) && not (is_lt p)) ≡ true → o ≡ Equal
equal_of Less p e h = absurd (cc)
equal_of Equal p e h = refl
equal_of Greater Less e h = absurd (cc)
equal_of Greater Equal e h = absurd (cc)
equal_of Greater Greater e h = absurd (cc)

tied_same : (path text name : List ℕ) → row_has_path path (named_path text name) ≡ true → text ≡ path
tied_same path text name h =
    sym (exact_bytes path text (equal_of (slice_cmp nat_cmp path text) (slice_cmp nat_cmp text path) (nat_list_cmp_total.antisymm path text) h))

pub at_path : (path text name : List ℕ) → row_has_path path (named_path text name) ≡ bytes_eq text path
at_path path text name = go (bytes_eq text path) refl (row_has_path path (named_path text name)) refl
  where
    go : (b : Bool) → bytes_eq text path ≡ b → (t : Bool) → row_has_path path (named_path text name) ≡ t → t ≡ b
    go true e t h =
        let same : text ≡ path = (bytes_eq-Decides text path).0 e in
        sym h ∙ subst (λ (x : List ℕ). row_has_path path (named_path x name) ≡ true) (sym same) (same_path path name)
    go false e false h = refl
    go false e true h =
        let same : text ≡ path = tied_same path text name h in
        absurd (not_both (bytes_eq text path) e ((bytes_eq-Decides text path).1 same))

-- ---- the first name of a path

module _ (sections : List Section) (path : List ℕ) where
  abbrev pub in_table : List NamedPath → Option (List ℕ)
  in_table table = cond (is_valid_submodule_path path) (name_of_first_row (filter (row_has_path path) table)) None

  abbrev says_path : List ℕ → Bool
  says_path name = is_value_this_valid_path path (value name (codes "path") sections)

  found : (names : List (List ℕ)) → find says_path names ≡ in_table (named_paths_of_submodules sections names)
  found [] = nothing (is_valid_submodule_path path)
    where
      nothing : (b : Bool) → ◌≡◌ {A = Option (List ℕ)} None (cond b None None)
      nothing true = refl
      nothing false = refl
  found (name ∷ names) = by_value (value name (codes "path") sections) refl (found names)
    where
      by_path : (text : List ℕ) → value name (codes "path") sections ≡ Some text → (b : Bool) → bytes_eq text path ≡ b → (t : Bool) → is_valid_submodule_path path ≡ t
          → find says_path names ≡ in_table (named_paths_of_submodules sections names) → find says_path (name ∷ names) ≡ in_table (named_paths_of_submodules sections (name ∷ names))
      by_path text e true same true may more =
          let is : text ≡ path = (bytes_eq-Decides text path).0 same in
          let may_text : is_valid_submodule_path text ≡ true = subst (λ (x : List ℕ). is_valid_submodule_path x ≡ true) (sym is) may in
          rw (e, same, may_text, may, at_path path text name, same) refl
      by_path text e true same false may more =
          let is : text ≡ path = (bytes_eq-Decides text path).0 same in
          let may_text : is_valid_submodule_path text ≡ false = subst (λ (x : List ℕ). is_valid_submodule_path x ≡ false) (sym is) may in
          rw (e, same, may_text, may) (rw may at more)
      by_path text e false same t may more = rw (e, same, at_path path text name, same) more

      by_value : (said : Option (List ℕ)) → value name (codes "path") sections ≡ said
          → find says_path names ≡ in_table (named_paths_of_submodules sections names) → find says_path (name ∷ names) ≡ in_table (named_paths_of_submodules sections (name ∷ names))
      by_value None e more = rw e more
      by_value (Some text) e more = by_path text e (bytes_eq text path) refl (is_valid_submodule_path path) refl more

  pub tabled : (table : List NamedPath) (names : List (List ℕ)) → IsSortedPathTable table sections names → in_table table ≡ find says_path names
  tabled table names stable =
      ap (λ (ps : List NamedPath). cond (is_valid_submodule_path path) (name_of_first_row ps) None) (stable (named_path path []))
      ∙ sym (found names)
