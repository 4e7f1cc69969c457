-- An index has an entry beneath a path where some entry's path begins with that and a slash.
use Rattle.std.proofs.Common.{◌≡◌, ℕ, suc, ◌+◌, List, [], ◌∷◌, ◌++◌, Bool, true, false, cond, not, Some, None, filter, length, refl, sym, ap, ◌∙◌, arith}
use Rattle.std.proofs.lemmas.Bool.{lt-ltb, ltb-true, true≢false}
use Rattle.std.specs.Prelude.{is_some, nat_lt, option_map}
use Rattle.std.specs.List.{position_or_len}
use Rattle.gitbase_core.specs.Index.{entry_path_begins_with, entry_range_with_path_prefix}
use Rattle.gitbase_core.specs.Kinds.{entries_beneath_path}
use Rattle.gitbase_core.specs.Path.{is_empty, is_empty_or_root_path}
use Rattle.gitbase_core.specs.declared.entry.IndexEntry.{IndexEntry}
use Rattle.clean_plan.specs.Kept.{is_nonempty_entry_list}

one-less : (a b : ℕ) → nat_lt (1 + a) (suc b) ≡ nat_lt a b
one-less a b = go (nat_lt (1 + a) (suc b)) (nat_lt a b) refl refl
  where
    go : (x y : Bool) → nat_lt (1 + a) (suc b) ≡ x → nat_lt a b ≡ y → x ≡ y
    go true true e f = refl
    go false false e f = refl
    go true false e f = let less = ltb-true (1 + a) (suc b) e in absurd (true≢false (sym (lt-ltb a b (omega (arith, less))) ∙ f))
    go false true e f = let less = ltb-true a b f in absurd (true≢false (sym (lt-ltb (1 + a) (suc b) (omega (arith, less))) ∙ e))

some-position : (p : IndexEntry → Bool) (entries : List IndexEntry) → nat_lt (position_or_len p entries) (length entries) ≡ is_nonempty_entry_list (filter p entries)
some-position p [] = refl
some-position p (e ∷ entries) = go (p e) refl (some-position p entries)
  where
    go : (b : Bool) → p e ≡ b → nat_lt (position_or_len p entries) (length entries) ≡ is_nonempty_entry_list (filter p entries)
        → nat_lt (cond (not b) (1 + position_or_len p entries) 0) (suc (length entries)) ≡ is_nonempty_entry_list (cond b (e ∷ filter p entries) (filter p entries))
    go true is more = lt-ltb 0 (suc (length entries)) (omega arith)
    go false is more = one-less (position_or_len p entries) (length entries) ∙ more

some-if : (b : Bool) (n : ℕ) (f : ℕ → ℕ × ℕ) → is_some (option_map f (cond b (Some n) None)) ≡ b
some-if true n f = refl
some-if false n f = refl

pub some-range : (prefix : List ℕ) (entries : List IndexEntry) → is_some (entry_range_with_path_prefix prefix entries) ≡ is_nonempty_entry_list (filter (entry_path_begins_with prefix) entries)
some-range prefix entries =
    some-if (nat_lt (position_or_len (entry_path_begins_with prefix) entries) (length entries)) (position_or_len (entry_path_begins_with prefix) entries) _
    ∙ some-position (entry_path_begins_with prefix) entries

below-empty : (path : List ℕ) → is_empty_or_root_path path ≡ false → is_empty path ≡ false
below-empty [] e = absurd (cc e)
below-empty (b ∷ path) e = refl

-- of a path that is not the top
pub some-beneath : (path : List ℕ) (entries : List IndexEntry) → is_empty_or_root_path path ≡ false
    → is_some (entry_range_with_path_prefix (path ++ 47 ∷ []) entries) ≡ is_nonempty_entry_list (entries_beneath_path path entries)
some-beneath path entries low =
    some-range (path ++ 47 ∷ []) entries
    ∙ ap (λ (b : Bool). is_nonempty_entry_list (cond b [] (filter (entry_path_begins_with (path ++ 47 ∷ [])) entries))) (sym (below-empty path low))
