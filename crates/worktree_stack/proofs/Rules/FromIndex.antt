-- The mappings that an index has ascend, as its entries do.
use Rattle.std.proofs.Common.{◌≡◌, ℕ, zero, suc, ◌+◌, ◌<◌, Bool, true, false, not, ◌&&◌, ◌||◌, ◌==◌, cond, List, [], ◌∷◌, ◌++◌, length, take, map, filter, get_or, Option, refl, sym, ap, ◌∙◌, arith, inl, inr}
use Rattle.std.specs.List.{list_any, list_all}
use Rattle.std.specs.Ordering.{nat_cmp, is_eq}
use Rattle.std.specs.Str.{bytes_eq}
use Rattle.std.specs.declared.cmp.Ordering.TheVariants.{Less}
use Rattle.std.proofs.lemmas.Bool.{true≢false}
use Rattle.std.proofs.lemmas.Bool.Decides.{nat_tests}
use Rattle.std.proofs.lemmas.List.{get_or-take, length-take-le, map-append}
use Rattle.std.proofs.lemmas.List.Elements.{filter_more}
use Rattle.std.proofs.lemmas.List.Folds.{list_any_at}
use Rattle.std.proofs.lemmas.Map.Text.{is_eq-slice_cmp}
use Rattle.gitbase_core.specs.declared.entry.IndexEntry.{IndexEntry}
use Rattle.gitbase_core.specs.Index.{compare_path_bytes, has_stage_zero_conflict, AreValidIndexEntries}
use Rattle.gitbase_core.proofs.IndexRules.{passes-at, rises, not_before}
use Rattle.glob_rules.specs.declared.Case.{Case}
use Rattle.worktree_stack.specs.Setup.{AttributesSetup, Setup, RulesFileMapping}
use Rattle.worktree_stack.specs.Mappings.{is_mapping_path_less, are_mapping_paths_ascending, is_rules_file_read_from_index, path_and_blob_id_of_entry, rules_file_mappings_of_index}

-- ---- two entries of an index

-- of two stages of one path, each that of a merged entry or of ours, the lower is 0
lower_stage : (a b : ℕ) → nat_cmp a b ≡ Less → (a == 0 || a == 2) ≡ true → (b == 0 || b == 2) ≡ true → (a == 0) ≡ true
lower_stage a b less one two = grind (arith, nat_tests)

no_clash : (one two : Bool) → (not one && not two) ≡ true → two ≡ false
no_clash true two h = absurd (cc)
no_clash false true h = absurd (cc)
no_clash false false h = refl

pair-ascends : (entries : List IndexEntry) (i j : ℕ) (d : IndexEntry) → AreValidIndexEntries entries → i < j → j < length entries
    → ((get_or entries i d).stage == 0 || (get_or entries i d).stage == 2) ≡ true → ((get_or entries j d).stage == 0 || (get_or entries j d).stage == 2) ≡ true
    → compare_path_bytes (get_or entries i d).path (get_or entries j d).path ≡ Less
pair-ascends entries i j d index low high one two =
    elim (not_before (compare_path_bytes (get_or entries i d).path (get_or entries j d).path) (nat_cmp (get_or entries i d).stage (get_or entries j d).stage) (rises entries i j d index low high)) [
      | inl less ↦ less
      | inr equal ↦
          let a = get_or entries i d in
          let b = get_or entries j d in
          let stages : nat_cmp a.stage b.stage ≡ Less = rw equal at (rises entries i j d index low high) in
          let lowest : (a.stage == 0) ≡ true = lower_stage a.stage b.stage stages one two in
          let same : bytes_eq a.path b.path ≡ true = sym (is_eq-slice_cmp a.path b.path) ∙ ap is_eq equal in
          let none : list_any (has_stage_zero_conflict b) (take j entries) ≡ false = no_clash _ (list_any (has_stage_zero_conflict b) (take j entries)) (passes-at entries j d index high).stage in
          let clash : has_stage_zero_conflict b (get_or (take j entries) i d) ≡ true = ap (has_stage_zero_conflict b) (get_or-take j entries i d low) ∙ (rw (same, lowest) refl) in
          absurd (true≢false (sym (list_any_at (has_stage_zero_conflict b) (take j entries) i d (omega (arith, length-take-le j entries (omega arith))) clash) ∙ none))
    ]

-- ---- lists of entries

abbrev Each : (IndexEntry → Type 0) → List IndexEntry → Type 0
Each P [] = Unit {0}
Each P (e ∷ es) = P e × Each P es

-- each stands so to those behind it
abbrev Rising : (IndexEntry → IndexEntry → Type 0) → List IndexEntry → Type 0
Rising R [] = Unit {0}
Rising R (e ∷ es) = Each (R e) es × Rising R es

each-from : (P : IndexEntry → Type 0) (es : List IndexEntry) (d : IndexEntry) → ((j : ℕ) → j < length es → P (get_or es j d)) → Each P es
each-from P [] d f = tt
each-from P (e ∷ es) d f = (f zero (omega arith), each-from P es d (λ j l. f (suc j) (omega arith)))

rising-from : (R : IndexEntry → IndexEntry → Type 0) (es : List IndexEntry) (d : IndexEntry) → ((i j : ℕ) → i < j → j < length es → R (get_or es i d) (get_or es j d)) → Rising R es
rising-from R [] d f = tt
rising-from R (e ∷ es) d f = (each-from (R e) es d (λ j l. f zero (suc j) (omega arith) (omega arith)), rising-from R es d (λ i j l h. f (suc i) (suc j) (omega arith) (omega arith)))

module _ (keep : IndexEntry → Bool) where
  each-kept : (P : IndexEntry → Type 0) (es : List IndexEntry) → Each (λ b. keep b ≡ true → P b) es → Each P (filter keep es)
  each-kept P [] each = tt
  each-kept P (e ∷ es) each = go (each-kept P es each.1) (keep e) refl
    where
      go : Each P (filter keep es) → (b : Bool) → keep e ≡ b → Each P (cond b (e ∷ filter keep es) (filter keep es))
      go more true is = (each.0 is, more)
      go more false is = more

  each-given : (P : IndexEntry → Type 0) (e : IndexEntry) → keep e ≡ true → (fs : List IndexEntry) → Each (λ b. keep e ≡ true → keep b ≡ true → P b) fs → Each (λ b. keep b ≡ true → P b) fs
  each-given P e is [] each = tt
  each-given P e is (f ∷ fs) each = (each.0 is, each-given P e is fs each.1)

  rising-kept : (R : IndexEntry → IndexEntry → Type 0) (es : List IndexEntry) → Rising (λ a b. keep a ≡ true → keep b ≡ true → R a b) es → Rising R (filter keep es)
  rising-kept R [] rising = tt
  rising-kept R (e ∷ es) rising = go (λ is. each-kept (R e) es (each-given (R e) e is es rising.0)) (rising-kept R es rising.1) (keep e) refl
    where
      go : (keep e ≡ true → Each (R e) (filter keep es)) → Rising R (filter keep es) → (b : Bool) → keep e ≡ b → Rising R (cond b (e ∷ filter keep es) (filter keep es))
      go each more true is = (each is, more)
      go each more false is = more

abbrev Before : IndexEntry → IndexEntry → Type 0
Before a b = compare_path_bytes a.path b.path ≡ Less

each-all : (m : RulesFileMapping) (es : List IndexEntry) → Each (λ b. compare_path_bytes m.0 b.path ≡ Less) es → list_all (is_mapping_path_less m) (map path_and_blob_id_of_entry es) ≡ true
each-all m [] each = refl
each-all m (e ∷ es) each = rw each.0 (each-all m es each.1)

ascending-rising : (es : List IndexEntry) → Rising Before es → are_mapping_paths_ascending (map path_and_blob_id_of_entry es) ≡ true
ascending-rising [] rising = refl
ascending-rising (e ∷ es) rising = rw (each-all (path_and_blob_id_of_entry e) es rising.0) (ascending-rising es rising.1)

-- ---- the mappings of an index

stage_of : (mode stage use_it : Bool) → ((mode && stage) && use_it) ≡ true → stage ≡ true
stage_of true true use_it h = refl
stage_of true false use_it h = absurd (cc)
stage_of false stage use_it h = absurd (cc)

pub ascending_mappings : (case : Case) (attributes : Option AttributesSetup) (ignore : Option Setup) (entries : List IndexEntry) → AreValidIndexEntries entries
    → are_mapping_paths_ascending (rules_file_mappings_of_index case attributes ignore entries) ≡ true
ascending_mappings case attributes ignore [] index = refl
ascending_mappings case attributes ignore (d ∷ more) index =
    let keep : IndexEntry → Bool = is_rules_file_read_from_index case attributes ignore in
    let entries : List IndexEntry = d ∷ more in
    ascending-rising (filter keep entries)
    (rising-kept keep Before entries
    (rising-from (λ a b. keep a ≡ true → keep b ≡ true → Before a b) entries d (λ i j low high one two.
    pair-ascends entries i j d index low high (stage_of _ _ _ one) (stage_of _ _ _ two))))

-- one entry more
pub mappings_more : (keep : IndexEntry → Bool) (entries : List IndexEntry) (i : ℕ) (d : IndexEntry) → i < length entries
    → map path_and_blob_id_of_entry (filter keep (take (i + 1) entries)) ≡ map path_and_blob_id_of_entry (filter keep (take i entries)) ++ map path_and_blob_id_of_entry (cond (keep (get_or entries i d)) (get_or entries i d ∷ []) [])
mappings_more keep entries i d low = ap (map path_and_blob_id_of_entry) (filter_more keep entries i d low) ∙ map-append path_and_blob_id_of_entry (filter keep (take i entries)) (cond (keep (get_or entries i d)) (get_or entries i d ∷ []) [])
