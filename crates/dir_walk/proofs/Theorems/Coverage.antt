-- Folding loses nothing: what a report without folding has stands in the report, or lies beneath one folded directory.
use Rattle.std.proofs.Common.{◌≡◌, ℕ, ◌+◌, ◌≤◌, ◌⊎◌, inl, inr, List, [], ◌∷◌, ◌++◌, Bool, true, false, cond, not, ◌||◌, ◌&&◌, Option, Some, None, count_by, map, refl, sym, ap, subst, ◌∙◌, arith}
use Rattle.std.proofs.lemmas.List.{append-nil}
use Rattle.std.specs.Prelude.{is_none}
use Rattle.std.specs.List.{AllByRecursion}
use Rattle.gitbase_core.specs.Path.{ends_in_slash, is_beneath_directory}
use Rattle.worktree_fs.specs.Naming.{IsValidTree}
use Rattle.worktree_fs.specs.Tree.{Names, directory}
use Rattle.dir_classify.specs.declared.classify.Outcome.{Outcome as Class}
use Rattle.dir_classify.specs.declared.entry.Entry.{Entry}
use Rattle.dir_classify.specs.Chosen.{WalkOptions, folds_untracked_or_ignored, collapses_directories_if_some}
use Rattle.dir_classify.specs.declared.options.EmissionMode.{EmissionMode}
use Rattle.dir_classify.specs.Evidence.{PathEvidence}
use Rattle.dir_walk.specs.Covered.{CoversUnfoldedReport, IsBeneathOneFoldedDirectory, IsListElement, StandsBesideNoneAbove, options_without_folding, is_uncollapsed_above_path, matching_mode_if_some, count_uncollapsed_above_path}
use Rattle.dir_walk.specs.Emissions.{Emission, is_empty_directory_property, path_of_emission, uncollapsed_emission, is_entry_shown_by_options}
use Rattle.dir_walk.specs.Fold.{is_pruned}
use Rattle.dir_walk.specs.Report.{emissions_with_handed_up, emissions_shown_by_options}
use Rattle.dir_walk.specs.Walked.{WalkResult, report_of}
use Rattle.dir_walk.proofs.Places.Beneath.{not_beneath-self}
use Rattle.dir_walk.proofs.Theorems.Comes.{Comes, ComesFrom, NoneBeneath, comes-out, report-comes}
use Rattle.dir_walk.proofs.Order.Counts.{count_by-cons, count_by-filter}
use Rattle.dir_walk.proofs.Theorems.Covering.{Covering, IsCovered, covers, covers_hidden, number-map, report-covering}
use Rattle.dir_walk.proofs.Theorems.Induct.{NoneEmpty}
use Rattle.dir_walk.proofs.Order.Lists.{and_left, and_right}
use Rattle.dir_walk.proofs.Places.Located.{at_or_beneath}
use Rattle.dir_walk.proofs.Theorems.Matching.{PutsLeaves, report-met, report-puts, shows-same}
use Rattle.dir_walk.proofs.Order.Members.{in-all, in-filter, some-in}
use Rattle.dir_walk.proofs.Order.Same.{emission_is, emission_same, same_emission}

-- ---- one leaf

-- what is shown and what is hidden are all
shown-hidden : (o : WalkOptions) (p : Emission → Bool) (out : List Emission) → count_by p (emissions_shown_by_options o out) + count_by (λ x. p x && not (is_entry_shown_by_options o x.0)) out ≡ count_by p out
shown-hidden o p [] = refl
shown-hidden o p (x ∷ out) =
    omega (
      arith,
      count_by-filter p (λ x. is_entry_shown_by_options o x.0) (x ∷ out),
      count_by-filter p (λ x. is_entry_shown_by_options o x.0) out,
      count_by-cons (λ x. is_entry_shown_by_options o x.0 && p x) x out,
      count_by-cons (λ x. p x && not (is_entry_shown_by_options o x.0)) x out,
      count_by-cons p x out,
      shown-hidden o p out,
      go (is_entry_shown_by_options o x.0) (p x),
    )
  where
    go : (a b : Bool) → cond {A = ℕ} (a && b) 1 0 + cond (b && not a) 1 0 ≡ cond b 1 0
    go true true = refl
    go true false = refl
    go false true = refl
    go false false = refl

-- a leaf that is shown is covered once by what is shown
covered-shown : (o : WalkOptions) (w : WalkResult) (l : Entry) → IsCovered o w l → is_pruned l ≡ false → is_entry_shown_by_options o l ≡ true → count_by (covers l) (emissions_shown_by_options o (emissions_with_handed_up w)) ≡ 1
covered-shown o w l h n s =
    omega (arith, (h n).0, (h n).1 s, number-map (covers l) w.out w.up, number-map (covers_hidden o l) w.out w.up, shown-hidden o (covers l) (emissions_with_handed_up w))

-- of what covers a leaf, what stands above it, and the leaf itself
apart-tests : (l : Entry) (xs : List Emission) → count_by (covers l) xs ≡ count_uncollapsed_above_path l.rela_path xs + count_by (same_emission (uncollapsed_emission l)) xs
apart-tests l [] = refl
apart-tests l (x ∷ xs) =
    omega (
      arith,
      count_by-cons (covers l) x xs,
      count_by-cons (is_uncollapsed_above_path l.rela_path) x xs,
      count_by-cons (same_emission (uncollapsed_emission l)) x xs,
      apart-tests l xs,
      go (same_emission (uncollapsed_emission l) x) (is_uncollapsed_above_path l.rela_path x) (λ is. ap (λ (y : Emission). is_uncollapsed_above_path l.rela_path y) (sym (emission_is (uncollapsed_emission l) x is)) ∙ not_beneath-self l.rela_path),
    )
  where
    go : (a b : Bool) → (a ≡ true → b ≡ false) → cond {A = ℕ} (a || b) 1 0 ≡ cond b 1 0 + cond a 1 0
    go true true f = absurd (cc (f refl))
    go true false f = refl
    go false true f = refl
    go false false f = refl

plain-is : (x : Emission) → is_none x.1 ≡ true → x ≡ uncollapsed_emission x.0
plain-is (e, None) is = refl
plain-is (e, Some s) is = absurd (cc is)

module _ (o : WalkOptions) (w : WalkResult) (comes : AllByRecursion (λ (x : Emission). ComesFrom w.met w.folds x.0) (emissions_with_handed_up w)) (flat : AllByRecursion (NoneBeneath w.met) w.met) where
  entries : List Emission
  entries = emissions_shown_by_options o (emissions_with_handed_up w)

  -- what stands above a leaf is no leaf, and so was folded
  above-folded : (l : Entry) (over : Entry) → IsListElement l w.met → is_beneath_directory over.rela_path l.rela_path ≡ true → ComesFrom w.met w.folds over → IsListElement over w.folds
  above-folded l over here beneath (inr h) = h
  above-folded l over here beneath (inl h) =
      let none : is_beneath_directory over.rela_path l.rela_path ≡ false = in-all (λ (k : Entry). is_beneath_directory over.rela_path k.rela_path ≡ false) l w.met (in-all (NoneBeneath w.met) over w.met flat h) here in
      absurd (let no : true ≡ false = sym beneath ∙ none in cc no)

  leaf-covered : (l : Entry) → IsListElement l w.met → IsCovered o w l → is_entry_shown_by_options o l ≡ true → is_pruned l ≡ false
      → StandsBesideNoneAbove (emissions_shown_by_options o (emissions_with_handed_up w)) l ⊎ IsBeneathOneFoldedDirectory w.folds (emissions_shown_by_options o (emissions_with_handed_up w)) l
  leaf-covered l here covered s n = go (same_emission (uncollapsed_emission l) found.0) refl found.2
    where
      one : count_by (covers l) (emissions_shown_by_options o (emissions_with_handed_up w)) ≡ 1
      one = covered-shown o w l covered n s

      found : (x : Emission) × IsListElement x (emissions_shown_by_options o (emissions_with_handed_up w)) × (covers l x ≡ true)
      found = some-in (covers l) (emissions_shown_by_options o (emissions_with_handed_up w)) (omega (arith, one))

      go : (b : Bool) → same_emission (uncollapsed_emission l) found.0 ≡ b → (b || is_uncollapsed_above_path l.rela_path found.0) ≡ true → StandsBesideNoneAbove (emissions_shown_by_options o (emissions_with_handed_up w)) l ⊎ IsBeneathOneFoldedDirectory w.folds (emissions_shown_by_options o (emissions_with_handed_up w)) l
      go true is k =
          let same : uncollapsed_emission l ≡ found.0 = emission_is (uncollapsed_emission l) found.0 is in
          let stands : IsListElement (uncollapsed_emission l) (emissions_shown_by_options o (emissions_with_handed_up w)) = subst (λ (x : Emission). IsListElement x (emissions_shown_by_options o (emissions_with_handed_up w))) (sym same) found.1 in
          inl (record { stands = stands; none_over = omega (arith, one, apart-tests l (emissions_shown_by_options o (emissions_with_handed_up w)), some-same (emissions_shown_by_options o (emissions_with_handed_up w)) stands) })
        where
          some-same : (xs : List Emission) → IsListElement (uncollapsed_emission l) xs → 1 ≤ count_by (same_emission (uncollapsed_emission l)) xs
          some-same [] h = absurd h
          some-same (x ∷ xs) (inl e) =
              omega (arith, count_by-cons (same_emission (uncollapsed_emission l)) x xs, ap {B = ℕ} (λ (b : Bool). cond b 1 0) (ap (same_emission (uncollapsed_emission l)) (sym e) ∙ emission_same (uncollapsed_emission l)))
          some-same (x ∷ xs) (inr h) = omega (arith, count_by-cons (same_emission (uncollapsed_emission l)) x xs, some-same xs h)
      go false is k =
          let x : Emission = found.0 in
          let alone : x ≡ uncollapsed_emission x.0 = plain-is x (and_left (is_none x.1) (is_beneath_directory (path_of_emission x) l.rela_path) k) in
          let beneath : is_beneath_directory (path_of_emission x) l.rela_path ≡ true = and_right (is_none x.1) (is_beneath_directory (path_of_emission x) l.rela_path) k in
          let over_is : is_uncollapsed_above_path l.rela_path (uncollapsed_emission x.0) ≡ true = beneath in
          inr (record {
            once = omega (arith, one, apart-tests l (emissions_shown_by_options o (emissions_with_handed_up w)), some-over (emissions_shown_by_options o (emissions_with_handed_up w)) x found.1 k);
            over = x.0;
            over_is = over_is;
            stands = subst (λ (y : Emission). IsListElement y (emissions_shown_by_options o (emissions_with_handed_up w))) alone found.1;
            was_folded = above-folded l x.0 here beneath (in-all (λ (y : Emission). ComesFrom w.met w.folds y.0) x (emissions_with_handed_up w) comes (in-filter x (λ y. is_entry_shown_by_options o y.0) (emissions_with_handed_up w) found.1));
          })
        where
          some-over : (xs : List Emission) (x : Emission) → IsListElement x xs → is_uncollapsed_above_path l.rela_path x ≡ true → 1 ≤ count_uncollapsed_above_path l.rela_path xs
          some-over [] x h e = absurd h
          some-over (y ∷ xs) x (inl same) e =
              omega (arith, count_by-cons (is_uncollapsed_above_path l.rela_path) y xs, ap {B = ℕ} (λ (b : Bool). cond b 1 0) (ap (is_uncollapsed_above_path l.rela_path) (sym same) ∙ e))
          some-over (y ∷ xs) x (inr h) e = omega (arith, count_by-cons (is_uncollapsed_above_path l.rela_path) y xs, some-over xs x h e)

-- ---- a report

off-matching : (o : WalkOptions) → folds_untracked_or_ignored (options_without_folding o) ≡ false
off-matching o = go o.emit_ignored
  where
    go : (mode : Option EmissionMode) → collapses_directories_if_some (matching_mode_if_some mode) ≡ false
    go None = refl
    go (Some mode) = refl

-- what is shown of the leaves without folding
unfolded-each : (o : WalkOptions) (Q : Entry → Type 0) (met : List Entry) → ((l : Entry) → IsListElement l met → is_entry_shown_by_options o l ≡ true → Q l) → AllByRecursion (λ (x : Emission). Q x.0) (emissions_shown_by_options (options_without_folding o) (map uncollapsed_emission met))
unfolded-each o Q [] f = tt
unfolded-each o Q (l ∷ met) f = go (is_entry_shown_by_options (options_without_folding o) l) refl (unfolded-each o Q met (λ k h. f k (inr h)))
  where
    go : (b : Bool) → is_entry_shown_by_options (options_without_folding o) l ≡ b → AllByRecursion (λ (x : Emission). Q x.0) (emissions_shown_by_options (options_without_folding o) (map uncollapsed_emission met))
        → AllByRecursion (λ (x : Emission). Q x.0) (cond b (uncollapsed_emission l ∷ emissions_shown_by_options (options_without_folding o) (map uncollapsed_emission met)) (emissions_shown_by_options (options_without_folding o) (map uncollapsed_emission met)))
    go true is later = (f l (inl refl) (sym (shows-same o l) ∙ is), later)
    go false is later = later

-- A report covers the one without folding.
pub covers-report : (o : WalkOptions) (ev : PathEvidence) (d : List ℕ) (c : Class) (names : Names) → NoneEmpty ev → ends_in_slash d ≡ false → is_empty_directory_property c.property ≡ false → IsValidTree (directory names)
    → let w = report_of o ev d c names in CoversUnfoldedReport w.folds (emissions_shown_by_options o (emissions_with_handed_up w)) (emissions_shown_by_options (options_without_folding o) (emissions_with_handed_up (report_of (options_without_folding o) ev d c names)))
covers-report o ev d c names clear plain_d own tree =
    let w : WalkResult = report_of o ev d c names in
    let m : WalkResult = report_of (options_without_folding o) ev d c names in
    let come : Comes (at_or_beneath d) w = report-comes o ev d c names clear plain_d own tree in
    let cover : Covering o (at_or_beneath d) w = report-covering o ev d c names clear plain_d own tree in
    let puts : PutsLeaves (at_or_beneath d) m = report-puts (options_without_folding o) ev (off-matching o) d c names clear plain_d own tree in
    let out_is : emissions_with_handed_up m ≡ map uncollapsed_emission w.met =
    ap (λ (es : List Entry). m.out ++ map uncollapsed_emission es) puts.up ∙ append-nil m.out ∙ puts.out ∙ ap (map uncollapsed_emission) (report-met o ev d c names) in
    let Q : Entry → Type 0 = λ l. is_pruned l ≡ false → StandsBesideNoneAbove (emissions_shown_by_options o (emissions_with_handed_up w)) l ⊎ IsBeneathOneFoldedDirectory w.folds (emissions_shown_by_options o (emissions_with_handed_up w)) l in
    subst (λ (out : List Emission). AllByRecursion (λ (x : Emission). Q x.0) (emissions_shown_by_options (options_without_folding o) out)) (sym out_is)
    (unfolded-each o Q w.met (λ l here s n. leaf-covered o w (comes-out (at_or_beneath d) w come) come.flat l here (in-all (IsCovered o w) l w.met cover.covered here) s n))
