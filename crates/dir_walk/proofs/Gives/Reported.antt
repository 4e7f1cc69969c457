-- What holds of a report: its entries in the order of their paths.
use Rattle.std.proofs.Common.{◌≡◌, ℕ, ◌≤◌, ◌⊎◌, inl, inr, List, [], ◌∷◌, Bool, true, false, cond, Option, Some, None, count_by, refl, sym, ap, subst, ◌∙◌, arith}
use Rattle.std.specs.Prelude.{option_and_then, if◌then◌else◌}
use Rattle.worktree_fs.specs.Paths.{root_joined_with_relative}
use Rattle.worktree_stack.specs.Reading.{TreeAndObjects}
use Rattle.worktree_stack.specs.Setup.{StackSetup}
use Rattle.dir_classify.specs.declared.entry.Entry.{Entry}
use Rattle.dir_classify.specs.Evidence.{PathEvidence}
use Rattle.dir_classify.specs.Layers.{WalkSetting, evidence_from_setting_and_sources}
use Rattle.dir_walk.specs.Covered.{CoversUnfoldedReport, IsBeneathOneFoldedDirectory, IsListElement, StandsBesideNoneAbove, is_uncollapsed_above_path}
use Rattle.dir_walk.specs.Emissions.{Emission, sort_emissions_by_path, uncollapsed_emission}
use Rattle.dir_walk.specs.Fold.{is_pruned}
use Rattle.dir_walk.specs.declared.report.Report.{Report}
use Rattle.dir_walk.specs.Report.{counts, is_whole_walk_refused, emissions_with_handed_up, report, report_of_walk_unless_refused, emissions_shown_by_options}
use Rattle.dir_walk.specs.Root.{Walk, walk_over_sources}
use Rattle.dir_walk.proofs.Order.Counts.{SameCounts, count_by-cons}
use Rattle.dir_walk.proofs.Order.Lists.{all_weaker, same_some}
use Rattle.dir_walk.proofs.Order.Members.{some-in}
use Rattle.dir_walk.proofs.Order.Same.{emission_is, emission_same, same_emission}
use Rattle.dir_walk.proofs.Order.Sorting.{all-by_path, count_by-by_path}

-- ---- in whatever order

some-same : (x : Emission) (xs : List Emission) → IsListElement x xs → 1 ≤ count_by (same_emission x) xs
some-same x [] h = absurd h
some-same x (y ∷ xs) (inl e) = omega (arith, count_by-cons (same_emission x) y xs, ap {B = ℕ} (λ (b : Bool). cond b 1 0) (ap (same_emission x) (sym e) ∙ emission_same x))
some-same x (y ∷ xs) (inr h) = omega (arith, count_by-cons (same_emission x) y xs, some-same x xs h)

in-same : (x : Emission) (xs ys : List Emission) → SameCounts xs ys → IsListElement x xs → IsListElement x ys
in-same x xs ys same h =
    let found = some-in (same_emission x) ys (omega (arith, same (same_emission x), some-same x xs h)) in
    subst (λ (y : Emission). IsListElement y ys) (sym (emission_is x found.0 found.2)) found.1

-- which entries an entry stands among makes no difference beyond their counts
covered-same : (folds : List Entry) (xs ys : List Emission) (e : Entry) → SameCounts xs ys → StandsBesideNoneAbove xs e ⊎ IsBeneathOneFoldedDirectory folds xs e → StandsBesideNoneAbove ys e ⊎ IsBeneathOneFoldedDirectory folds ys e
covered-same folds xs ys e same (inl h) = inl (record { stands = in-same (uncollapsed_emission e) xs ys same h.stands; none_over = omega (arith, h.none_over, same (is_uncollapsed_above_path e.rela_path)) })
covered-same folds xs ys e same (inr h) =
    inr (record {
      once = omega (arith, h.once, same (is_uncollapsed_above_path e.rela_path));
      over = h.over;
      over_is = h.over_is;
      stands = in-same (uncollapsed_emission h.over) xs ys same h.stands;
      was_folded = h.was_folded;
    })

pub covers-same : (folds : List Entry) (xs ys unfolded : List Emission) → SameCounts xs ys → CoversUnfoldedReport folds xs unfolded → CoversUnfoldedReport folds ys unfolded
covers-same folds xs ys unfolded same h =
    all_weaker (λ (x : Emission). is_pruned x.0 ≡ false → StandsBesideNoneAbove xs x.0 ⊎ IsBeneathOneFoldedDirectory folds xs x.0) (λ (x : Emission). is_pruned x.0 ≡ false → StandsBesideNoneAbove ys x.0 ⊎ IsBeneathOneFoldedDirectory folds ys x.0) unfolded
    (λ x k n. covered-same folds xs ys x.0 same (k n)) h

pub covers-by_path : (folds : List Entry) (xs unfolded : List Emission) → CoversUnfoldedReport folds xs unfolded → CoversUnfoldedReport folds (sort_emissions_by_path xs) (sort_emissions_by_path unfolded)
covers-by_path folds xs unfolded h =
    all-by_path (λ (x : Emission). is_pruned x.0 ≡ false → StandsBesideNoneAbove (sort_emissions_by_path xs) x.0 ⊎ IsBeneathOneFoldedDirectory folds (sort_emissions_by_path xs) x.0) unfolded
    (covers-same folds xs (sort_emissions_by_path xs) unfolded (λ p. sym (count_by-by_path p xs)) h)

-- ---- a report

-- the walk that a report is of
pub record IsReportOf (given : WalkSetting) (made : Option StackSetup) (s : TreeAndObjects) (explicit : Option (List ℕ)) (limit : ℕ) (r : Report) : Type 0 where
  pub walk : Walk
  pub walk_is : walk_over_sources given made s explicit ≡ Some walk
  pub defined : is_whole_walk_refused limit (evidence_from_setting_and_sources given made s) walk ≡ false
  pub outcome_is : r.outcome ≡ counts given.options walk.gives
  pub root_is : r.root ≡ root_joined_with_relative given.root walk.root
  pub entries_are : r.entries ≡ sort_emissions_by_path (emissions_shown_by_options given.options (emissions_with_handed_up walk.gives))

pub report-of : (given : WalkSetting) (made : Option StackSetup) (s : TreeAndObjects) (explicit : Option (List ℕ)) (limit : ℕ) (r : Report) → report given made s explicit limit ≡ Some r
    → IsReportOf given made s explicit limit r
unfolding report
report-of given made s explicit limit r e = go (walk_over_sources given made s explicit) refl e
  where
    ev : PathEvidence
    ev = evidence_from_setting_and_sources given made s

    made_of : (walk : Walk) (b : Bool) → walk_over_sources given made s explicit ≡ Some walk → is_whole_walk_refused limit ev walk ≡ b
        → (if b then None else Some (record { outcome = counts given.options walk.gives; root = root_joined_with_relative given.root walk.root; entries = sort_emissions_by_path (emissions_shown_by_options given.options (emissions_with_handed_up walk.gives)) })) ≡ Some r
        → IsReportOf given made s explicit limit r
    made_of walk true is p f = absurd (cc f)
    made_of walk false is p f =
        let same : record { outcome = counts given.options walk.gives; root = root_joined_with_relative given.root walk.root; entries = sort_emissions_by_path (emissions_shown_by_options given.options (emissions_with_handed_up walk.gives)) } ≡ r = same_some f in
        record {
          walk = walk;
          walk_is = is;
          defined = p;
          outcome_is = sym (ap (λ (x : Report). x.outcome) same);
          root_is = sym (ap (λ (x : Report). x.root) same);
          entries_are = sym (ap (λ (x : Report). x.entries) same);
        }

    go : (found : Option Walk) → walk_over_sources given made s explicit ≡ found → option_and_then (report_of_walk_unless_refused given limit ev) found ≡ Some r → IsReportOf given made s explicit limit r
    go None is f = absurd (cc f)
    go (Some walk) is f = made_of walk (is_whole_walk_refused limit ev walk) is refl f
