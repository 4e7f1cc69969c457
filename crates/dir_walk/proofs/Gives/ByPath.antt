-- What a walk gave, in the order of paths, is the report.
use Rattle.std.proofs.Common.{◌≡◌, inl, inr, ◌≤◌, ℕ, List, [], Bool, true, false, cond, Option, Some, None, Result, Ok, count_by, refl, sym, ap, subst, ◌∙◌, arith}
use Rattle.std.specs.Str.{bytes_eq}
use Rattle.std.specs.Prelude.{IsPermutation, IsSomeAnd, if◌then◌else◌, option_and_then}
use Rattle.std.proofs.lemmas.List.Sorted.{sum_by-IsPermutation}
use Rattle.gitbase_core.specs.Path.{is_prefix_by_whole_components}
use Rattle.worktree_fs.specs.Naming.{IsValidTree}
use Rattle.worktree_fs.specs.Paths.{root_joined_with_relative}
use Rattle.worktree_fs.specs.Tree.{directory}
use Rattle.worktree_stack.specs.Reading.{TreeAndObjects}
use Rattle.worktree_stack.specs.Setup.{StackSetup}
use Rattle.dir_classify.specs.declared.error.Error.{Error}
use Rattle.dir_classify.specs.Layers.{WalkSetting, evidence_from_setting_and_sources}
use Rattle.dir_walk.specs.declared.outcome.Outcome.{Outcome}
use Rattle.dir_walk.specs.declared.report.Report.{Report as Made_Report}
use Rattle.dir_walk.specs.Covered.{CoversUnfoldedReport, options_without_folding, setting_without_folding}
use Rattle.dir_walk.specs.Distinct.{IsStrictlyAscendingByPath, HasDistinctPaths}
use Rattle.dir_walk.specs.Emissions.{Emission, sort_emissions_by_path, path_of_emission as emission_path}
use Rattle.dir_walk.specs.Report.{counts, is_whole_walk_refused, emissions_with_handed_up, report, report_of_walk_unless_refused, emissions_shown_by_options}
use Rattle.dir_walk.specs.Reports.{IsReportFromNormalizedRoot, IsSafeReport}
use Rattle.dir_walk.specs.Root.{Walk, walk_over_sources}
use Rattle.dir_walk.specs.Safe.{IsSafeToReport}
use Rattle.dir_walk.specs.Fold.{count_of_flag}
use Rattle.dir_walk.specs.Puts.{AddsAtMostPerPath, count_emissions_at_path, one_at_path, one_at_or_beneath_path}
use Rattle.dir_walk.specs.Walks.{AddsShownEntriesOfWalk, AddsPathsFromRootOnce, AddsPathsFromNamedRootOnce, GivesReportOfWalk}
use Rattle.dir_walk.proofs.Theorems.Flat.{flat-entries}
use Rattle.dir_walk.proofs.Order.Lists.{some-weaker}
use Rattle.dir_walk.proofs.Gives.Reported.{covers-by_path}
use Rattle.dir_walk.proofs.Theorems.Safety.{safe-by_path, safe-walk}
use Rattle.dir_walk.proofs.Order.Sorting.{by_path-same}
use Rattle.dir_walk.proofs.Order.Strict.{Ascends-by_path}

one_if-most : (b : Bool) → count_of_flag b ≤ 1
one_if-most true = omega arith
one_if-most false = omega arith

-- a walk of which nothing is refused has a report
pub report-is : (given : WalkSetting) (made : Option StackSetup) (s : TreeAndObjects) (explicit : Option (List ℕ)) (limit : ℕ) (walk : Walk) → walk_over_sources given made s explicit ≡ Some walk → is_whole_walk_refused limit (evidence_from_setting_and_sources given made s) walk ≡ false
    → report given made s explicit limit ≡ Some (record { outcome = counts given.options walk.gives; root = root_joined_with_relative given.root walk.root; entries = sort_emissions_by_path (emissions_shown_by_options given.options (emissions_with_handed_up walk.gives)) })
unfolding report
report-is given made s explicit limit walk is whole =
    let all : Made_Report = record { outcome = counts given.options walk.gives; root = root_joined_with_relative given.root walk.root; entries = sort_emissions_by_path (emissions_shown_by_options given.options (emissions_with_handed_up walk.gives)) } in
    ap (option_and_then (report_of_walk_unless_refused given limit (evidence_from_setting_and_sources given made s))) is
    ∙ ap (λ (b : Bool). if b then None else Some all) whole

some_list : {X : Type 0} {x y : X} → Some x ≡ Some y → x ≡ y
some_list e = cc

module _ (given : WalkSetting) (made : Option StackSetup) (s : TreeAndObjects) (explicit : Option (List ℕ)) (limit : ℕ) (tree : IsValidTree (directory s.tree)) (got entries : List Emission) (outcome : Outcome) (root : List ℕ)
    (gives : GivesReportOfWalk given made s explicit limit (Some []) (Some got) (outcome, root)) (sorted : entries ≡ sort_emissions_by_path got) where
  abbrev all : List Emission
  all = emissions_shown_by_options given.options (emissions_with_handed_up gives.walk.gives)

  given-all : AddsShownEntriesOfWalk given made s explicit gives.walk [] (Some got)
  given-all = gives.entries [] refl

  got-is : got ≡ given-all.more
  got-is = some_list given-all.after_is

  safe : IsSafeToReport given.options (evidence_from_setting_and_sources given made s) gives.walk.gives got
  safe = subst (IsSafeToReport given.options (evidence_from_setting_and_sources given made s) gives.walk.gives) (sym got-is) given-all.safe

  entries-are : entries ≡ sort_emissions_by_path got
  entries-are = sorted

  same-counts : (p : Emission → Bool) → count_by p given-all.more ≡ count_by p all
  same-counts p = sym (sum_by-IsPermutation (λ (e : Emission). cond {A = ℕ} (p e) 1 0) given-all.more all given-all.same)

  all-are : sort_emissions_by_path all ≡ entries
  all-are =
      sym (by_path-same got all
      (λ p. ap (count_by p) got-is ∙ same-counts p)
      (safe-walk given made s explicit gives.walk tree gives.walk_is).once)
      ∙ sym entries-are

  abbrev made_report : Made_Report
  made_report = record { outcome = outcome; root = root; entries = entries }

  is-of : report given made s explicit limit ≡ Some made_report
  is-of =
      report-is given made s explicit limit gives.walk gives.walk_is gives.whole
      ∙ ap (λ (o : Outcome). Some (record { outcome = o; root = root_joined_with_relative given.root gives.walk.root; entries = sort_emissions_by_path all })) (sym gives.outcome_is)
      ∙ ap (λ (r : List ℕ). Some (record { outcome = outcome; root = r; entries = sort_emissions_by_path all })) (sym gives.root_is)
      ∙ ap (λ (es : List Emission). Some (record { outcome = outcome; root = root; entries = es })) all-are

  at-walk : (P : Walk → Type 0) → P gives.walk → IsSomeAnd (walk_over_sources given made s explicit) P
  at-walk P h = subst (λ (w : Option Walk). IsSomeAnd w P) (sym gives.walk_is) h

  pub is-report : IsSafeReport given made s explicit limit made_report
  is-report =
      record {
        is = is-of;
        ascends = subst IsStrictlyAscendingByPath (sym entries-are) (Ascends-by_path got safe.once);
        flat = λ off. flat-entries given made s explicit limit made_report tree off is-of;
        safe =
            at-walk (λ walk. IsSafeToReport given.options (evidence_from_setting_and_sources given made s) walk.gives entries)
            (subst (IsSafeToReport given.options (evidence_from_setting_and_sources given made s) gives.walk.gives) (sym entries-are) (safe-by_path given.options (evidence_from_setting_and_sources given made s) gives.walk.gives got safe));
        covers =
            at-walk
            (λ walk. IsSomeAnd (walk_over_sources (setting_without_folding given) made s explicit) (λ unfolded. CoversUnfoldedReport walk.gives.folds entries (sort_emissions_by_path (emissions_shown_by_options (options_without_folding given.options) (emissions_with_handed_up unfolded.gives)))))
            (some-weaker (walk_over_sources (setting_without_folding given) made s explicit)
            (λ unfolded h.
            subst (λ (es : List Emission). CoversUnfoldedReport gives.walk.gives.folds es (sort_emissions_by_path (emissions_shown_by_options (options_without_folding given.options) (emissions_with_handed_up unfolded.gives)))) (ap sort_emissions_by_path (sym got-is) ∙ sym entries-are)
            (covers-by_path gives.walk.gives.folds given-all.more (emissions_shown_by_options (options_without_folding given.options) (emissions_with_handed_up unfolded.gives)) h))
            given-all.covers);
      }

-- ---- over any worktree

-- what a delegate is given that had nothing before has distinct paths
pub distinct-given : {T : Type 0} (given : WalkSetting) (explicit : Option (List ℕ)) (path_of : T → List ℕ) (result : Result T Error) (before got : List Emission) → before ≡ []
    → AddsPathsFromNamedRootOnce given explicit path_of result (Some before) (Some got) → HasDistinctPaths got
distinct-given given explicit path_of result before got none (inl same) =
    record { once = λ path. omega (arith, ap {B = ℕ} (λ (xs : List Emission). count_emissions_at_path path xs) (some_list same.0), ap {B = ℕ} (λ (xs : List Emission). count_emissions_at_path path xs) none) }
distinct-given given explicit path_of result before got none (inr (root, is, inl adds)) =
    record { once = λ path. omega (arith, adds refl path, ap {B = ℕ} (λ (xs : List Emission). count_emissions_at_path path xs) none, one_if-most (is_prefix_by_whole_components root path)) }
distinct-given given explicit path_of result before got none (inr (root, is, inr (only, leads, adds))) =
    record { once = λ path. omega (arith, adds refl path, ap {B = ℕ} (λ (xs : List Emission). count_emissions_at_path path xs) none, one_if-most (bytes_eq path only)) }

-- in whatever order they are given from the same traversal root
adds-sorted : (room : List ℕ → ℕ) (got entries : List Emission) → IsPermutation got entries → AddsAtMostPerPath room (Some []) (Some got) → AddsAtMostPerPath room (Some []) (Some entries)
adds-sorted room got entries same adds = λ told path.
    omega (arith, adds told path, sum_by-IsPermutation (λ (x : Emission). cond {A = ℕ} (bytes_eq path (emission_path x)) 1 0) got entries same)

gives-sorted : (root : List ℕ) (got entries : List Emission) → IsPermutation got entries → AddsPathsFromRootOnce root (Some []) (Some got) → AddsPathsFromRootOnce root (Some []) (Some entries)
gives-sorted root got entries same (inl adds) = inl (adds-sorted (one_at_or_beneath_path root) got entries same adds)
gives-sorted root got entries same (inr (path, leads, adds)) = inr (path, leads, adds-sorted (one_at_path path) got entries same adds)

pub from-root : (given : WalkSetting) (explicit : Option (List ℕ)) (outcome : Outcome) (root : List ℕ) (before got entries : List Emission) → before ≡ [] → IsPermutation got entries
    → AddsPathsFromNamedRootOnce given explicit (λ (r : Outcome × List ℕ). r.1) (Ok (outcome, root)) (Some before) (Some got) → IsReportFromNormalizedRoot given explicit (record { outcome = outcome; root = root; entries = entries })
from-root given explicit outcome root before got entries none same (inl gives) = absurd gives.1
from-root given explicit outcome root before got entries none same (inr (start, is, gives)) =
    record {
      root = start;
      asked = is.normalized;
      named = is.named;
      once = gives-sorted start got entries same (subst (λ (xs : List Emission). AddsPathsFromRootOnce start (Some xs) (Some got)) none gives);
    }

-- in the order of paths they ascend
pub ascends-given : (got entries : List Emission) → HasDistinctPaths got → entries ≡ sort_emissions_by_path got → IsStrictlyAscendingByPath entries
ascends-given got entries distinct sorted = subst IsStrictlyAscendingByPath (sym sorted) (Ascends-by_path got distinct)
