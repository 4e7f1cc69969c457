-- Without folding no entry that a walk shows lies beneath another.
use Rattle.std.proofs.Common.{◌≡◌, ℕ, List, ◌++◌, Bool, true, false, Option, Some, None, map, refl, sym, ap, subst, ◌∙◌}
use Rattle.std.specs.Prelude.{if◌then◌else◌}
use Rattle.std.specs.List.{AllByRecursion}
use Rattle.std.proofs.lemmas.List.{append-nil}
use Rattle.gitbase_core.specs.Path.{components, ends_in_slash, is_empty, is_beneath_directory}
use Rattle.worktree_fs.specs.Naming.{IsValidTree}
use Rattle.worktree_fs.specs.Tree.{Node, LookupResult, file, link, directory, other, found, absent, too_many_links}
use Rattle.worktree_fs.proofs.Trees.Subtree.{IsTree-look}
use Rattle.worktree_stack.specs.Reading.{TreeAndObjects}
use Rattle.worktree_stack.specs.Setup.{StackSetup}
use Rattle.dir_classify.specs.declared.classify.Outcome.{Outcome as Class}
use Rattle.dir_classify.specs.declared.entry.Entry.{Entry}
use Rattle.dir_classify.specs.declared.entry.Kind.{Kind}
use Rattle.dir_classify.specs.Chosen.{WalkOptions, folds_untracked_or_ignored}
use Rattle.dir_classify.specs.Entries.{entry_with_outcome}
use Rattle.dir_classify.specs.Evidence.{PathEvidence}
use Rattle.dir_classify.specs.Layers.{WalkSetting, evidence_from_setting_and_sources, kind_on_disk_if_asked}
use Rattle.dir_classify.specs.Paths.{root_joined_with_relative}
use Rattle.dir_classify.specs.Way.{EndOfWayToRoot}
use Rattle.dir_walk.specs.declared.report.Report.{Report}
use Rattle.dir_walk.specs.Distinct.{IsWithoutNestedPaths, LiesAboveNoEntry}
use Rattle.dir_walk.specs.Emissions.{Emission, sort_emissions_by_path, is_empty_directory_property, path_of_emission, uncollapsed_emission}
use Rattle.dir_walk.specs.Report.{emissions_with_handed_up, report, emissions_shown_by_options}
use Rattle.dir_walk.specs.Root.{is_worktree_root_non_directory, enters_traversal_root, look_at_traversal_root, walk_result_with_single_entry, walk_result_from_end_of_way}
use Rattle.dir_walk.specs.Walked.{WalkResult, walk_result_of_entered_path, report_of}
use Rattle.dir_walk.proofs.Places.Beneath.{not_beneath-self}
use Rattle.dir_walk.proofs.Theorems.Comes.{Comes, NoneBeneath, report-comes}
use Rattle.dir_walk.proofs.Theorems.Induct.{NoneEmpty}
use Rattle.dir_walk.proofs.Order.Lists.{all_filter, all_map, all_weaker, same_some}
use Rattle.dir_walk.proofs.Places.Located.{at_or_beneath}
use Rattle.dir_walk.proofs.Theorems.Matching.{PutsLeaves, report-puts}
use Rattle.dir_walk.proofs.Gives.Reported.{IsReportOf, report-of}
use Rattle.dir_walk.proofs.Theorems.Safety.{IsWalkFrom, walk-in}
use Rattle.dir_walk.proofs.Order.Sorting.{all-by_path}
use Rattle.dir_walk.proofs.Roots.Ways.{evidence-clear, reached-clear, reached-plain}

flat-plain : (met : List Entry) → AllByRecursion (NoneBeneath met) met → IsWithoutNestedPaths (map uncollapsed_emission met)
flat-plain met h =
    all_map (LiesAboveNoEntry (map uncollapsed_emission met)) uncollapsed_emission met
    (all_weaker (NoneBeneath met) (λ (l : Entry). LiesAboveNoEntry (map uncollapsed_emission met) (uncollapsed_emission l)) met
    (λ l none. all_map (λ (y : Emission). is_beneath_directory l.rela_path (path_of_emission y) ≡ false) uncollapsed_emission met none) h)

flat-sorted : (o : WalkOptions) (out : List Emission) → IsWithoutNestedPaths out → IsWithoutNestedPaths (sort_emissions_by_path (emissions_shown_by_options o out))
flat-sorted o out h =
    all-by_path (LiesAboveNoEntry (sort_emissions_by_path (emissions_shown_by_options o out))) (emissions_shown_by_options o out)
    (all_filter (LiesAboveNoEntry (sort_emissions_by_path (emissions_shown_by_options o out))) _ out
    (all_weaker (LiesAboveNoEntry out) (LiesAboveNoEntry (sort_emissions_by_path (emissions_shown_by_options o out))) out
    (λ x none. all-by_path (λ (y : Emission). is_beneath_directory (path_of_emission x) (path_of_emission y) ≡ false) (emissions_shown_by_options o out) (all_filter (λ (y : Emission). is_beneath_directory (path_of_emission x) (path_of_emission y) ≡ false) _ out none)) h))

flat-report : (o : WalkOptions) (ev : PathEvidence) (d : List ℕ) (c : Class) (at : LookupResult) → folds_untracked_or_ignored o ≡ false → NoneEmpty ev → ends_in_slash d ≡ false → is_empty_directory_property c.property ≡ false
    → ((node : Node) → at ≡ found node → IsValidTree node) → IsWithoutNestedPaths (emissions_with_handed_up (walk_result_of_entered_path o ev d c at))
flat-report o ev d c (found (directory names)) off clear plain_d own tree =
    let w : WalkResult = report_of o ev d c names in
    let puts : PutsLeaves (at_or_beneath d) w = report-puts o ev off d c names clear plain_d own (tree (directory names) refl) in
    let come : Comes (at_or_beneath d) w = report-comes o ev d c names clear plain_d own (tree (directory names) refl) in
    let out_is : emissions_with_handed_up w ≡ map uncollapsed_emission w.met = ap (λ (es : List Entry). w.out ++ map uncollapsed_emission es) puts.up ∙ append-nil w.out ∙ puts.out in
    subst IsWithoutNestedPaths (sym out_is) (flat-plain w.met come.flat)
flat-report o ev d c (found (file bytes)) off clear plain_d own tree = tt
flat-report o ev d c (found (link target)) off clear plain_d own tree = tt
flat-report o ev d c (found other) off clear plain_d own tree = tt
flat-report o ev d c absent off clear plain_d own tree = tt
flat-report o ev d c too_many_links off clear plain_d own tree = tt

flat-walked : (o : WalkOptions) (ev : PathEvidence) (r : EndOfWayToRoot) (at : LookupResult) (w : WalkResult) → folds_untracked_or_ignored o ≡ false → NoneEmpty ev → ends_in_slash r.path ≡ false → is_empty_directory_property r.class.property ≡ false
    → ((node : Node) → at ≡ found node → IsValidTree node) → walk_result_from_end_of_way o ev r at ≡ Some w → IsWithoutNestedPaths (emissions_with_handed_up w)
flat-walked o ev r at w off clear plain_r own tree e = go (enters_traversal_root o ev r) (is_worktree_root_non_directory r) e
  where
    go : (b k : Bool) → (if b then Some (walk_result_of_entered_path o ev r.path r.class at) else if k then None else Some (walk_result_with_single_entry (entry_with_outcome r.path r.class))) ≡ Some w → IsWithoutNestedPaths (emissions_with_handed_up w)
    go true k p = subst (λ (x : WalkResult). IsWithoutNestedPaths (emissions_with_handed_up x)) (same_some p) (flat-report o ev r.path r.class at off clear plain_r own tree)
    go false true p = absurd (cc p)
    go false false p = subst (λ (x : WalkResult). IsWithoutNestedPaths (emissions_with_handed_up x)) (same_some p) ((not_beneath-self r.path, tt), tt)

-- A report of a tree without folding is flat.
pub flat-entries : (given : WalkSetting) (made : Option StackSetup) (s : TreeAndObjects) (explicit : Option (List ℕ)) (limit : ℕ) (r : Report) → IsValidTree (directory s.tree)
    → folds_untracked_or_ignored given.options ≡ false → report given made s explicit limit ≡ Some r → IsWithoutNestedPaths r.entries
unfolding evidence_from_setting_and_sources
flat-entries given made s explicit limit r tree off e =
    let of : IsReportOf given made s explicit limit r = report-of given made s explicit limit r e in
    let ev : PathEvidence = evidence_from_setting_and_sources given made s in
    let o : WalkOptions = given.options in
    let clear : NoneEmpty ev = evidence-clear given made s in
    let kind_at : List ℕ → Option Kind = λ p. kind_on_disk_if_asked given s.tree p true in
    let from : IsWalkFrom given ev s.tree of.walk = walk-in given made s explicit of.walk of.walk_is in
    subst IsWithoutNestedPaths (sym of.entries_are)
    (flat-sorted o (emissions_with_handed_up of.walk.gives)
    (flat-walked o ev from.way (look_at_traversal_root given s.tree from.way.path) of.walk.gives off clear
    (ap (λ (r : EndOfWayToRoot). ends_in_slash r.path) from.way_is ∙ reached-plain o ev kind_at of.walk.root)
    (ap (λ (r : EndOfWayToRoot). is_empty_directory_property r.class.property) from.way_is ∙ reached-clear o ev kind_at clear (components of.walk.root))
    (λ node there. IsTree-look s.tree (root_joined_with_relative given.root from.way.path) (is_empty from.way.path) node tree there)
    from.walked_is))
