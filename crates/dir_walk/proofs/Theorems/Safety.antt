-- What holds of whatever a walk gives, from its traversal root on.
use Rattle.std.proofs.Common.{◌≡◌, ℕ, List, [], ◌∷◌, Bool, true, false, cond, not, ◌&&◌, ◌||◌, Option, Some, None, count_by, refl, sym, ap, subst, ◌∙◌, arith}
use Rattle.std.specs.Prelude.{option_map, if◌then◌else◌}
use Rattle.std.specs.List.{list_all, list_any}
use Rattle.std.specs.Str.{bytes_eq}
use Rattle.gitbase_core.specs.Path.{components, ends_in_slash, is_empty, is_beneath_directory}
use Rattle.worktree_fs.specs.Naming.{IsValidTree}
use Rattle.worktree_fs.specs.Tree.{Names, Node, LookupResult, file, link, directory, other, found, absent, too_many_links}
use Rattle.worktree_fs.proofs.Trees.Subtree.{IsTree-look}
use Rattle.worktree_stack.specs.Reading.{TreeAndObjects}
use Rattle.worktree_stack.specs.Setup.{StackSetup}
use Rattle.dir_classify.specs.declared.classify.Outcome.{Outcome as Class}
use Rattle.dir_classify.specs.declared.entry.Entry.{Entry}
use Rattle.dir_classify.specs.declared.entry.Kind.{Kind}
use Rattle.dir_classify.specs.Chosen.{WalkOptions}
use Rattle.dir_classify.specs.Entries.{entry_with_outcome}
use Rattle.dir_classify.specs.Evidence.{PathEvidence}
use Rattle.dir_classify.specs.Layers.{WalkSetting, evidence_from_setting_and_sources, kind_on_disk_if_asked}
use Rattle.dir_classify.specs.Paths.{root_joined_with_relative}
use Rattle.dir_classify.specs.Way.{EndOfWayToRoot, end_of_way_from_worktree_root}
use Rattle.dir_walk.specs.Collapsed.{all_have_fold_of_their_status, has_fold_of_its_status}
use Rattle.dir_walk.specs.Deleted.{is_unpruned_and_not_precious, any_entry_mixes_precious, mixes_precious_with_others}
use Rattle.dir_walk.specs.Emissions.{Emission, sort_emissions_by_path, is_empty_directory_property, path_of_emission, uncollapsed_emission, is_entry_shown_by_options}
use Rattle.dir_walk.specs.Fold.{is_ignored_precious_entry}
use Rattle.dir_walk.specs.Guarded.{any_entry_hides_tracked_or_repository, is_unpruned_tracked_or_repository}
use Rattle.dir_walk.specs.Report.{emissions_with_handed_up, emissions_shown_by_options}
use Rattle.dir_walk.specs.Root.{TraversalRootResult, Walk, is_worktree_root_non_directory, enters_traversal_root, look_at_traversal_root, missing, walk_result_with_single_entry, outside, rooted, through_link, find_traversal_root, walk_over_sources, walk_from_root_result, walk_result_from_end_of_way}
use Rattle.dir_walk.specs.Safe.{IsSafeToReport}
use Rattle.dir_walk.specs.Walked.{WalkResult, walk_result_of_broken_path, walk_result_of_entered_path, report_of}
use Rattle.dir_walk.proofs.Folding.Accounts.{accounts-shown, report-accounts}
use Rattle.dir_walk.proofs.Places.Beneath.{not_beneath-self}
use Rattle.dir_walk.proofs.Folding.Blocked.{keeps-blocked, report-keeps_blocked}
use Rattle.dir_walk.proofs.Order.Counts.{SameCounts, count_by-cons, count_by-no, list_any-count, one-le}
use Rattle.dir_walk.proofs.Places.DistinctPaths.{distinct-out, distinct-shown, report-once}
use Rattle.dir_walk.proofs.Theorems.Guards.{hides-none, report-hides}
use Rattle.dir_walk.proofs.Theorems.Induct.{NoneEmpty}
use Rattle.dir_walk.proofs.Order.Lists.{same_some}
use Rattle.dir_walk.proofs.Places.Located.{at_or_beneath}
use Rattle.dir_walk.proofs.Theorems.Precious.{keeps-precious, report-keeps_apart}
use Rattle.dir_walk.proofs.Order.Sorting.{count_by-by_path}
use Rattle.dir_walk.proofs.Roots.Ways.{evidence-clear, reached-clear, reached-plain}

-- ---- a directory that is entered, a path that is none, and one entry

safe-report : (o : WalkOptions) (ev : PathEvidence) (d : List ℕ) (c : Class) (names : Names) → NoneEmpty ev → ends_in_slash d ≡ false → is_empty_directory_property c.property ≡ false → IsValidTree (directory names)
    → let w = report_of o ev d c names in IsSafeToReport o ev w (emissions_shown_by_options o (emissions_with_handed_up w))
safe-report o ev d c names clear plain_d own tree =
    let w : WalkResult = report_of o ev d c names in
    let lies : List ℕ → Bool = at_or_beneath d in
    record {
      once = distinct-shown o (emissions_with_handed_up w) (distinct-out lies w (report-once o ev d c names clear plain_d own tree));
      guarded = hides-none o lies w (report-hides o ev d c names clear plain_d own tree);
      accounted = accounts-shown o lies w (report-accounts o ev d c names clear plain_d own tree);
      precious = λ deletes. keeps-precious o lies w (report-keeps_apart o ev deletes d c names clear plain_d own tree);
      blocked = keeps-blocked ev lies w (report-keeps_blocked o ev d c names clear plain_d own tree);
    }

safe-broken : (o : WalkOptions) (ev : PathEvidence) (d : List ℕ) → IsSafeToReport o ev (walk_result_of_broken_path d) (emissions_shown_by_options o (emissions_with_handed_up (walk_result_of_broken_path d)))
safe-broken o ev d = record { once = record { once = λ p. omega arith }; guarded = refl; accounted = refl; precious = λ deletes. refl; blocked = refl }

safe-only : (o : WalkOptions) (ev : PathEvidence) (e : Entry) → IsSafeToReport o ev (walk_result_with_single_entry e) (emissions_shown_by_options o (emissions_with_handed_up (walk_result_with_single_entry e)))
safe-only o ev e =
    record {
      once = distinct-shown o (uncollapsed_emission e ∷ []) (record { once = λ p. omega (arith, count_by-cons (λ x. bytes_eq p (path_of_emission x)) (uncollapsed_emission e) [], one-le (bytes_eq p e.rela_path)) });
      guarded = guard (is_entry_shown_by_options o e);
      accounted = account (is_entry_shown_by_options o e);
      precious = λ deletes. keep (is_entry_shown_by_options o e);
      blocked = refl;
    }
  where
    off : is_beneath_directory e.rela_path e.rela_path ≡ false
    off = not_beneath-self e.rela_path

    guard : (b : Bool) → any_entry_hides_tracked_or_repository (cond b (uncollapsed_emission e ∷ []) []) (e ∷ []) ≡ false
    guard true = ap (λ (c : Bool). ((c && is_unpruned_tracked_or_repository e) || false) || false) off
    guard false = refl

    account : (b : Bool) → all_have_fold_of_their_status [] (cond b (uncollapsed_emission e ∷ []) []) ≡ true
    account true = refl
    account false = refl

    keep : (b : Bool) → any_entry_mixes_precious (cond b (uncollapsed_emission e ∷ []) []) (e ∷ []) ≡ false
    keep true = ap (λ (c : Bool). (((c && is_ignored_precious_entry e) || false) && ((c && is_unpruned_and_not_precious e) || false)) || false) off
    keep false = refl

-- ---- from a traversal root

-- what a path leads to is a tree
abbrev IsLookTree : LookupResult → Type 0
IsLookTree at = (node : Node) → at ≡ found node → IsValidTree node

safe-entered : (o : WalkOptions) (ev : PathEvidence) (d : List ℕ) (c : Class) (at : LookupResult) → NoneEmpty ev → ends_in_slash d ≡ false → is_empty_directory_property c.property ≡ false → IsLookTree at
    → IsSafeToReport o ev (walk_result_of_entered_path o ev d c at) (emissions_shown_by_options o (emissions_with_handed_up (walk_result_of_entered_path o ev d c at)))
safe-entered o ev d c (found (directory names)) clear plain_d own tree = safe-report o ev d c names clear plain_d own (tree (directory names) refl)
safe-entered o ev d c (found (file bytes)) clear plain_d own tree = safe-broken o ev d
safe-entered o ev d c (found (link target)) clear plain_d own tree = safe-broken o ev d
safe-entered o ev d c (found other) clear plain_d own tree = safe-broken o ev d
safe-entered o ev d c absent clear plain_d own tree = safe-broken o ev d
safe-entered o ev d c too_many_links clear plain_d own tree = safe-broken o ev d

pub safe-walked : (o : WalkOptions) (ev : PathEvidence) (r : EndOfWayToRoot) (at : LookupResult) (w : WalkResult) → NoneEmpty ev → ends_in_slash r.path ≡ false → is_empty_directory_property r.class.property ≡ false → IsLookTree at
    → walk_result_from_end_of_way o ev r at ≡ Some w → IsSafeToReport o ev w (emissions_shown_by_options o (emissions_with_handed_up w))
safe-walked o ev r at w clear plain_r own tree e = go (enters_traversal_root o ev r) (is_worktree_root_non_directory r) e
  where
    entered : WalkResult
    entered = walk_result_of_entered_path o ev r.path r.class at

    go : (b k : Bool) → (if b then Some (walk_result_of_entered_path o ev r.path r.class at) else if k then None else Some (walk_result_with_single_entry (entry_with_outcome r.path r.class))) ≡ Some w → IsSafeToReport o ev w (emissions_shown_by_options o (emissions_with_handed_up w))
    go true k f = subst (λ (v : WalkResult). IsSafeToReport o ev v (emissions_shown_by_options o (emissions_with_handed_up v))) (same_some f) (safe-entered o ev r.path r.class at clear plain_r own tree)
    go false true f = absurd (cc f)
    go false false f = subst (λ (v : WalkResult). IsSafeToReport o ev v (emissions_shown_by_options o (emissions_with_handed_up v))) (same_some f) (safe-only o ev (entry_with_outcome r.path r.class))

-- the walk whose traversal root a path is
pub record IsWalkFrom (given : WalkSetting) (ev : PathEvidence) (t : Names) (walk : Walk) : Type 0 where
  pub way : EndOfWayToRoot
  pub way_is : way ≡ end_of_way_from_worktree_root given.options ev (λ p. kind_on_disk_if_asked given t p true) (components walk.root)
  pub walked_is : walk_result_from_end_of_way given.options ev way (look_at_traversal_root given t way.path) ≡ Some walk.gives

walk-from : (given : WalkSetting) (ev : PathEvidence) (t : Names) (root : TraversalRootResult) (walk : Walk) → walk_from_root_result given ev t root ≡ Some walk → IsWalkFrom given ev t walk
walk-from given ev t (outside path) walk e = absurd (cc e)
walk-from given ev t (missing path) walk e = absurd (cc e)
walk-from given ev t (through_link at) walk e = absurd (cc e)
walk-from given ev t (rooted path) walk e = go (walk_result_from_end_of_way given.options ev way (look_at_traversal_root given t way.path)) refl e
  where
    way : EndOfWayToRoot
    way = end_of_way_from_worktree_root given.options ev (λ p. kind_on_disk_if_asked given t p true) (components path)

    go : (found : Option WalkResult) → walk_result_from_end_of_way given.options ev way (look_at_traversal_root given t way.path) ≡ found
        → option_map (λ (w : WalkResult). record { root = path; is_way_unread = way.is_unread; gives = w }) found ≡ Some walk → IsWalkFrom given ev t walk
    go None is f = absurd (cc f)
    go (Some w) is f =
        let walk_is : record { root = path; is_way_unread = way.is_unread; gives = w } ≡ walk = same_some f in
        record {
          way = way;
          way_is = ap (λ (k : Walk). end_of_way_from_worktree_root given.options ev (λ p. kind_on_disk_if_asked given t p true) (components k.root)) walk_is;
          walked_is = is ∙ ap (λ (k : Walk). Some k.gives) walk_is;
        }

pub walk-in : (given : WalkSetting) (made : Option StackSetup) (s : TreeAndObjects) (explicit : Option (List ℕ)) (walk : Walk) → walk_over_sources given made s explicit ≡ Some walk
    → IsWalkFrom given (evidence_from_setting_and_sources given made s) s.tree walk
unfolding walk_over_sources
walk-in given made s explicit walk e = walk-from given (evidence_from_setting_and_sources given made s) s.tree (find_traversal_root given s.tree explicit) walk e

-- A walk of a tree is safe.
pub safe-walk : (given : WalkSetting) (made : Option StackSetup) (s : TreeAndObjects) (explicit : Option (List ℕ)) (walk : Walk) → IsValidTree (directory s.tree) → walk_over_sources given made s explicit ≡ Some walk
    → IsSafeToReport given.options (evidence_from_setting_and_sources given made s) walk.gives (emissions_shown_by_options given.options (emissions_with_handed_up walk.gives))
safe-walk given made s explicit walk tree e =
    let ev : PathEvidence = evidence_from_setting_and_sources given made s in
    let clear : NoneEmpty ev = evidence-clear given made s in
    let from : IsWalkFrom given ev s.tree walk = walk-in given made s explicit walk e in
    let kind_at : List ℕ → Option Kind = λ p. kind_on_disk_if_asked given s.tree p true in
    safe-walked given.options ev from.way (look_at_traversal_root given s.tree from.way.path) walk.gives clear
    (ap (λ (r : EndOfWayToRoot). ends_in_slash r.path) from.way_is ∙ reached-plain given.options ev kind_at walk.root)
    (ap (λ (r : EndOfWayToRoot). is_empty_directory_property r.class.property) from.way_is ∙ reached-clear given.options ev kind_at clear (components walk.root))
    (λ node there. IsTree-look s.tree (root_joined_with_relative given.root from.way.path) (is_empty from.way.path) node tree there)
    from.walked_is

-- ---- in whatever order

any-same : (p : Emission → Bool) (xs ys : List Emission) → SameCounts xs ys → list_any p xs ≡ false → list_any p ys ≡ false
any-same p xs ys same e = list_any-count p ys (omega (arith, same p, none xs e))
  where
    none : (zs : List Emission) → list_any p zs ≡ false → count_by p zs ≡ 0
    none [] e = refl
    none (z ∷ zs) e = go (p z) refl e (none zs)
      where
        go : (b : Bool) → p z ≡ b → (b || list_any p zs) ≡ false → (list_any p zs ≡ false → count_by p zs ≡ 0) → count_by p (z ∷ zs) ≡ 0
        go true is f later = absurd (cc f)
        go false is f later = omega (arith, count_by-no p z zs is, later f)

all-same : (p : Emission → Bool) (xs ys : List Emission) → SameCounts xs ys → list_all p xs ≡ true → list_all p ys ≡ true
all-same p xs ys same e = back ys (any-same (λ x. not (p x)) xs ys same (forth xs e))
  where
    forth : (zs : List Emission) → list_all p zs ≡ true → list_any (λ x. not (p x)) zs ≡ false
    forth [] e = refl
    forth (z ∷ zs) e = go (p z) e (forth zs)
      where
        go : (b : Bool) → (b && list_all p zs) ≡ true → (list_all p zs ≡ true → list_any (λ x. not (p x)) zs ≡ false) → (not b || list_any (λ x. not (p x)) zs) ≡ false
        go true f later = later f
        go false f later = absurd (cc f)

    back : (zs : List Emission) → list_any (λ x. not (p x)) zs ≡ false → list_all p zs ≡ true
    back [] e = refl
    back (z ∷ zs) e = go (p z) e (back zs)
      where
        go : (b : Bool) → (not b || list_any (λ x. not (p x)) zs) ≡ false → (list_any (λ x. not (p x)) zs ≡ false → list_all p zs ≡ true) → (b && list_all p zs) ≡ true
        go true f later = later f
        go false f later = absurd (cc f)

pub safe-same : (o : WalkOptions) (ev : PathEvidence) (w : WalkResult) (xs ys : List Emission) → SameCounts xs ys → IsSafeToReport o ev w xs → IsSafeToReport o ev w ys
safe-same o ev w xs ys same h =
    record {
      once = record { once = λ p. omega (arith, h.once.once p, same (λ x. bytes_eq p (path_of_emission x))) };
      guarded = any-same (λ x. list_any (λ l. is_beneath_directory (path_of_emission x) l.rela_path && is_unpruned_tracked_or_repository l) w.met) xs ys same h.guarded;
      accounted = all-same (λ x. has_fold_of_its_status w.folds x.1 x) xs ys same h.accounted;
      precious = λ deletes. any-same (λ x. mixes_precious_with_others (path_of_emission x) w.met) xs ys same (h.precious deletes);
      blocked = h.blocked;
    }

pub safe-by_path : (o : WalkOptions) (ev : PathEvidence) (w : WalkResult) (xs : List Emission) → IsSafeToReport o ev w xs → IsSafeToReport o ev w (sort_emissions_by_path xs)
safe-by_path o ev w xs h = safe-same o ev w xs (sort_emissions_by_path xs) (λ p. sym (count_by-by_path p xs)) h
