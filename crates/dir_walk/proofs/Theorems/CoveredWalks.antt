-- A walk covers the one of the same tree without folding.
use Rattle.std.proofs.Common.{◌≡◌, ℕ, inl, List, [], ◌∷◌, Bool, true, false, cond, Option, Some, None, refl, sym, ap, subst, ◌∙◌, arith}
use Rattle.std.specs.Prelude.{IsSomeAnd, option_map, if◌then◌else◌}
use Rattle.gitbase_core.specs.Path.{components, ends_in_slash, is_empty}
use Rattle.worktree_fs.specs.Naming.{IsValidTree}
use Rattle.worktree_fs.specs.Tree.{Node, LookupResult, file, link, directory, other, found, absent, too_many_links}
use Rattle.worktree_fs.proofs.Trees.Subtree.{IsTree-look}
use Rattle.worktree_stack.specs.Reading.{TreeAndObjects}
use Rattle.worktree_stack.specs.Setup.{StackSetup}
use Rattle.dir_classify.specs.declared.classify.Outcome.{Outcome as Class}
use Rattle.dir_classify.specs.declared.entry.Entry.{Entry}
use Rattle.dir_classify.specs.declared.entry.Kind.{Kind}
use Rattle.dir_classify.specs.Chosen.{WalkOptions}
use Rattle.dir_classify.specs.Entries.{entry_with_outcome}
use Rattle.dir_classify.specs.Evidence.{PathEvidence}
use Rattle.dir_classify.specs.Layers.{WalkSetting, evidence_from_setting_and_sources, kind_on_disk_if_asked}
use Rattle.dir_classify.specs.Paths.{root_joined_with_relative}
use Rattle.dir_classify.specs.Way.{EndOfWayToRoot, end_of_way_from_worktree_root}
use Rattle.dir_walk.specs.Covered.{CoversUnfoldedReport, StandsBesideNoneAbove, options_without_folding, is_uncollapsed_above_path, setting_without_folding}
use Rattle.dir_walk.specs.Emissions.{is_empty_directory_property, uncollapsed_emission, is_entry_shown_by_options}
use Rattle.dir_walk.specs.Report.{emissions_with_handed_up, emissions_shown_by_options}
use Rattle.dir_walk.specs.Root.{TraversalRootResult, Walk, is_worktree_root_non_directory, enters_traversal_root, look_at_traversal_root, missing, walk_result_with_single_entry, outside, rooted, through_link, find_traversal_root, walk_from_end_of_way, walk_over_sources, walk_from_root_result, walk_result_from_end_of_way}
use Rattle.dir_walk.specs.Walked.{WalkResult, walk_result_of_entered_path}
use Rattle.dir_walk.proofs.Places.Beneath.{not_beneath-self}
use Rattle.dir_walk.proofs.Order.Counts.{count_by-cons}
use Rattle.dir_walk.proofs.Theorems.Coverage.{covers-report}
use Rattle.dir_walk.proofs.Theorems.Induct.{NoneEmpty}
use Rattle.dir_walk.proofs.Order.Lists.{same_some}
use Rattle.dir_walk.proofs.Theorems.Matching.{shows-same}
use Rattle.dir_walk.proofs.Theorems.Safety.{IsWalkFrom, walk-in}
use Rattle.dir_walk.proofs.Roots.Ways.{evidence-clear, reached-clear, reached-plain, reached-same}

covers-only : (o : WalkOptions) (e : Entry) → CoversUnfoldedReport [] (emissions_shown_by_options o (uncollapsed_emission e ∷ [])) (emissions_shown_by_options (options_without_folding o) (uncollapsed_emission e ∷ []))
covers-only o e = go (is_entry_shown_by_options (options_without_folding o) e) (is_entry_shown_by_options o e) (shows-same o e)
  where
    alone : StandsBesideNoneAbove (uncollapsed_emission e ∷ []) e
    alone = record {
      stands = inl refl;
      none_over = omega (arith, count_by-cons (is_uncollapsed_above_path e.rela_path) (uncollapsed_emission e) [], ap {B = ℕ} (λ (b : Bool). cond b 1 0) (not_beneath-self e.rela_path));
    }

    go : (a b : Bool) → a ≡ b → CoversUnfoldedReport [] (cond b (uncollapsed_emission e ∷ []) []) (cond a (uncollapsed_emission e ∷ []) [])
    go true true same = (λ n. inl alone, tt)
    go true false same = absurd (cc same)
    go false b same = tt

covers-entered : (o : WalkOptions) (ev : PathEvidence) (d : List ℕ) (c : Class) (at : LookupResult) → NoneEmpty ev → ends_in_slash d ≡ false → is_empty_directory_property c.property ≡ false → ((node : Node) → at ≡ found node → IsValidTree node)
    → let w = walk_result_of_entered_path o ev d c at in CoversUnfoldedReport w.folds (emissions_shown_by_options o (emissions_with_handed_up w)) (emissions_shown_by_options (options_without_folding o) (emissions_with_handed_up (walk_result_of_entered_path (options_without_folding o) ev d c at)))
covers-entered o ev d c (found (directory names)) clear plain_d own tree = covers-report o ev d c names clear plain_d own (tree (directory names) refl)
covers-entered o ev d c (found (file bytes)) clear plain_d own tree = tt
covers-entered o ev d c (found (link target)) clear plain_d own tree = tt
covers-entered o ev d c (found other) clear plain_d own tree = tt
covers-entered o ev d c absent clear plain_d own tree = tt
covers-entered o ev d c too_many_links clear plain_d own tree = tt

covers-walked : (o : WalkOptions) (ev : PathEvidence) (r : EndOfWayToRoot) (at : LookupResult) (w v : WalkResult) → NoneEmpty ev → ends_in_slash r.path ≡ false → is_empty_directory_property r.class.property ≡ false
    → ((node : Node) → at ≡ found node → IsValidTree node) → walk_result_from_end_of_way o ev r at ≡ Some w → walk_result_from_end_of_way (options_without_folding o) ev r at ≡ Some v
    → CoversUnfoldedReport w.folds (emissions_shown_by_options o (emissions_with_handed_up w)) (emissions_shown_by_options (options_without_folding o) (emissions_with_handed_up v))
covers-walked o ev r at w v clear plain_r own tree e f = go (enters_traversal_root o ev r) (is_worktree_root_non_directory r) e f
  where
    both : (a b : WalkResult) → CoversUnfoldedReport a.folds (emissions_shown_by_options o (emissions_with_handed_up a)) (emissions_shown_by_options (options_without_folding o) (emissions_with_handed_up b)) → a ≡ w → b ≡ v → CoversUnfoldedReport w.folds (emissions_shown_by_options o (emissions_with_handed_up w)) (emissions_shown_by_options (options_without_folding o) (emissions_with_handed_up v))
    both a b h p q =
        subst (λ (x : WalkResult). CoversUnfoldedReport w.folds (emissions_shown_by_options o (emissions_with_handed_up w)) (emissions_shown_by_options (options_without_folding o) (emissions_with_handed_up x))) q
        (subst (λ (x : WalkResult). CoversUnfoldedReport x.folds (emissions_shown_by_options o (emissions_with_handed_up x)) (emissions_shown_by_options (options_without_folding o) (emissions_with_handed_up b))) p h)

    go : (b k : Bool) → (if b then Some (walk_result_of_entered_path o ev r.path r.class at) else if k then None else Some (walk_result_with_single_entry (entry_with_outcome r.path r.class))) ≡ Some w
        → (if b then Some (walk_result_of_entered_path (options_without_folding o) ev r.path r.class at) else if k then None else Some (walk_result_with_single_entry (entry_with_outcome r.path r.class))) ≡ Some v
        → CoversUnfoldedReport w.folds (emissions_shown_by_options o (emissions_with_handed_up w)) (emissions_shown_by_options (options_without_folding o) (emissions_with_handed_up v))
    go true k p q =
        both (walk_result_of_entered_path o ev r.path r.class at) (walk_result_of_entered_path (options_without_folding o) ev r.path r.class at) (covers-entered o ev r.path r.class at clear plain_r own tree) (same_some p) (same_some q)
    go false true p q = absurd (cc p)
    go false false p q = both (walk_result_with_single_entry (entry_with_outcome r.path r.class)) (walk_result_with_single_entry (entry_with_outcome r.path r.class)) (covers-only o (entry_with_outcome r.path r.class)) (same_some p) (same_some q)

-- both walks are of one root
roots-same : (given : WalkSetting) (made : Option StackSetup) (s : TreeAndObjects) (explicit : Option (List ℕ)) (w v : Walk) → walk_over_sources given made s explicit ≡ Some w → walk_over_sources (setting_without_folding given) made s explicit ≡ Some v → v.root ≡ w.root
unfolding walk_over_sources find_traversal_root evidence_from_setting_and_sources
roots-same given made s explicit w v e f = go (find_traversal_root given s.tree explicit) e f
  where
    from : (given : WalkSetting) (ev : PathEvidence) (root : List ℕ) (k : Walk) → walk_from_root_result given ev s.tree (rooted root) ≡ Some k → root ≡ k.root
    from given ev root k h = by (walk_result_from_end_of_way given.options ev way (look_at_traversal_root given s.tree way.path)) h
      where
        way : EndOfWayToRoot
        way = end_of_way_from_worktree_root given.options ev (λ p. kind_on_disk_if_asked given s.tree p true) (components root)

        by : (o : Option WalkResult) → option_map (λ (x : WalkResult). record { root = root; is_way_unread = way.is_unread; gives = x }) o ≡ Some k → root ≡ k.root
        by None g = absurd (cc g)
        by (Some x) g = ap (λ (y : Walk). y.root) (same_some g)

    go : (root : TraversalRootResult) → walk_from_root_result given (evidence_from_setting_and_sources given made s) s.tree root ≡ Some w → walk_from_root_result (setting_without_folding given) (evidence_from_setting_and_sources (setting_without_folding given) made s) s.tree root ≡ Some v → v.root ≡ w.root
    go (outside path) p q = absurd (cc p)
    go (missing path) p q = absurd (cc p)
    go (through_link at) p q = absurd (cc p)
    go (rooted path) p q = sym (from (setting_without_folding given) (evidence_from_setting_and_sources (setting_without_folding given) made s) path v q) ∙ from given (evidence_from_setting_and_sources given made s) path w p

-- A walk of a tree covers the one without folding.
pub covers-walk : (given : WalkSetting) (made : Option StackSetup) (s : TreeAndObjects) (explicit : Option (List ℕ)) (w v : Walk) → IsValidTree (directory s.tree) → walk_over_sources given made s explicit ≡ Some w
    → walk_over_sources (setting_without_folding given) made s explicit ≡ Some v → CoversUnfoldedReport w.gives.folds (emissions_shown_by_options given.options (emissions_with_handed_up w.gives)) (emissions_shown_by_options (options_without_folding given.options) (emissions_with_handed_up v.gives))
unfolding evidence_from_setting_and_sources
covers-walk given made s explicit w v tree e f =
    let ev : PathEvidence = evidence_from_setting_and_sources given made s in
    let o : WalkOptions = given.options in
    let clear : NoneEmpty ev = evidence-clear given made s in
    let kind_at : List ℕ → Option Kind = λ p. kind_on_disk_if_asked given s.tree p true in
    let one : IsWalkFrom given ev s.tree w = walk-in given made s explicit w e in
    let two : IsWalkFrom (setting_without_folding given) (evidence_from_setting_and_sources (setting_without_folding given) made s) s.tree v = walk-in (setting_without_folding given) made s explicit v f in
    let same : two.way ≡ one.way =
    two.way_is ∙ reached-same o ev kind_at (components v.root) ∙ ap (λ (root : List ℕ). end_of_way_from_worktree_root o ev kind_at (components root)) (roots-same given made s explicit w v e f) ∙ sym one.way_is in
    covers-walked o ev one.way (look_at_traversal_root given s.tree one.way.path) w.gives v.gives clear
    (ap (λ (r : EndOfWayToRoot). ends_in_slash r.path) one.way_is ∙ reached-plain o ev kind_at w.root)
    (ap (λ (r : EndOfWayToRoot). is_empty_directory_property r.class.property) one.way_is ∙ reached-clear o ev kind_at clear (components w.root))
    (λ node there. IsTree-look s.tree (root_joined_with_relative given.root one.way.path) (is_empty one.way.path) node tree there)
    one.walked_is
    (ap (λ (r : EndOfWayToRoot). walk_result_from_end_of_way (options_without_folding o) ev r (look_at_traversal_root given s.tree r.path)) (sym same) ∙ two.walked_is)

-- ---- and there is one

walked-too : (o : WalkOptions) (ev : PathEvidence) (r : EndOfWayToRoot) (at : LookupResult) (w : WalkResult) → walk_result_from_end_of_way o ev r at ≡ Some w → (v : WalkResult) × (walk_result_from_end_of_way (options_without_folding o) ev r at ≡ Some v)
walked-too o ev r at w e = go (enters_traversal_root o ev r) (is_worktree_root_non_directory r) e
  where
    go : (b k : Bool) → (if b then Some (walk_result_of_entered_path o ev r.path r.class at) else if k then None else Some (walk_result_with_single_entry (entry_with_outcome r.path r.class))) ≡ Some w
        → (v : WalkResult) × ((if b then Some (walk_result_of_entered_path (options_without_folding o) ev r.path r.class at) else if k then None else Some (walk_result_with_single_entry (entry_with_outcome r.path r.class))) ≡ Some v)
    go true k p = (walk_result_of_entered_path (options_without_folding o) ev r.path r.class at, refl)
    go false true p = absurd (cc p)
    go false false p = (walk_result_with_single_entry (entry_with_outcome r.path r.class), refl)

-- a tree that is walked is walked without folding too
pub unfolded-walk : (given : WalkSetting) (made : Option StackSetup) (s : TreeAndObjects) (explicit : Option (List ℕ)) (w : Walk) → walk_over_sources given made s explicit ≡ Some w → (v : Walk) × (walk_over_sources (setting_without_folding given) made s explicit ≡ Some v)
unfolding walk_over_sources find_traversal_root evidence_from_setting_and_sources
unfolded-walk given made s explicit w e = go (find_traversal_root given s.tree explicit) e
  where
    ev : PathEvidence
    ev = evidence_from_setting_and_sources given made s

    from : (path : List ℕ) (r : EndOfWayToRoot) → walk_from_end_of_way given ev s.tree path r ≡ Some w → (v : Walk) × (walk_from_end_of_way (setting_without_folding given) ev s.tree path r ≡ Some v)
    from path r p = by (walk_result_from_end_of_way given.options ev r (look_at_traversal_root given s.tree r.path)) refl p
      where
        by : (o : Option WalkResult) → walk_result_from_end_of_way given.options ev r (look_at_traversal_root given s.tree r.path) ≡ o → option_map (λ (x : WalkResult). record { root = path; is_way_unread = r.is_unread; gives = x }) o ≡ Some w
            → (v : Walk) × (walk_from_end_of_way (setting_without_folding given) ev s.tree path r ≡ Some v)
        by None is g = absurd (cc g)
        by (Some x) is g =
            let too = walked-too given.options ev r (look_at_traversal_root given s.tree r.path) x is in (
              record { root = path; is_way_unread = r.is_unread; gives = too.0 },
              ap (option_map (λ (y : WalkResult). record { root = path; is_way_unread = r.is_unread; gives = y })) too.1,
            )

    go : (root : TraversalRootResult) → walk_from_root_result given ev s.tree root ≡ Some w → (v : Walk) × (walk_from_root_result (setting_without_folding given) ev s.tree root ≡ Some v)
    go (outside path) p = absurd (cc p)
    go (missing path) p = absurd (cc p)
    go (through_link at) p = absurd (cc p)
    go (rooted path) p =
        subst (λ (r : EndOfWayToRoot). (v : Walk) × (walk_from_end_of_way (setting_without_folding given) ev s.tree path r ≡ Some v))
        (sym (reached-same given.options ev (λ q. kind_on_disk_if_asked given s.tree q true) (components path)))
        (from path (end_of_way_from_worktree_root given.options ev (λ q. kind_on_disk_if_asked given s.tree q true) (components path)) p)

-- so it covers what that one shows
pub covers-unfolded : (given : WalkSetting) (made : Option StackSetup) (s : TreeAndObjects) (explicit : Option (List ℕ)) (w : Walk) → IsValidTree (directory s.tree) → walk_over_sources given made s explicit ≡ Some w
    → IsSomeAnd (walk_over_sources (setting_without_folding given) made s explicit) (λ unfolded. CoversUnfoldedReport w.gives.folds (emissions_shown_by_options given.options (emissions_with_handed_up w.gives)) (emissions_shown_by_options (options_without_folding given.options) (emissions_with_handed_up unfolded.gives)))
covers-unfolded given made s explicit w tree e =
    let too = unfolded-walk given made s explicit w e in
    subst (λ (o : Option Walk). IsSomeAnd o (λ unfolded. CoversUnfoldedReport w.gives.folds (emissions_shown_by_options given.options (emissions_with_handed_up w.gives)) (emissions_shown_by_options (options_without_folding given.options) (emissions_with_handed_up unfolded.gives)))) (sym too.1)
    (covers-walk given made s explicit w too.0 tree e too.1)
