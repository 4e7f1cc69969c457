-- In deletion no precious leaf lies beneath an entry among others.
use Rattle.std.proofs.Common.{◌≡◌, ℕ, ◌+◌, ◌≤◌, ◌⊎◌, inl, inr, List, [], ◌∷◌, ◌++◌, Bool, true, false, cond, not, eqb-true, ◌||◌, ◌&&◌, Option, Some, None, count_by, map, filter, refl, sym, ap, subst, ◌∙◌, arith}
use Rattle.std.specs.Prelude.{is_none}
use Rattle.std.specs.List.{AllByRecursion, list_any}
use Rattle.gitbase_core.specs.Path.{ends_in_slash, is_beneath_directory}
use Rattle.glob_rules.specs.declared.ignore.Kind.TheVariants.{Expendable, Precious}
use Rattle.worktree_fs.specs.Naming.{IsValidTree}
use Rattle.worktree_fs.specs.Tree.{Names, directory}
use Rattle.dir_classify.specs.declared.classify.Outcome.{Outcome as Class}
use Rattle.dir_classify.specs.declared.entry.Entry.{Entry}
use Rattle.dir_classify.specs.declared.entry.Status.{Status}
use Rattle.dir_classify.specs.declared.entry.Status.TheVariants.{Pruned, Tracked, Ignored, Untracked}
use Rattle.dir_classify.specs.Chosen.{WalkOptions, is_collapsing_mode, collapses_directories_if_some, folds_untracked_or_ignored}
use Rattle.dir_classify.specs.Enters.{is_pruned_status}
use Rattle.dir_classify.specs.Evidence.{PathEvidence}
use Rattle.dir_walk.specs.declared.tally.Tally.{Tally}
use Rattle.dir_walk.specs.Deleted.{is_unpruned_and_not_precious, any_entry_mixes_precious, mixes_precious_with_others}
use Rattle.dir_walk.specs.Emissions.{Emission, is_empty_directory_property, path_of_emission, uncollapsed_emission, is_entry_shown_by_options, collapsed_emission}
use Rattle.dir_walk.specs.Fold.{all_counted_untracked_or_ignored, is_nonzero, fold, status_of_folded_directory, may_fold_as_expendable, may_fold_as_precious, may_fold_as_untracked, is_ignored_expendable_entry, is_expendable_status, is_ignored_precious_entry, is_precious_status, may_delete_all_at_once, emits_besides_folded_directory, tally_held_entries}
use Rattle.dir_walk.specs.Report.{emissions_with_handed_up, emissions_shown_by_options}
use Rattle.dir_walk.specs.Walked.{WalkResult, merge_walk_results, walk_result_of_closed_directory, walk_result_of_empty_directory, entry_of_empty_directory, walk_result_folded_if_some, walk_result_of_folded_directory, walk_result_handing_up_leaf, holds_status_for_folding, walk_result_of_leaf_entry, walk_result_emitting_leaf, report_of, walk_result_of_unfolded_directory}
use Rattle.dir_walk.proofs.Places.Beneath.{not_beneath, not_beneath-self}
use Rattle.dir_walk.proofs.Folding.Closing.{leaf-gives}
use Rattle.dir_walk.proofs.Order.Counts.{count_by-append, count_by-cons, count-none, list_any-count, list_any-none}
use Rattle.dir_walk.proofs.Theorems.Guards.{AllLoose, not_some, status-loose}
use Rattle.dir_walk.proofs.Theorems.Induct.{Cases, NoneEmpty, at_report}
use Rattle.dir_walk.proofs.Order.Lists.{all_append, all_filter, all_join, all_map, all_weaker, and_left, and_right, neither}
use Rattle.dir_walk.proofs.Places.Located.{Apart, IsFold, LieIn, at_or_beneath, fold-is}

-- ---- what is folded is precious as a whole or not at all

one_kind : (s : Status) → cond {A = ℕ} (is_precious_status s) 1 0 + cond (not (is_pruned_status s) && not (is_precious_status s)) 1 0 ≤ 1
one_kind Pruned = omega arith
one_kind Tracked = omega arith
one_kind Untracked = omega arith
one_kind (Ignored Expendable) = omega arith
one_kind (Ignored Precious) = omega arith

kinds-le : (held : List Entry) → count_by is_ignored_precious_entry held + count_by is_unpruned_and_not_precious held ≤ count_by (λ e. true) held
kinds-le [] = omega arith
kinds-le (e ∷ held) = omega (arith, count_by-cons is_ignored_precious_entry e held, count_by-cons is_unpruned_and_not_precious e held, count_by-cons (λ _. true) e held, kinds-le held, one_kind e.status)

one_ignored : (s : Status) → cond {A = ℕ} (is_precious_status s) 1 0 + cond (is_expendable_status s) 1 0 ≤ 1
one_ignored Pruned = omega arith
one_ignored Tracked = omega arith
one_ignored Untracked = omega arith
one_ignored (Ignored Expendable) = omega arith
one_ignored (Ignored Precious) = omega arith

ignored-le : (held : List Entry) → count_by is_ignored_precious_entry held + count_by is_ignored_expendable_entry held ≤ count_by (λ e. true) held
ignored-le [] = omega arith
ignored-le (e ∷ held) = omega (arith, count_by-cons is_ignored_precious_entry e held, count_by-cons is_ignored_expendable_entry e held, count_by-cons (λ _. true) e held, ignored-le held, one_ignored e.status)

-- nothing precious is held and the status is another, or nothing else is held and the status is that
abbrev AreOfKind : List Entry → Status → Type 0
AreOfKind held s =
    ((count_by is_ignored_precious_entry held ≡ 0) × ((not (is_pruned_status s) && not (is_precious_status s)) ≡ true))
    ⊎ ((count_by is_unpruned_and_not_precious held ≡ 0) × (is_precious_status s ≡ true))

or_then : (a b : Bool) → a ≡ false → (a || b) ≡ true → b ≡ true
or_then true b e f = absurd (cc e)
or_then false b e f = f

status-kind : (o : WalkOptions) (held : List Entry) (s : Status) → is_none o.for_deletion ≡ false → status_of_folded_directory o (tally_held_entries held) ≡ Some s → AreOfKind held s
status-kind o held s deletes e = go (may_fold_as_untracked o n) (may_fold_as_expendable o n) (may_fold_as_precious o n) refl refl refl e
  where
    n : Tally
    n = tally_held_entries held

    ignored : Bool
    ignored = collapses_directories_if_some o.emit_ignored

    same : {s t : Status} → Some s ≡ Some t → s ≡ t
    same e = cc

    go : (a b k : Bool) → may_fold_as_untracked o n ≡ a → may_fold_as_expendable o n ≡ b → may_fold_as_precious o n ≡ k
        → cond a (Some Untracked) (cond b (Some (Ignored Expendable)) (cond k (Some (Ignored Precious)) None)) ≡ Some s → AreOfKind held s
    go true b k p q r e =
        let last : may_delete_all_at_once o n ≡ true = and_right (is_collapsing_mode o.emit_untracked && is_nonzero n.untracked && all_counted_untracked_or_ignored n) (may_delete_all_at_once o n) p in
        let none : n.precious ≡ 0 = not_some n.precious (and_left (not (is_nonzero n.precious)) _ (or_then (is_none o.for_deletion) _ deletes last)) in
        subst (AreOfKind held) (same e) (inl (none, refl))
    go false true k p q r e =
        let all : n.expendable ≡ n.all = eqb-true n.expendable n.all (and_right (ignored && is_nonzero n.expendable) _ q) in
        subst (AreOfKind held) (same e) (inl (omega (arith, ignored-le held, all), refl))
    go false false true p q r e =
        let all : n.precious ≡ n.all = eqb-true n.precious n.all (and_right (ignored && is_nonzero n.precious) _ r) in
        subst (AreOfKind held) (same e) (inr (omega (arith, kinds-le held, all), refl))
    go false false false p q r e = absurd (cc e)

-- ---- leaves beneath a path

abbrev beneath_by : (Entry → Bool) → List ℕ → Entry → Bool
beneath_by q p l = is_beneath_directory p l.rela_path && q l

-- of the leaves beneath a path that are not pruned, none is precious or all are
abbrev Unmixed : List ℕ → List Entry → Type 0
Unmixed p met = (count_by (beneath_by is_ignored_precious_entry p) met ≡ 0) ⊎ (count_by (beneath_by is_unpruned_and_not_precious p) met ≡ 0)

none_of : (q : Entry → Bool) (p : List ℕ) (met : List Entry) → AllByRecursion (λ (l : Entry). is_beneath_directory p l.rela_path ≡ false) met → count_by (beneath_by q p) met ≡ 0
none_of q p met far =
    count-none (beneath_by q p) met
    (all_weaker (λ (l : Entry). is_beneath_directory p l.rela_path ≡ false) (λ (l : Entry). beneath_by q p l ≡ false) met (λ l h. ap (λ (b : Bool). b && q l) h) far)

few_of : (q : Entry → Bool) (p : List ℕ) (met : List Entry) → count_by (beneath_by q p) met ≤ count_by q met
few_of q p [] = omega arith
few_of q p (l ∷ met) = omega (arith, count_by-cons (beneath_by q p) l met, count_by-cons q l met, few_of q p met, go (is_beneath_directory p l.rela_path) (q l))
  where
    go : (a b : Bool) → cond {A = ℕ} (a && b) 1 0 ≤ cond b 1 0
    go true b = omega arith
    go false b = omega arith

unmixed-append : (p : List ℕ) (a b : List Entry) → AllByRecursion (λ (l : Entry). is_beneath_directory p l.rela_path ≡ false) b → Unmixed p a → Unmixed p (a ++ b)
unmixed-append p a b far (inl h) = inl (omega (arith, h, none_of is_ignored_precious_entry p b far, count_by-append (beneath_by is_ignored_precious_entry p) a b))
unmixed-append p a b far (inr h) = inr (omega (arith, h, none_of is_unpruned_and_not_precious p b far, count_by-append (beneath_by is_unpruned_and_not_precious p) a b))

unmixed-prepend : (p : List ℕ) (a b : List Entry) → AllByRecursion (λ (l : Entry). is_beneath_directory p l.rela_path ≡ false) a → Unmixed p b → Unmixed p (a ++ b)
unmixed-prepend p a b far (inl h) = inl (omega (arith, h, none_of is_ignored_precious_entry p a far, count_by-append (beneath_by is_ignored_precious_entry p) a b))
unmixed-prepend p a b far (inr h) = inr (omega (arith, h, none_of is_unpruned_and_not_precious p a far, count_by-append (beneath_by is_unpruned_and_not_precious p) a b))

unmixed-alone : (e : Entry) → Unmixed e.rela_path (e ∷ [])
unmixed-alone e = inl (none_of is_ignored_precious_entry e.rela_path (e ∷ []) (not_beneath-self e.rela_path, tt))

-- ---- the claim

-- Beneath each entry the leaves are unmixed; and where the directory above may fold, it is seen from what is handed up that
-- none of the leaves is precious, or ordinary.
pub record KeepsApart (o : WalkOptions) (lies : List ℕ → Bool) (w : WalkResult) : Type 0 where
  pub out : AllByRecursion (λ (x : Emission). Unmixed (path_of_emission x) w.met) w.out
  pub up : AllByRecursion (λ (e : Entry). Unmixed e.rela_path w.met) w.up
  pub precious : folds_untracked_or_ignored o ≡ true → w.blocks ≡ false → count_by is_ignored_precious_entry w.up ≡ 0 → count_by is_ignored_precious_entry w.met ≡ 0
  pub ordinary : folds_untracked_or_ignored o ≡ true → w.blocks ≡ false → count_by is_unpruned_and_not_precious w.up ≡ 0 → count_by is_unpruned_and_not_precious w.met ≡ 0

module _ (o : WalkOptions) (ev : PathEvidence) where
  leaf-apart : (lies : List ℕ → Bool) (e : Entry) → KeepsApart o lies (walk_result_of_leaf_entry o e)
  unfolding walk_result_of_leaf_entry
  leaf-apart lies e = go (holds_status_for_folding o e.status) refl
    where
      pruned : (s : Status) (f : Bool) → (not (is_pruned_status s) && f) ≡ false → f ≡ true
          → (cond {A = ℕ} (is_precious_status s) 1 0 ≡ 0) × (cond {A = ℕ} (not (is_pruned_status s) && not (is_precious_status s)) 1 0 ≡ 0)
      pruned Pruned f h g = (refl, refl)
      pruned Tracked f h g = absurd (let no : false ≡ true = sym h ∙ g in cc no)
      pruned Untracked f h g = absurd (let no : false ≡ true = sym h ∙ g in cc no)
      pruned (Ignored k) f h g = absurd (let no : false ≡ true = sym h ∙ g in cc no)

      go : (b : Bool) → holds_status_for_folding o e.status ≡ b → KeepsApart o lies (cond b (walk_result_handing_up_leaf e) (walk_result_emitting_leaf e))
      go true h = record { out = tt; up = (unmixed-alone e, tt); precious = λ f b z. z; ordinary = λ f b z. z }
      go false h =
          record {
            out = (unmixed-alone e, tt);
            up = tt;
            precious = λ f b z. omega (arith, count_by-cons is_ignored_precious_entry e [], (pruned e.status (folds_untracked_or_ignored o) h f).0);
            ordinary = λ f b z. omega (arith, count_by-cons is_unpruned_and_not_precious e [], (pruned e.status (folds_untracked_or_ignored o) h f).1);
          }

  empty-apart : (lies : List ℕ → Bool) (d : List ℕ) (c : Class) → KeepsApart o lies (walk_result_of_empty_directory o ev d c)
  unfolding walk_result_of_empty_directory
  empty-apart lies d c =
      let e : Entry = entry_of_empty_directory ev d c in
      let h : KeepsApart o lies (walk_result_of_leaf_entry o e) = leaf-apart lies e in
      record { out = h.out; up = h.up; precious = λ f b z. h.precious f (leaf-gives o e).blocks z; ordinary = λ f b z. h.ordinary f (leaf-gives o e).blocks z }

  module _ (here there lies : List ℕ → Bool) (a b : WalkResult) (apart : Apart here there lies) (at : LieIn here a) (bt : LieIn there b) (left : KeepsApart o here a) (right : KeepsApart o there b) where
    met : List Entry
    met = a.met ++ b.met

    with_there : (x : List ℕ) → here x ≡ true → Unmixed x a.met → Unmixed x (a.met ++ b.met)
    with_there x is =
        unmixed-append x a.met b.met
        (all_weaker (λ (l : Entry). there l.rela_path ≡ true) (λ (l : Entry). is_beneath_directory x l.rela_path ≡ false) b.met (λ l h. not_beneath x l.rela_path (apart.one x l.rela_path is h)) bt.met)

    with_here : (x : List ℕ) → there x ≡ true → Unmixed x b.met → Unmixed x (a.met ++ b.met)
    with_here x is =
        unmixed-prepend x a.met b.met
        (all_weaker (λ (l : Entry). here l.rela_path ≡ true) (λ (l : Entry). is_beneath_directory x l.rela_path ≡ false) a.met (λ l h. not_beneath x l.rela_path (apart.other x l.rela_path is h)) at.met)

    both-apart : KeepsApart o lies (merge_walk_results a b)
    unfolding met
    both-apart =
        record {
          out = all_append (λ (x : Emission). Unmixed (path_of_emission x) met) a.out b.out
              (all_join (λ (x : Emission). here (path_of_emission x) ≡ true) (λ (x : Emission). Unmixed (path_of_emission x) a.met) (λ (x : Emission). Unmixed (path_of_emission x) met) a.out (λ x is h. with_there (path_of_emission x) is h) at.out left.out)
              (all_join (λ (x : Emission). there (path_of_emission x) ≡ true) (λ (x : Emission). Unmixed (path_of_emission x) b.met) (λ (x : Emission). Unmixed (path_of_emission x) met) b.out (λ x is h. with_here (path_of_emission x) is h) bt.out right.out);
          up = all_append (λ (e : Entry). Unmixed e.rela_path met) a.up b.up
              (all_join (λ (e : Entry). here e.rela_path ≡ true) (λ (e : Entry). Unmixed e.rela_path a.met) (λ (e : Entry). Unmixed e.rela_path met) a.up (λ e is h. with_there e.rela_path is h) at.up left.up)
              (all_join (λ (e : Entry). there e.rela_path ≡ true) (λ (e : Entry). Unmixed e.rela_path b.met) (λ (e : Entry). Unmixed e.rela_path met) b.up (λ e is h. with_here e.rela_path is h) bt.up right.up);
          precious = λ f e z.
              let each = neither a.blocks b.blocks e in
              let none = count_by-append is_ignored_precious_entry a.up b.up in
              omega (arith, left.precious f each.0 (omega (arith, z, none)), right.precious f each.1 (omega (arith, z, none)), count_by-append is_ignored_precious_entry a.met b.met);
          ordinary = λ f e z.
              let each = neither a.blocks b.blocks e in
              let none = count_by-append is_unpruned_and_not_precious a.up b.up in
              omega (arith, left.ordinary f each.0 (omega (arith, z, none)), right.ordinary f each.1 (omega (arith, z, none)), count_by-append is_unpruned_and_not_precious a.met b.met);
        }

  module _ (deletes : is_none o.for_deletion ≡ false) (below : List ℕ → Bool) (d : List ℕ) (c : Class) (w : WalkResult) (h : KeepsApart o below w) where
    unfolded-apart : KeepsApart o (at_or_beneath d) (walk_result_of_unfolded_directory d w)
    unfolded-apart =
        record {
          out = all_append (λ (x : Emission). Unmixed (path_of_emission x) w.met) w.out (map uncollapsed_emission w.up) h.out (all_map (λ (x : Emission). Unmixed (path_of_emission x) w.met) uncollapsed_emission w.up h.up);
          up = tt;
          precious = λ f b. absurd (cc b);
          ordinary = λ f b. absurd (cc b);
        }

    folded-apart : (f : Entry) → folds_untracked_or_ignored o ≡ true → AreOfKind w.up f.status → w.blocks ≡ false → KeepsApart o (at_or_beneath d) (walk_result_of_folded_directory o d w f)
    folded-apart f folding kind free = go kind
      where
        q : Entry → Bool
        q = emits_besides_folded_directory o.emit_collapsed f.status

        all_out : AllByRecursion (λ (x : Emission). Unmixed (path_of_emission x) w.met) (w.out ++ map (collapsed_emission f.status) (filter q w.up))
        all_out =
            all_append (λ (x : Emission). Unmixed (path_of_emission x) w.met) w.out (map (collapsed_emission f.status) (filter q w.up)) h.out
            (all_map (λ (x : Emission). Unmixed (path_of_emission x) w.met) (collapsed_emission f.status) (filter q w.up) (all_filter (λ (e : Entry). Unmixed e.rela_path w.met) q w.up h.up))

        go : AreOfKind w.up f.status → KeepsApart o (at_or_beneath d) (walk_result_of_folded_directory o d w f)
        go (inl k) =
            let quiet : count_by is_ignored_precious_entry w.met ≡ 0 = h.precious folding free k.0 in
            record {
              out = all_out;
              up = (inl (omega (arith, few_of is_ignored_precious_entry f.rela_path w.met, quiet)), tt);
              precious = λ _ _ z. quiet;
              ordinary = λ _ _ z. absurd (omega (arith, z, count_by-cons is_unpruned_and_not_precious f [], ap {B = ℕ} (λ (b : Bool). cond b 1 0) k.1));
            }
        go (inr k) =
            let quiet : count_by is_unpruned_and_not_precious w.met ≡ 0 = h.ordinary folding free k.0 in
            record {
              out = all_out;
              up = (inr (omega (arith, few_of is_unpruned_and_not_precious f.rela_path w.met, quiet)), tt);
              precious = λ _ _ z. absurd (omega (arith, z, count_by-cons is_ignored_precious_entry f [], ap {B = ℕ} (λ (b : Bool). cond b 1 0) k.1));
              ordinary = λ _ _ z. quiet;
            }

    closed-apart : KeepsApart o (at_or_beneath d) (walk_result_of_closed_directory o ev d c w)
    unfolding walk_result_of_closed_directory
    closed-apart = go w.blocks (fold o ev d c (tally_held_entries w.up)) refl refl
      where
        go : (b : Bool) (f : Option Entry) → w.blocks ≡ b → fold o ev d c (tally_held_entries w.up) ≡ f → KeepsApart o (at_or_beneath d) (cond b (walk_result_of_unfolded_directory d w) (walk_result_folded_if_some o d w f))
        go true f p q = unfolded-apart
        go false None p q = unfolded-apart
        go false (Some f) p q =
            let is : IsFold o ev d c (tally_held_entries w.up) f = fold-is o ev d c (tally_held_entries w.up) f q in
            let loose : AllLoose o (tally_held_entries w.up) = status-loose o (tally_held_entries w.up) f.status is.status_is in
            folded-apart f loose.folding (status-kind o w.up f.status deletes is.status_is) p

  apart : is_none o.for_deletion ≡ false → Cases o ev (KeepsApart o)
  apart deletes =
      record {
        at_nothing = λ lies. record { out = tt; up = tt; precious = λ f b z. refl; ordinary = λ f b z. refl };
        at_broken = λ lies path is. record { out = tt; up = tt; precious = λ f b z. refl; ordinary = λ f b z. refl };
        at_asking = λ lies b path w is h. record { out = h.out; up = h.up; precious = h.precious; ordinary = h.ordinary };
        at_leaf = λ lies e is. leaf-apart lies e;
        at_empty = λ lies d c is. empty-apart lies d c;
        at_both = λ here there lies a b away at bt left right. both-apart here there lies a b away at bt left right;
        at_closed = λ below d c w inside own at h. closed-apart deletes below d c w h;
      }

  pub report-keeps_apart : is_none o.for_deletion ≡ false → (d : List ℕ) (c : Class) (names : Names) → NoneEmpty ev → ends_in_slash d ≡ false → is_empty_directory_property c.property ≡ false
      → IsValidTree (directory names) → KeepsApart o (at_or_beneath d) (report_of o ev d c names)
  report-keeps_apart deletes d c names clear plain own tree = (at_report o ev (KeepsApart o) (apart deletes) clear d c names plain own tree).1

-- ---- a report

unmixed-off : (p : List ℕ) (met : List Entry) → Unmixed p met → mixes_precious_with_others p met ≡ false
unmixed-off p met (inl h) = ap (λ (b : Bool). b && list_any (λ l. is_beneath_directory p l.rela_path && is_unpruned_and_not_precious l) met) (list_any-count (beneath_by is_ignored_precious_entry p) met h)
unmixed-off p met (inr h) = go (list_any (λ l. is_beneath_directory p l.rela_path && is_ignored_precious_entry l) met) (list_any (λ l. is_beneath_directory p l.rela_path && is_unpruned_and_not_precious l) met) (list_any-count (beneath_by is_unpruned_and_not_precious p) met h)
  where
    go : (a b : Bool) → b ≡ false → (a && b) ≡ false
    go true b e = e
    go false b e = refl

pub keeps-precious : (o : WalkOptions) (lies : List ℕ → Bool) (w : WalkResult) → KeepsApart o lies w → any_entry_mixes_precious (emissions_shown_by_options o (emissions_with_handed_up w)) w.met ≡ false
keeps-precious o lies w h =
    let lost : Emission → Bool = λ x. mixes_precious_with_others (path_of_emission x) w.met in
    list_any-none lost (emissions_shown_by_options o (emissions_with_handed_up w))
    (all_filter (λ (x : Emission). lost x ≡ false) (λ x. is_entry_shown_by_options o x.0) (emissions_with_handed_up w)
    (all_append (λ (x : Emission). lost x ≡ false) w.out (map uncollapsed_emission w.up)
    (all_weaker (λ (x : Emission). Unmixed (path_of_emission x) w.met) (λ (x : Emission). lost x ≡ false) w.out (λ x k. unmixed-off (path_of_emission x) w.met k) h.out)
    (all_map (λ (x : Emission). lost x ≡ false) uncollapsed_emission w.up
    (all_weaker (λ (e : Entry). Unmixed e.rela_path w.met) (λ (e : Entry). lost (uncollapsed_emission e) ≡ false) w.up (λ e k. unmixed-off e.rela_path w.met k) h.up))))
