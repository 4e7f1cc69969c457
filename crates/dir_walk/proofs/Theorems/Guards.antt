-- Beneath no entry of a walk lies a tracked leaf or a repository of its own that the walk met.
use Rattle.std.proofs.Common.{◌≡◌, ℕ, ◌+◌, ◌≤◌, List, [], ◌∷◌, ◌++◌, Bool, true, false, cond, not, eqb, eqb-true, ◌||◌, ◌&&◌, Option, Some, None, count_by, map, filter, refl, sym, ap, ◌∙◌, arith}
use Rattle.std.specs.List.{AllByRecursion, list_any}
use Rattle.gitbase_core.specs.Path.{ends_in_slash, is_empty, is_prefix_by_whole_components, is_beneath_directory}
use Rattle.glob_rules.specs.declared.ignore.Kind.TheVariants.{Expendable, Precious}
use Rattle.worktree_fs.specs.Naming.{IsValidTree}
use Rattle.worktree_fs.specs.Tree.{Names, directory}
use Rattle.dir_classify.specs.declared.classify.Outcome.{Outcome as Class}
use Rattle.dir_classify.specs.declared.entry.Entry.{Entry}
use Rattle.dir_classify.specs.declared.entry.PathspecMatch.TheVariants.{Excluded, Verbatim}
use Rattle.dir_classify.specs.declared.entry.Status.{Status}
use Rattle.dir_classify.specs.declared.entry.Status.TheVariants.{Pruned, Tracked, Ignored, Untracked}
use Rattle.dir_classify.specs.Chosen.{WalkOptions, is_collapsing_mode, collapses_directories_if_some, folds_untracked_or_ignored}
use Rattle.dir_classify.specs.Enters.{is_pruned_status}
use Rattle.dir_classify.specs.Evidence.{PathEvidence, is_protected_current_directory}
use Rattle.dir_classify.specs.Kinds.{is_repository_kind}
use Rattle.dir_walk.specs.declared.tally.Tally.{Tally}
use Rattle.dir_walk.specs.Emissions.{Emission, is_empty_directory_property, is_tracked_status, path_of_emission, uncollapsed_emission, is_entry_shown_by_options, collapsed_emission}
use Rattle.dir_walk.specs.Fold.{all_counted_untracked_or_ignored, is_nonzero, fold, status_of_folded_directory, may_fold_as_expendable, may_fold_as_precious, may_fold_as_untracked, prevents_folding, is_ignored_expendable_entry, is_expendable_status, is_foldable_by_contents, has_pathspec_match, is_ignored_precious_entry, is_precious_status, is_pruned, is_untracked_entry, is_untracked_status, may_delete_all_at_once, emits_besides_folded_directory, tally_held_entries}
use Rattle.dir_walk.specs.Guarded.{any_entry_hides_tracked_or_repository, is_unpruned_tracked_or_repository}
use Rattle.dir_walk.specs.Report.{emissions_with_handed_up, emissions_shown_by_options}
use Rattle.dir_walk.specs.Walked.{WalkResult, merge_walk_results, walk_result_of_closed_directory, walk_result_of_empty_directory, entry_of_empty_directory, walk_result_folded_if_some, walk_result_of_folded_directory, walk_result_handing_up_leaf, holds_status_for_folding, walk_result_of_leaf_entry, walk_result_emitting_leaf, report_of, walk_result_of_unfolded_directory}
use Rattle.dir_walk.proofs.Places.Beneath.{not_beneath, not_beneath-self}
use Rattle.dir_walk.proofs.Folding.Closing.{leaf-gives}
use Rattle.dir_walk.proofs.Order.Counts.{count_by-append, count_by-cons, count-none, list_any-count, list_any-none}
use Rattle.dir_walk.proofs.Theorems.Induct.{Cases, NoneEmpty, at_report}
use Rattle.dir_walk.proofs.Order.Lists.{all_append, all_filter, all_join, all_map, all_weaker, and_left, and_right, neither, or_left, or_right}
use Rattle.dir_walk.proofs.Places.Located.{Apart, IsFold, LieIn, at_or_beneath, fold-is}

-- a guarded leaf beneath a path
abbrev pub is_hidden_by : List ℕ → Entry → Bool
is_hidden_by p l = is_beneath_directory p l.rela_path && is_unpruned_tracked_or_repository l

-- how many lie beneath a path
abbrev pub guarded_beneath : List ℕ → List Entry → ℕ
guarded_beneath p met = count_by (is_hidden_by p) met

none-beneath : (p : List ℕ) (met : List Entry) → AllByRecursion (λ (l : Entry). is_beneath_directory p l.rela_path ≡ false) met → guarded_beneath p met ≡ 0
none-beneath p met h =
    count-none (is_hidden_by p) met
    (all_weaker (λ (l : Entry). is_beneath_directory p l.rela_path ≡ false) (λ (l : Entry). is_hidden_by p l ≡ false) met (λ l k. ap (λ (b : Bool). b && is_unpruned_tracked_or_repository l) k) h)

few-beneath : (p : List ℕ) (met : List Entry) → guarded_beneath p met ≤ count_by is_unpruned_tracked_or_repository met
few-beneath p [] = omega arith
few-beneath p (l ∷ met) =
    omega (arith, count_by-cons (is_hidden_by p) l met, count_by-cons is_unpruned_tracked_or_repository l met, few-beneath p met, go (is_beneath_directory p l.rela_path) (is_unpruned_tracked_or_repository l))
  where
    go : (a b : Bool) → cond {A = ℕ} (a && b) 1 0 ≤ cond b 1 0
    go true b = omega arith
    go false b = omega arith

-- ---- what is folded has no guarded entry

one_entry : (s : Status) (r v x : Bool)
    → cond {A = ℕ} (not (is_pruned_status s) && (is_tracked_status s || r)) 1 0 + cond (is_untracked_status s) 1 0 + cond (is_expendable_status s) 1 0 + cond (is_precious_status s) 1 0
    ≤ 1 + cond (r || v || x) 1 0
one_entry Pruned r v x = omega arith
one_entry Tracked r v x = omega arith
one_entry Untracked true v x = omega arith
one_entry Untracked false v x = omega arith
one_entry (Ignored Expendable) true v x = omega arith
one_entry (Ignored Expendable) false v x = omega arith
one_entry (Ignored Precious) true v x = omega arith
one_entry (Ignored Precious) false v x = omega arith

guarded-or_not : (held : List Entry)
    → count_by is_unpruned_tracked_or_repository held + count_by is_untracked_entry held + count_by is_ignored_expendable_entry held + count_by is_ignored_precious_entry held ≤ count_by (λ e. true) held + count_by prevents_folding held
guarded-or_not [] = omega arith
guarded-or_not (e ∷ held) =
    omega (
      arith,
      count_by-cons is_unpruned_tracked_or_repository e held,
      count_by-cons is_untracked_entry e held,
      count_by-cons is_ignored_expendable_entry e held,
      count_by-cons is_ignored_precious_entry e held,
      count_by-cons (λ _. true) e held,
      count_by-cons prevents_folding e held,
      guarded-or_not held,
      one_entry e.status (is_repository_kind e.disk_kind) (has_pathspec_match Verbatim e) (has_pathspec_match Excluded e),
    )

pub not_some : (n : ℕ) → not (is_nonzero n) ≡ true → n ≡ 0
not_some n e = eqb-true n 0 (go (eqb n 0) e)
  where
    go : (b : Bool) → not (not b) ≡ true → b ≡ true
    go true e = refl
    go false e = absurd (cc e)

pub none-barring : (ev : PathEvidence) (d : List ℕ) (n : Tally) → is_foldable_by_contents ev d n ≡ true → n.barring ≡ 0
none-barring ev d n e =
    let a : Bool = not (is_empty d) && not (is_protected_current_directory ev d) in
    let b : Bool = not (is_nonzero n.barring) in
    let k : Bool = not (is_nonzero n.picked) || eqb n.picked n.all in
    not_some n.barring (and_right a b (and_left (a && b) k (and_left (a && b && k) (ev.covers d) e)))

-- under a fold status all is untracked or ignored, and directories are folded
pub record AllLoose (o : WalkOptions) (n : Tally) : Type 0 where
  pub all : n.all ≤ n.untracked + n.expendable + n.precious
  pub folding : folds_untracked_or_ignored o ≡ true

pub status-loose : (o : WalkOptions) (n : Tally) (s : Status) → status_of_folded_directory o n ≡ Some s → AllLoose o n
status-loose o n s e = go (may_fold_as_untracked o n) (may_fold_as_expendable o n) (may_fold_as_precious o n) refl refl refl e
  where
    untracked : Bool
    untracked = is_collapsing_mode o.emit_untracked

    ignored : Bool
    ignored = collapses_directories_if_some o.emit_ignored

    go : (a b k : Bool) → may_fold_as_untracked o n ≡ a → may_fold_as_expendable o n ≡ b → may_fold_as_precious o n ≡ k
        → cond a (Some Untracked) (cond b (Some (Ignored Expendable)) (cond k (Some (Ignored Precious)) None)) ≡ Some s → AllLoose o n
    go true b k p q r e =
        let front : (untracked && is_nonzero n.untracked && all_counted_untracked_or_ignored n) ≡ true = and_left _ (may_delete_all_at_once o n) p in
        record {
          all = omega (arith, eqb-true (n.untracked + n.expendable + n.precious) n.all (and_right (untracked && is_nonzero n.untracked) _ front));
          folding = or_left untracked ignored (and_left untracked (is_nonzero n.untracked) (and_left (untracked && is_nonzero n.untracked) _ front));
        }
    go false true k p q r e =
        record {
          all = omega (arith, eqb-true n.expendable n.all (and_right (ignored && is_nonzero n.expendable) _ q));
          folding = or_right untracked ignored (and_left ignored (is_nonzero n.expendable) (and_left (ignored && is_nonzero n.expendable) _ q));
        }
    go false false true p q r e =
        record {
          all = omega (arith, eqb-true n.precious n.all (and_right (ignored && is_nonzero n.precious) _ r));
          folding = or_right untracked ignored (and_left ignored (is_nonzero n.precious) (and_left (ignored && is_nonzero n.precious) _ r));
        }
    go false false false p q r e = absurd (cc e)

pub record GuardsNone (o : WalkOptions) (held : List Entry) : Type 0 where
  pub none : count_by is_unpruned_tracked_or_repository held ≡ 0
  pub folding : folds_untracked_or_ignored o ≡ true

pub fold-guards_none : (o : WalkOptions) (ev : PathEvidence) (d : List ℕ) (c : Class) (held : List Entry) (f : Entry) → IsFold o ev d c (tally_held_entries held) f → GuardsNone o held
fold-guards_none o ev d c held f is =
    let loose : AllLoose o (tally_held_entries held) = status-loose o (tally_held_entries held) f.status is.status_is in
    record { none = omega (arith, guarded-or_not held, none-barring ev d (tally_held_entries held) is.fits, loose.all); folding = loose.folding }

-- ---- the claim

-- Beneath no entry lies a guarded leaf, and what does not block the directory above hands up all its guarded leaves.
pub record HidesNone (o : WalkOptions) (lies : List ℕ → Bool) (w : WalkResult) : Type 0 where
  pub out : AllByRecursion (λ (x : Emission). guarded_beneath (path_of_emission x) w.met ≡ 0) w.out
  pub up : AllByRecursion (λ (e : Entry). guarded_beneath e.rela_path w.met ≡ 0) w.up
  pub kept : folds_untracked_or_ignored o ≡ true → w.blocks ≡ false → count_by is_unpruned_tracked_or_repository w.met ≤ count_by is_unpruned_tracked_or_repository w.up

alone : (e : Entry) → guarded_beneath e.rela_path (e ∷ []) ≡ 0
alone e = none-beneath e.rela_path (e ∷ []) (not_beneath-self e.rela_path, tt)

-- what is not held while directories are folded is pruned
not-held : (p f g : Bool) → (not p && f) ≡ false → f ≡ true → cond {A = ℕ} (not p && g) 1 0 ≤ 0
not-held true f g e h = omega arith
not-held false f g e h = absurd (let n : false ≡ true = sym e ∙ h in cc n)

module _ (o : WalkOptions) (ev : PathEvidence) where
  leaf-hides : (lies : List ℕ → Bool) (e : Entry) → HidesNone o lies (walk_result_of_leaf_entry o e)
  unfolding walk_result_of_leaf_entry
  leaf-hides lies e = go (holds_status_for_folding o e.status) refl
    where
      go : (b : Bool) → holds_status_for_folding o e.status ≡ b → HidesNone o lies (cond b (walk_result_handing_up_leaf e) (walk_result_emitting_leaf e))
      go true h = record { out = tt; up = (alone e, tt); kept = λ f b. omega arith }
      go false h =
          record {
            out = (alone e, tt);
            up = tt;
            kept = λ f b. omega (arith, count_by-cons is_unpruned_tracked_or_repository e [], not-held (is_pruned e) (folds_untracked_or_ignored o) (is_tracked_status e.status || is_repository_kind e.disk_kind) h f);
          }

  empty-hides : (lies : List ℕ → Bool) (d : List ℕ) (c : Class) → HidesNone o lies (walk_result_of_empty_directory o ev d c)
  unfolding walk_result_of_empty_directory
  empty-hides lies d c =
      let e : Entry = entry_of_empty_directory ev d c in
      let h : HidesNone o lies (walk_result_of_leaf_entry o e) = leaf-hides lies e in
      record { out = h.out; up = h.up; kept = λ f b. h.kept f (leaf-gives o e).blocks }

  -- a path on one side hides nothing on the other
  hides-with : (x : List ℕ) (a b : List Entry) → AllByRecursion (λ (l : Entry). is_prefix_by_whole_components x l.rela_path ≡ false) b → guarded_beneath x a ≡ 0
      → (guarded_beneath x (a ++ b) ≡ 0) × (guarded_beneath x (b ++ a) ≡ 0)
  hides-with x a b far none =
      let off : guarded_beneath x b ≡ 0 = none-beneath x b (all_weaker (λ (l : Entry). is_prefix_by_whole_components x l.rela_path ≡ false) (λ (l : Entry). is_beneath_directory x l.rela_path ≡ false) b (λ l h. not_beneath x l.rela_path h) far) in
      (omega (arith, count_by-append (is_hidden_by x) a b, none, off), omega (arith, count_by-append (is_hidden_by x) b a, none, off))

  module _ (here there lies : List ℕ → Bool) (a b : WalkResult) (apart : Apart here there lies) (at : LieIn here a) (bt : LieIn there b) (left : HidesNone o here a) (right : HidesNone o there b) where
    hides-left : (x : List ℕ) → here x ≡ true → guarded_beneath x a.met ≡ 0 → guarded_beneath x (a.met ++ b.met) ≡ 0
    hides-left x is none =
        (hides-with x a.met b.met (all_weaker (λ (l : Entry). there l.rela_path ≡ true) (λ (l : Entry). is_prefix_by_whole_components x l.rela_path ≡ false) b.met (λ l h. apart.one x l.rela_path is h) bt.met) none).0

    hides-right : (x : List ℕ) → there x ≡ true → guarded_beneath x b.met ≡ 0 → guarded_beneath x (a.met ++ b.met) ≡ 0
    hides-right x is none =
        (hides-with x b.met a.met (all_weaker (λ (l : Entry). here l.rela_path ≡ true) (λ (l : Entry). is_prefix_by_whole_components x l.rela_path ≡ false) a.met (λ l h. apart.other x l.rela_path is h) at.met) none).1

    both-hides : HidesNone o lies (merge_walk_results a b)
    both-hides =
        let met : List Entry = a.met ++ b.met in
        record {
          out = all_append (λ (x : Emission). guarded_beneath (path_of_emission x) met ≡ 0) a.out b.out
              (all_join (λ (x : Emission). here (path_of_emission x) ≡ true) (λ (x : Emission). guarded_beneath (path_of_emission x) a.met ≡ 0) (λ (x : Emission). guarded_beneath (path_of_emission x) met ≡ 0) a.out
              (λ x is none. hides-left (path_of_emission x) is none) at.out left.out)
              (all_join (λ (x : Emission). there (path_of_emission x) ≡ true) (λ (x : Emission). guarded_beneath (path_of_emission x) b.met ≡ 0) (λ (x : Emission). guarded_beneath (path_of_emission x) met ≡ 0) b.out
              (λ x is none. hides-right (path_of_emission x) is none) bt.out right.out);
          up = all_append (λ (e : Entry). guarded_beneath e.rela_path met ≡ 0) a.up b.up
              (all_join (λ (e : Entry). here e.rela_path ≡ true) (λ (e : Entry). guarded_beneath e.rela_path a.met ≡ 0) (λ (e : Entry). guarded_beneath e.rela_path met ≡ 0) a.up
              (λ e is none. hides-left e.rela_path is none) at.up left.up)
              (all_join (λ (e : Entry). there e.rela_path ≡ true) (λ (e : Entry). guarded_beneath e.rela_path b.met ≡ 0) (λ (e : Entry). guarded_beneath e.rela_path met ≡ 0) b.up
              (λ e is none. hides-right e.rela_path is none) bt.up right.up);
          kept = λ f e.
              let each = neither a.blocks b.blocks e in
              omega (arith, count_by-append is_unpruned_tracked_or_repository a.met b.met, count_by-append is_unpruned_tracked_or_repository a.up b.up, left.kept f each.0, right.kept f each.1);
        }

  module _ (below : List ℕ → Bool) (d : List ℕ) (c : Class) (w : WalkResult) (inside : HidesNone o below w) where
    unfolded-hides : HidesNone o (at_or_beneath d) (walk_result_of_unfolded_directory d w)
    unfolded-hides =
        record {
          out = all_append (λ (x : Emission). guarded_beneath (path_of_emission x) w.met ≡ 0) w.out (map uncollapsed_emission w.up) inside.out
              (all_map (λ (x : Emission). guarded_beneath (path_of_emission x) w.met ≡ 0) uncollapsed_emission w.up inside.up);
          up = tt;
          kept = λ f b. absurd (cc b);
        }

    folded-hides : (f : Entry) → GuardsNone o w.up → w.blocks ≡ false → HidesNone o (at_or_beneath d) (walk_result_of_folded_directory o d w f)
    folded-hides f guards free =
        let q : Entry → Bool = emits_besides_folded_directory o.emit_collapsed f.status in
        let put : Entry → Emission = collapsed_emission f.status in
        let quiet : count_by is_unpruned_tracked_or_repository w.met ≡ 0 = omega (arith, inside.kept guards.folding free, guards.none) in
        record {
          out = all_append (λ (x : Emission). guarded_beneath (path_of_emission x) w.met ≡ 0) w.out (map put (filter q w.up)) inside.out
              (all_map (λ (x : Emission). guarded_beneath (path_of_emission x) w.met ≡ 0) put (filter q w.up) (all_filter (λ (e : Entry). guarded_beneath e.rela_path w.met ≡ 0) q w.up inside.up));
          up = (omega (arith, few-beneath f.rela_path w.met, quiet), tt);
          kept = λ _ _. omega (arith, quiet);
        }

    closed-hides : HidesNone o (at_or_beneath d) (walk_result_of_closed_directory o ev d c w)
    unfolding walk_result_of_closed_directory
    closed-hides = go w.blocks (fold o ev d c (tally_held_entries w.up)) refl refl
      where
        go : (b : Bool) (f : Option Entry) → w.blocks ≡ b → fold o ev d c (tally_held_entries w.up) ≡ f → HidesNone o (at_or_beneath d) (cond b (walk_result_of_unfolded_directory d w) (walk_result_folded_if_some o d w f))
        go true f p q = unfolded-hides
        go false None p q = unfolded-hides
        go false (Some f) p q = folded-hides f (fold-guards_none o ev d c w.up f (fold-is o ev d c (tally_held_entries w.up) f q)) p

  hides : Cases o ev (HidesNone o)
  hides =
      record {
        at_nothing = λ lies. record { out = tt; up = tt; kept = λ f b. omega arith };
        at_broken = λ lies path is. record { out = tt; up = tt; kept = λ f b. omega arith };
        at_asking = λ lies b path w is h. record { out = h.out; up = h.up; kept = h.kept };
        at_leaf = λ lies e is. leaf-hides lies e;
        at_empty = λ lies d c is. empty-hides lies d c;
        at_both = λ here there lies a b apart at bt left right. both-hides here there lies a b apart at bt left right;
        at_closed = λ below d c w inside own at h. closed-hides below d c w h;
      }

  pub report-hides : (d : List ℕ) (c : Class) (names : Names) → NoneEmpty ev → ends_in_slash d ≡ false → is_empty_directory_property c.property ≡ false → IsValidTree (directory names)
      → HidesNone o (at_or_beneath d) (report_of o ev d c names)
  report-hides d c names clear plain own tree = (at_report o ev (HidesNone o) hides clear d c names plain own tree).1

-- ---- a report

-- where no entry hides a guarded leaf, none of those that are shown does
pub hides-none : (o : WalkOptions) (lies : List ℕ → Bool) (w : WalkResult) → HidesNone o lies w → any_entry_hides_tracked_or_repository (emissions_shown_by_options o (emissions_with_handed_up w)) w.met ≡ false
hides-none o lies w h =
    let over : Emission → Bool = λ x. list_any (λ l. is_beneath_directory (path_of_emission x) l.rela_path && is_unpruned_tracked_or_repository l) w.met in
    let each : AllByRecursion (λ (x : Emission). over x ≡ false) (emissions_with_handed_up w) =
    all_append (λ (x : Emission). over x ≡ false) w.out (map uncollapsed_emission w.up)
    (all_weaker (λ (x : Emission). guarded_beneath (path_of_emission x) w.met ≡ 0) (λ (x : Emission). over x ≡ false) w.out (λ x k. list_any-count (is_hidden_by (path_of_emission x)) w.met k) h.out)
    (all_map (λ (x : Emission). over x ≡ false) uncollapsed_emission w.up
    (all_weaker (λ (e : Entry). guarded_beneath e.rela_path w.met ≡ 0) (λ (e : Entry). over (uncollapsed_emission e) ≡ false) w.up (λ e k. list_any-count (is_hidden_by e.rela_path) w.met k) h.up)) in
    list_any-none over (emissions_shown_by_options o (emissions_with_handed_up w)) (all_filter (λ (x : Emission). over x ≡ false) (λ x. is_entry_shown_by_options o x.0) (emissions_with_handed_up w) each)
