-- Each entry of a walk is a leaf that was met, or was folded; and no leaf that was met lies beneath another.
use Rattle.std.proofs.Common.{◌≡◌, ℕ, ◌⊎◌, inl, inr, List, [], ◌∷◌, ◌++◌, Bool, true, false, cond, Option, Some, None, filter, map, refl}
use Rattle.std.specs.List.{AllByRecursion}
use Rattle.gitbase_core.specs.Path.{ends_in_slash, is_beneath_directory}
use Rattle.worktree_fs.specs.Naming.{IsValidTree}
use Rattle.worktree_fs.specs.Tree.{Names, directory}
use Rattle.dir_classify.specs.declared.classify.Outcome.{Outcome as Class}
use Rattle.dir_classify.specs.declared.entry.Entry.{Entry}
use Rattle.dir_classify.specs.Chosen.{WalkOptions}
use Rattle.dir_classify.specs.Evidence.{PathEvidence}
use Rattle.dir_walk.specs.Covered.{IsListElement}
use Rattle.dir_walk.specs.Emissions.{Emission, is_empty_directory_property, uncollapsed_emission, collapsed_emission}
use Rattle.dir_walk.specs.Fold.{fold, emits_besides_folded_directory, tally_held_entries}
use Rattle.dir_walk.specs.Report.{emissions_with_handed_up}
use Rattle.dir_walk.specs.Walked.{WalkResult, merge_walk_results, walk_result_of_closed_directory, walk_result_of_empty_directory, entry_of_empty_directory, walk_result_folded_if_some, walk_result_of_folded_directory, walk_result_handing_up_leaf, holds_status_for_folding, walk_result_of_leaf_entry, walk_result_emitting_leaf, report_of, walk_result_of_unfolded_directory}
use Rattle.dir_walk.proofs.Places.Beneath.{not_beneath, not_beneath-self}
use Rattle.dir_walk.proofs.Theorems.Induct.{Cases, NoneEmpty, at_report}
use Rattle.dir_walk.proofs.Order.Lists.{all_append, all_filter, all_join, all_map, all_weaker}
use Rattle.dir_walk.proofs.Places.Located.{Apart, LieIn, at_or_beneath}
use Rattle.dir_walk.proofs.Order.Members.{in-left, in-right}

abbrev pub ComesFrom : List Entry → List Entry → Entry → Type 0
ComesFrom met folds e = IsListElement e met ⊎ IsListElement e folds

-- of leaves none lies beneath a path
abbrev pub NoneBeneath : List Entry → Entry → Type 0
NoneBeneath met l = AllByRecursion (λ (k : Entry). is_beneath_directory l.rela_path k.rela_path ≡ false) met

pub record Comes (lies : List ℕ → Bool) (w : WalkResult) : Type 0 where
  pub out : AllByRecursion (λ (x : Emission). ComesFrom w.met w.folds x.0) w.out
  pub up : AllByRecursion (ComesFrom w.met w.folds) w.up
  pub flat : AllByRecursion (NoneBeneath w.met) w.met

comes-left : (a b c d : List Entry) (e : Entry) → ComesFrom a b e → ComesFrom (a ++ c) (b ++ d) e
comes-left a b c d e (inl h) = inl (in-left e a c h)
comes-left a b c d e (inr h) = inr (in-left e b d h)

comes-right : (a b c d : List Entry) (e : Entry) → ComesFrom c d e → ComesFrom (a ++ c) (b ++ d) e
comes-right a b c d e (inl h) = inl (in-right e a c h)
comes-right a b c d e (inr h) = inr (in-right e b d h)

module _ (o : WalkOptions) (ev : PathEvidence) where
  leaf-comes : (lies : List ℕ → Bool) (e : Entry) → Comes lies (walk_result_of_leaf_entry o e)
  unfolding walk_result_of_leaf_entry
  leaf-comes lies e = go (holds_status_for_folding o e.status)
    where
      flat : AllByRecursion (NoneBeneath (e ∷ [])) (e ∷ [])
      flat = ((not_beneath-self e.rela_path, tt), tt)

      go : (b : Bool) → Comes lies (cond b (walk_result_handing_up_leaf e) (walk_result_emitting_leaf e))
      go true = record { out = tt; up = (inl (inl refl), tt); flat = flat }
      go false = record { out = (inl (inl refl), tt); up = tt; flat = flat }

  empty-comes : (lies : List ℕ → Bool) (d : List ℕ) (c : Class) → Comes lies (walk_result_of_empty_directory o ev d c)
  unfolding walk_result_of_empty_directory
  empty-comes lies d c = let h : Comes lies (walk_result_of_leaf_entry o (entry_of_empty_directory ev d c)) = leaf-comes lies (entry_of_empty_directory ev d c) in record { out = h.out; up = h.up; flat = h.flat }

  both-comes : (here there lies : List ℕ → Bool) (a b : WalkResult) → Apart here there lies → LieIn here a → LieIn there b → Comes here a → Comes there b → Comes lies (merge_walk_results a b)
  both-comes here there lies a b apart at bt left right =
      let met : List Entry = a.met ++ b.met in
      let folds : List Entry = a.folds ++ b.folds in
      record {
        out = all_append (λ (x : Emission). ComesFrom met folds x.0) a.out b.out
            (all_weaker (λ (x : Emission). ComesFrom a.met a.folds x.0) (λ (x : Emission). ComesFrom met folds x.0) a.out (λ x h. comes-left a.met a.folds b.met b.folds x.0 h) left.out)
            (all_weaker (λ (x : Emission). ComesFrom b.met b.folds x.0) (λ (x : Emission). ComesFrom met folds x.0) b.out (λ x h. comes-right a.met a.folds b.met b.folds x.0 h) right.out);
        up = all_append (ComesFrom met folds) a.up b.up
            (all_weaker (ComesFrom a.met a.folds) (ComesFrom met folds) a.up (λ e h. comes-left a.met a.folds b.met b.folds e h) left.up)
            (all_weaker (ComesFrom b.met b.folds) (ComesFrom met folds) b.up (λ e h. comes-right a.met a.folds b.met b.folds e h) right.up);
        flat = all_append (NoneBeneath met) a.met b.met
            (all_join (λ (l : Entry). here l.rela_path ≡ true) (NoneBeneath a.met) (NoneBeneath met) a.met
            (λ l is h. all_append (λ (k : Entry). is_beneath_directory l.rela_path k.rela_path ≡ false) a.met b.met h (far_there l is)) at.met left.flat)
            (all_join (λ (l : Entry). there l.rela_path ≡ true) (NoneBeneath b.met) (NoneBeneath met) b.met
            (λ l is h. all_append (λ (k : Entry). is_beneath_directory l.rela_path k.rela_path ≡ false) a.met b.met (far_here l is) h) bt.met right.flat);
      }
    where
      far_there : (l : Entry) → here l.rela_path ≡ true → NoneBeneath b.met l
      far_there l is =
          all_weaker (λ (k : Entry). there k.rela_path ≡ true) (λ (k : Entry). is_beneath_directory l.rela_path k.rela_path ≡ false) b.met
          (λ k h. not_beneath l.rela_path k.rela_path (apart.one l.rela_path k.rela_path is h)) bt.met

      far_here : (l : Entry) → there l.rela_path ≡ true → NoneBeneath a.met l
      far_here l is =
          all_weaker (λ (k : Entry). here k.rela_path ≡ true) (λ (k : Entry). is_beneath_directory l.rela_path k.rela_path ≡ false) a.met
          (λ k h. not_beneath l.rela_path k.rela_path (apart.other l.rela_path k.rela_path is h)) at.met

  closed-comes : (below : List ℕ → Bool) (d : List ℕ) (c : Class) (w : WalkResult) → Comes below w → Comes (at_or_beneath d) (walk_result_of_closed_directory o ev d c w)
  unfolding walk_result_of_closed_directory
  closed-comes below d c w h = go w.blocks (fold o ev d c (tally_held_entries w.up))
    where
      plainly : Comes (at_or_beneath d) (walk_result_of_unfolded_directory d w)
      plainly = record {
        out = all_append (λ (x : Emission). ComesFrom w.met w.folds x.0) w.out (map uncollapsed_emission w.up) h.out (all_map (λ (x : Emission). ComesFrom w.met w.folds x.0) uncollapsed_emission w.up h.up);
        up = tt;
        flat = h.flat;
      }

      put : (f : Entry) → Comes (at_or_beneath d) (walk_result_of_folded_directory o d w f)
      put f =
          let q : Entry → Bool = emits_besides_folded_directory o.emit_collapsed f.status in
          record {
            out = all_append (λ (x : Emission). ComesFrom w.met (f ∷ w.folds) x.0) w.out (map (collapsed_emission f.status) (filter q w.up))
                (all_weaker (λ (x : Emission). ComesFrom w.met w.folds x.0) (λ (x : Emission). ComesFrom w.met (f ∷ w.folds) x.0) w.out (λ x k. comes-right [] (f ∷ []) w.met w.folds x.0 k) h.out)
                (all_map (λ (x : Emission). ComesFrom w.met (f ∷ w.folds) x.0) (collapsed_emission f.status) (filter q w.up)
                (all_filter (ComesFrom w.met (f ∷ w.folds)) q w.up
                (all_weaker (ComesFrom w.met w.folds) (ComesFrom w.met (f ∷ w.folds)) w.up (λ e k. comes-right [] (f ∷ []) w.met w.folds e k) h.up)));
            up = (inr (inl refl), tt);
            flat = h.flat;
          }

      go : (b : Bool) (f : Option Entry) → Comes (at_or_beneath d) (cond b (walk_result_of_unfolded_directory d w) (walk_result_folded_if_some o d w f))
      go true f = plainly
      go false None = plainly
      go false (Some f) = put f

  comes : Cases o ev Comes
  comes =
      record {
        at_nothing = λ lies. record { out = tt; up = tt; flat = tt };
        at_broken = λ lies path is. record { out = tt; up = tt; flat = tt };
        at_asking = λ lies b path w is h. record { out = h.out; up = h.up; flat = h.flat };
        at_leaf = λ lies e is. leaf-comes lies e;
        at_empty = λ lies d c is. empty-comes lies d c;
        at_both = λ here there lies a b apart at bt left right. both-comes here there lies a b apart at bt left right;
        at_closed = λ below d c w inside own at h. closed-comes below d c w h;
      }

  pub report-comes : (d : List ℕ) (c : Class) (names : Names) → NoneEmpty ev → ends_in_slash d ≡ false → is_empty_directory_property c.property ≡ false → IsValidTree (directory names)
      → Comes (at_or_beneath d) (report_of o ev d c names)
  report-comes d c names clear plain own tree = (at_report o ev Comes comes clear d c names plain own tree).1

pub comes-out : (lies : List ℕ → Bool) (w : WalkResult) → Comes lies w → AllByRecursion (λ (x : Emission). ComesFrom w.met w.folds x.0) (emissions_with_handed_up w)
comes-out lies w h = all_append (λ (x : Emission). ComesFrom w.met w.folds x.0) w.out (map uncollapsed_emission w.up) h.out (all_map (λ (x : Emission). ComesFrom w.met w.folds x.0) uncollapsed_emission w.up h.up)
