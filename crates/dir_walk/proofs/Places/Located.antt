-- Where all that a walk gives lies.
use Rattle.std.proofs.Common.{◌≡◌, ℕ, List, Bool, true, false, cond, Option, Some, None, filter, map, refl, sym, ap, ◌∙◌}
use Rattle.std.specs.Prelude.{option_map}
use Rattle.std.specs.List.{AllByRecursion}
use Rattle.gitbase_core.specs.Path.{is_prefix_by_whole_components}
use Rattle.dir_classify.specs.declared.classify.Outcome.{Outcome as Class}
use Rattle.dir_classify.specs.declared.entry.Entry.{Entry}
use Rattle.dir_classify.specs.declared.entry.Status.{Status}
use Rattle.dir_classify.specs.Chosen.{WalkOptions}
use Rattle.dir_classify.specs.Evidence.{PathEvidence}
use Rattle.dir_walk.specs.declared.tally.Tally.{Tally}
use Rattle.dir_walk.specs.Emissions.{Emission, path_of_emission, uncollapsed_emission, collapsed_emission}
use Rattle.dir_walk.specs.Fold.{fold, status_of_folded_directory, entry_of_folded_directory, is_foldable_by_contents, emits_besides_folded_directory, tally_held_entries}
use Rattle.dir_walk.specs.Walked.{WalkResult, add_asked_path_if, merge_walk_results, walk_result_of_broken_path, walk_result_of_closed_directory, walk_result_of_empty_directory, entry_of_empty_directory, walk_result_folded_if_some, walk_result_of_folded_directory, walk_result_handing_up_leaf, holds_status_for_folding, walk_result_of_leaf_entry, empty_walk_result, walk_result_emitting_leaf, walk_result_of_unfolded_directory}
use Rattle.dir_walk.proofs.Places.Beneath.{prefix-self}
use Rattle.dir_walk.proofs.Order.Lists.{all_append, all_filter, all_map, all_weaker, same_some}

-- all paths pass a test
pub record LieIn (lies : List ℕ → Bool) (w : WalkResult) : Type 0 where
  pub out : AllByRecursion (λ (x : Emission). lies (path_of_emission x) ≡ true) w.out
  pub up : AllByRecursion (λ (e : Entry). lies e.rela_path ≡ true) w.up
  pub entered : AllByRecursion (λ (d : List ℕ). lies d ≡ true) w.entered
  pub broken : AllByRecursion (λ (d : List ℕ). lies d ≡ true) w.broken
  pub asked : AllByRecursion (λ (d : List ℕ). lies d ≡ true) w.asked
  pub met : AllByRecursion (λ (e : Entry). lies e.rela_path ≡ true) w.met
  pub folds : AllByRecursion (λ (e : Entry). lies e.rela_path ≡ true) w.folds

-- two tests of which no path of the one is a prefix of a path of the other
pub record Apart (here there lies : List ℕ → Bool) : Type 0 where
  pub in_here : (p : List ℕ) → here p ≡ true → lies p ≡ true
  pub in_there : (p : List ℕ) → there p ≡ true → lies p ≡ true
  pub one : (x y : List ℕ) → here x ≡ true → there y ≡ true → is_prefix_by_whole_components x y ≡ false
  pub other : (x y : List ℕ) → there x ≡ true → here y ≡ true → is_prefix_by_whole_components x y ≡ false

-- all that passes lies beneath a directory
pub record Inside (d : List ℕ) (below : List ℕ → Bool) : Type 0 where
  pub up : (p : List ℕ) → below p ≡ true → is_prefix_by_whole_components d p ≡ true
  pub down : (p : List ℕ) → below p ≡ true → is_prefix_by_whole_components p d ≡ false

-- the paths at and beneath a directory
abbrev pub at_or_beneath : List ℕ → List ℕ → Bool
at_or_beneath d p = is_prefix_by_whole_components d p

pub LieIn-weaker : (here lies : List ℕ → Bool) (w : WalkResult) → ((p : List ℕ) → here p ≡ true → lies p ≡ true) → LieIn here w → LieIn lies w
LieIn-weaker here lies w f h =
    record {
      out = all_weaker (λ (x : Emission). here (path_of_emission x) ≡ true) (λ (x : Emission). lies (path_of_emission x) ≡ true) w.out (λ x k. f (path_of_emission x) k) h.out;
      up = all_weaker (λ (e : Entry). here e.rela_path ≡ true) (λ (e : Entry). lies e.rela_path ≡ true) w.up (λ e k. f e.rela_path k) h.up;
      entered = all_weaker (λ (d : List ℕ). here d ≡ true) (λ (d : List ℕ). lies d ≡ true) w.entered f h.entered;
      broken = all_weaker (λ (d : List ℕ). here d ≡ true) (λ (d : List ℕ). lies d ≡ true) w.broken f h.broken;
      asked = all_weaker (λ (d : List ℕ). here d ≡ true) (λ (d : List ℕ). lies d ≡ true) w.asked f h.asked;
      met = all_weaker (λ (e : Entry). here e.rela_path ≡ true) (λ (e : Entry). lies e.rela_path ≡ true) w.met (λ e k. f e.rela_path k) h.met;
      folds = all_weaker (λ (e : Entry). here e.rela_path ≡ true) (λ (e : Entry). lies e.rela_path ≡ true) w.folds (λ e k. f e.rela_path k) h.folds;
    }

pub LieIn-nothing : (lies : List ℕ → Bool) → LieIn lies empty_walk_result
LieIn-nothing lies = record { out = tt; up = tt; entered = tt; broken = tt; asked = tt; met = tt; folds = tt }

pub LieIn-broken : (lies : List ℕ → Bool) (path : List ℕ) → lies path ≡ true → LieIn lies (walk_result_of_broken_path path)
LieIn-broken lies path is = record { out = tt; up = tt; entered = tt; broken = (is, tt); asked = tt; met = tt; folds = tt }

pub LieIn-asking : (lies : List ℕ → Bool) (b : Bool) (path : List ℕ) (w : WalkResult) → lies path ≡ true → LieIn lies w → LieIn lies (add_asked_path_if b path w)
LieIn-asking lies true path w is h = record { out = h.out; up = h.up; entered = h.entered; broken = h.broken; asked = (is, h.asked); met = h.met; folds = h.folds }
LieIn-asking lies false path w is h = record { out = h.out; up = h.up; entered = h.entered; broken = h.broken; asked = h.asked; met = h.met; folds = h.folds }

pub LieIn-both : (lies : List ℕ → Bool) (a b : WalkResult) → LieIn lies a → LieIn lies b → LieIn lies (merge_walk_results a b)
LieIn-both lies a b h k =
    record {
      out = all_append (λ (x : Emission). lies (path_of_emission x) ≡ true) a.out b.out h.out k.out;
      up = all_append (λ (e : Entry). lies e.rela_path ≡ true) a.up b.up h.up k.up;
      entered = all_append (λ (d : List ℕ). lies d ≡ true) a.entered b.entered h.entered k.entered;
      broken = all_append (λ (d : List ℕ). lies d ≡ true) a.broken b.broken h.broken k.broken;
      asked = all_append (λ (d : List ℕ). lies d ≡ true) a.asked b.asked h.asked k.asked;
      met = all_append (λ (e : Entry). lies e.rela_path ≡ true) a.met b.met h.met k.met;
      folds = all_append (λ (e : Entry). lies e.rela_path ≡ true) a.folds b.folds h.folds k.folds;
    }

pub LieIn-leaf : (o : WalkOptions) (lies : List ℕ → Bool) (e : Entry) → lies e.rela_path ≡ true → LieIn lies (walk_result_of_leaf_entry o e)
unfolding walk_result_of_leaf_entry
LieIn-leaf o lies e is = go (holds_status_for_folding o e.status)
  where
    go : (b : Bool) → LieIn lies (cond b (walk_result_handing_up_leaf e) (walk_result_emitting_leaf e))
    go true = record { out = tt; up = (is, tt); entered = tt; broken = tt; asked = tt; met = (is, tt); folds = tt }
    go false = record { out = (is, tt); up = tt; entered = tt; broken = tt; asked = tt; met = (is, tt); folds = tt }

pub LieIn-empty : (o : WalkOptions) (ev : PathEvidence) (lies : List ℕ → Bool) (d : List ℕ) (c : Class) → lies d ≡ true → LieIn lies (walk_result_of_empty_directory o ev d c)
unfolding walk_result_of_empty_directory
LieIn-empty o ev lies d c is =
    let h : LieIn lies (walk_result_of_leaf_entry o (entry_of_empty_directory ev d c)) = LieIn-leaf o lies (entry_of_empty_directory ev d c) is in
    record { out = h.out; up = h.up; entered = (is, tt); broken = h.broken; asked = h.asked; met = h.met; folds = h.folds }

-- ---- a directory that is closed

-- where a directory is folded it may be, and there is a status; the entry is that of the directory
pub record IsFold (o : WalkOptions) (ev : PathEvidence) (d : List ℕ) (c : Class) (n : Tally) (f : Entry) : Type 0 where
  pub fits : is_foldable_by_contents ev d n ≡ true
  pub status_is : status_of_folded_directory o n ≡ Some f.status
  pub entry_is : f ≡ entry_of_folded_directory o d c n f.status
  pub path_is : f.rela_path ≡ d

pub fold-is : (o : WalkOptions) (ev : PathEvidence) (d : List ℕ) (c : Class) (n : Tally) (f : Entry) → fold o ev d c n ≡ Some f → IsFold o ev d c n f
unfolding fold
fold-is o ev d c n f e = go (is_foldable_by_contents ev d n) (status_of_folded_directory o n) refl refl e
  where
    go : (b : Bool) (s : Option Status) → is_foldable_by_contents ev d n ≡ b → status_of_folded_directory o n ≡ s → cond b (option_map (entry_of_folded_directory o d c n) s) None ≡ Some f → IsFold o ev d c n f
    go false s p q e = absurd (cc e)
    go true None p q e = absurd (cc e)
    go true (Some s) p q e =
        let is : entry_of_folded_directory o d c n s ≡ f = same_some e in
        let same : s ≡ f.status = ap (λ (x : Entry). x.status) is in
        record {
          fits = p;
          status_is = q ∙ ap (λ (t : Status). Some t) same;
          entry_is = sym is ∙ ap (entry_of_folded_directory o d c n) same;
          path_is = sym (ap (λ (x : Entry). x.rela_path) is);
        }

module _ (o : WalkOptions) (d : List ℕ) (w : WalkResult) (h : LieIn (at_or_beneath d) w) where
  unfolded-lies : LieIn (at_or_beneath d) (walk_result_of_unfolded_directory d w)
  unfolded-lies =
      record {
        out = all_append (λ (x : Emission). at_or_beneath d (path_of_emission x) ≡ true) w.out (map uncollapsed_emission w.up) h.out (all_map (λ (x : Emission). at_or_beneath d (path_of_emission x) ≡ true) uncollapsed_emission w.up h.up);
        up = tt;
        entered = (prefix-self d, h.entered);
        broken = h.broken;
        asked = h.asked;
        met = h.met;
        folds = h.folds;
      }

  folded-lies : (f : Entry) → f.rela_path ≡ d → LieIn (at_or_beneath d) (walk_result_of_folded_directory o d w f)
  folded-lies f path =
      let q : Entry → Bool = emits_besides_folded_directory o.emit_collapsed f.status in
      let is : at_or_beneath d f.rela_path ≡ true = ap (at_or_beneath d) path ∙ prefix-self d in
      record {
        out = all_append (λ (x : Emission). at_or_beneath d (path_of_emission x) ≡ true) w.out (map (collapsed_emission f.status) (filter q w.up)) h.out
            (all_map (λ (x : Emission). at_or_beneath d (path_of_emission x) ≡ true) (collapsed_emission f.status) (filter q w.up)
            (all_filter (λ (e : Entry). at_or_beneath d e.rela_path ≡ true) q w.up h.up));
        up = (is, tt);
        entered = (prefix-self d, h.entered);
        broken = h.broken;
        asked = h.asked;
        met = h.met;
        folds = (is, h.folds);
      }

pub LieIn-closed : (o : WalkOptions) (ev : PathEvidence) (d : List ℕ) (c : Class) (w : WalkResult) → LieIn (at_or_beneath d) w → LieIn (at_or_beneath d) (walk_result_of_closed_directory o ev d c w)
unfolding walk_result_of_closed_directory
LieIn-closed o ev d c w h = go w.blocks (fold o ev d c (tally_held_entries w.up)) refl
  where
    go : (b : Bool) (f : Option Entry) → fold o ev d c (tally_held_entries w.up) ≡ f → LieIn (at_or_beneath d) (cond b (walk_result_of_unfolded_directory d w) (walk_result_folded_if_some o d w f))
    go true f q = unfolded-lies o d w h
    go false None q = unfolded-lies o d w h
    go false (Some f) q = folded-lies o d w h f (fold-is o ev d c (tally_held_entries w.up) f q).path_is
