-- No folded directory is the one that must not go, or lies above it.
use Rattle.std.proofs.Common.{◌≡◌, ℕ, ◌≤◌, List, [], ◌∷◌, ◌++◌, Bool, true, false, cond, not, ◌||◌, ◌&&◌, Option, Some, None, count_by, refl, sym, ap, subst, arith, eqb}
use Rattle.std.specs.List.{AllByRecursion, list_any}
use Rattle.gitbase_core.specs.Path.{ends_in_slash, is_empty, is_prefix_by_whole_components}
use Rattle.worktree_fs.specs.Naming.{IsValidTree}
use Rattle.worktree_fs.specs.Tree.{Names, directory}
use Rattle.dir_classify.specs.declared.classify.Outcome.{Outcome as Class}
use Rattle.dir_classify.specs.declared.entry.Entry.{Entry}
use Rattle.dir_classify.specs.Chosen.{WalkOptions}
use Rattle.dir_classify.specs.Evidence.{PathEvidence, is_protected_current_directory}
use Rattle.dir_walk.specs.declared.tally.Tally.{Tally}
use Rattle.dir_walk.specs.Deleted.{any_fold_loses_protected_directory}
use Rattle.dir_walk.specs.Emissions.{is_empty_directory_property}
use Rattle.dir_walk.specs.Fold.{is_nonzero, fold, is_foldable_by_contents, tally_held_entries}
use Rattle.dir_walk.specs.Walked.{WalkResult, merge_walk_results, walk_result_of_closed_directory, walk_result_of_empty_directory, entry_of_empty_directory, walk_result_folded_if_some, walk_result_of_folded_directory, walk_result_of_leaf_entry, report_of, walk_result_of_unfolded_directory}
use Rattle.dir_walk.proofs.Folding.Closing.{leaf-gives}
use Rattle.dir_walk.proofs.Order.Counts.{count_by-append, count_by-cons, count-none, list_any-count, list_any-none}
use Rattle.dir_walk.proofs.Theorems.Induct.{Cases, NoneEmpty, at_report}
use Rattle.dir_walk.proofs.Order.Lists.{all_append, all_join, all_weaker, and_false, and_left, and_right, neither}
use Rattle.dir_walk.proofs.Places.Located.{Apart, Inside, LieIn, at_or_beneath, fold-is}

-- how often the directory that must not go is entered at or beneath a path
abbrev pub is_lost_at : PathEvidence → List ℕ → List ℕ → Bool
is_lost_at ev p d = is_protected_current_directory ev d && is_prefix_by_whole_components p d

abbrev pub blocked_within : PathEvidence → List ℕ → List (List ℕ) → ℕ
blocked_within ev p entered = count_by (is_lost_at ev p) entered

-- It is entered beneath no folded directory, nor at all where the directory above may fold.
pub record KeepsBlocked (ev : PathEvidence) (lies : List ℕ → Bool) (w : WalkResult) : Type 0 where
  pub none : AllByRecursion (λ (f : Entry). blocked_within ev f.rela_path w.entered ≡ 0) w.folds
  pub free : w.blocks ≡ false → count_by (is_protected_current_directory ev) w.entered ≡ 0

blocked-far : (ev : PathEvidence) (p : List ℕ) (entered : List (List ℕ)) → AllByRecursion (λ (d : List ℕ). is_prefix_by_whole_components p d ≡ false) entered → blocked_within ev p entered ≡ 0
blocked-far ev p entered far =
    count-none (is_lost_at ev p) entered
    (all_weaker (λ (d : List ℕ). is_prefix_by_whole_components p d ≡ false) (λ (d : List ℕ). is_lost_at ev p d ≡ false) entered (λ d h. and_false (is_protected_current_directory ev d) (is_prefix_by_whole_components p d) h) far)

blocked-few : (ev : PathEvidence) (p : List ℕ) (entered : List (List ℕ)) → blocked_within ev p entered ≤ count_by (is_protected_current_directory ev) entered
blocked-few ev p [] = omega arith
blocked-few ev p (d ∷ entered) =
    omega (arith, count_by-cons (is_lost_at ev p) d entered, count_by-cons (is_protected_current_directory ev) d entered, blocked-few ev p entered, go (is_protected_current_directory ev d) (is_prefix_by_whole_components p d))
  where
    go : (a b : Bool) → cond {A = ℕ} (a && b) 1 0 ≤ cond a 1 0
    go true true = omega arith
    go true false = omega arith
    go false b = omega arith

not_blocked : (ev : PathEvidence) (d : List ℕ) (n : Tally) → is_foldable_by_contents ev d n ≡ true → is_protected_current_directory ev d ≡ false
not_blocked ev d n e =
    let a : Bool = not (is_empty d) in
    let b : Bool = not (is_protected_current_directory ev d) in
    let k : Bool = not (is_nonzero n.barring) in
    let j : Bool = not (is_nonzero n.picked) || eqb n.picked n.all in
    off (is_protected_current_directory ev d) (and_right a b (and_left (a && b) k (and_left (a && b && k) j (and_left (a && b && k && j) (ev.covers d) e))))
  where
    off : (b : Bool) → not b ≡ true → b ≡ false
    off true e = absurd (cc e)
    off false e = refl

module _ (o : WalkOptions) (ev : PathEvidence) where
  leaf-keeps : (lies : List ℕ → Bool) (e : Entry) → KeepsBlocked ev lies (walk_result_of_leaf_entry o e)
  leaf-keeps lies e =
      let gives = leaf-gives o e in
      record {
        none = subst (λ (fs : List Entry). AllByRecursion (λ (f : Entry). blocked_within ev f.rela_path (walk_result_of_leaf_entry o e).entered ≡ 0) fs) (sym gives.folds) tt;
        free = λ b. ap (λ (ds : List (List ℕ)). count_by (is_protected_current_directory ev) ds) gives.entered;
      }

  empty-keeps : (lies : List ℕ → Bool) (d : List ℕ) (c : Class) → KeepsBlocked ev lies (walk_result_of_empty_directory o ev d c)
  unfolding walk_result_of_empty_directory
  empty-keeps lies d c =
      let gives = leaf-gives o (entry_of_empty_directory ev d c) in
      record {
        none = subst (λ (fs : List Entry). AllByRecursion (λ (f : Entry). blocked_within ev f.rela_path (d ∷ []) ≡ 0) fs) (sym gives.folds) tt;
        free = λ b. omega (arith, count_by-cons (is_protected_current_directory ev) d [], ap {B = ℕ} (λ (x : Bool). cond x 1 0) b);
      }

  both-keeps : (here there lies : List ℕ → Bool) (a b : WalkResult) → Apart here there lies → LieIn here a → LieIn there b → KeepsBlocked ev here a → KeepsBlocked ev there b
      → KeepsBlocked ev lies (merge_walk_results a b)
  both-keeps here there lies a b apart at bt left right =
      record {
        none = all_append (λ (f : Entry). blocked_within ev f.rela_path (a.entered ++ b.entered) ≡ 0) a.folds b.folds
            (all_join (λ (f : Entry). here f.rela_path ≡ true) (λ (f : Entry). blocked_within ev f.rela_path a.entered ≡ 0) (λ (f : Entry). blocked_within ev f.rela_path (a.entered ++ b.entered) ≡ 0) a.folds
            (λ f is h. omega (arith, h, count_by-append (is_lost_at ev f.rela_path) a.entered b.entered, far_there f.rela_path is)) at.folds left.none)
            (all_join (λ (f : Entry). there f.rela_path ≡ true) (λ (f : Entry). blocked_within ev f.rela_path b.entered ≡ 0) (λ (f : Entry). blocked_within ev f.rela_path (a.entered ++ b.entered) ≡ 0) b.folds
            (λ f is h. omega (arith, h, count_by-append (is_lost_at ev f.rela_path) a.entered b.entered, far_here f.rela_path is)) bt.folds right.none);
        free = λ e.
            let each = neither a.blocks b.blocks e in
            omega (arith, count_by-append (is_protected_current_directory ev) a.entered b.entered, left.free each.0, right.free each.1);
      }
    where
      far_there : (p : List ℕ) → here p ≡ true → blocked_within ev p b.entered ≡ 0
      far_there p is = blocked-far ev p b.entered (all_weaker (λ (d : List ℕ). there d ≡ true) (λ (d : List ℕ). is_prefix_by_whole_components p d ≡ false) b.entered (λ d k. apart.one p d is k) bt.entered)

      far_here : (p : List ℕ) → there p ≡ true → blocked_within ev p a.entered ≡ 0
      far_here p is = blocked-far ev p a.entered (all_weaker (λ (d : List ℕ). here d ≡ true) (λ (d : List ℕ). is_prefix_by_whole_components p d ≡ false) a.entered (λ d k. apart.other p d is k) at.entered)

  module _ (below : List ℕ → Bool) (d : List ℕ) (c : Class) (w : WalkResult) (inside : Inside d below) (at : LieIn below w) (h : KeepsBlocked ev below w) where
    -- the directory itself lies in none of the folded ones below it
    none-with : AllByRecursion (λ (f : Entry). blocked_within ev f.rela_path (d ∷ w.entered) ≡ 0) w.folds
    none-with =
        all_join (λ (f : Entry). below f.rela_path ≡ true) (λ (f : Entry). blocked_within ev f.rela_path w.entered ≡ 0) (λ (f : Entry). blocked_within ev f.rela_path (d ∷ w.entered) ≡ 0) w.folds
        (λ f is k. omega (
          arith,
          k,
          count_by-cons (is_lost_at ev f.rela_path) d w.entered,
          ap {B = ℕ} (λ (b : Bool). cond b 1 0) (and_false (is_protected_current_directory ev d) (is_prefix_by_whole_components f.rela_path d) (inside.down f.rela_path is)),
        )) at.folds h.none

    unfolded-keeps : KeepsBlocked ev (at_or_beneath d) (walk_result_of_unfolded_directory d w)
    unfolded-keeps = record { none = none-with; free = λ b. absurd (cc b) }

    folded-keeps : (f : Entry) → is_protected_current_directory ev d ≡ false → w.blocks ≡ false → KeepsBlocked ev (at_or_beneath d) (walk_result_of_folded_directory o d w f)
    folded-keeps f unblocked free =
        let quiet : count_by (is_protected_current_directory ev) (d ∷ w.entered) ≡ 0 =
        omega (arith, count_by-cons (is_protected_current_directory ev) d w.entered, h.free free, ap {B = ℕ} (λ (b : Bool). cond b 1 0) unblocked) in
        record { none = (omega (arith, blocked-few ev f.rela_path (d ∷ w.entered), quiet), none-with); free = λ b. quiet }

    closed-keeps : KeepsBlocked ev (at_or_beneath d) (walk_result_of_closed_directory o ev d c w)
    unfolding walk_result_of_closed_directory
    closed-keeps = go w.blocks (fold o ev d c (tally_held_entries w.up)) refl refl
      where
        go : (b : Bool) (f : Option Entry) → w.blocks ≡ b → fold o ev d c (tally_held_entries w.up) ≡ f → KeepsBlocked ev (at_or_beneath d) (cond b (walk_result_of_unfolded_directory d w) (walk_result_folded_if_some o d w f))
        go true f p q = unfolded-keeps
        go false None p q = unfolded-keeps
        go false (Some f) p q = folded-keeps f (not_blocked ev d (tally_held_entries w.up) (fold-is o ev d c (tally_held_entries w.up) f q).fits) p

  keeps : Cases o ev (KeepsBlocked ev)
  keeps =
      record {
        at_nothing = λ lies. record { none = tt; free = λ b. refl };
        at_broken = λ lies path is. record { none = tt; free = λ b. refl };
        at_asking = λ lies b path w is h. record { none = h.none; free = h.free };
        at_leaf = λ lies e is. leaf-keeps lies e;
        at_empty = λ lies d c is. empty-keeps lies d c;
        at_both = λ here there lies a b apart at bt left right. both-keeps here there lies a b apart at bt left right;
        at_closed = λ below d c w inside own at h. closed-keeps below d c w inside at h;
      }

  pub report-keeps_blocked : (d : List ℕ) (c : Class) (names : Names) → NoneEmpty ev → ends_in_slash d ≡ false → is_empty_directory_property c.property ≡ false → IsValidTree (directory names)
      → KeepsBlocked ev (at_or_beneath d) (report_of o ev d c names)
  report-keeps_blocked d c names clear plain own tree = (at_report o ev (KeepsBlocked ev) keeps clear d c names plain own tree).1

-- ---- a report

pub keeps-blocked : (ev : PathEvidence) (lies : List ℕ → Bool) (w : WalkResult) → KeepsBlocked ev lies w → any_fold_loses_protected_directory ev w.folds w.entered ≡ false
keeps-blocked ev lies w h =
    let lost : Entry → Bool = λ f. list_any (λ d. is_protected_current_directory ev d && is_prefix_by_whole_components f.rela_path d) w.entered in
    list_any-none lost w.folds
    (all_weaker (λ (f : Entry). blocked_within ev f.rela_path w.entered ≡ 0) (λ (f : Entry). lost f ≡ false) w.folds (λ f k. list_any-count (is_lost_at ev f.rela_path) w.entered k) h.none)
