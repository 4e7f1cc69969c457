-- What is emitted besides a folded directory lies beneath one, of that status.
use Rattle.std.proofs.Common.{◌≡◌, ℕ, List, [], ◌∷◌, ◌++◌, Bool, true, false, cond, ◌&&◌, Option, Some, None, map, filter, refl, ap, ◌∙◌}
use Rattle.std.specs.List.{AllByRecursion, list_all}
use Rattle.gitbase_core.specs.Path.{ends_in_slash, is_beneath_directory}
use Rattle.glob_rules.specs.declared.ignore.Kind.TheVariants.{Expendable, Precious}
use Rattle.worktree_fs.specs.Naming.{IsValidTree}
use Rattle.worktree_fs.specs.Tree.{Names, directory}
use Rattle.dir_classify.specs.declared.classify.Outcome.{Outcome as Class}
use Rattle.dir_classify.specs.declared.entry.Entry.{Entry}
use Rattle.dir_classify.specs.declared.entry.Status.{Status}
use Rattle.dir_classify.specs.declared.entry.Status.TheVariants.{Pruned, Tracked, Ignored, Untracked}
use Rattle.dir_classify.specs.Chosen.{WalkOptions}
use Rattle.dir_classify.specs.Evidence.{PathEvidence}
use Rattle.dir_walk.specs.Collapsed.{all_have_fold_of_their_status, has_fold_of_its_status}
use Rattle.dir_walk.specs.Emissions.{Emission, is_empty_directory_property, path_of_emission, uncollapsed_emission, is_entry_shown_by_options, collapsed_emission}
use Rattle.dir_walk.specs.Fold.{fold, equals_status, emits_besides_folded_directory, tally_held_entries}
use Rattle.dir_walk.specs.Report.{emissions_with_handed_up, emissions_shown_by_options}
use Rattle.dir_walk.specs.Walked.{WalkResult, merge_walk_results, walk_result_of_closed_directory, walk_result_of_empty_directory, entry_of_empty_directory, walk_result_folded_if_some, walk_result_of_folded_directory, walk_result_handing_up_leaf, holds_status_for_folding, walk_result_of_leaf_entry, walk_result_emitting_leaf, report_of, walk_result_of_unfolded_directory}
use Rattle.dir_walk.proofs.Places.Beneath.{strictly-beneath}
use Rattle.dir_walk.proofs.Order.Counts.{list_any-left, list_any-right}
use Rattle.dir_walk.proofs.Theorems.Induct.{Cases, NoneEmpty, at_report}
use Rattle.dir_walk.proofs.Order.Lists.{all_append, all_filter, all_map, all_weaker, and_both, or_left}
use Rattle.dir_walk.proofs.Places.Located.{Inside, LieIn, at_or_beneath, fold-is}

pub record Accounts (lies : List ℕ → Bool) (w : WalkResult) : Type 0 where
  pub out : AllByRecursion (λ (x : Emission). has_fold_of_its_status w.folds x.1 x ≡ true) w.out

-- more folded directories do no harm
accounted-left : (a b : List Entry) (x : Emission) (s : Option Status) → has_fold_of_its_status a s x ≡ true → has_fold_of_its_status (a ++ b) s x ≡ true
accounted-left a b x None h = refl
accounted-left a b x (Some s) h = list_any-left (λ f. is_beneath_directory f.rela_path (path_of_emission x) && equals_status f.status s) a b h

accounted-right : (a b : List Entry) (x : Emission) (s : Option Status) → has_fold_of_its_status b s x ≡ true → has_fold_of_its_status (a ++ b) s x ≡ true
accounted-right a b x None h = refl
accounted-right a b x (Some s) h = list_any-right (λ f. is_beneath_directory f.rela_path (path_of_emission x) && equals_status f.status s) a b h

same_status-self : (s : Status) → equals_status s s ≡ true
same_status-self Pruned = refl
same_status-self Tracked = refl
same_status-self (Ignored Expendable) = refl
same_status-self (Ignored Precious) = refl
same_status-self Untracked = refl

module _ (o : WalkOptions) (ev : PathEvidence) where
  leaf-accounts : (lies : List ℕ → Bool) (e : Entry) → Accounts lies (walk_result_of_leaf_entry o e)
  unfolding walk_result_of_leaf_entry
  leaf-accounts lies e = go (holds_status_for_folding o e.status)
    where
      go : (b : Bool) → Accounts lies (cond b (walk_result_handing_up_leaf e) (walk_result_emitting_leaf e))
      go true = record { out = tt }
      go false = record { out = (refl, tt) }

  empty-accounts : (lies : List ℕ → Bool) (d : List ℕ) (c : Class) → Accounts lies (walk_result_of_empty_directory o ev d c)
  unfolding walk_result_of_empty_directory
  empty-accounts lies d c = let h : Accounts lies (walk_result_of_leaf_entry o (entry_of_empty_directory ev d c)) = leaf-accounts lies (entry_of_empty_directory ev d c) in record { out = h.out }

  both-accounts : (here there lies : List ℕ → Bool) (a b : WalkResult) → Accounts here a → Accounts there b → Accounts lies (merge_walk_results a b)
  both-accounts here there lies a b left right =
      let all : List Entry = a.folds ++ b.folds in
      record {
        out = all_append (λ (x : Emission). has_fold_of_its_status all x.1 x ≡ true) a.out b.out
            (all_weaker (λ (x : Emission). has_fold_of_its_status a.folds x.1 x ≡ true) (λ (x : Emission). has_fold_of_its_status all x.1 x ≡ true) a.out (λ x h. accounted-left a.folds b.folds x x.1 h) left.out)
            (all_weaker (λ (x : Emission). has_fold_of_its_status b.folds x.1 x ≡ true) (λ (x : Emission). has_fold_of_its_status all x.1 x ≡ true) b.out (λ x h. accounted-right a.folds b.folds x x.1 h) right.out);
      }

  closed-accounts : (below : List ℕ → Bool) (d : List ℕ) (c : Class) (w : WalkResult) → Inside d below → LieIn below w → Accounts below w → Accounts (at_or_beneath d) (walk_result_of_closed_directory o ev d c w)
  unfolding walk_result_of_closed_directory
  closed-accounts below d c w inside at h = go w.blocks (fold o ev d c (tally_held_entries w.up)) refl
    where
      plains : (es : List Entry) → AllByRecursion (λ (e : Entry). has_fold_of_its_status w.folds (uncollapsed_emission e).1 (uncollapsed_emission e) ≡ true) es
      plains [] = tt
      plains (e ∷ es) = (refl, plains es)

      plainly : Accounts (at_or_beneath d) (walk_result_of_unfolded_directory d w)
      plainly = record {
        out = all_append (λ (x : Emission). has_fold_of_its_status w.folds x.1 x ≡ true) w.out (map uncollapsed_emission w.up) h.out (all_map (λ (x : Emission). has_fold_of_its_status w.folds x.1 x ≡ true) uncollapsed_emission w.up (plains w.up));
      }

      put : (f : Entry) → f.rela_path ≡ d → Accounts (at_or_beneath d) (walk_result_of_folded_directory o d w f)
      put f path =
          let q : Entry → Bool = emits_besides_folded_directory o.emit_collapsed f.status in
          let all : List Entry = f ∷ w.folds in
          record {
            out = all_append (λ (x : Emission). has_fold_of_its_status all x.1 x ≡ true) w.out (map (collapsed_emission f.status) (filter q w.up))
                (all_weaker (λ (x : Emission). has_fold_of_its_status w.folds x.1 x ≡ true) (λ (x : Emission). has_fold_of_its_status all x.1 x ≡ true) w.out (λ x k. accounted-right (f ∷ []) w.folds x x.1 k) h.out)
                (all_map (λ (x : Emission). has_fold_of_its_status all x.1 x ≡ true) (collapsed_emission f.status) (filter q w.up)
                (all_filter (λ (e : Entry). has_fold_of_its_status all (Some f.status) (collapsed_emission f.status e) ≡ true) q w.up
                (all_weaker (λ (e : Entry). below e.rela_path ≡ true) (λ (e : Entry). has_fold_of_its_status all (Some f.status) (collapsed_emission f.status e) ≡ true) w.up (λ e is. first e is) at.up)));
          }
        where
          first : (e : Entry) → below e.rela_path ≡ true → has_fold_of_its_status (f ∷ w.folds) (Some f.status) (collapsed_emission f.status e) ≡ true
          first e is =
              let beneath : is_beneath_directory f.rela_path e.rela_path ≡ true =
              ap (λ (p : List ℕ). is_beneath_directory p e.rela_path) path ∙ strictly-beneath d e.rela_path (inside.up e.rela_path is) (inside.down e.rela_path is) in
              or_left (is_beneath_directory f.rela_path e.rela_path && equals_status f.status f.status) _ (and_both (is_beneath_directory f.rela_path e.rela_path) _ beneath (same_status-self f.status))

      go : (b : Bool) (f : Option Entry) → fold o ev d c (tally_held_entries w.up) ≡ f → Accounts (at_or_beneath d) (cond b (walk_result_of_unfolded_directory d w) (walk_result_folded_if_some o d w f))
      go true f q = plainly
      go false None q = plainly
      go false (Some f) q = put f (fold-is o ev d c (tally_held_entries w.up) f q).path_is

  accounts : Cases o ev Accounts
  accounts =
      record {
        at_nothing = λ lies. record { out = tt };
        at_broken = λ lies path is. record { out = tt };
        at_asking = λ lies b path w is h. record { out = h.out };
        at_leaf = λ lies e is. leaf-accounts lies e;
        at_empty = λ lies d c is. empty-accounts lies d c;
        at_both = λ here there lies a b apart at bt left right. both-accounts here there lies a b left right;
        at_closed = λ below d c w inside own at h. closed-accounts below d c w inside at h;
      }

  pub report-accounts : (d : List ℕ) (c : Class) (names : Names) → NoneEmpty ev → ends_in_slash d ≡ false → is_empty_directory_property c.property ≡ false → IsValidTree (directory names)
      → Accounts (at_or_beneath d) (report_of o ev d c names)
  report-accounts d c names clear plain own tree = (at_report o ev Accounts accounts clear d c names plain own tree).1

-- ---- a report

all-test : {X : Type 0} (p : X → Bool) (xs : List X) → AllByRecursion (λ x. p x ≡ true) xs → list_all p xs ≡ true
all-test p [] h = refl
all-test p (x ∷ xs) h = rw (h.0, all-test p xs h.1) refl

-- each entry that is shown is accounted for
pub accounts-shown : (o : WalkOptions) (lies : List ℕ → Bool) (w : WalkResult) → Accounts lies w → all_have_fold_of_their_status w.folds (emissions_shown_by_options o (emissions_with_handed_up w)) ≡ true
accounts-shown o lies w h =
    all-test (λ x. has_fold_of_its_status w.folds x.1 x) (emissions_shown_by_options o (emissions_with_handed_up w))
    (all_filter (λ (x : Emission). has_fold_of_its_status w.folds x.1 x ≡ true) (λ x. is_entry_shown_by_options o x.0) (emissions_with_handed_up w)
    (all_append (λ (x : Emission). has_fold_of_its_status w.folds x.1 x ≡ true) w.out (map uncollapsed_emission w.up) h.out
    (all_map (λ (x : Emission). has_fold_of_its_status w.folds x.1 x ≡ true) uncollapsed_emission w.up (plains w.up))))
  where
    plains : (es : List Entry) → AllByRecursion (λ (e : Entry). has_fold_of_its_status w.folds (uncollapsed_emission e).1 (uncollapsed_emission e) ≡ true) es
    plains [] = tt
    plains (e ∷ es) = (refl, plains es)
