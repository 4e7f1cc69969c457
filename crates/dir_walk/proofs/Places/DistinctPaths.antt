-- No path stands twice in a report.
use Rattle.std.proofs.Common.{◌≡◌, ℕ, ◌+◌, ◌≤◌, List, [], Bool, true, false, cond, Option, Some, None, count_by, map, filter, refl, sym, ap, ◌∙◌, arith}
use Rattle.std.specs.Str.{bytes_eq}
use Rattle.std.specs.Cmp.Lexicographic.{same_text}
use Rattle.gitbase_core.specs.Path.{ends_in_slash}
use Rattle.worktree_fs.specs.Naming.{IsValidTree}
use Rattle.worktree_fs.specs.Tree.{Names, directory}
use Rattle.dir_classify.specs.declared.classify.Outcome.{Outcome as Class}
use Rattle.dir_classify.specs.declared.entry.Entry.{Entry}
use Rattle.dir_classify.specs.Chosen.{WalkOptions}
use Rattle.dir_classify.specs.Evidence.{PathEvidence}
use Rattle.dir_walk.specs.Distinct.{HasDistinctPaths}
use Rattle.dir_walk.specs.Emissions.{Emission, is_empty_directory_property, path_of_emission, uncollapsed_emission, is_entry_shown_by_options, collapsed_emission}
use Rattle.dir_walk.specs.Fold.{fold, emits_besides_folded_directory, tally_held_entries}
use Rattle.dir_walk.specs.Report.{emissions_with_handed_up, emissions_shown_by_options}
use Rattle.dir_walk.specs.Walked.{WalkResult, merge_walk_results, walk_result_of_closed_directory, walk_result_of_empty_directory, entry_of_empty_directory, walk_result_folded_if_some, walk_result_of_folded_directory, walk_result_handing_up_leaf, holds_status_for_folding, walk_result_of_leaf_entry, walk_result_emitting_leaf, report_of, walk_result_of_unfolded_directory}
use Rattle.dir_walk.proofs.Places.Beneath.{prefix-self}
use Rattle.dir_walk.proofs.Order.Counts.{count_by-and, count_by-append, count_by-cons, count_by-filter, count_by-map, count_by-map_filter, count-none, one-le}
use Rattle.dir_walk.proofs.Theorems.Induct.{Cases, NoneEmpty, at_report}
use Rattle.dir_walk.proofs.Order.Lists.{all_weaker, refuted}
use Rattle.dir_walk.proofs.Places.Located.{Apart, Inside, LieIn, at_or_beneath, fold-is}

-- how often a path stands
abbrev pub is_at_path : List ℕ → Emission → Bool
is_at_path p x = bytes_eq p (path_of_emission x)

abbrev pub out_at : List ℕ → WalkResult → ℕ
out_at p w = count_by (is_at_path p) w.out

abbrev pub up_at : List ℕ → WalkResult → ℕ
up_at p w = count_by (λ e. bytes_eq p e.rela_path) w.up

-- each path is put out or handed up once at most
pub record StandsOnce (lies : List ℕ → Bool) (w : WalkResult) : Type 0 where
  pub once : (p : List ℕ) → out_at p w + up_at p w ≤ 1

-- nothing stands at a path where nothing lies
none-at : (lies : List ℕ → Bool) (p : List ℕ) (w : WalkResult) → LieIn lies w → lies p ≡ false → out_at p w + up_at p w ≡ 0
none-at lies p w at off =
    omega (
      arith,
      count-none (is_at_path p) w.out (all_weaker (λ (x : Emission). lies (path_of_emission x) ≡ true) (λ (x : Emission). is_at_path p x ≡ false) w.out (λ x is. differs (path_of_emission x) is) at.out),
      count-none (λ (e : Entry). bytes_eq p e.rela_path) w.up (all_weaker (λ (e : Entry). lies e.rela_path ≡ true) (λ (e : Entry). bytes_eq p e.rela_path ≡ false) w.up (λ e is. differs e.rela_path is) at.up),
    )
  where
    differs : (q : List ℕ) → lies q ≡ true → bytes_eq p q ≡ false
    differs q is = refuted (bytes_eq p q) (λ e. sym off ∙ ap lies (same_text p q (sym e)) ∙ is)

module _ (o : WalkOptions) (ev : PathEvidence) where
  leaf-once : (lies : List ℕ → Bool) (e : Entry) → StandsOnce lies (walk_result_of_leaf_entry o e)
  unfolding walk_result_of_leaf_entry
  leaf-once lies e = go (holds_status_for_folding o e.status)
    where
      go : (b : Bool) → StandsOnce lies (cond b (walk_result_handing_up_leaf e) (walk_result_emitting_leaf e))
      go true = record { once = λ p. omega (arith, count_by-cons (λ (x : Entry). bytes_eq p x.rela_path) e [], one-le (bytes_eq p e.rela_path)) }
      go false = record { once = λ p. omega (arith, count_by-cons (is_at_path p) (uncollapsed_emission e) [], one-le (bytes_eq p e.rela_path)) }

  empty-once : (lies : List ℕ → Bool) (d : List ℕ) (c : Class) → StandsOnce lies (walk_result_of_empty_directory o ev d c)
  unfolding walk_result_of_empty_directory
  empty-once lies d c = let h : StandsOnce lies (walk_result_of_leaf_entry o (entry_of_empty_directory ev d c)) = leaf-once lies (entry_of_empty_directory ev d c) in record { once = h.once }

  both-once : (here there lies : List ℕ → Bool) (a b : WalkResult) → Apart here there lies → LieIn here a → LieIn there b → StandsOnce here a → StandsOnce there b → StandsOnce lies (merge_walk_results a b)
  both-once here there lies a b apart at bt left right =
      record { once = λ p. omega (arith, count_by-append (is_at_path p) a.out b.out, count_by-append (λ (e : Entry). bytes_eq p e.rela_path) a.up b.up, go p (here p) (there p) refl refl) }
    where
      go : (p : List ℕ) (h t : Bool) → here p ≡ h → there p ≡ t → (out_at p a + up_at p a) + (out_at p b + up_at p b) ≤ 1
      go p true true h t = absurd (let e : false ≡ true = sym (apart.one p p h t) ∙ prefix-self p in cc e)
      go p true false h t = omega (arith, left.once p, none-at there p b bt t)
      go p false t h u = omega (arith, right.once p, none-at here p a at h)

  closed-once : (below : List ℕ → Bool) (d : List ℕ) (c : Class) (w : WalkResult) → Inside d below → LieIn below w → StandsOnce below w → StandsOnce (at_or_beneath d) (walk_result_of_closed_directory o ev d c w)
  unfolding walk_result_of_closed_directory
  closed-once below d c w inside at h = go w.blocks (fold o ev d c (tally_held_entries w.up)) refl
    where
      plainly : StandsOnce (at_or_beneath d) (walk_result_of_unfolded_directory d w)
      plainly = record { once = λ p. omega (arith, h.once p, count_by-append (is_at_path p) w.out (map uncollapsed_emission w.up), count_by-map (is_at_path p) uncollapsed_emission w.up) }

      not_below : below d ≡ false
      not_below = refuted (below d) (λ e. sym (inside.down d e) ∙ prefix-self d)

      put : (f : Entry) → f.rela_path ≡ d → StandsOnce (at_or_beneath d) (walk_result_of_folded_directory o d w f)
      put f path =
          let q : Entry → Bool = emits_besides_folded_directory o.emit_collapsed f.status in
          record {
            once = λ p. omega (
              arith,
              h.once p,
              count_by-append (is_at_path p) w.out (map (collapsed_emission f.status) (filter q w.up)),
              count_by-map_filter (is_at_path p) (collapsed_emission f.status) q w.up,
              count_by-and q (λ (e : Entry). bytes_eq p e.rela_path) w.up,
              count_by-cons (λ (e : Entry). bytes_eq p e.rela_path) f [],
              room p (bytes_eq p f.rela_path) refl,
            );
          }
        where
          room : (p : List ℕ) (b : Bool) → bytes_eq p f.rela_path ≡ b → cond {A = ℕ} b 1 0 + (out_at p w + up_at p w) ≤ 1
          room p false e = omega (arith, h.once p)
          room p true e = omega (arith, none-at below p w at (ap below (same_text p f.rela_path (sym e) ∙ path) ∙ not_below))

      go : (b : Bool) (f : Option Entry) → fold o ev d c (tally_held_entries w.up) ≡ f → StandsOnce (at_or_beneath d) (cond b (walk_result_of_unfolded_directory d w) (walk_result_folded_if_some o d w f))
      go true f q = plainly
      go false None q = plainly
      go false (Some f) q = put f (fold-is o ev d c (tally_held_entries w.up) f q).path_is

  once : Cases o ev StandsOnce
  once =
      record {
        at_nothing = λ lies. record { once = λ p. omega arith };
        at_broken = λ lies path is. record { once = λ p. omega arith };
        at_asking = λ lies b path w is h. record { once = h.once };
        at_leaf = λ lies e is. leaf-once lies e;
        at_empty = λ lies d c is. empty-once lies d c;
        at_both = λ here there lies a b apart at bt left right. both-once here there lies a b apart at bt left right;
        at_closed = λ below d c w inside own at h. closed-once below d c w inside at h;
      }

  pub report-once : (d : List ℕ) (c : Class) (names : Names) → NoneEmpty ev → ends_in_slash d ≡ false → is_empty_directory_property c.property ≡ false → IsValidTree (directory names)
      → StandsOnce (at_or_beneath d) (report_of o ev d c names)
  report-once d c names clear plain own tree = (at_report o ev StandsOnce once clear d c names plain own tree).1

-- ---- a report

pub distinct-out : (lies : List ℕ → Bool) (w : WalkResult) → StandsOnce lies w → HasDistinctPaths (emissions_with_handed_up w)
distinct-out lies w h =
    record { once = λ p. omega (arith, h.once p, count_by-append (is_at_path p) w.out (map uncollapsed_emission w.up), count_by-map (is_at_path p) uncollapsed_emission w.up) }

pub distinct-shown : (o : WalkOptions) (out : List Emission) → HasDistinctPaths out → HasDistinctPaths (emissions_shown_by_options o out)
distinct-shown o out h =
    record {
      once = λ p.
          let q : Emission → Bool = λ x. is_entry_shown_by_options o x.0 in
          omega (arith, h.once p, count_by-filter (is_at_path p) q out, count_by-and q (is_at_path p) out);
    }
